use Rattle.std.proofs.Common.{◌≡◌, ℕ, ◌<◌, ◌≤◌, inl, inr, Some, None, List, [], ◌∷◌, length, drop, codes, decimal, refl, sym, ap, ◌∙◌, subst, arith}
use Rattle.std.specs.Prelude.{slice_get}
use Rattle.std.specs.Global.{Global}
use Rattle.std.specs.declared.string.String.{String}
use Rattle.std.proofs.lemmas.List.{length-map}
use Rattle.std.proofs.Math.ListN.{drop_of_length-le}
use Rattle.std.proofs.lemmas.Option.{slice_get_cases}
use Rattle.command_words.specs.Words.{texts_of}
use Rattle.command_words.specs.Options.{IsLimit, unlimited, limited}
use Rattle.command_words.specs.Reading.{IsFirstBad, IsBadFrom, IsNumberAt, MayBeLimit}
use Rattle.command_words.proofs.FirstBad.{drop-at, bad-first, bad-none, bad-behind}
use Rattle.command_words.proofs.Inverted.{of-limit}

-- some limit
a-limit : MayBeLimit (codes "--steps" ∷ decimal 1 ∷ [])
a-limit = (Some 1, limited 1 (omega arith) (omega arith))

-- nothing stands behind the names
pub no-more : (words : List (String Global)) → length words ≡ 3 → IsLimit (drop 3 (texts_of words)) None
no-more words three =
    let l : length (texts_of words) ≡ length words = simp length-map refl in
    let short : length (texts_of words) ≤ 3 = omega (arith, l, three) in
    subst (λ ws. IsLimit ws None) (sym (drop_of_length-le (texts_of words) short)) unlimited

-- another word than the option's name
pub bad-option : (words : List (List ℕ)) (w : List ℕ) → slice_get words 3 ≡ Some w → (w ≡ codes "--steps" → ⊥) → IsBadFrom 3 MayBeLimit words 3
bad-option words w there other = (
  0,
  refl,
  subst (λ ws. IsFirstBad MayBeLimit ws 0) (sym (drop-at words 3 w there))
      (bad-first MayBeLimit w (drop 4 words) ([], (None, unlimited)) (λ more g. let o = of-limit (w ∷ more) g.0 g.1 w more refl in other o.1)),
)

module _ (words : List (List ℕ)) (w : List ℕ) (there : slice_get words 3 ≡ Some w) (named : w ≡ codes "--steps") where
  begins : drop 3 words ≡ codes "--steps" ∷ drop 4 words
  begins = drop-at words 3 w there ∙ ap (λ (x : List ℕ). x ∷ drop 4 words) named

  abbrev Behind : List (List ℕ) → Type 0
  Behind ws = MayBeLimit (codes "--steps" ∷ ws)

  -- no number within the limits stands behind the option's name
  pub bad-number : ((n : ℕ) → IsNumberAt words 4 1 268435456 n → ⊥) → IsBadFrom 3 MayBeLimit words 4
  bad-number bad = (
    1,
    refl,
    subst (λ ws. IsFirstBad MayBeLimit ws 1) (sym begins)
        (bad-behind MayBeLimit (codes "--steps" ∷ []) (drop 4 words) 0 1 refl (elim (slice_get_cases words 4).1 [
          | inl next ↦
              subst (λ ws. IsFirstBad Behind ws 0) (sym (drop-at words 4 next.0 next.2))
              (bad-first Behind next.0 (drop 5 words) (decimal 1 ∷ [], a-limit) (λ more g.
              let o = of-limit (codes "--steps" ∷ next.0 ∷ more) g.0 g.1 (codes "--steps") (next.0 ∷ more) refl in
              let e = o.2 in
              let text : next.0 ≡ decimal o.0 = cc in
              bad o.0 (record { word = next.2 ∙ ap (λ (x : List ℕ). Some x) text; enough = o.3; few = o.4 })))
          | inr past ↦
              subst (λ ws. IsFirstBad Behind ws 0) (sym (drop_of_length-le words past.0))
              (bad-none Behind (decimal 1 ∷ [], a-limit) (λ g.
              let o = of-limit (codes "--steps" ∷ []) g.0 g.1 (codes "--steps") [] refl in
              let e = o.2 in cc))
        ])),
  )

  -- more words stand behind the number
  pub bad-more : (n : ℕ) → IsNumberAt words 4 1 268435456 n → 5 < length words → IsBadFrom 3 MayBeLimit words 5
  bad-more n number more = elim (slice_get_cases words 5).1 [
    | inl next ↦
        let stands : drop 3 words ≡ codes "--steps" ∷ decimal n ∷ next.0 ∷ drop 6 words
        = begins ∙ ap (λ (ws : List (List ℕ)). codes "--steps" ∷ ws) (drop-at words 4 (decimal n) number.word ∙ ap (λ (ws : List (List ℕ)). decimal n ∷ ws) (drop-at words 5 next.0 next.2)) in (
          2,
          refl,
          subst (λ ws. IsFirstBad MayBeLimit ws 2) (sym stands)
              (bad-behind MayBeLimit (codes "--steps" ∷ decimal n ∷ []) (next.0 ∷ drop 6 words) 0 2 refl
              (bad-first (λ ws. MayBeLimit (codes "--steps" ∷ decimal n ∷ ws)) next.0 (drop 6 words) ([], (Some n, limited n number.enough number.few)) (λ more g.
              let o = of-limit (codes "--steps" ∷ decimal n ∷ next.0 ∷ more) g.0 g.1 (codes "--steps") (decimal n ∷ next.0 ∷ more) refl in
              let e = o.2 in cc))),
        )
    | inr past ↦ absurd (let e = past.0 in omega arith)
  ]

  -- the number, and nothing behind it
  pub one-limit : (n : ℕ) → IsNumberAt words 4 1 268435456 n → length words ≤ 5 → IsLimit (drop 3 words) (Some n)
  one-limit n number short =
      let stands : drop 3 words ≡ codes "--steps" ∷ decimal n ∷ []
      = begins ∙ ap (λ (ws : List (List ℕ)). codes "--steps" ∷ ws) (drop-at words 4 (decimal n) number.word ∙ ap (λ (ws : List (List ℕ)). decimal n ∷ ws) (drop_of_length-le words short)) in
      subst (λ ws. IsLimit ws (Some n)) (sym stands) (limited n number.enough number.few)

-- how many texts there are where there are so many words
pub more-words : (words : List (String Global)) → 4 < length (texts_of words) → (length words ≡ 5 → ⊥) → 5 < length (texts_of words)
more-words words enough other =
    let l : length (texts_of words) ≡ length words = simp length-map refl in
    omega (arith, l, enough, other)

pub no-more-words : (words : List (String Global)) → length words ≡ 5 → length (texts_of words) ≤ 5
no-more-words words five =
    let l : length (texts_of words) ≡ length words = simp length-map refl in
    omega (arith, l, five)
