use Rattle.std.proofs.Common.{◌≡◌, ℕ, ◌<◌, ◌≤◌, inl, inr, List, [], ◌∷◌, length, drop, decimal, refl, sym, ap, ◌∙◌, subst, arith, Some}
use Rattle.std.specs.Global.{Global}
use Rattle.std.specs.declared.string.String.{String}
use Rattle.std.proofs.lemmas.List.{length-map}
use Rattle.command_words.specs.Words.{texts_of}
use Rattle.std.proofs.Math.ListN.{drop_of_length-le}
use Rattle.std.proofs.lemmas.Option.{slice_get_cases}
use Rattle.command_words.specs.Reading.{IsFirstBad, IsBadFrom, IsNumberAt, IsTheNumber, IsOneNumber}
use Rattle.command_words.proofs.FirstBad.{drop-at, bad-first, bad-none, bad-behind}

abbrev pub IsNumberThere : List (List ℕ) → ℕ → Type 0
IsNumberThere words n = IsNumberAt words 1 0 18446744073709551615 n

begun : (more : List (List ℕ)) × IsOneNumber more
begun = (decimal 0 ∷ [], (0, (refl, omega arith)))

-- no number stands behind the first word
pub bad-number : (words : List (List ℕ)) → ((n : ℕ) → IsNumberThere words n → ⊥) → IsBadFrom 1 IsOneNumber words 1
bad-number words bad = (
  0,
  refl,
  elim (slice_get_cases words 1).1 [
    | inl there ↦
        subst (λ ws. IsFirstBad IsOneNumber ws 0) (sym (drop-at words 1 there.0 there.2))
        (bad-first IsOneNumber there.0 (drop 2 words) begun (λ more g.
        let f = g.1.0 in
        let e : there.0 ≡ decimal g.0 = cc in
        let small = g.1.1 in
        bad g.0 (record { word = there.2 ∙ ap (λ (w : List ℕ). Some w) e; enough = omega arith; few = omega arith })))
    | inr past ↦ subst (λ ws. IsFirstBad IsOneNumber ws 0) (sym (drop_of_length-le words past.0)) (bad-none IsOneNumber begun (λ g. let f = g.1.0 in cc))
  ],
)

-- more words stand behind the number
pub bad-behind-number : (words : List (List ℕ)) (n : ℕ) → IsNumberThere words n → 2 < length words → IsBadFrom 1 IsOneNumber words 2
bad-behind-number words n number more = elim (slice_get_cases words 2).1 [
  | inl there ↦
      let few = number.few in
      let stands : drop 1 words ≡ decimal n ∷ there.0 ∷ drop 3 words = drop-at words 1 (decimal n) number.word ∙ ap (λ (w : List (List ℕ)). decimal n ∷ w) (drop-at words 2 there.0 there.2) in (
        1,
        refl,
        subst (λ ws. IsFirstBad IsOneNumber ws 1) (sym stands)
            (bad-behind IsOneNumber (decimal n ∷ []) (there.0 ∷ drop 3 words) 0 1 refl
            (bad-first (λ ws. IsOneNumber (decimal n ∷ ws)) there.0 (drop 3 words) ([], (n, (refl, omega arith))) (λ more g. let f = g.1.0 in cc))),
      )
  | inr past ↦ absurd (let e = past.0 in omega arith)
]

-- the number, and nothing behind it
pub one-number : (words : List (List ℕ)) (n : ℕ) → IsNumberThere words n → length words ≤ 2 → IsTheNumber (drop 1 words) n
one-number words n number short =
    let few = number.few in
    (drop-at words 1 (decimal n) number.word ∙ ap (λ (w : List (List ℕ)). decimal n ∷ w) (drop_of_length-le words short), omega arith)

-- how many texts there are where there are so many words
pub more-words : (words : List (String Global)) → 1 < length (texts_of words) → (length words ≡ 2 → ⊥) → 2 < length (texts_of words)
more-words words enough other =
    let l : length (texts_of words) ≡ length words = simp length-map refl in
    omega (arith, l, enough, other)

pub no-more-words : (words : List (String Global)) → length words ≡ 2 → length (texts_of words) ≤ 2
no-more-words words two =
    let l : length (texts_of words) ≡ length words = simp length-map refl in
    omega (arith, l, two)
