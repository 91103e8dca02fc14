-- The words of options tell which options they are.
use Rattle.std.proofs.Common.{◌≡◌, refl, sym, ap, ◌∙◌, subst, ℕ, ◌+◌, ◌≤◌, ◌<◌, ◌^◌, true, false, Some, None, List, [], ◌∷◌, ◌++◌, append_assoc, length, drop, decimal, arith, inl, inr}
use Rattle.std.specs.Prelude.{slice_get}
use Rattle.std.proofs.lemmas.List.{append-nil}
use Rattle.std.proofs.lemmas.Bool.{cases_Bool}
use Rattle.std.proofs.lemmas.Option.{slice_get_cases}
use Rattle.std.proofs.lemmas.Fmt.{decimal_injective}
use Rattle.std.proofs.Math.ListN.{drop_of_length-le}
use Rattle.command_words.specs.Reading.{IsFirstBad, IsBadFrom, IsNumberAt}
use Rattle.command_words.proofs.FirstBad.{drop-at, bad-first, bad-none, bad-behind}
use Rattle.command_words.specs.declared.play_words.options.Name.{Name}
use Rattle.command_words.specs.declared.play_words.options.Name.TheVariants as An
use Rattle.command_words.specs.declared.play_words.options.Setting.{Setting}
use Rattle.command_words.specs.PlayWords.Words.{text_of, takes_number, least_of, most_of, number_words_of, option_words, number_of, AreFit, IsWithin}
use Rattle.command_words.specs.PlayWords.Reading.{MayFollow, HasRead}
use Rattle.command_words.proofs.PlayWords.NameLemmas.{text-once, fit-at, fit-more}

-- words that begin with a word and are options: the first is named by it
pub record IsBegun (settings : List Setting) (w : List ℕ) (more : List (List ℕ)) : Type 0 where
  pub first : Setting
  pub rest : List Setting
  pub settings_are : settings ≡ first ∷ rest
  pub word_is : w ≡ text_of first.name
  pub more_are : more ≡ number_words_of first ++ option_words rest

pub begun : (settings : List Setting) (w : List ℕ) (more : List (List ℕ)) → w ∷ more ≡ option_words settings → IsBegun settings w more
begun [] w more e = absurd (cc e)
begun (s ∷ rest) w more e = record { first = s; rest = rest; settings_are = refl; word_is = cc e; more_are = cc e }

most-small : (name : Name) → most_of name < 2 ^ 64
most-small An.Seed = omega arith
most-small An.Steps = omega arith
most-small An.From = omega arith
most-small An.To = omega arith
most-small An.Counts = omega arith

small : (s : Setting) → IsWithin s → s.number < 2 ^ 64
small s w = let m = most-small s.name in omega (arith, m, w.few)

-- where it takes no number, 0 stands for it
none-taken : (name : Name) → takes_number name ≡ false → most_of name ≡ 0
none-taken An.Seed e = absurd (cc e)
none-taken An.Steps e = absurd (cc e)
none-taken An.From e = absurd (cc e)
none-taken An.To e = absurd (cc e)
none-taken An.Counts e = refl

taken-words : (s : Setting) → takes_number s.name ≡ true → number_words_of s ≡ decimal s.number ∷ []
taken-words s e = rw e refl

no-words : (s : Setting) → takes_number s.name ≡ false → number_words_of s ≡ []
no-words s e = rw e refl

abbrev made : Name → ℕ → Setting
made name number = record { name = name; number = number }

setting-of : (a b : Setting) → a.name ≡ b.name → a.number ≡ b.number → a ≡ b
setting-of a b e f =
    let p : a ≡ made b.name a.number = ap (λ (n : Name). made n a.number) e in
    p ∙ ap (λ (n : ℕ). made b.name n) f

-- two options of one name, and the words behind it, are the same
same-setting : (a b : Setting) (x y : List (List ℕ)) → IsWithin a → IsWithin b → a.name ≡ b.name → number_words_of a ++ x ≡ number_words_of b ++ y → (a ≡ b) × (x ≡ y)
same-setting a b x y v w named e = elim (cases_Bool (takes_number a.name)) [
  | inl t ↦
      let u : takes_number b.name ≡ true = subst (λ n. takes_number n ≡ true) named t in
      let f : decimal a.number ∷ x ≡ decimal b.number ∷ y = sym (ap (λ (l : List (List ℕ)). l ++ x) (taken-words a t)) ∙ (e ∙ ap (λ (l : List (List ℕ)). l ++ y) (taken-words b u)) in
      let d : decimal a.number ≡ decimal b.number = cc f in
      (setting-of a b named (decimal_injective a.number b.number (small a v) (small b w) d), cc f)
  | inr t ↦
      let u : takes_number b.name ≡ false = subst (λ n. takes_number n ≡ false) named t in
      let f : x ≡ y = sym (ap (λ (l : List (List ℕ)). l ++ x) (no-words a t)) ∙ (e ∙ ap (λ (l : List (List ℕ)). l ++ y) (no-words b u)) in
      let m = none-taken a.name t in
      let n = none-taken b.name u in
      let p : a.number ≡ b.number = omega (arith, v.few, w.few, m, n) in
      (setting-of a b named p, f)
]

-- options that begin with the words of others begin with these
pub split : (done settings : List Setting) (more : List (List ℕ)) → AreFit done → AreFit settings → option_words done ++ more ≡ option_words settings
    → (rest : List Setting) × (settings ≡ done ++ rest) × (more ≡ option_words rest)
split [] settings more fit fits e = (settings, refl, e)
split (d ∷ done) settings more fit fits e =
    let flat : option_words (d ∷ done) ++ more ≡ text_of d.name ∷ (number_words_of d ++ (option_words done ++ more))
    = ap (λ (l : List (List ℕ)). text_of d.name ∷ l) (append_assoc (number_words_of d) (option_words done) more) in
    let b = begun settings (text_of d.name) (number_words_of d ++ (option_words done ++ more)) (sym flat ∙ e) in
    let all : AreFit (b.first ∷ b.rest) = subst (λ ss. AreFit ss) b.settings_are fits in
    let named : d.name ≡ b.first.name = text-once d.name b.first.name b.word_is in
    let s = same-setting d b.first (option_words done ++ more) (option_words b.rest) fit.0 all.0 named b.more_are in
    let r = split done b.rest more fit.2 all.2 s.1 in
    (r.0, b.settings_are ∙ (ap (λ (x : Setting). x ∷ b.rest) (sym s.0) ∙ ap (λ (l : List Setting). d ∷ l) r.1), r.2)

-- the words of options behind others
pub words-append : (done more : List Setting) → option_words (done ++ more) ≡ option_words done ++ option_words more
words-append [] more = refl
words-append (d ∷ done) more =
    ap (λ (l : List (List ℕ)). text_of d.name ∷ (number_words_of d ++ l)) (words-append done more)
    ∙ ap (λ (l : List (List ℕ)). text_of d.name ∷ l) (sym (append_assoc (number_words_of d) (option_words done) (option_words more)))

-- nothing more may follow
pub nothing-more : (done : List Setting) → AreFit done → MayFollow done []
nothing-more done fit = ([], refl, subst (λ ss. AreFit ss) (sym (append-nil done)) fit)

-- a word that names no option, or one that was read
pub bad-name : (done : List Setting) (words : List (List ℕ)) (at : ℕ) (w : List ℕ) → AreFit done → slice_get words at ≡ Some w
    → ((name : Name) → w ≡ text_of name → number_of name done ≡ None → ⊥) → IsBadFrom at (MayFollow done) words at
bad-name done words at w fit first none = (
  0,
  omega arith,
  subst (λ ws. IsFirstBad (MayFollow done) ws 0) (sym (drop-at words at w first))
      (bad-first (MayFollow done) w (drop (at + 1) words) ([], nothing-more done fit)
      (λ more g. let b = begun g.0 w more g.1 in
      let f = fit-at done b.first b.rest (subst (λ ss. AreFit (done ++ ss)) b.settings_are g.2) in
      none b.first.name b.word_is f.1)),
)

-- the same where no word is told
pub bad-unset : (done : List Setting) (words : List (List ℕ)) (at : ℕ) → AreFit done → at < length words
    → ((name : Name) → slice_get words at ≡ Some (text_of name) → number_of name done ≡ None → ⊥) → IsBadFrom at (MayFollow done) words at
bad-unset done words at fit inside none = elim (slice_get_cases words at).1 [
  | inl there ↦ bad-name done words at there.0 fit there.2 (λ name e n. none name (there.2 ∙ ap (λ (x : List ℕ). Some x) e) n)
  | inr past ↦ (let e = past.0 in absurd (omega (arith, e, inside)))
]

-- an option that takes a number, and behind it a word that is none within its limits
module _ (done : List Setting) (words : List (List ℕ)) (at : ℕ) (name : Name) (fit : AreFit done) (first : slice_get words at ≡ Some (text_of name)) (unset : number_of name done ≡ None)
    (takes : takes_number name ≡ true) where
  least-fits : least_of name ≤ most_of name
  least-fits = fits name
    where
      fits : (name : Name) → least_of name ≤ most_of name
      fits An.Seed = omega arith
      fits An.Steps = omega arith
      fits An.From = omega arith
      fits An.To = omega arith
      fits An.Counts = omega arith

  abbrev least : Setting
  least = record { name = name; number = least_of name }

  begun-with : MayFollow done (text_of name ∷ decimal (least_of name) ∷ [])
  begun-with = (
    least ∷ [],
    ap (λ (l : List (List ℕ)). text_of name ∷ (l ++ [])) (sym (taken-words least takes)),
    fit-more done least fit (record { enough = omega arith; few = least-fits }) unset,
  )

  -- the number behind it
  read-number : (w : List ℕ) (more : List (List ℕ)) → MayFollow done (text_of name ∷ w ∷ more) → (n : ℕ) × (w ≡ decimal n) × (least_of name ≤ n) × (n ≤ most_of name)
  read-number w more g =
      let b = begun g.0 (text_of name) (w ∷ more) g.1 in
      let f = fit-at done b.first b.rest (subst (λ ss. AreFit (done ++ ss)) b.settings_are g.2) in
      let same : name ≡ b.first.name = text-once name b.first.name b.word_is in
      let t : takes_number b.first.name ≡ true = subst (λ n. takes_number n ≡ true) same takes in
      let e : w ∷ more ≡ decimal b.first.number ∷ option_words b.rest = b.more_are ∙ ap (λ (l : List (List ℕ)). l ++ option_words b.rest) (taken-words b.first t) in
      (b.first.number, cc e, subst (λ n. least_of n ≤ b.first.number) (sym same) f.0.enough, subst (λ n. b.first.number ≤ most_of n) (sym same) f.0.few)

  alone : MayFollow done (text_of name ∷ []) → ⊥
  alone g =
      let b = begun g.0 (text_of name) [] g.1 in
      let same : name ≡ b.first.name = text-once name b.first.name b.word_is in
      let t : takes_number b.first.name ≡ true = subst (λ n. takes_number n ≡ true) same takes in
      let e : [] ≡ decimal b.first.number ∷ option_words b.rest = b.more_are ∙ ap (λ (l : List (List ℕ)). l ++ option_words b.rest) (taken-words b.first t) in
      absurd (cc e)

  pub bad-number : ((n : ℕ) → IsNumberAt words (at + 1) (least_of name) (most_of name) n → ⊥) → IsBadFrom at (MayFollow done) words (at + 1)
  bad-number bad = (
    1,
    refl,
    elim (slice_get_cases words (at + 1)).1 [
      | inl there ↦
          let stands : drop at words ≡ text_of name ∷ there.0 ∷ drop ((at + 1) + 1) words
          = drop-at words at (text_of name) first ∙ ap (λ (w : List (List ℕ)). text_of name ∷ w) (drop-at words (at + 1) there.0 there.2) in
          subst (λ ws. IsFirstBad (MayFollow done) ws 1) (sym stands)
          (bad-behind (MayFollow done) (text_of name ∷ []) (there.0 ∷ drop ((at + 1) + 1) words) 0 1 refl
          (bad-first (λ ws. MayFollow done (text_of name ∷ ws)) there.0 (drop ((at + 1) + 1) words) (decimal (least_of name) ∷ [], begun-with)
          (λ more g. let n = read-number there.0 more g in
          bad n.0 (record { word = there.2 ∙ ap (λ (x : List ℕ). Some x) n.1; enough = n.2; few = n.3 }))))
      | inr past ↦
          let stands : drop at words ≡ text_of name ∷ []
          = drop-at words at (text_of name) first ∙ ap (λ (w : List (List ℕ)). text_of name ∷ w) (drop_of_length-le words past.0) in
          subst (λ ws. IsFirstBad (MayFollow done) ws 1) (sym stands)
          (bad-behind (MayFollow done) (text_of name ∷ []) [] 0 1 refl
          (bad-none (λ ws. MayFollow done (text_of name ∷ ws)) (decimal (least_of name) ∷ [], begun-with) alone))
    ],
  )

  pub number-read : (n : ℕ) → IsNumberAt words (at + 1) (least_of name) (most_of name) n → HasRead done words at (record { name = name; number = n }) (at + 2)
  number-read n is =
      let s : Setting = record { name = name; number = n } in
      let two : (at + 1) + 1 ≡ at + 2 = omega arith in
      let w = taken-words s takes in
      record {
        stands = drop-at words at (text_of name) first ∙ ap (λ (l : List (List ℕ)). text_of name ∷ l)
            (drop-at words (at + 1) (decimal n) is.word ∙ (ap (λ (k : ℕ). decimal n ∷ drop k words) two ∙ sym (ap (λ (l : List (List ℕ)). l ++ drop (at + 2) words) w)));
        next_is = let l = ap length w in omega (arith, l);
        fit = fit-more done s fit (record { enough = is.enough; few = is.few }) unset;
      }

-- an option that takes none
pub flag-read : (done : List Setting) (words : List (List ℕ)) (at : ℕ) (name : Name) → AreFit done → slice_get words at ≡ Some (text_of name) → number_of name done ≡ None
    → takes_number name ≡ false → HasRead done words at (record { name = name; number = 0 }) (at + 1)
flag-read done words at name fit first unset none =
    let s : Setting = record { name = name; number = 0 } in
    let w = no-words s none in
    record {
      stands = drop-at words at (text_of name) first ∙ ap (λ (l : List (List ℕ)). text_of name ∷ l) (sym (ap (λ (l : List (List ℕ)). l ++ drop (at + 1) words) w));
      next_is = let l = ap length w in omega (arith, l);
      fit = fit-more done s fit (record { enough = zero-enough name none; few = omega arith }) unset;
    }
  where
    zero-enough : (name : Name) → takes_number name ≡ false → least_of name ≤ 0
    zero-enough An.Seed e = absurd (cc e)
    zero-enough An.Steps e = absurd (cc e)
    zero-enough An.From e = absurd (cc e)
    zero-enough An.To e = absurd (cc e)
    zero-enough An.Counts e = omega arith
