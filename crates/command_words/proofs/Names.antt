use Rattle.std.proofs.Common.{◌≡◌, ◌↔◌, ℕ, ◌+◌, ◌<◌, ◌≤◌, inl, inr, false, Option, List, [], ◌∷◌, length, drop, codes, refl, sym, ap, ◌∙◌, subst, arith, None, lit<}
use Rattle.std.specs.Prelude.{IfOk, IfErr, Result, Ok, Err}
use Rattle.std.specs.Global.{Global}
use Rattle.std.specs.declared.string.String.{String}
use Rattle.std.proofs.lemmas.List.{length-map}
use Rattle.std.proofs.Math.ListN.{drop_of_length-le}
use Rattle.std.proofs.lemmas.Option.{slice_get_cases, slice_get_within}
use Rattle.command_words.specs.declared.command.Options.{Options}
use Rattle.command_words.specs.declared.command.Schedule.{Schedule}
use Rattle.command_words.specs.Options.{no_more, IsLimit, unlimited}
use Rattle.command_words.specs.Words.{IsName, texts_of}
use Rattle.command_words.specs.Reading.{IsFirstBad, IsBadFrom, IsOneName, IsNameAt, AreNamed, IsBadName, Asks, OptionsAre, AsksAlone, MayAskAlone, ScheduleIs, MayBeSchedule}
use Rattle.command_words.proofs.FirstBad.{drop-at, bad-first, bad-none, bad-behind, bad-also}

-- some word that may name a text
pub a-name : IsName (codes "a")
a-name = record { filled = lit< tt; plain = λ p. let e = p.1 in cc }

-- a word at a place where a name was to stand
no-name : (Good : List (List ℕ) → Type 0) (words : List (List ℕ)) (at : ℕ) → (more : List (List ℕ)) × Good more → ((w : List ℕ) (more : List (List ℕ)) → Good (w ∷ more) → IsName w)
    → (Good [] → ⊥) → (IsNameAt words at → ⊥) → IsFirstBad Good (drop at words) 0
no-name Good words at begun names some bad = elim (slice_get_cases words at).1 [
  | inl there ↦
      subst (λ ws. IsFirstBad Good ws 0) (sym (drop-at words at there.0 there.2))
      (bad-first Good there.0 (drop (at + 1) words) begun (λ more g. bad (there.0, there.2, names there.0 more g)))
  | inr past ↦ subst (λ ws. IsFirstBad Good ws 0) (sym (drop_of_length-le words past.0)) (bad-none Good begun some)
]

-- one name

pub bad-desc : (words : List (List ℕ)) → (IsNameAt words 1 → ⊥) → IsBadFrom 1 IsOneName words 1
bad-desc words bad =
    (0, refl, no-name IsOneName words 1 (codes "a" ∷ [], (codes "a", refl, a-name)) (λ w more g. let e : g.0 ≡ w = (let f = g.1 in cc) in subst (λ x. IsName x) e g.2) (λ g. let f = g.1 in cc) bad)

pub bad-more : (words : List (List ℕ)) → IsNameAt words 1 → 2 < length words → IsBadFrom 1 IsOneName words 2
bad-more words named more = elim (slice_get_cases words 2).1 [
  | inl there ↦
      let stands : drop 1 words ≡ named.0 ∷ there.0 ∷ drop 3 words = drop-at words 1 named.0 named.1 ∙ ap (λ (w : List (List ℕ)). named.0 ∷ w) (drop-at words 2 there.0 there.2) in (
        1,
        refl,
        subst (λ ws. IsFirstBad IsOneName ws 1) (sym stands)
            (bad-behind IsOneName (named.0 ∷ []) (there.0 ∷ drop 3 words) 0 1 refl
            (bad-first (λ ws. IsOneName (named.0 ∷ ws)) there.0 (drop 3 words) ([], (named.0, refl, named.2)) (λ more g. let f = g.1 in cc))),
      )
  | inr past ↦ absurd (let e = past.0 in omega arith)
]

pub one-name : (words : List (List ℕ)) → IsNameAt words 1 → length words ≤ 2 → IsOneName (drop 1 words)
one-name words named few = (named.0, drop-at words 1 named.0 named.1 ∙ ap (λ (w : List (List ℕ)). named.0 ∷ w) (drop_of_length-le words few), named.2)

-- two names, and words behind them that set something

module _ {T : Type 0} (Sets : List (List ℕ) → T → Type 0) (begun : (t : T) × Sets [] t) where
  abbrev pub MayAsk : List (List ℕ) → Type 0
  MayAsk words = (t : T) × Asks Sets words t

  asks : (desc trace : List ℕ) (more : List (List ℕ)) (t : T) → IsName desc → IsName trace → Sets more t → Asks Sets (desc ∷ trace ∷ more) t
  asks desc trace more t d e s = record { desc = desc; trace = trace; more = more; words_are = refl; desc_named = d; trace_named = e; sets = s }

  bad-first-name : (words : List (List ℕ)) → (IsNameAt words 1 → ⊥) → IsBadFrom 1 MayAsk words 1
  bad-first-name words bad = (
    0,
    refl,
    no-name MayAsk words 1
        (codes "a" ∷ codes "a" ∷ [], (begun.0, asks (codes "a") (codes "a") [] begun.0 a-name a-name begun.1))
        (λ w more g. let e : g.1.desc ≡ w = (let f = g.1.words_are in cc) in subst (λ x. IsName x) e g.1.desc_named)
        (λ g. let f = g.1.words_are in cc) bad,
  )

  bad-second-name : (words : List (List ℕ)) → IsNameAt words 1 → (IsNameAt words 2 → ⊥) → IsBadFrom 1 MayAsk words 2
  bad-second-name words named bad = (
    1,
    refl,
    subst (λ ws. IsFirstBad MayAsk ws 1) (sym (drop-at words 1 named.0 named.1))
        (bad-behind MayAsk (named.0 ∷ []) (drop 2 words) 0 1 refl
        (no-name (λ ws. MayAsk (named.0 ∷ ws)) words 2
        (codes "a" ∷ [], (begun.0, asks named.0 (codes "a") [] begun.0 named.2 a-name begun.1))
        (λ w more g. let e : g.1.trace ≡ w = (let f = g.1.words_are in cc) in subst (λ x. IsName x) e g.1.trace_named)
        (λ g. let f = g.1.words_are in cc) bad)),
  )

  -- the first of both names that is none
  pub bad-names : (words : List (List ℕ)) (k : ℕ) → IsBadName words k → IsBadFrom 1 MayAsk words k
  bad-names words k (inl b) = subst (λ n. IsBadFrom 1 MayAsk words n) (sym b.0) (bad-first-name words b.1)
  bad-names words k (inr b) = subst (λ n. IsBadFrom 1 MayAsk words n) (sym b.0) (bad-second-name words b.1 b.2)

  module _ (words : List (List ℕ)) (named : AreNamed words) where
    stands : drop 1 words ≡ named.0.0 ∷ named.1.0 ∷ drop 3 words
    stands = drop-at words 1 named.0.0 named.0.1 ∙ ap (λ (w : List (List ℕ)). named.0.0 ∷ w) (drop-at words 2 named.1.0 named.1.1)

    pub asked : (t : T) → Sets (drop 3 words) t → Asks Sets (drop 1 words) t
    asked t s = record { desc = named.0.0; trace = named.1.0; more = drop 3 words; words_are = stands; desc_named = named.0.2; trace_named = named.1.2; sets = s }

    behind-names : (more : List (List ℕ)) → ((t : T) × Sets more t) ↔ MayAsk (named.0.0 ∷ named.1.0 ∷ more)
    behind-names more = (
      (λ o. (o.0, asks named.0.0 named.1.0 more o.0 named.0.2 named.1.2 o.1)),
      (λ g. let e : g.1.more ≡ more = (let f = g.1.words_are in cc) in (g.0, subst (λ ws. Sets ws g.0) e g.1.sets)),
    )

    pub bad-behind-names : (k : ℕ) → IsBadFrom 3 (λ ws. (t : T) × Sets ws t) words k → IsBadFrom 1 MayAsk words k
    bad-behind-names k b = (
      2 + b.0,
      (let e = b.1 in omega arith),
      subst (λ ws. IsFirstBad MayAsk ws (2 + b.0)) (sym stands)
          (bad-behind MayAsk (named.0.0 ∷ named.1.0 ∷ []) (drop 3 words) b.0 (2 + b.0) refl
          (bad-also (λ ws. (t : T) × Sets ws t) (λ ws. MayAsk (named.0.0 ∷ named.1.0 ∷ ws)) behind-names (drop 3 words) b.0 b.2)),
    )

    pub ok-asked : (r : Result T ℕ) → IfOk r (Sets (drop 3 words)) → IfOk r (Asks Sets (drop 1 words))
    ok-asked (Ok t) s = asked t s
    ok-asked (Err k) s = tt

    pub err-asked : (r : Result T ℕ) → IfErr r (IsBadFrom 3 (λ ws. (t : T) × Sets ws t) words) → IfErr r (IsBadFrom 1 MayAsk words)
    err-asked (Ok t) b = tt
    err-asked (Err k) b = bad-behind-names k b

-- what begins both
pub no-options : (options : Options) × OptionsAre [] options
no-options = (record { seed = 0; steps = None; journal = false }, (None, no_more, refl))

pub no-limit : (steps : Option ℕ) × IsLimit [] steps
no-limit = (None, unlimited)

-- a trace that is named is word 2
pub three-words : (words : List (String Global)) → IsNameAt (texts_of words) 2 → 3 ≤ length words
three-words words named =
    let lt = slice_get_within (texts_of words) 2 named.0 named.1 in
    let l : length (texts_of words) ≡ length words = simp length-map refl in
    omega arith

-- one name, and a schedule behind it

no-schedule : ScheduleIs [] (record { seed = 0; steps = None })
no-schedule = (None, no_more, refl)

alone : (trace : List ℕ) (more : List (List ℕ)) (d : Schedule) → IsName trace → ScheduleIs more d → AsksAlone (trace ∷ more) d
alone trace more d named s = record { trace = trace; more = more; words_are = refl; trace_named = named; sets = s }

pub bad-text : (words : List (List ℕ)) → (IsNameAt words 1 → ⊥) → IsBadFrom 1 MayAskAlone words 1
bad-text words bad = (
  0,
  refl,
  no-name MayAskAlone words 1 (codes "a" ∷ [], (record { seed = 0; steps = None }, alone (codes "a") [] (record { seed = 0; steps = None }) a-name no-schedule))
      (λ w more g. let e : g.1.trace ≡ w = (let f = g.1.words_are in cc) in subst (λ x. IsName x) e g.1.trace_named)
      (λ g. let f = g.1.words_are in cc) bad,
)

module _ (words : List (List ℕ)) (named : IsNameAt words 1) where
  text-stands : drop 1 words ≡ named.0 ∷ drop 2 words
  text-stands = drop-at words 1 named.0 named.1

  behind-text : (more : List (List ℕ)) → MayBeSchedule more ↔ MayAskAlone (named.0 ∷ more)
  behind-text more = (
    (λ o. (o.0, alone named.0 more o.0 named.2 o.1)),
    (λ g. let e : g.1.more ≡ more = (let f = g.1.words_are in cc) in (g.0, subst (λ ws. ScheduleIs ws g.0) e g.1.sets)),
  )

  bad-behind-text : (k : ℕ) → IsBadFrom 2 MayBeSchedule words k → IsBadFrom 1 MayAskAlone words k
  bad-behind-text k b = (
    1 + b.0,
    (let e = b.1 in omega arith),
    subst (λ ws. IsFirstBad MayAskAlone ws (1 + b.0)) (sym text-stands)
        (bad-behind MayAskAlone (named.0 ∷ []) (drop 2 words) b.0 (1 + b.0) refl
        (bad-also MayBeSchedule (λ ws. MayAskAlone (named.0 ∷ ws)) behind-text (drop 2 words) b.0 b.2)),
  )

  pub ok-alone : (r : Result Schedule ℕ) → IfOk r (ScheduleIs (drop 2 words)) → IfOk r (AsksAlone (drop 1 words))
  ok-alone (Ok d) s = subst (λ ws. AsksAlone ws d) (sym text-stands) (alone named.0 (drop 2 words) d named.2 s)
  ok-alone (Err k) s = tt

  pub err-alone : (r : Result Schedule ℕ) → IfErr r (IsBadFrom 2 MayBeSchedule words) → IfErr r (IsBadFrom 1 MayAskAlone words)
  err-alone (Ok d) b = tt
  err-alone (Err k) b = bad-behind-text k b

-- a text that is named is word 1
pub two-words : (words : List (String Global)) → IsNameAt (texts_of words) 1 → 2 ≤ length words
two-words words named =
    let lt = slice_get_within (texts_of words) 1 named.0 named.1 in
    let l : length (texts_of words) ≡ length words = simp length-map refl in
    omega arith
