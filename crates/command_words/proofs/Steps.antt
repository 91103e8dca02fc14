use Rattle.std.proofs.Common.{◌≡◌, ◌≢◌, ◌↔◌, ℕ, ◌+◌, ◌<◌, ◌≤◌, ◌^◌, ◌⊎◌, inl, inr, true, false, Bool, Option, Some, None, List, [], ◌∷◌, drop, codes, decimal, refl, sym, ap, ◌∙◌, subst, arith}
use Rattle.std.specs.Prelude.{slice_get}
use Rattle.std.proofs.lemmas.Option.{slice_get_cases}
use Rattle.std.proofs.Math.ListN.{drop_of_length-le}
use Rattle.std.proofs.lemmas.Fmt.{decimal_injective}
use Rattle.command_words.specs.declared.chosen.Name.{Name}
use Rattle.command_words.specs.declared.chosen.Name.TheVariants as An
use Rattle.command_words.specs.declared.chosen.Chosen.{Chosen}
use Rattle.command_words.specs.Options.{AreOptions, no_more, seed_set, steps_set, journal_set}
use Rattle.command_words.specs.Reading.{IsFirstBad, IsBadFrom, IsNumberAt, text_of, IsUnset, Joined, JoinedFlag, Follow, MayFollow, HasRead}
use Rattle.command_words.proofs.FirstBad.{drop-at, bad-first, bad-none, bad-behind}
use Rattle.command_words.proofs.Inverted.{of-seed, of-steps, of-journal, no-lone}

-- nothing more may follow
pub nothing-more : (before : Chosen) → Follow before [] before
nothing-more before = record { seed = None; steps = None; journal = false; options = no_more; one_seed = joined-none before.seed; one_limit = joined-none before.steps; one_journal = joined-false before.journal } where
  joined-none : (o : Option ℕ) → Joined o None o
  joined-none None = refl
  joined-none (Some n) = (refl, refl)

  joined-false : (b : Bool) → JoinedFlag b false b
  joined-false false = refl
  joined-false true = (refl, refl)

-- a setting that is new
pub joined-new : (before behind all : Option ℕ) → before ≡ None → Joined before behind all → all ≡ behind
joined-new before behind all e j = rw e at j

pub joined-unset : (before all : Option ℕ) (n : ℕ) → Joined before (Some n) all → before ≡ None
joined-unset None all n j = refl
joined-unset (Some m) all n j = let e = j.0 in cc

pub joined-flag : (before all : Bool) → JoinedFlag before true all → before ≡ false
joined-flag false all j = refl
joined-flag true all j = let e = j.0 in cc

module _ (before : Chosen) (unset : before.seed ≡ None) (n : ℕ) (small : n < 2 ^ 64) where
  pub seed-follows : (more : List (List ℕ)) (all : Chosen) → Follow before (codes "--seed" ∷ decimal n ∷ more) all ↔ Follow (record before { seed = Some n }) more all
  seed-follows more all = (to, from) where
    to : Follow before (codes "--seed" ∷ decimal n ∷ more) all → Follow (record before { seed = Some n }) more all
    to f =
        let o = of-seed (codes "--seed" ∷ decimal n ∷ more) f.seed f.steps f.journal f.options (decimal n) more refl in
        let same : n ≡ o.n = decimal_injective n o.n small o.small o.word_is in
        record {
          seed = None;
          steps = f.steps;
          journal = f.journal;
          options = o.behind;
          one_seed = (refl, joined-new before.seed f.seed all.seed unset f.one_seed ∙ o.seed_is ∙ ap (λ (m : ℕ). Some m) (sym same));
          one_limit = f.one_limit;
          one_journal = f.one_journal;
        }

    from : Follow (record before { seed = Some n }) more all → Follow before (codes "--seed" ∷ decimal n ∷ more) all
    from f = record {
      seed = Some n;
      steps = f.steps;
      journal = f.journal;
      options = seed_set n more f.steps f.journal small (subst (λ s. AreOptions more s f.steps f.journal) f.one_seed.0 f.options);
      one_seed = rw unset f.one_seed.1;
      one_limit = f.one_limit;
      one_journal = f.one_journal;
    }

module _ (before : Chosen) (unset : before.steps ≡ None) (n : ℕ) (enough : 1 ≤ n) (few : n ≤ 268435456) where
  pub steps-follow : (more : List (List ℕ)) (all : Chosen) → Follow before (codes "--steps" ∷ decimal n ∷ more) all ↔ Follow (record before { steps = Some n }) more all
  steps-follow more all = (to, from) where
    to : Follow before (codes "--steps" ∷ decimal n ∷ more) all → Follow (record before { steps = Some n }) more all
    to f =
        let o = of-steps (codes "--steps" ∷ decimal n ∷ more) f.seed f.steps f.journal f.options (decimal n) more refl in
        let few' = o.few in
        let same : n ≡ o.n = decimal_injective n o.n (omega arith) (omega arith) o.word_is in
        record {
          seed = f.seed;
          steps = None;
          journal = f.journal;
          options = o.behind;
          one_seed = f.one_seed;
          one_limit = (refl, joined-new before.steps f.steps all.steps unset f.one_limit ∙ o.steps_is ∙ ap (λ (m : ℕ). Some m) (sym same));
          one_journal = f.one_journal;
        }

    from : Follow (record before { steps = Some n }) more all → Follow before (codes "--steps" ∷ decimal n ∷ more) all
    from f = record {
      seed = f.seed;
      steps = Some n;
      journal = f.journal;
      options = steps_set n more f.seed f.journal enough few (subst (λ s. AreOptions more f.seed s f.journal) f.one_limit.0 f.options);
      one_seed = f.one_seed;
      one_limit = rw unset f.one_limit.1;
      one_journal = f.one_journal;
    }

module _ (before : Chosen) (unset : before.journal ≡ false) where
  pub journal-follows : (more : List (List ℕ)) (all : Chosen) → Follow before (codes "--journal" ∷ more) all ↔ Follow (record before { journal = true }) more all
  journal-follows more all = (to, from) where
    new-flag : (b behind : Bool) → b ≡ false → JoinedFlag b behind all.journal → all.journal ≡ behind
    new-flag b behind e j = rw e at j

    to : Follow before (codes "--journal" ∷ more) all → Follow (record before { journal = true }) more all
    to f =
        let o = of-journal (codes "--journal" ∷ more) f.seed f.steps f.journal f.options more refl in
        record {
          seed = f.seed;
          steps = f.steps;
          journal = false;
          options = o.behind;
          one_seed = f.one_seed;
          one_limit = f.one_limit;
          one_journal = (refl, new-flag before.journal f.journal unset f.one_journal ∙ o.journal_is);
        }

    from : Follow (record before { journal = true }) more all → Follow before (codes "--journal" ∷ more) all
    from f = record {
      seed = f.seed;
      steps = f.steps;
      journal = true;
      options = journal_set more f.seed f.steps (subst (λ b. AreOptions more f.seed f.steps b) f.one_journal.0 f.options);
      one_seed = f.one_seed;
      one_limit = f.one_limit;
      one_journal = rw unset f.one_journal.1;
    }

-- one option was read, of two words or of one
module _ (before after : Chosen) (words : List (List ℕ)) (at : ℕ) (a : List ℕ) (first : slice_get words at ≡ Some a) where
  pub has-read-two : (b : List ℕ) → slice_get words (at + 1) ≡ Some b → ((more : List (List ℕ)) (all : Chosen) → Follow before (a ∷ b ∷ more) all ↔ Follow after more all) → HasRead before after words at (at + 2)
  has-read-two b second follows = record {
    group = a ∷ b ∷ [];
    filled = omega arith;
    next_is = refl;
    stands =
        let next : (at + 1) + 1 ≡ at + 2 = omega arith in
        drop-at words at a first ∙ ap (λ (w : List (List ℕ)). a ∷ w) (drop-at words (at + 1) b second ∙ ap (λ k. b ∷ drop k words) next);
    follows = follows;
  }

  pub has-read-one : ((more : List (List ℕ)) (all : Chosen) → Follow before (a ∷ more) all ↔ Follow after more all) → HasRead before after words at (at + 1)
  has-read-one follows = record { group = a ∷ []; filled = omega arith; next_is = refl; stands = drop-at words at a first; follows = follows }

-- a word that is no option, or one that was read already
no-option : (before : Chosen) (words : List (List ℕ)) (seed steps : Option ℕ) (journal : Bool) → AreOptions words seed steps journal → (all : Chosen) → Joined before.seed seed all.seed
    → Joined before.steps steps all.steps → JoinedFlag before.journal journal all.journal → (w : List ℕ) (more : List (List ℕ)) → words ≡ w ∷ more
    → (name : Name) × (w ≡ text_of name) × IsUnset name before
no-option before _ _ _ _ no_more all s t j w more e = cc
no-option before _ _ _ _ (seed_set n ws steps journal small o) all s t j w more e = (An.Seed, (cc), joined-unset before.seed all.seed n s)
no-option before _ _ _ _ (steps_set n ws seed journal enough few o) all s t j w more e = (An.Steps, (cc), joined-unset before.steps all.steps n t)
no-option before _ _ _ _ (journal_set ws seed steps o) all s t j w more e = (An.Journal, (cc), joined-flag before.journal all.journal j)

pub bad-name : (before : Chosen) (words : List (List ℕ)) (at : ℕ) (w : List ℕ) → slice_get words at ≡ Some w → ((name : Name) → IsUnset name before → w ≢ text_of name) → IsBadFrom at (MayFollow before) words at
bad-name before words at w first none = (
  0,
  omega arith,
  subst (λ ws. IsFirstBad (MayFollow before) ws 0) (sym (drop-at words at w first))
      (bad-first (MayFollow before) w (drop (at + 1) words) ([], (before, nothing-more before))
      (λ more g. let f = g.1 in let o = no-option before (w ∷ more) f.seed f.steps f.journal f.options g.0 f.one_seed f.one_limit f.one_journal w more refl in none o.0 o.2 o.1)),
)

-- a word that is no number within limits, where an option wants one
module _ (before : Chosen) (words : List (List ℕ)) (at : ℕ) (a : List ℕ) (first : slice_get words at ≡ Some a) (least most : ℕ) (bad : (n : ℕ) → IsNumberAt words (at + 1) least most n → ⊥)
    (begun : (more : List (List ℕ)) × MayFollow before (a ∷ more)) (alone : MayFollow before (a ∷ []) → ⊥)
    (number : (word : List ℕ) (more : List (List ℕ)) → MayFollow before (a ∷ word ∷ more) → (n : ℕ) × (word ≡ decimal n) × (least ≤ n) × (n ≤ most)) where
  pub bad-value : IsBadFrom at (MayFollow before) words (at + 1)
  bad-value = (
    1,
    refl,
    elim (slice_get_cases words (at + 1)).1 [
      | inl there ↦
          let stands : drop at words ≡ a ∷ there.0 ∷ drop ((at + 1) + 1) words
          = drop-at words at a first ∙ ap (λ (w : List (List ℕ)). a ∷ w) (drop-at words (at + 1) there.0 there.2) in
          subst (λ ws. IsFirstBad (MayFollow before) ws 1) (sym stands)
          (bad-behind (MayFollow before) (a ∷ []) (there.0 ∷ drop ((at + 1) + 1) words) 0 1 refl
          (bad-first (λ ws. MayFollow before (a ∷ ws)) there.0 (drop ((at + 1) + 1) words) begun
          (λ more g. let n = number there.0 more g in bad n.0 (record { word = there.2 ∙ ap (λ (w : List ℕ). Some w) n.1; enough = n.2; few = n.3 }))))
      | inr past ↦
          let stands : drop at words ≡ a ∷ [] = drop-at words at a first ∙ ap (λ (w : List (List ℕ)). a ∷ w) (drop_of_length-le words past.0) in
          subst (λ ws. IsFirstBad (MayFollow before) ws 1) (sym stands)
          (bad-behind (MayFollow before) (a ∷ []) [] 0 1 refl (bad-none (λ ws. MayFollow before (a ∷ ws)) begun alone))
    ],
  )

-- an option wants a number, and other than `--journal` it does
bad-number : (before : Chosen) (a : List ℕ) → a ≢ codes "--journal" → MayFollow before (a ∷ []) → ⊥
bad-number before a other f = other (no-lone (a ∷ []) f.1.seed f.1.steps f.1.journal f.1.options a refl)

-- what is read at the name of an option
module _ (before : Chosen) (words : List (List ℕ)) (at : ℕ) (w : List ℕ) (first : slice_get words at ≡ Some w) where
  pub seed-read : (w ≡ codes "--seed") × (before.seed ≡ None) → (n : ℕ) → IsNumberAt words (at + 1) 0 18446744073709551615 n → HasRead before (record before { seed = Some n }) words at (at + 2)
  seed-read named n there =
      let few = there.few in
      has-read-two before (record before { seed = Some n }) words at (codes "--seed") (first ∙ ap (λ (x : List ℕ). Some x) named.0) (decimal n) there.word (seed-follows before named.1 n (omega arith))

  pub steps-read : (w ≡ codes "--steps") × (before.steps ≡ None) → (n : ℕ) → IsNumberAt words (at + 1) 1 268435456 n → HasRead before (record before { steps = Some n }) words at (at + 2)
  steps-read named n there =
      has-read-two before (record before { steps = Some n }) words at (codes "--steps") (first ∙ ap (λ (x : List ℕ). Some x) named.0) (decimal n) there.word
      (steps-follow before named.1 n there.enough there.few)

  pub journal-read : (w ≡ codes "--journal") × (before.journal ≡ false) → HasRead before (record before { journal = true }) words at (at + 1)
  journal-read named =
      has-read-one before (record before { journal = true }) words at (codes "--journal") (first ∙ ap (λ (x : List ℕ). Some x) named.0) (journal-follows before named.1)

  pub bad-seed : (w ≡ codes "--seed") × (before.seed ≡ None) → ((n : ℕ) → IsNumberAt words (at + 1) 0 18446744073709551615 n → ⊥) → IsBadFrom at (MayFollow before) words (at + 1)
  bad-seed named bad =
      bad-value before words at (codes "--seed") (first ∙ ap (λ (x : List ℕ). Some x) named.0) 0 18446744073709551615 bad
      (decimal 0 ∷ [], (record before { seed = Some 0 }, (seed-follows before named.1 0 (omega arith) [] (record before { seed = Some 0 })).1 (nothing-more (record before { seed = Some 0 }))))
      (bad-number before (codes "--seed") (λ e. cc))
      (λ word more g.
      let o = of-seed (codes "--seed" ∷ word ∷ more) g.1.seed g.1.steps g.1.journal g.1.options word more refl in
      let small = o.small in
      (o.n, o.word_is, (omega arith), (omega arith)))

  pub bad-steps : (w ≡ codes "--steps") × (before.steps ≡ None) → ((n : ℕ) → IsNumberAt words (at + 1) 1 268435456 n → ⊥) → IsBadFrom at (MayFollow before) words (at + 1)
  bad-steps named bad =
      bad-value before words at (codes "--steps") (first ∙ ap (λ (x : List ℕ). Some x) named.0) 1 268435456 bad
      (decimal 1 ∷ [], (record before { steps = Some 1 }, (steps-follow before named.1 1 (omega arith) (omega arith) [] (record before { steps = Some 1 })).1 (nothing-more (record before { steps = Some 1 }))))
      (bad-number before (codes "--steps") (λ e. cc))
      (λ word more g.
      let o = of-steps (codes "--steps" ∷ word ∷ more) g.1.seed g.1.steps g.1.journal g.1.options word more refl in
      (o.n, o.word_is, o.enough, o.few))

-- a number outside the limits
pub past-limits : (words : List (List ℕ)) (at least most : ℕ) (word : List ℕ) (m : ℕ) → slice_get words at ≡ Some word → word ≡ decimal m → m < 2 ^ 64 → most < 2 ^ 64
    → (m < least) ⊎ ((least ≤ m) × (most < m)) → (n : ℕ) → IsNumberAt words at least most n → ⊥
past-limits words at least most word m there spelled small limit past n h =
    let enough = h.enough in
    let few = h.few in
    let some : Some (decimal n) ≡ Some word = sym h.word ∙ there in
    let text : decimal n ≡ word = cc in
    let same : n ≡ m = decimal_injective n m (omega arith) small (text ∙ spelled) in
    elim past [ inl low ↦ omega arith | inr high ↦ omega arith ]
