use Rattle.std.proofs.Common.{◌≡◌, ◌↔◌, ℕ, ◌+◌, ◌<◌, ◌≤◌, true, false, None, List, [], ◌++◌, length, drop, append_assoc, length-append, length-drop, refl, sym, ap, ◌∙◌, subst, arith}
use Rattle.std.specs.Prelude.{unwrap_or}
use Rattle.std.proofs.Math.ListN.{drop_of_length-le}
use Rattle.command_words.specs.declared.chosen.Chosen.{Chosen}
use Rattle.command_words.specs.Options.{AreOptions}
use Rattle.command_words.specs.Reading.{IsFirstBad, IsBadFrom, Follow, MayFollow, HasRead, OptionsAre, MayBeOptions, ScheduleIs, MayBeSchedule}
use Rattle.command_words.proofs.FirstBad.{bad-behind, bad-also}
use Rattle.command_words.proofs.Steps.{nothing-more}

-- the options up to a place were read, from another on and behind a first choice
pub record SoFar (from : ℕ) (first : Chosen) (words : List (List ℕ)) (at : ℕ) (chosen : Chosen) : Type 0 where
  pub done : List (List ℕ)
  pub at_is : at ≡ from + length done
  pub within : at ≤ length words
  pub stands : drop from words ≡ done ++ drop at words
  pub follows : (more : List (List ℕ)) (all : Chosen) → Follow first (done ++ more) all ↔ Follow chosen more all

module _ (from : ℕ) (first : Chosen) where
  pub at-first : (words : List (List ℕ)) → from ≤ length words → SoFar from first words from first
  at-first words long = record { done = []; at_is = omega arith; within = long; stands = refl; follows = λ more all. ((λ f. f), (λ f. f)) }

  pub one-more : (words : List (List ℕ)) (at next : ℕ) (before after : Chosen) → SoFar from first words at before → at < length words → HasRead before after words at next → SoFar from first words next after
  one-more words at next before after s inside r = record {
    done = s.done ++ r.group;
    at_is = let l = length-append s.done r.group in let e = s.at_is in let f = r.next_is in omega arith;
    within =
        let l : length (drop at words) ≡ length r.group + length (drop next words) = ap length r.stands ∙ length-append r.group (drop next words) in
        let m = length-drop at words in let n = length-drop next words in let f = r.next_is in let g = r.filled in omega arith;
    stands = s.stands ∙ ap (λ (w : List (List ℕ)). s.done ++ w) r.stands ∙ sym (append_assoc s.done r.group (drop next words));
    follows = λ more all. (
      (λ f. (r.follows more all).0 ((s.follows (r.group ++ more) all).0 (subst (λ ws. Follow first ws all) (append_assoc s.done r.group more) f))),
      (λ f. subst (λ ws. Follow first ws all) (sym (append_assoc s.done r.group more)) ((s.follows (r.group ++ more) all).1 ((r.follows more all).1 f))),
    );
  }

  -- behind the last of them nothing more was chosen
  pub all-follow : (words : List (List ℕ)) (at : ℕ) (chosen : Chosen) → SoFar from first words at chosen → length words ≤ at → Follow first (drop from words) chosen
  all-follow words at chosen s end =
      let stands : drop from words ≡ s.done ++ [] = s.stands ∙ ap (λ (w : List (List ℕ)). s.done ++ w) (drop_of_length-le words end) in
      subst (λ ws. Follow first ws chosen) (sym stands) ((s.follows [] chosen).1 (nothing-more chosen))

  -- what is bad behind those that were read is bad behind the first choice
  pub bad-follow : (words : List (List ℕ)) (at : ℕ) (chosen : Chosen) → SoFar from first words at chosen → (k : ℕ) → IsBadFrom at (MayFollow chosen) words k → IsBadFrom from (MayFollow first) words k
  bad-follow words at chosen s k b = (
    length s.done + b.0,
    (let e = b.1 in let f = s.at_is in omega arith),
    subst (λ ws. IsFirstBad (MayFollow first) ws (length s.done + b.0)) (sym s.stands)
        (bad-behind (MayFollow first) s.done (drop at words) b.0 (length s.done + b.0) refl
        (bad-also (MayFollow chosen) (λ ws. MayFollow first (s.done ++ ws)) (λ more. ((λ f. (f.0, (s.follows more f.0).1 f.1)), (λ f. (f.0, (s.follows more f.0).0 f.1)))) (drop at words) b.0 b.2)),
  )

abbrev pub nothing : Chosen
nothing = record { seed = None; steps = None; journal = false }

-- all options are what follows nothing
pub all-options : (words : List (List ℕ)) (all : Chosen) → Follow nothing words all → AreOptions words all.seed all.steps all.journal
all-options words all f =
    let a : AreOptions words all.seed f.steps f.journal = subst (λ s. AreOptions words s f.steps f.journal) (sym f.one_seed) f.options in
    let b : AreOptions words all.seed all.steps f.journal = subst (λ t. AreOptions words all.seed t f.journal) (sym f.one_limit) a in
    subst (λ j. AreOptions words all.seed all.steps j) (sym f.one_journal) b

from-nothing : (words : List (List ℕ)) (all : Chosen) → AreOptions words all.seed all.steps all.journal → Follow nothing words all
from-nothing words all o = record { seed = all.seed; steps = all.steps; journal = all.journal; options = o; one_seed = refl; one_limit = refl; one_journal = refl }

may-be-options : (words : List (List ℕ)) → MayFollow nothing words ↔ MayBeOptions words
may-be-options words = (
  (λ f. (record { seed = unwrap_or f.0.seed 0; steps = f.0.steps; journal = f.0.journal }, (f.0.seed, all-options words f.0 f.1, refl))),
  (λ o. let all : Chosen = record { seed = o.1.0; steps = o.0.steps; journal = o.0.journal } in (all, from-nothing words all o.1.1)),
)

pub options-are : (words : List (List ℕ)) (all : Chosen) → Follow nothing words all → OptionsAre words (record { seed = unwrap_or all.seed 0; steps = all.steps; journal = all.journal })
options-are words all f = (all.seed, all-options words all f, refl)

pub bad-options : (words : List (List ℕ)) (from k : ℕ) → IsBadFrom from (MayFollow nothing) words k → IsBadFrom from MayBeOptions words k
bad-options words from k b = (b.0, b.1, bad-also (MayFollow nothing) MayBeOptions may-be-options (drop from words) b.0 b.2)

-- a schedule is what follows where the journal can't be asked for
abbrev pub no-journal : Chosen
no-journal = record { seed = None; steps = None; journal = true }

all-schedule : (words : List (List ℕ)) (all : Chosen) → Follow no-journal words all → AreOptions words all.seed all.steps false
all-schedule words all f =
    let a : AreOptions words all.seed f.steps f.journal = subst (λ s. AreOptions words s f.steps f.journal) (sym f.one_seed) f.options in
    let b : AreOptions words all.seed all.steps f.journal = subst (λ t. AreOptions words all.seed t f.journal) (sym f.one_limit) a in
    subst (λ j. AreOptions words all.seed all.steps j) f.one_journal.0 b

may-be-schedule : (words : List (List ℕ)) → MayFollow no-journal words ↔ MayBeSchedule words
may-be-schedule words = (
  (λ f. (record { seed = unwrap_or f.0.seed 0; steps = f.0.steps }, (f.0.seed, all-schedule words f.0 f.1, refl))),
  (λ o. let all : Chosen = record { seed = o.1.0; steps = o.0.steps; journal = true } in (all, record { seed = o.1.0; steps = o.0.steps; journal = false; options = o.1.1; one_seed = refl; one_limit = refl; one_journal = (refl, refl) })),
)

pub schedule-is : (words : List (List ℕ)) (all : Chosen) → Follow no-journal words all → ScheduleIs words (record { seed = unwrap_or all.seed 0; steps = all.steps })
schedule-is words all f = (all.seed, all-schedule words all f, refl)

pub bad-schedule : (words : List (List ℕ)) (from k : ℕ) → IsBadFrom from (MayFollow no-journal) words k → IsBadFrom from MayBeSchedule words k
bad-schedule words from k b = (b.0, b.1, bad-also (MayFollow no-journal) MayBeSchedule may-be-schedule (drop from words) b.0 b.2)
