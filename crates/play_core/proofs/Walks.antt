use Rattle.std.proofs.Common.{◌≡◌, ◌<◌, ◌≤◌, ◌+◌, ◌++◌, ℕ, Bool, true, false, Some, List, [], ◌∷◌, length, slice_get, refl, subst, arith}
use Rattle.std.proofs.lemmas.Bool.{le-ltb}
use Rattle.cargo_core.specs.Lists.{IsPrefix}
use Rattle.wire_core.specs.declared.names.QueueRow.{QueueRow}
use Rattle.wire_core.specs.declared.names.Entry.{Entry}
use Rattle.wire_core.specs.Journal.{History, Hostiles, track}
use Rattle.play_core.specs.Moved.{sent, taken}
use Rattle.play_core.specs.Wants.{Want, Needful}
use Rattle.play_core.specs.Resting.{is_due}
use Rattle.play_core.specs.Still.{IsStill, Acts, HasWant, Needs, Owes, Holds}
use Rattle.play_core.proofs.Stillness.{rests_now, pays_now}

pub begins_few : {T : Type 0} (xs ys : List T) → IsPrefix xs ys → length xs ≤ length ys
begins_few [] ys p = omega arith
begins_few (x ∷ xs) [] p = let e : x ∷ (xs ++ p.0) ≡ [] = p.1 in cc
begins_few (x ∷ xs) (y ∷ ys) p = let e : x ∷ (xs ++ p.0) ≡ y ∷ ys = p.1 in let tail : xs ++ p.0 ≡ ys = cc in let r = begins_few xs ys (p.0, tail) in omega (arith, r)

-- the steps of a walk from queue to queue through a quiet system
module _ (hostile : Hostiles) (h : History) (rows : List QueueRow) (actors : Needful) (j : List Entry) (still : IsStill hostile h rows actors j) where
  -- an end of an actor
  pub end_at : (ends : List Want) → Acts hostile actors ends → (place : ℕ) (w : Want) → slice_get ends place ≡ Some w → HasWant hostile actors w
  end_at ends acts place w is = record { ends = ends; acts = acts; place = place; is = is }

  pub needs_as : (n : ℕ) (a b : Bool) → a ≡ b → Needs hostile actors n a → Needs hostile actors n b
  needs_as n a b e w = subst (λ v. Needs hostile actors n v) e w

  pub flow : (n least : ℕ) → Holds hostile rows n least → length (taken h n j) ≤ length (sent h n j)
  flow n least there = begins_few (taken h n j) (sent h n j) (still.flows n there.row there.there).begins

  -- what stands in a needed queue: nothing
  pub drained : (n least : ℕ) (owed : Bool) → Holds hostile rows n least → Needs hostile actors n true → Owes hostile actors n owed → sent h n j ≡ taken h n j
  drained n least owed there needs owes = (rests_now hostile h rows actors j still n there.row true owed there.there there.calm needs owes).drained refl

  -- what is owed to a needed queue: nothing
  pub handed : (n least : ℕ) (owed : Bool) → Holds hostile rows n least → 0 < least → Needs hostile actors n true → Owes hostile actors n owed → owed ≡ false
  handed n least owed there some needs owes = (rests_now hostile h rows actors j still n there.row true owed there.there there.calm needs owes).handed (omega (arith, some, there.enough)) refl

  pub paid : (n least due : ℕ) → Holds hostile rows n least → 0 < least → Needs hostile actors n true → Owes hostile actors n (is_due (track h n j) due) → due ≤ length (sent h n j)
  paid n least due there some needs owes = (pays_now hostile h rows actors j still n there.row true due there.there there.calm needs owes).needed_paid (omega (arith, some, there.enough)) refl

  -- what is owed to a queue that could hold all of it: nothing
  pub roomy : (n least due : ℕ) (needed : Bool) → Holds hostile rows n least → Needs hostile actors n needed → Owes hostile actors n (is_due (track h n j) due) → due ≤ length (taken h n j) + least → due ≤ length (sent h n j)
  roomy n least due needed there needs owes fits = (pays_now hostile h rows actors j still n there.row needed due there.there there.calm needs owes).roomy_paid (omega (arith, fits, there.enough))

  pub not_due : (n due : ℕ) → due ≤ length (sent h n j) → is_due (track h n j) due ≡ false
  not_due n due le = le-ltb (length (sent h n j)) due le
