-- What a play does to a system, by steps of runnable actors that a seed picks.
use Rattle.std.specs.Prelude.{◌≡◌, ◌≤◌, ◌+◌, ◌++◌, ℕ, Some, List, [], length, slice_get}
use Rattle.wire_core.specs.declared.names.Entry.{Entry}
use Rattle.wire_core.specs.Picks.{PickedFrom}
use Rattle.system_core.specs.Shows.{Shown, KeepsSetting, Appends, runs}

-- the actors of a system that are runnable now
abbrev pub runnable_now : Shown → List ℕ
runnable_now s = runs s.setting s.journal

-- the system played on by steps that the seed picks, at most so many; who was runnable at each is
-- said by the names that are kept now
pub record Played (old new : Shown) (seed limit : ℕ) : Type 0 where
  pub setting : KeepsSetting old.setting new.setting
  pub more : List Entry
  pub journal : new.journal ≡ old.journal ++ more
  pub picked : PickedFrom (runs new.setting) seed old.journal more
  pub within : length more ≤ limit
  -- where no step was made, all is as it was
  pub unmoved : more ≡ [] → new ≡ old

-- so many steps were made, and some actor is runnable
abbrev pub IsSpent : Shown → Shown → ℕ → Type 0
IsSpent old new limit = (length new.journal ≡ length old.journal + limit)
    × (runnable_now new ≡ [] → ⊥)

-- the actor at a place among the runnable ones made one call more
pub record StepsAt (place : ℕ) (old new : Shown) : Type 0 where
  pub actor : ℕ
  pub there : slice_get (runnable_now old) place ≡ Some actor
  pub appends : Appends actor old new
