-- What reading did to a shelf.
use Rattle.std.specs.Prelude.{◌≡◌, ℕ, Bool, Option, List, Result, IfOk, IfErr, OnOk}
use Rattle.cargo_core.specs.declared.memory.Memory.{Memory}
use Rattle.decision_core.specs.declared.shelf_core.reading.ReadStop.{ReadStop}
use Rattle.decision_core.specs.declared.shelf_core.reading.ReadStop.TheVariants as Stop
use Rattle.decision_core.specs.ShelfCore.Outside.{FailsLast, also_opened}
use Rattle.decision_core.specs.ShelfCore.Reading.{Behind}

-- how many calls of a shelf failed, by what stopped the reading: one and last where the shelf did,
-- and none where memory was refused
abbrev pub Stops : ReadStop → ℕ → ℕ → Bool → Type 0
Stops Stop.Failed before after last = FailsLast before after last
Stops (Stop.Memory memory) before after last = after ≡ before

-- what reading did to a shelf, which tells texts, what is left of the open one, which were opened,
-- how often it failed and whether it failed last: which texts it opens, and in which order; and how
-- far it reads the last of them, by what it gives
pub record ReadsFrom {F A : Type 0} (text : F → List ℕ → Option (List ℕ))
    (left : F → Option (List ℕ)) (opens : F → Option (List (List ℕ))) (faults : F → ℕ)
    (failed : F → Bool) (order : Option (List (List ℕ)) → Option (List (List ℕ)) → Type 0)
    (leaves : A → Option (List ℕ) → Option (List ℕ) → Option (List (List ℕ))
    → Option (List (List ℕ)) → Type 0) (shelf shelf' : F) (result : Result A ReadStop)
    : Type 0 where
  -- the texts stay
  pub texts : (name : List ℕ) → text shelf' name ≡ text shelf name
  -- these texts were opened, and in this order, however the reading ended
  pub opened : order (opens shelf) (opens shelf')
  -- where nothing stopped the reading: this is left, and just these texts were opened
  pub last : IfOk result (λ given. leaves given (left shelf) (left shelf') (opens shelf)
      (opens shelf'))
  -- where nothing stopped the reading, no call failed
  pub calm : OnOk result (faults shelf' ≡ faults shelf)
  -- where the shelf stopped it, one call failed and none was made after it; where memory was
  -- refused, none failed
  pub stopped : IfErr result (λ stop. Stops stop (faults shelf) (faults shelf') (failed shelf'))

-- just this text was opened
abbrev pub Opens : List ℕ → Option (List (List ℕ)) → Option (List (List ℕ)) → Type 0
Opens name before after = after ≡ also_opened before name

-- no text was opened
abbrev pub OpensNone : Option (List (List ℕ)) → Option (List (List ℕ)) → Type 0
OpensNone before after = after ≡ before

-- all was read of a text that is ever read, whatever its bytes were
abbrev pub LeavesRest : (List ℕ → Option (List ℕ)) → List ℕ → List ℕ → Option (List ℕ)
    → Option (List ℕ) → Option (List (List ℕ)) → Option (List (List ℕ)) → Type 0
LeavesRest told name bytes old new before after = Behind told name new
