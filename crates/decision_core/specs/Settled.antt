-- What a call that reads texts gives, and what it leaves on the shelf.
use Rattle.std.specs.Prelude.{ℕ, Bool, Option, List, Result, IfOk}
use Rattle.sdf_plan.specs.declared.plan.Plan.{Plan}
use Rattle.decision_core.specs.declared.shelf_core.reading.ReadStop.{ReadStop}
use Rattle.decision_core.specs.ShelfCore.Reading.{WasRead}
use Rattle.decision_core.specs.ShelfCore.Shelves.{ReadsFrom, Opens}
use Rattle.decision_core.specs.declared.deciding.Decided.{Decided}
use Rattle.decision_core.specs.declared.showing.Asked.{Asked}
use Rattle.decision_core.specs.Decided.{decision_of, OfEach, IsPlayable}
use Rattle.decision_core.specs.Decisions.{Decides, TraceDecides}
use Rattle.decision_core.specs.Readings.{LeavesPlay, OpensInTurn, ReadLast}

-- what the words and the texts under their names decide is given, on a shelf that tells texts, what
-- is left of the open one, which were opened, how often it failed and whether it failed last
pub record Settles {F : Type 0} (text : F → List ℕ → Option (List ℕ))
    (left : F → Option (List ℕ)) (opens : F → Option (List (List ℕ))) (faults : F → ℕ)
    (failed : F → Bool) (words : List (List ℕ)) (shelf shelf' : F)
    (result : Result Decided ReadStop) : Type 0 where
  -- it is what they decide
  pub decides : IfOk result (λ d. Decides (WasRead (text shelf)) words (decision_of d))
  -- these texts were opened in turn, and the last was read so far
  pub reads : ReadsFrom text left opens faults failed (OpensInTurn (WasRead (text shelf)) words)
      (OfEach (ReadLast (text shelf) words)) shelf shelf' result
  -- it can be played
  pub playable : IfOk result IsPlayable

-- what the trace of this name decides for a plan is given, on such a shelf
pub record SettlesTrace {F : Type 0} (text : F → List ℕ → Option (List ℕ))
    (left : F → Option (List ℕ)) (opens : F → Option (List (List ℕ))) (faults : F → ℕ)
    (failed : F → Bool) (name : List ℕ) (plan : Plan) (asked : Asked) (shelf shelf' : F)
    (result : Result Decided ReadStop) : Type 0 where
  -- it is what the bytes decide that were read
  pub decides : IfOk result (λ d. (bytes : List ℕ) × WasRead (text shelf) name bytes
      × TraceDecides plan asked bytes (decision_of d))
  -- the trace was opened, and read so far
  pub reads : ReadsFrom text left opens faults failed (Opens name)
      (OfEach (LeavesPlay (text shelf) name)) shelf shelf' result
  -- it can be played
  pub playable : IfOk result IsPlayable
