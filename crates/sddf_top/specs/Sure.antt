-- What a call answers over a shelf and a sink that never fail.
use Rattle.std.specs.Prelude.{◌≡◌, ◌⊎◌, Some, List, ℕ}
use Rattle.cargo_core.specs.declared.memory.Memory.{Memory}
use Rattle.decision_core.specs.declared.status.Status.{Status}
use Rattle.decision_core.specs.declared.status.Status.TheVariants as Ended
use Rattle.decision_core.specs.Decisions.{Decision, Decides}
use Rattle.decision_core.specs.ShelfCore.Reading.{IsTold}
use Rattle.decision_core.specs.ShelfCore.Sure.{Sure, sure_text}
use Rattle.sddf_top.specs.Answers.{IsEnough}

-- no fault of reading or writing comes; and where the words, the texts and the limit of steps are
-- good, the answer is `Ok`, or want of memory
pub record IsSure (words : List (List ℕ)) (shelf : Sure) (status : Status) : Type 0 where
  pub read : status ≡ Ended.ReadFault → ⊥
  pub write : status ≡ Ended.WriteFault → ⊥
  pub complete : (decision : Decision)
      → Decides (IsTold (λ name. Some (sure_text shelf name))) words decision → IsEnough decision
      → (status ≡ Ended.Ok) ⊎ ((memory : Memory) × (status ≡ Ended.Memory memory))
