-- What `serve` does with the words, a shelf and a sink.
use Rattle.std.specs.Prelude.{◌≡◌, ◌⊎◌, ◌<◌, ℕ, Bool, Option, Some, List}
use Rattle.cargo_core.specs.declared.memory.Memory.{Memory}
use Rattle.command_words.specs.declared.command.Command.{Command}
use Rattle.command_words.specs.Words.{Spells, IsGen}
use Rattle.decision_core.specs.declared.status.Status.{Status}
use Rattle.decision_core.specs.declared.status.Status.TheVariants as Ended
use Rattle.sddf_top.specs.declared.played.Played.{Played}
use Rattle.decision_core.specs.ShelfCore.Outside.{FailsLast}
use Rattle.decision_core.specs.Decisions.{Decision, Decides, IsStatusOf}
use Rattle.sddf_top.specs.Answers.{Serves, IsFault, IsEnough}
use Rattle.decision_core.specs.ShelfCore.Reading.{WasRead, IsTold}
use Rattle.decision_core.specs.Readings.{ReadLast, OpensInTurn}

-- the words were served over a shelf, which tells texts, what is left of the open one, which were
-- opened, how often it failed and whether it failed last, and a sink, which tells what was written,
-- how often it failed and whether it failed last
pub record IsServed {F K : Type 0} (text : F → List ℕ → Option (List ℕ))
    (left : F → Option (List ℕ)) (opens : F → Option (List (List ℕ)))
    (reads : F → ℕ) (unreadable : F → Bool) (written : K → Option (List ℕ)) (writes : K → ℕ)
    (unwritable : K → Bool) (words : List (List ℕ)) (shelf shelf' : F) (sink sink' : K)
    (status : Status) (played : Played) : Type 0 where
  -- the status, what was written and what was played: each only for its cause
  pub served : Serves (WasRead (text shelf)) words (written sink) (written sink') status played
  -- each status wherever its cause holds, but for faults and want of memory
  pub exactly : (decision : Decision) → Decides (IsTold (text shelf)) words decision
      → IsStatusOf decision status ⊎ IsFault status
  -- where the words, the texts and the limit of steps are good it is `Ok`, but for these
  pub complete : (decision : Decision) → Decides (IsTold (text shelf)) words decision
      → IsEnough decision → (status ≡ Ended.Ok) ⊎ IsFault status
  -- which texts are opened, and in which order, however the call ends: the description before the
  -- trace, and the trace only where the description is accepted; of a bus or a switch its one text
  pub opened : OpensInTurn (WasRead (text shelf)) words (opens shelf) (opens shelf')
  -- where the answer is no fault: just these texts are opened, and this is left of the last
  pub last : ReadLast (text shelf) words (left shelf) (left shelf') (opens shelf) (opens shelf')
      status ⊎ IsFault status
  -- a fault of reading comes only where words that are a command let a text be read; then one call
  -- failed, none was made after it, and nothing is written; else no call failed
  pub read_fault : status ≡ Ended.ReadFault
      → FailsLast (reads shelf) (reads shelf') (unreadable shelf')
  pub read_calm : (status ≡ Ended.ReadFault → ⊥) → reads shelf' ≡ reads shelf
  pub read_always : reads shelf < reads shelf' → status ≡ Ended.ReadFault
  pub read_command : status ≡ Ended.ReadFault → (command : Command) × Spells words command
  pub read_unwritten : status ≡ Ended.ReadFault → sink' ≡ sink
  -- `gen` leaves the shelf as it is
  pub unread : (n : ℕ) → IsGen words n → shelf' ≡ shelf
  -- a fault of writing: one call failed, and none was made after it; else no call failed
  pub write_fault : status ≡ Ended.WriteFault
      → FailsLast (writes sink) (writes sink') (unwritable sink')
  pub write_calm : (status ≡ Ended.WriteFault → ⊥) → writes sink' ≡ writes sink
  pub write_always : writes sink < writes sink' → status ≡ Ended.WriteFault
  -- after want of memory nothing was written
  pub memory_unwritten : (memory : Memory) → status ≡ Ended.Memory memory → sink' ≡ sink
  -- the texts stay
  pub texts : (name : List ℕ) → text shelf' name ≡ text shelf name
