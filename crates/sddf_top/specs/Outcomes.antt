-- Which answer comes of what was decided.
use Rattle.std.specs.Prelude.{◌≡◌, ◌⊎◌, ◌<◌, ℕ, Option, Result, Ok, Err, IfOk, OnErr, List}
use Rattle.std.specs.Prelude.{string_bytes, Bool}
use Rattle.sddf_top.specs.declared.answering.Outcome.{Outcome}
use Rattle.decision_core.specs.declared.shelf_core.reading.ReadStop.{ReadStop}
use Rattle.decision_core.specs.declared.shelf_core.reading.ReadStop.TheVariants as Stop
use Rattle.sddf_top.specs.declared.played.Played.{Played}
use Rattle.decision_core.specs.declared.status.Status.{Status}
use Rattle.decision_core.specs.declared.status.Status.TheVariants as Ended
use Rattle.decision_core.specs.ShelfCore.Outside.{FailsLast}
use Rattle.decision_core.specs.Decisions.{Decision, Decides}
use Rattle.sddf_top.specs.Answers.{Comes, ComesBy, Serves}
use Rattle.decision_core.specs.ShelfCore.Reading.{WasRead}

-- an answer follows from a decision
abbrev pub Follows : Decision → Outcome → Type 0
Follows decision outcome = Comes decision outcome.status (string_bytes outcome.text) outcome.played

-- an answer follows from a decision of this sort
abbrev pub FollowsBy : (Decision → Type 0) → Outcome → Type 0
FollowsBy decides outcome =
    ComesBy decides outcome.status (string_bytes outcome.text) outcome.played

-- this is left on a shelf, and was opened, with the status of an answer
abbrev pub EndsAfter : (Option (List ℕ) → Option (List ℕ) → Option (List (List ℕ))
    → Option (List (List ℕ)) → Status → Type 0) → Outcome → Option (List ℕ) → Option (List ℕ)
    → Option (List (List ℕ)) → Option (List (List ℕ)) → Type 0
EndsAfter leaves outcome old new before after = leaves old new before after outcome.status

-- the status with which a call ends that got this answer: its own, or that it couldn't be written;
-- why there is none
abbrev pub EndsAs : Result Outcome ReadStop → Status → Type 0
EndsAs (Ok outcome) status = (status ≡ outcome.status) ⊎ (status ≡ Ended.WriteFault)
EndsAs (Err Stop.Failed) status = status ≡ Ended.ReadFault
EndsAs (Err (Stop.Memory memory)) status = status ≡ Ended.Memory memory

-- an answer was written to a sink, which tells what was written, how often it failed, and whether
-- it failed last
pub record HasTold {K : Type 0} (written : K → Option (List ℕ)) (writes : K → ℕ) (failed : K → Bool)
    (answer : Result Outcome ReadStop) (sink sink' : K) (status : Status) (played : Played)
    : Type 0 where
  pub served : (told : List ℕ → Option (List ℕ)) (words : List (List ℕ))
      → IfOk answer (FollowsBy (Decides (WasRead told) words))
      → Serves (WasRead told) words (written sink) (written sink') status played
  pub ends : EndsAs answer status
  pub unwritten : OnErr answer (sink' ≡ sink)
  pub faulty : IfOk answer (λ r. r.status ≡ Ended.WriteFault → ⊥) → status ≡ Ended.WriteFault
      → FailsLast (writes sink) (writes sink') (failed sink')
  pub calm : (status ≡ Ended.WriteFault → ⊥) → writes sink' ≡ writes sink
  pub always : writes sink < writes sink' → status ≡ Ended.WriteFault
