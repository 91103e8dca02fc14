-- Which texts are opened, in which order, and how far the last is read.
use Rattle.std.specs.Prelude.{◌≡◌, ◌≤◌, ◌<◌, ◌⊎◌, ℕ, Option, List, length, IfSome}
use Rattle.command_words.specs.Words.{IsCheck, IsLayout, IsGen}
use Rattle.sdf_plan.specs.declared.plan.Plan.{Plan}
use Rattle.decision_core.specs.declared.status.Status.{Status}
use Rattle.decision_core.specs.declared.status.Status.TheVariants as Ended
use Rattle.sdf_model.specs.Counts.{text_most}
use Rattle.decision_core.specs.ShelfCore.Outside.{also_opened}
use Rattle.decision_core.specs.ShelfCore.Reading.{Behind}
use Rattle.decision_core.specs.declared.showing.Asked.{Asked}
use Rattle.decision_core.specs.declared.showing.Alone.{Alone}
use Rattle.decision_core.specs.Decisions.{NamesDescription, AsksFor, AsksAlone}
use Rattle.decision_core.specs.Judged.{IsAccepted}

-- a text is too long, where it is told
abbrev pub IsLong : Option (List ℕ) → Type 0
IsLong told = IfSome told (λ text. text_most < length text)

-- a text is within the limit, where it is told
abbrev pub IsWithinLimit : Option (List ℕ) → Type 0
IsWithinLimit told = IfSome told (λ text. length text ≤ text_most)

-- an answer to a description that isn't too long, before a trace is read
abbrev pub IsOfPlan : List (List ℕ) → Status → Type 0
IsOfPlan words (Ended.Refused n) = Unit {0}
IsOfPlan words Ended.Ok = (desc : List ℕ) × (IsCheck words desc ⊎ IsLayout words desc)
IsOfPlan words Ended.TooLong = ⊥
IsOfPlan words (Ended.Usage k) = ⊥
IsOfPlan words (Ended.BadTrace l) = ⊥
IsOfPlan words (Ended.Spent s) = ⊥
IsOfPlan words Ended.ReadFault = ⊥
IsOfPlan words Ended.WriteFault = ⊥
IsOfPlan words (Ended.Memory memory) = ⊥

-- an answer to a trace that isn't too long
abbrev pub IsOfPlay : Status → Type 0
IsOfPlay Ended.Ok = Unit {0}
IsOfPlay (Ended.Spent s) = Unit {0}
IsOfPlay (Ended.BadTrace l) = Unit {0}
IsOfPlay Ended.TooLong = ⊥
IsOfPlay (Ended.Usage k) = ⊥
IsOfPlay (Ended.Refused n) = ⊥
IsOfPlay Ended.ReadFault = ⊥
IsOfPlay Ended.WriteFault = ⊥
IsOfPlay (Ended.Memory memory) = ⊥

-- an answer to a text that was read: that it is too long, or one of these where it is within the
-- limit
abbrev pub IsOfText : Option (List ℕ) → (Status → Type 0) → Status → Type 0
IsOfText told answers status =
    (IsLong told × (status ≡ Ended.TooLong)) ⊎ (IsWithinLimit told × answers status)

-- what is left on the shelf once the trace of a play or a run was read and answered, and what was
-- opened for it
abbrev pub LeavesPlay : (List ℕ → Option (List ℕ)) → List ℕ → Option (List ℕ) → Option (List ℕ)
    → Option (List (List ℕ)) → Option (List (List ℕ)) → Status → Type 0
LeavesPlay told trace old new before after status =
    Behind told trace new × IsOfText (told trace) IsOfPlay status
    × (after ≡ also_opened before trace)

-- an answer to a command that reads no text
abbrev pub IsUnread : Status → Type 0
IsUnread Ended.Ok = Unit {0}
IsUnread (Ended.Spent s) = Unit {0}
IsUnread (Ended.BadTrace l) = Unit {0}
IsUnread (Ended.Refused n) = Unit {0}
IsUnread Ended.TooLong = Unit {0}
IsUnread (Ended.Usage k) = ⊥
IsUnread Ended.ReadFault = ⊥
IsUnread Ended.WriteFault = ⊥
IsUnread (Ended.Memory memory) = ⊥

-- which texts are opened for the words, and in which order, however the call ends: none where they
-- name none; the one text that they name; or the description, and next the trace, once the
-- description was read and is accepted
pub data OpensInTurn (reads : List ℕ → List ℕ → Type 0) (words : List (List ℕ))
    (before after : Option (List (List ℕ))) : Type 0 where
  opens_nothing : ((desc : List ℕ) → NamesDescription words desc → ⊥)
      → ((trace : List ℕ) (asked : Alone) → AsksAlone words trace asked → ⊥) → after ≡ before
      → OpensInTurn reads words before after
  opens_alone : (trace : List ℕ) (asked : Alone) → AsksAlone words trace asked
      → after ≡ also_opened before trace → OpensInTurn reads words before after
  opens_description : (desc : List ℕ) → NamesDescription words desc
      → after ≡ also_opened before desc → OpensInTurn reads words before after
  opens_trace : (desc trace bytes : List ℕ) (asked : Asked) (plan : Plan)
      → AsksFor words desc trace asked → reads desc bytes → length bytes ≤ text_most
      → IsAccepted bytes plan → after ≡ also_opened (also_opened before desc) trace
      → OpensInTurn reads words before after

-- which texts were opened, in which order, and how far the last was read, where this is the answer
-- to the words: none for bad words and for `gen`; the one text of `i2c` and `switch`; the
-- description alone where it is too long or refused, or the words name no trace; else the
-- description and then the trace. A text that is too long is the one that was read last, and the
-- trace is read where the description is within the limit.
pub data ReadLast (told : List ℕ → Option (List ℕ)) (words : List (List ℕ))
    (old new : Option (List ℕ)) (before after : Option (List (List ℕ))) (status : Status)
    : Type 0 where
  read_none : (k : ℕ) → status ≡ Ended.Usage k → new ≡ old → after ≡ before
      → ReadLast told words old new before after status
  read_no_text : (n : ℕ) → IsGen words n → IsUnread status → new ≡ old → after ≡ before
      → ReadLast told words old new before after status
  read_alone : (trace : List ℕ) (asked : Alone) → AsksAlone words trace asked
      → Behind told trace new → after ≡ also_opened before trace
      → IsOfText (told trace) IsOfPlay status → ReadLast told words old new before after status
  read_description : (desc : List ℕ) → NamesDescription words desc → Behind told desc new
      → after ≡ also_opened before desc → IsOfText (told desc) (IsOfPlan words) status
      → ReadLast told words old new before after status
  read_trace : (desc trace : List ℕ) (asked : Asked) → AsksFor words desc trace asked
      → IsWithinLimit (told desc) → Behind told trace new
      → after ≡ also_opened (also_opened before desc) trace
      → IsOfText (told trace) IsOfPlay status → ReadLast told words old new before after status
