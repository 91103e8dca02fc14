-- What `view_play` does with the words, a shelf and two sinks.
use Rattle.std.specs.Prelude.{◌≡◌, ◌⊎◌, ℕ, Bool, Option, List}
use Rattle.cargo_core.specs.Lists.{IsPrefix}
use Rattle.cargo_core.specs.declared.memory.Memory.{Memory}
use Rattle.decision_core.specs.ShelfCore.Outside.{FailsLast, appended}
use Rattle.decision_core.specs.ShelfCore.Reading.{WasRead}
use Rattle.decision_core.specs.declared.status.Status.{Status}
use Rattle.decision_core.specs.declared.status.Status.TheVariants as Ended
use Rattle.view_plays.specs.Deciding.{Answered, Drawn, Refused, DrawsPlay, OpensFor}
use Rattle.view_plays.specs.ToldPlays.Progress.{IsProgress}
use Rattle.command_words.specs.PlayWords.Words.{IsKind}

-- a text was written to its end, or only its beginning, where the sink failed last
pub data IsTold {K : Type 0} (written : K → Option (List ℕ)) (faults : K → ℕ) (failed : K → Bool)
    (old new : K) (text : List ℕ) (status : Status) : Status → Type 0 where
  whole : written new ≡ appended (written old) text → faults new ≡ faults old
      → IsTold written faults failed old new text status status
  begun : (part : List ℕ) → IsPrefix part text → written new ≡ appended (written old) part
      → FailsLast (faults old) (faults new) (failed new)
      → IsTold written faults failed old new text status Ended.WriteFault

-- how a call ends that writes an answer: as the answer says, or by a fault of writing
abbrev pub EndsFor : Answered → Status → Type 0
EndsFor (Drawn why text) status = (status ≡ why) ⊎ (status ≡ Ended.WriteFault)
EndsFor (Refused why line) status = (status ≡ why) ⊎ (status ≡ Ended.WriteFault)

-- an answer was written to the sink that it goes to, and nothing to the other
abbrev pub IsWritten : {K E : Type 0} → (K → Option (List ℕ)) → (K → ℕ) → (K → Bool)
    → (E → Option (List ℕ)) → (E → ℕ) → (E → Bool) → Answered → (out out' : K) → (err err' : E)
    → Status → Type 0
IsWritten written writes unwritable lined lines unlinable (Drawn why text) out out' err err'
    status = IsTold written writes unwritable out out' text why status × (err' ≡ err)
IsWritten written writes unwritable lined lines unlinable (Refused why line) out out' err err'
    status = IsTold lined lines unlinable err err' line why status × (out' ≡ out)

-- what became of the answer: what is drawn was written to the first sink, or the line of a refusal
-- to the second and nothing to the first; after a fault of reading and want of memory nothing was
-- written to the first. Before all else lines of progress may stand on the second
pub data Draws {K E : Type 0} (written : K → Option (List ℕ)) (writes : K → ℕ)
    (unwritable : K → Bool) (lined : E → Option (List ℕ)) (lines : E → ℕ) (unlinable : E → Bool)
    (reads : List ℕ → List ℕ → Type 0) (words : List (List ℕ)) (out out' : K) (err err' : E)
    : Status → Type 0 where
  drew : (why status : Status) (text : List ℕ) → DrawsPlay reads words (Drawn why text)
      → IsProgress lined err err' → IsTold written writes unwritable out out' text why status
      → Draws written writes unwritable lined lines unlinable reads words out out' err err' status
  refused : (why status : Status) (line : List ℕ) (mid : E)
      → DrawsPlay reads words (Refused why line) → out' ≡ out → IsProgress lined err mid
      → IsTold lined lines unlinable mid err' line why status
      → Draws written writes unwritable lined lines unlinable reads words out out' err err' status
  unread : out' ≡ out → IsProgress lined err err'
      → Draws written writes unwritable lined lines unlinable reads words out out' err err'
      Ended.ReadFault
  unmade : (memory : Memory) → out' ≡ out → IsProgress lined err err'
      → Draws written writes unwritable lined lines unlinable reads words out out' err err'
      (Ended.Memory memory)

-- the words were answered over a shelf, which tells texts, which were opened, how often it failed
-- and whether it failed last, and two sinks, which tell what was written, how often they failed and
-- whether they failed last
pub record IsDrawn {F K E : Type 0} (text : F → List ℕ → Option (List ℕ))
    (opens : F → Option (List (List ℕ))) (reads : F → ℕ) (unreadable : F → Bool)
    (written : K → Option (List ℕ)) (writes : K → ℕ) (unwritable : K → Bool)
    (lined : E → Option (List ℕ)) (lines : E → ℕ) (unlinable : E → Bool)
    (words : List (List ℕ)) (shelf shelf' : F) (out out' : K) (err err' : E) (status : Status)
    : Type 0 where
  -- the status and what was written, each only for its cause
  pub draws : Draws written writes unwritable lined lines unlinable (WasRead (text shelf)) words
      out out' err err' status
  -- no text was opened, or the description, or that and then the trace
  pub opened : OpensFor (WasRead (text shelf)) words (opens shelf) (opens shelf')
  -- a fault of reading: one call failed, and none was made after it; else no call failed
  pub read_fault : status ≡ Ended.ReadFault
      → FailsLast (reads shelf) (reads shelf') (unreadable shelf')
  pub read_calm : (status ≡ Ended.ReadFault → ⊥) → reads shelf' ≡ reads shelf
  -- the texts stay
  pub texts : (name : List ℕ) → text shelf' name ≡ text shelf name

-- the first word asks for a drawing of a play
abbrev pub BeginsPlay : List (List ℕ) → Type 0
BeginsPlay words = (page : Bool) × IsKind words page
