-- What `view` does with the words, a shelf and two sinks.
use Rattle.std.specs.Prelude.{◌≡◌, ◌⊎◌, ℕ, Bool, Option, List}
use Rattle.cargo_core.specs.Lists.{IsPrefix}
use Rattle.cargo_core.specs.declared.memory.Memory.{Memory}
use Rattle.decision_core.specs.ShelfCore.Outside.{FailsLast, appended}
use Rattle.decision_core.specs.ShelfCore.Reading.{WasRead}
use Rattle.view_plays.specs.declared.view_core.ended.Ended.{Ended}
use Rattle.view_plays.specs.declared.view_core.ended.Ended.TheVariants as End
use Rattle.view_plays.specs.ViewCore.Deciding.{Decision, Show, Refuse, Decides}
use Rattle.view_plays.specs.ViewCore.Opening.{OpensFor}

-- a text was written to its end, or only its beginning, where the sink failed last
pub data IsTold {K : Type 0} (written : K → Option (List ℕ)) (faults : K → ℕ) (failed : K → Bool)
    (old new : K) (text : List ℕ) (ended : Ended) : Ended → Type 0 where
  whole : written new ≡ appended (written old) text → faults new ≡ faults old
      → IsTold written faults failed old new text ended ended
  begun : (part : List ℕ) → IsPrefix part text → written new ≡ appended (written old) part
      → FailsLast (faults old) (faults new) (failed new)
      → IsTold written faults failed old new text ended End.WriteFault

-- how a call ends that writes an answer: as the answer says, or by a fault of writing
abbrev pub EndsFor : Decision → Ended → Type 0
EndsFor (Show text) ended = (ended ≡ End.Ok) ⊎ (ended ≡ End.WriteFault)
EndsFor (Refuse why line) ended = (ended ≡ why) ⊎ (ended ≡ End.WriteFault)

-- the text of a decision was written to the sink that it goes to, and nothing to the other
abbrev pub IsWritten : {K E : Type 0} → (K → Option (List ℕ)) → (K → ℕ) → (K → Bool)
    → (E → Option (List ℕ)) → (E → ℕ) → (E → Bool) → Decision → (out out' : K) → (err err' : E)
    → Ended → Type 0
IsWritten written writes unwritable lined lines unlinable (Show text) out out' err err' ended =
    IsTold written writes unwritable out out' text End.Ok ended × (err' ≡ err)
IsWritten written writes unwritable lined lines unlinable (Refuse why line) out out' err err'
    ended = IsTold lined lines unlinable err err' line why ended × (out' ≡ out)

-- what became of the answer: what is shown was written to the first sink and nothing to the second,
-- or the line of a refusal to the second and nothing to the first; after a fault of reading and
-- want of memory nothing was written to either
pub data Views {K E : Type 0} (written : K → Option (List ℕ)) (writes : K → ℕ)
    (unwritable : K → Bool) (lined : E → Option (List ℕ)) (lines : E → ℕ) (unlinable : E → Bool)
    (reads : List ℕ → List ℕ → Type 0) (words : List (List ℕ)) (out out' : K) (err err' : E)
    : Ended → Type 0 where
  showed : (text : List ℕ) (ended : Ended) → Decides reads words (Show text) → err' ≡ err
      → IsTold written writes unwritable out out' text End.Ok ended
      → Views written writes unwritable lined lines unlinable reads words out out' err err' ended
  refused : (why ended : Ended) (line : List ℕ) → Decides reads words (Refuse why line)
      → out' ≡ out → IsTold lined lines unlinable err err' line why ended
      → Views written writes unwritable lined lines unlinable reads words out out' err err' ended
  unread : out' ≡ out → err' ≡ err
      → Views written writes unwritable lined lines unlinable reads words out out' err err'
      End.ReadFault
  unmade : (memory : Memory) → out' ≡ out → err' ≡ err
      → Views written writes unwritable lined lines unlinable reads words out out' err err'
      (End.Memory memory)

-- the words were answered over a shelf, which tells texts, which were opened, how often it failed
-- and whether it failed last, and two sinks, which tell what was written, how often they failed and
-- whether they failed last
pub record IsViewed {F K E : Type 0} (text : F → List ℕ → Option (List ℕ))
    (opens : F → Option (List (List ℕ))) (reads : F → ℕ) (unreadable : F → Bool)
    (written : K → Option (List ℕ)) (writes : K → ℕ) (unwritable : K → Bool)
    (lined : E → Option (List ℕ)) (lines : E → ℕ) (unlinable : E → Bool)
    (words : List (List ℕ)) (shelf shelf' : F) (out out' : K) (err err' : E) (ended : Ended)
    : Type 0 where
  -- the status and what was written, each only for its cause
  pub views : Views written writes unwritable lined lines unlinable (WasRead (text shelf)) words
      out out' err err' ended
  -- no text was opened, or just the description
  pub opened : OpensFor words (opens shelf) (opens shelf')
  -- a fault of reading: one call failed, and none was made after it; else no call failed
  pub read_fault : ended ≡ End.ReadFault
      → FailsLast (reads shelf) (reads shelf') (unreadable shelf')
  pub read_calm : (ended ≡ End.ReadFault → ⊥) → reads shelf' ≡ reads shelf
  -- the texts stay
  pub texts : (name : List ℕ) → text shelf' name ≡ text shelf name
