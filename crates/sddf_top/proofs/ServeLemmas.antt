use Rattle.std.proofs.Common.{◌≡◌, ◌⊎◌, inl, inr, ℕ, List, Option, Result, Ok, Err, IfOk, refl, sym, subst, arith}
use Rattle.std.specs.Prelude.{Bool}
use Rattle.cargo_core.specs.declared.memory.Memory.{Memory}
use Rattle.command_words.specs.declared.command.Command.{Command}
use Rattle.command_words.specs.Words.{Spells, IsGen}
use Rattle.sddf_top.specs.declared.answering.Outcome.{Outcome}
use Rattle.decision_core.specs.declared.shelf_core.reading.ReadStop.{ReadStop}
use Rattle.decision_core.specs.declared.shelf_core.reading.ReadStop.TheVariants as Stop
use Rattle.decision_core.specs.declared.status.Status.{Status}
use Rattle.decision_core.specs.declared.status.Status.TheVariants as Ended
use Rattle.sddf_top.specs.declared.played.Played.{Played}
use Rattle.decision_core.specs.ShelfCore.Shelves.{ReadsFrom}
use Rattle.decision_core.specs.Decisions.{Decides}
use Rattle.decision_core.specs.ShelfCore.Reading.{WasRead}
use Rattle.sddf_top.specs.Answers.{IsFault, no_reading, no_writing, no_memory}
use Rattle.decision_core.specs.Readings.{ReadLast, OpensInTurn}
use Rattle.sddf_top.specs.Outcomes.{FollowsBy, EndsAfter, HasTold}
use Rattle.sddf_top.specs.Served.{IsServed}
use Rattle.sddf_top.proofs.AnswerLemmas.{served-status, served-enough, answer-not, not-instead}

-- an answer that was written keeps its status, or is a fault
pub last-written : (told : List ℕ → Option (List ℕ)) (words : List (List ℕ)) (old new : Option (List ℕ)) (before after : Option (List (List ℕ))) (s result : Status) → ReadLast told words old new before after s
    → (result ≡ s) ⊎ (result ≡ Ended.WriteFault) → ReadLast told words old new before after result ⊎ IsFault result
last-written told words old new before after s result h (inl e) = inl (subst (λ t. ReadLast told words old new before after t) (sym e) h)
last-written told words old new before after s result h (inr e) = inr (subst (λ t. IsFault t) (sym e) no_writing)

-- a fault that is none of reading or writing is want of memory
pub starved : (s : Status) → (s ≡ Ended.ReadFault → ⊥) → (s ≡ Ended.WriteFault → ⊥) → IsFault s → (memory : Memory) × (s ≡ Ended.Memory memory)
starved _ r w no_reading = absurd (r refl)
starved _ r w no_writing = absurd (w refl)
starved _ r w (no_memory memory) = (memory, refl)

-- what is known of an answer that was made over a shelf
pub record IsAnswered {F : Type 0} (text : F → List ℕ → Option (List ℕ)) (left : F → Option (List ℕ)) (opens : F → Option (List (List ℕ))) (faults : F → ℕ) (failed : F → Bool) (words : List (List ℕ)) (shelf shelf' : F) (answer : Result Outcome ReadStop) : Type 0 where
  pub answers : IfOk answer (FollowsBy (Decides (WasRead (text shelf)) words))
  pub reads : ReadsFrom text left opens faults failed (OpensInTurn (WasRead (text shelf)) words) (EndsAfter (ReadLast (text shelf) words)) shelf shelf' answer
  pub command : answer ≡ Err Stop.Failed → (command : Command) × Spells words command
  pub unread : (n : ℕ) → IsGen words n → shelf' ≡ shelf

module _ {F K : Type 0} (text : F → List ℕ → Option (List ℕ)) (left : F → Option (List ℕ)) (opens : F → Option (List (List ℕ))) (reads : F → ℕ) (unreadable : F → Bool) (written : K → Option (List ℕ)) (writes : K → ℕ) (unwritable : K → Bool) (words : List (List ℕ)) (shelf shelf' : F) (sink sink' : K) (status : Status)
    (played : Played) where
  -- an answer that was told serves the words
  pub served : (answer : Result Outcome ReadStop) → IsAnswered text left opens reads unreadable words shelf shelf' answer → HasTold written writes unwritable answer sink sink' status played
      → IsServed text left opens reads unreadable written writes unwritable words shelf shelf' sink sink' status played
  served (Ok r) a t = record {
    served = t.served (text shelf) words a.answers;
    exactly = λ decision h. served-status (text shelf) words _ _ _ _ decision h (t.served (text shelf) words a.answers);
    complete = λ decision h e. served-enough (text shelf) words _ _ _ _ decision h e (t.served (text shelf) words a.answers);
    opened = a.reads.opened;
    last = last-written (text shelf) words _ _ _ _ _ _ a.reads.last t.ends;
    read_fault = λ e. absurd (not-instead (WasRead (text shelf)) words _ _ _ _ _ a.answers t.ends no_reading (λ f. cc) e);
    read_calm = λ n. a.reads.calm;
    read_always = λ l. absurd (omega (arith, l, a.reads.calm));
    read_command = λ e. absurd (not-instead (WasRead (text shelf)) words _ _ _ _ _ a.answers t.ends no_reading (λ f. cc) e);
    read_unwritten = λ e. absurd (not-instead (WasRead (text shelf)) words _ _ _ _ _ a.answers t.ends no_reading (λ f. cc) e);
    unread = a.unread;
    write_fault = λ e. t.faulty (answer-not (WasRead (text shelf)) words _ _ _ _ a.answers no_writing) e;
    write_calm = t.calm;
    write_always = t.always;
    memory_unwritten = λ memory e. absurd (not-instead (WasRead (text shelf)) words _ _ _ _ _ a.answers t.ends (no_memory memory) (λ f. cc) e);
    texts = a.reads.texts;
  }
  served (Err Stop.Failed) a t = record {
    served = t.served (text shelf) words tt;
    exactly = λ decision h. inr (rw t.ends no_reading);
    complete = λ decision h e. inr (rw t.ends no_reading);
    opened = a.reads.opened;
    last = inr (rw t.ends no_reading);
    read_fault = λ e. a.reads.stopped;
    read_calm = λ n. absurd (n t.ends);
    read_always = λ l. t.ends;
    read_command = λ e. a.command refl;
    read_unwritten = λ e. t.unwritten;
    unread = a.unread;
    write_fault = λ e. let f = t.ends in cc;
    write_calm = t.calm;
    write_always = t.always;
    memory_unwritten = λ memory e. t.unwritten;
    texts = a.reads.texts;
  }
  served (Err (Stop.Memory memory)) a t = record {
    served = t.served (text shelf) words tt;
    exactly = λ decision h. inr (rw t.ends (no_memory memory));
    complete = λ decision h e. inr (rw t.ends (no_memory memory));
    opened = a.reads.opened;
    last = inr (rw t.ends (no_memory memory));
    read_fault = λ e. let f = t.ends in cc;
    read_calm = λ n. a.reads.stopped;
    read_always = λ l. absurd (omega (arith, l, a.reads.stopped));
    read_command = λ e. let f = t.ends in cc;
    read_unwritten = λ e. t.unwritten;
    unread = a.unread;
    write_fault = λ e. let f = t.ends in cc;
    write_calm = t.calm;
    write_always = t.always;
    memory_unwritten = λ m e. t.unwritten;
    texts = a.reads.texts;
  }
