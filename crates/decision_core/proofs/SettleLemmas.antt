-- What a call that reads texts gives and leaves, by what it read and what that decides.
use Rattle.std.proofs.Common.{◌≡◌, ◌≤◌, ℕ, Bool, List, Option, None, Result, Ok, Err, length, drop, refl, sym, ap, ◌∙◌, subst}
use Rattle.std.specs.Option.{option_map}
use Rattle.cargo_core.specs.declared.memory.Memory.{Memory}
use Rattle.sdf_plan.specs.declared.plan.Plan.{Plan}
use Rattle.sdf_model.specs.Counts.{text_most}
use Rattle.report_text.specs.Answers.{usage_text}
use Rattle.command_words.specs.declared.command.Command.{Command}
use Rattle.command_words.specs.Words.{IsGen, Spells, IsBadWord}
use Rattle.workload.specs.declared.description.TheConstants.{FULL_EXAMPLE}
use Rattle.decision_core.specs.declared.shelf_core.reading.ReadStop.{ReadStop}
use Rattle.decision_core.specs.declared.shelf_core.reading.ReadStop.TheVariants as Stop
use Rattle.decision_core.specs.ShelfCore.Outside.{IsRead, also_opened, read_most}
use Rattle.decision_core.specs.ShelfCore.Reading.{Behind, WasRead}
use Rattle.decision_core.specs.ShelfCore.Shelves.{ReadsFrom, Opens, LeavesRest}
use Rattle.decision_core.proofs.ShelfCore.ShelfLemmas.{reads-stopped, reads-starved, reads-for, reads-on}
use Rattle.decision_core.specs.declared.deciding.Decided.{Decided}
use Rattle.decision_core.specs.declared.showing.Alone.{Alone}
use Rattle.decision_core.specs.declared.showing.Asked.{Asked}
use Rattle.decision_core.specs.declared.status.Status.{Status}
use Rattle.decision_core.specs.declared.status.Status.TheVariants as Ended
use Rattle.decision_core.specs.Decided.{decision_of, OfEach, IsPlayable}
use Rattle.decision_core.specs.Decisions.{Say, NamesDescription, AsksFor, AsksAlone, Decides, TextDecides, TraceDecides, AloneDecides, GeneratedDecides, IsStatusOf, no_command, described, generated, alone, accepted, traced}
use Rattle.decision_core.specs.Judged.{IsAccepted}
use Rattle.decision_core.specs.Leading.{PlanSays}
use Rattle.decision_core.specs.Readings.{IsWithinLimit, IsOfText, IsOfPlay, LeavesPlay, OpensInTurn, ReadLast, opens_nothing, opens_alone, opens_description, opens_trace, read_none, read_no_text, read_alone, read_description, read_trace}
use Rattle.decision_core.specs.Settled.{Settles, SettlesTrace}
use Rattle.decision_core.proofs.DecisionLemmas.{alone-spell, bad-none, gen-or-alone, gen-or-named, map-ok, names-spell, read-before, said-decides}
use Rattle.decision_core.proofs.LastLemmas.{alone-status, gen-unread, said-status, trace-status, within-read}
use Rattle.decision_core.proofs.PlayableLemmas.{alone-playable, said-playable, text-playable}

-- how far a trace was read, said of the texts as they were before
trace-last : (told told' : List ℕ → Option (List ℕ)) → ((n : List ℕ) → told' n ≡ told n) → (words : List (List ℕ)) (desc trace : List ℕ) (asked : Asked) (first old new : Option (List ℕ)) (start before after : Option (List (List ℕ))) (s : Status)
    → AsksFor words desc trace asked → IsWithinLimit (told desc) → before ≡ also_opened start desc → LeavesPlay told' trace old new before after s → ReadLast told words first new start after s
unfolding Behind
trace-last told told' same words desc trace asked first old new start before after s asks within o h =
    read_trace desc trace asked asks within (h.0 ∙ ap (option_map (drop read_most)) (same trace)) (h.2 ∙ ap (λ names. also_opened names trace) o) (subst (λ t. IsOfText t IsOfPlay s) (same trace) h.1)

module _ {F : Type 0} (text : F → List ℕ → Option (List ℕ)) (left : F → Option (List ℕ)) (opens : F → Option (List (List ℕ))) (faults : F → ℕ) (failed : F → Bool) (name : List ℕ) (plan : Plan) (asked : Asked) (s s' : F) where
  -- a trace wasn't read
  pub trace-stopped : (stop : ReadStop) → ReadsFrom text left opens faults failed (Opens name) (LeavesRest (text s) name) s s' (Err stop) → SettlesTrace text left opens faults failed name plan asked s s' (Err stop)
  trace-stopped stop h = record {
    decides = tt;
    reads = reads-stopped text left opens faults failed (Opens name) (Opens name) (LeavesRest (text s) name) (OfEach (LeavesPlay (text s) name)) s s' stop h (λ o. o);
    playable = tt;
  }

  -- memory was refused behind a trace
  pub trace-starved : (bytes : List ℕ) (stop : ReadStop) (memory : Memory) → ReadsFrom text left opens faults failed (Opens name) (LeavesRest (text s) name) s s' (Ok bytes) → stop ≡ Stop.Memory memory
      → SettlesTrace text left opens faults failed name plan asked s s' (Err stop)
  trace-starved bytes stop memory h e = record {
    decides = tt;
    reads = reads-starved text left opens faults failed (Opens name) (Opens name) (LeavesRest (text s) name) (OfEach (LeavesPlay (text s) name)) s s' bytes stop memory h e (λ o. o);
    playable = tt;
  }

  -- a trace decides
  pub trace-settles : (bytes : List ℕ) (d : Decided) → ReadsFrom text left opens faults failed (Opens name) (LeavesRest (text s) name) s s' (Ok bytes) → IsRead (text s name) bytes → TraceDecides plan asked bytes (decision_of d) → IsPlayable d
      → SettlesTrace text left opens faults failed name plan asked s s' (Ok d)
  trace-settles bytes d h read t p = record {
    decides = (bytes, read, t);
    reads = reads-for text left opens faults failed (Opens name) (Opens name) (LeavesRest (text s) name) (OfEach (LeavesPlay (text s) name)) s s' bytes d h (λ o. o)
        (λ rest status e. (rest, trace-status (text s name) plan asked bytes (decision_of d) status read t e, h.opened));
    playable = p;
  }

module _ {F : Type 0} (text : F → List ℕ → Option (List ℕ)) (left : F → Option (List ℕ)) (opens : F → Option (List (List ℕ))) (faults : F → ℕ) (failed : F → Bool) (words : List (List ℕ)) (s : F) where
  -- the words of `gen` name no text
  gen-opens : (n : ℕ) → IsGen words n → OpensInTurn (WasRead (text s)) words (opens s) (opens s)
  gen-opens n g = opens_nothing (λ desc named. gen-or-named words n desc g named) (λ trace a w. gen-or-alone words n trace a g w) refl

  -- `gen` decides
  pub settle-gen : (n : ℕ) (d : Decided) → IsGen words n → TextDecides (GeneratedDecides n) FULL_EXAMPLE.now (decision_of d) → IsPlayable d → Settles text left opens faults failed words s s (Ok d)
  settle-gen n d g t p = record {
    decides = generated n (decision_of d) g t;
    reads = record {
      texts = λ m. refl;
      opened = gen-opens n g;
      last = λ status e. read_no_text n g (gen-unread n FULL_EXAMPLE.now (decision_of d) status t e) refl refl;
      calm = refl;
      stopped = tt;
    };
    playable = p;
  }

  -- memory was refused to `gen`
  pub settle-gen-starved : (n : ℕ) (stop : ReadStop) (memory : Memory) → IsGen words n → stop ≡ Stop.Memory memory → Settles text left opens faults failed words s s (Err stop)
  settle-gen-starved n stop memory g e = record {
    decides = tt;
    reads = record {
      texts = λ m. refl;
      opened = gen-opens n g;
      last = tt;
      calm = tt;
      stopped = rw e refl;
    };
    playable = tt;
  }

  -- bad words name no text
  bad-opens : (k : ℕ) → IsBadWord words k → OpensInTurn (WasRead (text s)) words (opens s) (opens s)
  bad-opens k b = opens_nothing (λ desc named. let c = names-spell words desc named in bad-none words k c.0 b c.1) (λ trace a w. let c = alone-spell words trace a w in bad-none words k c.0 b c.1) refl

  -- bad words are answered
  pub settle-bad : (k : ℕ) (d : Decided) → IsBadWord words k → decision_of d ≡ Say (Ended.Usage k) (usage_text k) → Settles text left opens faults failed words s s (Ok d)
  settle-bad k d b e = record {
    decides = subst (λ x. Decides (WasRead (text s)) words x) (sym e) (no_command k b);
    reads = record {
      texts = λ m. refl;
      opened = bad-opens k b;
      last = λ status h. read_none k (subst (λ x. IsStatusOf x status) e h) refl refl;
      calm = refl;
      stopped = tt;
    };
    playable = said-playable d (Ended.Usage k) (usage_text k) e;
  }

  -- memory was refused to the answer
  pub settle-bad-starved : (k : ℕ) (stop : ReadStop) (memory : Memory) → IsBadWord words k → stop ≡ Stop.Memory memory → Settles text left opens faults failed words s s (Err stop)
  settle-bad-starved k stop memory b e = record {
    decides = tt;
    reads = record {
      texts = λ m. refl;
      opened = bad-opens k b;
      last = tt;
      calm = tt;
      stopped = rw e refl;
    };
    playable = tt;
  }

module _ {F : Type 0} (text : F → List ℕ → Option (List ℕ)) (left : F → Option (List ℕ)) (opens : F → Option (List (List ℕ))) (faults : F → ℕ) (failed : F → Bool) (words : List (List ℕ)) (s s' : F) (name : List ℕ) where
  -- the first text wasn't read
  pub settle-stopped : (stop : ReadStop) → (opens s' ≡ also_opened (opens s) name → OpensInTurn (WasRead (text s)) words (opens s) (opens s')) → ReadsFrom text left opens faults failed (Opens name) (LeavesRest (text s) name) s s' (Err stop)
      → Settles text left opens faults failed words s s' (Err stop)
  settle-stopped stop o h = record {
    decides = tt;
    reads = reads-stopped text left opens faults failed (Opens name) (OpensInTurn (WasRead (text s)) words) (LeavesRest (text s) name) (OfEach (ReadLast (text s) words)) s s' stop h o;
    playable = tt;
  }

  -- memory was refused behind the first text
  pub settle-starved : (bytes : List ℕ) (stop : ReadStop) (memory : Memory) → (opens s' ≡ also_opened (opens s) name → OpensInTurn (WasRead (text s)) words (opens s) (opens s')) → ReadsFrom text left opens faults failed (Opens name) (LeavesRest (text s) name) s s' (Ok bytes)
      → stop ≡ Stop.Memory memory → Settles text left opens faults failed words s s' (Err stop)
  settle-starved bytes stop memory o h e = record {
    decides = tt;
    reads = reads-starved text left opens faults failed (Opens name) (OpensInTurn (WasRead (text s)) words) (LeavesRest (text s) name) (OfEach (ReadLast (text s) words)) s s' bytes stop memory h e o;
    playable = tt;
  }

  -- the one text decides
  pub settle-alone : (bytes : List ℕ) (d : Decided) (a : Alone) → AsksAlone words name a → ReadsFrom text left opens faults failed (Opens name) (LeavesRest (text s) name) s s' (Ok bytes) → IsRead (text s name) bytes → AloneDecides a bytes (decision_of d)
      → Settles text left opens faults failed words s s' (Ok d)
  settle-alone bytes d a asks h read t = record {
    decides = alone name bytes a (decision_of d) asks read t;
    reads = reads-for text left opens faults failed (Opens name) (OpensInTurn (WasRead (text s)) words) (LeavesRest (text s) name) (OfEach (ReadLast (text s) words)) s s' bytes d h (λ o. opens_alone name a asks o)
        (λ rest status e. read_alone name a asks rest h.opened (alone-status a (text s name) bytes (decision_of d) status read t e));
    playable = alone-playable a bytes d t;
  }

  -- the description decides without a trace
  pub settle-said : (bytes : List ℕ) (d : Decided) (command : Command) → Spells words command → NamesDescription words name → ReadsFrom text left opens faults failed (Opens name) (LeavesRest (text s) name) s s' (Ok bytes) → IsRead (text s name) bytes
      → TextDecides (PlanSays command) bytes (decision_of d) → Settles text left opens faults failed words s s' (Ok d)
  settle-said bytes d command spells named h read t = record {
    decides = described name bytes (decision_of d) named read (said-decides (WasRead (text s)) words command bytes (decision_of d) spells t);
    reads = reads-for text left opens faults failed (Opens name) (OpensInTurn (WasRead (text s)) words) (LeavesRest (text s) name) (OfEach (ReadLast (text s) words)) s s' bytes d h (λ o. opens_description name named o)
        (λ rest status e. read_description name named rest h.opened (said-status (text s name) words command bytes (decision_of d) status spells read t e));
    playable = text-playable command bytes d t;
  }

  -- the description is accepted, and its trace decides
  pub settle-traced : (s'' : F) (bytes trace : List ℕ) (plan : Plan) (asked : Asked) (r : Result Decided ReadStop) → NamesDescription words name → AsksFor words name trace asked → ReadsFrom text left opens faults failed (Opens name) (LeavesRest (text s) name) s s' (Ok bytes)
      → IsRead (text s name) bytes → length bytes ≤ text_most → IsAccepted bytes plan → SettlesTrace text left opens faults failed trace plan asked s' s'' r → Settles text left opens faults failed words s s'' r
  settle-traced s'' bytes trace plan asked r named asks h read short is t = record {
    decides = map-ok r _ _ (λ d k. described name bytes (decision_of d) named read (accepted plan (decision_of d) short is (traced name trace k.0 asked (decision_of d) asks (read-before (text s) (text s') h.texts trace k.0 k.1) k.2))) t.decides;
    reads = reads-on text left opens faults failed (Opens name) (Opens trace) (LeavesRest (text s) name) (OfEach (LeavesPlay (text s') trace)) (OpensInTurn (WasRead (text s)) words) (OfEach (ReadLast (text s) words)) s s' s'' bytes r h t.reads
        (opens_trace name trace bytes asked plan asks read short is (t.reads.opened ∙ ap (λ names. also_opened names trace) h.opened))
        (λ d k status e. trace-last (text s) (text s') h.texts words name trace asked (left s) (left s') (left s'') (opens s) (opens s') (opens s'') status asks (within-read (text s name) bytes read short) h.opened (k status e));
    playable = t.playable;
  }
