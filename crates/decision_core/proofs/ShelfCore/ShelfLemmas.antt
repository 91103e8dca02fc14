-- What was read in turn, and what is made of it.
use Rattle.std.proofs.Common.{◌≡◌, ℕ, Bool, List, Option, Result, Ok, Err, refl, ◌∙◌, subst}
use Rattle.cargo_core.specs.declared.memory.Memory.{Memory}
use Rattle.decision_core.specs.declared.shelf_core.reading.ReadStop.{ReadStop}
use Rattle.decision_core.specs.declared.shelf_core.reading.ReadStop.TheVariants as Stop
use Rattle.decision_core.specs.ShelfCore.Outside.{FailsLast}
use Rattle.decision_core.specs.ShelfCore.Shelves.{ReadsFrom, Stops}

-- the calls that failed, counted from before some that didn't
pub stops-before : (stop : ReadStop) (start before after : ℕ) (last : Bool) → before ≡ start → Stops stop before after last → Stops stop start after last
stops-before Stop.Failed start before after last e h = subst (λ n. FailsLast n after last) e h
stops-before (Stop.Memory memory) start before after last e h = h ∙ e

module _ {F A B : Type 0} (text : F → List ℕ → Option (List ℕ)) (left : F → Option (List ℕ)) (opens : F → Option (List (List ℕ))) (faults : F → ℕ) (failed : F → Bool) (order order' : Option (List (List ℕ)) → Option (List (List ℕ)) → Type 0)
    (leaves : A → Option (List ℕ) → Option (List ℕ) → Option (List (List ℕ)) → Option (List (List ℕ)) → Type 0) (leaves' : B → Option (List ℕ) → Option (List ℕ) → Option (List (List ℕ)) → Option (List (List ℕ)) → Type 0) where
  -- reading that was stopped gives nothing
  pub reads-stopped : (s s' : F) (stop : ReadStop) → ReadsFrom text left opens faults failed order leaves s s' (Err stop) → (order (opens s) (opens s') → order' (opens s) (opens s')) → ReadsFrom text left opens faults failed order' leaves' s s' (Err stop)
  reads-stopped s s' stop h f = record {
    texts = h.texts;
    opened = f h.opened;
    last = tt;
    calm = tt;
    stopped = h.stopped;
  }

  -- the same was read, and something else is made of it
  pub reads-for : (s s' : F) (a : A) (b : B) → ReadsFrom text left opens faults failed order leaves s s' (Ok a) → (order (opens s) (opens s') → order' (opens s) (opens s'))
      → (leaves a (left s) (left s') (opens s) (opens s') → leaves' b (left s) (left s') (opens s) (opens s')) → ReadsFrom text left opens faults failed order' leaves' s s' (Ok b)
  reads-for s s' a b h f g = record {
    texts = h.texts;
    opened = f h.opened;
    last = g h.last;
    calm = h.calm;
    stopped = tt;
  }

  -- memory was refused behind what was read
  pub reads-starved : (s s' : F) (a : A) (stop : ReadStop) (memory : Memory) → ReadsFrom text left opens faults failed order leaves s s' (Ok a) → stop ≡ Stop.Memory memory
      → (order (opens s) (opens s') → order' (opens s) (opens s')) → ReadsFrom text left opens faults failed order' leaves' s s' (Err stop)
  reads-starved s s' a stop memory h e f = record {
    texts = h.texts;
    opened = f h.opened;
    last = tt;
    calm = tt;
    stopped = rw e h.calm;
  }

  -- more was read behind what was read
  pub reads-on : (order'' : Option (List (List ℕ)) → Option (List (List ℕ)) → Type 0) (leaves'' : B → Option (List ℕ) → Option (List ℕ) → Option (List (List ℕ)) → Option (List (List ℕ)) → Type 0) (s s' s'' : F) (a : A) (r : Result B ReadStop)
      → ReadsFrom text left opens faults failed order leaves s s' (Ok a) → ReadsFrom text left opens faults failed order' leaves' s' s'' r → order'' (opens s) (opens s'')
      → ((b : B) → leaves' b (left s') (left s'') (opens s') (opens s'') → leaves'' b (left s) (left s'') (opens s) (opens s'')) → ReadsFrom text left opens faults failed order'' leaves'' s s'' r
  reads-on order'' leaves'' s s' s'' a (Ok b) h i o f = record {
    texts = λ n. i.texts n ∙ h.texts n;
    opened = o;
    last = f b i.last;
    calm = i.calm ∙ h.calm;
    stopped = tt;
  }
  reads-on order'' leaves'' s s' s'' a (Err stop) h i o f = record {
    texts = λ n. i.texts n ∙ h.texts n;
    opened = o;
    last = tt;
    calm = tt;
    stopped = stops-before stop (faults s) (faults s') (faults s'') (failed s'') h.calm i.stopped;
  }

module _ {F A : Type 0} (text : F → List ℕ → Option (List ℕ)) (left : F → Option (List ℕ)) (opens : F → Option (List (List ℕ))) (faults : F → ℕ) (failed : F → Bool) (order order' : Option (List (List ℕ)) → Option (List (List ℕ)) → Type 0)
    (leaves leaves' : A → Option (List ℕ) → Option (List ℕ) → Option (List (List ℕ)) → Option (List (List ℕ)) → Type 0) where
  -- what was read, said in other words
  pub reads-as : (s s' : F) (r : Result A ReadStop) → ReadsFrom text left opens faults failed order leaves s s' r → (order (opens s) (opens s') → order' (opens s) (opens s'))
      → ((a : A) → leaves a (left s) (left s') (opens s) (opens s') → leaves' a (left s) (left s') (opens s) (opens s')) → ReadsFrom text left opens faults failed order' leaves' s s' r
  reads-as s s' (Ok a) h f g = reads-for text left opens faults failed order order' leaves leaves' s s' a a h f (g a)
  reads-as s s' (Err stop) h f g = reads-stopped text left opens faults failed order order' leaves leaves' s s' stop h f
