use Rattle.std.proofs.Common.{◌≡◌, ◌+◌, ℕ, zero, suc, Bool, true, false, not, Some, List, [], ◌∷◌, slice_get, refl, arith}
use Rattle.wire_core.specs.declared.names.QueueRow.{QueueRow}
use Rattle.wire_core.specs.declared.names.Entry.{Entry}
use Rattle.wire_core.specs.Journal.{History}
use Rattle.play_core.specs.Wants.{Want, Needful, all_settled}
use Rattle.play_core.specs.Manners.{Manner, Calm, Hostile, Manners, is_hostile, hostile_by}
use Rattle.play_core.specs.Runs.{called_from, is_runnable, flags_from, places_from}
use Rattle.play_core.specs.Still.{IsQuiet, IsStill}
use Rattle.play_core.proofs.Lists.{there_is}
use Rattle.play_core.proofs.Flags.{flag_at}
use Rattle.play_core.proofs.Stillness.{neither_left, neither_right}

-- no place where it is so
none_so : (k : ℕ) (bs : List Bool) → places_from k bs ≡ [] → (i : ℕ) (b : Bool) → slice_get bs i ≡ Some b → b ≡ false
none_so k [] none i b at = cc
none_so k (true ∷ bs) none i b at = cc
none_so k (false ∷ bs) none zero b at = cc
none_so k (false ∷ bs) none (suc i) b at = none_so (k + 1) bs none i b at

not_false : (b : Bool) → not b ≡ false → b ≡ true
not_false true h = refl
not_false false h = cc

-- a calm actor that isn't runnable is settled, and isn't called
idle_calm : (m : Manner) (k : ℕ) (ws : List Want) (history : History) (rows : List QueueRow) (journal : List Entry) → is_hostile m ≡ false → is_runnable m k ws history rows journal ≡ false → (all_settled history journal ws ≡ true) × (called_from k 0 history rows journal ≡ false)
idle_calm Calm k ws history rows journal calm idle = (not_false _ (neither_left _ _ idle), neither_right _ _ idle)
idle_calm (Hostile done) k ws history rows journal calm idle = cc

-- where nobody is runnable, all ends are settled and nobody is called
pub quiet_still : (manner : Manners) (history : History) (rows : List QueueRow) (actors : Needful) (journal : List Entry) → IsQuiet manner history rows actors journal → IsStill (hostile_by manner) history rows actors journal
quiet_still manner history rows actors journal q = record {
  bells_hold = q.bells_hold;
  flows = q.flows;
  peopled = q.peopled;
  settled = λ k ws calm at. (idle_calm (manner k) k ws history rows journal calm (idle k ws at)).0;
  uncalled = λ k calm lt. let x = there_is actors k lt in (idle_calm (manner k) k x.0 history rows journal calm (idle k x.0 x.1)).1;
}
  where
    idle : (k : ℕ) (ws : List Want) → slice_get actors k ≡ Some ws → is_runnable (manner k) k ws history rows journal ≡ false
    idle k ws at = none_so 0 (flags_from manner 0 history rows actors journal) q.quiet k _ (flag_at manner 0 history rows actors journal k k ws (omega arith) at)
