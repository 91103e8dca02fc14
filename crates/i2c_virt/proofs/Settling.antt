-- Whether an end is settled, where what is needed there is asked last.
use Rattle.std.proofs.Common.{◌≡◌, ◌&&◌, ◌||◌, Bool, true, false, not, refl, sym}
use Rattle.wire_core.specs.Bells.{is_free}
use Rattle.wire_core.specs.Ends.{is_clear}
use Rattle.turn_kit.specs.Table.{is_settled}
use Rattle.turn_kit.specs.declared.end_state.EndState.{EndState}

-- an end that rings is settled in no case, and one that is clear then in each

pub never_settled : (s : EndState) (n : Bool) → is_settled s false ≡ false → false ≡ is_settled s n
never_settled s n h = by (is_free s.ringer) (is_clear s.waiter) n h
  where
    by : (a b n : Bool) → (a && true) ≡ false → false ≡ (a && (not n || b))
    by true b n h = cc
    by false b n h = refl

pub ever_settled : (s : EndState) (n : Bool) → is_settled s true ≡ true → true ≡ is_settled s n
ever_settled s n h = by (is_free s.ringer) (is_clear s.waiter) n h
  where
    by : (a b n : Bool) → (a && (false || b)) ≡ true → true ≡ (a && (not n || b))
    by true true true h = refl
    by true true false h = refl
    by true false n h = cc
    by false b n h = cc

pub settled_by_need : (s : EndState) (n : Bool) → is_settled s false ≡ true → is_settled s true ≡ false → not n ≡ is_settled s n
settled_by_need s true idle loaded = sym loaded
settled_by_need s false idle loaded = sym idle
