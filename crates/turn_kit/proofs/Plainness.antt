-- The calls of the table beside stores.
use Rattle.std.proofs.Common.{◌≡◌, Bool, true, false, refl, Option, Some, None}
use Rattle.wire_core.specs.declared.names.Ringer.{Ringer}
use Rattle.wire_core.specs.declared.names.Ringer.TheVariants as Rung
use Rattle.wire_core.specs.declared.names.Waiter.{Waiter}
use Rattle.wire_core.specs.declared.names.Waiter.TheVariants as Wait
use Rattle.wire_core.specs.declared.names.Side.{Side}
use Rattle.wire_core.specs.declared.names.Side.TheVariants.{Forward, Backward}
use Rattle.wire_core.specs.Queues.{is_store}
use Rattle.turn_kit.specs.declared.end_state.EndState.{EndState}
use Rattle.turn_kit.specs.Table.{next_of, next_op}

-- no call of the table is a store
plain_of : (r : Ringer) (w : Waiter) (need : Bool) (look : Option Bool) (s : Side) → is_store (next_of r w need look s) ≡ false
plain_of Rung.Put w need look s = refl
plain_of Rung.Hot w need look s = refl
plain_of Rung.Ringing w need look s = refl
plain_of Rung.Free Wait.Clear need look s = refl
plain_of Rung.Free Wait.Off false look s = refl
plain_of Rung.Free Wait.Busy false look s = refl
plain_of Rung.Free Wait.Asked false look s = refl
plain_of Rung.Free Wait.Asked true (Some true) s = refl
plain_of Rung.Free Wait.Asked true (Some false) Forward = refl
plain_of Rung.Free Wait.Asked true (Some false) Backward = refl
plain_of Rung.Free Wait.Asked true None Forward = refl
plain_of Rung.Free Wait.Asked true None Backward = refl
plain_of Rung.Free Wait.Busy true (Some true) Forward = refl
plain_of Rung.Free Wait.Busy true (Some true) Backward = refl
plain_of Rung.Free Wait.Busy true (Some false) s = refl
plain_of Rung.Free Wait.Busy true None Forward = refl
plain_of Rung.Free Wait.Busy true None Backward = refl
plain_of Rung.Free Wait.Off true (Some true) Forward = refl
plain_of Rung.Free Wait.Off true (Some true) Backward = refl
plain_of Rung.Free Wait.Off true (Some false) s = refl
plain_of Rung.Free Wait.Off true None Forward = refl
plain_of Rung.Free Wait.Off true None Backward = refl

pub plain_next : (k : EndState) (s : Side) (need : Bool) → is_store (next_op k s need) ≡ false
plain_next k s need = plain_of k.ringer k.waiter need k.look s
