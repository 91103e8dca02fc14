use Rattle.std.proofs.Common.{refl}
use Rattle.wire_core.specs.declared.names.Op.TheVariants as Do
use Rattle.wire_core.specs.Ends.{Producer}
use Rattle.wire_core.specs.Deeds.{look_deed, move_deed}
use Rattle.base_rows.proofs.Moved.{one, then}
use Rattle.base_rows.proofs.hand.put_in.Goals as goal

pub returns : goal.returns
returns c = then Producer c.args.q.0 _ c.put.new.self _
    (then Producer c.args.q.0 _ c.room.new.self _ (one Producer c.args.q.0 _ _ (look_deed c.args.q Do.Room c.room.result) refl refl c.room.ensures.did) (one Producer c.args.q.0 _ _ (move_deed c.args.q Do.Put _) refl refl c.put.ensures.did))
    c.notify.ensures
