use Rattle.std.proofs.Common.{refl}
use Rattle.wire_core.specs.declared.names.Op.TheVariants as Do
use Rattle.wire_core.specs.Ends.{Consumer}
use Rattle.wire_core.specs.Deeds.{look_deed, move_deed}
use Rattle.base_rows.proofs.Moved.{one, then}
use Rattle.base_rows.proofs.hand.get_entry.Goals as goal

pub returns : goal.returns
returns c = then Consumer c.args.q.0 _ c.take-entry.new.self _
    (then Consumer c.args.q.0 _ c.see.new.self _ (one Consumer c.args.q.0 _ _ (look_deed c.args.q Do.See c.see.result) refl refl c.see.ensures.did) (one Consumer c.args.q.0 _ _ (move_deed c.args.q Do.Take c.take-entry.result) refl refl c.take-entry.ensures.did))
    c.notify.ensures
