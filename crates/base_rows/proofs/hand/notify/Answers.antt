use Rattle.std.proofs.Common.{refl}
use Rattle.wire_core.specs.declared.names.Op.TheVariants as Do
use Rattle.wire_core.specs.Ends.{ringing_role}
use Rattle.wire_core.specs.Deeds.{look_deed, plain_deed}
use Rattle.base_rows.proofs.Moved.{one, then}
use Rattle.base_rows.proofs.hand.notify.Goals as goal

pub returns-then-wanted : goal.returns-then-wanted
returns-then-wanted c = then (ringing_role c.args.side) c.args.q.0 _ c.settle.new.self _
    (then (ringing_role c.args.side) c.args.q.0 _ c.wanted.new.self _ (one (ringing_role c.args.side) c.args.q.0 _ _ (look_deed c.args.q (Do.Wanted c.args.side) c.wanted.result) refl refl c.wanted.ensures.did) (one (ringing_role c.args.side) c.args.q.0 _ _ (plain_deed c.args.q (Do.Settle c.args.side)) refl refl c.settle.ensures.did))
    (one (ringing_role c.args.side) c.args.q.0 _ _ (plain_deed c.args.q (Do.Ring c.args.side)) refl refl c.ring.ensures.did)
