use Rattle.std.proofs.Common.{◌+◌, ap}
use Rattle.frame_core.specs.declared.mac.Mac.{Mac}
use Rattle.net_virt_rx.specs.declared.LeaseEnds.{LeaseEnds}
use Rattle.net_law.specs.Parts.Numbers.{client_first}
use Rattle.cast_core.specs.Making.{lease_ends}
use Rattle.cast_core.proofs.Listing.{one_more}
use Rattle.cast_core.proofs.network.lease_ends.Goals as goal

pub loop-c-preserved : goal.loop-c-preserved
loop-c-preserved c =
    let made : Mac → LeaseEnds = λ m. record { mac = m; active = record { 0 = client_first 0 c.loop-c.c }; free = record { 0 = client_first 0 c.loop-c.c + 1 } } in
    one_more c.loop-c.c (lease_ends c.args.plan.now) c.loop-c.ends.items c.push.new.self.items _ c.loop-c.invariant c.in_ok-push.ensures.items (ap made c.client_mac.ensures)
