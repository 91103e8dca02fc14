use Rattle.std.proofs.Common.{length, refl, ap, ◌∙◌, arith}
use Rattle.trace_text.specs.Limits.{frame_most}
use Rattle.cast_core.specs.Making.{tx_ends}
use Rattle.cast_core.proofs.Listing.{value_count}
use Rattle.cast_core.proofs.Making.{net_rows, tx_ranges, tx_fits, tx_part}
use Rattle.cast_core.proofs.network.sender.Goals as goal

pub tx_ends-requires-clause-rows : goal.tx_ends-requires-clause-rows
tx_ends-requires-clause-rows c = net_rows c.args.pools.now c.args.clients c.requires.pools

pub ranges-requires-clause-ranges : goal.ranges-requires-clause-ranges
ranges-requires-clause-ranges c = tx_ranges c.args.pools.now c.args.clients c.deref.result.now (c.deref.ensures.value ∙ c.in_ok-ends.ensures) c.requires.pools

pub ranges-requires-clause-few : goal.ranges-requires-clause-few
ranges-requires-clause-few c =
    let long = ap length (c.deref.ensures.value ∙ c.in_ok-ends.ensures) ∙ value_count c.args.clients (tx_ends c.args.pools.now) in
    let few = c.requires.few in
    omega (arith, long, few)

pub new-requires : goal.new-requires
new-requires c = tx_fits c.args.pools.now c.args.clients c.in_ok-ends.ends.items c.in_ok-ranges.ranges c.in_ok-ends.ensures c.requires.pools c.requires.few (rw c.deref.ensures.value at c.in_ok-ranges.ensures)

pub returns-clause-part : goal.returns-clause-part
returns-clause-part c =
    tx_part c.args.pools.now c.args.clients (frame_most c.args.plan.now) c.in_ok-ends.ends.items c.in_ok-new.field-0 c.in_ok-ends.ensures (record { 0 = 6 }) (record { 0 = 7 }) refl refl (rw c.frame_most-most.ensures at c.in_ok-new.ensures.new)

pub overflow_cast-most : goal.overflow_cast-most
overflow_cast-most c = let small = c.requires.longest in omega (arith, small, c.frame_most-most.ensures)
