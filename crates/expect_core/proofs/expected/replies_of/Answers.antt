use Rattle.std.proofs.Common.{arith}
use Rattle.expect_core.proofs.Replying.{entry_few, has_disk, has_sector, few_sectors, few_asks}
use Rattle.expect_core.proofs.expected.replies_of.Goals as goal

pub client_entry-entry-requires : goal.client_entry-entry-requires
client_entry-entry-requires c = entry_few c.args.plan.now c.args.client c.requires.valid c.requires.exists

pub asks-requires : goal.asks-requires
asks-requires c =
    let many = (c.limits_law.ensures c.args.plan.now c.args.trace.now c.requires.read).asks in
    let less = c.requires.exists in
    omega (arith, many, less)

pub replies_of-requires-clause-entry : goal.replies_of-requires-clause-entry
replies_of-requires-clause-entry c =
    let few = entry_few c.args.plan.now c.args.client c.requires.valid c.requires.exists in
    let is = c.client_entry-entry.ensures in
    omega (arith, few, is)

pub replies_of-requires-clause-sector : goal.replies_of-requires-clause-sector
replies_of-requires-clause-sector c = rw c.image.ensures (has_sector c.args.trace.now.image
    (has_disk c.args.plan.now c.args.trace.now c.args.client (c.shapes_law.ensures c.args.plan.now c.args.trace.now c.requires.read) c.requires.exists))

pub replies_of-requires-clause-sectors : goal.replies_of-requires-clause-sectors
replies_of-requires-clause-sectors c = rw c.image.ensures (few_sectors c.args.trace.now.image
    (has_disk c.args.plan.now c.args.trace.now c.args.client (c.shapes_law.ensures c.args.plan.now c.args.trace.now c.requires.read) c.requires.exists))

pub replies_of-requires-clause-ids : goal.replies_of-requires-clause-ids
replies_of-requires-clause-ids c =
    let one = few_asks c.args.trace.now.asks c.args.client c.asks.result.now c.asks.ensures in
    let all = (c.limits_law.ensures c.args.plan.now c.args.trace.now c.requires.read).requests in
    omega (arith, one, all)
