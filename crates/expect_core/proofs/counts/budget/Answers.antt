use Rattle.expect_core.proofs.Limits.{within_limits}
use Rattle.expect_core.proofs.counts.budget.Goals as goal

pub counts-requires : goal.counts-requires
counts-requires c = within_limits c.args.plan.now c.args.trace.now c.requires.valid (c.limits_law.ensures c.args.plan.now c.args.trace.now c.requires.read)

pub budget-requires : goal.budget-requires
budget-requires c = rw c.counts.ensures (within_limits c.args.plan.now c.args.trace.now c.requires.valid (c.limits_law.ensures c.args.plan.now c.args.trace.now c.requires.read))
