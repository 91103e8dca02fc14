use Rattle.std.proofs.Common.{rules}
use Rattle.i2c_virt.proofs.Loosening.{before_next, next_set, next_none}
use Rattle.i2c_virt.proofs.loose.Loose.next.Goals as goal

pub returns-clause-between : goal.returns-clause-between
returns-clause-between c = λ k le lt. before_next c.args.self.bits c.args.place k (search rules) le lt

pub returns-clause-set : goal.returns-clause-set
returns-clause-set c = λ lt. next_set c.args.self.bits c.args.place (search rules) lt

pub returns-clause-none : goal.returns-clause-none
returns-clause-none c = λ le. next_none c.args.self.bits c.args.place (search rules) le
