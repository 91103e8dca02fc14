use Rattle.std.proofs.Common.{◌≡◌, length}
use Rattle.sdf_check.specs.Meetings.{AreFirstMapsUpTo}
use Rattle.sdf_check.proofs.tables.first_maps.Given as goal

abbrev pub invariant-loop-domain : goal.invariant-loop-domain
invariant-loop-domain l = (length l.firsts.items ≡ l.domain-index) × AreFirstMapsUpTo l.judge.plan.now l.firsts.items l.domain-index
