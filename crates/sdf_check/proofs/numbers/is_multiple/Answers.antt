use Rattle.sdf_check.proofs.RuleLemmas.{multiple-iff}
use Rattle.sdf_check.proofs.numbers.is_multiple.Goals as goal

pub returns-else-of-eq0 : goal.returns-else-of-eq0
returns-else-of-eq0 c = multiple-iff c.args.number c.args.of
