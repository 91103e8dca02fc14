use Rattle.sdf_check.specs.ClassRules.{class_domains}
use Rattle.sdf_check.proofs.repeats.has_role.Goals as goal

pub returns : goal.returns
returns c = c.is_named.ensures (class_domains c.args.judge.now.plan.now) c.requires.domains.places
