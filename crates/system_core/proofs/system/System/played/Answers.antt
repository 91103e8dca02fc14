use Rattle.system_core.proofs.Together.{together, ended}
use Rattle.system_core.proofs.system.System.played.Goals as goal

pub returns-clause-played : goal.returns-clause-played
returns-clause-played c =
    together c.in_ok-system.system c.play.new.self c.args.seed c.args.limit c.in_ok-ending.ensures.played c.args.plan.now c.args.trace.now c.in_ok-system.ensures.built
    (c.in_ok-ending.ensures.system c.args.plan.now c.args.trace.now c.requires.valid c.requires.trace c.in_ok-system.ensures.system)

pub returns-clause-ended : goal.returns-clause-ended
returns-clause-ended c = ended c.args.limit c.in_ok-system.system c.play.new.self c.in_ok-ending.ending c.in_ok-system.ensures.built.journal c.in_ok-ending.ensures.quiet c.in_ok-ending.ensures.spent
