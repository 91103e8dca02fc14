use Rattle.std.proofs.Common.{subst}
use Rattle.system_core.specs.Lawful.{StandsLawful}
use Rattle.system_core.proofs.Hearing.{stands_lawful}
use Rattle.system_core.proofs.Together.{of_plan}
use Rattle.system_core.proofs.system.System.stand.Goals as goal

pub returns-clause-stands : goal.returns-clause-stands
returns-clause-stands c = subst StandsLawful c.self.view_is (stands_lawful c.self.inside c.self.invariant)

pub returns-clause-of_plan : goal.returns-clause-of_plan
returns-clause-of_plan c = of_plan _ (subst StandsLawful c.self.view_is (stands_lawful c.self.inside c.self.invariant)) c.serial_law.ensures.beside c.serial_law.ensures.whole
