use Rattle.std.proofs.Common.{subst}
use Rattle.small_system.specs.Meanings.{IsFit}
use Rattle.bus_law.specs.declared.i2c_actors.member.Member.{Member}
use Rattle.bus_law.specs.I2cActors.Members.{member_means}
use Rattle.bus_law.proofs.i2c_actors.member.MemberSmallActor.at_rest.Goals as goal

pub at_rest-requires-in-Virt : goal.at_rest-requires-in-Virt
at_rest-requires-in-Virt c = (subst (λ (m : Member). IsFit member_means m) c.in-Virt.is c.requires).1.knows
