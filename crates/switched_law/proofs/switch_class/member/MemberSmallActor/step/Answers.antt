use Rattle.std.proofs.Common.{sym, subst}
use Rattle.small_system.specs.Meanings.{Acts}
use Rattle.switched_law.specs.declared.switch_class.member.Member.TheVariants as Members
use Rattle.switched_law.specs.SwitchClass.Members.{member_means}
use Rattle.switched_law.proofs.SwitchClass.Membering.{client_acts, switch_acts}
use Rattle.switched_law.proofs.switch_class.member.MemberSmallActor.step.Goals as goal

pub returns-in_ok-event-in-Client-clause-acts : goal.returns-in_ok-event-in-Client-clause-acts
returns-in_ok-event-in-Client-clause-acts c =
    subst (λ a. Acts member_means c.args.world.now c.step.new.wires a (Members.Client c.step.new.self) c.in_ok-event-in-Client.field-0) (sym c.in-Client.is)
    (client_acts c.args.world.now c.step.new.wires c.in-Client.client c.step.new.self c.in_ok-event-in-Client.field-0 c.in_ok-event-in-Client.ensures.stepped c.in_ok-event-in-Client.ensures.turned c.step.ensures.same)

pub returns-in-Switch-clause-acts : goal.returns-in-Switch-clause-acts
returns-in-Switch-clause-acts c =
    subst (λ a. Acts member_means c.args.world.now c.step-in-Switch.new.wires a (Members.Switch c.step-in-Switch.new.self) c.step-in-Switch.result) (sym c.in-Switch.is)
    (switch_acts c.args.world.now c.step-in-Switch.new.wires c.in-Switch.switch c.step-in-Switch.new.self c.step-in-Switch.result c.step-in-Switch.ensures.stepped c.step-in-Switch.ensures.turned c.step-in-Switch.ensures.same)
