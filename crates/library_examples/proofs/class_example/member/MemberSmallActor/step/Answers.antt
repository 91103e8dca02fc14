use Rattle.std.proofs.Common.{sym, subst}
use Rattle.small_system.specs.Meanings.{Acts}
use Rattle.library_examples.specs.declared.class_example.member.Member.TheVariants as Members
use Rattle.library_examples.specs.ClassExample.Members.{member_means}
use Rattle.library_examples.proofs.ClassExample.Membering.{source_acts, joiner_acts}
use Rattle.library_examples.proofs.class_example.member.MemberSmallActor.step.Goals as goal

pub returns-in-Source-clause-acts : goal.returns-in-Source-clause-acts
returns-in-Source-clause-acts c =
    subst (λ a. Acts member_means c.args.world.now c.step.new.wires a (Members.Source c.step.new.self) c.step.result) (sym c.in-Source.is)
    (source_acts c.args.world.now c.step.new.wires c.in-Source.source c.step.new.self c.step.result c.step.ensures.stepped c.step.ensures.turned c.step.ensures.same)

pub returns-in_ok-event-in-Joiner-clause-acts : goal.returns-in_ok-event-in-Joiner-clause-acts
returns-in_ok-event-in-Joiner-clause-acts c =
    subst (λ a. Acts member_means c.args.world.now c.step-in-Joiner.new.wires a (Members.Joiner c.step-in-Joiner.new.self) c.in_ok-event-in-Joiner.field-0) (sym c.in-Joiner.is)
    (joiner_acts c.args.world.now c.step-in-Joiner.new.wires c.in-Joiner.joiner c.step-in-Joiner.new.self c.in_ok-event-in-Joiner.field-0 c.in_ok-event-in-Joiner.ensures.stepped c.in_ok-event-in-Joiner.ensures.turned c.step-in-Joiner.ensures.same)
