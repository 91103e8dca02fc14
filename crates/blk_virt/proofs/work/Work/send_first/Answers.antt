use Rattle.std.proofs.Common.{Option, is_some, not, ap, ◌∙◌}
use Rattle.wire_core.specs.Deeds.{Cargo, put_of}
use Rattle.blk_virt.proofs.Moving.{there_is, put_cases}
use Rattle.blk_virt.proofs.Sending.{first_went, first_stays}
use Rattle.blk_virt.proofs.work.Work.send_first.Goals as goal

pub returns-then-is_none-clause-sent : goal.returns-then-is_none-clause-sent
returns-then-is_none-clause-sent g c =
    let a = there_is c.args.self.now.opening.first c.requires.some in
    first_went c.args.self.now c.requires.work a.0 a.1 c.step_output-event.new.load (put_of c.step_output-event.result c.args.self.now.opening.first) (c.is_none.ensures ∙ ap not c.if-is_none.true) (put_cases c.args.self.now.opening.first (put_of c.step_output-event.result c.args.self.now.opening.first) c.step_output-event.new.load a.0 a.1 c.step_output-event.ensures.load)

pub returns-else-is_none-clause-sent : goal.returns-else-is_none-clause-sent
returns-else-is_none-clause-sent g c =
    let a = there_is c.args.self.now.opening.first c.requires.some in
    first_stays c.args.self.now c.requires.work a.0 a.1 c.step_output-event.new.load (put_of c.step_output-event.result c.args.self.now.opening.first) (c.is_none.ensures ∙ ap not c.if-is_none.false) (put_cases c.args.self.now.opening.first (put_of c.step_output-event.result c.args.self.now.opening.first) c.step_output-event.new.load a.0 a.1 c.step_output-event.ensures.load)

pub returns-then-is_none-clause-still : goal.returns-then-is_none-clause-still
returns-then-is_none-clause-still g c = λ m.
    let a = there_is c.args.self.now.opening.first c.requires.some in
    let some = ap (λ (o : Option Cargo). is_some o) (c.step_output-event.ensures.still m ∙ a.1) in
    let none = c.is_none.ensures ∙ ap not c.if-is_none.true in
    absurd cc
