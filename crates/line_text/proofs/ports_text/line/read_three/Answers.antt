use Rattle.std.proofs.Common.{◌≡◌, Some, None, refl, sym, ◌∙◌}
use Rattle.line_text.specs.PortsText.Lines.{frame_of}
use Rattle.line_text.proofs.PortsText.Words.{three_send, three_other}
use Rattle.line_text.proofs.ports_text.line.read_three.Goals as goal

pub returns-then-not-same_text : goal.returns-then-not-same_text
returns-then-not-same_text c = sym (three_other c.args.name.now c.args.port.now c.args.word.now (sym c.same_text.ensures ∙ c.if-not-same_text.true))

pub returns-in-None : goal.returns-in-None
returns-in-None c = three_send c.args.name.now c.args.port.now c.args.word.now None (frame_of c.args.word.now) (sym c.same_text.ensures ∙ c.if-not-same_text.false) c.in-None.ensures refl

pub returns-in-None-2 : goal.returns-in-None-2
returns-in-None-2 c = let none = rw c.in-None-2.is at c.in_ok-frame.ensures in three_send c.args.name.now c.args.port.now c.args.word.now (Some c.in-Some.port) None (sym c.same_text.ensures ∙ c.if-not-same_text.false) c.in-Some.ensures none

pub returns : goal.returns
returns c = let read = rw c.in-Some-2.is at c.in_ok-frame.ensures in three_send c.args.name.now c.args.port.now c.args.word.now (Some c.in-Some.port) (Some c.in-Some-2.frame) (sym c.same_text.ensures ∙ c.if-not-same_text.false) c.in-Some.ensures read
