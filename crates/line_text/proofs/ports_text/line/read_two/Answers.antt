use Rattle.std.proofs.Common.{◌≡◌, Some, None, refl, sym, ◌∙◌}
use Rattle.line_text.proofs.PortsText.Words.{two_port, two_other}
use Rattle.line_text.proofs.ports_text.line.read_two.Goals as goal

pub returns-then-not-same_text : goal.returns-then-not-same_text
returns-then-not-same_text c = sym (two_other c.args.name.now c.args.word.now (sym c.same_text.ensures ∙ c.if-not-same_text.true))

pub returns-in_err-mac : goal.returns-in_err-mac
returns-in_err-mac c = rw c.from_residual.ensures (two_port c.args.name.now c.args.word.now None (sym c.same_text.ensures ∙ c.if-not-same_text.false) c.in_err-mac.ensures)

pub returns : goal.returns
returns c = two_port c.args.name.now c.args.word.now (Some c.in_ok-mac.mac) (sym c.same_text.ensures ∙ c.if-not-same_text.false) c.in_ok-mac.ensures
