use Rattle.std.proofs.Common.{◌≡◌, Some, None, refl, sym, ◌∙◌}
use Rattle.i2c_text.proofs.Words.{two_clients, two_device, two_other}
use Rattle.i2c_text.proofs.line.read_two.Goals as goal

pub returns-in_err-count : goal.returns-in_err-count
returns-in_err-count c = rw c.from_residual.ensures (two_clients c.args.name.now c.args.word.now None (sym c.same_text.ensures ∙ c.if-same_text.true) c.in_err-count.ensures)

pub returns-then-same_text : goal.returns-then-same_text
returns-then-same_text c = two_clients c.args.name.now c.args.word.now (Some c.in_ok-count.count) (sym c.same_text.ensures ∙ c.if-same_text.true) c.in_ok-count.ensures

pub returns-in_err-address : goal.returns-in_err-address
returns-in_err-address c = rw c.from_residual-in_err-address.ensures (two_device c.args.name.now c.args.word.now None (sym c.same_text.ensures ∙ c.if-same_text.false) (sym c.same_text-2.ensures ∙ c.if-same_text-2.true) c.in_err-address.ensures)

pub returns-then-same_text-2 : goal.returns-then-same_text-2
returns-then-same_text-2 c = two_device c.args.name.now c.args.word.now (Some c.in_ok-address.address) (sym c.same_text.ensures ∙ c.if-same_text.false) (sym c.same_text-2.ensures ∙ c.if-same_text-2.true) c.in_ok-address.ensures

pub returns : goal.returns
returns c = sym (two_other c.args.name.now c.args.word.now (sym c.same_text.ensures ∙ c.if-same_text.false) (sym c.same_text-2.ensures ∙ c.if-same_text-2.false))
