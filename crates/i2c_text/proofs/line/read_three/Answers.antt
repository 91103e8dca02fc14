use Rattle.std.proofs.Common.{◌≡◌, Some, None, refl, sym, ◌∙◌}
use Rattle.i2c_text.specs.Lines.{address_of}
use Rattle.i2c_text.proofs.Words.{three_claim, three_other}
use Rattle.i2c_text.proofs.line.read_three.Goals as goal

pub returns-then-not-same_text : goal.returns-then-not-same_text
returns-then-not-same_text c = sym (three_other c.args.name.now c.args.client.now c.args.address.now (sym c.same_text.ensures ∙ c.if-not-same_text.true))

pub returns-in_err-client : goal.returns-in_err-client
returns-in_err-client c = rw c.from_residual.ensures (three_claim c.args.name.now c.args.client.now c.args.address.now None (address_of c.args.address.now) (sym c.same_text.ensures ∙ c.if-not-same_text.false) c.in_err-client.ensures refl)

pub returns-in_err-address : goal.returns-in_err-address
returns-in_err-address c = rw c.from_residual-in_err-address.ensures (three_claim c.args.name.now c.args.client.now c.args.address.now (Some c.in_ok-client.client) None (sym c.same_text.ensures ∙ c.if-not-same_text.false) c.in_ok-client.ensures c.in_err-address.ensures)

pub returns : goal.returns
returns c = three_claim c.args.name.now c.args.client.now c.args.address.now (Some c.in_ok-client.client) (Some c.in_ok-address.address) (sym c.same_text.ensures ∙ c.if-not-same_text.false) c.in_ok-client.ensures c.in_ok-address.ensures
