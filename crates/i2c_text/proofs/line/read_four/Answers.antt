use Rattle.std.proofs.Common.{◌≡◌, Some, None, refl, sym, ◌∙◌}
use Rattle.i2c_text.proofs.Words.{four_read, four_write, four_other}
use Rattle.i2c_text.proofs.line.read_four.Goals as goal

pub returns-then-same_text : goal.returns-then-same_text
returns-then-same_text c = c.read_read.ensures ∙ sym (four_read c.args.name.now c.args.client.now c.args.address.now c.args.word.now (sym c.same_text.ensures ∙ c.if-same_text.true))

pub returns-then-same_text-2 : goal.returns-then-same_text-2
returns-then-same_text-2 c = rw (four_write c.args.name.now c.args.client.now c.args.address.now c.args.word.now (sym c.same_text.ensures ∙ c.if-same_text.false) (sym c.same_text-2.ensures ∙ c.if-same_text-2.true)) c.read_write.ensures

pub returns : goal.returns
returns c = sym (four_other c.args.name.now c.args.client.now c.args.address.now c.args.word.now (sym c.same_text.ensures ∙ c.if-same_text.false) (sym c.same_text-2.ensures ∙ c.if-same_text-2.false))
