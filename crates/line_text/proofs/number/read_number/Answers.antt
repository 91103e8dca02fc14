use Rattle.std.proofs.Common.{sym, ◌∙◌, refl}
use Rattle.line_text.proofs.Numbers.{huge_digits, read_all}
use Rattle.line_text.proofs.number.read_number.Goals as goal

pub returns-in-None-clause-none : goal.returns-in-None-clause-none
returns-in-None-clause-none c = huge_digits _ _ _ _ (sym c.is_number.ensures ∙ c.if-not-is_number.false) c.loop-c-test.true c.loop-c.invariant refl c.in-None.ensures

pub returns-clause-some : goal.returns-clause-some
returns-clause-some c = read_all _ _ _ (sym c.is_number.ensures ∙ c.if-not-is_number.false) c.loop-c-test.false c.loop-c.invariant
