use Rattle.std.proofs.Common.{◌≡◌, Some, None, refl, sym, ◌∙◌}
use Rattle.line_text.proofs.PortsText.Words.{meaning_skipped, meaning_words, one_word}
use Rattle.line_text.proofs.ports_text.line.read_line.Goals as goal

pub returns-then-is_skipped : goal.returns-then-is_skipped
returns-then-is_skipped c = sym (meaning_skipped c.args.line.now (sym c.is_skipped.ensures ∙ c.if-is_skipped.true))

pub returns-in-None : goal.returns-in-None
returns-in-None c = rw (meaning_words c.args.line.now (sym c.is_skipped.ensures ∙ c.if-is_skipped.false), c.in-None.ensures.parts) (sym (one_word c.args.line.now))

pub returns-in-Some : goal.returns-in-Some
returns-in-Some c = rw (meaning_words c.args.line.now (sym c.is_skipped.ensures ∙ c.if-is_skipped.false), c.in-Some.ensures.parts) c.read_named.ensures
