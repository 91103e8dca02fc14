use Rattle.std.proofs.Common.{refl, sym, ◌∙◌}
use Rattle.trace_text.proofs.Words.{meaning_skipped, meaning_words, one_word}
use Rattle.trace_text.proofs.reader.Reader.read_line.Goals as goal

pub returns-then-is_skipped : goal.returns-then-is_skipped
returns-then-is_skipped c =
    rw (meaning_skipped c.args.plan.now c.args.line.now (sym c.is_skipped.ensures ∙ c.if-is_skipped.true)) refl

pub returns-in-None : goal.returns-in-None
returns-in-None c =
    rw (meaning_words c.args.plan.now c.args.line.now (sym c.is_skipped.ensures ∙ c.if-is_skipped.false), c.in-None.ensures.parts, one_word c.args.plan.now c.args.line.now) refl

pub returns-in-Some : goal.returns-in-Some
returns-in-Some c =
    rw (meaning_words c.args.plan.now c.args.line.now (sym c.is_skipped.ensures ∙ c.if-is_skipped.false), c.in-Some.ensures.parts) c.read_named.ensures
