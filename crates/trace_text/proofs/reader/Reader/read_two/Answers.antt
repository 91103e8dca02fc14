use Rattle.std.proofs.Common.{refl, sym, ◌∙◌}
use Rattle.trace_text.proofs.Words.{two_rx, two_in, two_disk, two_other}
use Rattle.trace_text.proofs.reader.Reader.read_two.Goals as goal

pub returns-then-same_text : goal.returns-then-same_text
returns-then-same_text c =
    rw (two_rx c.args.plan.now c.args.name.now c.args.second.now (sym c.same_text.ensures ∙ c.if-same_text.true)) c.read_rx.ensures

pub returns-then-same_text-2 : goal.returns-then-same_text-2
returns-then-same_text-2 c =
    rw (two_in c.args.plan.now c.args.name.now c.args.second.now (sym c.same_text.ensures ∙ c.if-same_text.false) (sym c.same_text-2.ensures ∙ c.if-same_text-2.true)) c.read_in.ensures

pub returns-then-same_text-3 : goal.returns-then-same_text-3
returns-then-same_text-3 c =
    rw (two_disk c.args.plan.now c.args.name.now c.args.second.now (sym c.same_text.ensures ∙ c.if-same_text.false) (sym c.same_text-2.ensures ∙ c.if-same_text-2.false) (sym c.same_text-3.ensures ∙ c.if-same_text-3.true)) c.read_disk.ensures

pub returns : goal.returns
returns c =
    rw (two_other c.args.plan.now c.args.name.now c.args.second.now (sym c.same_text.ensures ∙ c.if-same_text.false) (sym c.same_text-2.ensures ∙ c.if-same_text-2.false) (sym c.same_text-3.ensures ∙ c.if-same_text-3.false)) refl
