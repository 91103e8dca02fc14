use Rattle.std.proofs.Common.{refl, sym, ◌∙◌}
use Rattle.trace_text.proofs.Words.{three_send, three_say, three_bytes, three_blk, three_other}
use Rattle.trace_text.proofs.reader.Reader.read_three.Goals as goal

pub returns-then-same_text : goal.returns-then-same_text
returns-then-same_text c =
    rw (three_send c.args.plan.now c.args.name.now c.args.second.now c.args.third.now (sym c.same_text.ensures ∙ c.if-same_text.true)) c.read_send.ensures

pub returns-then-same_text-2 : goal.returns-then-same_text-2
returns-then-same_text-2 c =
    rw (three_say c.args.plan.now c.args.name.now c.args.second.now c.args.third.now (sym c.same_text.ensures ∙ c.if-same_text.false) (sym c.same_text-2.ensures ∙ c.if-same_text-2.true)) c.read_say.ensures

pub returns-then-same_text-3 : goal.returns-then-same_text-3
returns-then-same_text-3 c =
    rw (three_bytes c.args.plan.now c.args.name.now c.args.second.now c.args.third.now (sym c.same_text.ensures ∙ c.if-same_text.false) (sym c.same_text-2.ensures ∙ c.if-same_text-2.false) (sym c.same_text-3.ensures ∙ c.if-same_text-3.true)) c.read_bytes.ensures

pub returns-then-same_text-4 : goal.returns-then-same_text-4
returns-then-same_text-4 c =
    rw (three_blk c.args.plan.now c.args.name.now c.args.second.now c.args.third.now (sym c.same_text.ensures ∙ c.if-same_text.false) (sym c.same_text-2.ensures ∙ c.if-same_text-2.false) (sym c.same_text-3.ensures ∙ c.if-same_text-3.false) (sym c.same_text-4.ensures ∙ c.if-same_text-4.true)) c.read_order.ensures

pub returns : goal.returns
returns c =
    rw (three_other c.args.plan.now c.args.name.now c.args.second.now c.args.third.now (sym c.same_text.ensures ∙ c.if-same_text.false) (sym c.same_text-2.ensures ∙ c.if-same_text-2.false) (sym c.same_text-3.ensures ∙ c.if-same_text-3.false) (sym c.same_text-4.ensures ∙ c.if-same_text-4.false)) refl
