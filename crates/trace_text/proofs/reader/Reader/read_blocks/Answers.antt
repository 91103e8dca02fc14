use Rattle.std.proofs.Common.{refl, sym, ◌∙◌}
use Rattle.trace_text.proofs.Words.{blk_read, blk_not_read, blk_write, blk_not_write, blk_too_many}
use Rattle.trace_text.proofs.reader.Reader.read_blocks.Goals as goal

pub returns-then-not-same_text : goal.returns-then-not-same_text
returns-then-not-same_text c =
    rw (c.in-None.ensures.parts, blk_not_read c.args.plan.now c.args.client.now c.args.code.now c.args.first.now c.args.rest.now (sym c.same_text.ensures ∙ c.if-not-same_text.true)) refl

pub returns-then-not-same_text-2 : goal.returns-then-not-same_text-2
returns-then-not-same_text-2 c =
    rw (c.in-Some.ensures.parts, blk_not_write c.args.plan.now c.args.client.now c.args.code.now c.args.first.now c.in-Some.many.now c.in-Some.word.now (sym c.same_text-in-Some.ensures ∙ c.if-not-same_text-2.true)) refl

pub returns-else-not-same_text : goal.returns-else-not-same_text
returns-else-not-same_text c =
    rw (c.in-None.ensures.parts, blk_read c.args.plan.now c.args.client.now c.args.code.now c.args.first.now c.args.rest.now (sym c.same_text.ensures ∙ c.if-not-same_text.false)) c.read_read.ensures

pub returns-in-Some-split_once : goal.returns-in-Some-split_once
returns-in-Some-split_once c =
    rw (c.in-Some.ensures.parts, c.in-Some-split_once.ensures.parts, blk_too_many c.args.plan.now c.args.client.now c.args.code.now c.args.first.now c.in-Some.many.now c.in-Some-split_once.field-0.0.now c.in-Some-split_once.field-0.1.now) refl

pub returns-in-None-split_once : goal.returns-in-None-split_once
returns-in-None-split_once c =
    rw (c.in-Some.ensures.parts, c.in-None-split_once.ensures.parts, blk_write c.args.plan.now c.args.client.now c.args.code.now c.args.first.now c.in-Some.many.now c.in-Some.word.now (sym c.same_text-in-Some.ensures ∙ c.if-not-same_text-2.false)) c.read_write.ensures
