use Rattle.std.proofs.Common.{refl, sym, ◌∙◌}
use Rattle.trace_text.proofs.Words.{long_blk, long_rogue, long_other}
use Rattle.trace_text.proofs.reader.Reader.read_long.Goals as goal

pub returns-then-same_text : goal.returns-then-same_text
returns-then-same_text c =
    rw (long_blk c.args.plan.now c.args.name.now c.args.second.now c.args.third.now c.args.rest.now (sym c.same_text.ensures ∙ c.if-same_text.true)) c.read_blk.ensures

pub returns-then-same_text-2 : goal.returns-then-same_text-2
returns-then-same_text-2 c =
    rw (long_rogue c.args.plan.now c.args.name.now c.args.second.now c.args.third.now c.args.rest.now (sym c.same_text.ensures ∙ c.if-same_text.false) (sym c.same_text-2.ensures ∙ c.if-same_text-2.true)) c.read_rogue.ensures

pub returns : goal.returns
returns c =
    rw (long_other c.args.plan.now c.args.name.now c.args.second.now c.args.third.now c.args.rest.now (sym c.same_text.ensures ∙ c.if-same_text.false) (sym c.same_text-2.ensures ∙ c.if-same_text-2.false)) refl
