use Rattle.report_text.proofs.LineLemmas.{count_written}
use Rattle.i2c_play.specs.Texts.{reply_line}
use Rattle.i2c_play.proofs.writing.add_replies.Goals as goal

pub loop-k-preserved : goal.loop-k-preserved
loop-k-preserved c = count_written reply_line c.args.replies.now c.loop-k.k c.get.result.now _ _ _ c.get.ensures c.in_ok-add_reply.ensures c.loop-k.invariant
