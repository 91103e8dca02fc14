use Rattle.report_text.specs.Reports.{reply_line}
use Rattle.report_text.proofs.LineLemmas.{line_written}
use Rattle.report_text.proofs.report.add_blk_client.Goals as goal

pub loop-k-preserved : goal.loop-k-preserved
loop-k-preserved c = line_written reply_line c.args.replies.now c.loop-k.k c.get.result.now _ _ _ c.get.ensures c.in_ok-add_reply.ensures c.loop-k.invariant
