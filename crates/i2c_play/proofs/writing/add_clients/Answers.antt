use Rattle.report_text.proofs.LineLemmas.{client_written}
use Rattle.i2c_play.specs.Texts.{replies_lines}
use Rattle.i2c_play.proofs.writing.add_clients.Goals as goal

pub loop-c-preserved : goal.loop-c-preserved
loop-c-preserved c = client_written replies_lines c.args.clients.now c.loop-c.c c.get.result.now _ _ _ c.get.ensures c.in_ok-add_replies.ensures c.loop-c.invariant
