use Rattle.report_text.specs.Reports.{serial_line}
use Rattle.report_text.proofs.LineLemmas.{count_written}
use Rattle.report_text.proofs.summary.add_serial.Goals as goal

pub loop-k-preserved : goal.loop-k-preserved
loop-k-preserved c = count_written serial_line c.args.clients.now c.loop-k.k c.get.result.now _ _ _ c.get.ensures c.in_ok-add_serial_line.ensures c.loop-k.invariant
