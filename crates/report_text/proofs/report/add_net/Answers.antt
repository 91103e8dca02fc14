use Rattle.report_text.specs.Reports.{net_lines}
use Rattle.report_text.proofs.LineLemmas.{client_written}
use Rattle.report_text.proofs.report.add_net.Goals as goal

pub loop-k-preserved : goal.loop-k-preserved
loop-k-preserved c = client_written net_lines c.args.clients.now c.loop-k.k c.get.result.now _ _ _ c.get.ensures c.in_ok-add_net_client.ensures c.loop-k.invariant
