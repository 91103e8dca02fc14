use Rattle.report_text.specs.Reports.{pool_line}
use Rattle.report_text.proofs.LineLemmas.{line_written}
use Rattle.report_text.proofs.report.add_pools.Goals as goal

pub loop-k-preserved : goal.loop-k-preserved
loop-k-preserved c = line_written pool_line c.args.pools.now c.loop-k.k c.get.result.now _ _ _ c.get.ensures c.in_ok-add_pool.ensures c.loop-k.invariant
