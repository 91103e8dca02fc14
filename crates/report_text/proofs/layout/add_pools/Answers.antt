use Rattle.std.proofs.Common.{refl}
use Rattle.std.proofs.lemmas.Option.{slice_get_read}
use Rattle.report_text.specs.Layouts.{layout_pool_line}
use Rattle.report_text.proofs.LineLemmas.{line_written}
use Rattle.report_text.proofs.layout.add_pools.Goals as goal

pub loop-k-preserved : goal.loop-k-preserved
loop-k-preserved c =
    let there = slice_get_read c.args.pools.now _ c.loop-k.k c.index-pools-k.result refl c.loop-k-test.true c.index-pools-k.is in
    line_written (layout_pool_line c.args.regions.now) c.args.pools.now c.loop-k.k c.index-pools-k.result _ _ _ there c.in_ok-add_pool.ensures c.loop-k.invariant
