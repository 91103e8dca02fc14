use Rattle.std.proofs.Common.{[], ◌∷◌, ◌++◌, map}
use Rattle.report_text.specs.Reports.{each_numbered}
use Rattle.report_text.specs.Layouts.{region_lines, layout_pool_line, queue_line}
use Rattle.report_text.proofs.LineLemmas.{written_on}
use Rattle.report_text.proofs.layout.write_layout.Goals as goal

pub returns : goal.returns
returns c =
    let regions = c.args.plan.now.memory_region in
    let l = c.args.layout.now in
    let a = written_on [] (region_lines regions l.bases) _ _ c.new-text.ensures.bytes (rw (c.as_slice-regions.ensures, c.as_slice.ensures) at c.in_ok-add_regions.ensures) in
    let b = written_on (region_lines regions l.bases) (map (layout_pool_line regions) l.pools) _ _ a (rw (c.as_slice-regions.ensures, c.pools.ensures) at c.in_ok-add_pools.ensures) in
    written_on (region_lines regions l.bases ++ map (layout_pool_line regions) l.pools) (each_numbered (λ n queue. queue_line regions l.actors n queue ∷ []) 0 l.queues) _ _ b
    (rw (c.as_slice-regions.ensures, c.actors.ensures, c.queues.ensures) at c.in_ok-add_queues.ensures)
