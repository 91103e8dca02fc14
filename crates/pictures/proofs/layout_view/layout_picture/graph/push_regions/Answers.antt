use Rattle.std.proofs.Common.{refl}
use Rattle.std.specs.Prelude.{slice_index}
use Rattle.std.proofs.lemmas.Option.{slice_get_read}
use Rattle.sdf_plan.specs.declared.plan.Region.{Region}
use Rattle.pictures.specs.LayoutView.LayoutPicture.Graph.{region_node}
use Rattle.pictures.proofs.LayoutView.LayoutPicture.DrawLemmas.{drawn_more}
use Rattle.pictures.proofs.layout_view.layout_picture.graph.push_regions.Goals as goal

pub loop-r-preserved : goal.loop-r-preserved
loop-r-preserved c =
    let there = slice_get_read c.args.regions.now _ c.loop-r.r c.index-regions-r.result refl c.loop-r-test.true c.index-regions-r.is in
    drawn_more (λ r (region : Region). region_node (slice_index c.args.bases.now r) region) c.args.regions.now c.loop-r.r c.index-regions-r.result _ _ _ there
    (rw c.base_at.ensures at c.in_ok-push_region.ensures) c.loop-r.invariant
