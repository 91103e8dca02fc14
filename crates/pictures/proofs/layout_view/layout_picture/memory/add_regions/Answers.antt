use Rattle.std.proofs.Common.{refl}
use Rattle.std.specs.Prelude.{slice_index}
use Rattle.std.proofs.lemmas.Option.{slice_get_read}
use Rattle.sdf_plan.specs.declared.plan.Region.{Region}
use Rattle.pictures.specs.LayoutView.LayoutPicture.Memory.{region_shapes}
use Rattle.pictures.proofs.LayoutView.LayoutPicture.DrawLemmas.{drawn_more}
use Rattle.pictures.proofs.layout_view.layout_picture.memory.add_regions.Goals as goal

pub loop-r-preserved : goal.loop-r-preserved
loop-r-preserved c =
    let there = slice_get_read c.args.regions.now _ c.loop-r.r c.index-regions-r.result refl c.loop-r-test.true c.index-regions-r.is in
    drawn_more (λ r (region : Region). region_shapes c.args.grid.now c.scale_of-scale.result (slice_index c.args.bases.now r) r region) c.args.regions.now c.loop-r.r c.index-regions-r.result _ _ _ there
    (rw c.base_at.ensures at c.in_ok-add_region.ensures) c.loop-r.invariant
