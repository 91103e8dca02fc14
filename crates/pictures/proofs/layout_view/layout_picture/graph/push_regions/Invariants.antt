use Rattle.std.proofs.Common.{◌≡◌, ◌++◌, drop}
use Rattle.std.specs.Prelude.{slice_index}
use Rattle.pictures.specs.LayoutView.LayoutPicture.Cards.{draw_each}
use Rattle.pictures.specs.LayoutView.LayoutPicture.Graph.{region_node}
use Rattle.pictures.proofs.layout_view.layout_picture.graph.push_regions.Given as goal

abbrev pub invariant-loop-r : goal.invariant-loop-r
invariant-loop-r l =
    l.to ++ draw_each (λ r region. region_node (slice_index l.bases r) region) l.r (drop l.r l.regions)
    ≡ l.initial.to ++ draw_each (λ r region. region_node (slice_index l.bases r) region) 0 l.regions
