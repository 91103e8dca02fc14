use Rattle.std.proofs.Common.{◌≡◌, ◌++◌, drop}
use Rattle.std.specs.Prelude.{slice_index}
use Rattle.pictures.specs.LayoutView.LayoutPicture.Cards.{draw_each}
use Rattle.pictures.specs.LayoutView.LayoutPicture.Memory.{region_shapes}
use Rattle.pictures.proofs.layout_view.layout_picture.memory.add_regions.Given as goal

-- what was drawn and what is left is the whole
abbrev pub invariant-loop-r : goal.invariant-loop-r
invariant-loop-r l =
    l.shapes ++ draw_each (λ r region. region_shapes l.grid l.scale (slice_index l.bases r) r region) l.r (drop l.r l.regions)
    ≡ l.initial.shapes ++ draw_each (λ r region. region_shapes l.grid l.scale (slice_index l.bases r) r region) 0 l.regions
