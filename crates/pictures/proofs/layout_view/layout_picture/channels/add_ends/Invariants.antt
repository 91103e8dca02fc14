use Rattle.std.proofs.Common.{◌≡◌, ◌++◌, drop}
use Rattle.std.specs.List.{flat_map}
use Rattle.pictures.specs.LayoutView.LayoutPicture.Channels.{end_shapes}
use Rattle.pictures.proofs.layout_view.layout_picture.channels.add_ends.Given as goal

abbrev pub invariant-loop-end : goal.invariant-loop-end
invariant-loop-end l = l.shapes ++ flat_map (end_shapes l.grid l.cards l.y) (drop l.end-index l.ends) ≡ l.initial.shapes ++ flat_map (end_shapes l.grid l.cards l.y) l.ends
