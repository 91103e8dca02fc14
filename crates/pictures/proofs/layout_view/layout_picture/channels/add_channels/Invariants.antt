use Rattle.std.proofs.Common.{◌≡◌, ◌++◌, drop}
use Rattle.pictures.specs.LayoutView.LayoutPicture.Cards.{draw_each}
use Rattle.pictures.specs.LayoutView.LayoutPicture.Channels.{channel_shapes}
use Rattle.pictures.proofs.layout_view.layout_picture.channels.add_channels.Given as goal

-- what was drawn and what is left is the whole
abbrev pub invariant-loop-c : goal.invariant-loop-c
invariant-loop-c l =
    l.shapes ++ draw_each (channel_shapes l.grid l.cards) l.c (drop l.c l.channels) ≡ l.initial.shapes ++ draw_each (channel_shapes l.grid l.cards) 0 l.channels
