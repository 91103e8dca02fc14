use Rattle.std.proofs.Common.{◌≡◌, ◌++◌, drop}
use Rattle.pictures.specs.LayoutView.LayoutPicture.Cards.{draw_each}
use Rattle.pictures.specs.LayoutView.LayoutPicture.Graph.{channel_edge}
use Rattle.pictures.proofs.layout_view.layout_picture.graph.push_channels.Given as goal

abbrev pub invariant-loop-c : goal.invariant-loop-c
invariant-loop-c l = l.to ++ draw_each channel_edge l.c (drop l.c l.channels) ≡ l.initial.to ++ draw_each channel_edge 0 l.channels
