use Rattle.std.proofs.Common.{◌≡◌, ◌++◌, drop}
use Rattle.std.specs.List.{flat_map}
use Rattle.pictures.specs.LayoutView.LayoutPicture.Graph.{card_node}
use Rattle.pictures.proofs.layout_view.layout_picture.graph.push_cards.Given as goal

abbrev pub invariant-loop-card : goal.invariant-loop-card
invariant-loop-card l = l.to ++ flat_map card_node (drop l.card-index l.cards) ≡ l.initial.to ++ flat_map card_node l.cards
