use Rattle.std.proofs.Common.{◌≡◌, ◌++◌, drop}
use Rattle.pictures.specs.LayoutView.LayoutPicture.Cards.{card_shapes, draw_each}
use Rattle.pictures.proofs.layout_view.layout_picture.cards.add_cards.Given as goal

-- what was drawn and what is left is the whole
abbrev pub invariant-loop-k : goal.invariant-loop-k
invariant-loop-k l =
    l.shapes ++ draw_each (card_shapes l.grid) l.k (drop l.k l.cards) ≡ l.initial.shapes ++ draw_each (card_shapes l.grid) 0 l.cards
