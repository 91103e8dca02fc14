use Rattle.std.proofs.Common.{◌≡◌, ◌+◌, drop}
use Rattle.pictures.specs.LayoutView.LayoutPicture.Cards.{column_of}
use Rattle.pictures.proofs.layout_view.layout_picture.cards.column_of.Given as goal

abbrev pub invariant-loop-k : goal.invariant-loop-k
invariant-loop-k l = column_of l.name l.cards ≡ l.k + column_of l.name (drop l.k l.cards)
