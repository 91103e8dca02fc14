use Rattle.std.proofs.Common.{◌≡◌, ◌≤◌, drop}
use Rattle.pictures.specs.LayoutView.LayoutPicture.Pictures.{longest_card}
use Rattle.pictures.proofs.layout_view.layout_picture.picture.longest_card.Given as goal

abbrev pub invariant-loop-card : goal.invariant-loop-card
invariant-loop-card l = (longest_card l.most (drop l.card-index l.cards) ≡ longest_card l.least l.cards) × (l.most ≤ 1000)
