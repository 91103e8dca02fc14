use Rattle.std.proofs.Common.{refl}
use Rattle.std.proofs.lemmas.Option.{slice_get_read}
use Rattle.pictures.specs.LayoutView.LayoutPicture.Cards.{card_shapes}
use Rattle.pictures.proofs.LayoutView.LayoutPicture.DrawLemmas.{drawn_more}
use Rattle.pictures.proofs.layout_view.layout_picture.cards.add_cards.Goals as goal

pub loop-k-preserved : goal.loop-k-preserved
loop-k-preserved c =
    let there = slice_get_read c.args.cards.now _ c.loop-k.k c.index-cards-k.result refl c.loop-k-test.true c.index-cards-k.is in
    drawn_more (card_shapes c.args.grid.now) c.args.cards.now c.loop-k.k c.index-cards-k.result _ _ _ there c.in_ok-add_card.ensures c.loop-k.invariant
