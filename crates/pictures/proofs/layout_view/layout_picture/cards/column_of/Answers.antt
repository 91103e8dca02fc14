use Rattle.std.proofs.Common.{sym, ◌∙◌, refl, arith}
use Rattle.std.proofs.lemmas.Option.{slice_get_read}
use Rattle.pictures.proofs.LayoutView.LayoutPicture.ColumnLemmas.{column_here, column_past, column_none}
use Rattle.pictures.proofs.layout_view.layout_picture.cards.column_of.Goals as goal

pub returns-then-eq-clause-column : goal.returns-then-eq-clause-column
returns-then-eq-clause-column c =
    let there = slice_get_read c.args.cards.now _ c.loop-k.k c.index-cards-k.result refl c.loop-k-test.true c.index-cards-k.is in
    column_here c.args.name.now c.args.cards.now c.loop-k.k c.index-cards-k.result there (rw c.as_str.ensures at (sym c.eq.ensures ∙ c.if-eq.true)) c.loop-k.invariant

pub loop-k-preserved : goal.loop-k-preserved
loop-k-preserved c =
    let there = slice_get_read c.args.cards.now _ c.loop-k.k c.index-cards-k.result refl c.loop-k-test.true c.index-cards-k.is in
    column_past c.args.name.now c.args.cards.now c.loop-k.k c.index-cards-k.result there (rw c.as_str.ensures at (sym c.eq.ensures ∙ c.if-eq.false)) c.loop-k.invariant
