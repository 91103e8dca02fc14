use Rattle.std.proofs.Common.{sym, ◌∙◌, refl, arith}
use Rattle.std.specs.Prelude.{bytes_eq}
use Rattle.std.proofs.lemmas.Option.{slice_get_read}
use Rattle.region_layout.proofs.NameLemmas.{position_found, position_none, none_more}
use Rattle.region_layout.proofs.actors.place_of_text.Goals as goal

pub returns-then-eq-clause-place : goal.returns-then-eq-clause-place
returns-then-eq-clause-place c =
    let there = slice_get_read c.args.texts.now _ c.loop-place.place c.index-texts-place.result refl c.loop-place-test.true c.index-texts-place.is in
    position_found (λ other. bytes_eq other c.args.name.now) c.args.texts.now c.loop-place.place c.index-texts-place.result there (rw c.as_str.ensures at (sym c.eq.ensures ∙ c.if-eq.true)) c.loop-place.invariant

pub loop-place-preserved : goal.loop-place-preserved
loop-place-preserved c =
    let there = slice_get_read c.args.texts.now _ c.loop-place.place c.index-texts-place.result refl c.loop-place-test.true c.index-texts-place.is in
    none_more (λ other. bytes_eq other c.args.name.now) c.args.texts.now c.loop-place.place c.index-texts-place.result c.loop-place.invariant there (rw c.as_str.ensures at (sym c.eq.ensures ∙ c.if-eq.false))

pub returns-clause-place : goal.returns-clause-place
returns-clause-place c = position_none (λ other. bytes_eq other c.args.name.now) c.args.texts.now (λ j y below. c.loop-place.invariant j y (omega arith))
