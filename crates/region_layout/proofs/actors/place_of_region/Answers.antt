use Rattle.std.proofs.Common.{sym, ◌∙◌, refl, arith}
use Rattle.std.specs.Prelude.{bytes_eq}
use Rattle.std.proofs.lemmas.Option.{slice_get_read}
use Rattle.sdf_plan.specs.declared.plan.Region.{Region}
use Rattle.region_layout.proofs.NameLemmas.{position_found, position_none, none_more, place_of_region}
use Rattle.region_layout.proofs.actors.place_of_region.Goals as goal

pub returns-then-eq-clause-place : goal.returns-then-eq-clause-place
returns-then-eq-clause-place c =
    let there = slice_get_read c.args.regions.now _ c.loop-place.place c.index-regions-place.result refl c.loop-place-test.true c.index-regions-place.is in
    position_found (λ (r : Region). bytes_eq r.name c.args.name.now) c.args.regions.now c.loop-place.place c.index-regions-place.result there (rw c.as_str.ensures at (sym c.eq.ensures ∙ c.if-eq.true)) c.loop-place.invariant
    ∙ sym (place_of_region c.args.regions.now c.args.name.now)

pub loop-place-preserved : goal.loop-place-preserved
loop-place-preserved c =
    let there = slice_get_read c.args.regions.now _ c.loop-place.place c.index-regions-place.result refl c.loop-place-test.true c.index-regions-place.is in
    none_more (λ (r : Region). bytes_eq r.name c.args.name.now) c.args.regions.now c.loop-place.place c.index-regions-place.result c.loop-place.invariant there (rw c.as_str.ensures at (sym c.eq.ensures ∙ c.if-eq.false))

pub returns-clause-place : goal.returns-clause-place
returns-clause-place c =
    position_none (λ (r : Region). bytes_eq r.name c.args.name.now) c.args.regions.now (λ j y below. c.loop-place.invariant j y (omega arith)) ∙ sym (place_of_region c.args.regions.now c.args.name.now)
