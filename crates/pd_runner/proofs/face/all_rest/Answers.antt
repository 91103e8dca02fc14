use Rattle.std.proofs.Common.{◌≡◌, ◌∙◌, true, refl, sym, subst, arith}
use Rattle.std.proofs.lemmas.Option.{slice_get_read}
use Rattle.actor_set.specs.Actors.{actor_rests}
use Rattle.order_law.specs.ActorParts.Given.{Kept, apart_of}
use Rattle.play_core.proofs.Lists.{map_get, map_from, there_below}
use Rattle.pd_runner.specs.Facing.{IsResting}
use Rattle.pd_runner.proofs.Eaches.{up_to}
use Rattle.pd_runner.proofs.face.all_rest.Goals as goal

pub returns-then-not-at_rest-clause-no : goal.returns-then-not-at_rest-clause-no
returns-then-not-at_rest-clause-no c = λ rest.
    let at = slice_get_read c.args.parts.now _ c.loop-part.part-index c.part-item.result refl c.loop-part-test.true c.part-item.is in
    sym c.if-not-at_rest.true ∙ (c.at_rest.ensures ∙ rest c.loop-part.part-index (apart_of c.part-item.result) (map_get apart_of c.args.parts.now c.loop-part.part-index c.part-item.result at))

pub loop-part-preserved : goal.loop-part-preserved
loop-part-preserved c = up_to (λ (k : Kept). actor_rests k.0.actor ≡ true) c.args.parts.now c.loop-part.part-index c.part-item.result c.part-item.is c.loop-part-test.true c.loop-part.invariant (sym c.at_rest.ensures ∙ c.if-not-at_rest.false)

pub returns-clause-yes : goal.returns-clause-yes
returns-clause-yes c = λ _ k p at. let x = map_from apart_of c.args.parts.now k p at in
    subst IsResting x.2 (c.loop-part.invariant k x.0 (let lt = there_below c.args.parts.now k x.0 x.1 in let end = c.loop-part-test.false in omega (arith, lt, end)) x.1)
