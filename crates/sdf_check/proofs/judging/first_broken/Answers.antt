use Rattle.std.proofs.Common.{◌≡◌, true, false, sym, ◌∙◌}
use Rattle.sdf_plan.specs.Places.{walk}
use Rattle.std.proofs.lemmas.Option.{slice_get-get_or}
use Rattle.sdf_plan.specs.Elements.{outline_of}
use Rattle.sdf_check.specs.Valid.{broken}
use Rattle.sdf_check.proofs.PriorLemmas.{chained-walk, first-here, none-here, one-more}
use Rattle.sdf_check.proofs.judging.first_broken.Goals as goal

pub returns-then-breaks : goal.returns-then-breaks
returns-then-breaks c =
    first-here (broken c.args.judge.now.plan.now c.args.rule) c.args.places.now (walk (outline_of c.args.judge.now.plan.now)) c.loop-place.place-index _
    c.requires.all (chained-walk (outline_of c.args.judge.now.plan.now)) (slice_get-get_or _ _ _ c.loop-place-test.true) c.loop-place.invariant
    (c.breaks.ensures.sound c.if-breaks.true)

pub loop-place-preserved : goal.loop-place-preserved
loop-place-preserved c =
    one-more (broken c.args.judge.now.plan.now c.args.rule) c.args.places.now c.loop-place.place-index _ (slice_get-get_or _ _ _ c.loop-place-test.true)
    (λ bad. let no : true ≡ false = sym (c.breaks.ensures.complete bad) ∙ c.if-breaks.false in cc) c.loop-place.invariant

pub returns : goal.returns
returns c =
    none-here (broken c.args.judge.now.plan.now c.args.rule) c.args.places.now (walk (outline_of c.args.judge.now.plan.now)) c.loop-place.place-index
    c.requires.all c.loop-place-test.false c.loop-place.invariant
