use Rattle.std.proofs.Common.{◌≡◌, length, ap, ◌∙◌, arith}
use Rattle.region_layout.specs.Rows.{actors_of}
use Rattle.cast_core.proofs.Growing.{one_cast}
use Rattle.cast_core.proofs.Joining.{actors_are, few_all}
use Rattle.cast_core.proofs.actors.cast.Goals as goal

pub overflow_cast-count : goal.overflow_cast-count
overflow_cast-count c =
    let many : length c.actors.result.now ≡ length (actors_of c.args.plan.now) = ap length (c.actors.ensures ∙ actors_are c.args.plan.now c.args.layout.now c.requires.layout) in
    let few = few_all c.args.plan.now c.requires.valid in
    omega (arith, many, few)

pub actor-requires-clause-there : goal.actor-requires-clause-there
actor-requires-clause-there c =
    let many : length c.actors.result.now ≡ length (actors_of c.args.plan.now) = ap length (c.actors.ensures ∙ actors_are c.args.plan.now c.args.layout.now c.requires.layout) in
    let lt = c.loop-number-test.true in
    omega (arith, many, lt)

pub loop-number-preserved : goal.loop-number-preserved
loop-number-preserved c = one_cast c.args.plan.now c.args.trace.now c.loop-number.number c.loop-number.actors.items c.push.new.self.items c.in_ok-actor.field-0 c.loop-number.invariant c.in_ok-push.ensures.items c.in_ok-actor.ensures

pub returns : goal.returns
returns c =
    let many : length c.actors.result.now ≡ length (actors_of c.args.plan.now) = ap length (c.actors.ensures ∙ actors_are c.args.plan.now c.args.layout.now c.requires.layout) in
    let count = c.loop-number.invariant.count_is in
    let below = c.loop-number.auto.number-end in
    let end = c.loop-number-test.false in
    record { count_is = omega (arith, count, below, end, many); each = c.loop-number.invariant.each }
