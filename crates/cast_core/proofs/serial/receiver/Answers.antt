use Rattle.std.proofs.Common.{◌+◌, Option, [], sym, ap, ◌∙◌, arith}
use Rattle.std.specs.Option.{option_map_or}
use Rattle.sdf_plan.specs.declared.plan.Serial.{Serial}
use Rattle.cast_core.specs.Sources.{drops_of}
use Rattle.cast_core.proofs.SerialStarts.{rx_new, rx_part, taker_count}
use Rattle.cast_core.proofs.serial.receiver.Goals as goal

pub new-requires-clause-some : goal.new-requires-clause-some
new-requires-clause-some c =
    let n = taker_count c.in_ok-takers-in-Some.takers.items (c.args.first + 4) c.args.clients c.in_ok-takers-in-Some.ensures.queues in
    let some = c.requires.some in
    omega (arith, n, some)

pub new-requires-clause-few : goal.new-requires-clause-few
new-requires-clause-few c =
    let n = taker_count c.in_ok-takers-in-Some.takers.items (c.args.first + 4) c.args.clients c.in_ok-takers-in-Some.ensures.queues in
    let few = c.requires.few in
    omega (arith, n, few)

pub returns-clause-new : goal.returns-clause-new
returns-clause-new c = rx_new _ c.in_ok-takers-in-Some.takers.items c.in_ok-new-in-Some.field-0 c.in_ok-new-in-Some.ensures.new

pub returns-clause-part : goal.returns-clause-part
returns-clause-part c =
    rx_part _ c.in_ok-takers-in-Some.takers.items c.in_ok-new-in-Some.field-0 _ _ c.in_ok-new-in-Some.ensures.new c.in_ok-takers-in-Some.ensures.queues
    (c.in_ok-takers-in-Some.ensures.drops ∙ ap drops_of c.as_slice.ensures ∙ ap (λ (o : Option Serial). drops_of (option_map_or (λ (s : Serial). s.client) o [])) (sym c.in-Some.is))
