use Rattle.std.proofs.Common.{◌&&◌, sym, ap, ◌∙◌}
use Rattle.turn_kit.specs.Table.{is_settled}
use Rattle.turn_kit.specs.Turns.{settled_all}
use Rattle.turn_kit.specs.ManyEnds.{outlet_posts, outlet_queues, needs_from, is_here}
use Rattle.turn_kit.proofs.Dropped.{settled_same}
use Rattle.serial_virt.specs.Receiving.{client_posts, place_loaded}
use Rattle.serial_virt.proofs.Counting.{free_is}
use Rattle.serial_virt.proofs.rx.SerialVirtRx.at_rest.Goals as goal

pub returns-then-settled : goal.returns-then-settled
returns-then-settled c =
    let me = c.args.self.now in
    let input = sym c.if-settled.true ∙ (c.settled.ensures ∙ ap (is_settled me.input.state) (free_is me.load c.is_none.result c.is_none.ensures)) in
    let needs = needs_from (is_here (place_loaded me)) 0 (outlet_queues me.outputs) in
    let outputs = c.settled-then-settled.ensures ∙ (ap (λ o. settled_all (outlet_posts me.outputs) (needs_from (is_here o) 0 (outlet_queues me.outputs))) c.client_owed.ensures ∙ sym (settled_same me.drops.items (outlet_posts me.outputs) needs)) in
    outputs ∙ ap (λ b. b && settled_all (client_posts me) needs) input
