use Rattle.std.proofs.Common.{◌∙◌, sym, ap, subst}
use Rattle.wire_core.specs.Queues.{starts}
use Rattle.small_system.specs.Standing.{Begins}
use Rattle.small_system.specs.Tales.{start_of, running_in}
use Rattle.small_system.proofs.Keeping.{small_start}
use Rattle.small_system.proofs.small.Small.new.Goals as goal

pub new-requires : goal.new-requires
new-requires g c = rw (c.deref.ensures.value, c.in_ok-rows.ensures) c.requires.sized

pub first_running-requires-clause-begins : goal.first_running-requires-clause-begins
first_running-requires-clause-begins g c = rw (c.deref-2.ensures.value, c.deref-3.ensures.value, c.in_ok-rows.ensures) c.requires

pub first_running-requires-clause-starts : goal.first_running-requires-clause-starts
first_running-requires-clause-starts g c = c.in_ok-world.ensures ∙ ap starts (c.deref.ensures.value ∙ sym c.deref-2.ensures.value)

pub invariant_of-small : goal.invariant_of-small
invariant_of-small g c =
    rw (c.of-start.ensures, c.in_ok-world.ensures, c.deref.ensures.value, c.new-2.ensures.items)
    (small_start g.A.SmallActor.means c.in_ok-rows.rows.items c.args.actors.items c.in_ok-running.running (rw c.in_ok-rows.ensures c.requires)
    (c.in_ok-running.ensures.list ∙ (ap (λ rs. running_in g.A.SmallActor.means (start_of rs c.deref-3.result.now)) c.deref-2.ensures.value ∙ ap (λ xs. running_in g.A.SmallActor.means (start_of c.in_ok-rows.rows.items xs)) c.deref-3.ensures.value))
    (rw c.deref-3.ensures.value at c.in_ok-running.ensures.room))
