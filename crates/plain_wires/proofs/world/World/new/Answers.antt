use Rattle.std.proofs.Common.{rules, sym, subst}
use Rattle.wire_core.specs.declared.names.QueueRow.{QueueRow}
use Rattle.cargo_core.specs.Capacities.{IsCapacity}
use Rattle.plain_wires.proofs.world.World.new.Goals as goal

pub new-requires : goal.new-requires
new-requires c = subst (λ (r : QueueRow). IsCapacity r.capacity) (sym c.row-item.is) (c.requires.capacities c.loop-row.row-index c.row-item.result (search rules))
