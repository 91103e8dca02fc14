use Rattle.std.proofs.Common.{◌≡◌, List, take}
use Rattle.wire_core.specs.declared.names.QueueRow.{QueueRow}
use Rattle.line_text.specs.Lists.{per_client}
use Rattle.bus_law.specs.BusOwners.Pools.{table_after, pool_line, AreQueued}
use Rattle.bus_law.proofs.bus_owners.pools.bus_pools.Given as goal

abbrev pub invariant-loop-entry : goal.invariant-loop-entry
invariant-loop-entry l = (rows : List QueueRow) → AreQueued l.clients (table_after l.clients rows (take l.entry-index l.journal)) l.queued.items

abbrev pub invariant-loop-client : goal.invariant-loop-client
invariant-loop-client l = (rows : List QueueRow) → l.lines.items ≡ per_client l.client (pool_line (table_after l.clients rows l.journal))
