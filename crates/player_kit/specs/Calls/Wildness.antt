-- Which queues are wild stays so: no call makes or ends one.
use Rattle.std.specs.Prelude.{◌<◌, ℕ, length}
use Rattle.wire_core.specs.Deeds.{Deed}
use Rattle.plain_wires.specs.Wildness as plain
use Rattle.player_kit.specs.Calls.Noting.{NotedHappens}
use Rattle.player_kit.specs.declared.noted_wires.wires.NotedWires.{NotedWires}

-- no queue comes or goes
pub stays : (old new : NotedWires) (d : Deed) (n : ℕ) → NotedHappens old d new
    → n < length old.world → n < length new.world
stays old new d n h l = plain.stays old.world new.world d n h.happened l
