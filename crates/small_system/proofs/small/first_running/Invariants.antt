use Rattle.std.proofs.Common.{◌≡◌, ◌≤◌, length, take}
use Rattle.wire_core.specs.Queues.{starts}
use Rattle.play_core.specs.Runs.{places_from}
use Rattle.small_system.specs.Tales.{flags_in}
use Rattle.small_system.proofs.small.first_running.Given as goal

abbrev pub invariant-loop-k : goal.invariant-loop-k
invariant-loop-k g l = record {
  list : l.running.list ≡ places_from 0 (take l.k (flags_in g.A.SmallActor.means l.world 0 l.actors));
  room : length l.actors ≤ l.running.room;
}
