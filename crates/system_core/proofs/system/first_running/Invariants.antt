use Rattle.std.proofs.Common.{◌≡◌, ◌≤◌, length, take}
use Rattle.play_core.specs.Runs.{places_from}
use Rattle.system_core.specs.States.{history_of, names_left}
use Rattle.system_core.proofs.Starting.{flags}
use Rattle.system_core.proofs.system.first_running.Given as goal

abbrev pub invariant-loop-k : goal.invariant-loop-k
invariant-loop-k l = record {
  list : l.running.list ≡ places_from 0 (take l.k (flags (history_of l.rows l.past.value.items) l.rows (names_left 0 l.past.value.items) l.actors));
  room : length l.actors ≤ l.running.room;
}
