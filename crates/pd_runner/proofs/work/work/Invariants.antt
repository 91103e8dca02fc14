use Rattle.std.proofs.Common.{◌≡◌, ◌≤◌, None}
use Rattle.pd_runner.specs.Running.{Comes, part_seats}
use Rattle.pd_runner.proofs.work.work.Given as goal

abbrev pub invariant-loop : goal.invariant-loop
invariant-loop g l = record {
  can_next : (goal.iterator-loop g).can_next l.iterator';
  is_finite : (goal.iterator-loop g).is_finite l.iterator';
  comes : Comes l.fn.part.worker.actor (part_seats l.fn.rings l.fn.part) l.made l.worker.actor l.seats;
  fine : l.worker.wanted ≡ None;
  within : l.made ≤ l.limit;
}
