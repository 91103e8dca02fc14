use Rattle.std.proofs.Common.{◌≡◌, ◌++◌, length}
use Rattle.std.specs.List.{AllZip}
use Rattle.std.specs.Vec.Iter.{into_iter_items, into_iter_len}
use Rattle.order_law.specs.ActorParts.Opening.{IsForgotten}
use Rattle.system_core.proofs.system.apart.all_forgotten.Given as goal

abbrev pub invariant-loop-actor : goal.invariant-loop-actor
invariant-loop-actor l = record {
  split : l.yielded ++ into_iter_items l.actor-iterator ≡ l.fn.actors.items;
  len : length (into_iter_items l.actor-iterator) ≡ into_iter_len l.actor-iterator;
  each : AllZip IsForgotten l.yielded l.all.items;
}
