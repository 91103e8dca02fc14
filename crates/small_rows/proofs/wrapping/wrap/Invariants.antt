use Rattle.std.proofs.Common.{◌≡◌, ◌++◌, map, length}
use Rattle.std.specs.Vec.Iter.{into_iter_items, into_iter_len}
use Rattle.small_rows.specs.declared.wrapping.Wrapped.{Wrapped}
use Rattle.small_rows.proofs.wrapping.wrap.Given as goal

abbrev pub invariant-loop-actor : goal.invariant-loop-actor
invariant-loop-actor l = record {
  split : l.yielded ++ into_iter_items l.actor-iterator ≡ l.fn.actors.items;
  each : map (λ (x : Wrapped). x.actor) l.wrapped.items ≡ l.yielded;
}
