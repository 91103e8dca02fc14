use Rattle.std.proofs.Common.{◌≡◌, ◌++◌, length}
use Rattle.std.specs.Vec.Iter.{into_iter_items, into_iter_len}
use Rattle.pd_runner.specs.Each.{Each}
use Rattle.pd_runner.specs.Seated.{IsSeated}
use Rattle.pd_runner.proofs.face.seat_all.Given as goal

abbrev pub invariant-loop-part : goal.invariant-loop-part
invariant-loop-part l = record {
  split : l.yielded ++ into_iter_items l.part-iterator ≡ l.fn.parts.items;
  len : length (into_iter_items l.part-iterator) ≡ into_iter_len l.part-iterator;
  each : Each (IsSeated l.fn.rings) l.yielded l.all.items;
}
