use Rattle.std.proofs.Common.{arith, refl, subst, sym, [], ◌∙◌}
use Rattle.std.proofs.lemmas.List.Elements.{All-cons, All-nil}
use Rattle.cargo_core.specs.Capacities.{IsCapacity}
use Rattle.wire_core.specs.Sizes.{AreSized}
use Rattle.wire_core.specs.declared.names.QueueRow.{QueueRow}
use Rattle.library_examples.proofs.world.one_queue.Goals as goal

pub new-requires-2 : goal.new-requires-2
new-requires-2 c = subst AreSized (sym (c.deref.ensures.value ∙ c.in_ok-rows.ensures.items)) record {
  few = omega arith;
  capacities = All-cons (λ (row : QueueRow). IsCapacity row.capacity) _ [] (2, omega arith, refl) (All-nil (λ (row : QueueRow). IsCapacity row.capacity));
}
