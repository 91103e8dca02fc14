use Rattle.std.proofs.Common.{rules, Bool, ◌∙◌, refl, ap, sym, subst, arith}
use mathlib.Core.Option.{none}
use Rattle.atomic_table.specs.Table.{Allows, step}
use Rattle.spsc_queue.specs.declared.view.View.{View}
use Rattle.spsc_queue.specs.Rule.{RingHolds}
use Rattle.spsc_queue.specs.Steps.{passed, known_end, consumer_passed}
use Rattle.spsc_queue.proofs.Views.{consumer_passes}
use Rattle.spsc_queue.proofs.consumer.Consumer.store.Goals as goal

pub store-requires : goal.store-requires
store-requires c = let me = c.self.inside.seat.me in let kind = c.ring.inside.table.shared.key.kind in let wild = c.ring.inside.table.shared.key.wild in let n = c.ring.inside.table.shared.table_id.slots in let id = c.self.inside.seat.id in let i = c.place_of.result in let v = c.kept_of.result in let low = c.place_of.ensures.low in let least = c.ring.invariant.words in (
  search rules,
  omega (arith, low, least),
  subst (λ (z : Bool). Allows (RingHolds z kind) n id me i (λ _. v) (λ _ m. consumer_passed (step n i v 0 none) me v m)) (sym (ap (λ e. e.wild) c.ring.view_is ∙ c.requires.wild))
      (consumer_passes kind n id me i (λ _. v) (λ _. v) low c.self.invariant.consumes c.self.invariant.produces),
)

pub returns-clause-did : goal.returns-clause-did
returns-clause-did c = (
  ap (λ (z : View). z.consumer) c.store.ensures.2.0 ∙ (λ i. passed (c.place_of.ensures.place i) (c.kept_of.ensures i) (c.self.view_is i).knows),
  refl,
  refl,
  sym (ap (λ e. e.knows.wild) c.self.view_is) ∙ c.store.ensures.2.2,
)

pub returns-clause-end : goal.returns-clause-end
returns-clause-end c = ap known_end (returns-clause-did c).0
