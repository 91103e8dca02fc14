use Rattle.std.proofs.Common.{rules, true, ℕ, ◌∙◌, length, ap, arith}
use mathlib.Core.Option.{none}
use Rattle.atomic_table.specs.Table.{step}
use Rattle.spsc_queue.specs.declared.view.View.{View}
use Rattle.spsc_queue.specs.Rule.{wrap, head_word}
use Rattle.spsc_queue.specs.Steps.{passed, consumer_passed}
use Rattle.spsc_queue.proofs.Views.{as_consumer, consumer_passes}
use Rattle.spsc_queue.proofs.consumer.Consumer.store_head.Goals as goal

pub store-requires : goal.store-requires
store-requires c = let me = c.self.inside.seat.me in let kind = c.ring.inside.table.shared.key.kind in let wild = c.ring.inside.table.shared.key.wild in let n = c.ring.inside.table.shared.table_id.slots in let id = c.self.inside.seat.id in let v = c.from.result in (
  search rules,
  search rules,
  as_consumer wild kind n id me true head_word (λ _. v) (λ _ m. consumer_passed (step n head_word v 0 none) me v m) (ap (λ e. e.knows.wild) c.self.view_is ∙ c.requires.sort) c.self.invariant.consumes
      (consumer_passes kind n id me head_word (λ _. v) (λ _. v) (omega arith) c.self.invariant.consumes c.self.invariant.produces),
)

pub returns-clause-did : goal.returns-clause-did
returns-clause-did c = let me = c.self.inside.seat.me in ap (λ (z : View). z.consumer) c.store.ensures.2.0 ∙ (ap (λ (z : ℕ). passed head_word z me.0.consumer) (c.from.ensures ∙ c.self.invariant.index) ∙ ap (λ e. passed head_word (wrap (length e.knows.entries)) e.knows) c.self.view_is)
