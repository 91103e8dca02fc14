use Rattle.std.proofs.Common.{rules, true, ◌≡◌, ◌%◌, ◌∙◌, length, ap, sym}
use mathlib.Core.Option.{none}
use Rattle.atomic_table.specs.Table.{step}
use Rattle.spsc_queue.specs.Rule.{tail_word}
use Rattle.spsc_queue.specs.Steps.{slots_held, tail_read}
use Rattle.spsc_queue.proofs.Views.{as_consumer, tail_allowed}
use Rattle.spsc_queue.proofs.consumer.Consumer.see_tail.Goals as goal

pub load-tail-requires : goal.load-tail-requires
load-tail-requires c = let me = c.self.inside.seat.me in let kind = c.ring.inside.table.shared.key.kind in let wild = c.ring.inside.table.shared.key.wild in let n = c.ring.inside.table.shared.table_id.slots in
    let own : c.self.inside.seat.table_id ≡ c.ring.inside.table.shared.table_id = ap (λ e. e.ring) c.self.view_is ∙ (c.requires.own ∙ sym (ap (λ e. e.id) c.ring.view_is)) in
    let sort : me.0.consumer.wild ≡ true = ap (λ e. e.knows.wild) c.self.view_is ∙ c.requires.sort in (
      own,
      search rules,
      as_consumer wild kind n c.self.inside.seat.id me true tail_word (λ n. n) (tail_read (step n tail_word 0 0 none) me) sort c.self.invariant.consumes
          (tail_allowed kind n c.self.inside.seat.id me c.self.invariant.consumes c.self.invariant.produces
          (c.self.invariant.holding ∙ ap (λ z. slots_held me.0.consumer.grant (length me.0.consumer.entries % z.slots)) (ap (λ e. e.ring) c.self.view_is ∙ (c.requires.own ∙ sym (ap (λ e. e.id) c.ring.view_is))))),
    )
