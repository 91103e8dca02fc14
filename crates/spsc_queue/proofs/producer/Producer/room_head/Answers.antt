use Rattle.std.proofs.Common.{rules, true, ◌≡◌, ◌%◌, ◌∙◌, length, ap, sym}
use mathlib.Core.Option.{none}
use Rattle.atomic_table.specs.Table.{step}
use Rattle.spsc_queue.specs.Rule.{head_word}
use Rattle.spsc_queue.specs.Steps.{slots_held, head_read}
use Rattle.spsc_queue.proofs.Views.{as_producer, head_allowed}
use Rattle.spsc_queue.proofs.producer.Producer.room_head.Goals as goal

pub load-head-requires : goal.load-head-requires
load-head-requires c = let me = c.self.inside.seat.me in let kind = c.ring.inside.table.shared.key.kind in let wild = c.ring.inside.table.shared.key.wild in let n = c.ring.inside.table.shared.table_id.slots in
    let own : c.self.inside.seat.table_id ≡ c.ring.inside.table.shared.table_id = ap (λ e. e.ring) c.self.view_is ∙ (c.requires.own ∙ sym (ap (λ e. e.id) c.ring.view_is)) in
    let sort : me.0.producer.wild ≡ true = ap (λ e. e.knows.wild) c.self.view_is ∙ c.requires.sort in (
      own,
      search rules,
      as_producer wild kind n c.self.inside.seat.id me true head_word (λ n. n) (head_read (step n head_word 0 0 none) me) sort c.self.invariant.produces
          (head_allowed kind n c.self.inside.seat.id me c.self.invariant.produces c.self.invariant.consumes
          (c.self.invariant.holding ∙ ap (λ z. slots_held me.0.producer.grant (length me.0.producer.entries % z.slots)) (ap (λ e. e.ring) c.self.view_is ∙ (c.requires.own ∙ sym (ap (λ e. e.id) c.ring.view_is))))),
    )
