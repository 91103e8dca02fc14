use Rattle.std.proofs.Common.{rules, false, ◌%◌, ◌<◌, ◌∙◌, length, ap, sym, subst}
use Rattle.spsc_queue.specs.Known.Ends.{EndIs}
use mathlib.Core.Option.{none}
use Rattle.atomic_table.specs.Table.{step}
use Rattle.wire_core.specs.Ends.{is_clear}
use Rattle.spsc_queue.specs.Rule.{tail_word}
use Rattle.spsc_queue.specs.Steps.{slots_held, room_again}
use Rattle.spsc_queue.proofs.Views.{as_producer, room_again_allowed}
use Rattle.spsc_queue.proofs.producer.Producer.room_again.Goals as goal

pub load-requires : goal.load-requires
load-requires c = let me = c.self.inside.seat.me in (
  search rules,
  search rules,
  as_producer c.ring.inside.table.shared.key.wild c.ring.inside.table.shared.key.kind c.ring.inside.table.shared.table_id.slots c.self.inside.seat.id me false tail_word (λ n. n) (room_again (step c.ring.inside.table.shared.table_id.slots tail_word 0 0 none) me) (ap (λ e. e.knows.wild) c.self.view_is ∙ c.requires.sort) c.self.invariant.produces
      (room_again_allowed c.ring.inside.table.shared.key.kind c.ring.inside.table.shared.table_id.slots c.self.inside.seat.id me c.self.invariant.produces c.self.invariant.consumes (ap (λ e. is_clear e.knows.waiter) c.self.view_is ∙ c.requires.condition) (subst (λ (e : EndIs). 0 < e.knows.ahead) (sym c.self.view_is) c.requires.known)
      (c.self.invariant.holding ∙ ap (λ z. slots_held me.0.producer.grant (length me.0.producer.entries % z.slots)) (ap (λ e. e.ring) c.self.view_is ∙ (c.requires.own ∙ sym (ap (λ e. e.id) c.ring.view_is))))),
)
