use Rattle.std.proofs.Common.{rules, false, ℕ, ◌%◌, ◌≤◌, ◌≡◌, List, ◌++◌, length, nat_eq, nat_lt, refl, sym, ap, ◌∙◌, subst}
use Rattle.std.specs.Prelude.{All}
use Rattle.std.specs.Slots.{slots_items, slots_counts}
use Rattle.atomic_table.specs.Table.{Final, Seen}
use Rattle.cargo_core.specs.declared.item.QueueKind.{QueueKind}
use Rattle.cargo_core.specs.Items.{kind_of}
use Rattle.wire_core.specs.declared.names.BellState.{BellState}
use Rattle.wire_core.specs.Bells.{BellHolds}
use Rattle.wire_core.specs.Deeds.{Cargo}
use Rattle.spsc_queue.specs.declared.view.View.{View}
use Rattle.spsc_queue.specs.Known.Ends.{EndIs}
use Rattle.spsc_queue.specs.Rule.{wrap, Slot, RingHolds, forward_bell, backward_bell, flag_of, pending_of}
use Rattle.spsc_queue.specs.Steps.{Seated, slots_held, whole, with_producer, with_consumer, sent_home}
use Rattle.spsc_queue.specs.Left.{entries_from}
use Rattle.spsc_queue.proofs.Closing.{Closing, closes}
use Rattle.spsc_queue.proofs.Views.{home_allowed, home_back_allowed, joins, remembers}
use Rattle.spsc_queue.proofs.ended.finish.Goals as goal

pub load-flag-requires : goal.load-flag-requires
load-flag-requires c = let me = c.producer.inside.seat.me in let own : c.producer.inside.seat.table_id ≡ c.ring.inside.table.shared.table_id = ap (λ e. e.ring) c.producer.view_is ∙ (c.requires.producer ∙ sym (ap (λ e. e.id) c.ring.view_is)) in (
  own,
  search rules,
  home_allowed c.ring.inside.table.shared.key.wild c.ring.inside.table.shared.key.kind c.ring.inside.table.shared.table_id.slots c.producer.inside.seat.id me c.producer.invariant.produces c.producer.invariant.consumes
      (c.producer.invariant.holding ∙ ap (λ z. slots_held me.0.producer.grant (length me.0.producer.entries % z.slots)) own),
)

pub load-flag-requires-2 : goal.load-flag-requires-2
load-flag-requires-2 c = let me = c.consumer.inside.seat.me in let own : c.consumer.inside.seat.table_id ≡ c.ring.inside.table.shared.table_id = ap (λ e. e.ring) c.consumer.view_is ∙ (c.requires.consumer ∙ sym (ap (λ e. e.id) c.ring.view_is)) in (
  own,
  search rules,
  home_back_allowed c.ring.inside.table.shared.key.wild c.ring.inside.table.shared.key.kind c.ring.inside.table.shared.table_id.slots c.consumer.inside.seat.id me c.consumer.invariant.consumes c.consumer.invariant.produces
      (c.consumer.invariant.holding ∙ ap (λ z. slots_held me.0.consumer.grant (length me.0.consumer.entries % z.slots)) own),
)

pub join_seat-requires : goal.join_seat-requires
join_seat-requires c = (
  search rules,
  search rules,
  c.load-flag-2.ensures.2.1,
  search rules,
  λ s r at apart at'. joins c.ring.inside.table.shared.key.wild c.ring.inside.table.shared.key.kind s r c.load-flag.new.seat.id c.load-flag.new.seat.me.0 c.load-flag-2.new.seat.id c.load-flag-2.new.seat.me.0 at
      (ap (λ (v : View). v.produces) c.load-flag.ensures.2.0 ∙ c.producer.invariant.produces) (ap (λ (v : View). v.consumes) c.load-flag.ensures.2.0 ∙ c.producer.invariant.consumes) (ap (λ (v : View). v.consumes) c.load-flag-2.ensures.2.0 ∙ c.consumer.invariant.consumes) apart at',
)

pub split_seat-memory-requires : goal.split_seat-memory-requires
split_seat-memory-requires c = (search rules, search rules, λ s r at. remembers c.ring.inside.table.shared.key.wild c.ring.inside.table.shared.key.kind s r c.join_seat.new.seat.id c.join_seat.new.seat.me.0 at)

-- what is known of the closed ring
closing : (c : goal.In_ok-left) → Closing c.ring.inside.table.shared.key.wild c.ring.inside.table.shared.key.kind c.ring.inside.capacity (sent_home c.producer.inside.seat.me.0.producer) (sent_home c.consumer.inside.seat.me.0.consumer) (slots_items c.close_with-closed.result.words) (entries_from (slots_items c.close_with-closed.result.slots) c.ring.inside.capacity (wrap (length c.consumer.inside.seat.me.0.consumer.entries)) c.ring.inside.capacity)
closing c = let pv : View = c.producer.inside.seat.me.0 in let cv : View = c.consumer.inside.seat.me.0 in let V : View = whole (with_producer pv (sent_home pv.producer)) (with_consumer cv (sent_home cv.consumer)) in
    let is : c.split_seat-memory.new.seat.me.0 ≡ V = ap (λ (m : Seated). m.0) c.split_seat-memory.ensures.2 ∙ (ap (λ (m : Seated). m.0) c.join_seat.ensures.2 ∙ (λ i. whole (c.load-flag.ensures.2.0 i) (c.load-flag-2.ensures.2.0 i))) in
    let xs : List Slot = slots_items c.close_with-closed.result.slots in let ws : List ℕ = slots_items c.close_with-closed.result.words in let kind = c.ring.inside.table.shared.key.kind in let wild = c.ring.inside.table.shared.key.wild in let id = c.split_seat-memory.new.seat.id in
    let long : length xs ≡ c.ring.inside.capacity = sym ((slots_counts c.close_with-closed.result.slots).0) ∙ (c.close_with-closed.ensures.counts.1 ∙ c.ring.invariant.slots) in
    closes wild kind c.ring.inside.capacity id V ws xs (subst (λ (z : View). Final (Seen (RingHolds wild kind) id z) ws xs) is c.close_with-closed.ensures.values.2) long c.producer.invariant.produces refl refl refl

left_is : (c : goal.In_ok-left) → c.in_ok-left.left.items ≡ entries_from (slots_items c.close_with-closed.result.slots) c.ring.inside.capacity (wrap (length c.consumer.inside.seat.me.0.consumer.entries)) c.ring.inside.capacity
left_is c = c.in_ok-left.ensures ∙ ap (λ (z : ℕ). entries_from (slots_items c.close_with-closed.result.slots) c.ring.inside.capacity z c.ring.inside.capacity) c.consumer.invariant.index

size_is : (c : goal.In_ok-left) → c.ring.inside.capacity ≡ c.args.ring.id.slots
size_is c = sym c.ring.invariant.slots ∙ ap (λ e. e.id.slots) c.ring.view_is

kind_is : (c : goal.In_ok-left) → c.ring.inside.table.shared.key.kind ≡ c.args.ring.kind
kind_is c = ap (λ e. e.kind) c.ring.view_is

pub returns-clause-rest : goal.returns-clause-rest
returns-clause-rest c = (
  sym (ap (λ e. e.knows.entries) c.producer.view_is) ∙ ((closing c).sent ∙ (λ i. (c.consumer.view_is i).knows.entries ++ sym (left_is c) i)),
  subst (λ (z : List Cargo × ℕ). length z.0 ≤ z.1) (λ i. (sym (left_is c) i, size_is c i)) ((closing c).within),
)

pub returns-clause-times : goal.returns-clause-times
returns-clause-times c = let t = (closing c).times in (
  t.0,
  sym (ap (λ e. e.knows.times) c.producer.view_is) ∙ (t.1 ∙ ap (λ e. e.knows.times ++ t.0) c.consumer.view_is),
  t.2 ∙ ap length (sym (left_is c)),
)

pub returns-clause-kinds : goal.returns-clause-kinds
returns-clause-kinds c = (
  sym (ap (λ e. e.knows.kind) c.producer.view_is) ∙ ((closing c).producer_kind ∙ kind_is c),
  sym (ap (λ e. e.knows.kind) c.consumer.view_is) ∙ ((closing c).consumer_kind ∙ kind_is c),
  subst (λ (z : QueueKind × List Cargo). All (λ x. kind_of x.0 ≡ z.0) z.1) (λ i. (kind_is c i, ap (λ e. e.knows.entries) c.producer.view_is i)) ((closing c).kinds),
)

sort_is : (c : goal.In_ok-left) → c.ring.inside.table.shared.key.wild ≡ c.args.ring.wild
sort_is c = ap (λ e. e.wild) c.ring.view_is

pub returns-clause-sorts : goal.returns-clause-sorts
returns-clause-sorts c = (sym (ap (λ e. e.knows.wild) c.producer.view_is) ∙ ((closing c).producer_sort ∙ sort_is c), sym (ap (λ e. e.knows.wild) c.consumer.view_is) ∙ ((closing c).consumer_sort ∙ sort_is c))

bells : (c : goal.In_ok-left) → c.args.ring.wild ≡ false → (BellHolds (forward_bell (nat_eq c.word-flag.result 1) (nat_eq c.word-pending.result 1) c.args.producer.knows c.args.consumer.knows) (nat_lt 0 (length c.in_ok-left.left.items)) (length c.args.producer.knows.entries))
    × BellHolds (backward_bell (nat_eq c.word-flag_back.result 1) (nat_eq c.word-pending_back.result 1) c.args.producer.knows c.args.consumer.knows) (nat_lt (length c.in_ok-left.left.items) c.args.ring.id.slots) (length c.args.consumer.knows.entries)
bells c tame = let b = (closing c).bells (sort_is c ∙ tame) c.word-flag.result c.word-pending.result c.word-flag_back.result c.word-pending_back.result c.word-flag.ensures c.word-pending.ensures c.word-flag_back.ensures c.word-pending_back.ensures in
    let size : c.ring.inside.capacity ≡ c.args.ring.id.slots = size_is c in
    subst (λ (z : (EndIs × EndIs) × (ℕ × List Cargo)). (BellHolds (forward_bell (nat_eq c.word-flag.result 1) (nat_eq c.word-pending.result 1) z.0.0.knows z.0.1.knows) (nat_lt 0 (length z.1.1)) (length z.0.0.knows.entries)) × BellHolds (backward_bell (nat_eq c.word-flag_back.result 1) (nat_eq c.word-pending_back.result 1) z.0.0.knows z.0.1.knows) (nat_lt (length z.1.1) z.1.0) (length z.0.1.knows.entries))
    (λ i. ((c.producer.view_is i, c.consumer.view_is i), (size i, sym (left_is c) i))) b

forward_is : (c : goal.In_ok-left) → forward_bell (nat_eq c.word-flag.result 1) (nat_eq c.word-pending.result 1) c.args.producer.knows c.args.consumer.knows ≡ record { flag = nat_eq c.word-flag.result 1; pending = nat_eq c.word-pending.result 1; waiter = c.consumer.inside.waiter; ringer = c.producer.inside.ringer }
forward_is c = λ i. record { flag = nat_eq c.word-flag.result 1; pending = nat_eq c.word-pending.result 1; waiter = (sym (ap (λ e. e.knows.waiter) c.consumer.view_is) ∙ sym c.consumer.invariant.waiter) i; ringer = (sym (ap (λ e. e.knows.ringer) c.producer.view_is) ∙ sym c.producer.invariant.ringer) i }

backward_is : (c : goal.In_ok-left) → backward_bell (nat_eq c.word-flag_back.result 1) (nat_eq c.word-pending_back.result 1) c.args.producer.knows c.args.consumer.knows ≡ record { flag = nat_eq c.word-flag_back.result 1; pending = nat_eq c.word-pending_back.result 1; waiter = c.producer.inside.waiter; ringer = c.consumer.inside.ringer }
backward_is c = λ i. record { flag = nat_eq c.word-flag_back.result 1; pending = nat_eq c.word-pending_back.result 1; waiter = (sym (ap (λ e. e.knows.waiter) c.producer.view_is) ∙ sym c.producer.invariant.waiter) i; ringer = (sym (ap (λ e. e.knows.ringer) c.consumer.view_is) ∙ sym c.consumer.invariant.ringer) i }

pub returns-clause-forward : goal.returns-clause-forward
returns-clause-forward c = sym (forward_is c)

pub returns-clause-backward : goal.returns-clause-backward
returns-clause-backward c = sym (backward_is c)

pub returns-clause-bells : goal.returns-clause-bells
returns-clause-bells c = λ tame. (
  subst (λ (z : BellState). BellHolds z (nat_lt 0 (length c.in_ok-left.left.items)) (length c.args.producer.knows.entries)) (forward_is c) (bells c tame).0,
  subst (λ (z : BellState). BellHolds z (nat_lt (length c.in_ok-left.left.items) c.args.ring.id.slots) (length c.args.consumer.knows.entries)) (backward_is c) (bells c tame).1,
)

pub returns-clause-words : goal.returns-clause-words
returns-clause-words c = λ tame. subst (λ (z : EndIs × EndIs). (nat_eq c.word-flag.result 1 ≡ flag_of z.1.knows z.0.knows) × (nat_eq c.word-pending.result 1 ≡ pending_of z.1.knows z.0.knows) × (nat_eq c.word-flag_back.result 1 ≡ flag_of z.0.knows z.1.knows) × (nat_eq c.word-pending_back.result 1 ≡ pending_of z.0.knows z.1.knows))
    (λ i. (c.producer.view_is i, c.consumer.view_is i)) ((closing c).words (sort_is c ∙ tame) c.word-flag.result c.word-pending.result c.word-flag_back.result c.word-pending_back.result c.word-flag.ensures c.word-pending.ensures c.word-flag_back.ensures c.word-pending_back.ensures)
