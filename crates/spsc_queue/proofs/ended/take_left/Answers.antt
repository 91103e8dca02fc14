use Rattle.std.proofs.Common.{ℕ, ◌+◌, ◌%◌, ◌<◌, ◌≡◌, ◌++◌, sym, ap, append-nil, ◌∙◌, subst, arith}
use Rattle.std.specs.Slots.{slots_filled, slots_items, slots_counts}
use Rattle.std.specs.Slots.Ownership.{Filled}
use Rattle.std.specs.VecDeque.{deque_capacity}
use Rattle.spsc_queue.specs.Rule.{Slot}
use Rattle.spsc_queue.specs.Left.{listed}
use Rattle.spsc_queue.proofs.Emptying.{Taking, begins, goes_on, all_empty}
use Rattle.spsc_queue.proofs.ended.take_left.Goals as goal
use Rattle.spsc_queue.proofs.ended.take_left.Goals.{in-Some, in_default}

pub loop-k-init : goal.loop-k-init
loop-k-init c = (
  begins c.args.capacity c.args.head (slots_items c.args.closed.slots) (slots_filled c.args.closed.slots) c.in-Ok.left.items c.requires.places.1 (sym ((slots_counts c.args.closed.slots).1) ∙ c.requires.places.0)
      (subst (Filled (slots_filled c.args.closed.slots) 0) c.requires.places.0 c.requires.full) c.in-Ok.ensures.items,
  c.requires.places.0,
  c.in-Ok.ensures.exact ∙ c.from-places.ensures,
)

pub loop-k-preserved : goal.loop-k-preserved
loop-k-preserved c = let k : ℕ = c.loop-k.k in let lt : k < c.args.capacity = subst (λ (z : ℕ). k < z) c.from-places.ensures c.loop-k-test.true in
    let at : (c.from-in-loop-k.result + k) % c.from-places.result ≡ (c.args.head + k) % c.args.capacity = ap (λ (z : ℕ × ℕ). (z.0 + k) % z.1) (λ i. (c.from-in-loop-k.ensures i, c.from-places.ensures i)) in
    let others = c.take-slot.ensures.others in
    elim c.match-slot.branch [
      | in-Some w ↦ (
        goes_on c.args.capacity c.args.head k ((c.from-in-loop-k.result + k) % c.from-places.result) (slots_items c.loop-k.closed.slots) (slots_items c.take-slot.new.self.slots) (slots_items c.args.closed.slots) (slots_filled c.loop-k.closed.slots) (slots_filled c.take-slot.new.self.slots) c.loop-k.left.items c.match-slot.left.items c.take-slot.result
            lt at c.take-slot.ensures.value others.0 others.1 (ap (λ v. v.items) w.left-is ∙ (w.push_back_reserved.ensures.items ∙ ap (λ (s : Slot). c.loop-k.left.items ++ listed s) (sym w.in-Some.is))) c.loop-k.invariant.0,
        others.2 ∙ c.loop-k.invariant.1,
        ap deque_capacity w.left-is ∙ (w.push_back_reserved.ensures.capacity ∙ c.loop-k.invariant.2),
      )
      | in_default w ↦ (
        goes_on c.args.capacity c.args.head k ((c.from-in-loop-k.result + k) % c.from-places.result) (slots_items c.loop-k.closed.slots) (slots_items c.take-slot.new.self.slots) (slots_items c.args.closed.slots) (slots_filled c.loop-k.closed.slots) (slots_filled c.take-slot.new.self.slots) c.loop-k.left.items c.match-slot.left.items c.take-slot.result
            lt at c.take-slot.ensures.value others.0 others.1 (ap (λ v. v.items) w.left-is ∙ (sym (append-nil c.loop-k.left.items) ∙ ap (λ (s : Slot). c.loop-k.left.items ++ listed s) (sym w.in_default.is))) c.loop-k.invariant.0,
        others.2 ∙ c.loop-k.invariant.1,
        ap deque_capacity w.left-is ∙ c.loop-k.invariant.2,
      )
    ]

pub free-requires : goal.free-requires
free-requires c = let e = c.from-places.ensures in let a = c.loop-k.auto.k-end in let b = c.loop-k-test.false in let last : c.loop-k.k ≡ c.args.capacity = omega arith in
    λ i lt. all_empty c.args.capacity c.args.head i (slots_items c.loop-k.closed.slots) (slots_items c.args.closed.slots) (slots_filled c.loop-k.closed.slots) c.loop-k.left.items
    (subst (λ (z : ℕ). Taking c.args.capacity c.args.head z (slots_items c.loop-k.closed.slots) (slots_items c.args.closed.slots) (slots_filled c.loop-k.closed.slots) c.loop-k.left.items) last c.loop-k.invariant.0) (subst (λ (z : ℕ). i < z) c.loop-k.invariant.1 lt)
