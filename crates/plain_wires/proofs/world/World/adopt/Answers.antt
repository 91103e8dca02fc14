use Rattle.std.proofs.Common.{◌≡◌, ◌++◌, [], ◌∷◌, List, ℕ, length, length-append, get_or, sym, ap, ◌∙◌, subst, arith, append_assoc, All}
use Rattle.std.specs.List.{AllZip}
use Rattle.std.specs.Vec.Iter.{into_iter_items}
use Rattle.std.proofs.lemmas.Slice.Zip.{AllZip-long}
use Rattle.wire_core.specs.declared.names.QueueRow.{QueueRow}
use Rattle.cargo_core.specs.Capacities.{IsCapacity}
use Rattle.wire_core.specs.Queues.{Queue}
use Rattle.spsc_queue.specs.Known.Ends.{EndedIs}
use Rattle.plain_wires.specs.Adopted.{IsEndedOf, adopted, all_adopted}
use Rattle.plain_wires.specs.Pendings.{IsAmong}
use Rattle.plain_wires.proofs.Adopting.{none_adopted, adopted_more, ended_at, row_there, known_rows}
use Rattle.plain_wires.proofs.world.World.adopt.Goals as goal

pub loop-ring-init : goal.loop-ring-init
loop-ring-init c = record {
  split = c.into_iter-ring-iterator.ensures.into_iter_gives.0;
  len = let a = ap length c.into_iter-ring-iterator.ensures.into_iter_gives.0 in let b = c.into_iter-ring-iterator.ensures.into_iter_gives.1 in let e = c.args.ended.ok in omega (arith, a, b, e);
  many = ap length c.in_ok-queues.ensures.items;
  queues = c.in_ok-queues.ensures.items ∙ sym (none_adopted c.args.rows.now);
}

pub bounds-rows-len : goal.bounds-rows-len
bounds-rows-len c =
    let was = c.loop-ring.invariant in
    let split : c.loop-ring.yielded ++ c.in-Some.ring ∷ into_iter_items c.next.new.self ≡ c.args.ended.items = sym (ap (λ (l : List EndedIs). c.loop-ring.yielded ++ l) c.in-Some.ensures.steps.0) ∙ was.split in
    let lt = row_there c.args.rows.now c.loop-ring.yielded c.in-Some.ring (into_iter_items c.next.new.self) (subst (AllZip IsEndedOf c.args.rows.now) (sym split) c.requires.ended) in
    let len = c.len.ensures in
    let many = was.many in
    omega (arith, lt, len, many)

pub adopt-requires-clause-sized : goal.adopt-requires-clause-sized
adopt-requires-clause-sized c =
    let was = c.loop-ring.invariant in
    let split : c.loop-ring.yielded ++ c.in-Some.ring ∷ into_iter_items c.next.new.self ≡ c.args.ended.items = sym (ap (λ (l : List EndedIs). c.loop-ring.yielded ++ l) c.in-Some.ensures.steps.0) ∙ was.split in
    let lt = row_there c.args.rows.now c.loop-ring.yielded c.in-Some.ring (into_iter_items c.next.new.self) (subst (AllZip IsEndedOf c.args.rows.now) (sym split) c.requires.ended) in
    let len = c.len.ensures in
    let many = was.many in
    subst (λ (r : QueueRow). IsCapacity r.capacity) (sym c.index-rows-len.is) (c.requires.sized.capacities c.len.result c.index-rows-len.result (omega (arith, lt, len, many)))

pub adopt-requires-clause-left : goal.adopt-requires-clause-left
adopt-requires-clause-left c =
    let was = c.loop-ring.invariant in
    let split : c.loop-ring.yielded ++ c.in-Some.ring ∷ into_iter_items c.next.new.self ≡ c.args.ended.items = sym (ap (λ (l : List EndedIs). c.loop-ring.yielded ++ l) c.in-Some.ensures.steps.0) ∙ was.split in
    let len = c.len.ensures in
    let many = was.many in
    let number : c.len.result ≡ length c.loop-ring.yielded = omega (arith, len, many) in
    ended_at c.args.rows.now c.loop-ring.yielded c.in-Some.ring (into_iter_items c.next.new.self) c.index-rows-len.result (subst (AllZip IsEndedOf c.args.rows.now) (sym split) c.requires.ended) (subst (λ n. c.index-rows-len.result ≡ get_or c.args.rows.now n c.index-rows-len.result) number c.index-rows-len.is)

pub loop-ring-preserved : goal.loop-ring-preserved
loop-ring-preserved c =
    let was = c.loop-ring.invariant in
    let step = c.in-Some.ensures.steps in
    let split : c.loop-ring.yielded ++ c.in-Some.ring ∷ into_iter_items c.next.new.self ≡ c.args.ended.items = sym (ap (λ (l : List EndedIs). c.loop-ring.yielded ++ l) step.0) ∙ was.split in
    let lt = row_there c.args.rows.now c.loop-ring.yielded c.in-Some.ring (into_iter_items c.next.new.self) (subst (AllZip IsEndedOf c.args.rows.now) (sym split) c.requires.ended) in
    let len = c.len.ensures in
    let many = was.many in
    let number : c.len.result ≡ length c.loop-ring.yielded = omega (arith, len, many) in
    let at : c.index-rows-len.result ≡ get_or c.args.rows.now (length c.loop-ring.yielded) c.index-rows-len.result = subst (λ n. c.index-rows-len.result ≡ get_or c.args.rows.now n c.index-rows-len.result) number c.index-rows-len.is in
    let pushed : c.push.new.self.items ≡ all_adopted c.args.rows.now c.loop-ring.yielded ++ adopted (c.index-rows-len.result, c.in-Some.ring) ∷ [] = c.in_ok-push.ensures.items ∙ (λ i. was.queues i ++ c.in_ok-adopt.ensures i ∷ []) in record {
      split = append_assoc c.loop-ring.yielded (c.in-Some.ring ∷ []) _ ∙ split;
      len = let a = ap length step.0 in let b = step.1 in let d = was.len in omega (arith, a, b, d);
      many = let a = ap length c.in_ok-push.ensures.items in let b = length-append c.loop-ring.queues.items (c.in_ok-adopt.field-0 ∷ []) in let d = length-append c.loop-ring.yielded (c.in-Some.ring ∷ []) in omega (arith, a, b, d, many);
      queues = pushed ∙ sym (adopted_more c.args.rows.now c.loop-ring.yielded c.index-rows-len.result c.in-Some.ring lt at);
    }

pub count_bells-requires-clause-few : goal.count_bells-requires-clause-few
count_bells-requires-clause-few c =
    let value = ap length c.deref.ensures.value in
    let many = c.loop-ring.invariant.many in
    let split = ap length c.loop-ring.invariant.split in
    let app = length-append c.loop-ring.yielded (into_iter_items c.loop-ring.ring-iterator) in
    let long = AllZip-long IsEndedOf c.args.rows.now c.args.ended.items c.requires.ended in
    let few = c.requires.sized.few in
    omega (arith, value, many, split, app, long, few)

pub count_bells-requires-clause-known : goal.count_bells-requires-clause-known
count_bells-requires-clause-known c =
    let queues : c.deref.result.now ≡ all_adopted c.args.rows.now c.loop-ring.yielded = c.deref.ensures.value ∙ c.loop-ring.invariant.queues in
    let many : length c.deref_mut.result.now ≡ c.actors_of.result = c.deref_mut.ensures.len ∙ c.in_ok-pending.ensures.len in
    subst (λ (z : List Queue × ℕ). All (IsAmong z.1) z.0) (λ i. (sym queues i, sym many i)) (known_rows c.actors_of.result c.args.rows.now c.loop-ring.yielded c.actors_of.ensures)
