use Rattle.std.proofs.Common.{◌≡◌, ◌∙◌, ◌++◌, ◌∷◌, [], ℕ, ap, sym, subst, length, length-append, arith, append_assoc, append-nil, None, slice_get, ⊎_elim}
use Rattle.spsc_queue.specs.Known.Ends.{EndIs, RingIs, EndedIs}
use Rattle.spsc_queue.specs.Rule.{forward_bell, backward_bell}
use Rattle.order_law.specs.ActorParts.Finished.{HasEnded}
use Rattle.order_law.proofs.ActorParts.Places.{set_beside, get_more, same_end, next_is, none_left, still_there}
use Rattle.order_law.proofs.actor_parts.finishing.finish_all.Goals as goal

pub take_end-producer-requires : goal.take_end-producer-requires
take_end-producer-requires c = let n : ℕ = length c.loop-ring.yielded in let was = c.loop-ring.invariant in let at = next_is c.loop-ring.yielded _ _ c.args.rings.items c.in-Some.ring was.split c.in-Some.ensures.steps.0 in
    let place : c.len-place.result ≡ n = (let a = c.len-place.ensures in let b = was.many in omega (arith, a, b)) in
    let p = c.requires.producers n c.in-Some.ring at in let q = c.requires.consumers n c.in-Some.ring at in
    let p_there = still_there c.loop-ring.producers.items c.args.producers.items c.len-place.result n p.0 place (was.producers n (omega arith)) p.1 in
    let q_there = still_there c.loop-ring.consumers.items c.args.consumers.items c.len-place.result n q.0 place (was.consumers n (omega arith)) q.1 in
    (p.0, p_there)

pub take_end-consumer-requires : goal.take_end-consumer-requires
take_end-consumer-requires c = let n : ℕ = length c.loop-ring.yielded in let was = c.loop-ring.invariant in let at = next_is c.loop-ring.yielded _ _ c.args.rings.items c.in-Some.ring was.split c.in-Some.ensures.steps.0 in
    let place : c.len-place.result ≡ n = (let a = c.len-place.ensures in let b = was.many in omega (arith, a, b)) in
    let p = c.requires.producers n c.in-Some.ring at in let q = c.requires.consumers n c.in-Some.ring at in
    let p_there = still_there c.loop-ring.producers.items c.args.producers.items c.len-place.result n p.0 place (was.producers n (omega arith)) p.1 in
    let q_there = still_there c.loop-ring.consumers.items c.args.consumers.items c.len-place.result n q.0 place (was.consumers n (omega arith)) q.1 in
    (q.0, q_there)

pub finish-requires-clause-producer : goal.finish-requires-clause-producer
finish-requires-clause-producer c = let n : ℕ = length c.loop-ring.yielded in let was = c.loop-ring.invariant in let at = next_is c.loop-ring.yielded _ _ c.args.rings.items c.in-Some.ring was.split c.in-Some.ensures.steps.0 in
    let place : c.len-place.result ≡ n = (let a = c.len-place.ensures in let b = was.many in omega (arith, a, b)) in
    let p = c.requires.producers n c.in-Some.ring at in let q = c.requires.consumers n c.in-Some.ring at in
    let p_there = still_there c.loop-ring.producers.items c.args.producers.items c.len-place.result n p.0 place (was.producers n (omega arith)) p.1 in
    let q_there = still_there c.loop-ring.consumers.items c.args.consumers.items c.len-place.result n q.0 place (was.consumers n (omega arith)) q.1 in
    ap (λ (e : EndIs). e.ring) (same_end c.take_end-producer.result p.0 (sym c.take_end-producer.ensures.end ∙ p_there)) ∙ p.2

pub finish-requires-clause-consumer : goal.finish-requires-clause-consumer
finish-requires-clause-consumer c = let n : ℕ = length c.loop-ring.yielded in let was = c.loop-ring.invariant in let at = next_is c.loop-ring.yielded _ _ c.args.rings.items c.in-Some.ring was.split c.in-Some.ensures.steps.0 in
    let place : c.len-place.result ≡ n = (let a = c.len-place.ensures in let b = was.many in omega (arith, a, b)) in
    let p = c.requires.producers n c.in-Some.ring at in let q = c.requires.consumers n c.in-Some.ring at in
    let p_there = still_there c.loop-ring.producers.items c.args.producers.items c.len-place.result n p.0 place (was.producers n (omega arith)) p.1 in
    let q_there = still_there c.loop-ring.consumers.items c.args.consumers.items c.len-place.result n q.0 place (was.consumers n (omega arith)) q.1 in
    ap (λ (e : EndIs). e.ring) (same_end c.take_end-consumer.result q.0 (sym c.take_end-consumer.ensures.end ∙ q_there)) ∙ q.2

pub loop-ring-preserved : goal.loop-ring-preserved
loop-ring-preserved c = let n : ℕ = length c.loop-ring.yielded in let was = c.loop-ring.invariant in let at = next_is c.loop-ring.yielded _ _ c.args.rings.items c.in-Some.ring was.split c.in-Some.ensures.steps.0 in
    let place : c.len-place.result ≡ n = (let a = c.len-place.ensures in let b = was.many in omega (arith, a, b)) in
    let p = c.requires.producers n c.in-Some.ring at in let q = c.requires.consumers n c.in-Some.ring at in
    let p_there = still_there c.loop-ring.producers.items c.args.producers.items c.len-place.result n p.0 place (was.producers n (omega arith)) p.1 in
    let q_there = still_there c.loop-ring.consumers.items c.args.consumers.items c.len-place.result n q.0 place (was.consumers n (omega arith)) q.1 in
    let step = c.in-Some.ensures.steps in let did = c.in_ok-finish.ensures in
    let p_is : c.take_end-producer.result ≡ p.0 = same_end c.take_end-producer.result p.0 (sym c.take_end-producer.ensures.end ∙ p_there) in
    let q_is : c.take_end-consumer.result ≡ q.0 = same_end c.take_end-consumer.result q.0 (sym c.take_end-consumer.ensures.end ∙ q_there) in
    let now : HasEnded c.in-Some.ring c.take_end-producer.result c.take_end-consumer.result c.in_ok-finish.field-0 = record {
      capacity = did.ends.0;
      producer = did.ends.1;
      consumer = did.ends.2;
      rest = did.rest.0;
      few = did.rest.1;
      later = did.times.0;
      times = did.times.1;
      timed = did.times.2;
      producer_kind = did.kinds.0;
      consumer_kind = did.kinds.1;
      kinds = did.kinds.2;
      producer_sort = did.sorts.0;
      consumer_sort = did.sorts.1;
      forward = did.forward;
      backward = did.backward;
      told = λ tame. let words = did.words tame in (did.forward ∙ (λ i. forward_bell (words.0 i) (words.1 i) c.take_end-producer.result.knows c.take_end-consumer.result.knows), did.backward ∙ (λ i. backward_bell (words.2 i) (words.3 i) c.take_end-producer.result.knows c.take_end-consumer.result.knows));
      bells = did.bells;
    } in record {
      split = append_assoc c.loop-ring.yielded (c.in-Some.ring ∷ []) _ ∙ (sym (ap (λ l. c.loop-ring.yielded ++ l) step.0) ∙ was.split);
      len = let a = ap length step.0 in let b = step.1 in let d = was.len in omega (arith, a, b, d);
      many = let a = ap length c.in_ok-push.ensures.items in let b = was.many in omega (arith, a, b, length-append c.loop-ring.all.items (c.in_ok-finish.field-0 ∷ []), length-append c.loop-ring.yielded (c.in-Some.ring ∷ []));
      producers = λ m le. (let long = length-append c.loop-ring.yielded (c.in-Some.ring ∷ []) in ap (λ l. slice_get l m) c.take_end-producer.ensures.left ∙ (set_beside c.loop-ring.producers.items c.len-place.result m None (λ e. omega (arith, e, place, long)) ∙ was.producers m (omega (arith, long))));
      consumers = λ m le. (let long = length-append c.loop-ring.yielded (c.in-Some.ring ∷ []) in ap (λ l. slice_get l m) c.take_end-consumer.ensures.left ∙ (set_beside c.loop-ring.consumers.items c.len-place.result m None (λ e. omega (arith, e, place, long)) ∙ was.consumers m (omega (arith, long))));
      each = λ m ring a b e at_ring at_a at_b at_e. ⊎_elim
          (λ before. ⊎_elim
          (λ old. was.each m ring a b e before.1 at_a at_b old.1)
          (λ last. absurd (let long = was.many in let lt = before.0 in let is = last.0 in omega (arith, long, lt, is)))
          (get_more c.loop-ring.all.items c.in_ok-finish.field-0 e m (ap (λ l. slice_get l m) (sym c.in_ok-push.ensures.items) ∙ at_e)))
          (λ last. let a_is : a ≡ c.take_end-producer.result = same_end a p.0 (sym at_a ∙ (ap (λ z. slice_get c.args.producers.items z) last.0 ∙ p.1)) ∙ sym p_is in
          let b_is : b ≡ c.take_end-consumer.result = same_end b q.0 (sym at_b ∙ (ap (λ z. slice_get c.args.consumers.items z) last.0 ∙ q.1)) ∙ sym q_is in
          ⊎_elim
          (λ old. absurd (let long = was.many in let lt = old.0 in let is = last.0 in omega (arith, long, lt, is)))
          (λ ended. subst (λ (z : (RingIs × EndIs) × (EndIs × EndedIs)). HasEnded z.0.0 z.0.1 z.1.0 z.1.1) (λ i. ((sym last.1 i, sym a_is i), (sym b_is i, sym ended.1 i))) now)
          (get_more c.loop-ring.all.items c.in_ok-finish.field-0 e m (ap (λ l. slice_get l m) (sym c.in_ok-push.ensures.items) ∙ at_e)))
          (get_more c.loop-ring.yielded c.in-Some.ring ring m at_ring);
    }

pub returns-clause-each : goal.returns-clause-each
returns-clause-each c = let was = c.loop-ring.invariant in let all : c.loop-ring.yielded ≡ c.args.rings.items = sym (append-nil c.loop-ring.yielded) ∙ (sym (ap (λ l. c.loop-ring.yielded ++ l) (none_left _ (was.len ∙ c.in-None.ensures.steps.0))) ∙ was.split) in
    λ n ring p q e at_ring at_p at_q at_e. was.each n ring p q e (ap (λ l. slice_get l n) all ∙ at_ring) at_p at_q at_e
