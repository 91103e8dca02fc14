use Rattle.std.proofs.Common.{◌≡◌, ◌∙◌, ◌++◌, ◌∷◌, [], ap, sym, subst, length, map, arith, append_assoc, append-nil, slice_get}
use Rattle.wire_core.specs.Ends.{Consumer, Producer}
use Rattle.order_law.specs.ActorParts.Given.{Kept}
use Rattle.order_law.specs.ActorParts.Placing.{placed, AreWithin, all_placed}
use Rattle.order_law.proofs.ActorParts.Places.{next_is, none_left}
use Rattle.order_law.proofs.ActorParts.Standing.{ends_of, length_placed, all_more, own_stands, end_there, all_within, map_more, map_actors}
use Rattle.order_law.proofs.actor_parts.finishing.finish_apart.Goals as goal

pub place_ends-requires : goal.place_ends-requires
place_ends-requires c = let was = c.loop-worker.invariant in let part : Kept = (c.in-Some.worker, c.in-Some.sending, c.in-Some.taking) in
    let at = next_is c.loop-worker.yielded _ _ c.args.parts.actors.items part was.split c.in-Some.ensures.steps.0 in
    let long : length c.loop-worker.producers.items ≡ length c.args.parts.rings.items = (let a = was.many_producers in let b = c.in_ok-producers.ensures.many in let d = c.len.ensures in omega (arith, a, b, d)) in
    subst (λ n. AreWithin n c.in-Some.sending.items) (sym long) (all_within c.args.rows.now c.args.parts.rings.items c.args.parts.actors.items c.requires.apart c.requires.peers c.in_ok-producers.producers.items (let b = c.in_ok-producers.ensures.many in let d = c.len.ensures in omega (arith, b, d)) Producer (length c.loop-worker.yielded) part at)

pub place_ends-requires-in-loop-worker : goal.place_ends-requires-in-loop-worker
place_ends-requires-in-loop-worker c = let was = c.loop-worker.invariant in let part : Kept = (c.in-Some.worker, c.in-Some.sending, c.in-Some.taking) in
    let at = next_is c.loop-worker.yielded _ _ c.args.parts.actors.items part was.split c.in-Some.ensures.steps.0 in
    let long : length c.loop-worker.consumers.items ≡ length c.args.parts.rings.items = (let a = was.many_consumers in let b = c.in_ok-consumers.ensures.many in let d = c.len-2.ensures in omega (arith, a, b, d)) in
    subst (λ n. AreWithin n c.in-Some.taking.items) (sym long) (all_within c.args.rows.now c.args.parts.rings.items c.args.parts.actors.items c.requires.apart c.requires.peers c.in_ok-consumers.consumers.items (let b = c.in_ok-consumers.ensures.many in let d = c.len-2.ensures in omega (arith, b, d)) Consumer (length c.loop-worker.yielded) part at)

pub loop-worker-preserved : goal.loop-worker-preserved
loop-worker-preserved c = let was = c.loop-worker.invariant in let part : Kept = (c.in-Some.worker, c.in-Some.sending, c.in-Some.taking) in
    let at = next_is c.loop-worker.yielded _ _ c.args.parts.actors.items part was.split c.in-Some.ensures.steps.0 in
    let step = c.in-Some.ensures.steps in record {
      split = append_assoc c.loop-worker.yielded (part ∷ []) _ ∙ (sym (ap (λ l. c.loop-worker.yielded ++ l) step.0) ∙ was.split);
      len = let a = ap length step.0 in let b = step.1 in let d = was.len in omega (arith, a, b, d);
      actors = c.in_ok-push.ensures.items ∙ (ap (λ l. l ++ c.into_actor.result ∷ []) was.actors ∙ (ap (λ x. map (λ (p : Kept). p.0.actor) c.loop-worker.yielded ++ x ∷ []) c.into_actor.ensures ∙ sym (map_more (λ (p : Kept). p.0.actor) c.loop-worker.yielded part)));
      producers = c.place_ends.ensures ∙ (ap (λ l. placed c.in-Some.sending.items l) was.producers ∙ sym (all_more (λ (p : Kept). p.1.items) c.loop-worker.yielded part c.in_ok-producers.producers.items));
      consumers = c.place_ends-in-loop-worker.ensures ∙ (ap (λ l. placed c.in-Some.taking.items l) was.consumers ∙ sym (all_more (λ (p : Kept). p.2.items) c.loop-worker.yielded part c.in_ok-consumers.consumers.items));
      many_producers = ap length c.place_ends.ensures ∙ (length_placed c.in-Some.sending.items c.loop-worker.producers.items ∙ was.many_producers);
      many_consumers = ap length c.place_ends-in-loop-worker.ensures ∙ (length_placed c.in-Some.taking.items c.loop-worker.consumers.items ∙ was.many_consumers);
    }

pub finish_all-requires-clause-producers : goal.finish_all-requires-clause-producers
finish_all-requires-clause-producers c = let was = c.loop-worker.invariant in let all : c.loop-worker.yielded ≡ c.args.parts.actors.items = sym (append-nil c.loop-worker.yielded) ∙ (sym (ap (λ l. c.loop-worker.yielded ++ l) (none_left _ (was.len ∙ c.in-None.ensures.steps.0))) ∙ was.split) in
    λ n ring at. (let e = end_there c.args.rows.now c.args.parts.rings.items c.args.parts.actors.items c.requires.apart c.requires.peers c.in_ok-producers.producers.items (let b = c.in_ok-producers.ensures.many in let d = c.len.ensures in omega (arith, b, d)) Producer n ring at in
    (e.0, ap (λ l. slice_get l n) (was.producers ∙ ap (λ ps. all_placed (λ (p : Kept). p.1.items) ps c.in_ok-producers.producers.items) all) ∙ e.1, e.2))

pub finish_all-requires-clause-consumers : goal.finish_all-requires-clause-consumers
finish_all-requires-clause-consumers c = let was = c.loop-worker.invariant in let all : c.loop-worker.yielded ≡ c.args.parts.actors.items = sym (append-nil c.loop-worker.yielded) ∙ (sym (ap (λ l. c.loop-worker.yielded ++ l) (none_left _ (was.len ∙ c.in-None.ensures.steps.0))) ∙ was.split) in
    λ n ring at. (let e = end_there c.args.rows.now c.args.parts.rings.items c.args.parts.actors.items c.requires.apart c.requires.peers c.in_ok-consumers.consumers.items (let b = c.in_ok-consumers.ensures.many in let d = c.len-2.ensures in omega (arith, b, d)) Consumer n ring at in
    (e.0, ap (λ l. slice_get l n) (was.consumers ∙ ap (λ ps. all_placed (λ (p : Kept). p.2.items) ps c.in_ok-consumers.consumers.items) all) ∙ e.1, e.2))

pub returns : goal.returns
returns c = let was = c.loop-worker.invariant in let all : c.loop-worker.yielded ≡ c.args.parts.actors.items = sym (append-nil c.loop-worker.yielded) ∙ (sym (ap (λ l. c.loop-worker.yielded ++ l) (none_left _ (was.len ∙ c.in-None.ensures.steps.0))) ∙ was.split) in
    let made : c.loop-worker.producers.items ≡ all_placed (ends_of Producer) c.args.parts.actors.items c.in_ok-producers.producers.items = was.producers ∙ ap (λ ps. all_placed (λ (p : Kept). p.1.items) ps c.in_ok-producers.producers.items) all in
    let used : c.loop-worker.consumers.items ≡ all_placed (ends_of Consumer) c.args.parts.actors.items c.in_ok-consumers.consumers.items = was.consumers ∙ ap (λ ps. all_placed (λ (p : Kept). p.2.items) ps c.in_ok-consumers.consumers.items) all in record {
      actors_are = was.actors ∙ (ap (map (λ (p : Kept). p.0.actor)) all ∙ map_actors c.args.parts.actors.items);
      many = c.in_ok-ended.ensures.many;
      each = λ n row ring e at_row at_ring at_e p q own_p own_q. c.in_ok-ended.ensures.each n ring p q e at_ring
          (ap (λ l. slice_get l n) made ∙ own_stands c.args.rows.now c.args.parts.rings.items c.args.parts.actors.items c.requires.apart c.requires.peers c.in_ok-producers.producers.items (let b = c.in_ok-producers.ensures.many in let d = c.len.ensures in omega (arith, b, d)) Producer n row ring p at_row at_ring own_p)
          (ap (λ l. slice_get l n) used ∙ own_stands c.args.rows.now c.args.parts.rings.items c.args.parts.actors.items c.requires.apart c.requires.peers c.in_ok-consumers.consumers.items (let b = c.in_ok-consumers.ensures.many in let d = c.len-2.ensures in omega (arith, b, d)) Consumer n row ring q at_row at_ring own_q)
          at_e;
    }
