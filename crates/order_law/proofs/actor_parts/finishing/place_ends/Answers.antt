use Rattle.std.proofs.Common.{◌∙◌, refl, ap, sym, subst, length, arith, Some}
use Rattle.order_law.specs.ActorParts.Placing.{placed, AreWithin}
use Rattle.order_law.proofs.ActorParts.Places.{length_set, within_rest}
use Rattle.order_law.proofs.actor_parts.finishing.place_ends.Goals as goal

pub index_mut-requires : goal.index_mut-requires
index_mut-requires g c = let step = c.in-Some.ensures.steps in let was = c.loop-queue.invariant in
    let lt = subst (AreWithin (length c.args.places.now.items)) step.0 was.within 0 (c.in-Some.queue, c.in-Some.end) refl in omega (arith, lt, was.long)

pub loop-queue-preserved-in-Some : goal.loop-queue-preserved-in-Some
loop-queue-preserved-in-Some g c = let was = c.loop-queue.invariant in let step = c.in-Some.ensures.steps in record {
  len = let a = ap length step.0 in let b = step.1 in let d = was.len in omega (arith, a, b, d);
  same = sym (ap (λ l. placed l c.loop-queue.places.items) step.0) ∙ was.same;
  long = length_set c.loop-queue.places.items c.in-Some.queue.0 (Some c.in-Some.end) ∙ was.long;
  within = within_rest _ _ _ (subst (AreWithin (length c.args.places.now.items)) step.0 was.within);
}

pub loop-queue-preserved : goal.loop-queue-preserved
loop-queue-preserved g c = let was = c.loop-queue.invariant in let step = c.in-Some.ensures.steps in record {
  len = let a = ap length step.0 in let b = step.1 in let d = was.len in omega (arith, a, b, d);
  same = sym (ap (λ l. placed l c.loop-queue.places.items) step.0) ∙ was.same;
  long = length_set c.loop-queue.places.items c.in-Some.queue.0 (Some c.in-Some.end) ∙ was.long;
  within = within_rest _ _ _ (subst (AreWithin (length c.args.places.now.items)) step.0 was.within);
}
