use Rattle.std.proofs.Common.{◌∙◌, ◌++◌, ◌∷◌, [], ap, sym, length, length-append, arith, append_assoc}
use Rattle.order_law.proofs.ActorParts.Numbering.{one_more, none_more}
use Rattle.order_law.proofs.actor_parts.seating.by_number.Goals.{in-Some-place+in_ok-push-in-Some-place, in-None-place}
use Rattle.order_law.proofs.actor_parts.seating.by_number.Goals as goal

pub loop-place-preserved : goal.loop-place-preserved
loop-place-preserved g c = let was = c.loop-place.invariant in let step = c.in-Some.ensures.steps in record {
  split = append_assoc c.loop-place.yielded (c.in-Some.place ∷ []) _ ∙ (sym (ap (λ l. c.loop-place.yielded ++ l) step.0) ∙ was.split);
  len = let a = ap length step.0 in let b = step.1 in let d = was.len in omega (arith, a, b, d);
  many = let a = was.many in omega (arith, a, length-append c.loop-place.yielded (c.in-Some.place ∷ []));
  ends = elim c.match-place.branch [
    | in-Some-place+in_ok-push-in-Some-place w ↦ one_more c.loop-place.number _ _ _ _ c.args.places.items c.in-Some.place w.in-Some-place.end (ap (λ v. v.items) w.ends-is ∙ w.in_ok-push-in-Some-place.ensures.items) step.0 w.in-Some-place.is was.ends
    | in-None-place w ↦ none_more c.loop-place.number _ _ _ _ c.args.places.items c.in-Some.place (ap (λ v. v.items) w.ends-is) step.0 w.in-None-place.is was.ends
  ];
}
