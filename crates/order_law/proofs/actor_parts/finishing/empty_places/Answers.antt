use Rattle.std.proofs.Common.{◌∙◌, ap, length, length-append, arith, None, [], ◌∷◌}
use Rattle.seat_wires.specs.Places.{stands_at}
use Rattle.order_law.proofs.ActorParts.Places.{none_more}
use Rattle.order_law.proofs.actor_parts.finishing.empty_places.Goals as goal

pub loop-preserved : goal.loop-preserved
loop-preserved g c = let was = c.loop.invariant in record {
  many = let a = ap length c.in_ok-push.ensures.items in let b = was.many in omega (arith, a, b, length-append c.loop.places.items (None ∷ []));
  none = λ n. ap (λ l. stands_at l n) c.in_ok-push.ensures.items ∙ none_more c.loop.places.items n (was.none n);
}
