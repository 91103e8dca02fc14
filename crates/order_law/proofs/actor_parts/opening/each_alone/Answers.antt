use Rattle.std.proofs.Common.{◌++◌, [], ◌∷◌, List, sym, ap, subst, ◌∙◌, arith, length, append_assoc}
use Rattle.std.specs.List.{AllZip}
use Rattle.std.proofs.lemmas.Slice.Zip.{all_zipped_more}
use Rattle.actor_set.specs.declared.actor.Actor.{Actor}
use Rattle.order_law.specs.ActorParts.Opening.{IsForgotten}
use Rattle.order_law.specs.ActorParts.Given.{IsAlone}
use Rattle.order_law.proofs.actor_parts.opening.each_alone.Goals as goal

pub loop-actor-preserved : goal.loop-actor-preserved
loop-actor-preserved c =
    let was = c.loop-actor.invariant in
    let step = c.in-Some.ensures.steps in record {
      split = append_assoc c.loop-actor.yielded (c.in-Some.actor ∷ []) _ ∙ (sym (ap (λ (l : List Actor). c.loop-actor.yielded ++ l) step.0) ∙ was.split);
      len = let a = ap length step.0 in let b = step.1 in let d = was.len in omega (arith, a, b, d);
      each = subst (AllZip IsAlone (c.loop-actor.yielded ++ c.in-Some.actor ∷ [])) (sym c.in_ok-push.ensures.items)
          (all_zipped_more IsAlone c.loop-actor.yielded c.loop-actor.parts.items c.in-Some.actor (c.alone.result, c.new.result, c.new-in-loop-actor.result) was.each
          (record { forgotten = subst (IsForgotten c.in-Some.actor) (sym c.alone.ensures.actor) (record { forgot = c.forget.ensures.after; part = c.forget.ensures.part; fits = c.forget.ensures.fits; stands = c.forget.ensures.lists }); fine = c.alone.ensures.wanted; no_producer = c.new.ensures.items; no_consumer = c.new-in-loop-actor.ensures.items }));
    }
