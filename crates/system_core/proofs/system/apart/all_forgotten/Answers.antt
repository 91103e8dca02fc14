use Rattle.std.proofs.Common.{◌++◌, [], ◌∷◌, List, sym, ap, subst, ◌∙◌, arith, length, append_assoc}
use Rattle.std.specs.List.{AllZip}
use Rattle.std.proofs.lemmas.Slice.Zip.{all_zipped_more}
use Rattle.actor_set.specs.declared.actor.Actor.{Actor}
use Rattle.order_law.specs.ActorParts.Opening.{IsForgotten}
use Rattle.system_core.proofs.system.apart.all_forgotten.Goals as goal

pub loop-actor-preserved : goal.loop-actor-preserved
loop-actor-preserved c =
    let was = c.loop-actor.invariant in
    let step = c.in-Some.ensures.steps in record {
      split = append_assoc c.loop-actor.yielded (c.in-Some.actor ∷ []) _ ∙ (sym (ap (λ (l : List Actor). c.loop-actor.yielded ++ l) step.0) ∙ was.split);
      len = let a = ap length step.0 in let b = step.1 in let d = was.len in omega (arith, a, b, d);
      each = subst (AllZip IsForgotten (c.loop-actor.yielded ++ c.in-Some.actor ∷ [])) (sym c.in_ok-push.ensures.items)
          (all_zipped_more IsForgotten c.loop-actor.yielded c.loop-actor.all.items c.in-Some.actor c.forget.new.self was.each
          (record { forgot = c.forget.ensures.after; part = c.forget.ensures.part; fits = c.forget.ensures.fits; stands = c.forget.ensures.lists }));
    }
