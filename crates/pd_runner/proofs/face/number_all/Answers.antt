use Rattle.std.proofs.Common.{arith, ap, length}
use Rattle.pd_runner.specs.Seated.{IsNumbered}
use Rattle.pd_runner.proofs.Eaches.{each_pushed, yields_on}
use Rattle.pd_runner.proofs.face.number_all.Goals as goal

pub loop-part-preserved : goal.loop-part-preserved
loop-part-preserved c = let was = c.loop-part.invariant in let step = c.in-Some.ensures.steps in record {
  split = yields_on _ _ _ _ _ step.0 was.split;
  len = let a = ap length step.0 in let b = step.1 in let d = was.len in omega (arith, a, b, d);
  each = each_pushed IsNumbered _ _ _ _ _ c.in_ok-push.ensures.items was.each c.in_ok-number.ensures;
}
