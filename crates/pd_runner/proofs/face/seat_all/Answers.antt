use Rattle.std.proofs.Common.{◌∙◌, ◌++◌, arith, ap, sym, subst, length}
use Rattle.pd_runner.specs.Each.{Every}
use Rattle.pd_runner.specs.Seated.{IsApart, IsSeated}
use Rattle.pd_runner.proofs.Eaches.{each_pushed, every_at, yields_on}
use Rattle.pd_runner.proofs.face.seat_all.Goals as goal

pub loop-part-preserved : goal.loop-part-preserved
loop-part-preserved c = let was = c.loop-part.invariant in let step = c.in-Some.ensures.steps in record {
  split = yields_on _ _ _ _ _ step.0 was.split;
  len = let a = ap length step.0 in let b = step.1 in let d = was.len in omega (arith, a, b, d);
  each = each_pushed (IsSeated c.args.rings.now) _ _ _ _ _ c.in_ok-push.ensures.items was.each c.in_ok-seat.ensures;
}

pub seat-requires-clause-apart : goal.seat-requires-clause-apart
seat-requires-clause-apart c = let was = c.loop-part.invariant in let step = c.in-Some.ensures.steps in
    every_at (IsApart c.args.rings.now) c.loop-part.yielded _ c.in-Some.part (subst (Every (IsApart c.args.rings.now)) (sym (ap (λ l. c.loop-part.yielded ++ l) (sym step.0) ∙ was.split)) c.requires.apart)
