use Rattle.std.proofs.Common.{arith, rules, ◌+◌}
use Rattle.pd_runner.proofs.Wilding.{may_seated, wild_on}
use Rattle.pd_runner.proofs.Stepping.{worked_none, worked_on, worked_of}
use Rattle.pd_runner.specs.Running.{part_seats}
use Rattle.pd_runner.proofs.work.settle.Goals as goal

pub loop-worker-init : goal.loop-worker-init
loop-worker-init g c = record {
  n = 0;
  made_is = omega arith;
  worked = worked_none c.args.part.worker.actor (part_seats c.args.rings.now c.args.part) _ c.of-seats.ensures c.requires.ready.stands.sits;
  fine = c.requires.ready.fine;
  within = c.requires.within;
}

pub step-requires-clause-may : goal.step-requires-clause-may
step-requires-clause-may g c = may_seated c.loop-worker.worker.actor c.loop-worker.seats c.loop-worker.invariant.worked.comes.sits.fits (wild_on _ _ c.loop-worker.invariant.n _ _ c.loop-worker.invariant.worked.comes c.requires.ready.wild) (λ hostile. search rules)

pub loop-worker-preserved : goal.loop-worker-preserved
loop-worker-preserved g c = let was = c.loop-worker.invariant in record {
  n = was.n + 1;
  made_is = let e = was.made_is in omega (arith, e);
  worked = worked_on _ _ was.n _ _ _ _ c.in-Ok.event was.worked c.in-Ok.ensures.fits c.in-Ok.ensures.part c.in-Ok.ensures.stepped c.in-Ok.ensures.own c.in-Ok.ensures.turned c.in-Ok.ensures.due (search rules);
  fine = c.in-Ok.ensures.fine;
  within = omega arith;
}

pub returns-clause-came : goal.returns-clause-came
returns-clause-came g c = let was = c.loop-worker.invariant in let e = c.into_ends-producers.ensures in
    (was.n, was.made_is, worked_of _ _ was.n _ c.loop-worker.seats e.producers e.consumers c.row_law.ensures was.worked)
