use Rattle.std.proofs.Common.{◌≡◌, true, false, arith, ap, sym, ◌∙◌}
use Rattle.order_law.specs.declared.actor_parts.worker.Worker.{Worker}
use Rattle.pd_runner.proofs.Wilding.{may_seated, wild_on}
use Rattle.pd_runner.specs.Running.{Comes, part_seats}
use Rattle.pd_runner.proofs.Stepping.{comes_on, comes_same, came_of}
use Rattle.pd_runner.proofs.work.work.Goals.{else-is_hostile-via-then-is_hostile+else-at_rest, else-is_hostile-via-else-is_hostile, in-None, in-Some+then-is_unmanned, in-Some+else-is_unmanned+else-is_over+else-made-limit+then-is_hostile+then-at_rest, in-Some+else-is_unmanned+else-is_over+then-made-limit, in-Some+else-is_unmanned+else-is_over+else-made-limit+else-is_hostile+else-calm-ends+in-Err}
use Rattle.pd_runner.proofs.work.work.Goals as goal

pub step-requires-clause-may : goal.step-requires-clause-may
step-requires-clause-may g c = may_seated c.loop.worker.actor c.loop.seats c.loop.invariant.comes.sits.fits (wild_on _ _ c.loop.made _ _ c.loop.invariant.comes c.requires.wild) (λ hostile. elim c.else-is_hostile.branch [
  | else-is_hostile-via-then-is_hostile+else-at_rest w ↦ sym w.at_rest.ensures ∙ w.if-at_rest.false
  | else-is_hostile-via-else-is_hostile w ↦ let no : true ≡ false = sym hostile ∙ (sym c.is_hostile.ensures ∙ w.if-is_hostile.false) in absurd cc
])

pub loop-preserved : goal.loop-preserved
loop-preserved g c = let was = c.loop.invariant in record {
  can_next = tt;
  is_finite = tt;
  comes = comes_on _ _ c.loop.made _ _ _ _ c.in-Ok.event was.comes c.in-Ok.ensures.fits c.in-Ok.ensures.part c.in-Ok.ensures.stepped c.in-Ok.ensures.own c.in-Ok.ensures.turned c.in-Ok.ensures.due;
  fine = c.in-Ok.ensures.fine;
  within = omega arith;
}

pub returns-clause-came : goal.returns-clause-came
returns-clause-came g c = let was = c.loop.invariant in let e = c.into_ends-producers.ensures in
    let now : Comes c.args.part.worker.actor (part_seats c.args.rings.now c.args.part) c.loop.made c.match-next.worker.actor c.match-next.seats = elim c.match-next.branch [
      | in-None w ↦ comes_same _ _ _ _ _ _ _ (ap (λ (z : Worker). z.actor) w.worker-is) w.seats-is was.comes
      | in-Some+then-is_unmanned w ↦ comes_same _ _ _ _ _ _ _ (ap (λ (z : Worker). z.actor) w.worker-is) w.seats-is was.comes
      | in-Some+else-is_unmanned+else-is_over+then-made-limit w ↦ comes_same _ _ _ _ _ _ _ (ap (λ (z : Worker). z.actor) w.worker-is) w.seats-is was.comes
      | in-Some+else-is_unmanned+else-is_over+else-made-limit+then-is_hostile+then-at_rest w ↦ comes_same _ _ _ _ _ _ _ (ap (λ (z : Worker). z.actor) w.worker-is) w.seats-is was.comes
      | in-Some+else-is_unmanned+else-is_over+else-made-limit+else-is_hostile+else-calm-ends+in-Err w ↦ comes_same _ _ _ _ _ _ _ (ap (λ (z : Worker). z.actor) w.worker-is ∙ w.in-Err.ensures.unchanged) (w.seats-is ∙ w.in-Err.ensures.no_call) was.comes
    ] in
    came_of _ _ c.loop.made _ c.match-next.seats e.producers e.consumers c.row_law.ensures now
