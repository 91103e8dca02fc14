use Rattle.actor_rows.proofs.alone.settle.Given as goal

abbrev pub invariant-loop-call : goal.invariant-loop-call
invariant-loop-call g l = g.A.Alone.stands l.world l.actor
