use Rattle.cast_core.specs.Known.{IsNoNetClient}
use Rattle.cast_core.proofs.jobs.net_client_job.Given as goal

abbrev pub invariant-loop-c : goal.invariant-loop-c
invariant-loop-c l = IsNoNetClient l.rows l.c l.actor
