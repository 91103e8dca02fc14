use Rattle.cast_core.specs.Known.{IsNoSerialClient}
use Rattle.cast_core.proofs.jobs.serial_client_job.Given as goal

abbrev pub invariant-loop-c : goal.invariant-loop-c
invariant-loop-c l = IsNoSerialClient l.rows l.first l.c l.actor
