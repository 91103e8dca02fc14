use Rattle.std.proofs.Common.{◌≡◌, map, take}
use Rattle.system_core.specs.States.{frames_from}
use Rattle.system_core.proofs.records.frame_records.Given as goal

abbrev pub invariant-loop-client : goal.invariant-loop-client
invariant-loop-client l = l.records ≡ map (frames_from l.actors) (take l.client-index l.clients)
