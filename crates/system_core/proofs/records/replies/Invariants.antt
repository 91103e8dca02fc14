use Rattle.std.proofs.Common.{◌≡◌, map, take}
use Rattle.system_core.specs.States.{replies_from}
use Rattle.system_core.proofs.records.replies.Given as goal

abbrev pub invariant-loop-client : goal.invariant-loop-client
invariant-loop-client l = l.records ≡ map (replies_from l.actors) (take l.client-index l.clients)
