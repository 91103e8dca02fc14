use Rattle.std.proofs.Common.{◌≡◌, map, take}
use Rattle.blk_virt.specs.Virtualising.{new_client}
use Rattle.blk_virt.proofs.virtualiser.clients_of.Given as goal

abbrev pub invariant-loop-client : goal.invariant-loop-client
invariant-loop-client l = l.kept.items ≡ map new_client (take l.client-index l.clients)
