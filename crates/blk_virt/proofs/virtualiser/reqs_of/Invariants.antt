use Rattle.std.proofs.Common.{◌≡◌, map, take}
use Rattle.blk_virt.specs.declared.virtualiser.BlkEnds.{BlkEnds}
use Rattle.blk_virt.proofs.virtualiser.reqs_of.Given as goal

abbrev pub invariant-loop-client : goal.invariant-loop-client
invariant-loop-client l = l.queues.items ≡ map (λ (c : BlkEnds). c.req) (take l.client-index l.clients)
