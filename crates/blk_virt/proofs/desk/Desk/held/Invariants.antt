use Rattle.std.proofs.Common.{◌≡◌, ◌*◌, ◌≤◌, take, flat_map}
use Rattle.blk_virt.specs.Clients.{carried, client_cargo}
use Rattle.blk_virt.proofs.desk.Desk.held.Given as goal

abbrev pub invariant-loop-client : goal.invariant-loop-client
invariant-loop-client l = (l.count ≡ carried l.pool (flat_map client_cargo (take l.client-index l.self.clients.items))) × (l.count ≤ 2 * l.client-index)
