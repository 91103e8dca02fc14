use Rattle.std.proofs.Common.{◌≡◌, ◌+◌, ◌≤◌, take, flat_map}
use Rattle.std.specs.List.{sum_by}
use Rattle.std.specs.Option.{option_to_list}
use Rattle.net_virt_tx.specs.declared.client.Client.{Client}
use Rattle.net_virt_tx.specs.Clients.{carried, client_cargo}
use Rattle.net_virt_tx.proofs.traffic.Traffic.held.Given as goal

abbrev pub invariant-loop-client : goal.invariant-loop-client
invariant-loop-client l = (l.count ≡ carried l.pool (option_to_list l.self.stray) + carried l.pool (flat_map client_cargo (take l.client-index l.self.clients.items)))
    × (l.count + l.client-index ≤ 1 + sum_by (λ (c : Client). c.sender.buffers + 2) (take l.client-index l.self.clients.items))
