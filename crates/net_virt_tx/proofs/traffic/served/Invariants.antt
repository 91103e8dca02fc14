use Rattle.std.proofs.Common.{◌≡◌, ℕ, Some, map, take, slice_get}
use Rattle.net_virt_tx.specs.declared.client.Client.{Client}
use Rattle.net_virt_tx.specs.Clients.{IsFresh}
use Rattle.net_virt_tx.specs.Sending.{sender_of}
use Rattle.net_virt_tx.proofs.traffic.served.Given as goal

abbrev pub invariant-loop-client : goal.invariant-loop-client
invariant-loop-client l = (map (λ (c : Client). c.sender) l.served.items ≡ map (sender_of l.fn.most) (take l.client-index l.clients))
    × ((k : ℕ) (c : Client) → slice_get l.served.items k ≡ Some c → IsFresh c)
