use Rattle.std.proofs.Common.{◌≡◌, map, take}
use Rattle.serial_virt.proofs.rx.policies.Given as goal

abbrev pub invariant-loop-client : goal.invariant-loop-client
invariant-loop-client l = l.drops.items ≡ map (λ c. c.1) (take l.client-index l.clients)
