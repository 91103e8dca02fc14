use Rattle.std.proofs.Common.{◌≡◌, map, take}
use Rattle.serial_virt.specs.Receiving.{new_outlet}
use Rattle.serial_virt.proofs.rx.outlets.Given as goal

abbrev pub invariant-loop-client : goal.invariant-loop-client
invariant-loop-client l = l.ends.items ≡ map (λ c. new_outlet c.0) (take l.client-index l.clients)
