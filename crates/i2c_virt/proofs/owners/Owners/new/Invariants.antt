use Rattle.std.proofs.Common.{◌≡◌, replicate, ℕ, Option, None}
use Rattle.i2c_virt.proofs.owners.Owners.new.Given as goal

abbrev pub invariant-loop-address : goal.invariant-loop-address
invariant-loop-address l = l.clients.items ≡ replicate {A = Option ℕ} l.address None
