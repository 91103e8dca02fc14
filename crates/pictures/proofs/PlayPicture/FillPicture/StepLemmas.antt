use Rattle.std.proofs.Common.{ℕ, ◌*◌, ◌≤◌}
use Rattle.std.proofs.Math.Nat.{mul-le-mul}

-- a step's width times a number of steps, both small
pub small_steps : (a b : ℕ) → a ≤ 1000 → b ≤ 4294967295 → a * b ≤ 4294967295000
small_steps a b h k = mul-le-mul h k
