use Rattle.std.proofs.Common.{ℕ, ◌*◌, ◌≤◌}
use Rattle.std.proofs.Math.Nat.{mul-le-mul}

-- a lane's width times its number, both small
pub small_product : (a b : ℕ) → a ≤ 8016 → b ≤ 65536 → a * b ≤ 525336576
small_product a b h k = mul-le-mul h k
