use Rattle.std.proofs.Common.{ℕ, ◌*◌, ◌≤◌}
use Rattle.std.proofs.Math.Nat.{mul-le-mul}

-- a column's width times its number, both small
pub small_product : (a b : ℕ) → a ≤ 8032 → b ≤ 1099511627776 → a * b ≤ 8831277394296832
small_product a b h k = mul-le-mul h k

-- two numbers of 32 bits have a product of 64
pub wide_product : (a b : ℕ) → a ≤ 4294967295 → b ≤ 4294967295 → a * b ≤ 18446744065119617025
wide_product a b h k = mul-le-mul h k
