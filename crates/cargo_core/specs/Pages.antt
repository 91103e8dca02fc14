-- What pages and leases show.
use Rattle.std.specs.Prelude.{ℕ, List}
use Rattle.cargo_core.specs.declared.item.PoolId.{PoolId}

-- a buffer: its pool, its number there and its bytes
pub record Paged : Type 0 where
  pub pool : PoolId
  pub no : ℕ
  pub bytes : List ℕ

-- leave to read a buffer: its number and the bytes that may be read
pub record Leased : Type 0 where
  pub no : ℕ
  pub bytes : List ℕ
