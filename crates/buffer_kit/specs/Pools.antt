-- The buffers of a pool, and the entries by which their owner first gives them.
use Rattle.std.specs.Prelude.{◌≡◌, ◌+◌, ◌*◌, ◌<◌, ◌≤◌, ◌^◌, ℕ, Some, List, length, map, slice_get}
use Rattle.cargo_core.specs.declared.item.PoolId.{PoolId}
use Rattle.cargo_core.specs.declared.item.Item.TheVariants as ItemOf
use Rattle.cargo_core.specs.declared.item.Body.{Body}
use Rattle.cargo_core.specs.declared.item.Body.TheVariants as Carried
use Rattle.cargo_core.specs.Pages.{Paged}
use Rattle.wire_core.specs.Deeds.{Cargo}

-- these are the buffers of a pool, each of one size, in rising number from 0 on, and they end at
-- most at 2^62
pub record ArePool (base : ℕ) (pool : PoolId) (size : ℕ) (pages : List Paged) : Type 0 where
  pub same_pool : (k : ℕ) (p : Paged) → slice_get pages k ≡ Some p → p.pool ≡ pool
  pub numbered : (k : ℕ) (p : Paged) → slice_get pages k ≡ Some p → p.no ≡ k
  pub sized : (k : ℕ) (p : Paged) → slice_get pages k ≡ Some p → length p.bytes ≡ size
  pub some : 0 < size
  pub few : length pages < 2 ^ 32
  pub ends : base + length pages * size ≤ 2 ^ 62

-- the entry by which a buffer is given: the address at which it begins, no frame, and the buffer
-- itself
abbrev pub given_entry : (base size : ℕ) → Paged → Cargo
given_entry base size page = (
  ItemOf.Net
      (record { addr = base + page.no * size; len = 0 }),
  Carried.Page page,
)

-- buffers as bodies
abbrev pub page_bodies : List Paged → List Body
page_bodies pages = map (λ (p : Paged). Carried.Page p) pages
