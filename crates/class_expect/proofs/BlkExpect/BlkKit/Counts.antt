use Rattle.std.proofs.Common.{◌≡◌, ℕ, nat_le, Bool, true, false, if◌then◌else◌, List, length, refl}
use Rattle.cargo_core.specs.declared.item.PoolId.{PoolId}
use Rattle.cargo_core.specs.declared.item.Body.{Body}
use Rattle.cargo_core.specs.declared.item.Body.TheVariants as Carried
use Rattle.cargo_core.specs.Bodies.{buffers_in}
use Rattle.cargo_core.specs.Lists.{replaced}
use Rattle.class_expect.specs.BlkExpect.BlkKit.Pages.{filled_body}

-- a body that is filled is of the pool of which it was
pub filled_in : (pool : PoolId) (bytes : List ℕ) (b : Body) → buffers_in pool (filled_body bytes b) ≡ buffers_in pool b
filled_in pool bytes Carried.Empty = refl
filled_in pool bytes (Carried.Lease lease) = refl
filled_in pool bytes (Carried.Page page) = either (nat_le (length bytes) (length page.bytes))
  where
    either : (t : Bool) → buffers_in pool (if t then Carried.Page (record { pool = page.pool; no = page.no; bytes = replaced page.bytes 0 bytes }) else Carried.Page page) ≡ buffers_in pool (Carried.Page page)
    either true = refl
    either false = refl
