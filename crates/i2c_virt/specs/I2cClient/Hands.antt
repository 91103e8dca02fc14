-- The buffers that a client has in hand.
use Rattle.std.specs.Prelude.{◌≡◌, ◌+◌, ◌%◌, ℕ, List, [], ◌∷◌, length}
use Rattle.cargo_core.specs.declared.item.PoolId.{PoolId}
use Rattle.cargo_core.specs.Pages.{Paged}
use Rattle.i2c_virt.specs.declared.i2c_kit.page.TheConstants.{BUFFERS, BUFFER_BYTES}

-- the buffers, the one that is used next first, and for how many there is memory
pub record Held : Type 0 where
  pub shown : List Paged
  pub room : ℕ

-- the number of the buffer of request k: a client uses its buffers in turn
abbrev pub buffer_of : (k : ℕ) → ℕ
buffer_of k = k % BUFFERS

-- a page is the buffer of request k
pub record IsBuffer (pool : PoolId) (k : ℕ) (p : Paged) : Type 0 where
  pub own : p.pool ≡ pool
  pub number : p.no ≡ buffer_of k
  pub size : length p.bytes ≡ BUFFER_BYTES

-- these are the buffers of the requests from k on, in their order
abbrev pub AreBuffers : PoolId → (k : ℕ) → List Paged → Type 0
AreBuffers pool k [] = Unit {0}
AreBuffers pool k (p ∷ ps) = IsBuffer pool k p × AreBuffers pool (k + 1) ps
