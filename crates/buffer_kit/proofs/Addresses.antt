use Rattle.std.proofs.Common.{◌≡◌, ◌+◌, ◌*◌, ◌-◌, ◌<◌, ◌≤◌, ◌^◌, ℕ, Some, List, length, reverse, slice_get, slice_index_or, subst, sym, arith}
use Rattle.std.proofs.Math.Nat.{mul-le-mul_right}
use Rattle.std.proofs.lemmas.Option.{slice_get-get_or}
use Rattle.std.proofs.lemmas.List.{get_or-reverse, length-reverse}
use Rattle.cargo_core.specs.declared.item.PoolId.{PoolId}
use Rattle.cargo_core.specs.Pages.{Paged}
use Rattle.buffer_kit.specs.Pools.{ArePool}

-- each buffer of a pool has an address
module _ (base size : ℕ) (pool : PoolId) (pages : List Paged) (h : ArePool base pool size pages) where
  at_place : (k : ℕ) (d : Paged) → k < length pages → base + (slice_index_or pages k d).no * size < 2 ^ 64
  at_place k d within =
      let n = h.numbered k (slice_index_or pages k d) (slice_get-get_or pages k d within) in
      let below : k * size ≤ length pages * size = mul-le-mul_right size (omega (arith, within)) in
      rw n (omega (arith, below, h.ends))

  pub addressed : (k : ℕ) (d : Paged) → k < length (reverse pages) → base + (slice_index_or (reverse pages) k d).no * size < 2 ^ 64
  addressed k d within =
      let long = length-reverse pages in
      rw (get_or-reverse pages k d (omega (arith, long, within))) (at_place (length pages - 1 - k) d (omega (arith, long, within)))

-- buffers of one kind are of the kind of the first of them
pub first_kind : (base : ℕ) (pool : PoolId) (size : ℕ) (p : Paged) (pages : List Paged) → slice_get pages 0 ≡ Some p → ArePool base pool size pages → ArePool base p.pool (length p.bytes) pages
first_kind base pool size p pages at h = subst (λ s. ArePool base p.pool s pages) (sym (h.sized 0 p at)) (subst (λ (q : PoolId). ArePool base q size pages) (sym (h.same_pool 0 p at)) h)
