use Rattle.std.proofs.Common.{◌≡◌, ◌+◌, ◌-◌, ◌*◌, ◌≤◌, ◌<◌, ◌⊎◌, inl, inr, ℕ, min, true, List, [], ◌∷◌, ◌++◌, length, take, drop, refl, ap, ◌∙◌, arith}
use Rattle.std.proofs.lemmas.Bool.{leb-true, le-leb, cases_lt}
use Rattle.std.proofs.lemmas.List.{append-nil, length-append, length-drop, length-take, take-append-drop}
use Rattle.std.proofs.Math.Nat.{min-le_left, min-eq_left, min-eq_right}
use Rattle.cargo_core.specs.declared.item.BlkReq.{BlkReq}
use Rattle.cargo_core.specs.declared.item.Body.{Body}
use Rattle.cargo_core.specs.declared.item.Body.TheVariants as Carried
use Rattle.cargo_core.specs.declared.item.Code.{Code}
use Rattle.cargo_core.specs.declared.item.Code.TheVariants as Asked
use Rattle.cargo_core.specs.declared.item.Item.TheVariants as ItemOf
use Rattle.cargo_core.specs.Lists.{replaced}
use Rattle.wire_core.specs.Deeds.{Cargo}
use Rattle.class_expect.specs.BlkExpect.BlkKit.Blocks.{has_blocks, blocks_at, with_blocks}
use Rattle.class_expect.specs.BlkExpect.BlkKit.Pages.{carried_blocks}
use Rattle.class_expect.proofs.BlkExpect.BlkKit.Runs.{write_above, write_below}
use Rattle.device_model.specs.Disk.Serving.{done, stored}
use Rattle.blk_law.specs.Runs.{IsBeside, TouchesNone}

-- a body carries at most so many blocks
pub carried_most : (count : ℕ) (body : Body) → length (carried_blocks count body) ≤ count * 4096
carried_most count Carried.Empty = omega arith
carried_most count (Carried.Lease lease) = omega arith
carried_most count (Carried.Page page) = let long = length-take (count * 4096) page.bytes in let least = min-le_left (count * 4096) (length page.bytes) in omega (arith, long, least)

-- a list doesn't get shorter where bytes are replaced
longer : (xs from : List ℕ) (at : ℕ) → length xs ≤ length (replaced xs at from)
longer xs from at =
    let whole = length-append (take at xs ++ from) (drop (at + length from) xs) in
    let front = length-append (take at xs) from in
    let taken = length-take at xs in
    let rest = length-drop (at + length from) xs in
    least (length xs) at (length from) (length (replaced xs at from)) (omega (arith, whole, front, taken, rest))
  where
    least : (n at f l : ℕ) → l ≡ min at n + f + (n - (at + f)) → n ≤ l
    least n at f l e = by (cases_lt at n)
      where
        by : (at < n) ⊎ (n ≤ at) → n ≤ l
        by (inl h) = let m : min at n ≡ at = min-eq_left (omega (arith, h)) in omega (arith, e, m)
        by (inr h) = let m : min at n ≡ n = min-eq_right h in omega (arith, e, m)

still_has : (c : Code) (image : List ℕ) (first count : ℕ) (r : BlkReq) (body : Body) → has_blocks image first count ≡ true → has_blocks (stored c image r body) first count ≡ true
still_has Asked.Read image first count r body h = h
still_has Asked.Flush image first count r body h = h
still_has Asked.Barrier image first count r body h = h
still_has Asked.Write image first count r body h =
    let was = leb-true ((first + count) * 4096) (length image) h in
    let more = longer image (carried_blocks r.count body) (r.block * 4096) in
    le-leb ((first + count) * 4096) (length (with_blocks image r.block (carried_blocks r.count body))) (omega (arith, was, more))

-- a disk keeps its blocks
pub keeps_blocks : (image : List ℕ) (first count : ℕ) (x : Cargo) → has_blocks image first count ≡ true → has_blocks (done image x) first count ≡ true
keeps_blocks image first count (ItemOf.Req r, body) h = still_has r.code image first count r body h
keeps_blocks image first count (ItemOf.Net d, body) h = h
keeps_blocks image first count (ItemOf.Byte b, body) h = h
keeps_blocks image first count (ItemOf.Resp r, body) h = h

-- no bytes change nothing
none_replaced : (xs from : List ℕ) (at : ℕ) → from ≡ [] → replaced xs at from ≡ xs
none_replaced xs from at e = ap (replaced xs at) e ∙ (ap (λ (ys : List ℕ). ys ++ drop (at + 0) xs) (append-nil (take at xs)) ∙ (ap (λ n. take at xs ++ drop n xs) same ∙ take-append-drop at xs))
  where
    same : at + 0 ≡ at
    same = omega arith

no_bytes : (xs : List ℕ) → length xs ≤ 0 → xs ≡ []
no_bytes [] h = refl
no_bytes (x ∷ xs) h = absurd (omega (arith, h))

-- a write that touches none of a run's blocks leaves its bytes
written_beside : (image : List ℕ) (first count : ℕ) (r : BlkReq) (body : Body) → has_blocks image first count ≡ true → TouchesNone Asked.Write first count r → blocks_at (with_blocks image r.block (carried_blocks r.count body)) first count ≡ blocks_at image first count
written_beside image first count r body has none = by (cases_lt 0 r.count) (cases_lt 0 count) (cases_lt r.block first)
  where
    most : length (carried_blocks r.count body) ≤ r.count * 4096
    most = carried_most r.count body

    by : (0 < r.count) ⊎ (r.count ≤ 0) → (0 < count) ⊎ (count ≤ 0) → (r.block < first) ⊎ (first ≤ r.block) → blocks_at (with_blocks image r.block (carried_blocks r.count body)) first count ≡ blocks_at image first count
    by (inr nil) b c = ap (λ (xs : List ℕ). blocks_at xs first count) (none_replaced image (carried_blocks r.count body) (r.block * 4096) (no_bytes (carried_blocks r.count body) (omega (arith, most, nil))))
    by (inl some) (inr none_left) c = let nil : count * 4096 ≡ 0 = omega (arith, none_left) in rw nil refl
    by (inl some) (inl more) (inl before) = below (cases_lt first (r.block + r.count))
      where
        below : (first < r.block + r.count) ⊎ (r.block + r.count ≤ first) → blocks_at (with_blocks image r.block (carried_blocks r.count body)) first count ≡ blocks_at image first count
        below (inl lt) = absurd (none first (omega (arith, before)) lt (omega arith) (omega (arith, more)))
        below (inr le) = write_below image (carried_blocks r.count body) first count r.block (omega (arith, most, le)) has
    by (inl some) (inl more) (inr behind) = above (cases_lt r.block (first + count))
      where
        above : (r.block < first + count) ⊎ (first + count ≤ r.block) → blocks_at (with_blocks image r.block (carried_blocks r.count body)) first count ≡ blocks_at image first count
        above (inl lt) = absurd (none r.block (omega arith) (omega (arith, some)) behind lt)
        above (inr le) = write_above image (carried_blocks r.count body) first count r.block le has

beside_by : (c : Code) (image : List ℕ) (first count : ℕ) (r : BlkReq) (body : Body) → has_blocks image first count ≡ true → TouchesNone c first count r → blocks_at (stored c image r body) first count ≡ blocks_at image first count
beside_by Asked.Read image first count r body has none = refl
beside_by Asked.Flush image first count r body has none = refl
beside_by Asked.Barrier image first count r body has none = refl
beside_by Asked.Write image first count r body has none = written_beside image first count r body has none

pub beside : (image : List ℕ) (first count : ℕ) (x : Cargo) → has_blocks image first count ≡ true → IsBeside first count x → blocks_at (done image x) first count ≡ blocks_at image first count
beside image first count (ItemOf.Req r, body) has none = beside_by r.code image first count r body has none
beside image first count (ItemOf.Net d, body) has none = refl
beside image first count (ItemOf.Byte b, body) has none = refl
beside image first count (ItemOf.Resp r, body) has none = refl
