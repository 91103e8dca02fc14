-- What goes on to the disk for a client stays in the client's partition, which is all on the disk.
use Rattle.std.proofs.Common.{◌≡◌, ◌+◌, ◌*◌, ◌/◌, ◌<◌, ◌≤◌, ◌==◌, ◌&&◌, ℕ, zero, suc, Bool, true, false, not, nat_le, if◌then◌else◌, Option, Some, None, List, [], ◌∷◌, length, take, slice_index, refl, ap, subst, arith, le-leb}
use Rattle.std.proofs.lemmas.Bool.{and_parts, leb-true}
use Rattle.std.proofs.lemmas.List.{get_or_past}
use Rattle.cargo_core.specs.declared.item.BlkReq.{BlkReq}
use Rattle.cargo_core.specs.declared.item.BlkStatus.TheVariants as Answered
use Rattle.cargo_core.specs.declared.item.Body.{Body}
use Rattle.cargo_core.specs.declared.item.Code.{Code}
use Rattle.cargo_core.specs.declared.item.Code.TheVariants as Asked
use Rattle.cargo_core.specs.declared.item.Item.TheVariants as ItemOf
use Rattle.wire_core.specs.Deeds.{Cargo}
use Rattle.blk_mbr.specs.declared.part.Part.{Part}
use Rattle.blk_mbr.specs.Sectors.{entry_of, is_used}
use Rattle.blk_mbr.proofs.Law.{law_to}
use Rattle.class_expect.specs.BlkExpect.Judging.{can_move, status_of}
use Rattle.class_expect.specs.BlkExpect.Replies.{has_partition, partition_in}
use Rattle.blk_virt.specs.Requests.{asked_of_disk, first_block, for_disk, goes_on, is_ok, is_own, numbered, request_of}
use Rattle.blk_virt.specs.declared.requests.Holder.{Holder}
use Rattle.blk_law.specs.Runs.{IsInside, StaysIn}
use Rattle.blk_quiet.proofs.CastLemmas.Judging.{part_fits}

take_few : (n : ℕ) (xs : List ℕ) → length (take n xs) ≤ n
take_few zero xs = omega arith
take_few (suc n) [] = omega arith
take_few (suc n) (x ∷ xs) = let rest = take_few n xs in omega (arith, rest)

-- only the four entries of a table have a partition
pub entry_few : (image : List ℕ) (entry : ℕ) (part : Part) → partition_in image entry ≡ Some part → entry < 4
entry_few image zero part e = omega arith
entry_few image (suc zero) part e = omega arith
entry_few image (suc (suc zero)) part e = omega arith
entry_few image (suc (suc (suc zero))) part e = omega arith
entry_few image (suc (suc (suc (suc n)))) part e =
    let used = (law_to (take 512 image) (length image / 512) (suc (suc (suc (suc n)))) part e).used in
    let few = take_few 512 image in
    let past : slice_index (take 512 image) (446 + 16 * suc (suc (suc (suc n))) + 4) ≡ 0 = get_or_past (take 512 image) (446 + 16 * suc (suc (suc (suc n))) + 4) 0 (omega (arith, few)) in
    let empty : is_used (entry_of (take 512 image) (suc (suc (suc (suc n))))) ≡ false = ap (λ (kind : ℕ). not (kind == 0)) past in
    absurd cc

-- a partition is all on the disk
pub partition_fits : (image : List ℕ) (entry : ℕ) → has_partition (partition_in image entry) image ≡ true
partition_fits image entry = by (partition_in image entry) refl
  where
    by : (o : Option Part) → partition_in image entry ≡ o → has_partition o image ≡ true
    by None e = refl
    by (Some part) e = le-leb ((part.first_block + part.blocks) * 4096) (length image) (part_fits image entry part e)

ok_if : (b : Bool) → is_ok (if b then Answered.Ok else Answered.Invalid) ≡ true → b ≡ true
ok_if true e = refl
ok_if false e = absurd cc

-- blocks that can be moved are in the partition
moved_within : (own : Bool) (blocks block count : ℕ) → is_ok (if can_move own blocks block count then Answered.Ok else Answered.Invalid) ≡ true → block + count ≤ blocks
moved_within own blocks block count ok =
    let move = ok_if (can_move own blocks block count) ok in
    let one = and_parts own (nat_le 1 count && (nat_le count 8 && nat_le (block + count) blocks)) move in
    let two = and_parts (nat_le 1 count) (nat_le count 8 && nat_le (block + count) blocks) one.1 in
    let three = and_parts (nat_le count 8) (nat_le (block + count) blocks) two.1 in
    leb-true (block + count) blocks three.1

asked_inside : (c : Code) (own : Bool) (p : Part) (r : BlkReq) (base : ℕ) (body : Body) → is_ok (status_of own (Some p) c r.block r.count) ≡ true → IsInside p.first_block p.blocks (ItemOf.Req (asked_of_disk c base (first_block (Some p)) r), body)
asked_inside Asked.Read own p r base body ok = let within = moved_within own p.blocks r.block r.count ok in (omega arith, omega (arith, within))
asked_inside Asked.Write own p r base body ok = let within = moved_within own p.blocks r.block r.count ok in (omega arith, omega (arith, within))
asked_inside Asked.Flush own p r base body ok = tt
asked_inside Asked.Barrier own p r base body ok = tt

-- whatever its number
stays_same : (c : Code) (first count n : ℕ) (r : BlkReq) → StaysIn c first count (record r { id = n }) → StaysIn c first count r
stays_same Asked.Read first count n r stays = stays
stays_same Asked.Write first count n r stays = stays
stays_same Asked.Flush first count n r stays = tt
stays_same Asked.Barrier first count n r stays = tt

inside_same : (first count n : ℕ) (x : Cargo) → IsInside first count (numbered n x) → IsInside first count x
inside_same first count n (ItemOf.Req r, body) is = stays_same r.code first count n r is
inside_same first count n (ItemOf.Net d, body) is = tt
inside_same first count n (ItemOf.Byte b, body) is = tt
inside_same first count n (ItemOf.Resp r, body) is = tt

-- where a request goes on its client has a partition
pub goes_has : (h : Holder) (part : Option Part) (z : Cargo) → goes_on h part z ≡ true → (p : Part) × (part ≡ Some p)
goes_has h None z ok = absurd cc
goes_has h (Some p) z ok = (p, refl)

-- and it asks for blocks of that alone
pub goes_inside : (h : Holder) (p : Part) (z x : Cargo) → goes_on h (Some p) z ≡ true → for_disk h (Some p) z ≡ numbered 0 x → IsInside p.first_block p.blocks x
goes_inside h p z x ok e = inside_same p.first_block p.blocks 0 x (subst (IsInside p.first_block p.blocks) e (asked_inside (request_of z.0).code (is_own h z) p (request_of z.0) h.base z.1 ok))
