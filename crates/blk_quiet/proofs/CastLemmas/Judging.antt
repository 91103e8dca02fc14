-- What goes on to the disk is in turn there.
use Rattle.std.proofs.Common.{◌≡◌, ◌+◌, ◌*◌, ◌/◌, ◌&&◌, ◌||◌, ◌==◌, ◌<◌, ◌≤◌, ℕ, Bool, true, false, not, nat_le, nat_lt, if◌then◌else◌, Option, Some, None, List, length, take, refl, ap, ap₂, ◌∙◌, subst, arith, le-leb}
use Rattle.std.proofs.lemmas.Bool.{and_parts, eqb-true, leb-true, ltb-true}
use Rattle.cargo_core.specs.Blocks.{blk_buffer_bytes}
use Rattle.cargo_core.specs.Items.{kind_of}
use Rattle.cargo_core.specs.declared.item.BlkReq.{BlkReq}
use Rattle.cargo_core.specs.declared.item.BlkStatus.TheVariants as Answered
use Rattle.cargo_core.specs.declared.item.Body.{Body}
use Rattle.cargo_core.specs.declared.item.Body.TheVariants as Carried
use Rattle.cargo_core.specs.declared.item.Code.{Code}
use Rattle.cargo_core.specs.declared.item.Code.TheVariants as Asked
use Rattle.cargo_core.specs.declared.item.Item.TheVariants as ItemOf
use Rattle.cargo_core.specs.declared.item.QueueKind.TheVariants as Kind
use Rattle.wire_core.specs.Deeds.{Cargo}
use Rattle.class_expect.specs.BlkExpect.BlkKit.Pages.{has_room}
use Rattle.blk_mbr.specs.declared.part.Part.{Part}
use Rattle.blk_mbr.proofs.Law.{law_to}
use Rattle.class_expect.specs.BlkExpect.Judging.{can_move, status_of}
use Rattle.class_expect.specs.BlkExpect.Replies.{partition_in}
use Rattle.device_model.specs.Disk.Serving.{is_stray, strays_by}
use Rattle.blk_virt.specs.Requests.{asked_of_disk, first_block, for_disk, goes_on, is_bad, is_ok, is_own, moves_blocks, numbered, request_of}
use Rattle.blk_virt.specs.declared.requests.Holder.{Holder}
use Rattle.owner_law.specs.Pools.Places.{PoolAt}
use Rattle.blk_quiet.specs.Cast.Casting.{IsOfPool, IsWhole}

-- a partition is all on the disk
pub part_fits : (image : List ℕ) (entry : ℕ) (part : Part) → partition_in image entry ≡ Some part → (part.first_block + part.blocks) * 4096 ≤ length image
part_fits image entry part e =
    let is = law_to (take 512 image) (length image / 512) entry part e in
    let begins = is.begins in
    let whole = is.whole.2 in
    let on_disk = is.on_disk in
    omega (arith, begins, whole, on_disk)

abbrev pub Fits : List ℕ → Option Part → Type 0
Fits image part = (p : Part) → part ≡ Some p → (p.first_block + p.blocks) * 4096 ≤ length image

ok_if : (b : Bool) → is_ok (if b then Answered.Ok else Answered.Invalid) ≡ true → b ≡ true
ok_if true e = refl
ok_if false e = absurd cc

-- a request that goes on is in turn at the disk, where its page is whole
pub asked_fits : (image : List ℕ) (c : Code) (own : Bool) (part : Option Part) (r : BlkReq) (base : ℕ) (body : Body) → is_ok (status_of own part c r.block r.count) ≡ true → Fits image part → (own ≡ true → r.count ≤ 8 → has_room r.count body ≡ true) → is_stray image (ItemOf.Req (asked_of_disk c base (first_block part) r), body) ≡ false
asked_fits image c own None r base body ok fits room = absurd cc
asked_fits image Asked.Read own (Some p) r base body ok fits room =
    let move = ok_if (can_move own p.blocks r.block r.count) ok in
    let one = and_parts own (nat_le 1 r.count && (nat_le r.count 8 && nat_le (r.block + r.count) p.blocks)) move in
    let two = and_parts (nat_le 1 r.count) (nat_le r.count 8 && nat_le (r.block + r.count) p.blocks) one.1 in
    let three = and_parts (nat_le r.count 8) (nat_le (r.block + r.count) p.blocks) two.1 in
    let within = leb-true (r.block + r.count) p.blocks three.1 in
    let all = fits p refl in
    ap not (le-leb ((p.first_block + r.block + r.count) * 4096) (length image) (omega (arith, within, all)))
asked_fits image Asked.Write own (Some p) r base body ok fits room =
    let move = ok_if (can_move own p.blocks r.block r.count) ok in
    let one = and_parts own (nat_le 1 r.count && (nat_le r.count 8 && nat_le (r.block + r.count) p.blocks)) move in
    let two = and_parts (nat_le 1 r.count) (nat_le r.count 8 && nat_le (r.block + r.count) p.blocks) one.1 in
    let three = and_parts (nat_le r.count 8) (nat_le (r.block + r.count) p.blocks) two.1 in
    let few = leb-true r.count 8 three.0 in
    let within = leb-true (r.block + r.count) p.blocks three.1 in
    let all = fits p refl in
    ap₂ (λ a b. not a || not b) (le-leb ((p.first_block + r.block + r.count) * 4096) (length image) (omega (arith, within, all))) (room one.0 few)
asked_fits image Asked.Flush own (Some p) r base body ok fits room = refl
asked_fits image Asked.Barrier own (Some p) r base body ok fits room = refl

own_room : (h : Holder) (x : Cargo) (count : ℕ) → IsWhole x.1 → is_own h x ≡ true → count ≤ 8 → has_room count x.1 ≡ true
own_room h (item, Carried.Page page) count whole own few = le-leb (count * 4096) (length page.bytes) (omega (arith, whole, few))
own_room h (item, Carried.Lease lease) count whole own few = absurd cc
own_room h (item, Carried.Empty) count whole own few = absurd cc

pub goes_fits : (image : List ℕ) (h : Holder) (entry : ℕ) (x : Cargo) → goes_on h (partition_in image entry) x ≡ true → (is_own h x ≡ true → IsWhole x.1) → is_stray image (for_disk h (partition_in image entry) x) ≡ false
goes_fits image h entry x ok whole = asked_fits image (request_of x.0).code (is_own h x) (partition_in image entry) (request_of x.0) h.base x.1 ok (λ p e. part_fits image entry p e) (λ own few. own_room h x (request_of x.0).count (whole own) own few)

strays_same : (c : Code) (image : List ℕ) (r : BlkReq) (n : ℕ) (body : Body) → strays_by c image (record r { id = n }) body ≡ strays_by c image r body
strays_same Asked.Read image r n body = refl
strays_same Asked.Write image r n body = refl
strays_same Asked.Flush image r n body = refl
strays_same Asked.Barrier image r n body = refl

-- whatever its number
pub stray_same : (image : List ℕ) (n : ℕ) (x : Cargo) → kind_of x.0 ≡ Kind.Req → is_stray image (numbered n x) ≡ is_stray image x
stray_same image n (ItemOf.Req r, body) kind = strays_same r.code image r n body
stray_same image n (ItemOf.Net d, body) kind = absurd cc
stray_same image n (ItemOf.Byte b, body) kind = absurd cc
stray_same image n (ItemOf.Resp r, body) kind = absurd cc

-- a buffer that is its client's own is one of its pool
pub own_in_pool : (h : Holder) (pool : PoolAt) (x : Cargo) → h.pool.0 ≡ pool.number → h.buffers ≡ pool.buffers → is_own h x ≡ true → IsOfPool pool x.1
own_in_pool h pool (item, Carried.Page page) number buffers own =
    let one = and_parts _ _ own in
    let two = and_parts _ _ one.1 in
    (eqb-true page.pool.0 h.pool.0 one.0 ∙ number, subst (λ n. page.no < n) buffers (ltb-true page.no h.buffers two.0))
own_in_pool h pool (item, Carried.Lease lease) number buffers own = tt
own_in_pool h pool (item, Carried.Empty) number buffers own = tt

-- a buffer is its client's own by the pool and its size alone
own_same : (h g : Holder) (x : Cargo) → h.pool.0 ≡ g.pool.0 → h.buffers ≡ g.buffers → is_own h x ≡ is_own g x
own_same h g (item, Carried.Page page) pool buffers = ap₂ (λ (p n : ℕ). (page.pool.0 == p) && (nat_lt page.no n && ((request_of item).addr == page.no * blk_buffer_bytes))) pool buffers
own_same h g (item, Carried.Lease lease) pool buffers = refl
own_same h g (item, Carried.Empty) pool buffers = refl

pub bad_same : (h g : Holder) (x : Cargo) → h.pool.0 ≡ g.pool.0 → h.buffers ≡ g.buffers → is_bad h x ≡ is_bad g x
bad_same h g x pool buffers = ap (λ t. moves_blocks (request_of x.0).code && not t) (own_same h g x pool buffers)
