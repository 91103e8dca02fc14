-- A disk's answers: each brings the buffer of its request, as long as it was.
use Rattle.std.proofs.Common.{◌≡◌, ◌+◌, ◌≤◌, ℕ, zero, suc, Bool, true, false, nat_le, cond, Some, List, [], ◌∷◌, length, take, drop, slice_get, refl, ap, ◌∙◌, arith, le-leb, eq-eqb}
use Rattle.std.proofs.lemmas.Bool.{leb-true}
use Rattle.std.proofs.lemmas.List.{length-take-le, take-take, take-append-le}
use Rattle.cargo_core.specs.Lists.{replaced}
use Rattle.cargo_core.specs.Pages.{Paged}
use Rattle.cargo_core.specs.declared.item.BlkReq.{BlkReq}
use Rattle.cargo_core.specs.declared.item.Body.{Body}
use Rattle.cargo_core.specs.declared.item.Body.TheVariants as Carried
use Rattle.cargo_core.specs.declared.item.Code.{Code}
use Rattle.cargo_core.specs.declared.item.Code.TheVariants as Asked
use Rattle.cargo_core.specs.declared.item.Item.TheVariants as ItemOf
use Rattle.wire_core.specs.Deeds.{Cargo}
use Rattle.play_core.proofs.Lists.{some_is}
use Rattle.class_expect.specs.BlkExpect.BlkKit.Blocks.{blocks_at}
use Rattle.class_expect.specs.BlkExpect.BlkKit.Pages.{filled_body}
use Rattle.device_model.specs.Disk.Serving.{answer_to, answers_to, body_back, done}
use Rattle.blk_virt.specs.Openings.{first_read, has_sector, sector_of}
use Rattle.blk_virt.specs.Requests.{brings, page_named}
use Rattle.blk_virt.specs.declared.requests.PageName.{PageName}
use Rattle.net_law.proofs.PartsLemmas.Turning.{replaced_long}
use Rattle.blk_quiet.specs.Cast.Casting.{IsWhole}

-- an answer is one to the request of its place, on some image: the first on the disk's own
pub answers_at : (image : List ℕ) (xs : List Cargo) (k : ℕ) (y : Cargo) → slice_get (answers_to image xs) k ≡ Some y → (x : Cargo) × (now : List ℕ) × (slice_get xs k ≡ Some x) × (answer_to now x ≡ y) × (k ≡ 0 → now ≡ image)
answers_at image [] k y at = cc
answers_at image (x ∷ xs) zero y at = (x, image, refl, some_is at, λ e. refl)
answers_at image (x ∷ xs) (suc k) y at = let r = answers_at (done image x) xs k y at in (r.0, r.1, r.2, r.3, λ e. absurd (omega (arith, e)))

filled_named : (bytes : List ℕ) (b : Body) → page_named (filled_body bytes b) ≡ page_named b
filled_named bytes (Carried.Page page) = by (nat_le (length bytes) (length page.bytes))
  where
    by : (t : Bool) → page_named (cond t (Carried.Page (record { pool = page.pool; no = page.no; bytes = replaced page.bytes 0 bytes })) (Carried.Page page)) ≡ page_named (Carried.Page page)
    by true = refl
    by false = refl
filled_named bytes (Carried.Lease lease) = refl
filled_named bytes Carried.Empty = refl

filled_whole : (bytes : List ℕ) (b : Body) → IsWhole b → IsWhole (filled_body bytes b)
filled_whole bytes (Carried.Page page) whole = by (nat_le (length bytes) (length page.bytes)) refl
  where
    by : (t : Bool) → nat_le (length bytes) (length page.bytes) ≡ t → IsWhole (cond t (Carried.Page (record { pool = page.pool; no = page.no; bytes = replaced page.bytes 0 bytes })) (Carried.Page page))
    by true e = let long = replaced_long bytes page.bytes (leb-true (length bytes) (length page.bytes) e) in omega (arith, long, whole)
    by false e = whole
filled_whole bytes (Carried.Lease lease) whole = tt
filled_whole bytes Carried.Empty whole = tt

back_named : (code : Code) (image : List ℕ) (r : BlkReq) (b : Body) → page_named (body_back code image r b) ≡ page_named b
back_named Asked.Read image r b = filled_named (blocks_at image r.block r.count) b
back_named Asked.Write image r b = refl
back_named Asked.Flush image r b = refl
back_named Asked.Barrier image r b = refl

back_whole : (code : Code) (image : List ℕ) (r : BlkReq) (b : Body) → IsWhole b → IsWhole (body_back code image r b)
back_whole Asked.Read image r b whole = filled_whole (blocks_at image r.block r.count) b whole
back_whole Asked.Write image r b whole = whole
back_whole Asked.Flush image r b whole = whole
back_whole Asked.Barrier image r b whole = whole

pub answer_named : (image : List ℕ) (x : Cargo) → page_named (answer_to image x).1 ≡ page_named x.1
answer_named image (ItemOf.Req r, body) = back_named r.code image r body
answer_named image (ItemOf.Net d, body) = refl
answer_named image (ItemOf.Byte b, body) = refl
answer_named image (ItemOf.Resp r, body) = refl

pub answer_whole : (image : List ℕ) (x : Cargo) → IsWhole x.1 → IsWhole (answer_to image x).1
answer_whole image (ItemOf.Req r, body) whole = back_whole r.code image r body whole
answer_whole image (ItemOf.Net d, body) whole = whole
answer_whole image (ItemOf.Byte b, body) whole = whole
answer_whole image (ItemOf.Resp r, body) whole = whole

-- a body of a name brings the buffer of that name
pub brings_named : (a b : Body) → page_named b ≡ page_named a → brings (page_named a) b ≡ true
brings_named (Carried.Page p) (Carried.Page q) e =
    let same = some_is e in
    let pool : q.pool.0 ≡ p.pool.0 = ap (λ (n : PageName). n.pool.0) same in
    let no : q.no ≡ p.no = ap (λ (n : PageName). n.no) same in
    rw (eq-eqb q.pool.0 p.pool.0 pool, eq-eqb q.no p.no no) refl
brings_named (Carried.Page p) (Carried.Lease q) e = absurd cc
brings_named (Carried.Page p) Carried.Empty e = absurd cc
brings_named (Carried.Lease p) b e = refl
brings_named Carried.Empty b e = refl

-- the answer to the first read brings the first block of the image
block_read : (image : List ℕ) (base : ℕ) (page : Paged) → 4096 ≤ length image → 4096 ≤ length page.bytes → (answer_to image (first_read base page)).1 ≡ Carried.Page (record { pool = page.pool; no = page.no; bytes = replaced page.bytes 0 (take 4096 image) })
block_read image base page long room =
    let many = length-take-le 4096 image long in
    ap (λ t. cond t (Carried.Page (record { pool = page.pool; no = page.no; bytes = replaced page.bytes 0 (take 4096 image) })) (Carried.Page page)) (le-leb (length (take 4096 image)) (length page.bytes) (omega (arith, many, room)))

pub sector_read : (image : List ℕ) (base : ℕ) (page : Paged) → 4096 ≤ length image → 4096 ≤ length page.bytes → sector_of (answer_to image (first_read base page)).1 ≡ take 512 image
sector_read image base page long room =
    let many = length-take-le 4096 image long in
    ap sector_of (block_read image base page long room)
    ∙ (take-append-le 512 (take 4096 image) (drop (0 + length (take 4096 image)) page.bytes) (omega (arith, many)) ∙ take-take 512 4096 image (omega arith))

pub has_read : (image : List ℕ) (base : ℕ) (page : Paged) → 4096 ≤ length image → 4096 ≤ length page.bytes → has_sector (answer_to image (first_read base page)).1 ≡ true
has_read image base page long room =
    let many = length-take-le 4096 image long in
    let same = replaced_long (take 4096 image) page.bytes (omega (arith, many, room)) in
    ap has_sector (block_read image base page long room) ∙ le-leb 512 (length (replaced page.bytes 0 (take 4096 image))) (omega (arith, same, room))
