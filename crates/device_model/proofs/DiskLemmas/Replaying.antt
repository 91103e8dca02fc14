use Rattle.std.proofs.Common.{◌≡◌, ◌+◌, ◌*◌, ◌||◌, not, nat_le, ℕ, List, [], ◌∷◌, ◌++◌, length, refl, ap, arith}
use Rattle.cargo_core.specs.declared.item.PoolId.{PoolId}
use Rattle.cargo_core.specs.declared.item.Body.{Body}
use Rattle.cargo_core.specs.declared.item.BlkReq.{BlkReq}
use Rattle.cargo_core.specs.declared.item.Code.{Code}
use Rattle.cargo_core.specs.declared.item.Code.TheVariants as Asked
use Rattle.cargo_core.specs.declared.item.Item.TheVariants as ItemOf
use Rattle.cargo_core.specs.Bodies.{buffers_in, buffers_of}
use Rattle.wire_core.specs.Deeds.{Cargo}
use Rattle.turn_kit.specs.Hands.{bodies_of}
use Rattle.turn_kit.proofs.Holding.{cargo-cons}
use Rattle.class_expect.specs.BlkExpect.BlkKit.Blocks.{blocks_at}
use Rattle.class_expect.specs.BlkExpect.BlkKit.Pages.{has_room}
use Rattle.class_expect.proofs.BlkExpect.BlkKit.Counts.{filled_in}
use Rattle.device_model.specs.Disk.Serving.{answer_to, answers_to, body_back, done, image_after, is_stray, strays_by}

-- one entry more is answered on the image that those before it left
pub answers_more : (image : List ℕ) (xs : List Cargo) (x : Cargo) → answers_to image (xs ++ x ∷ []) ≡ answers_to image xs ++ answer_to (image_after image xs) x ∷ []
answers_more image [] x = refl
answers_more image (y ∷ xs) x = ap (λ cs. answer_to image y ∷ cs) (answers_more (done image y) xs x)

pub image_more : (image : List ℕ) (xs : List Cargo) (x : Cargo) → image_after image (xs ++ x ∷ []) ≡ done (image_after image xs) x
image_more image [] x = refl
image_more image (y ∷ xs) x = image_more (done image y) xs x

-- whether an entry is in turn depends on the length of the image alone
strays_alike : (c : Code) (a b : List ℕ) → length a ≡ length b → (r : BlkReq) (body : Body) → strays_by c a r body ≡ strays_by c b r body
strays_alike Asked.Read a b e r body = ap (λ n. not (nat_le ((r.block + r.count) * 4096) n)) e
strays_alike Asked.Write a b e r body = ap (λ n. not (nat_le ((r.block + r.count) * 4096) n) || not (has_room r.count body)) e
strays_alike Asked.Flush a b e r body = refl
strays_alike Asked.Barrier a b e r body = refl

pub stray_alike : (a b : List ℕ) → length a ≡ length b → (x : Cargo) → is_stray a x ≡ is_stray b x
stray_alike a b e (ItemOf.Req r, body) = strays_alike r.code a b e r body
stray_alike a b e (ItemOf.Net d, body) = refl
stray_alike a b e (ItemOf.Byte y, body) = refl
stray_alike a b e (ItemOf.Resp r, body) = refl

-- an answer has the buffer of its entry
back_in : (pool : PoolId) (c : Code) (image : List ℕ) (r : BlkReq) (body : Body) → buffers_in pool (body_back c image r body) ≡ buffers_in pool body
back_in pool Asked.Read image r body = filled_in pool (blocks_at image r.block r.count) body
back_in pool Asked.Write image r body = refl
back_in pool Asked.Flush image r body = refl
back_in pool Asked.Barrier image r body = refl

answer_in : (pool : PoolId) (image : List ℕ) (x : Cargo) → buffers_in pool (answer_to image x).1 ≡ buffers_in pool x.1
answer_in pool image (ItemOf.Req r, body) = back_in pool r.code image r body
answer_in pool image (ItemOf.Net d, body) = refl
answer_in pool image (ItemOf.Byte b, body) = refl
answer_in pool image (ItemOf.Resp r, body) = refl

pub answers_in : (pool : PoolId) (image : List ℕ) (xs : List Cargo) → buffers_of pool (bodies_of (answers_to image xs)) ≡ buffers_of pool (bodies_of xs)
answers_in pool image [] = refl
answers_in pool image (x ∷ xs) =
    let now = cargo-cons pool (answer_to image x) (answers_to (done image x) xs) in
    let was = cargo-cons pool x xs in
    let one = answer_in pool image x in
    let rest = answers_in pool (done image x) xs in
    omega (arith, now, was, one, rest)
