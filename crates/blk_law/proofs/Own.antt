use Rattle.std.proofs.Common.{◌≡◌, ◌+◌, ℕ, Bool, true, false, cond, if◌then◌else◌, List, [], ◌∷◌, refl, ap, ◌∙◌, arith}
use Rattle.std.specs.List.{AllZip, filter}
use Rattle.std.proofs.lemmas.List.Elements.{All-head, All-tail}
use Rattle.cargo_core.specs.declared.item.BlkStatus.TheVariants as Answered
use Rattle.cargo_core.specs.declared.item.BlkReq.{BlkReq}
use Rattle.cargo_core.specs.declared.item.Body.{Body}
use Rattle.cargo_core.specs.declared.item.Code.{Code}
use Rattle.cargo_core.specs.declared.item.Code.TheVariants as Asked
use Rattle.cargo_core.specs.declared.item.Item.TheVariants as ItemOf
use Rattle.wire_core.specs.Deeds.{Cargo}
use Rattle.class_expect.specs.BlkExpect.BlkKit.Blocks.{has_blocks, blocks_at, with_blocks, moved_blocks}
use Rattle.class_expect.specs.BlkExpect.BlkKit.Pages.{carried_blocks, filled_body}
use Rattle.class_expect.proofs.BlkExpect.BlkKit.Runs.{read_inside, write_inside}
use Rattle.device_model.specs.Disk.Serving.{answer_to, answers_to, body_back, done, resp_to, stored}
use Rattle.blk_law.specs.Runs.{IsBeside, IsFor, IsMoved, OthersBeside, answers_for, id_of, item_with_id, with_ids}
use Rattle.blk_law.proofs.Beside.{beside, carried_most, keeps_blocks}

-- one request of a run: its response, the body that goes back, and what it leaves
told_alike : (c : Code) (first count : ℕ) (r q : BlkReq) → IsMoved c first count r q → moved_blocks c r.count ≡ moved_blocks c q.count
told_alike Asked.Read first count r q m = m.1
told_alike Asked.Write first count r q m = m.1
told_alike Asked.Flush first count r q m = refl
told_alike Asked.Barrier first count r q m = refl

back_alike : (c : Code) (image : List ℕ) (first count : ℕ) (r q : BlkReq) (body : Body) → IsMoved c first count r q → body_back c image r body ≡ body_back c (blocks_at image first count) q body
back_alike Asked.Read image first count r q body m = ap (λ bytes. filled_body bytes body) (ap (λ b. blocks_at image b r.count) m.0 ∙ (ap (λ n. blocks_at image (first + q.block) n) m.1 ∙ read_inside image first count q.block q.count m.2))
back_alike Asked.Write image first count r q body m = refl
back_alike Asked.Flush image first count r q body m = refl
back_alike Asked.Barrier image first count r q body m = refl

left_alike : (c : Code) (image : List ℕ) (first count : ℕ) (r q : BlkReq) (body : Body) → has_blocks image first count ≡ true → IsMoved c first count r q → blocks_at (stored c image r body) first count ≡ stored c (blocks_at image first count) q body
left_alike Asked.Read image first count r q body has m = refl
left_alike Asked.Write image first count r q body has m =
    let most = carried_most q.count body in
    let within = m.2 in
    ap (λ b. blocks_at (with_blocks image b (carried_blocks r.count body)) first count) m.0 ∙ (ap (λ n. blocks_at (with_blocks image (first + q.block) (carried_blocks n body)) first count) m.1 ∙ write_inside image (carried_blocks q.count body) first count q.block (omega (arith, most, within)) has)
left_alike Asked.Flush image first count r q body has m = refl
left_alike Asked.Barrier image first count r q body has m = refl

answer_by : (image : List ℕ) (first count : ℕ) (r q : BlkReq) (body : Body) → r.code ≡ q.code → IsMoved q.code first count r q → (item_with_id q.id (resp_to r), body_back r.code image r body) ≡ answer_to (blocks_at image first count) (ItemOf.Req q, body)
answer_by image first count r q body code m =
    let told : moved_blocks r.code r.count ≡ moved_blocks q.code q.count = ap (λ c. moved_blocks c r.count) code ∙ told_alike q.code first count r q m in
    let back : body_back r.code image r body ≡ body_back q.code (blocks_at image first count) q body = ap (λ c. body_back c image r body) code ∙ back_alike q.code image first count r q body m in
    λ i. (ItemOf.Resp (record { status = Answered.Ok; count = told i; id = q.id }), back i)

left_by : (image : List ℕ) (first count : ℕ) (r q : BlkReq) (body : Body) → r.code ≡ q.code → has_blocks image first count ≡ true → IsMoved q.code first count r q → blocks_at (stored r.code image r body) first count ≡ stored q.code (blocks_at image first count) q body
left_by image first count r q body code has m = ap (λ c. blocks_at (stored c image r body) first count) code ∙ left_alike q.code image first count r q body has m

-- of an entry that is for the run
answered : (image : List ℕ) (first count : ℕ) (x y : Cargo) → IsFor first count x y → (item_with_id (id_of y.0) (answer_to image x).0, (answer_to image x).1) ≡ answer_to (blocks_at image first count) y
answered image first count (ItemOf.Req r, body) (ItemOf.Req q, other) f =
    answer_by image first count r q body f.1 f.2 ∙ ap (λ (b : Body). answer_to (blocks_at image first count) (ItemOf.Req q, b)) f.0
answered image first count (ItemOf.Req r, body) (ItemOf.Net d, other) f = absurd f
answered image first count (ItemOf.Req r, body) (ItemOf.Byte b, other) f = absurd f
answered image first count (ItemOf.Req r, body) (ItemOf.Resp q, other) f = absurd f
answered image first count (ItemOf.Net d, body) y f = absurd f
answered image first count (ItemOf.Byte b, body) y f = absurd f
answered image first count (ItemOf.Resp r, body) y f = absurd f

leaves : (image : List ℕ) (first count : ℕ) (x y : Cargo) → has_blocks image first count ≡ true → IsFor first count x y → blocks_at (done image x) first count ≡ done (blocks_at image first count) y
leaves image first count (ItemOf.Req r, body) (ItemOf.Req q, other) has f =
    left_by image first count r q body f.1 has f.2 ∙ ap (λ (b : Body). done (blocks_at image first count) (ItemOf.Req q, b)) f.0
leaves image first count (ItemOf.Req r, body) (ItemOf.Net d, other) has f = absurd f
leaves image first count (ItemOf.Req r, body) (ItemOf.Byte b, other) has f = absurd f
leaves image first count (ItemOf.Req r, body) (ItemOf.Resp q, other) has f = absurd f
leaves image first count (ItemOf.Net d, body) y has f = absurd f
leaves image first count (ItemOf.Byte b, body) y has f = absurd f
leaves image first count (ItemOf.Resp r, body) y has f = absurd f

-- one entry more, which is asked of the run or leaves it
one_more : (own : Cargo → Bool) (first count : ℕ) (x : Cargo) (taken : List Cargo) (image : List ℕ) → has_blocks image first count ≡ true → (own x ≡ false → IsBeside first count x) → ((asked : List Cargo) → AllZip (IsFor first count) (filter own taken) asked → with_ids asked (answers_for own (done image x) taken) ≡ answers_to (blocks_at (done image x) first count) asked) → (b : Bool) → own x ≡ b → (asked : List Cargo) → AllZip (IsFor first count) (cond b (x ∷ filter own taken) (filter own taken)) asked → with_ids asked (if b then (answer_to image x ∷ answers_for own (done image x) taken) else answers_for own (done image x) taken) ≡ answers_to (blocks_at image first count) asked
one_more own first count x taken image has by rest true is [] f = absurd f
one_more own first count x taken image has by rest true is (y ∷ asked) f = λ i. answered image first count x y f.0 i ∷ (rest asked f.1 ∙ ap (λ bytes. answers_to bytes asked) (leaves image first count x y has f.0)) i
one_more own first count x taken image has by rest false is asked f = rest asked f ∙ ap (λ bytes. answers_to bytes asked) (beside image first count x has (by is))

-- a disk's answers to those whose requests alone touch a run
pub own_disk : (own : Cargo → Bool) (first count : ℕ) (taken : List Cargo) (image : List ℕ) → has_blocks image first count ≡ true → OthersBeside own first count taken → (asked : List Cargo) → AllZip (IsFor first count) (filter own taken) asked → with_ids asked (answers_for own image taken) ≡ answers_to (blocks_at image first count) asked
own_disk own first count [] image has others [] f = refl
own_disk own first count [] image has others (y ∷ asked) f = absurd f
own_disk own first count (x ∷ taken) image has others asked f =
    one_more own first count x taken image has (All-head (λ (z : Cargo). own z ≡ false → IsBeside first count z) x taken others)
    (own_disk own first count taken (done image x) (keeps_blocks image first count x has) (All-tail (λ (z : Cargo). own z ≡ false → IsBeside first count z) x taken others)) (own x) refl asked f
