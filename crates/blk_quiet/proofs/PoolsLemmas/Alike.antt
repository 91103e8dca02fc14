-- Bodies that are the same buffer, or neither of them any.
use Rattle.std.proofs.Common.{◌≡◌, ◌∙◌, ℕ, zero, suc, Bool, true, false, nat_le, cond, Option, Some, List, [], ◌∷◌, length, slice_get, refl, sym, ap, subst}
use Rattle.std.specs.List.{filter}
use Rattle.cargo_core.specs.Lists.{replaced}
use Rattle.cargo_core.specs.declared.item.BlkReq.{BlkReq}
use Rattle.cargo_core.specs.declared.item.Body.{Body}
use Rattle.cargo_core.specs.declared.item.Body.TheVariants as Carried
use Rattle.cargo_core.specs.declared.item.Code.{Code}
use Rattle.cargo_core.specs.declared.item.Code.TheVariants as Asked
use Rattle.cargo_core.specs.declared.item.Item.TheVariants as ItemOf
use Rattle.wire_core.specs.Deeds.{Cargo}
use Rattle.play_core.proofs.Lists.{some_is}
use Rattle.owner_law.specs.Things.{Buffer}
use Rattle.owner_law.specs.Pages.{as_page}
use Rattle.class_expect.specs.BlkExpect.BlkKit.Blocks.{blocks_at}
use Rattle.class_expect.specs.BlkExpect.BlkKit.Pages.{filled_body}
use Rattle.blk_mbr.specs.declared.part.Part.{Part}
use Rattle.device_model.specs.Disk.Serving.{answer_to, answers_to as disk_answers, body_back, done}
use Rattle.blk_virt.specs.Requests.{goes_on, is_at, passed_on, refusal, request_of}
use Rattle.blk_virt.specs.Serving.{answers_to, own_of, own_back}
use Rattle.blk_virt.specs.declared.requests.Holder.{Holder}

-- a body is the same buffer as another, or neither is any
abbrev pub SamePage : Body → Body → Type 0
SamePage a c = (b : Buffer) → as_page b c ≡ as_page b a

filled_same : (bytes : List ℕ) (body : Body) → SamePage body (filled_body bytes body)
filled_same bytes (Carried.Page page) b = by (nat_le (length bytes) (length page.bytes))
  where
    by : (t : Bool) → as_page b (cond t (Carried.Page (record { pool = page.pool; no = page.no; bytes = replaced page.bytes 0 bytes })) (Carried.Page page)) ≡ as_page b (Carried.Page page)
    by true = refl
    by false = refl
filled_same bytes (Carried.Lease lease) b = refl
filled_same bytes Carried.Empty b = refl

back_same : (code : Code) (image : List ℕ) (r : BlkReq) (body : Body) → SamePage body (body_back code image r body)
back_same Asked.Read image r body b = filled_same (blocks_at image r.block r.count) body b
back_same Asked.Write image r body b = refl
back_same Asked.Flush image r body b = refl
back_same Asked.Barrier image r body b = refl

-- a disk's answer brings back the buffer of its request
pub answer_same : (image : List ℕ) (x : Cargo) → SamePage x.1 (answer_to image x).1
answer_same image (ItemOf.Req r, body) b = back_same r.code image r body b
answer_same image (ItemOf.Net d, body) b = refl
answer_same image (ItemOf.Byte c, body) b = refl
answer_same image (ItemOf.Resp r, body) b = refl

-- and is one to the request of its place
pub answer_at : (image : List ℕ) (xs : List Cargo) (k : ℕ) (y : Cargo) → slice_get (disk_answers image xs) k ≡ Some y → (x : Cargo) × (slice_get xs k ≡ Some x) × SamePage x.1 y.1
answer_at image [] k y at = cc
answer_at image (x ∷ xs) zero y at = (x, refl, λ b. ap (λ (z : Cargo). as_page b z.1) (sym (some_is at)) ∙ answer_same image x b)
answer_at image (x ∷ xs) (suc k) y at = let r = answer_at (done image x) xs k y at in (r.0, r.1, r.2)

-- each of these has the buffer of what stands at its place
abbrev pub ArePaired : List Cargo → List Cargo → Type 0
ArePaired xs ys = (k : ℕ) (x y : Cargo) → slice_get xs k ≡ Some x → slice_get ys k ≡ Some y → SamePage x.1 y.1

same_as : (x y z w : Cargo) → z ≡ x → w ≡ y → SamePage z.1 w.1 → SamePage x.1 y.1
same_as x y z w e f l = subst (λ (c : Cargo). SamePage x.1 c.1) f (subst (λ (c : Cargo). SamePage c.1 w.1) e l)

-- so have the responses to one client's requests
pub own_paired : (h : Holder) (sent back : List Cargo) → ArePaired sent back → ArePaired (own_of h sent) (own_back h sent back)
own_paired h [] back same k x y at bt = cc
own_paired h (z ∷ sent) [] same k x y at bt = cc
own_paired h (z ∷ sent) (w ∷ back) same k x y at bt = by (is_at h z) k at bt (λ n a b. own_paired h sent back (λ i c d c_at d_at. same (suc i) c d c_at d_at) n x y a b)
  where
    by : (t : Bool) (n : ℕ) → slice_get (cond t (z ∷ own_of h sent) (own_of h sent)) n ≡ Some x → slice_get (cond t (w ∷ own_back h sent back) (own_back h sent back)) n ≡ Some y → ((i : ℕ) → slice_get (own_of h sent) i ≡ Some x → slice_get (own_back h sent back) i ≡ Some y → SamePage x.1 y.1) → SamePage x.1 y.1
    by true zero a b rest = same_as x y z w (some_is a) (some_is b) (same 0 z w refl refl)
    by true (suc n) a b rest = rest n a b
    by false n a b rest = rest n a b

pub own_back_at : (h : Holder) (sent back : List Cargo) (k : ℕ) (y : Cargo) → slice_get (own_back h sent back) k ≡ Some y → (x : Cargo) × (slice_get (own_of h sent) k ≡ Some x)
own_back_at h [] back k y at = cc
own_back_at h (z ∷ sent) [] k y at = cc
own_back_at h (z ∷ sent) (w ∷ back) k y at = by (is_at h z) k at (λ n a. own_back_at h sent back n y a)
  where
    by : (t : Bool) (n : ℕ) → slice_get (cond t (w ∷ own_back h sent back) (own_back h sent back)) n ≡ Some y → ((i : ℕ) → slice_get (own_back h sent back) i ≡ Some y → (x : Cargo) × (slice_get (own_of h sent) i ≡ Some x)) → (x : Cargo) × (slice_get (cond t (z ∷ own_of h sent) (own_of h sent)) n ≡ Some x)
    by true zero a rest = (z, refl)
    by true (suc n) a rest = rest n a
    by false n a rest = rest n a

-- and each answer to a client
pub answers_paired : (h : Holder) (part : Option Part) (xs back : List Cargo) → ArePaired (filter (goes_on h part) xs) back → ArePaired xs (answers_to h part xs back)
answers_paired h part [] back same k x y at bt = cc
answers_paired h part (z ∷ xs) [] same k x y at bt = by (goes_on h part z) k at bt (λ n a b. answers_paired h part xs [] (λ i c d c_at d_at. cc) n x y a b)
  where
    by : (t : Bool) (n : ℕ) → slice_get (z ∷ xs) n ≡ Some x → slice_get (cond t [] (refusal h part z ∷ answers_to h part xs [])) n ≡ Some y → ((i : ℕ) → slice_get xs i ≡ Some x → slice_get (answers_to h part xs []) i ≡ Some y → SamePage x.1 y.1) → SamePage x.1 y.1
    by true n a b rest = absurd cc
    by false zero a b rest = same_as x y z (refusal h part z) (some_is a) (some_is b) (λ c. refl)
    by false (suc n) a b rest = rest n a b
answers_paired h part (z ∷ xs) (w ∷ back) same k x y at bt = by (goes_on h part z) refl k at bt (λ e n a b. answers_paired h part xs back (λ i c d c_at d_at. same (suc i) c d (ap (λ t. slice_get (cond t (z ∷ filter (goes_on h part) xs) (filter (goes_on h part) xs)) (suc i)) e ∙ c_at) d_at) n x y a b) (λ e n a b. answers_paired h part xs (w ∷ back) (λ i c d c_at d_at. same i c d (ap (λ t. slice_get (cond t (z ∷ filter (goes_on h part) xs) (filter (goes_on h part) xs)) i) e ∙ c_at) d_at) n x y a b)
  where
    by : (t : Bool) → goes_on h part z ≡ t → (n : ℕ) → slice_get (z ∷ xs) n ≡ Some x → slice_get (cond t (passed_on (request_of z.0).id w ∷ answers_to h part xs back) (refusal h part z ∷ answers_to h part xs (w ∷ back))) n ≡ Some y
        → (goes_on h part z ≡ true → (i : ℕ) → slice_get xs i ≡ Some x → slice_get (answers_to h part xs back) i ≡ Some y → SamePage x.1 y.1)
        → (goes_on h part z ≡ false → (i : ℕ) → slice_get xs i ≡ Some x → slice_get (answers_to h part xs (w ∷ back)) i ≡ Some y → SamePage x.1 y.1) → SamePage x.1 y.1
    by true e zero a b on off =
        let first : slice_get (filter (goes_on h part) (z ∷ xs)) 0 ≡ Some z = ap (λ t. slice_get (cond t (z ∷ filter (goes_on h part) xs) (filter (goes_on h part) xs)) 0) e in
        same_as x y z (passed_on (request_of z.0).id w) (some_is a) (some_is b) (same 0 z w first refl)
    by true e (suc n) a b on off = on e n a b
    by false e zero a b on off = same_as x y z (refusal h part z) (some_is a) (some_is b) (λ c. refl)
    by false e (suc n) a b on off = off e n a b
