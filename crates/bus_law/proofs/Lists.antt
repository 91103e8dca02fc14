use Rattle.std.proofs.Common.{◌≡◌, ◌≤◌, ◌++◌, ℕ, zero, suc, Some, List, [], ◌∷◌, All, length, length-append, slice_get, refl, sym, ap, ◌∙◌, subst, arith, append_assoc}
use Rattle.cargo_core.specs.Lists.{IsPrefix}
use Rattle.wire_core.specs.declared.names.QueueId.{QueueId}
use Rattle.buffer_kit.specs.Clients.{queue_at}

-- Lists, and what stands at their places.

pub prefix_then : {T : Type 0} (xs ys zs : List T) → IsPrefix xs ys → IsPrefix ys zs → IsPrefix xs zs
prefix_then xs ys zs a b = (a.0 ++ b.0, sym (append_assoc xs a.0 b.0) ∙ (ap (λ l. l ++ b.0) a.1 ∙ b.1))

-- a list is a beginning of what it is the first part of
pub prefix_part : {T : Type 0} (xs ys all : List T) → all ≡ xs ++ ys → IsPrefix xs all
prefix_part xs ys all is = (ys, sym is)

pub prefix_few : {T : Type 0} (xs ys : List T) → IsPrefix xs ys → length xs ≤ length ys
prefix_few xs ys pre = let e = length-append xs pre.0 in let f = ap length pre.1 in omega (arith, e, f)

-- what stands in a beginning stands in the whole
pub get_first : {T : Type 0} (xs ys : List T) (k : ℕ) (x : T) → slice_get xs k ≡ Some x → slice_get (xs ++ ys) k ≡ Some x
get_first [] ys k x at = cc
get_first (y ∷ xs) ys zero x at = at
get_first (y ∷ xs) ys (suc k) x at = get_first xs ys k x at

pub prefix_at : {T : Type 0} (xs ys : List T) → IsPrefix xs ys → (k : ℕ) (x : T) → slice_get xs k ≡ Some x → slice_get ys k ≡ Some x
prefix_at xs ys pre k x at = subst (λ l. slice_get l k ≡ Some x) pre.1 (get_first xs pre.0 k x at)

-- what stands behind some
pub get_behind : {T : Type 0} (xs : List T) (x : T) (more : List T) → slice_get (xs ++ x ∷ more) (length xs) ≡ Some x
get_behind [] x more = refl
get_behind (y ∷ xs) x more = get_behind xs x more

some_same : {T : Type 0} {x y : T} → Some x ≡ Some y → x ≡ y
some_same e = cc

front_same : {T : Type 0} {x y : T} {xs ys : List T} → x ≡ y → xs ≡ ys → x ∷ xs ≡ y ∷ ys
front_same e f = cc

pub all_at : {T : Type 0} (P : T → Type 0) (xs : List T) → All P xs → (k : ℕ) (x : T) → slice_get xs k ≡ Some x → P x
all_at P [] h k x at = cc
all_at P (y ∷ xs) h zero x at = subst P (some_same at) (h 0 y (omega arith))
all_at P (y ∷ xs) h (suc k) x at = all_at P xs (λ i d lt. h (suc i) d (omega (arith, lt))) k x at

pub all_tail : {T : Type 0} (P : T → Type 0) (x : T) (xs : List T) → All P (x ∷ xs) → All P xs
all_tail P x xs all = λ k d lt. all (suc k) d (omega (arith, lt))

pub all_head : {T : Type 0} (P : T → Type 0) (x : T) (xs : List T) → All P (x ∷ xs) → P x
all_head P x xs all = all 0 x (omega arith)

-- two lists with the same at each place
pub same_lists : {T : Type 0} (xs ys : List T) → length xs ≡ length ys → ((k : ℕ) (x : T) → slice_get xs k ≡ Some x → slice_get ys k ≡ Some x) → xs ≡ ys
same_lists [] [] n same = refl
same_lists [] (y ∷ ys) n same = absurd (omega (arith, n))
same_lists (x ∷ xs) [] n same = absurd (omega (arith, n))
same_lists (x ∷ xs) (y ∷ ys) n same =
    let head : Some y ≡ Some x = same 0 x refl in
    front_same (sym (some_same head)) (same_lists xs ys (omega (arith, n)) (λ k z at. same (suc k) z at))

-- the queue at a place
pub queue_is : (qs : List QueueId) (k : ℕ) (q : QueueId) → slice_get qs k ≡ Some q → queue_at qs k ≡ q.0
queue_is [] k q at = cc
queue_is (p ∷ qs) zero q at = ap (λ (x : QueueId). x.0) (some_same at)
queue_is (p ∷ qs) (suc k) q at = queue_is qs k q at
