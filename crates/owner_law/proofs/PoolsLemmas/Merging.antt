use Rattle.std.proofs.Common.{◌≡◌, ℕ, zero, suc, Bool, true, false, cond, Some, List, [], ◌∷◌, slice_get, slice_set, refl, sym, ap, ◌∙◌, subst, arith}
use Rattle.std.specs.List.{filter}
use Rattle.cargo_core.specs.Lists.{IsPrefix, Merge, merge_none, merge_next, PrefixMerge}
use Rattle.play_core.proofs.Lists.{some_is, there_is, there_below}
use Rattle.owner_law.proofs.Carrying.{get_first}

-- what is so of each element
abbrev pub Each : {X : Type 0} → (X → Type 0) → List X → Type 0
Each {X} P xs = (k : ℕ) (x : X) → slice_get xs k ≡ Some x → P x

-- and of those of a beginning
pub each_first : {X : Type 0} (P : X → Type 0) (xs ys : List X) → IsPrefix xs ys → Each P ys → Each P xs
each_first P xs ys begins all k x at = all k x (ap (λ zs. slice_get zs k) (sym begins.1) ∙ get_first xs begins.0 k x at)

-- of lists one of which loses its first element
each_less : {X : Type 0} (P : X → Type 0) (lists : List (List X)) (j : ℕ) (x : X) (l : List X) → slice_get lists j ≡ Some (x ∷ l) → Each (Each P) lists → Each (Each P) (slice_set lists j l)
each_less P [] j x l first all i ys at = cc
each_less P (y ∷ lists) zero x l first all zero ys at = subst (Each P) (some_is at) (λ h d d_at. all 0 y refl (suc h) d (ap (λ zs. slice_get zs (suc h)) (some_is first) ∙ d_at))
each_less P (y ∷ lists) zero x l first all (suc i) ys at = all (suc i) ys at
each_less P (y ∷ lists) (suc j) x l first all zero ys at = all 0 ys at
each_less P (y ∷ lists) (suc j) x l first all (suc i) ys at = each_less P lists j x l first (λ h zs zs_at. all (suc h) zs zs_at) i ys at

-- of those of a merge
pub each_merged : {X : Type 0} (P : X → Type 0) (lists : List (List X)) (all : List X) → Merge lists all → Each (Each P) lists → Each P all
each_merged P lists _ (merge_none lists_ none) each k c at = cc
each_merged P lists _ (merge_next lists_ j x l all first rest) each zero c at = subst P (some_is at) (each j (x ∷ l) first 0 x refl)
each_merged P lists _ (merge_next lists_ j x l all first rest) each (suc k) c at = each_merged P (slice_set lists_ j l) all rest (each_less P lists_ j x l first each) k c at

pub each_begun : {X : Type 0} (P : X → Type 0) (lists : List (List X)) (all : List X) → PrefixMerge lists all → Each (Each P) lists → Each P all
each_begun P lists all m each = each_merged P m.parts all m.merged (λ k part at. by k part at)
  where
    by : (k : ℕ) (part : List _) → slice_get m.parts k ≡ Some part → Each P part
    by k part at =
        let below = there_below m.parts k part at in
        let whole = there_is lists k (omega (arith, below, m.as_many)) in
        each_first P part whole.0 (m.begins k part whole.0 at whole.1) (each k whole.0 whole.1)

-- what passes a test
pub kept_at : {X : Type 0} (test : X → Bool) (xs : List X) (k : ℕ) (x : X) → slice_get xs k ≡ Some x → test x ≡ true → (j : ℕ) × (slice_get (filter test xs) j ≡ Some x)
kept_at test [] k x at is = cc
kept_at test (y ∷ xs) zero x at is =
    let here : test y ≡ true = ap test (some_is at) ∙ is in
    (0, ap (λ t. slice_get (cond t (y ∷ filter test xs) (filter test xs)) 0) here ∙ at)
kept_at test (y ∷ xs) (suc k) x at is = by (test y) (kept_at test xs k x at is)
  where
    by : (t : Bool) → (j : ℕ) × (slice_get (filter test xs) j ≡ Some x) → (j : ℕ) × (slice_get (cond t (y ∷ filter test xs) (filter test xs)) j ≡ Some x)
    by true rest = (suc rest.0, rest.1)
    by false rest = rest

pub kept_is : {X : Type 0} (test : X → Bool) (xs : List X) (k : ℕ) (x : X) → slice_get (filter test xs) k ≡ Some x → (test x ≡ true) × ((j : ℕ) × (slice_get xs j ≡ Some x))
kept_is test [] k x at = cc
kept_is test (y ∷ xs) k x at = by (test y) refl k at (λ i i_at. kept_is test xs i x i_at)
  where
    later : (test x ≡ true) × ((j : ℕ) × (slice_get xs j ≡ Some x)) → (test x ≡ true) × ((j : ℕ) × (slice_get (y ∷ xs) j ≡ Some x))
    later h = (h.0, (suc h.1.0, h.1.1))

    by : (t : Bool) → test y ≡ t → (i : ℕ) → slice_get (cond t (y ∷ filter test xs) (filter test xs)) i ≡ Some x → ((h : ℕ) → slice_get (filter test xs) h ≡ Some x → (test x ≡ true) × ((j : ℕ) × (slice_get xs j ≡ Some x))) → (test x ≡ true) × ((j : ℕ) × (slice_get (y ∷ xs) j ≡ Some x))
    by true is zero i_at rest = (ap test (sym (some_is i_at)) ∙ is, (0, i_at))
    by true is (suc i) i_at rest = later (rest i i_at)
    by false is i i_at rest = later (rest i i_at)
