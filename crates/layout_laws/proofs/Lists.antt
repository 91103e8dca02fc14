use Rattle.std.proofs.Common.{◌≡◌, ℕ, zero, suc, ◌+◌, ◌<◌, ◌⊎◌, inl, inr, List, [], ◌∷◌, ◌++◌, length, flat_map, Option, Some, None, slice_get, refl, sym, ap, ◌∙◌, subst, arith, add-zero}
use Rattle.std.specs.List.{All}
use Rattle.std.specs.Option.{option_map_or}
use Rattle.std.proofs.lemmas.List.Elements.{All-nil, All-append, All-head, All-tail}
use Rattle.sdf_check.proofs.ListLemmas.{get-left, get-right}
use Rattle.region_layout.specs.Rows.{each_client}

pub option_cases : {T : Type 0} (o : Option T) → (o ≡ None) ⊎ ((x : T) × (o ≡ Some x))
option_cases None = inl refl
option_cases (Some x) = inr (x, refl)

pub there_is : {T : Type 0} (xs : List T) (k : ℕ) → k < length xs → (x : T) × (slice_get xs k ≡ Some x)
there_is [] k less = absurd (omega arith)
there_is (x ∷ xs) zero less = (x, refl)
there_is (x ∷ xs) (suc k) less = there_is xs k (omega arith)

pub get-below : {T : Type 0} (xs : List T) (k : ℕ) (x : T) → slice_get xs k ≡ Some x → k < length xs
get-below [] k x at = cc
get-below (y ∷ xs) zero x at = omega arith
get-below (y ∷ xs) (suc k) x at = let r = get-below xs k x at in omega (arith, r)

-- what holds of all holds of each
pub all-at : {T : Type 0} (P : T → Type 0) (xs : List T) → All P xs → (k : ℕ) (x : T) → slice_get xs k ≡ Some x → P x
all-at P [] all k x at = cc
all-at P (y ∷ xs) all zero x at = let same : y ≡ x = cc in subst P same (All-head P y xs all)
all-at P (y ∷ xs) all (suc k) x at = all-at P xs (All-tail P y xs all) k x at

-- what stands among the rows of a client stands among those of all
pub each-at : {C T : Type 0} (rows : ℕ → C → List T) (many : ℕ) (times : ℕ → ℕ) (from : ℕ) (clients : List C) (c i : ℕ) (client : C) (row : T) → ((k : ℕ) (x : C) → length (rows k x) ≡ many)
    → times 0 ≡ 0 → ((k : ℕ) → times (suc k) ≡ many + times k) → slice_get clients c ≡ Some client → slice_get (rows (from + c) client) i ≡ Some row
    → slice_get (each_client rows from clients) (times c + i) ≡ Some row
each-at rows many times from [] c i client row counts none steps there at = cc
each-at {C} {T} rows many times from (x ∷ rest) zero i client row counts none steps there at =
    let same : client ≡ x = cc in
    let first : from + 0 ≡ from = add-zero from in
    let here : slice_get (rows from x) i ≡ Some row = ap (λ (y : C). slice_get (rows from y) i) (sym same) ∙ (ap (λ n. slice_get (rows n client) i) (sym first) ∙ at) in
    let index : i ≡ times 0 + i = omega (arith, none) in
    subst (λ n. slice_get (rows from x ++ each_client rows (from + 1) rest) n ≡ Some row) index (get-left (rows from x) (each_client rows (from + 1) rest) i row here)
each-at {C} {T} rows many times from (x ∷ rest) (suc c) i client row counts none steps there at =
    let moved : from + suc c ≡ from + 1 + c = omega arith in
    let later = each-at rows many times (from + 1) rest c i client row counts none steps there (ap (λ n. slice_get (rows n client) i) (sym moved) ∙ at) in
    let size = counts from x in
    let step = steps c in
    let index : length (rows from x) + (times c + i) ≡ times (suc c) + i = omega (arith, size, step) in
    subst (λ n. slice_get (rows from x ++ each_client rows (from + 1) rest) n ≡ Some row) index (get-right (rows from x) (each_client rows (from + 1) rest) (times c + i) row later)

-- what holds of the rows of each client holds of those of all
pub all-clients : {C T : Type 0} (P : T → Type 0) (rows : ℕ → C → List T) (c : ℕ) (clients : List C)
    → ((k : ℕ) (client : C) → slice_get clients k ≡ Some client → All P (rows (c + k) client)) → All P (each_client rows c clients)
all-clients P rows c [] h = All-nil P
all-clients {C} P rows c (client ∷ rest) h =
    All-append P (rows c client) (each_client rows (c + 1) rest) (subst (λ n. All P (rows n client)) (add-zero c) (h 0 client refl))
    (all-clients P rows (c + 1) rest (λ k (other : C) there. let same : c + suc k ≡ c + 1 + k = omega arith in subst (λ n. All P (rows n other)) same (h (suc k) other there)))

pub all-names : {C T : Type 0} (P : T → Type 0) (names : C → List T) (clients : List C)
    → ((k : ℕ) (client : C) → slice_get clients k ≡ Some client → All P (names client)) → All P (flat_map names clients)
all-names P names [] h = All-nil P
all-names P names (client ∷ rest) h =
    All-append P (names client) (flat_map names rest) (h 0 client refl) (all-names P names rest (λ k. h (suc k)))

-- what holds of the rows of a class, where it is there
pub all-class : {C T : Type 0} (P : T → Type 0) (rows : C → List T) (class : Option C) → ((x : C) → class ≡ Some x → All P (rows x)) → All P (option_map_or rows class [])
all-class P rows None h = All-nil P
all-class P rows (Some x) h = h x refl
