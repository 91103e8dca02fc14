-- Lists that have a value for each number.
use Rattle.std.proofs.Common.{◌≡◌, ◌+◌, ◌<◌, ◌++◌, ℕ, zero, suc, Some, List, [], ◌∷◌, length, length-append, take, slice_get, refl, sym, ap, ◌∙◌, arith}
use Rattle.play_core.proofs.Lists.{some_is}
use Rattle.trace_text.specs.Traces.{per_client}
use Rattle.region_layout.specs.Rows.{each_client}

values_more : {T : Type 0} (n : ℕ) (value : ℕ → T) → per_client (suc n) value ≡ per_client n value ++ value n ∷ []
values_more zero value = refl
values_more (suc n) value = ap (λ l. value 0 ∷ l) (values_more n (λ c. value (suc c)))

-- one value more
pub one_more : {T : Type 0} (n : ℕ) (value : ℕ → T) (xs ys : List T) (x : T) → xs ≡ per_client n value → ys ≡ xs ++ x ∷ [] → x ≡ value n → ys ≡ per_client (n + 1) value
one_more n value xs ys x old is same = let e : suc n ≡ n + 1 = omega arith in is ∙ (ap (λ l. l ++ x ∷ []) old ∙ (ap (λ y. per_client n value ++ y ∷ []) same ∙ (sym (values_more n value) ∙ ap (λ m. per_client m value) e)))

pub value_count : {T : Type 0} (n : ℕ) (value : ℕ → T) → length (per_client n value) ≡ n
value_count zero value = refl
value_count (suc n) value = ap suc (value_count n (λ c. value (suc c)))

pub value_at : {T : Type 0} (n : ℕ) (value : ℕ → T) (k : ℕ) → k < n → slice_get (per_client n value) k ≡ Some (value k)
value_at zero value k lt = absurd (omega (arith, lt))
value_at (suc n) value zero lt = refl
value_at (suc n) value (suc k) lt = value_at n (λ c. value (suc c)) k (omega (arith, lt))

-- what stands in such a list is the value of its place
pub value_is : {T : Type 0} (n : ℕ) (value : ℕ → T) (k : ℕ) (x : T) → slice_get (per_client n value) k ≡ Some x → (k < n) × (x ≡ value k)
value_is zero value k x at = absurd cc
value_is (suc n) value zero x at = (omega arith, cc)
value_is (suc n) value (suc k) x at = let h = value_is n (λ c. value (suc c)) k x at in let lt = h.0 in (omega (arith, lt), h.1)

-- one element more of the first
take_suc : {T : Type 0} (xs : List T) (k : ℕ) (x : T) → slice_get xs k ≡ Some x → take (suc k) xs ≡ take k xs ++ x ∷ []
take_suc [] k x at = absurd cc
take_suc (y ∷ xs) zero x at = ap (λ z. z ∷ []) (some_is at)
take_suc (y ∷ xs) (suc k) x at = ap (λ l. y ∷ l) (take_suc xs k x at)

pub take_more : {T : Type 0} (xs : List T) (k : ℕ) (x : T) → slice_get xs k ≡ Some x → take (k + 1) xs ≡ take k xs ++ x ∷ []
take_more xs k x at = let e : k + 1 ≡ suc k = omega arith in ap (λ n. take n xs) e ∙ take_suc xs k x at

-- what stands among the first
pub take_from : {T : Type 0} (n : ℕ) (xs : List T) (k : ℕ) (x : T) → slice_get (take n xs) k ≡ Some x → (k < n) × (slice_get xs k ≡ Some x)
take_from zero xs k x at = absurd cc
take_from (suc n) [] k x at = absurd cc
take_from (suc n) (y ∷ xs) zero x at = (omega arith, at)
take_from (suc n) (y ∷ xs) (suc k) x at = let h = take_from n xs k x at in let lt = h.0 in (omega (arith, lt), h.1)

-- how many rows there are for all clients
pub each_count : {C T : Type 0} (rows : ℕ → C → List T) (many : ℕ) (times : ℕ → ℕ) → times 0 ≡ 0 → ((k : ℕ) → times (suc k) ≡ many + times k) → ((k : ℕ) (x : C) → length (rows k x) ≡ many)
    → (from : ℕ) (clients : List C) → length (each_client rows from clients) ≡ times (length clients)
each_count rows many times none steps counts from [] = sym none
each_count rows many times none steps counts from (x ∷ clients) =
    let whole = length-append (rows from x) (each_client rows (from + 1) clients) in
    let one = counts from x in
    let rest = each_count rows many times none steps counts (from + 1) clients in
    let step = steps (length clients) in
    omega (arith, whole, one, rest, step)
