-- Lists: what a merge keeps of one list, sums of lengths, and where the clients of a number stand.
use Rattle.std.proofs.Common.{◌≡◌, ◌≢◌, ◌⊎◌, ◌+◌, ◌≤◌, ℕ, zero, suc, Bool, true, false, cond, Some, List, [], ◌∷◌, length, slice_get, slice_set, refl, sym, ap, ap₂, ◌∙◌, subst, arith, inl, inr}
use Rattle.std.specs.List.{filter}
use Rattle.std.proofs.Math.Dec.{eqb}
use Rattle.std.proofs.lemmas.Bool.Decides.{eqb_tells}
use Rattle.cargo_core.specs.Lists.{IsPrefix, Merge, merge_none, merge_next}
use Rattle.cargo_core.specs.declared.item.Item.{Item}
use Rattle.frame_core.specs.declared.mac.Mac.{Mac}
use Rattle.wire_core.proofs.Places.{slice_get_written, slice_get_beside}
use Rattle.play_core.specs.Totals.{total}
use Rattle.play_core.proofs.Lists.{some_is}
use Rattle.play_core.proofs.Walks.{begins_few}
use Rattle.net_law.specs.Owners.Names.{ClientPools}
use Rattle.net_law.specs.Parts.Parts.{Lessee}
use Rattle.net_law.specs.Parts.Numbers.{client_first, lessees_from}
use Rattle.net_law.specs.Parts.Rows.{sized_items}
use Rattle.net_law.specs.TxParts.Parts.{Shipper}
use Rattle.net_law.specs.TxParts.Numbers.{shippers_from}

-- a merge, of which one list passes a test and the others don't, keeps that list
abbrev Passes : {T : Type 0} → (T → Bool) → Bool → List T → Type 0
Passes {T} test b l = (i : ℕ) (x : T) → slice_get l i ≡ Some x → test x ≡ b

abbrev OthersFail : {T : Type 0} → (T → Bool) → ℕ → List (List T) → Type 0
OthersFail {T} test k lists = (j : ℕ) (l : List T) → slice_get lists j ≡ Some l → (j ≡ k → ⊥) → Passes test false l

kept_one : {T : Type 0} (test : T → Bool) (x : T) (xs : List T) → test x ≡ true → filter test (x ∷ xs) ≡ x ∷ filter test xs
kept_one test x xs is = ap (λ b. cond b (x ∷ filter test xs) (filter test xs)) is

left_one : {T : Type 0} (test : T → Bool) (x : T) (xs : List T) → test x ≡ false → filter test (x ∷ xs) ≡ filter test xs
left_one test x xs is = ap (λ b. cond b (x ∷ filter test xs) (filter test xs)) is

still_fail : {T : Type 0} (test : T → Bool) (k : ℕ) (lists : List (List T)) (j : ℕ) (x : T) (l : List T) → slice_get lists j ≡ Some (x ∷ l) → OthersFail test k lists → OthersFail test k (slice_set lists j l)
still_fail {T} test k lists j x l at fail i o o_at away = by (eqb_tells i j)
  where
    by : ((eqb i j ≡ true) × (i ≡ j)) ⊎ ((eqb i j ≡ false) × (i ≢ j)) → Passes test false o
    by (inl e) = λ h y y_at.
        let o_is : l ≡ o = some_is (sym (slice_get_written lists j (x ∷ l) l at) ∙ (ap (slice_get (slice_set lists j l)) (sym e.1) ∙ o_at)) in
        let here : slice_get lists i ≡ Some (x ∷ l) = ap (slice_get lists) e.1 ∙ at in
        fail i (x ∷ l) here away (suc h) y (ap (λ z. slice_get z h) o_is ∙ y_at)
    by (inr e) = fail i o (sym (slice_get_beside lists j i l e.1) ∙ o_at) away

pub keeps : {T : Type 0} (test : T → Bool) (lists : List (List T)) (all : List T) → Merge lists all → (k : ℕ) (l : List T) → slice_get lists k ≡ Some l → Passes test true l → OthersFail test k lists → filter test all ≡ l
keeps test _ _ (merge_none lists empty) k l at is fail = sym (empty k l at)
keeps {T} test _ _ (merge_next lists j x m all first rest) k l at is fail = by (eqb_tells k j) (keeps test (slice_set lists j m) all rest)
  where
    by : ((eqb k j ≡ true) × (k ≡ j)) ⊎ ((eqb k j ≡ false) × (k ≢ j)) → ((i : ℕ) (o : List T) → slice_get (slice_set lists j m) i ≡ Some o → Passes test true o → OthersFail test i (slice_set lists j m) → filter test all ≡ o) → filter test (x ∷ all) ≡ l
    by (inl e) others =
        let l_is : l ≡ x ∷ m = some_is (sym at ∙ (ap (slice_get lists) e.1 ∙ first)) in
        let all_pass : Passes test true (x ∷ m) = subst (Passes test true) l_is is in
        let there : slice_get (slice_set lists j m) k ≡ Some m = ap (slice_get (slice_set lists j m)) e.1 ∙ slice_get_written lists j (x ∷ m) m first in
        let tail = others k m there (λ i y y_at. all_pass (suc i) y y_at) (still_fail test k lists j x m first fail) in
        kept_one test x all (all_pass 0 x refl) ∙ (ap (λ ys. x ∷ ys) tail ∙ sym l_is)
    by (inr e) others =
        let fails : test x ≡ false = fail j (x ∷ m) first (λ same. e.1 (sym same)) 0 x refl in
        let there : slice_get (slice_set lists j m) k ≡ Some l = slice_get_beside lists j k m e.1 ∙ at in
        left_one test x all fails ∙ others k l there is (still_fail test k lists j x m first fail)

-- lists of the same lengths have as many elements together
pub total_same : {S T : Type 0} (xs : List (List S)) (ys : List (List T)) → length xs ≡ length ys → ((k : ℕ) (x : List S) (y : List T) → slice_get xs k ≡ Some x → slice_get ys k ≡ Some y → length x ≡ length y) → total xs ≡ total ys
total_same [] [] many same = refl
total_same [] (y ∷ ys) many same = absurd (omega (arith, many))
total_same (x ∷ xs) [] many same = absurd (omega (arith, many))
total_same (x ∷ xs) (y ∷ ys) many same = let rest = total_same xs ys (omega (arith, many)) (λ k a b a_at b_at. same (suc k) a b a_at b_at) in let here = same 0 x y refl refl in omega (arith, rest, here)

-- as many items are sized as there are lengths, or as there are items
pub sized_as : (ns : List ℕ) (xs : List Item) → (length (sized_items ns xs) ≤ length ns) × (length (sized_items ns xs) ≤ length xs) × ((length (sized_items ns xs) ≡ length ns) ⊎ (length (sized_items ns xs) ≡ length xs))
sized_as [] xs = (omega arith, omega arith, inl refl)
sized_as (n ∷ ns) [] = (omega arith, omega arith, inr refl)
sized_as (n ∷ ns) (x ∷ xs) = let rest = sized_as ns xs in (omega (arith, rest.0), omega (arith, rest.1), either rest.2)
  where
    either : ((length (sized_items ns xs) ≡ length ns) ⊎ (length (sized_items ns xs) ≡ length xs)) → (length (sized_items (n ∷ ns) (x ∷ xs)) ≡ length (n ∷ ns)) ⊎ (length (sized_items (n ∷ ns) (x ∷ xs)) ≡ length (x ∷ xs))
    either (inl e) = inl (omega (arith, e))
    either (inr e) = inr (omega (arith, e))

-- items that are a beginning of sized ones are no more than these
pub sized_few : (ns : List ℕ) (xs put : List Item) → IsPrefix put (sized_items ns xs) → (length put ≤ length ns) × (length put ≤ length xs)
sized_few ns xs put begins =
    let few = begins_few put (sized_items ns xs) begins in
    let most = sized_as ns xs in
    (omega (arith, few, most.0), omega (arith, few, most.1))

-- the client of a number as the sending virtualiser has it, and as the receiving one has it
abbrev pub ship_of : (first most k : ℕ) → ClientPools → Shipper
ship_of first most k q = record { active = client_first first k + 4; free = client_first first k + 5; pool = q.tx; most = most }

abbrev pub lessee_of : (first k : ℕ) → Mac → Lessee
lessee_of first k mac = record { active = client_first first k; free = client_first first k + 1; mac = mac }

pub shipper_at : (first most j : ℕ) (qs : List ClientPools) (k n : ℕ) (q : ClientPools) → n ≡ j + k → slice_get qs k ≡ Some q → slice_get (shippers_from first most j qs) k ≡ Some (ship_of first most n q)
shipper_at first most j [] k n q e at = cc
shipper_at first most j (p ∷ qs) zero n q e at = let same : j ≡ n = omega (arith, e) in ap₂ (λ i x. Some (ship_of first most i x)) same (some_is at)
shipper_at first most j (p ∷ qs) (suc k) n q e at = shipper_at first most (j + 1) qs k n q (omega (arith, e)) at

pub shipper_from : (first most j : ℕ) (qs : List ClientPools) (k : ℕ) (c : Shipper) → slice_get (shippers_from first most j qs) k ≡ Some c → (q : ClientPools) × (slice_get qs k ≡ Some q) × (ship_of first most (j + k) q ≡ c)
shipper_from first most j [] k c at = cc
shipper_from first most j (p ∷ qs) zero c at = let same : j + 0 ≡ j = omega arith in (p, refl, ap (λ i. ship_of first most i p) same ∙ some_is at)
shipper_from first most j (p ∷ qs) (suc k) c at =
    let rest = shipper_from first most (j + 1) qs k c at in
    let same : j + suc k ≡ (j + 1) + k = omega arith in
    (rest.0, rest.1, ap (λ i. ship_of first most i rest.0) same ∙ rest.2)

pub shippers_long : (first most j : ℕ) (qs : List ClientPools) → length (shippers_from first most j qs) ≡ length qs
shippers_long first most j [] = refl
shippers_long first most j (q ∷ qs) = let rest = shippers_long first most (j + 1) qs in omega (arith, rest)

pub lessee_at : (first j : ℕ) (ms : List Mac) (k n : ℕ) (mac : Mac) → n ≡ j + k → slice_get ms k ≡ Some mac → slice_get (lessees_from first j ms) k ≡ Some (lessee_of first n mac)
lessee_at first j [] k n mac e at = cc
lessee_at first j (p ∷ ms) zero n mac e at = let same : j ≡ n = omega (arith, e) in ap₂ (λ i x. Some (lessee_of first i x)) same (some_is at)
lessee_at first j (p ∷ ms) (suc k) n mac e at = lessee_at first (j + 1) ms k n mac (omega (arith, e)) at

pub lessee_from : (first j : ℕ) (ms : List Mac) (k : ℕ) (c : Lessee) → slice_get (lessees_from first j ms) k ≡ Some c → (mac : Mac) × (slice_get ms k ≡ Some mac) × (lessee_of first (j + k) mac ≡ c)
lessee_from first j [] k c at = cc
lessee_from first j (p ∷ ms) zero c at = let same : j + 0 ≡ j = omega arith in (p, refl, ap (λ i. lessee_of first i p) same ∙ some_is at)
lessee_from first j (p ∷ ms) (suc k) c at =
    let rest = lessee_from first (j + 1) ms k c at in
    let same : j + suc k ≡ (j + 1) + k = omega arith in
    (rest.0, rest.1, ap (λ i. lessee_of first i rest.0) same ∙ rest.2)
