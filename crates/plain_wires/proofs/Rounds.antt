-- What stands in the slots after an entry was taken, and after one was put; and its buffers.
use Rattle.std.proofs.Common.{◌≡◌, ◌≢◌, ℕ, zero, suc, ◌+◌, ◌-◌, ◌*◌, ◌/◌, ◌%◌, ◌^◌, ◌<◌, ◌≤◌, List, [], ◌∷◌, ◌++◌, length, get_or, set, refl, sym, ap, ◌∙◌, subst, arith, Option, Some, None, append-nil, append_assoc, length-append, mul-le-mul_right, suc-mul, lt_of_not-le, div-add-mod'}
use Rattle.std.specs.Prelude.{option_to_list}
use Rattle.std.proofs.Math.Nat.{mod-add-mod, mod-mod_of_dvd, mul-mod_left, mod-lt, pow-le-pow_right}
use Rattle.std.proofs.lemmas.Nat.{pow-add, pow_pos}
use Rattle.std.proofs.lemmas.Nat.Gcd.{dvd_of_mod-eq-zero}
use Rattle.std.proofs.lemmas.List.{get_or-set_same, get_or-set_other}
use native.Mathlib.Decide.{dec_le}
use Rattle.std.specs.Prelude.{map, sum_by}
use Rattle.std.proofs.lemmas.List.{map-append}
use Rattle.std.proofs.lemmas.List.Sums.{sum-map, sum_by-append}
use Rattle.cargo_core.specs.declared.item.PoolId.{PoolId}
use Rattle.cargo_core.specs.declared.item.Body.{Body}
use Rattle.cargo_core.specs.Bodies.{buffers_in, buffers_of}
use Rattle.wire_core.specs.Deeds.{Cargo}
use Rattle.cargo_core.specs.Capacities.{IsCapacity}
use Rattle.plain_wires.specs.Contents.{distance, standing}
use Rattle.plain_wires.specs.Pages.{pages_among}

-- a capacity divides the numbers of an index
capacity_fits : (n : ℕ) → IsCapacity n → (0 < n) × (n ≤ 32768) × (65536 % n ≡ 0)
capacity_fits n h = let k : ℕ = h.0 in let small : k ≤ 15 = h.1 in let j : ℕ = 16 - k in let sum : j + k ≡ 16 = omega arith in
    let most : 2 ^ k ≤ 2 ^ 15 = pow-le-pow_right (let z : zero < 2 = omega arith in z) small in
    let whole : 65536 ≡ 2 ^ j * 2 ^ k = ap (λ (z : ℕ). 2 ^ z) (sym sum) ∙ pow-add 2 j k in
    subst (λ (m : ℕ). (0 < m) × (m ≤ 32768) × (65536 % m ≡ 0)) (sym h.2) (pow_pos k, most, ap (λ (z : ℕ). z % 2 ^ k) whole ∙ mul-mod_left (2 ^ j) (2 ^ k))

-- the slot of an index is that of the number that wraps
wraps : (n i : ℕ) → 65536 % n ≡ 0 → (i % 65536) % n ≡ i % n
wraps n i divides = mod-mod_of_dvd n i (dvd_of_mod-eq-zero n divides)

further : (x y n : ℕ) → x < y → x * n + n ≤ y * n
further x y n h = let a : suc x * n ≤ y * n = mul-le-mul_right n h in omega (arith, suc-mul x n)

-- two indices less than a round apart have two slots
apart : (a b n : ℕ) → a < b → b < a + n → a % n ≢ b % n
apart a b n lt near e = decide (dec_le (b / n) (a / n))
  where
    decide : Dec (b / n ≤ a / n) → ⊥
    decide (yes d) = let m : b / n * n ≤ a / n * n = mul-le-mul_right n d in let p = div-add-mod' a n in let q = div-add-mod' b n in
        let x : ℕ = a / n * n in let y : ℕ = b / n * n in let r : ℕ = b % n in let p' : x + r ≡ a = ap (λ (k : ℕ). x + k) (sym e) ∙ p in let q' : y + r ≡ b = q in let m' : y ≤ x = m in omega arith
    decide (no d) = let m = further (a / n) (b / n) n (lt_of_not-le d) in let p = div-add-mod' a n in let q = div-add-mod' b n in
        let x : ℕ = a / n * n in let y : ℕ = b / n * n in let r : ℕ = b % n in let p' : x + r ≡ a = ap (λ (k : ℕ). x + k) (sym e) ∙ p in let q' : y + r ≡ b = q in let m' : x + n ≤ y = m in omega arith

one_at_most : (o : Option Cargo) → length (option_to_list o) ≤ 1
one_at_most None = omega arith
one_at_most (Some x) = omega arith

-- no more than one lies in each slot
at_most : (xs : List (Option Cargo)) (n i k : ℕ) → length (standing xs n i k) ≤ k
unfolding standing
at_most xs n i zero = omega arith
at_most xs n i (suc k) = let h = at_most xs n (suc i) k in let l = length-append (option_to_list (get_or xs (i % n) None)) (standing xs n (suc i) k) in let one = one_at_most (get_or xs (i % n) None) in omega (arith, h, l, one)

next_slot : (i j n : ℕ) → i % n ≡ j % n → suc i % n ≡ suc j % n
next_slot i j n e = let a : suc i ≡ i + 1 = omega arith in let b : suc j ≡ j + 1 = omega arith in
    ap (λ (z : ℕ). z % n) a ∙ (sym (mod-add-mod i n 1) ∙ (ap (λ (z : ℕ). (z + 1) % n) e ∙ (mod-add-mod j n 1 ∙ ap (λ (z : ℕ). z % n) (sym b))))

-- from two indices of one slot on the same lies there
turned : (xs : List (Option Cargo)) (n i j k : ℕ) → i % n ≡ j % n → standing xs n i k ≡ standing xs n j k
unfolding standing
turned xs n i j zero e = refl
turned xs n i j (suc k) e = ap (λ (p : ℕ). option_to_list (get_or xs p None) ++ standing xs n (suc i) k) e ∙ ap (λ (l : List Cargo). option_to_list (get_or xs (j % n) None) ++ l) (turned xs n (suc i) (suc j) k (next_slot i j n e))

-- the last of the slots
last_slot : (xs : List (Option Cargo)) (n i k : ℕ) → standing xs n i (suc k) ≡ standing xs n i k ++ option_to_list (get_or xs ((i + k) % n) None)
unfolding standing
last_slot xs n i zero = append-nil (option_to_list (get_or xs (i % n) None)) ∙ ap (λ (z : ℕ). option_to_list (get_or xs (z % n) None)) (let z : i ≡ i + 0 = omega arith in z)
last_slot xs n i (suc k) = ap (λ (l : List Cargo). option_to_list (get_or xs (i % n) None) ++ l) (last_slot xs n (suc i) k)
    ∙ (sym (append_assoc (option_to_list (get_or xs (i % n) None)) (standing xs n (suc i) k) (option_to_list (get_or xs ((suc i + k) % n) None)))
    ∙ ap (λ (z : ℕ). (option_to_list (get_or xs (i % n) None) ++ standing xs n (suc i) k) ++ option_to_list (get_or xs (z % n) None)) (let z : suc i + k ≡ i + suc k = omega arith in z))

-- a change of another slot
elsewhere : (xs : List (Option Cargo)) (n i k p : ℕ) (y : Option Cargo) → ((j : ℕ) → j < k → (i + j) % n ≢ p) → standing (set xs p y) n i k ≡ standing xs n i k
unfolding standing
elsewhere xs n i zero p y away = refl
elsewhere xs n i (suc k) p y away = let here : i % n ≢ p = (λ e. away 0 (omega arith) (ap (λ (z : ℕ). z % n) (let z : i + 0 ≡ i = omega arith in z) ∙ e)) in
    ap (λ (o : Option Cargo). option_to_list o ++ standing (set xs p y) n (suc i) k) (get_or-set_other xs p (i % n) y None here)
    ∙ ap (λ (l : List Cargo). option_to_list (get_or xs (i % n) None) ++ l) (elsewhere xs n (suc i) k p y (λ j lt e. away (suc j) (omega arith) (ap (λ (z : ℕ). z % n) (let z : i + suc j ≡ suc i + j = omega arith in z) ∙ e)))

first_of : (o : Option Cargo) (l : List Cargo) (k : ℕ) → length (option_to_list o ++ l) ≡ suc k → length l ≤ k → (x : Cargo) × (o ≡ Some x) × (option_to_list o ++ l ≡ x ∷ l)
first_of None l k h le = absurd (omega (arith, h, le))
first_of (Some x) l k h le = (x, refl, refl)

-- the first of filled slots
first_slot : (xs : List (Option Cargo)) (n i k : ℕ) → length (standing xs n i (suc k)) ≡ suc k → (x : Cargo) × (get_or xs (i % n) None ≡ Some x) × (standing xs n i (suc k) ≡ x ∷ standing xs n (suc i) k)
unfolding standing
first_slot xs n i k full = first_of (get_or xs (i % n) None) (standing xs n (suc i) k) k full (at_most xs n (suc i) k)

-- the first entry leaves
pub record Taken (xs : List (Option Cargo)) (n h t : ℕ) : Type 0 where
  pub first : Cargo
  pub there : get_or xs (h % n) None ≡ Some first
  pub within : distance ((h + 1) % 65536) t ≤ n
  pub filled : length (standing (set xs (h % n) None) n ((h + 1) % 65536) (distance ((h + 1) % 65536) t)) ≡ distance ((h + 1) % 65536) t
  pub rest : standing xs n h (distance h t) ≡ first ∷ standing (set xs (h % n) None) n ((h + 1) % 65536) (distance ((h + 1) % 65536) t)

pub taken : (xs : List (Option Cargo)) (n h t : ℕ) → IsCapacity n → h < 65536 → t < 65536 → distance h t ≤ n → length (standing xs n h (distance h t)) ≡ distance h t → 0 < length (standing xs n h (distance h t)) → Taken xs n h t
taken xs n h t sized hs ts within full some =
    let fits = capacity_fits n sized in let k : ℕ = distance h t - 1 in
    let is : distance h t ≡ suc k = omega (arith, some, full) in
    let next : distance ((h + 1) % 65536) t ≡ k = omega (arith, is) in
    let f = first_slot xs n h k (subst (λ (d : ℕ). length (standing xs n h d) ≡ d) is full) in
    let after : standing xs n (suc h) k ≡ standing (set xs (h % n) None) n ((h + 1) % 65536) k =
    sym (elsewhere xs n (suc h) k (h % n) None (λ j lt e. apart h (suc h + j) n (omega arith) (omega (arith, is, within)) (sym e)))
    ∙ turned (set xs (h % n) None) n (suc h) ((h + 1) % 65536) k (ap (λ (z : ℕ). z % n) (let z : suc h ≡ h + 1 = omega arith in z) ∙ sym (wraps n (h + 1) fits.2)) in
    let went : standing xs n h (distance h t) ≡ f.0 ∷ standing (set xs (h % n) None) n ((h + 1) % 65536) (distance ((h + 1) % 65536) t) =
    ap (standing xs n h) is ∙ (f.2 ∙ ap (λ (l : List Cargo). f.0 ∷ l) (after ∙ ap (standing (set xs (h % n) None) n ((h + 1) % 65536)) (sym next))) in
    record {
      first = f.0;
      there = f.1;
      within = omega (arith, next, is, within);
      filled = let l = ap length went in omega (arith, l, full, is, next);
      rest = went;
    }

-- an entry comes behind the others
pub record Added (xs : List (Option Cargo)) (n h t : ℕ) (x : Cargo) : Type 0 where
  pub within : distance h ((t + 1) % 65536) ≤ n
  pub filled : length (standing (set xs (t % n) (Some x)) n h (distance h ((t + 1) % 65536))) ≡ distance h ((t + 1) % 65536)
  pub entries : standing (set xs (t % n) (Some x)) n h (distance h ((t + 1) % 65536)) ≡ standing xs n h (distance h t) ++ x ∷ []

pub added : (xs : List (Option Cargo)) (n h t : ℕ) (x : Cargo) → IsCapacity n → length xs ≡ n → h < 65536 → t < 65536 → length (standing xs n h (distance h t)) ≡ distance h t → length (standing xs n h (distance h t)) < n → Added xs n h t x
added xs n h t x sized places hs ts full room =
    let fits = capacity_fits n sized in let k : ℕ = distance h t in let few : n ≤ 32768 = fits.1 in
    let next : distance h ((t + 1) % 65536) ≡ suc k = omega (arith, full, room, few) in
    let index : t ≡ (h + k) % 65536 = omega arith in
    let place : t % n ≡ (h + k) % n = ap (λ (z : ℕ). z % n) index ∙ wraps n (h + k) fits.2 in
    let there : (h + k) % n < length xs = subst (λ (z : ℕ). (h + k) % n < z) (sym places) (mod-lt (h + k) fits.0) in
    let before : standing (set xs ((h + k) % n) (Some x)) n h k ≡ standing xs n h k = elsewhere xs n h k ((h + k) % n) (Some x) (λ j lt. apart (h + j) (h + k) n (omega arith) (omega (arith, full, room))) in
    let after : standing (set xs (t % n) (Some x)) n h (distance h ((t + 1) % 65536)) ≡ standing xs n h k ++ x ∷ [] =
    ap (standing (set xs (t % n) (Some x)) n h) next
    ∙ (ap (λ (p : ℕ). standing (set xs p (Some x)) n h (suc k)) place
    ∙ (last_slot (set xs ((h + k) % n) (Some x)) n h k
    ∙ (ap (λ (l : List Cargo). l ++ option_to_list (get_or (set xs ((h + k) % n) (Some x)) ((h + k) % n) None)) before
    ∙ ap (λ (o : Option Cargo). standing xs n h k ++ option_to_list o) (get_or-set_same xs ((h + k) % n) (Some x) None there)))) in
    record {
      within = omega (arith, next, full, room);
      filled = let l = ap length after in let m = length-append (standing xs n h k) (x ∷ []) in omega (arith, l, m, full, next);
      entries = after;
    }

-- nothing lies in no slots
pub none_stands : (xs : List (Option Cargo)) (n i : ℕ) → standing xs n i 0 ≡ []
unfolding standing
none_stands xs n i = refl

same_entry : (x y : Cargo) → Some x ≡ Some y → x ≡ y
same_entry x y e = cc

-- what leaves is the first entry
pub leaves : (xs : List (Option Cargo)) (n h t : ℕ) → Taken xs n h t → (p : ℕ) (y : Option Cargo) (x : Cargo) → p ≡ h % n → y ≡ None → get_or xs p None ≡ Some x → standing xs n h (distance h t) ≡ x ∷ standing (set xs p y) n ((h + 1) % 65536) (distance ((h + 1) % 65536) t)
leaves xs n h t k p y x at empty is =
    let same : k.first ≡ x = same_entry k.first x (sym k.there ∙ (ap (λ (z : ℕ). get_or xs z None) (sym at) ∙ is)) in
    k.rest
    ∙ (ap (λ (z : Cargo). z ∷ standing (set xs (h % n) None) n ((h + 1) % 65536) (distance ((h + 1) % 65536) t)) same
    ∙ (ap (λ (z : ℕ). x ∷ standing (set xs z None) n ((h + 1) % 65536) (distance ((h + 1) % 65536) t)) (sym at)
    ∙ ap (λ (z : Option Cargo). x ∷ standing (set xs p z) n ((h + 1) % 65536) (distance ((h + 1) % 65536) t)) (sym empty)))

-- how many buffers entries carry, one list after another
among_append : (pool : PoolId) (xs ys : List Cargo) → pages_among pool (xs ++ ys) ≡ pages_among pool xs + pages_among pool ys
among_append pool xs ys =
    let bodies : List Cargo → List Body = (λ cs. map (λ (c : Cargo). c.1) cs) in
    ap (buffers_of pool) (map-append (λ (c : Cargo). c.1) xs ys)
    ∙ (sum-map (buffers_in pool) (bodies xs ++ bodies ys)
    ∙ (sum_by-append (buffers_in pool) (bodies xs) (bodies ys)
    ∙ (ap (λ n. n + sum_by (buffers_in pool) (bodies ys)) (sym (sum-map (buffers_in pool) (bodies xs)))
    ∙ ap (λ n. buffers_of pool (bodies xs) + n) (sym (sum-map (buffers_in pool) (bodies ys))))))

-- one slot more is counted
pub one_more : (pool : PoolId) (xs : List (Option Cargo)) (n h k pages : ℕ) (o : Option Cargo) → IsCapacity n → pages ≡ pages_among pool (standing xs n h k) → get_or xs (((h + k) % 65536) % n) None ≡ o → pages + pages_among pool (option_to_list o) ≡ pages_among pool (standing xs n h (k + 1))
one_more pool xs n h k pages o sized before at =
    let place : get_or xs ((h + k) % n) None ≡ o = ap (λ i. get_or xs i None) (sym (wraps n (h + k) (capacity_fits n sized).2)) ∙ at in
    let all : standing xs n h (suc k) ≡ standing xs n h k ++ option_to_list o = last_slot xs n h k ∙ ap (λ x. standing xs n h k ++ option_to_list x) place in
    let more : k + 1 ≡ suc k = omega arith in
    ap (λ m. m + pages_among pool (option_to_list o)) before ∙ (sym (among_append pool (standing xs n h k) (option_to_list o)) ∙ (sym (ap (pages_among pool) all) ∙ ap (λ j. pages_among pool (standing xs n h j)) (sym more)))
