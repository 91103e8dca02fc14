use Rattle.std.proofs.Common.{◌≡◌, ◌≢◌, ◌⊎◌, ◌==◌, ◌≤◌, ◌+◌, ◌++◌, ℕ, zero, suc, Bool, true, false, if◌then◌else◌, List, [], ◌∷◌, length, length-append, flat_map, refl, sym, ap, arith, inl, inr}
use Rattle.std.proofs.lemmas.Bool.Decides.{eqb_tells}
use Rattle.std.proofs.Math.Dec.{eqb}
use Rattle.wire_core.specs.Marks.{sum_below}
use Rattle.wire_core.proofs.Sinces.{eqb_apart}
use Rattle.class_expect.specs.SerialSwitch.Switching.{Piece, Plain, Doubled, Selection, Dropped, bytes_of, byte_in, selected, given_by, given_after, split_of, input_of}
use Rattle.class_expect.proofs.SerialSwitch.Splits.{splits}
use Rattle.step_bound.proofs.Sums.{sum_same, sum_plus}

sum_none : (f : ℕ → ℕ) (k : ℕ) → ((c : ℕ) → f c ≡ 0) → sum_below f k ≡ 0
sum_none f zero h = refl
sum_none f (suc k) h = let a = sum_none f k h in let b = h k in omega (arith, a, b)

sum_apart : (f : ℕ → ℕ) (k s : ℕ) → k ≤ s → ((c : ℕ) → (c ≡ s → ⊥) → f c ≡ 0) → sum_below f k ≡ 0
sum_apart f zero s l none = refl
sum_apart f (suc k) s l none =
    let a = sum_apart f k s (omega (arith, l)) none in
    let b = none k (λ e. absurd (omega (arith, l, e))) in
    omega (arith, a, b)

-- where one of them alone counts
sum_single : (f : ℕ → ℕ) (k s m : ℕ) → ((c : ℕ) → f c ≤ m) → ((c : ℕ) → (c ≡ s → ⊥) → f c ≡ 0) → sum_below f k ≤ m
sum_single f zero s m most none = omega arith
sum_single f (suc k) s m most none = decide (sum_single f k s m most none) (eqb_tells k s)
  where
    decide : sum_below f k ≤ m → ((eqb k s ≡ true) × (k ≡ s)) ⊎ ((eqb k s ≡ false) × (k ≢ s)) → sum_below f (suc k) ≤ m
    decide rest (inl same) = let e = same.1 in let a = sum_apart f k s (omega (arith, e)) none in let b = most k in omega (arith, a, b)
    decide rest (inr apart) = let b = none k apart.1 in omega (arith, rest, b)

given_most : (s c : ℕ) (p : Piece) → length (given_by s c p) ≤ length (byte_in p)
given_most s c p = go (s == c)
  where
    go : (b : Bool) → length (if b then byte_in p else []) ≤ length (byte_in p)
    go true = omega arith
    go false = omega arith

given_none : (s c : ℕ) (p : Piece) → (c ≡ s → ⊥) → length (given_by s c p) ≡ 0
given_none s c p h = ap (λ b. length (if b then byte_in p else [])) (eqb_apart s c (λ e. h (sym e)))

few_bytes : (p : Piece) → length (byte_in p) ≤ length (bytes_of p)
few_bytes (Plain b) = omega arith
few_bytes Doubled = omega arith
few_bytes (Selection ds) = omega arith
few_bytes (Dropped ds x) = omega arith

given_few : (clients : ℕ) (before ps : List Piece) → sum_below (λ c. length (given_after clients c before ps)) clients ≤ length (flat_map bytes_of ps)
given_few clients before [] = let z = sum_none (λ c. length (given_after clients c before [])) clients (λ c. refl) in omega (arith, z)
given_few clients before (p ∷ ps) =
    let rest = given_few clients (before ++ p ∷ []) ps in
    let one = sum_single (λ c. length (given_by (selected clients before) c p)) clients (selected clients before) (length (byte_in p)) (λ c. given_most (selected clients before) c p) (λ c h. given_none (selected clients before) c p h) in
    let both = sum_plus (λ c. length (given_by (selected clients before) c p)) (λ c. length (given_after clients c (before ++ p ∷ []) ps)) clients in
    let parts = sum_same (λ c. length (given_after clients c before (p ∷ ps))) (λ c. length (given_by (selected clients before) c p) + length (given_after clients c (before ++ p ∷ []) ps)) clients (λ c l. length-append (given_by (selected clients before) c p) (given_after clients c (before ++ p ∷ []) ps)) in
    let few = few_bytes p in
    let text = length-append (bytes_of p) (flat_map bytes_of ps) in
    omega (arith, rest, one, both, parts, few, text)

-- over all clients the parts of an input are together no longer than the input
pub parts_few : (clients : ℕ) (input : List ℕ) → sum_below (λ c. length (input_of clients c input)) clients ≤ length input
parts_few clients input =
    let g = given_few clients [] (split_of input).pieces in
    let s = splits input in
    let l = length-append (flat_map bytes_of (split_of input).pieces) (split_of input).rest in
    let t = ap length s.text in
    omega (arith, g, l, t)
