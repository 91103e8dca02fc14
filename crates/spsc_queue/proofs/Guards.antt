-- What a step does to the guards.
use Rattle.std.proofs.Common.{◌≡◌, ◌≢◌, ℕ, zero, suc, ◌+◌, ◌%◌, ◌<◌, ◌≤◌, Bool, true, false, not, nat_lt, nat_eq, List, [], ◌∷◌, ◌++◌, length, set, refl, sym, ap, ◌∙◌, subst, arith, length-append}
use Rattle.std.specs.Prelude.{slice_index}
use Rattle.std.proofs.Math.Nat.{add-mod_right}
use Rattle.std.proofs.lemmas.Bool.{lt-ltb, le-ltb}
use mathlib.Core.Option.{some, some-injective, some-ne-none}
use mathlib.Core.Logic.{dite}
use native.Mathlib.Decide.{dec_le, ℕ_discrete}
use lib.ListN.{get_elem?}
use Rattle.atomic_table.proofs.Lists.{set_here, set_else}
use Rattle.wire_core.specs.Bells.{bit}
use Rattle.wire_core.specs.Deeds.{Cargo}
use Rattle.spsc_queue.specs.Rule.{guard_word, GuardsHold}
use Rattle.spsc_queue.proofs.Places.{apart, below}

-- one comparison tells another
pub same_lt : (a b c d : ℕ) → (a < b → c < d) → (b ≤ a → d ≤ c) → nat_lt a b ≡ nat_lt c d
same_lt a b c d up down = dite (dec_le b a)
    (λ le. le-ltb a b le ∙ sym (le-ltb c d (down le)))
    (λ gt. let lt : a < b = omega arith in lt-ltb a b lt ∙ sym (lt-ltb c d (up lt)))

pub index_elem : (ws : List ℕ) (i r : ℕ) → get_elem? ws i ≡ some r → slice_index ws i ≡ r
index_elem [] i r e = absurd (some-ne-none r (sym e))
index_elem (x ∷ xs) zero r e = some-injective x r e
index_elem (x ∷ xs) (suc i) r e = index_elem xs i r e

pub one_is : (b : Bool) → nat_eq (bit b) 1 ≡ b
one_is true = refl
one_is false = refl

pub none_is : (b : Bool) → nat_eq (bit (not b)) 0 ≡ b
none_is true = refl
none_is false = refl

-- two guards
guards_apart : (n i j : ℕ) → i % n ≢ j % n → guard_word n i ≢ guard_word n j
guards_apart n i j ne e = ne (let same : 36 + i % n ≡ 36 + j % n = e in let z : i % n ≡ j % n = omega (arith, same) in z)

module _ (n t : ℕ) (ws : List ℕ) where
  -- a word below them may change
  pub low_passes : (left : List Cargo) (i z : ℕ) → i < 36 → GuardsHold n ws t left → GuardsHold n (set ws i z) t left
  low_passes left i z low g k lt = set_else ws i (guard_word n (t + k)) z (λ e. let same : 36 + (t + k) % n ≡ i = e in omega (arith, same, low)) ∙ g k lt

  -- the guard at the consumer's place
  pub first_guard : (left : List Cargo) → 0 < n → GuardsHold n ws t left → slice_index ws (guard_word n t) ≡ bit (nat_lt 0 (length left))
  first_guard left some_place g = index_elem ws (guard_word n t) (bit (nat_lt 0 (length left))) (ap (λ (z : ℕ). get_elem? ws (guard_word n z)) (let z : t ≡ t + 0 = omega arith in z) ∙ g 0 some_place)

  -- the guard at the producer's place
  pub last_guard : (left : List Cargo) → 0 < n → length left ≤ n → GuardsHold n ws t left → slice_index ws (guard_word n (t + length left)) ≡ bit (not (nat_lt (length left) n))
  last_guard left some_place within g = let k : ℕ = length left in dite (dec_le n k)
      (λ full. let is : k ≡ n = omega (arith, full, within) in
      ap (λ (z : ℕ). slice_index ws (36 + z)) (ap (λ (z : ℕ). (t + z) % n) is ∙ add-mod_right t n) ∙ (first_guard left some_place g ∙ (ap bit (lt-ltb 0 k (omega arith)) ∙ sym (ap (λ (z : Bool). bit (not z)) (le-ltb k n full)))))
      (λ free. let room : k < n = omega arith in index_elem ws (guard_word n (t + k)) (bit (nat_lt k k)) (g k room) ∙ (ap bit (le-ltb k k (omega arith)) ∙ sym (ap (λ (z : Bool). bit (not z)) (lt-ltb k n room))))

  -- an entry was put behind the last
  pub fills_guard : (left : List Cargo) (x : Cargo) (i : ℕ) → i ≡ guard_word n (t + length left) → length left < n → GuardsHold n ws t left → GuardsHold n (set ws i 1) t (left ++ x ∷ [])
  fills_guard left x i at room g k lt = let more = length-append left (x ∷ []) in dite (ℕ_discrete k (length left))
      (λ same. ap (λ (z : ℕ). get_elem? (set ws i 1) (guard_word n (t + z))) same ∙ (ap (get_elem? (set ws i 1)) (sym at) ∙ (set_here ws i 1 (subst (λ (z : ℕ). z < length ws) (sym at) (below ws (guard_word n (t + length left)) (bit (nat_lt (length left) (length left))) (g (length left) room)))
      ∙ ap some (ap bit (sym (lt-ltb k (length (left ++ x ∷ [])) (omega (arith, more, same))))))))
      (λ ne. set_else ws i (guard_word n (t + k)) 1 (λ e. guards_apart n (t + k) (t + length left) (apart n t k (length left) lt room ne) (e ∙ at))
      ∙ (g k lt ∙ ap (λ (z : Bool). some (bit z)) (same_lt k (length left) k (length (left ++ x ∷ [])) (λ a. omega (arith, more, a)) (λ a. omega (arith, more, a, ne)))))

  round : (k : ℕ) → suc k ≡ n → (suc t + k) % n ≡ t % n
  round k e = ap (λ (z : ℕ). z % n) (let z : suc t + k ≡ t + n = omega (arith, e) in z) ∙ add-mod_right t n

  -- the first was taken
  pub empties_guard : (x : Cargo) (xs : List Cargo) (i : ℕ) → i ≡ guard_word n t → suc (length xs) ≤ n → GuardsHold n ws t (x ∷ xs) → GuardsHold n (set ws i 0) (suc t) xs
  empties_guard x xs i at within g k lt = let zero_is : t + 0 ≡ t = omega arith in dite (ℕ_discrete (suc k) n)
      (λ last. ap (λ (z : ℕ). get_elem? (set ws i 0) (36 + z)) (round k last) ∙ (ap (get_elem? (set ws i 0)) (sym at) ∙ (set_here ws i 0 (subst (λ (z : ℕ). z < length ws) (ap (guard_word n) zero_is ∙ sym at) (below ws (guard_word n (t + 0)) (bit (nat_lt 0 (suc (length xs)))) (g 0 (omega (arith, within)))))
      ∙ ap some (ap bit (sym (le-ltb k (length xs) (omega (arith, last, within))))))))
      (λ more. let lt' : suc k < n = omega (arith, lt, more) in let same : suc t + k ≡ t + suc k = omega arith in
      set_else ws i (guard_word n (suc t + k)) 0 (λ e. guards_apart n (t + suc k) (t + 0) (apart n t (suc k) 0 lt' (omega (arith, lt')) (λ z. omega arith)) (ap (guard_word n) (sym same) ∙ (e ∙ (at ∙ ap (guard_word n) (sym zero_is)))))
      ∙ (ap (λ (z : ℕ). get_elem? ws (guard_word n z)) same ∙ (g (suc k) lt' ∙ ap (λ (z : Bool). some (bit z)) (same_lt (suc k) (suc (length xs)) k (length xs) (λ a. omega (arith, a)) (λ a. omega (arith, a))))))
