use Rattle.std.proofs.Common.{◌≡◌, ℕ, zero, suc, ◌+◌, ◌<◌, List, [], ◌∷◌, ◌++◌, length, get_or, set, refl, ap, sym, arith, add-one}
use Rattle.line_text.specs.Lists.{per_client, grown_at}

per_client_suc : {T : Type 0} (n : ℕ) (f : ℕ → T) → per_client (suc n) f ≡ per_client n f ++ f n ∷ []
per_client_suc zero f = refl
per_client_suc (suc n) f = ap (λ rest. f 0 ∷ rest) (per_client_suc n (λ c. f (suc c)))

-- one more client comes last
pub per_client_more : {T : Type 0} (n : ℕ) (f : ℕ → T) → per_client (n + 1) f ≡ per_client n f ++ f n ∷ []
per_client_more n f = rw (add-one n) (per_client_suc n f)

-- a write of a longer list at the place of a client
pub grown_at_set : {T : Type 0} (lists : List (List T)) (c : ℕ) (l more : List T) → c < length lists → l ≡ get_or lists c l
    → set lists c (l ++ more) ≡ grown_at lists c more
grown_at_set [] c l more h e = absurd (omega arith)
grown_at_set (x ∷ rest) zero l more h e = ap (λ y. (y ++ more) ∷ rest) e
grown_at_set (x ∷ rest) (suc c) l more h e = ap (λ y. x ∷ y) (grown_at_set rest c l more (omega arith) e)

-- the lists of clients that differ in none
pub per_client_same : {T : Type 0} (n : ℕ) (f g : ℕ → T) → ((k : ℕ) → f k ≡ g k) → per_client n f ≡ per_client n g
per_client_same zero f g h = refl
per_client_same (suc n) f g h = rw (h 0, per_client_same n (λ k. f (suc k)) (λ k. g (suc k)) (λ k. h (suc k))) refl

-- the lists of clients of which one has more
pub per_client_grown : {T : Type 0} (n c : ℕ) (more : List T) (f g : ℕ → List T) → ((k : ℕ) → c ≡ k → g k ≡ f k ++ more) → ((k : ℕ) → (c ≡ k → ⊥) → g k ≡ f k)
    → grown_at (per_client n f) c more ≡ per_client n g
per_client_grown zero c more f g here other = refl
per_client_grown (suc n) zero more f g here other =
    rw (sym (here 0 refl), per_client_same n (λ k. f (suc k)) (λ k. g (suc k)) (λ k. sym (other (suc k) (λ is. absurd (omega arith))))) refl
per_client_grown (suc n) (suc c) more f g here other =
    rw (sym (other 0 (λ is. absurd (omega arith))), per_client_grown n c more (λ k. f (suc k)) (λ k. g (suc k)) (λ k is. here (suc k) (ap suc is)) (λ k not. other (suc k) (λ is. not (omega arith)))) refl

pub length_per_client : {T : Type 0} (n : ℕ) (f : ℕ → T) → length (per_client n f) ≡ n
length_per_client zero f = refl
length_per_client (suc n) f = ap suc (length_per_client n (λ k. f (suc k)))
