-- Marks of clients, set one by one, and how many are set.
use Rattle.std.proofs.Common.{◌≡◌, ◌+◌, ◌<◌, ◌≤◌, ℕ, zero, suc, Bool, true, false, Some, List, [], ◌∷◌, ◌++◌, length, map, take, drop, replicate, slice_get, slice_set, slice_index_or, refl, sym, ap, ◌∙◌, add-one, arith}
use Rattle.wire_core.specs.Bells.{bit}
use Rattle.net_virt_rx.specs.Sharing.{how_many}

some_eq : {X : Type 0} {a b : X} → Some a ≡ Some b → a ≡ b
some_eq h = cc

one_marked : {X : Type 0} (f : X → Bool) (ms : List X) (xs : List Bool) (k : ℕ) (m : X) → length ms ≡ length xs → slice_get ms k ≡ Some m → slice_set (map f (take k ms) ++ drop k xs) k (f m) ≡ map f (take (suc k) ms) ++ drop (suc k) xs
one_marked f [] xs k m e at = cc
one_marked f (n ∷ ms) [] k m e at = absurd (omega (arith, e))
one_marked f (n ∷ ms) (x ∷ xs) zero m e at = ap (λ z. f z ∷ xs) (sym (some_eq at))
one_marked f (n ∷ ms) (x ∷ xs) (suc k) m e at = ap (λ l. f n ∷ l) (one_marked f ms xs k m (omega (arith, e)) at)

pub marked_more : {X : Type 0} (f : X → Bool) (ms : List X) (xs now : List Bool) (k : ℕ) (m : X) (b : Bool) → length ms ≡ length xs → now ≡ map f (take k ms) ++ drop k xs → slice_get ms k ≡ Some m → b ≡ f m → slice_set now k b ≡ map f (take (k + 1) ms) ++ drop (k + 1) xs
marked_more f ms xs now k m b e is at val = rw (is, val, add-one k) (one_marked f ms xs k m e at)

pub marked_length : {X : Type 0} (f : X → Bool) (ms : List X) (xs now : List Bool) (k : ℕ) → length ms ≡ length xs → now ≡ map f (take k ms) ++ drop k xs → length now ≡ length xs
marked_length f ms xs now k e is = ap length is ∙ as_long f ms xs k e
  where
    as_long : {X : Type 0} (f : X → Bool) (ms : List X) (xs : List Bool) (k : ℕ) → length ms ≡ length xs → length (map f (take k ms) ++ drop k xs) ≡ length xs
    as_long f [] xs zero e = refl
    as_long f [] [] (suc k) e = refl
    as_long f [] (x ∷ xs) (suc k) e = absurd (omega (arith, e))
    as_long f (m ∷ ms) [] k e = absurd (omega (arith, e))
    as_long f (m ∷ ms) (x ∷ xs) zero e = refl
    as_long f (m ∷ ms) (x ∷ xs) (suc k) e = ap suc (as_long f ms xs k (omega (arith, e)))

pub marked_all : {X : Type 0} (f : X → Bool) (ms : List X) (xs : List Bool) (k : ℕ) → length ms ≡ length xs → k ≡ length ms → map f (take k ms) ++ drop k xs ≡ map f ms
marked_all f ms xs k e is = ap (λ n. map f (take n ms) ++ drop n xs) is ∙ whole f ms xs e
  where
    whole : {X : Type 0} (f : X → Bool) (ms : List X) (xs : List Bool) → length ms ≡ length xs → map f (take (length ms) ms) ++ drop (length ms) xs ≡ map f ms
    whole f [] [] e = refl
    whole f [] (x ∷ xs) e = absurd (omega (arith, e))
    whole f (m ∷ ms) [] e = absurd (omega (arith, e))
    whole f (m ∷ ms) (x ∷ xs) e = ap (λ l. f m ∷ l) (whole f ms xs (omega (arith, e)))

-- how many are set of those that were read so far
pub counted_more : (xs : List Bool) (k : ℕ) (d : Bool) → k < length xs → how_many (take (k + 1) xs) ≡ how_many (take k xs) + bit (slice_index_or xs k d)
counted_more xs k d h = ap (λ n. how_many (take n xs)) (add-one k) ∙ more xs k d h
  where
    more : (xs : List Bool) (k : ℕ) (d : Bool) → k < length xs → how_many (take (suc k) xs) ≡ how_many (take k xs) + bit (slice_index_or xs k d)
    more [] k d h = absurd (omega (arith, h))
    more (x ∷ xs) zero d h = omega arith
    more (x ∷ xs) (suc k) d h = let e = more xs k d (omega (arith, h)) in omega (arith, e)

pub few_marked : (xs : List Bool) → how_many xs ≤ length xs
few_marked [] = omega arith
few_marked (true ∷ xs) = let h = few_marked xs in omega (arith, h)
few_marked (false ∷ xs) = let h = few_marked xs in omega (arith, h)

pub none_marked : (n : ℕ) → how_many (replicate n false) ≡ 0
none_marked zero = refl
none_marked (suc n) = let h = none_marked n in omega (arith, h)

-- where none is set, each isn't
pub all_clear : (xs : List Bool) (k : ℕ) → how_many xs ≡ 0 → slice_index_or xs k false ≡ false
all_clear [] k h = refl
all_clear (false ∷ xs) zero h = refl
all_clear (true ∷ xs) zero h = absurd (omega (arith, h))
all_clear (b ∷ xs) (suc k) h = all_clear xs k (omega (arith, h))

-- one that was set is cleared
pub one_less : (xs : List Bool) (k : ℕ) → slice_index_or xs k false ≡ true → how_many xs ≡ how_many (slice_set xs k false) + 1
one_less [] k h = absurd cc
one_less (true ∷ xs) zero h = omega arith
one_less (false ∷ xs) zero h = absurd cc
one_less (b ∷ xs) (suc k) h = let e = one_less xs k h in omega (arith, e)
