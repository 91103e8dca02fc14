use Rattle.std.proofs.Common.{◌≡◌, ◌+◌, ℕ, zero, suc, List, [], ◌∷◌, ◌++◌, length, map, take, drop, Some, slice_get, slice_set, refl, sym, ap, ◌∙◌, subst, add-one}

some_eq : {X : Type 0} {a b : X} → Some a ≡ Some b → a ≡ b
some_eq h = cc

-- the elements before a place were changed, and now the one at it
one_changed : {T : Type 0} (f : T → T) (xs : List T) (k : ℕ) (x : T) → slice_get xs k ≡ Some x → slice_set (map f (take k xs) ++ drop k xs) k (f x) ≡ map f (take (suc k) xs) ++ drop (suc k) xs
one_changed f [] k x h = cc
one_changed f (y ∷ ys) zero x h = ap (λ z. f z ∷ ys) (sym (some_eq h))
one_changed f (y ∷ ys) (suc k) x h = ap (λ zs. f y ∷ zs) (one_changed f ys k x h)

-- the element at a place is the old one
pub still_old : {T : Type 0} (f : T → T) (xs : List T) (k : ℕ) → slice_get (map f (take k xs) ++ drop k xs) k ≡ slice_get xs k
still_old f [] zero = refl
still_old f [] (suc k) = refl
still_old f (y ∷ ys) zero = refl
still_old f (y ∷ ys) (suc k) = still_old f ys k

pub changed_more : {T : Type 0} (f : T → T) (xs now : List T) (k : ℕ) (x y : T) → now ≡ map f (take k xs) ++ drop k xs → slice_get now k ≡ Some x → y ≡ f x → slice_set now k y ≡ map f (take (k + 1) xs) ++ drop (k + 1) xs
changed_more f xs now k x y e h g = rw (e, g, add-one k) (one_changed f xs k x (sym (still_old f xs k) ∙ (ap (λ l. slice_get l k) (sym e) ∙ h)))

pub same_length : {T : Type 0} (f : T → T) (xs now : List T) (k : ℕ) → now ≡ map f (take k xs) ++ drop k xs → length now ≡ length xs
same_length f xs now k e = ap length e ∙ as_long f xs k
  where
    as_long : {T : Type 0} (f : T → T) (xs : List T) (k : ℕ) → length (map f (take k xs) ++ drop k xs) ≡ length xs
    as_long f [] zero = refl
    as_long f [] (suc k) = refl
    as_long f (y ∷ ys) zero = refl
    as_long f (y ∷ ys) (suc k) = ap suc (as_long f ys k)

-- what is kept of each element is kept of each changed one
pub each_changed : {T : Type 0} (f : T → T) (P : T → Type 0) → ((x : T) → P x → P (f x)) → (xs : List T) → ((k : ℕ) (x : T) → slice_get xs k ≡ Some x → P x) → (k : ℕ) (x : T) → slice_get (map f xs) k ≡ Some x → P x
each_changed f P keeps [] h k x at = absurd cc
each_changed f P keeps (y ∷ ys) h zero x at = subst P (some_eq at) (keeps y (h zero y refl))
each_changed f P keeps (y ∷ ys) h (suc k) x at = each_changed f P keeps ys (λ j z e. h (suc j) z e) k x at
