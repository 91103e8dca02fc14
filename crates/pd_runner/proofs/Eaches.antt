-- Lists side by side.
use Rattle.std.proofs.Common.{◌≡◌, ◌∙◌, ◌⊎◌, ⊎_elim, ◌+◌, refl, List, [], ◌∷◌, ◌++◌, append_assoc, ap, sym, subst, inl, inr, ℕ, zero, suc, ◌<◌, length, get_or, arith, Result, Ok, Err, IfOk, Option, Some, None, slice_get}
use Rattle.std.specs.Prelude.{IfNone}
use Rattle.std.proofs.lemmas.Option.{slice_get_read}
use Rattle.play_core.proofs.Lists.{some_is}
use Rattle.pd_runner.specs.Each.{Each, Every, AnyOf}

module _ {X Y : Type 0} (R : X → Y → Type 0) where
  pub each_snoc : (xs : List X) (ys : List Y) (x : X) (y : Y) → Each R xs ys → R x y → Each R (xs ++ x ∷ []) (ys ++ y ∷ [])
  each_snoc [] [] x y h r = (r, tt)
  each_snoc [] (b ∷ ys) x y h r = absurd h
  each_snoc (a ∷ xs) [] x y h r = absurd h
  each_snoc (a ∷ xs) (b ∷ ys) x y h r = (h.0, each_snoc xs ys x y h.1 r)

pub each_then : {X Y Z : Type 0} (R : X → Y → Type 0) (S : Y → Z → Type 0) (T : X → Z → Type 0) → ((x : X) (y : Y) (z : Z) → R x y → S y z → T x z) → (xs : List X) (ys : List Y) (zs : List Z) → Each R xs ys → Each S ys zs → Each T xs zs
each_then R S T f [] [] [] h k = tt
each_then R S T f [] [] (z ∷ zs) h k = absurd k
each_then R S T f [] (y ∷ ys) zs h k = absurd h
each_then R S T f (x ∷ xs) [] zs h k = absurd h
each_then R S T f (x ∷ xs) (y ∷ ys) [] h k = absurd k
each_then R S T f (x ∷ xs) (y ∷ ys) (z ∷ zs) h k = (f x y z h.0 k.0, each_then R S T f xs ys zs h.1 k.1)

pub every_at : {X : Type 0} (P : X → Type 0) (xs ys : List X) (x : X) → Every P (xs ++ x ∷ ys) → P x
every_at P [] ys x h = h.0
every_at P (a ∷ xs) ys x h = every_at P xs ys x h.1

-- what is known of the left list is known of the right
pub every_right : {X Y : Type 0} (R : X → Y → Type 0) (P : Y → Type 0) → ((x : X) (y : Y) → R x y → P y) → (xs : List X) (ys : List Y) → Each R xs ys → Every P ys
every_right R P f [] [] h = tt
every_right R P f [] (y ∷ ys) h = absurd h
every_right R P f (x ∷ xs) [] h = absurd h
every_right R P f (x ∷ xs) (y ∷ ys) h = (f x y h.0, every_right R P f xs ys h.1)

pub each_pushed : {X Y : Type 0} (R : X → Y → Type 0) (xs : List X) (ys zs : List Y) (x : X) (y : Y) → zs ≡ ys ++ y ∷ [] → Each R xs ys → R x y → Each R (xs ++ x ∷ []) zs
each_pushed R xs ys zs x y is h r = subst (λ (z : List _). Each R (xs ++ x ∷ []) z) (sym is) (each_snoc R xs ys x y h r)

-- one more of a list was yielded
pub yields_on : {X : Type 0} (front : List X) (x : X) (rest more all : List X) → rest ≡ x ∷ more → front ++ rest ≡ all → front ++ x ∷ [] ++ more ≡ all
yields_on front x rest more all is h = append_assoc front (x ∷ []) more ∙ (ap (λ (z : List _). front ++ z) (sym is) ∙ h)

pub ok_then : {V E : Type 0} (P Q : V → Type 0) → ((v : V) → P v → Q v) → (r : Result V E) → IfOk r P → IfOk r Q
ok_then P Q f (Ok v) h = f v h
ok_then P Q f (Err e) h = h

pub any_at : {X : Type 0} (P : X → Type 0) (xs : List X) (i : ℕ) (x : X) → i < length xs → x ≡ get_or xs i x → P x → AnyOf P xs
any_at P [] i x below is h = absurd (omega (arith, below))
any_at P (a ∷ xs) zero x below is h = inl (subst P is h)
any_at P (a ∷ xs) (suc i) x below is h = inr (any_at P xs i x (omega (arith, below)) is h)

pub every_of : {X : Type 0} (P : X → Type 0) (xs : List X) → ((n : ℕ) (x : X) → slice_get xs n ≡ Some x → P x) → Every P xs
every_of P [] each = tt
every_of P (x ∷ xs) each = (each 0 x refl, every_of P xs (λ n y at. each (suc n) y at))

pub every_get : {X : Type 0} (P : X → Type 0) (xs : List X) → Every P xs → (n : ℕ) (x : X) → slice_get xs n ≡ Some x → P x
every_get P [] h n x at = cc
every_get P (a ∷ xs) h zero x at = subst P (some_is at) h.0
every_get P (a ∷ xs) h (suc n) x at = every_get P xs h.1 n x at

-- what holds of all before a place, and of what stands there, holds of all up to it
pub up_to : {X : Type 0} (P : X → Type 0) (xs : List X) (i : ℕ) (x : X) → x ≡ get_or xs i x → i < length xs → ((n : ℕ) (y : X) → n < i → slice_get xs n ≡ Some y → P y) → P x → (n : ℕ) (y : X) → n < i + 1 → slice_get xs n ≡ Some y → P y
up_to P xs i x is below before here n y lt at = by (lt_or_is n i lt)
  where
    lt_or_is : (n i : ℕ) → n < i + 1 → (n < i) ⊎ (n ≡ i)
    lt_or_is zero zero lt = inr refl
    lt_or_is zero (suc i) lt = inl (omega arith)
    lt_or_is (suc n) zero lt = absurd (omega (arith, lt))
    lt_or_is (suc n) (suc i) lt = ⊎_elim (λ h. inl (omega (arith, h))) (λ h. inr (ap suc h)) (lt_or_is n i (omega (arith, lt)))

    by : (n < i) ⊎ (n ≡ i) → P y
    by (inl less) = before n y less at
    by (inr same) = subst P (some_is (sym (slice_get_read xs (length xs) i x refl below is) ∙ (ap (slice_get xs) (sym same) ∙ at))) here

pub none_then : {V : Type 0} (P : Type 0) (r : Option V) → IfNone r P → r ≡ None → P
none_then P None h is = h
none_then P (Some v) h is = cc
