use Rattle.std.proofs.Common.{◌≡◌, ◌≢◌, ◌⊎◌, ◌+◌, ◌++◌, ◌≤◌, ℕ, zero, suc, true, false, nat_lt, Some, List, [], ◌∷◌, length, map, flat_map, slice_get, length-append, refl, sym, ap, ◌∙◌, subst, arith, inl, inr}
use Rattle.std.proofs.Math.Dec.{eqb}
use Rattle.std.proofs.lemmas.Bool.Decides.{eqb_tells}
use Rattle.std.proofs.lemmas.List.{append-nil}
use Rattle.cargo_core.specs.Lists.{IsPrefix}
use Rattle.cargo_core.specs.declared.item.Item.{Item}
use Rattle.play_core.specs.Moved.{Moved, with_put}
use Rattle.play_core.specs.Wants.{Want, seat_of}
use Rattle.play_core.proofs.Lists.{some_is}
use Rattle.play_core.proofs.Puts.{put_here, put_beside, copy_more}
use Rattle.net_law.specs.Parts.Rows.{sized_items}

abbrev pub twice : ℕ → ℕ
twice zero = zero
twice (suc k) = suc (suc (twice k))

twice_is : (k : ℕ) → twice k ≡ k + k
twice_is zero = refl
twice_is (suc k) = let rest = twice_is k in omega (arith, rest)

pub twice_same : (j k : ℕ) → twice j ≡ twice k → j ≡ k
twice_same j k same = omega (arith, same, twice_is j, twice_is k)

-- where two of each stand one after another
module _ {X S : Type 0} (f g : X → S) where
  pub pair_first : (xs : List X) (k : ℕ) (x : X) → slice_get xs k ≡ Some x → slice_get (flat_map (λ y. f y ∷ g y ∷ []) xs) (twice k) ≡ Some (f x)
  pair_first [] k x at = cc
  pair_first (y ∷ xs) zero x at = ap (λ z. Some (f z)) (some_is at)
  pair_first (y ∷ xs) (suc k) x at = pair_first xs k x at

  pub pair_second : (xs : List X) (k : ℕ) (x : X) → slice_get xs k ≡ Some x → slice_get (flat_map (λ y. f y ∷ g y ∷ []) xs) (suc (twice k)) ≡ Some (g x)
  pair_second [] k x at = cc
  pair_second (y ∷ xs) zero x at = ap (λ z. Some (g z)) (some_is at)
  pair_second (y ∷ xs) (suc k) x at = pair_second xs k x at

pub pair_seats : {X : Type 0} (f g : X → Want) (xs : List X) → map seat_of (flat_map (λ y. f y ∷ g y ∷ []) xs) ≡ flat_map (λ y. seat_of (f y) ∷ seat_of (g y) ∷ []) xs
pair_seats f g [] = refl
pair_seats f g (x ∷ xs) = ap (λ l. seat_of (f x) ∷ seat_of (g x) ∷ l) (pair_seats f g xs)

pub flat_alike : {X Y : Type 0} (f g : X → List Y) (xs : List X) → ((k : ℕ) (x : X) → slice_get xs k ≡ Some x → f x ≡ g x) → flat_map f xs ≡ flat_map g xs
flat_alike f g [] same = refl
flat_alike f g (x ∷ xs) same = ap (λ l. l ++ flat_map f xs) (same 0 x refl) ∙ ap (λ l. g x ++ l) (flat_alike f g xs (λ k y at. same (suc k) y at))

-- outputs each of which goes through a list of its own
module _ {X : Type 0} (xs : List X) (to : X → ℕ) (all : X → List Item) where
  abbrev pub EachBegins : Moved → Type 0
  EachBegins m = (k : ℕ) (x : X) → slice_get xs k ≡ Some x → IsPrefix (m.sent (to x)) (all x)

  abbrev pub EachApart : Type 0
  EachApart = (j k : ℕ) (x y : X) → slice_get xs j ≡ Some x → slice_get xs k ≡ Some y → to x ≡ to y → j ≡ k

  pub each_after : (m : Moved) → EachBegins m → EachApart → (k : ℕ) (x : X) → slice_get xs k ≡ Some x → (item : Item) → IsPrefix ((with_put m (to x) item).sent (to x)) (all x) → EachBegins (with_put m (to x) item)
  each_after m begins apart k x at item more j y is = by (eqb_tells (to x) (to y))
    where
      by : ((eqb (to x) (to y) ≡ true) × (to x ≡ to y)) ⊎ ((eqb (to x) (to y) ≡ false) × (to x ≢ to y)) → IsPrefix ((with_put m (to x) item).sent (to y)) (all y)
      by (inl e) =
          let place : k ≡ j = apart k j x y at is e.1 in
          let same : x ≡ y = some_is (sym at ∙ (ap (slice_get xs) place ∙ is)) in
          subst (λ z. IsPrefix ((with_put m (to x) item).sent (to z)) (all z)) same more
      by (inr e) = subst (λ l. IsPrefix l (all y)) (sym (put_beside m (to x) item (to y) e.1)) (begins j y is)

  pub each_owed : (m : Moved) → EachBegins m → EachApart → (k : ℕ) (x : X) → slice_get xs k ≡ Some x → nat_lt (length (m.sent (to x))) (length (all x)) ≡ true → (item : Item) × EachBegins (with_put m (to x) item)
  each_owed m begins apart k x at lt =
      let more = copy_more m (to x) (all x) (begins k x at) lt in
      (more.0, each_after m begins apart k x at more.0 more.1)

-- four lists told otherwise
pub carry : (P : List Item → List Item → List Item → List Item → Type 0) (a b c d a_ b_ c_ d_ : List Item) → a ≡ a_ → b ≡ b_ → c ≡ c_ → d ≡ d_ → P a b c d → P a_ b_ c_ d_
carry P a b c d a_ b_ c_ d_ e f g h p = subst (λ x. P x b_ c_ d_) e (subst (λ x. P a x c_ d_) f (subst (λ x. P a b x d_) g (subst (λ x. P a b c x) h p)))

-- what was put is kept by one more put, wherever it goes
pub put_grows : (m : Moved) (n : ℕ) (x : Item) (k : ℕ) → IsPrefix (m.sent k) ((with_put m n x).sent k)
put_grows m n x k = by (eqb_tells n k)
  where
    by : ((eqb n k ≡ true) × (n ≡ k)) ⊎ ((eqb n k ≡ false) × (n ≢ k)) → IsPrefix (m.sent k) ((with_put m n x).sent k)
    by (inl e) = subst (λ j. IsPrefix (m.sent j) ((with_put m n x).sent j)) e.1 (x ∷ [], sym (put_here m n x))
    by (inr e) = ([], append-nil (m.sent k) ∙ sym (put_beside m n x k e.1))

pub put_length : (m : Moved) (n : ℕ) (x : Item) → length ((with_put m n x).sent n) ≡ length (m.sent n) + 1
put_length m n x = ap length (put_here m n x) ∙ length-append (m.sent n) (x ∷ [])

pub sized_length : (ns : List ℕ) (items : List Item) → length items ≤ length ns → length (sized_items ns items) ≡ length items
sized_length [] [] le = refl
sized_length [] (x ∷ items) le = absurd (omega (arith, le))
sized_length (n ∷ ns) [] le = refl
sized_length (n ∷ ns) (x ∷ items) le = let rest = sized_length ns items (omega (arith, le)) in omega (arith, rest)
