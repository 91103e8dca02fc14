use Rattle.std.proofs.Common.{◌≡◌, ◌≤◌, ℕ, suc, List, [], ◌∷◌, ◌++◌, Some, length, map, slice_get, refl, ap, ◌∙◌, arith}
use Rattle.wire_core.specs.Deeds.{Cargo}
use Rattle.buffer_kit.specs.Entries.{filled, all_filled}

some_eq : {X : Type 0} {a b : X} → Some a ≡ Some b → a ≡ b
some_eq h = cc

pub no_entries : (fs : List (List ℕ)) → all_filled fs [] ≡ []
no_entries [] = refl
no_entries (f ∷ fs) = refl

-- one entry more is filled with the bytes of its place
pub filled_more : (fs : List (List ℕ)) (cs : List Cargo) (f : List ℕ) (c : Cargo) → slice_get fs (length cs) ≡ Some f → all_filled fs (cs ++ c ∷ []) ≡ all_filled fs cs ++ filled f c ∷ []
filled_more [] cs f c at = cc
filled_more (g ∷ fs) [] f c at = ap (λ xs. filled g c ∷ xs) (no_entries fs) ∙ ap (λ (x : List ℕ). filled x c ∷ []) (some_eq at)
filled_more (g ∷ fs) (d ∷ cs) f c at = ap (λ xs. filled g d ∷ xs) (filled_more fs cs f c at)

-- bytes that no entry needs yet change nothing
pub filled_still : (fs gs : List (List ℕ)) (cs : List Cargo) → length cs ≤ length fs → all_filled (fs ++ gs) cs ≡ all_filled fs cs
filled_still [] [] [] few = refl
filled_still [] (g ∷ gs) [] few = refl
filled_still [] gs (c ∷ cs) few = absurd (omega (arith, few))
filled_still (f ∷ fs) gs [] few = refl
filled_still (f ∷ fs) gs (c ∷ cs) few = ap (λ xs. filled f c ∷ xs) (filled_still fs gs cs (omega (arith, few)))

-- as many are filled as there are
pub filled_length : (fs : List (List ℕ)) (cs : List Cargo) → length cs ≤ length fs → length (all_filled fs cs) ≡ length cs
filled_length [] [] few = refl
filled_length [] (c ∷ cs) few = absurd (omega (arith, few))
filled_length (f ∷ fs) [] few = refl
filled_length (f ∷ fs) (c ∷ cs) few = ap suc (filled_length fs cs (omega (arith, few)))

-- the bytes of the last one
pub last_at : {X Y : Type 0} (f : X → Y) (xs : List X) (x : X) → slice_get (map f (xs ++ x ∷ [])) (length xs) ≡ Some (f x)
last_at f [] x = refl
last_at f (y ∷ xs) x = last_at f xs x
