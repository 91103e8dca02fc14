use Rattle.std.proofs.Common.{◌≡◌, ℕ, zero, suc, ◌+◌, List, [], ◌∷◌, drop, Some, None, slice_get, refl}
use Rattle.sdf_plan.specs.declared.plan.Region.{Region}
use Rattle.region_layout.specs.Bases.{round_up, base_at, free_after}

-- the next region of those that are left
pub drop_get : {T : Type 0} (xs : List T) (k : ℕ) (x : T) → slice_get xs k ≡ Some x → drop k xs ≡ x ∷ drop (suc k) xs
drop_get [] k x h = cc
drop_get (y ∷ ys) zero x h = cc
drop_get (y ∷ ys) (suc k) x h = drop_get ys k x h

-- a region at its place among those that are laid out from what is free on
base_of_given : (free : ℕ) (r : Region) (p : ℕ) → r.phys_addr ≡ Some p → base_at free r ≡ p
base_of_given free r p h = rw h refl

base_of_placed : (free : ℕ) (r : Region) → r.phys_addr ≡ None → base_at free r ≡ round_up free r.page_size
base_of_placed free r h = rw h refl

free_of_given : (free : ℕ) (r : Region) (p : ℕ) → r.phys_addr ≡ Some p → free_after free r ≡ free
free_of_given free r p h = rw h refl

free_of_placed : (free : ℕ) (r : Region) → r.phys_addr ≡ None → free_after free r ≡ round_up free r.page_size + r.size
free_of_placed free r h = rw h refl
