-- A list whose elements each have one owner is a merge of what each owner has of it.
use Rattle.std.proofs.Common.{◌≡◌, ℕ, zero, suc, Bool, true, false, cond, Some, List, [], ◌∷◌, map, slice_get, slice_set, refl, sym, ap, ◌∙◌, subst, arith}
use Rattle.std.specs.List.{filter}
use Rattle.cargo_core.specs.Lists.{Merge, merge_none, merge_next}
use Rattle.play_core.proofs.Lists.{some_is, map_get}

set_one : {X U : Type 0} (f g : X → U) (os : List X) (k : ℕ) (o : X) → slice_get os k ≡ Some o → ((j : ℕ) (p : X) → slice_get os j ≡ Some p → (k ≡ j → ⊥) → f p ≡ g p) → slice_set (map f os) k (g o) ≡ map g os
set_one f g [] k o at same = absurd cc
set_one {X} f g (p ∷ os) zero o at same = ap (λ y. y ∷ map f os) (ap g (sym (some_is at))) ∙ ap (λ ys. g p ∷ ys) (rest os (λ j q there. same (suc j) q there (λ e. absurd cc)))
  where
    rest : (qs : List X) → ((j : ℕ) (q : X) → slice_get qs j ≡ Some q → f q ≡ g q) → map f qs ≡ map g qs
    rest [] h = refl
    rest (q ∷ qs) h = ap (λ y. y ∷ map f qs) (h zero q refl) ∙ ap (λ ys. g q ∷ ys) (rest qs (λ j u there. h (suc j) u there))
set_one f g (p ∷ os) (suc k) o at same = ap (λ y. y ∷ slice_set (map f os) k (g o)) (same zero p refl (λ e. absurd cc)) ∙ ap (λ ys. g p ∷ ys) (set_one f g os k o at (λ j q there ne. same (suc j) q there (λ e. ne (let s : suc k ≡ suc j = e in omega (arith, s)))))

module _ {X T : Type 0} (test : X → T → Bool) where
  abbrev pub owned : List T → X → List T
  owned ts o = filter (test o) ts

  -- an element is of just one of these
  abbrev pub HasOwner : List X → T → Type 0
  HasOwner os t = (k : ℕ) × (o : X) × (slice_get os k ≡ Some o) × (test o t ≡ true) × ((j : ℕ) (p : X) → slice_get os j ≡ Some p → (k ≡ j → ⊥) → test p t ≡ false)

  none_owned : (os : List X) (k : ℕ) (l : List T) → slice_get (map (owned []) os) k ≡ Some l → l ≡ []
  none_owned [] k l at = absurd cc
  none_owned (o ∷ os) zero l at = sym (some_is at)
  none_owned (o ∷ os) (suc k) l at = none_owned os k l at

  pub split : (os : List X) (ts : List T) → ((j : ℕ) (t : T) → slice_get ts j ≡ Some t → HasOwner os t) → Merge (map (owned ts) os) ts
  split os [] h = merge_none (map (owned []) os) (λ k l at. none_owned os k l at)
  split os (t ∷ ts) h = by_owner (h zero t refl) (split os ts (λ j u at. h (suc j) u at))
    where
      by_owner : HasOwner os t → Merge (map (owned ts) os) ts → Merge (map (owned (t ∷ ts)) os) (t ∷ ts)
      by_owner (k, o, at, own, others) rest =
          merge_next (map (owned (t ∷ ts)) os) k t (owned ts o) ts (map_get (owned (t ∷ ts)) os k o at ∙ ap (λ b. Some (cond b (t ∷ filter (test o) ts) (filter (test o) ts))) own)
          (subst (λ ls. Merge ls ts) (sym (set_one (owned (t ∷ ts)) (owned ts) os k o at (λ j p there ne. ap (λ b. cond b (t ∷ filter (test p) ts) (filter (test p) ts)) (others j p there ne)))) rest)
