use Rattle.std.proofs.Common.{◌≡◌, ◌⊎◌, ◌+◌, ◌<◌, ◌≤◌, ◌^◌, ℕ, zero, suc, Bool, true, false, inl, inr, Some, List, [], ◌∷◌, ◌++◌, All, length, slice_get, slice_index_or, refl, sym, ap, ◌∙◌, subst, arith}
use Rattle.std.proofs.lemmas.Option.{slice_get-get_or}
use Rattle.std.proofs.lemmas.List.{length-append}
use Rattle.std.proofs.lemmas.List.Elements.{All-push}
use Rattle.cargo_core.specs.declared.ranges.Range.{Range}
use Rattle.cargo_core.specs.Ranges.{AreRanges, IsApart, IsOwner, is_within}

some_eq : {X : Type 0} {a b : X} → Some a ≡ Some b → a ≡ b
some_eq h = cc

-- an element of a list with one more at its end is one of the list, or the last
old_or_last : {X : Type 0} (xs : List X) (x y : X) (k : ℕ) → slice_get (xs ++ x ∷ []) k ≡ Some y → ((k < length xs) × (slice_get xs k ≡ Some y)) ⊎ ((k ≡ length xs) × (x ≡ y))
old_or_last [] x y zero at = inr (refl, some_eq at)
old_or_last [] x y (suc k) at = absurd cc
old_or_last (z ∷ xs) x y zero at = inl (omega arith, at)
old_or_last (z ∷ xs) x y (suc k) at = elim (old_or_last xs x y k at) [ inl h ↦ inl (let l = h.0 in omega arith, h.1) | inr h ↦ inr (ap suc h.0, h.1) ]

either_way : (b c : Bool) → (b ≡ true → c ≡ false) → c ≡ true → b ≡ false
either_way true c h e = let f : c ≡ false = h refl in absurd cc
either_way false c h e = refl

-- the range of a list is apart from the one that is added
module _ (xs : List Range) (x : Range) (h : AreRanges xs) (apart : All (IsApart x) xs) where
  from_new : (k : ℕ) (y : Range) → k < length xs → slice_get xs k ≡ Some y → IsApart x y
  from_new k y within at = subst (IsApart x) (some_eq (sym (slice_get-get_or xs k y within) ∙ at)) (apart k y within)

  apart_of : (k j : ℕ) (one other : Range) → ((k < length xs) × (slice_get xs k ≡ Some one)) ⊎ ((k ≡ length xs) × (x ≡ one)) → ((j < length xs) × (slice_get xs j ≡ Some other)) ⊎ ((j ≡ length xs) × (x ≡ other)) → (k ≡ j → ⊥) → IsApart one other
  apart_of k j one other (inl a) (inl b) ne = h.apart k j one other a.1 b.1 ne
  apart_of k j one other (inl a) (inr b) ne = λ address e. subst (λ r. is_within r address ≡ false) b.1 (either_way (is_within x address) (is_within one address) (from_new k one a.0 a.1 address) e)
  apart_of k j one other (inr a) (inl b) ne = subst (λ r. IsApart r other) a.1 (from_new j other b.0 b.1)
  apart_of k j one other (inr a) (inr b) ne = absurd (ne (a.0 ∙ sym b.0))

  pub added : x.base + x.size ≤ 2 ^ 62 → length xs < 2 ^ 32 → AreRanges (xs ++ x ∷ [])
  added end few = record {
    apart = λ k j one other a b ne. apart_of k j one other (old_or_last xs x one k a) (old_or_last xs x other j b) ne;
    ends = All-push (λ (r : Range). r.base + r.size ≤ 2 ^ 62) xs x h.ends end;
    few = let l = length-append xs (x ∷ []) in omega (arith, l);
  }

-- the client at a place whose range holds the address
pub owner_at : (xs : List Range) (address k : ℕ) (d : Range) → k < length xs → is_within (slice_index_or xs k d) address ≡ true → IsOwner xs address k
owner_at xs address k d there within = record { range = slice_index_or xs k d; there = slice_get-get_or xs k d there; within = within }
