use Rattle.std.proofs.Common.{◌≡◌, ◌⊎◌, ◌==◌, ◌<◌, ◌≤◌, ℕ, zero, suc, Some, List, [], ◌∷◌, slice_get, refl, ap, arith, inl, inr}
use Rattle.wire_core.specs.declared.names.QueueRow.{QueueRow}
use Rattle.wire_core.specs.Bells.{bit}
use Rattle.wire_core.specs.Ends.{Role, Consumer, Producer}
use Rattle.wire_core.specs.Journal.{owner_of}
use Rattle.wire_core.specs.Marks.{ends_of, AreOwned}
use Rattle.wire_core.proofs.Sinces.{eqb_apart}
use Rattle.layout_laws.specs.RegionLaws.Budgets.Ends as budget
use Rattle.layout_laws.specs.RegionLaws.Budgets.Ends.{IsMostEnds}

-- counted in either order
same_ends : (a : ℕ) (rows : List QueueRow) → ends_of a rows ≡ budget.ends_of a rows
same_ends a [] = refl
same_ends a (row ∷ rows) = let h = same_ends a rows in omega (arith, h)

lt_or : (x y : ℕ) → (x < y) ⊎ (y ≤ x)
lt_or x zero = inr (omega arith)
lt_or zero (suc y) = inl (omega arith)
lt_or (suc x) (suc y) = elim (lt_or x y) [ inl a ↦ inl (omega (arith, a)) | inr b ↦ inr (omega (arith, b)) ]

-- whoever is none of the owners has no end
none_apart : (a : ℕ) (rows : List QueueRow) → ((n : ℕ) (row : QueueRow) → slice_get rows n ≡ Some row → (r : Role) → owner_of row r ≡ a → ⊥) → ends_of a rows ≡ 0
none_apart a [] h = refl
none_apart a (row ∷ rows) h =
    let c : bit (row.consumer.0 == a) ≡ 0 = ap bit (eqb_apart row.consumer.0 a (h 0 row refl Consumer)) in
    let p : bit (row.producer.0 == a) ≡ 0 = ap bit (eqb_apart row.producer.0 a (h 0 row refl Producer)) in
    let rest = none_apart a rows (λ n x at r. h (suc n) x at r) in
    omega (arith, c, p, rest)

-- no actor has more ends than the most
pub most_ends_have : (rows : List QueueRow) (count most : ℕ) → AreOwned rows count → IsMostEnds rows count most → (a : ℕ) → ends_of a rows ≤ most
most_ends_have rows count most owned is a = elim (lt_or a count) [
  | inl within ↦ let e = same_ends a rows in let l = is.within a within in omega (arith, e, l)
  | inr beyond ↦ let e = none_apart a rows (λ n row at r same. let l = owned n row at r in absurd (omega (arith, l, same, beyond))) in omega (arith, e)
]
