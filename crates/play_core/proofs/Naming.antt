-- Entries are told by items and names.
use Rattle.std.proofs.Common.{◌≡◌, ◌≤◌, ℕ, List, [], ◌∷◌, ◌++◌, length, map, refl, sym, ap, ◌∙◌, arith}
use Rattle.std.proofs.lemmas.List.{length-append, length-map, map-append}
use Rattle.cargo_core.specs.Lists.{IsPrefix}
use Rattle.cargo_core.specs.declared.item.Item.{Item}
use Rattle.wire_core.specs.Deeds.{Cargo, Deed}
use Rattle.wire_core.specs.Lists.{Passed, put_by, with_deed}
use Rattle.wire_core.specs.Queues.{items_of}
use Rattle.play_core.specs.Names.{GrowsTo, Name, Named, Names, name_of, named, names_at, names_of, told}

named_told : (cs : List Cargo) (more : List Name) → named (items_of cs) (names_of cs ++ more) ≡ map told cs
named_told [] more = refl
named_told (c ∷ cs) more = ap (λ (xs : List Named). told c ∷ xs) (named_told cs more)

pub told_is : (entries : List Cargo) (names : Names) (n : ℕ) → IsPrefix (names_of entries) (names n) → named (items_of entries) (names n) ≡ map told entries
told_is entries names n h = ap (named (items_of entries)) (sym h.1) ∙ named_told entries h.0

-- the names of a beginning are a beginning of the names
pub names_begin : (xs ys : List Cargo) → IsPrefix xs ys → IsPrefix (names_of xs) (names_of ys)
names_begin xs ys a = (names_of a.0, sym (map-append (λ (c : Cargo). name_of c.1) xs a.0) ∙ ap names_of a.1)

pub taken_told : (passed : Passed) (n : ℕ) → IsPrefix (passed.taken n) (passed.sent n) → IsPrefix (names_of (passed.taken n)) (names_at passed n)
taken_told passed n h = names_begin (passed.taken n) (passed.sent n) h

pub names_grow : (passed : Passed) (d : Deed) → GrowsTo (names_at passed) (names_at (with_deed passed d))
names_grow passed d n = names_begin (passed.sent n) (passed.sent n ++ put_by d n) (put_by d n, refl)

-- names that are told behind what passed change nothing
named_more : (items : List Item) (ns more : List Name) → length items ≤ length ns → named items ns ≡ named items (ns ++ more)
named_more [] ns more few = refl
named_more (i ∷ items) [] more few = absurd (omega (arith, few))
named_more (i ∷ items) (n ∷ ns) more few = ap (λ (xs : List Named). (i, n) ∷ xs) (named_more items ns more (omega (arith, few)))

pub still_named : (names grown : Names) → GrowsTo names grown → (items : List Item) (n : ℕ) → length items ≤ length (names n) → named items (names n) ≡ named items (grown n)
still_named names grown grows items n few = named_more items (names n) (grows n).0 few ∙ ap (named items) (grows n).1

-- a beginning has a name for each entry
pub few_begin : (xs ys : List Cargo) → IsPrefix xs ys → length (items_of xs) ≤ length (names_of ys)
few_begin xs ys h =
    let a = length-map xs (λ (x : Cargo). x.0) in
    let b = length-map ys (λ (x : Cargo). name_of x.1) in
    let c = ap length h.1 in
    let e = length-append xs h.0 in
    omega (arith, a, b, c, e)
