-- Which buffers entries name, and the leases that are due.
use Rattle.std.proofs.Common.{◌≡◌, ◌≢◌, ◌⊎◌, ◌+◌, ◌*◌, ◌/◌, ◌==◌, ◌<◌, ◌≤◌, ℕ, zero, suc, Bool, true, false, cond, inl, inr, Some, List, [], ◌∷◌, ◌++◌, length, map, slice_get, refl, sym, ap, ◌∙◌, zero-add, add-zero, eq-eqb, ne_eqb, arith}
use Rattle.std.proofs.Math.Dec.{eqb}
use Rattle.std.proofs.lemmas.Bool.Decides.{eqb_tells}
use Rattle.std.proofs.lemmas.List.{map-append}
use Rattle.std.proofs.lemmas.List.Elements.{filter-append}
use native.Mathlib.Nat.{mul-div_cancel}
use Rattle.std.specs.List.{filter}
use Rattle.cargo_core.specs.Pages.{Paged}
use Rattle.cargo_core.specs.declared.item.Body.TheVariants as Carried
use Rattle.frame_core.specs.declared.mac.Mac.{Mac}
use Rattle.wire_core.specs.Bells.{bit}
use Rattle.wire_core.specs.Deeds.{Cargo}
use Rattle.wire_core.specs.Lists.{if_there}
use Rattle.class_expect.specs.NetExpect.Expecting.{is_for_client}
use Rattle.buffer_kit.specs.Entries.{addr_of, frame_of}
use Rattle.buffer_kit.specs.Pools.{given_entry}
use Rattle.buffer_kit.specs.declared.stock.Stock.{Stock}
use Rattle.net_virt_rx.specs.Sharing.{named, number_of, lease_entry, lease_of, leases_for, IsBuffer}

pub named_append : (base size b : ℕ) (xs ys : List Cargo) → named base size b (xs ++ ys) ≡ named base size b xs + named base size b ys
named_append base size b [] ys = sym (zero-add (named base size b ys))
named_append base size b (x ∷ xs) ys = let h = named_append base size b xs ys in omega (arith, h)

same_name : (base size n b : ℕ) → 0 < size → base + n * size ≡ base + b * size → n ≡ b
same_name base size n b some e =
    let f : n * size ≡ b * size = omega arith in
    sym (mul-div_cancel n some) ∙ (ap (λ m. m / size) f ∙ mul-div_cancel b some)

-- an address names the buffer that begins there, and no other
pub name_is : (a base size n b : ℕ) → 0 < size → a ≡ base + n * size → bit (a == base + b * size) ≡ bit (n == b)
name_is a base size n b some is = by_test (eqb_tells n b)
  where
    by_test : ((eqb n b ≡ true) × (n ≡ b)) ⊎ ((eqb n b ≡ false) × (n ≢ b)) → bit (a == base + b * size) ≡ bit (n == b)
    by_test (inl same) = ap bit (eq-eqb a (base + b * size) (is ∙ ap (λ m. base + m * size) same.1)) ∙ ap bit (sym same.0)
    by_test (inr other) = ap bit (ne_eqb a (base + b * size) (λ e. other.1 (same_name base size n b some (sym is ∙ e)))) ∙ ap bit (sym other.0)

pub bit_same : (n b : ℕ) → n ≡ b → bit (n == b) ≡ 1
bit_same n b e = ap bit (eq-eqb n b e)

pub bit_other : (n b : ℕ) → (n ≡ b → ⊥) → bit (n == b) ≡ 0
bit_other n b ne = ap bit (ne_eqb n b ne)

pub buffer_named : (s : Stock) (c : Cargo) (b : ℕ) → 0 < s.size → IsBuffer s c → named s.base s.size b (c ∷ []) ≡ bit (number_of c.1 == b)
buffer_named s (item, Carried.Page page) b some h = add-zero (bit (addr_of item == s.base + b * s.size)) ∙ name_is (addr_of item) s.base s.size page.no b some h.2
buffer_named s (item, Carried.Lease lease) b some h = absurd h
buffer_named s (item, Carried.Empty) b some h = absurd h

pub given_named : (base size b : ℕ) (page : Paged) → 0 < size → named base size b (given_entry base size page ∷ []) ≡ bit (page.no == b)
given_named base size b page some = add-zero (bit (base + page.no * size == base + b * size)) ∙ name_is (base + page.no * size) base size page.no b some refl

pub offset_named : (a size n b : ℕ) → 0 < size → a ≡ n * size → bit (a == 0 + b * size) ≡ bit (n == b)
offset_named a size n b some is = name_is a 0 size n b some (is ∙ sym (zero-add (n * size)))

pub lease_named : (size n b : ℕ) (bytes : List ℕ) → 0 < size → named 0 size b (lease_entry size n bytes ∷ []) ≡ bit (n == b)
lease_named size n b bytes some = add-zero (bit (n * size == 0 + b * size)) ∙ offset_named (n * size) size n b some refl

pub leases_append : (size : ℕ) (mac : Mac) (xs ys : List Cargo) → leases_for size mac (xs ++ ys) ≡ leases_for size mac xs ++ leases_for size mac ys
leases_append size mac xs ys = ap (map (lease_of size)) (filter-append (λ c. is_for_client mac (frame_of c)) xs ys) ∙ map-append (lease_of size) (filter (λ c. is_for_client mac (frame_of c)) xs) (filter (λ c. is_for_client mac (frame_of c)) ys)

pub leases_one : (size : ℕ) (mac : Mac) (c : Cargo) → leases_for size mac (c ∷ []) ≡ if_there (is_for_client mac (frame_of c)) (lease_of size c ∷ [])
leases_one size mac c = either (is_for_client mac (frame_of c))
  where
    either : (b : Bool) → map (lease_of size) (cond b (c ∷ []) []) ≡ if_there b (lease_of size c ∷ [])
    either true = refl
    either false = refl

pub named_if : (base size b : ℕ) (t : Bool) (x : Cargo) → named base size b (if_there t (x ∷ [])) ≡ cond t (named base size b (x ∷ [])) 0
named_if base size b true x = refl
named_if base size b false x = refl

-- the buffers of a pool are named once each
from_on : (base size from b : ℕ) (pages : List Paged) → 0 < size → ((k : ℕ) (p : Paged) → slice_get pages k ≡ Some p → p.no ≡ from + k) → ((b < from) → named base size b (map (given_entry base size) pages) ≡ 0) × ((from ≤ b) → b < from + length pages → named base size b (map (given_entry base size) pages) ≡ 1)
from_on base size from b [] some numbered = (λ l. refl, λ l m. absurd (omega (arith, l, m)))
from_on base size from b (p ∷ pages) some numbered =
    let here : p.no ≡ from = numbered zero p refl ∙ add-zero from in
    let one = given_named base size b p some in
    let parts = named_append base size b (given_entry base size p ∷ []) (map (given_entry base size) pages) in
    let rest = from_on base size (suc from) b pages some (λ k q at. numbered (suc k) q at ∙ (let e : from + suc k ≡ suc from + k = omega arith in e)) in (
      λ l. let other = bit_other p.no b (λ e. omega (arith, e, here, l)) in let r = rest.0 (omega (arith, l)) in omega (arith, one, parts, other, r),
      λ l m. by_test (eqb_tells p.no b) here one parts rest l m,
    )
  where
    by_test : ((eqb p.no b ≡ true) × (p.no ≡ b)) ⊎ ((eqb p.no b ≡ false) × (p.no ≢ b)) → p.no ≡ from → named base size b (given_entry base size p ∷ []) ≡ bit (p.no == b) → named base size b (given_entry base size p ∷ map (given_entry base size) pages) ≡ named base size b (given_entry base size p ∷ []) + named base size b (map (given_entry base size) pages)
        → ((b < suc from) → named base size b (map (given_entry base size) pages) ≡ 0) × ((suc from ≤ b) → b < suc from + length pages → named base size b (map (given_entry base size) pages) ≡ 1) → from ≤ b → b < from + length (p ∷ pages) → named base size b (given_entry base size p ∷ map (given_entry base size) pages) ≡ 1
    by_test (inl same) here one parts rest l m =
        let e = same.1 in
        let t = bit_same p.no b same.1 in
        let r = rest.0 (omega (arith, e, here)) in
        omega (arith, one, parts, t, r)
    by_test (inr other) here one parts rest l m =
        let t = bit_other p.no b other.1 in
        let above : suc from ≤ b = by_order (λ e. other.1 (here ∙ e)) l in
        let r = rest.1 above (omega (arith, m)) in
        omega (arith, one, parts, t, r)
      where
        by_order : (from ≡ b → ⊥) → from ≤ b → suc from ≤ b
        by_order ne le = omega arith

pub named_once : (base size b : ℕ) (pages : List Paged) → 0 < size → ((k : ℕ) (p : Paged) → slice_get pages k ≡ Some p → p.no ≡ k) → b < length pages → named base size b (map (given_entry base size) pages) ≡ 1
named_once base size b pages some numbered within = (from_on base size 0 b pages some (λ k p at. numbered k p at ∙ sym (zero-add k))).1 (omega arith) (omega (arith, within))
