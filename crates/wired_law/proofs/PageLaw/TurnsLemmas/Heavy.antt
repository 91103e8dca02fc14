-- A good descriptor at an address carries the page of that address.
use Rattle.std.proofs.Common.{◌≡◌, ◌⊎◌, ◌+◌, ◌*◌, ◌==◌, ◌&&◌, ◌≤◌, ℕ, Bool, true, false, not, cond, if◌then◌else◌, List, [], ◌∷◌, ◌++◌, map, refl, sym, ap, ◌∙◌, subst, arith, inl, inr, eq-eqb}
use Rattle.std.specs.List.{filter}
use Rattle.std.proofs.lemmas.Bool.{cases_eq, and_parts, eqb-true}
use Rattle.cargo_core.specs.declared.item.Body.TheVariants as Carried
use Rattle.wire_core.specs.Bells.{bit}
use Rattle.wire_core.specs.Deeds.{Cargo}
use Rattle.buffer_kit.specs.Entries.{addr_of}
use Rattle.net_virt_tx.specs.declared.descriptors.Sender.{Sender}
use Rattle.net_virt_tx.specs.Serving.{is_good_of, is_own, own_of}
use Rattle.net_virt_tx.specs.Descriptors.{to_client}
use Rattle.net_virt_tx.specs.Clients.{at_address, number_of}
use Rattle.net_virt_tx.proofs.Counting.{bit_other, same_number}
use Rattle.buffer_kit.specs.Conserving.{Count, weight, weighed, the_page}
use Rattle.buffer_kit.proofs.Conserving.{weighed-map, weighed-split}
use Rattle.wired_law.specs.PageLaw.Paths.{AreGood}

pub filter_good : (s : Sender) (xs : List Cargo) → AreGood s (filter (is_good_of s) xs)
filter_good s [] = tt
filter_good s (x ∷ xs) = by (is_good_of s x) refl (filter_good s xs)
  where
    by : (t : Bool) → is_good_of s x ≡ t → AreGood s (filter (is_good_of s) xs) → AreGood s (cond t (x ∷ filter (is_good_of s) xs) (filter (is_good_of s) xs))
    by true e rest = (e, rest)
    by false e rest = rest

pub good_first : (s : Sender) (xs ys : List Cargo) → AreGood s (xs ++ ys) → AreGood s xs
good_first s [] ys h = tt
good_first s (x ∷ xs) ys h = (h.0, good_first s xs ys h.1)

pub good_last : (s : Sender) (xs ys : List Cargo) → AreGood s (xs ++ ys) → AreGood s ys
good_last s [] ys h = h
good_last s (x ∷ xs) ys h = good_last s xs ys h.1

abbrev pick : Bool → Bool → ℕ
pick a b = if a && b then 1 else 0

-- the page of a good one
pub one_weight : (s : Sender) → 1 ≤ s.size → (x : Cargo) → is_good_of s x ≡ true → (b : ℕ) → addr_of x.0 ≡ b * s.size → weight (the_page s.pool b) x.1 ≡ 1
one_weight s sized (item, Carried.Page page) h b at =
    let one = and_parts _ _ h in
    let two = and_parts _ _ one.1 in
    let three = and_parts _ _ two.1 in
    let begins = eqb-true (addr_of item) (page.no * s.size) three.0 in
    let same : page.no ≡ b = same_number s.size page.no b sized (sym begins ∙ at) in
    ap (λ t. pick t (page.no == b)) one.0 ∙ ap (pick true) (eq-eqb page.no b same)
one_weight s sized (item, Carried.Lease lease) h b at = absurd cc
one_weight s sized (item, Carried.Empty) h b at = absurd cc

-- so there are no more at an address than pages of it
pub heavy : (s : Sender) → 1 ≤ s.size → (b : ℕ) (xs : List Cargo) → AreGood s xs → at_address (b * s.size) xs ≤ weighed (the_page s.pool b) xs
heavy s sized b [] h = omega arith
heavy s sized b (x ∷ xs) h = by (cases_eq (addr_of x.0) (b * s.size)) (heavy s sized b xs h.1)
  where
    by : (addr_of x.0 ≡ b * s.size) ⊎ (addr_of x.0 ≡ b * s.size → ⊥) → at_address (b * s.size) xs ≤ weighed (the_page s.pool b) xs → at_address (b * s.size) (x ∷ xs) ≤ weighed (the_page s.pool b) (x ∷ xs)
    by (inl e) rest =
        let one = one_weight s sized x h.0 b e in
        let bit_ : bit (addr_of x.0 == b * s.size) ≡ 1 = ap bit (eq-eqb (addr_of x.0) (b * s.size) e) in
        omega (arith, one, bit_, rest)
    by (inr ne) rest = let none = bit_other (addr_of x.0) (b * s.size) ne in omega (arith, none, rest)

-- what a client owns of some entries weighs no more than they
pub own_light : (f : Count) (s : Sender) (xs : List Cargo) → weighed f (own_of s xs) ≤ weighed f xs
own_light f s xs =
    let moved = weighed-map f (to_client s.base) (λ x. refl) (filter (is_own s) xs) in
    let split = weighed-split f (is_own s) xs in
    omega (arith, moved, split)
