use Rattle.std.proofs.Common.{◌≡◌, ◌+◌, ◌*◌, ◌/◌, ◌%◌, ◌<◌, ◌≤◌, ◌==◌, ◌&&◌, ◌⊎◌, inl, inr, not, nat_le, ℕ, zero, suc, Bool, true, false, Some, None, if◌then◌else◌, List, [], ◌∷◌, get_or, slice_get, refl, sym, ap, subst, arith}
use Rattle.std.specs.List.{list_any}
use Rattle.std.proofs.lemmas.Bool.{and_parts, and_from, not-true, not_from_false, leb-true, le-leb, eqb-true, eq-eqb, false_from_ne_true, both_ways, cases_order, or_parts, or_from, ne_eqb}
use Rattle.blk_mbr.specs.declared.entry.Entry.{Entry}
use Rattle.blk_mbr.specs.declared.part.Part.{Part}
use Rattle.blk_mbr.specs.Sectors.{entry_of, entries_of, is_signed, is_used, is_protective, is_extended}
use Rattle.blk_mbr.specs.Partitions.{Holds, IsPartition, are_apart, blocks_of, do_clash, end_of, is_table, is_usable, part_of}
use Rattle.blk_mbr.proofs.Apart.{clash_from, clash_to, apart_to, apart_from}

-- what is made of four numbers, at one of them
pub of_four : {X : Type 0} (f : ℕ → X) (n : ℕ) (d : X) → n < 4 → get_or (f 0 ∷ f 1 ∷ f 2 ∷ f 3 ∷ []) n d ≡ f n
of_four f zero d h = refl
of_four f (suc zero) d h = refl
of_four f (suc (suc zero)) d h = refl
of_four f (suc (suc (suc zero))) d h = refl
of_four f (suc (suc (suc (suc n)))) d h = absurd (omega (arith, h))

there_of_four : {X : Type 0} (f : ℕ → X) (n : ℕ) → n < 4 → slice_get (f 0 ∷ f 1 ∷ f 2 ∷ f 3 ∷ []) n ≡ Some (f n)
there_of_four f zero h = refl
there_of_four f (suc zero) h = refl
there_of_four f (suc (suc zero)) h = refl
there_of_four f (suc (suc (suc zero))) h = refl
there_of_four f (suc (suc (suc (suc n)))) h = absurd (omega (arith, h))

one_of_four : {X : Type 0} (f : ℕ → X) (n : ℕ) (x : X) → slice_get (f 0 ∷ f 1 ∷ f 2 ∷ f 3 ∷ []) n ≡ Some x → (n < 4) × (f n ≡ x)
one_of_four f zero x h = (omega arith, cc)
one_of_four f (suc zero) x h = (omega arith, cc)
one_of_four f (suc (suc zero)) x h = (omega arith, cc)
one_of_four f (suc (suc (suc zero))) x h = (omega arith, cc)
one_of_four f (suc (suc (suc (suc n)))) x h = cc

-- no entry passes a test
any_to : (p : Entry → Bool) (es : List Entry) (k : ℕ) (f : Entry) → list_any p es ≡ false → slice_get es k ≡ Some f → p f ≡ false
any_to p [] k f h at = cc
any_to p (e ∷ es) zero f h at = subst (λ (x : Entry). p x ≡ false) (some_eq at) (or_parts (p e) (list_any p es) h).0
  where
    some_eq : {a b : Entry} → Some a ≡ Some b → a ≡ b
    some_eq t = cc
any_to p (e ∷ es) (suc k) f h at = any_to p es k f (or_parts (p e) (list_any p es) h).1 at

any_from : (p : Entry → Bool) (es : List Entry) → ((k : ℕ) (f : Entry) → slice_get es k ≡ Some f → p f ≡ false) → list_any p es ≡ false
any_from p [] h = refl
any_from p (e ∷ es) h = or_from (p e) (list_any p es) (h zero e refl) (any_from p es (λ k f at. h (suc k) f at))

given_to : (t u : Bool) (b p : Part) → (if t && u then Some b else None) ≡ Some p → (t ≡ true) × (u ≡ true) × (b ≡ p)
given_to true true b p h = (refl, refl, cc)
given_to true false b p h = cc
given_to false u b p h = cc

given_from : (t u : Bool) (b p : Part) → t ≡ true → u ≡ true → b ≡ p → (if t && u then Some b else None) ≡ Some p
given_from true true b p g h e = ap Some e
given_from true false b p g h e = cc
given_from false u b p g h e = cc

same_part : (b p : Part) → b.first_block ≡ p.first_block → b.blocks ≡ p.blocks → b ≡ p
same_part b p f g = λ i. record { first_block = f i; blocks = g i }

module _ (sector : List ℕ) where
  abbrev entry : ℕ → Entry
  entry = entry_of sector

  abbrev rest : Bool
  rest = not (list_any is_protective (entries_of sector)) && are_apart (entries_of sector)

  -- what a table that can be trusted has
  signed_to : is_table sector ≡ true → is_signed sector ≡ true
  signed_to h = (and_parts (is_signed sector) rest h).0

  plain_to : is_table sector ≡ true → (k : ℕ) → k < 4 → (entry k).kind ≡ 238 → ⊥
  plain_to h k few is =
      let none = not-true (list_any is_protective (entries_of sector)) (and_parts (not (list_any is_protective (entries_of sector))) (are_apart (entries_of sector)) (and_parts (is_signed sector) rest h).1).0 in
      both_ways (is_protective (entry k)) (any_to is_protective (entries_of sector) k (entry k) none (there_of_four entry k few)) (eq-eqb (entry k).kind 238 is)

  apart_now : is_table sector ≡ true → are_apart (entries_of sector) ≡ true
  apart_now h = (and_parts (not (list_any is_protective (entries_of sector))) (are_apart (entries_of sector)) (and_parts (is_signed sector) rest h).1).1

  apart_in : is_table sector ≡ true → (j k s : ℕ) → j < 4 → k < 4 → (j ≡ k → ⊥) → is_used (entry j) ≡ true → is_used (entry k) ≡ true → Holds (entry j) s → Holds (entry k) s → ⊥
  apart_in h j k s few less ne u v a b = by (cases_order j k)
    where
      by : (j ≡ k) ⊎ ((j < k) ⊎ (k < j)) → ⊥
      by (inl e) = ne e
      by (inr (inl lt)) = both_ways (do_clash (entry j) (entry k)) (apart_to (entries_of sector) j k (entry j) (entry k) (apart_now h) (there_of_four entry j few) (there_of_four entry k less) lt) (clash_from (entry j) (entry k) s u v a b)
      by (inr (inr lt)) = both_ways (do_clash (entry k) (entry j)) (apart_to (entries_of sector) k j (entry k) (entry j) (apart_now h) (there_of_four entry k less) (there_of_four entry j few) lt) (clash_from (entry k) (entry j) s v u b a)

  -- and a table that has it can be trusted
  trusted : is_signed sector ≡ true → ((k : ℕ) → k < 4 → (entry k).kind ≡ 238 → ⊥) → ((j k s : ℕ) → j < 4 → k < 4 → (j ≡ k → ⊥) → is_used (entry j) ≡ true → is_used (entry k) ≡ true → Holds (entry j) s → Holds (entry k) s → ⊥) → is_table sector ≡ true
  trusted signed plain apart = and_from (is_signed sector) rest signed (and_from (not (list_any is_protective (entries_of sector))) (are_apart (entries_of sector)) (not_from_false (list_any is_protective (entries_of sector)) (any_from is_protective (entries_of sector) none)) (apart_from (entries_of sector) no_clash))
    where
      none : (k : ℕ) (f : Entry) → slice_get (entries_of sector) k ≡ Some f → is_protective f ≡ false
      none k f at = let w = one_of_four entry k f at in subst (λ (x : Entry). is_protective x ≡ false) w.1 (ne_eqb (entry k).kind 238 (plain k w.0))

      no_clash : (j k : ℕ) (e f : Entry) → slice_get (entries_of sector) j ≡ Some e → slice_get (entries_of sector) k ≡ Some f → j < k → do_clash e f ≡ false
      no_clash j k e f at to lt =
          let w = one_of_four entry j e at in
          let v = one_of_four entry k f to in
          false_from_ne_true (do_clash e f) (λ t. let c = clash_to (entry j) (entry k) (subst (λ (y : Entry). do_clash (entry j) y ≡ true) (sym v.1) (subst (λ (x : Entry). do_clash x f ≡ true) (sym w.1) t)) in apart j k c.0 w.0 v.0 (λ (q : j ≡ k). absurd (omega (arith, q, lt))) c.1 c.2 c.3 c.4)

-- what an entry that can be used has, and one that has it can be used
module _ (disk : ℕ) (e : Entry) where
  abbrev begins : Bool
  begins = e.first % 8 == 0 && nat_le (end_of e) disk

  abbrev late : Bool
  late = nat_le 8 e.first && begins

  usable_to : is_usable disk e ≡ true → (is_used e ≡ true) × (is_extended e ≡ false) × (8 ≤ e.first) × (e.first % 8 ≡ 0) × (end_of e ≤ disk)
  usable_to h =
      let one = and_parts (is_used e) (not (is_extended e) && late) h in
      let two = and_parts (not (is_extended e)) late one.1 in
      let three = and_parts (nat_le 8 e.first) begins two.1 in
      let four = and_parts (e.first % 8 == 0) (nat_le (end_of e) disk) three.1 in
      (one.0, not-true (is_extended e) two.0, leb-true 8 e.first three.0, eqb-true (e.first % 8) 0 four.0, leb-true (end_of e) disk four.1)

  usable_from : is_used e ≡ true → is_extended e ≡ false → 8 ≤ e.first → e.first % 8 ≡ 0 → end_of e ≤ disk → is_usable disk e ≡ true
  usable_from u x l m d = and_from (is_used e) (not (is_extended e) && late) u (and_from (not (is_extended e)) late (not_from_false (is_extended e) x) (and_from (nat_le 8 e.first) begins (le-leb 8 e.first l) (and_from (e.first % 8 == 0) (nat_le (end_of e) disk) (eq-eqb (e.first % 8) 0 m) (le-leb (end_of e) disk d))))

pub law_to : (sector : List ℕ) (disk n : ℕ) (part : Part) → part_of sector disk n ≡ Some part → IsPartition sector disk n part
law_to sector disk n part h =
    let w = given_to (is_table sector) (is_usable disk (entry_of sector n)) (blocks_of (entry_of sector n)) part h in
    let u = usable_to disk (entry_of sector n) w.1 in
    let first : (entry_of sector n).first / 8 ≡ part.first_block = ap (λ (p : Part). p.first_block) w.2 in
    let blocks : (entry_of sector n).sectors / 8 ≡ part.blocks = ap (λ (p : Part). p.blocks) w.2 in
    let even : (entry_of sector n).first % 8 ≡ 0 = u.3 in
    record {
      signed = signed_to sector w.0;
      unprotected = plain_to sector w.0;
      apart = apart_in sector w.0;
      used = u.0;
      plain = λ t. both_ways (is_extended (entry_of sector n)) u.1 t;
      after_first = u.2;
      begins = divided (entry_of sector n).first part.first_block even first;
      whole = rest_of (entry_of sector n).sectors part.blocks blocks;
      on_disk = u.4;
    }
  where
    divided : (a b : ℕ) → a % 8 ≡ 0 → a / 8 ≡ b → a ≡ 8 * b
    divided a b m d = omega arith

    rest_of : (a b : ℕ) → a / 8 ≡ b → (r : ℕ) × (r < 8) × (a ≡ 8 * b + r)
    rest_of a b d = (a % 8, omega arith, omega arith)

pub law_from : (sector : List ℕ) (disk n : ℕ) (part : Part) → IsPartition sector disk n part → part_of sector disk n ≡ Some part
law_from sector disk n part h =
    let w = h.whole in
    given_from (is_table sector) (is_usable disk (entry_of sector n)) (blocks_of (entry_of sector n)) part
    (trusted sector h.signed h.unprotected h.apart)
    (usable_from disk (entry_of sector n) h.used (false_from_ne_true (is_extended (entry_of sector n)) h.plain) h.after_first (even (entry_of sector n).first part.first_block h.begins) h.on_disk)
    (same_part (blocks_of (entry_of sector n)) part (over (entry_of sector n).first part.first_block h.begins) (under (entry_of sector n).sectors part.blocks w.0 w.1 w.2))
  where
    even : (a b : ℕ) → a ≡ 8 * b → a % 8 ≡ 0
    even a b e = omega arith

    over : (a b : ℕ) → a ≡ 8 * b → a / 8 ≡ b
    over a b e = omega arith

    under : (a b r : ℕ) → r < 8 → a ≡ 8 * b + r → a / 8 ≡ b
    under a b r l e = omega arith
