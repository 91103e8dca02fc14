-- Names that are kept in the order of the puts.
use Rattle.std.proofs.Common.{◌≡◌, ◌≢◌, ◌⊎◌, ◌==◌, ◌≤◌, ℕ, Bool, true, false, cond, Option, Some, None, List, [], ◌∷◌, ◌++◌, length, map, refl, sym, ap, ap₂, ◌∙◌, arith, inl, inr}
use Rattle.std.proofs.Math.Dec.{eqb}
use Rattle.std.proofs.lemmas.Bool.Decides.{eqb_tells}
use Rattle.std.proofs.lemmas.List.{map-append}
use Rattle.cargo_core.specs.Lists.{IsPrefix}
use Rattle.cargo_core.specs.declared.item.Item.{Item}
use Rattle.cargo_core.specs.declared.item.Body.{Body}
use Rattle.wire_core.specs.declared.names.Op.{Op}
use Rattle.wire_core.specs.declared.names.Op.TheVariants as Do
use Rattle.wire_core.specs.Deeds.{Cargo, Deed, cargo_of, joined}
use Rattle.wire_core.specs.Lists.{Passed, if_put, if_there, nothing_passed, put_by, with_deed}
use Rattle.play_core.specs.Names.{AreNoted, GrowsTo, Name, Noted, Wild, name_of, names_of, notes_of, told_by}

told_append : (xs ys : List Noted) (n : ℕ) → told_by (xs ++ ys) n ≡ told_by xs n ++ told_by ys n
told_append [] ys n = refl
told_append (x ∷ xs) ys n = by (x.queue == n) (told_append xs ys n)
  where
    by : (b : Bool) → told_by (xs ++ ys) n ≡ told_by xs n ++ told_by ys n → cond b (x.name ∷ told_by (xs ++ ys) n) (told_by (xs ++ ys) n) ≡ cond b (x.name ∷ told_by xs n) (told_by xs n) ++ told_by ys n
    by true rest = ap (λ l. x.name ∷ l) rest
    by false rest = rest

pub notes_grow : (old new : List Noted) → IsPrefix old new → GrowsTo (told_by old) (told_by new)
notes_grow old new h n = (told_by h.0 n, sym (told_append old h.0 n) ∙ ap (λ l. told_by l n) h.1)

abbrev noted : ℕ → Cargo → Noted
noted q c = record { queue = q; name = name_of c.1 }

told_here : (q n : ℕ) (cs : List Cargo) → (q == n) ≡ true → told_by (map (noted q) cs) n ≡ names_of cs
told_here q n [] e = refl
told_here q n (c ∷ cs) e = ap (λ b. cond b (name_of c.1 ∷ told_by (map (noted q) cs) n) (told_by (map (noted q) cs) n)) e ∙ ap (λ l. name_of c.1 ∷ l) (told_here q n cs e)

told_beside : (q n : ℕ) (cs : List Cargo) → (q == n) ≡ false → told_by (map (noted q) cs) n ≡ []
told_beside q n [] e = refl
told_beside q n (c ∷ cs) e = ap (λ b. cond b (name_of c.1 ∷ told_by (map (noted q) cs) n) (told_by (map (noted q) cs) n)) e ∙ told_beside q n cs e

pub nothing_noted : (wild : Wild) → AreNoted wild [] nothing_passed
nothing_noted wild n w = refl

module _ (wild : Wild) (d : Deed) where
  abbrev q : ℕ
  q = d.event.queue.0

  abbrev cs : List Cargo
  cs = if_put d.event.op (cargo_of d)

  beside : (n : ℕ) → (q == n) ≡ false → (b : Bool) → told_by (cond b (map (noted q) cs) []) n ≡ []
  beside n e true = told_beside q n cs e
  beside n e false = refl

  -- what the call adds to the names of a queue of which they are kept
  added : (n : ℕ) → wild n ≡ true → ((eqb q n ≡ true) × (q ≡ n)) ⊎ ((eqb q n ≡ false) × (q ≢ n)) → told_by (notes_of wild d) n ≡ names_of (put_by d n)
  added n w (inl e) =
      let here : wild q ≡ true = ap wild e.1 ∙ w in
      ap (λ b. told_by (cond b (map (noted q) cs) []) n) here ∙ (told_here q n cs e.0 ∙ sym (ap (λ b. names_of (if_there b cs)) e.0))
  added n w (inr e) = beside n e.0 (wild q) ∙ sym (ap (λ b. names_of (if_there b cs)) e.0)

pub notes_keep : (wild : Wild) (notes : List Noted) (passed : Passed) (d : Deed) → AreNoted wild notes passed → AreNoted wild (notes ++ notes_of wild d) (with_deed passed d)
notes_keep wild notes passed d h n w =
    told_append notes (notes_of wild d) n
    ∙ (ap₂ (λ (xs ys : List Name). xs ++ ys) (h n w) (added wild d n w (eqb_tells d.event.queue.0 n))
    ∙ sym (map-append (λ (c : Cargo). name_of c.1) (passed.sent n) (put_by d n)))

few_joined : (i : Option Item) (b : Option Body) (f : Cargo → Noted) → length (map f (joined i b)) ≤ 1
few_joined None b f = omega arith
few_joined (Some i) None f = omega arith
few_joined (Some i) (Some b) f = omega arith

pub notes_few : (wild : Wild) (d : Deed) → length (notes_of wild d) ≤ 1
notes_few wild d = by (wild d.event.queue.0) d.event.op
  where
    by : (b : Bool) (o : Op) → length (cond b (map (noted d.event.queue.0) (if_put o (cargo_of d))) []) ≤ 1
    by false o = omega arith
    by true Do.Put = few_joined d.event.item d.body (noted d.event.queue.0)
    by true Do.Take = omega arith
    by true Do.See = omega arith
    by true Do.Room = omega arith
    by true (Do.Ask s) = omega arith
    by true (Do.Waive s) = omega arith
    by true (Do.Wake s) = omega arith
    by true (Do.Wanted s) = omega arith
    by true (Do.Settle s) = omega arith
    by true (Do.Ring s) = omega arith
    by true (Do.Store x v) = omega arith

pub notes_none : (wild : Wild) (d : Deed) → ((n : ℕ) → wild n ≡ false) → notes_of wild d ≡ []
notes_none wild d none = ap (λ b. cond b (map (noted d.event.queue.0) (if_put d.event.op (cargo_of d))) []) (none d.event.queue.0)
