-- The end of each queue stands at its place, once the ends of all actors are placed.
use Rattle.std.proofs.Common.{◌≡◌, ◌≢◌, ◌∙◌, ⊎_elim, if◌then◌else◌, ℕ, Bool, zero, suc, ◌<◌, List, [], ◌∷◌, ◌++◌, length, map, refl, sym, ap, subst, arith, Option, Some, None, slice_get, slice_set}
use Rattle.std.proofs.lemmas.Slice.Zip.{AllZip-long}
use Rattle.std.proofs.lemmas.Bool.Decides.{eqb_tells}
use Rattle.wire_core.specs.declared.names.QueueId.{QueueId}
use Rattle.wire_core.specs.declared.names.QueueRow.{QueueRow}
use Rattle.wire_core.specs.Ends.{Role}
use Rattle.wire_core.specs.Journal.{owner_of}
use Rattle.spsc_queue.specs.Known.Ends.{EndIs, RingIs}
use Rattle.seat_wires.specs.Places.{stands_at, joined_get}
use Rattle.order_law.specs.ActorParts.Parting.{Apart, ends_at, end_in, AreApart, IsRingOf, hostile_apart}
use Rattle.order_law.specs.ActorParts.Given.{Kept, apart_of}
use Rattle.order_law.specs.ActorParts.Placing.{placed, AreWithin, all_placed}
use Rattle.order_law.specs.ActorParts.Finished.{OwnEnd}
use Rattle.order_law.proofs.ActorParts.Places.{length_set, set_beside, get_within}

abbrev Numbered : Type 0
Numbered = QueueId × EndIs

same_some : {Y : Type 0} (x y : Y) → Some x ≡ Some y → x ≡ y
same_some x y e = cc

pub get_there : {Y : Type 0} (xs : List Y) (i : ℕ) → i < length xs → (x : Y) × (slice_get xs i ≡ Some x)
get_there [] i lt = absurd (omega arith)
get_there (x ∷ xs) zero lt = (x, refl)
get_there (x ∷ xs) (suc i) lt = get_there xs i (omega arith)

set_here : {Y : Type 0} (xs : List Y) (i : ℕ) (y : Y) → i < length xs → slice_get (slice_set xs i y) i ≡ Some y
set_here [] i y lt = absurd (omega arith)
set_here (x ∷ xs) zero y lt = refl
set_here (x ∷ xs) (suc i) y lt = set_here xs i y (omega arith)

map_there : {X Y : Type 0} (f : X → Y) (xs : List X) (i : ℕ) (x : X) → slice_get xs i ≡ Some x → slice_get (map f xs) i ≡ Some (f x)
map_there f [] i x is = cc
map_there f (y ∷ xs) zero x is = ap (λ z. Some (f z)) (same_some y x is)
map_there f (y ∷ xs) (suc i) x is = map_there f xs i x is

-- none of these is of that queue
abbrev Lacks : ℕ → List Numbered → Type 0
Lacks n xs = (i : ℕ) (x : Numbered) → slice_get xs i ≡ Some x → x.0.0 ≢ n

-- no two of these are of one queue
abbrev AreOnce : List Numbered → Type 0
AreOnce xs = (i j : ℕ) (x y : Numbered) → slice_get xs i ≡ Some x → slice_get xs j ≡ Some y → x.0.0 ≡ y.0.0 → i ≡ j

pub length_placed : (xs : List Numbered) (places : List (Option EndIs)) → length (placed xs places) ≡ length places
length_placed [] places = refl
length_placed (x ∷ xs) places = length_placed xs (slice_set places x.0.0 (Some x.1)) ∙ length_set places x.0.0 (Some x.1)

placed_else : (xs : List Numbered) (places : List (Option EndIs)) (n : ℕ) → Lacks n xs → slice_get (placed xs places) n ≡ slice_get places n
placed_else [] places n none = refl
placed_else (x ∷ xs) places n none = placed_else xs (slice_set places x.0.0 (Some x.1)) n (λ i y is. none (suc i) y is) ∙ set_beside places x.0.0 n (Some x.1) (λ e. none 0 x refl (sym e))

zero_not : (i : ℕ) → zero ≡ suc i → ⊥
zero_not i e = cc

placed_here : (xs : List Numbered) (places : List (Option EndIs)) (n : ℕ) (e : EndIs) → n < length places → AreOnce xs → end_in xs n ≡ Some e → slice_get (placed xs places) n ≡ Some (Some e)
placed_here [] places n e lt once is = cc
placed_here (x ∷ xs) places n e lt once is = ⊎_elim
    (λ same. let first : x.1 ≡ e = same_some x.1 e (ap (λ (b : Bool). if b then Some x.1 else end_in xs n) (sym same.0) ∙ is) in
    placed_else xs (slice_set places x.0.0 (Some x.1)) n (λ i y at number. zero_not i (once 0 (suc i) x y refl at (same.1 ∙ sym number)))
    ∙ (ap (λ (z : ℕ). slice_get (slice_set places z (Some x.1)) n) same.1 ∙ (set_here places n (Some x.1) lt ∙ ap (λ (z : EndIs). Some (Some z)) first)))
    (λ away. placed_here xs (slice_set places x.0.0 (Some x.1)) n e (subst (λ (z : ℕ). n < z) (sym (length_set places x.0.0 (Some x.1))) lt) (λ i j a b at_a at_b number. (let h = once (suc i) (suc j) a b at_a at_b number in omega (arith, h))) (ap (λ (b : Bool). if b then Some x.1 else end_in xs n) (sym away.0) ∙ is))
    (eqb_tells x.0.0 n)

module _ (ends : Kept → List Numbered) where
  pub length_all : (ps : List Kept) (places : List (Option EndIs)) → length (all_placed ends ps places) ≡ length places
  length_all [] places = refl
  length_all (p ∷ ps) places = length_all ps (placed (ends p) places) ∙ length_placed (ends p) places

  pub all_more : (ps : List Kept) (p : Kept) (places : List (Option EndIs)) → all_placed ends (ps ++ p ∷ []) places ≡ placed (ends p) (all_placed ends ps places)
  all_more [] p places = refl
  all_more (q ∷ ps) p places = all_more ps p (placed (ends q) places)

  all_else : (ps : List Kept) (places : List (Option EndIs)) (n : ℕ) → ((j : ℕ) (p : Kept) → slice_get ps j ≡ Some p → Lacks n (ends p)) → slice_get (all_placed ends ps places) n ≡ slice_get places n
  all_else [] places n none = refl
  all_else (p ∷ ps) places n none = all_else ps (placed (ends p) places) n (λ j q is. none (suc j) q is) ∙ placed_else (ends p) places n (none 0 p refl)

  all_here : (ps : List Kept) (places : List (Option EndIs)) (k n : ℕ) (p : Kept) (e : EndIs) → slice_get ps k ≡ Some p → n < length places → AreOnce (ends p) → end_in (ends p) n ≡ Some e
      → ((j : ℕ) (q : Kept) → j ≢ k → slice_get ps j ≡ Some q → Lacks n (ends q)) → slice_get (all_placed ends ps places) n ≡ Some (Some e)
  all_here [] places k n p e at lt once is others = cc
  all_here (q ∷ ps) places zero n p e at lt once is others = let same : q ≡ p = same_some q p at in
      all_else ps (placed (ends q) places) n (λ j r there. others (suc j) r (λ z. zero_not j (sym z)) there) ∙ placed_here (ends q) places n e lt (subst (λ (z : Kept). AreOnce (ends z)) (sym same) once) (ap (λ (z : Kept). end_in (ends z) n) same ∙ is)
  all_here (q ∷ ps) places (suc k) n p e at lt once is others = all_here ps (placed (ends q) places) k n p e at (subst (λ (z : ℕ). n < z) (sym (length_placed (ends q) places)) lt) once is (λ j r ne there. others (suc j) r (λ z. ne (let h = z in omega (arith, h))) there)

-- where an end is found
pub found : (xs : List Numbered) (n : ℕ) (e : EndIs) → end_in xs n ≡ Some e → (i : ℕ) × (x : Numbered) × (slice_get xs i ≡ Some x) × (x.0.0 ≡ n) × (x.1 ≡ e)
found [] n e is = cc
found (x ∷ xs) n e is = ⊎_elim
    (λ same. (0, x, refl, same.1, same_some x.1 e (ap (λ (b : Bool). if b then Some x.1 else end_in xs n) (sym same.0) ∙ is)))
    (λ away. let f = found xs n e (ap (λ (b : Bool). if b then Some x.1 else end_in xs n) (sym away.0) ∙ is) in (suc f.0, f.1, f.2, f.3, f.4))
    (eqb_tells x.0.0 n)

-- where none is found there is none
lacks : (xs : List Numbered) (n : ℕ) → end_in xs n ≡ None → Lacks n xs
lacks [] n is i x at number = cc
lacks (y ∷ xs) n is zero x at number = ⊎_elim
    (λ same. (let e : Some y.1 ≡ None = ap (λ (b : Bool). if b then Some y.1 else end_in xs n) (sym same.0) ∙ is in cc))
    (λ away. away.1 (ap (λ (z : Numbered). z.0.0) (same_some y x at) ∙ number))
    (eqb_tells y.0.0 n)
lacks (y ∷ xs) n is (suc i) x at number = ⊎_elim
    (λ same. (let e : Some y.1 ≡ None = ap (λ (b : Bool). if b then Some y.1 else end_in xs n) (sym same.0) ∙ is in cc))
    (λ away. lacks xs n (ap (λ (b : Bool). if b then Some y.1 else end_in xs n) (sym away.0) ∙ is) i x at number)
    (eqb_tells y.0.0 n)

-- of an end's queue one is found
pub first_found : (xs : List Numbered) (i : ℕ) (x : Numbered) → slice_get xs i ≡ Some x → (e : EndIs) × (end_in xs x.0.0 ≡ Some e)
first_found [] i x at = cc
first_found (y ∷ xs) zero x at = ⊎_elim
    (λ same. (y.1, ap (λ (b : Bool). if b then Some y.1 else end_in xs x.0.0) same.0))
    (λ away. absurd (away.1 (ap (λ (z : Numbered). z.0.0) (same_some y x at))))
    (eqb_tells y.0.0 x.0.0)
first_found (y ∷ xs) (suc i) x at = ⊎_elim
    (λ same. (y.1, ap (λ (b : Bool). if b then Some y.1 else end_in xs x.0.0) same.0))
    (λ away. let h = first_found xs i x at in (h.0, ap (λ (b : Bool). if b then Some y.1 else end_in xs x.0.0) away.0 ∙ h.1))
    (eqb_tells y.0.0 x.0.0)

abbrev pub ends_of : Role → Kept → List Numbered
ends_of r p = ends_at (apart_of p) r

module _ (rows : List QueueRow) (rings : List RingIs) (parts : List Kept) (apart : AreApart rows rings (map apart_of parts)) (peers : (n : ℕ) (row : QueueRow) → slice_get rows n ≡ Some row → (r : Role) → owner_of row r < length parts) (start : List (Option EndIs)) (long : length start ≡ length rings) where
  row_there : (n : ℕ) (ring : RingIs) → slice_get rings n ≡ Some ring → (row : QueueRow) × (slice_get rows n ≡ Some row)
  row_there n ring is = let lt = get_within rings n ring is in get_there rows n (omega (arith, lt, AllZip-long (IsRingOf (hostile_apart (map apart_of parts))) rows rings apart.rings_are))

  -- the end that the owner has stands at its place
  pub own_stands : (r : Role) (n : ℕ) (row : QueueRow) (ring : RingIs) (e : EndIs) → slice_get rows n ≡ Some row → slice_get rings n ≡ Some ring → OwnEnd (map apart_of parts) row r n e → slice_get (all_placed (ends_of r) parts start) n ≡ Some (Some e)
  own_stands r n row ring e is at own = let k : ℕ = owner_of row r in let lt = get_within rings n ring at in let p = get_there parts k (peers n row is r) in
      let there : slice_get (map apart_of parts) k ≡ Some (apart_of p.0) = map_there apart_of parts k p.0 p.1 in
      let owner_is : own.owner ≡ apart_of p.0 = same_some own.owner (apart_of p.0) (sym own.there ∙ there) in
      all_here (ends_of r) parts start k n p.0 e p.1 (omega (arith, lt, long)) (λ i j x y at_x at_y number. (apart.stand k (apart_of p.0) there).once r i j x y at_x at_y number) (ap (λ (z : Apart). end_in (ends_at z r) n) (sym owner_is) ∙ own.end)
      (λ j q ne there_q i x at_x number. (
      let theirs = (apart.ends j (apart_of q) (map_there apart_of parts j q there_q)).own r i x at_x in
      let same : theirs.0 ≡ row = same_some theirs.0 row (sym theirs.1 ∙ (ap (λ (z : ℕ). slice_get rows z) number ∙ is)) in
      ne (sym theirs.2 ∙ ap (λ (z : QueueRow). owner_of z r) same)
      ))

  -- each ring's end is there, and is its own
  pub end_there : (r : Role) (n : ℕ) (ring : RingIs) → slice_get rings n ≡ Some ring → (e : EndIs) × (slice_get (all_placed (ends_of r) parts start) n ≡ Some (Some e)) × (e.ring ≡ ring.id)
  end_there r n ring at = let row = row_there n ring at in let k : ℕ = owner_of row.0 r in let p = get_there parts k (peers n row.0 row.1 r) in
      let there : slice_get (map apart_of parts) k ≡ Some (apart_of p.0) = map_there apart_of parts k p.0 p.1 in
      let e = (apart.ends k (apart_of p.0) there).all r n row.0 row.1 refl in let f = found (ends_of r p.0) n e.0 e.1 in let on = (apart.stand k (apart_of p.0) there).on r f.0 f.1 f.2 in
      let ring_is : on.0 ≡ ring = same_some on.0 ring (sym on.1 ∙ (ap (λ (z : ℕ). slice_get rings z) f.3 ∙ at)) in (
        e.0,
        own_stands r n row.0 ring e.0 row.1 at (record { owner = apart_of p.0; there = there; end = e.1 }),
        ap (λ (z : EndIs). z.ring) (sym f.4) ∙ (on.2 ∙ ap (λ (z : RingIs). z.id) ring_is),
      )

  -- each end has a place
  pub all_within : (r : Role) (k : ℕ) (p : Kept) → slice_get parts k ≡ Some p → AreWithin (length rings) (ends_of r p)
  all_within r k p at i x is = let on = (apart.stand k (apart_of p) (map_there apart_of parts k p at)).on r i x is in get_within rings x.0.0 on.0 on.1

pub map_more : {X Y : Type 0} (f : X → Y) (xs : List X) (x : X) → map f (xs ++ x ∷ []) ≡ map f xs ++ f x ∷ []
map_more f [] x = refl
map_more f (y ∷ xs) x = ap (λ l. f y ∷ l) (map_more f xs x)

pub map_actors : (parts : List Kept) → map (λ (p : Kept). p.0.actor) parts ≡ map (λ (p : Apart). p.actor) (map apart_of parts)
map_actors [] = refl
map_actors (p ∷ ps) = ap (λ l. p.0.actor ∷ l) (map_actors ps)

-- what stands at a place is what is found by its number
pub stands_placed : (xs : List Numbered) (start : List (Option EndIs)) (n : ℕ) → AreWithin (length start) xs → AreOnce xs → ((m : ℕ) → stands_at start m ≡ None) → stands_at (placed xs start) n ≡ end_in xs n
stands_placed xs start n within once none = by (end_in xs n) refl
  where
    by : (o : Option EndIs) → end_in xs n ≡ o → stands_at (placed xs start) n ≡ end_in xs n
    by None is = ap joined_get (placed_else xs start n (lacks xs n is)) ∙ (none n ∙ sym is)
    by (Some e) is = let f = found xs n e is in ap joined_get (placed_here xs start n e (subst (λ (z : ℕ). z < length start) f.3 (within f.0 f.1 f.2)) once is) ∙ sym is
