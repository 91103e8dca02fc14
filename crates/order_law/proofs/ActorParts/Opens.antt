-- Rings that are opened one by one, each with its ends.
use Rattle.std.proofs.Common.{◌≡◌, ◌==◌, ◌<◌, ◌≤◌, ◌+◌, ◌++◌, ℕ, zero, suc, if◌then◌else◌, Some, List, [], ◌∷◌, length, take, slice_get, get_or, map, refl, sym, ap, ◌∙◌, subst, arith, append-nil, append_assoc}
use Rattle.std.specs.List.{AllZip, zip}
use Rattle.std.proofs.lemmas.List.{take_all}
use Rattle.wire_core.specs.declared.names.QueueId.{QueueId}
use Rattle.wire_core.specs.declared.names.QueueRow.{QueueRow}
use Rattle.wire_core.specs.Ends.{Role, Consumer, Producer}
use Rattle.wire_core.specs.Journal.{Hostiles, owner_of}
use Rattle.spsc_queue.specs.Known.Ends.{EndIs, RingIs}
use Rattle.actor_set.specs.Actors.{part_anew, part_of}
use Rattle.actor_set.specs.Laws.Kinds.{hostiles}
use Rattle.actor_set.specs.declared.actor.Actor.{Actor}
use Rattle.order_law.specs.ActorParts.Parting.{ends_at, IsRingOf}
use Rattle.order_law.specs.ActorParts.Opening.{first_half, opened_at, opened_from, IsForgotten}
use Rattle.order_law.specs.declared.actor_parts.worker.Worker.{Worker}
use Rattle.order_law.specs.ActorParts.Given.{Kept, apart_of, given, IsAlone, GivesProducer, GivesConsumer}
use Rattle.order_law.specs.ActorParts.Opened.{AreOpened}
use Rattle.order_law.proofs.ActorParts.Hosting.{parts_anew, anew_hostiles}

abbrev End : Type 0
End = QueueId × EndIs

opened_more : (r : Role) (k n : ℕ) (xs : List (QueueRow × RingIs)) (x : QueueRow × RingIs) → opened_from r k n (xs ++ x ∷ []) ≡ opened_from r k n xs ++ opened_at r k (n + length xs) x
opened_more r k n [] x = append-nil (opened_at r k n x) ∙ ap (λ (m : ℕ). opened_at r k m x) (let e : n ≡ n + 0 = omega arith in e)
opened_more r k n (y ∷ xs) x =
    ap (λ (l : List End). opened_at r k n y ++ l) (opened_more r k (n + 1) xs x ∙ ap (λ (m : ℕ). opened_from r k (n + 1) xs ++ opened_at r k m x) (let e : n + 1 + length xs ≡ n + length (y ∷ xs) = omega arith in e))
    ∙ sym (append_assoc (opened_at r k n y) (opened_from r k (n + 1) xs) (opened_at r k (n + length (y ∷ xs)) x))

-- a row and its ring more
zip_more : (rows : List QueueRow) (rings : List RingIs) (row : QueueRow) (ring : RingIs) → length rings < length rows → row ≡ get_or rows (length rings) row → zip (take (length (rings ++ ring ∷ [])) rows) (rings ++ ring ∷ []) ≡ zip (take (length rings) rows) rings ++ (row, ring) ∷ []
zip_more [] rings row ring lt at = absurd (omega (arith, lt))
zip_more (r ∷ rows) [] row ring lt at = ap (λ (z : QueueRow). (z, ring) ∷ []) (sym at)
zip_more (r ∷ rows) (g ∷ rings) row ring lt at = ap (λ (l : List (QueueRow × RingIs)). (r, g) ∷ l) (zip_more rows rings row ring (omega (arith, lt)) at)

rings_more : (R : QueueRow → RingIs → Type 0) (rows : List QueueRow) (rings : List RingIs) (row : QueueRow) (ring : RingIs) → length rings < length rows → row ≡ get_or rows (length rings) row → AllZip R (take (length rings) rows) rings → R row ring → AllZip R (take (length (rings ++ ring ∷ [])) rows) (rings ++ ring ∷ [])
rings_more R [] rings row ring lt at all is = absurd (omega (arith, lt))
rings_more R (r ∷ rows) [] row ring lt at all is = (subst (λ (z : QueueRow). R z ring) at is, tt)
rings_more R (r ∷ rows) (g ∷ rings) row ring lt at all is = (all.0, rings_more R rows rings row ring (omega (arith, lt)) at all.1 is)

zip_long : (rows : List QueueRow) (rings : List RingIs) → length rings ≤ length rows → length (zip (take (length rings) rows) rings) ≡ length rings
zip_long rows [] le = none rows
  where
    none : (rows : List QueueRow) → length (zip {X = RingIs} (take 0 rows) []) ≡ 0
    none [] = refl
    none (r ∷ rows) = refl
zip_long [] (g ∷ rings) le = absurd (omega (arith, le))
zip_long (r ∷ rows) (g ∷ rings) le = let h = zip_long rows rings (omega (arith, le)) in omega (arith, h)

-- what an actor was given is what the row gives it
given_here : (r : Role) (row : QueueRow) (ring : RingIs) (n j : ℕ) (x : End) → x ≡ (record { 0 = n }, record { ring = ring.id; knows = first_half r row.kind ring.wild }) → given (owner_of row r) j x ≡ opened_at r j n (row, ring)
given_here r row ring n j x is = ap (λ (y : End). if owner_of row r == j then y ∷ [] else []) is

-- where nobody was given an end yet
pub none_opened : (rows : List QueueRow) (actors : List Actor) (parts : List Kept) → AllZip IsAlone actors parts → AreOpened (take 0 rows) actors [] parts
none_opened rows actors parts all = record {
  rings_are = tt;
  many = long actors parts all;
  actors_are = λ k p at. let a = alone actors parts all k p at in (a.0, a.1, a.2.forgotten);
  fine = λ k p at. (alone actors parts all k p at).2.fine;
  ends = λ k p at r. none r k p (alone actors parts all k p at).2;
}
  where
    long : (actors : List Actor) (parts : List Kept) → AllZip IsAlone actors parts → length parts ≡ length actors
    long [] [] h = refl
    long [] (p ∷ parts) h = absurd h
    long (x ∷ actors) [] h = absurd h
    long (x ∷ actors) (p ∷ parts) h = let l = long actors parts h.1 in omega (arith, l)

    alone : (actors : List Actor) (parts : List Kept) → AllZip IsAlone actors parts → (k : ℕ) (p : Kept) → slice_get parts k ≡ Some p → (x : Actor) × (slice_get actors k ≡ Some x) × IsAlone x p
    alone [] [] h k p at = cc
    alone [] (q ∷ parts) h k p at = absurd h
    alone (x ∷ actors) [] h k p at = absurd h
    alone (x ∷ actors) (q ∷ parts) h zero p at = let is : q ≡ p = cc in (x, refl, subst (IsAlone x) is h.0)
    alone (x ∷ actors) (q ∷ parts) h (suc k) p at = alone actors parts h.1 k p at

    none : (r : Role) (k : ℕ) (p : Kept) {x : Actor} → IsAlone x p → ends_at (apart_of p) r ≡ opened_from r k 0 (zip (take 0 rows) [])
    none Consumer k p a = a.no_consumer
    none Producer k p a = a.no_producer

-- who is hostile among them was so before
pub hosts_same : (rows : List QueueRow) (actors : List Actor) (rings : List RingIs) (parts : List Kept) → AreOpened rows actors rings parts → hostiles (map (λ (p : Kept). part_of p.0.actor) parts) ≡ hostiles (map part_of actors)
hosts_same rows actors rings parts opened = ap hostiles (parts_anew actors parts opened.many (λ k p at. let x = opened.actors_are k p at in (x.0, x.1, x.2.part))) ∙ anew_hostiles actors

-- one ring more
pub opened_on : (rows : List QueueRow) (actors : List Actor) (rings : List RingIs) (old mid new : List Kept) (row : QueueRow) (ring : RingIs) (queue : QueueId) (makes takes : EndIs)
    → length rings < length rows → row ≡ get_or rows (length rings) row → queue.0 ≡ length rings
    → IsRingOf (hostiles (map (λ (p : Kept). part_of p.0.actor) old)) row ring → makes ≡ record { ring = ring.id; knows = first_half Producer row.kind ring.wild } → takes ≡ record { ring = ring.id; knows = first_half Consumer row.kind ring.wild }
    → GivesProducer row.producer.0 (queue, makes) old mid → GivesConsumer row.consumer.0 (queue, takes) mid new
    → AreOpened (take (length rings) rows) actors rings old → AreOpened (take (length (rings ++ ring ∷ [])) rows) actors (rings ++ ring ∷ []) new
opened_on rows actors rings old mid new row ring queue makes takes lt at number is made taken first second was = record {
  rings_are = rings_more (IsRingOf (hostiles (map part_of actors))) rows rings row ring lt at was.rings_are (subst (λ (h : Hostiles). IsRingOf h row ring) (hosts_same (take (length rings) rows) actors rings old was) is);
  many = let a = second.many in let b = first.many in let c = was.many in omega (arith, a, b, c);
  actors_are = λ k q there.
      let m = second.each k q there in
      let p = first.each k m.0 m.1 in
      let x = was.actors_are k p.0 p.1 in
      (x.0, x.1, subst (λ (w : Worker). IsForgotten x.0 w.actor) (sym (m.2 ∙ p.2)) x.2);
  fine = λ k q there. let m = second.each k q there in let p = first.each k m.0 m.1 in ap (λ (w : Worker). w.wanted) (m.2 ∙ p.2) ∙ was.fine k p.0 p.1;
  ends = λ k q there r. ends_on r k q there;
}
  where
    all : List (QueueRow × RingIs)
    all = zip (take (length rings) rows) rings

    place : length all ≡ length rings
    place = zip_long rows rings (omega (arith, lt))

    maker : ◌≡◌ {A = End} (queue, makes) (record { 0 = length rings }, record { ring = ring.id; knows = first_half Producer row.kind ring.wild })
    maker = ap {B = End} (λ (e : EndIs). (queue, e)) made ∙ ap {B = End} (λ (n : ℕ). (record { 0 = n }, record { ring = ring.id; knows = first_half Producer row.kind ring.wild })) number

    taker : ◌≡◌ {A = End} (queue, takes) (record { 0 = length rings }, record { ring = ring.id; knows = first_half Consumer row.kind ring.wild })
    taker = ap {B = End} (λ (e : EndIs). (queue, e)) taken ∙ ap {B = End} (λ (n : ℕ). (record { 0 = n }, record { ring = ring.id; knows = first_half Consumer row.kind ring.wild })) number

    more : (r : Role) (k : ℕ) → opened_from r k 0 (zip (take (length (rings ++ ring ∷ [])) rows) (rings ++ ring ∷ [])) ≡ opened_from r k 0 all ++ opened_at r k (length rings) (row, ring)
    more r k =
        ap (opened_from r k 0) (zip_more rows rings row ring lt at)
        ∙ (opened_more r k 0 all (row, ring) ∙ ap (λ (n : ℕ). opened_from r k 0 all ++ opened_at r k n (row, ring)) (let e : 0 + length all ≡ length rings = omega (arith, place) in e))

    ends_on : (r : Role) (k : ℕ) (q : Kept) → slice_get new k ≡ Some q → ends_at (apart_of q) r ≡ opened_from r k 0 (zip (take (length (rings ++ ring ∷ [])) rows) (rings ++ ring ∷ []))
    ends_on Producer k q there =
        let m = second.each k q there in
        let p = first.each k m.0 m.1 in
        m.3 ∙ (p.3 ∙ (ap (λ (l : List End). l ++ given row.producer.0 k (queue, makes)) (was.ends k p.0 p.1 Producer) ∙ (ap (λ (l : List End). opened_from Producer k 0 all ++ l) (given_here Producer row ring (length rings) k (queue, makes) maker) ∙ sym (more Producer k))))
    ends_on Consumer k q there =
        let m = second.each k q there in
        let p = first.each k m.0 m.1 in
        m.4 ∙ (ap (λ (l : List End). l ++ given row.consumer.0 k (queue, takes)) (p.4 ∙ was.ends k p.0 p.1 Consumer) ∙ (ap (λ (l : List End). opened_from Consumer k 0 all ++ l) (given_here Consumer row ring (length rings) k (queue, takes) taker) ∙ sym (more Consumer k)))

pub all_opened : (rows : List QueueRow) (i : ℕ) (actors : List Actor) (rings : List RingIs) (parts : List Kept) → length rows ≤ i → AreOpened (take i rows) actors rings parts → AreOpened rows actors rings parts
all_opened rows i actors rings parts le h = subst (λ (l : List QueueRow). AreOpened l actors rings parts) (take_all i rows le) h
