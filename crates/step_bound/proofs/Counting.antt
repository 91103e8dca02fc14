use Rattle.std.proofs.Common.{◌≡◌, ◌==◌, ◌&&◌, ◌||◌, ◌+◌, ◌*◌, ◌≤◌, ◌++◌, ℕ, Bool, true, false, Option, Some, None, List, [], ◌∷◌, length, slice_get, refl, ap, arith, eq-eqb}
use Rattle.std.proofs.lemmas.Option.{slice_get_within}
use Rattle.wire_core.specs.declared.names.Entry.{Entry}
use Rattle.wire_core.specs.declared.names.Event.{Event}
use Rattle.wire_core.specs.declared.names.QueueRow.{QueueRow}
use Rattle.wire_core.specs.Bells.{bit}
use Rattle.wire_core.specs.Ends.{Role, Consumer, Producer, role_of}
use Rattle.wire_core.specs.Journal.{History, LegalEntry, EachFrom, Hostiles, owner_of}
use Rattle.wire_core.specs.Marks.{is_mark}
use Rattle.wire_core.specs.Marks.{Drops, is_marked, dropped, is_role, calls_at, ends_of, sum_below}
use Rattle.wire_core.proofs.Sinces.{eqb_refl}
use Rattle.step_bound.proofs.Sums.{sum_le, sum_more, sum_first}
use Rattle.step_bound.proofs.Paying.{marks_on}

-- all marks that are no drops
abbrev pub plain_marks : List Entry → ℕ
plain_marks [] = 0
plain_marks (e ∷ es) = bit (is_mark e.event.op e.event.answer) + plain_marks es

-- all marks
abbrev pub all_marks : Drops → List Entry → ℕ
all_marks drops [] = 0
all_marks drops (e ∷ es) = bit (is_marked drops e) + all_marks drops es

either_bit : (a b : Bool) → bit (a || b) ≤ bit a + bit b
either_bit true b = omega arith
either_bit false b = omega arith

pub marks_or_drops : (drops : Drops) (es : List Entry) → all_marks drops es ≤ plain_marks es + dropped drops es
marks_or_drops drops [] = omega arith
marks_or_drops drops (e ∷ es) = let h = marks_or_drops drops es in let b = either_bit (drops e) (is_mark e.event.op e.event.answer) in omega (arith, h, b)

module _ (hostile : Hostiles) (history : History) (rows : List QueueRow) where
  -- each mark is on a queue
  pub marks_within : (before es : List Entry) → EachFrom (LegalEntry hostile history rows) before es → plain_marks es ≤ sum_below (λ n. marks_on n es) (length rows)
  marks_within before [] l = omega arith
  marks_within before (e ∷ es) l = go (is_mark e.event.op e.event.answer) (marks_within (before ++ e ∷ []) es l.1)
    where
      go : (b : Bool) → plain_marks es ≤ sum_below (λ n. marks_on n es) (length rows) → bit b + plain_marks es ≤ sum_below (λ n. bit (e.event.queue.0 == n && b) + marks_on n es) (length rows)
      go false h = let g = sum_le (λ n. marks_on n es) (λ n. bit (e.event.queue.0 == n && false) + marks_on n es) (length rows) (λ n x. omega arith) in omega (arith, g, h)
      go true h =
          let here : bit (e.event.queue.0 == e.event.queue.0 && true) ≡ 1 = ap (λ v. bit (v && true)) (eqb_refl e.event.queue.0) in
          let g = sum_more (λ n. marks_on n es) (λ n. bit (e.event.queue.0 == n && true) + marks_on n es) (length rows) e.event.queue.0 (slice_get_within rows e.event.queue.0 l.0.row l.0.there) (λ n. omega arith) (omega (arith, here)) in
          omega (arith, g, h)

-- a call at an end of actor a
pub record OwnCall (a : ℕ) (rows : List QueueRow) (e : Event) : Type 0 where
  pub row : QueueRow
  pub there : slice_get rows e.queue.0 ≡ Some row
  pub owner : owner_of row (role_of e.op) ≡ a

abbrev pub EachOwn : ℕ → List QueueRow → List Event → Type 0
EachOwn a rows [] = Unit {0}
EachOwn a rows (e ∷ es) = OwnCall a rows e × EachOwn a rows es

pub own_append : (a : ℕ) (rows : List QueueRow) (es : List Event) (e : Event) → EachOwn a rows es → OwnCall a rows e → EachOwn a rows (es ++ e ∷ [])
own_append a rows [] e all here = (here, tt)
own_append a rows (x ∷ es) e all here = (all.0, own_append a rows es e all.1 here)

abbrev pub if_own : Bool → ℕ → ℕ
if_own true n = n
if_own false n = 0

-- the calls on the ends that actor a has of a queue
abbrev pub own_at : ℕ → Option QueueRow → ℕ → List Event → ℕ
own_at a None n es = 0
own_at a (Some row) n es = if_own (row.consumer.0 == a) (calls_at Consumer n es) + if_own (row.producer.0 == a) (calls_at Producer n es)

own_le : (b : Bool) (x y : ℕ) → x ≤ y → if_own b x ≤ if_own b y
own_le true x y h = h
own_le false x y h = omega arith

own_grows : (a : ℕ) (o : Option QueueRow) (n : ℕ) (e : Event) (es : List Event) → own_at a o n es ≤ own_at a o n (e ∷ es)
own_grows a None n e es = omega arith
own_grows a (Some row) n e es =
    let c = own_le (row.consumer.0 == a) (calls_at Consumer n es) (calls_at Consumer n (e ∷ es)) (omega arith) in
    let p = own_le (row.producer.0 == a) (calls_at Producer n es) (calls_at Producer n (e ∷ es)) (omega arith) in
    omega (arith, c, p)

own_true : (b : Bool) (x y : ℕ) → b ≡ true → x + 1 ≤ y → if_own b x + 1 ≤ if_own b y
own_true true x y h g = g
own_true false x y h g = cc

own_more : (a : ℕ) (rows : List QueueRow) (e : Event) (es : List Event) → OwnCall a rows e → own_at a (slice_get rows e.queue.0) e.queue.0 es + 1 ≤ own_at a (slice_get rows e.queue.0) e.queue.0 (e ∷ es)
own_more a rows e es own = rw own.there (go (role_of e.op) own.owner)
  where
    here : (r : Role) → bit (is_role r r && (e.queue.0 == e.queue.0)) ≡ 1
    here Consumer = ap (λ v. bit (true && v)) (eqb_refl e.queue.0)
    here Producer = ap (λ v. bit (true && v)) (eqb_refl e.queue.0)

    go : (r : Role) → owner_of own.row r ≡ a → if_own (own.row.consumer.0 == a) (calls_at Consumer e.queue.0 es) + if_own (own.row.producer.0 == a) (calls_at Producer e.queue.0 es) + 1 ≤ if_own (own.row.consumer.0 == a) (bit (is_role r Consumer && (e.queue.0 == e.queue.0)) + calls_at Consumer e.queue.0 es) + if_own (own.row.producer.0 == a) (bit (is_role r Producer && (e.queue.0 == e.queue.0)) + calls_at Producer e.queue.0 es)
    go Consumer own' =
        let h = here Consumer in
        let c = own_true (own.row.consumer.0 == a) (calls_at Consumer e.queue.0 es) (bit (is_role Consumer Consumer && (e.queue.0 == e.queue.0)) + calls_at Consumer e.queue.0 es) (eq-eqb own.row.consumer.0 a own') (omega (arith, h)) in
        let p = own_le (own.row.producer.0 == a) (calls_at Producer e.queue.0 es) (bit (is_role Consumer Producer && (e.queue.0 == e.queue.0)) + calls_at Producer e.queue.0 es) (omega arith) in
        omega (arith, c, p)
    go Producer own' =
        let h = here Producer in
        let c = own_le (own.row.consumer.0 == a) (calls_at Consumer e.queue.0 es) (bit (is_role Producer Consumer && (e.queue.0 == e.queue.0)) + calls_at Consumer e.queue.0 es) (omega arith) in
        let p = own_true (own.row.producer.0 == a) (calls_at Producer e.queue.0 es) (bit (is_role Producer Producer && (e.queue.0 == e.queue.0)) + calls_at Producer e.queue.0 es) (eq-eqb own.row.producer.0 a own') (omega (arith, h)) in
        omega (arith, c, p)

-- the calls of an actor are those on its ends
own_all : (a : ℕ) (rows : List QueueRow) (es : List Event) → EachOwn a rows es → length es ≤ sum_below (λ n. own_at a (slice_get rows n) n es) (length rows)
own_all a rows [] own = omega arith
own_all a rows (e ∷ es) own =
    let h = own_all a rows es own.1 in
    let g = sum_more (λ n. own_at a (slice_get rows n) n es) (λ n. own_at a (slice_get rows n) n (e ∷ es)) (length rows) e.queue.0 (slice_get_within rows e.queue.0 own.0.row own.0.there) (λ n. own_grows a (slice_get rows n) n e es) (own_more a rows e es own.0) in
    omega (arith, h, g)

-- eight for each end
abbrev pub eight_at : ℕ → Option QueueRow → ℕ
eight_at a None = 0
eight_at a (Some row) = 8 * (bit (row.consumer.0 == a) + bit (row.producer.0 == a))

eight_own : (b : Bool) (x : ℕ) → x ≤ 8 → if_own b x ≤ 8 * bit b
eight_own true x h = h
eight_own false x h = omega arith

own_few : (a : ℕ) (o : Option QueueRow) (n : ℕ) (es : List Event) → ((r : Role) → calls_at r n es ≤ 8) → own_at a o n es ≤ eight_at a o
own_few a None n es few = omega arith
own_few a (Some row) n es few =
    let c = eight_own (row.consumer.0 == a) (calls_at Consumer n es) (few Consumer) in
    let p = eight_own (row.producer.0 == a) (calls_at Producer n es) (few Producer) in
    omega (arith, c, p)

eights : (a : ℕ) (rows : List QueueRow) → sum_below (λ n. eight_at a (slice_get rows n)) (length rows) ≡ 8 * ends_of a rows
eights a [] = refl
eights a (row ∷ rows) = let f = sum_first (λ n. eight_at a (slice_get (row ∷ rows) n)) (length rows) in let h = eights a rows in omega (arith, f, h)

pub few_since : (a : ℕ) (rows : List QueueRow) (es : List Event) → EachOwn a rows es → ((r : Role) (n : ℕ) → calls_at r n es ≤ 8) → length es ≤ 8 * ends_of a rows
few_since a rows es own few =
    let h = own_all a rows es own in
    let g = sum_le (λ n. own_at a (slice_get rows n) n es) (λ n. eight_at a (slice_get rows n)) (length rows) (λ n x. own_few a (slice_get rows n) n es (λ r. few r n)) in
    let s = eights a rows in
    omega (arith, h, g, s)
