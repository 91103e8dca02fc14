use Rattle.std.proofs.Common.{◌≡◌, ◌==◌, ◌+◌, ◌<◌, ℕ, true, nat_lt, Option, Some, None, List, [], ◌∷◌, ◌++◌, length, drop, refl, sym, ap, ◌∙◌, subst, append_assoc, length-append, arith, slice_get}
use Rattle.std.specs.Option.{option_to_list}
use Rattle.std.proofs.lemmas.List.{map-append, append-nil, length-map}
use Rattle.std.proofs.lemmas.Bool.{ltb-true, lt-ltb, ltb_from_iff}
use Rattle.cargo_core.specs.Lists.{IsPrefix}
use Rattle.cargo_core.specs.declared.item.Item.{Item}
use Rattle.wire_core.specs.declared.names.Entry.{Entry}
use Rattle.wire_core.specs.declared.names.QueueRow.{QueueRow}
use Rattle.wire_core.specs.declared.names.Op.{Op}
use Rattle.wire_core.specs.declared.names.Op.TheVariants as Do
use Rattle.wire_core.specs.declared.names.Answer.{Answer}
use Rattle.wire_core.specs.Deeds.{Deed, Cargo, cargo_of}
use Rattle.wire_core.specs.Ends.{Condition, role_of}
use Rattle.wire_core.specs.Queues.{Queue, bells_after, entries_after, after, end_of, Finds, Tells, Carries, May, items_of, is_filled, has_room, calls, is_called}
use Rattle.wire_core.specs.Journal.{Track, track_after, sent_after, taken_after, track_from, if_on, CarriesItem, EachFrom, EachMoment, IsShown}
use Rattle.wire_core.specs.Picks.{PickedFrom, next_seed, place_of, drawn}

-- P of each entry, with one entry more
pub EachFrom-append : (P : List Entry → Entry → Type 0) (before es : List Entry) (e : Entry) → EachFrom P before es → P (before ++ es) e → EachFrom P before (es ++ e ∷ [])
EachFrom-append P before [] e all here = (subst (λ xs. P xs e) (append-nil before) here, tt)
EachFrom-append P before (x ∷ es) e all here = (all.0, EachFrom-append P (before ++ x ∷ []) es e all.1 (subst (λ xs. P xs e) (sym (append_assoc before (x ∷ []) es)) here))

-- what holds at each moment holds of each beginning
pub EachFrom-at : (P : List Entry → Type 0) (before m rest : List Entry) → P before → EachFrom (λ b e. P (b ++ e ∷ [])) before (m ++ rest) → P (before ++ m)
EachFrom-at P before [] rest h all = subst P (sym (append-nil before)) h
EachFrom-at P before (e ∷ m) rest h all = subst P (append_assoc before (e ∷ []) m) (EachFrom-at P (before ++ e ∷ []) m rest all.0 all.1)

pub EachMoment-at : (P : List Entry → Type 0) (journal m : List Entry) → EachMoment P journal → IsPrefix m journal → P m
EachMoment-at P journal m all p = EachFrom-at P [] m p.0 all.0 (subst (EachFrom (λ b e. P (b ++ e ∷ [])) []) (sym p.1) all.1)

-- a pick more
pub PickedFrom-append : (runs : List Entry → List ℕ) (x : ℕ) (before es : List Entry) (e : Entry) → PickedFrom runs x before es → slice_get (runs (before ++ es)) (place_of (next_seed (drawn x es)) (length (runs (before ++ es)))) ≡ Some e.actor.0 → PickedFrom runs x before (es ++ e ∷ [])
PickedFrom-append runs x before [] e all here = (subst (λ j. slice_get (runs j) (place_of (next_seed x) (length (runs j))) ≡ Some e.actor.0) (append-nil before) here, tt)
PickedFrom-append runs x before (y ∷ es) e all here = (all.0, PickedFrom-append runs (next_seed x) (before ++ y ∷ []) es e all.1 (subst (λ j. slice_get (runs j) (place_of (next_seed (drawn (next_seed x) es)) (length (runs j))) ≡ Some e.actor.0) (sym (append_assoc before (y ∷ []) es)) here))

pub drawn-append : (x : ℕ) (es : List Entry) (e : Entry) → drawn x (es ++ e ∷ []) ≡ next_seed (drawn x es)
drawn-append x [] e = refl
drawn-append x (y ∷ es) e = drawn-append (next_seed x) es e

-- the track with one entry more
pub track_from-append : (t : Track) (n : ℕ) (es : List Entry) (e : Entry) → track_from t n (es ++ e ∷ []) ≡ if_on (e.event.queue.0 == n) (track_after (track_from t n es) e.event) (track_from t n es)
track_from-append t n [] e = refl
track_from-append t n (x ∷ es) e = track_from-append (if_on (x.event.queue.0 == n) (track_after t x.event) t) n es e

lt_same : (a b c d : ℕ) → (a < b → c < d) → (c < d → a < b) → nat_lt a b ≡ nat_lt c d
lt_same a b c d f g = ltb_from_iff {b = nat_lt a b} {m = c} {n = d} (λ h. f (ltb-true a b h), λ h. lt-ltb a b (g h))

module _ (row : QueueRow) (q : Queue) (t : Track) (shown : IsShown row q t) where
  sent_length : length t.sent ≡ length t.taken + length q.entries
  sent_length = ap length shown.lists ∙ (length-append t.taken (items_of q.entries) ∙ ap (λ n. length t.taken + n) (simp length-map))

  filled_is : is_filled q ≡ nat_lt (length t.taken) (length t.sent)
  filled_is = lt_same 0 (length q.entries) (length t.taken) (length t.sent) (λ h. omega (arith, sent_length)) (λ h. omega (arith, sent_length))

  room_is : has_room q ≡ nat_lt (length t.sent) (length t.taken + row.capacity)
  room_is = lt_same (length q.entries) q.capacity (length t.sent) (length t.taken + row.capacity) (λ h. omega (arith, sent_length, shown.capacity)) (λ h. omega (arith, sent_length, shown.capacity))

  -- a call answers by what was put and taken
  pub shown_tells : (o : Op) (a : Answer) → Tells (is_filled q) (has_room q) q.bells o a → Tells (nat_lt (length t.taken) (length t.sent)) (nat_lt (length t.sent) (length t.taken + row.capacity)) t.bells o a
  shown_tells o a h =
      let h1 = subst (λ f. Tells f (has_room q) q.bells o a) filled_is h in
      let h2 = subst (λ r. Tells (nat_lt (length t.taken) (length t.sent)) r q.bells o a) room_is h1 in
      subst (λ b. Tells (nat_lt (length t.taken) (length t.sent)) (nat_lt (length t.sent) (length t.taken + row.capacity)) b o a) shown.bells h2

  -- what a call finds is what was put and taken
  pub shown_finds : (o : Op) (a : Answer) → Finds (is_filled q) (has_room q) o a → Finds (nat_lt (length t.taken) (length t.sent)) (nat_lt (length t.sent) (length t.taken + row.capacity)) o a
  shown_finds o a h =
      let h1 = subst (λ f. Finds f (has_room q) o a) filled_is h in
      subst (λ r. Finds (nat_lt (length t.taken) (length t.sent)) r o a) room_is h1

  pub shown_condition : (o : Op) → Condition (end_of true q.kind q.bells (role_of o)) o → Condition (end_of true row.kind t.bells (role_of o)) o
  shown_condition o h =
      let h1 = subst (λ k. Condition (end_of true k q.bells (role_of o)) o) shown.kind h in
      subst (λ b. Condition (end_of true row.kind b (role_of o)) o) shown.bells h1

none_of : (item : Option Item) (c : List Cargo) → c ≡ [] → option_to_list item ≡ items_of c → item ≡ None
none_of None c h e = refl
none_of (Some i) c h e = let f : option_to_list (Some i) ≡ [] = e ∙ ap items_of h in cc

one_of : (item : Option Item) (c : List Cargo) (x : Cargo) → c ≡ x ∷ [] → option_to_list item ≡ items_of c → item ≡ Some x.0
one_of None c x h e = let f : option_to_list {X = Item} None ≡ x.0 ∷ [] = e ∙ ap items_of h in cc
one_of (Some i) c x h e = let f : option_to_list (Some i) ≡ x.0 ∷ [] = e ∙ ap items_of h in cc

next_of : (taken : List Item) (i : Item) (rest : List Item) → slice_get (taken ++ i ∷ rest) (length taken) ≡ Some i
next_of [] i rest = refl
next_of (x ∷ taken) i rest = next_of taken i rest

-- a call moves the item that the track says
pub shown_carries : (row : QueueRow) (q : Queue) (t : Track) → IsShown row q t → (o : Op) (c : List Cargo) (item : Option Item) → Carries q o c → option_to_list item ≡ items_of c → CarriesItem row.kind t o item
shown_carries row q t s Do.Take c item h e = (h.0.0, one_of item c h.0 h.1 e, rw (s.lists, h.2) (next_of t.taken h.0.0 (items_of (drop 1 q.entries))))
shown_carries row q t s Do.Put c item h e = (h.0.0, one_of item c h.0 h.1 e, h.2 ∙ s.kind)
shown_carries row q t s Do.See c item h e = none_of item c h e
shown_carries row q t s Do.Room c item h e = none_of item c h e
shown_carries row q t s (Do.Ask x) c item h e = none_of item c h e
shown_carries row q t s (Do.Waive x) c item h e = none_of item c h e
shown_carries row q t s (Do.Wake x) c item h e = none_of item c h e
shown_carries row q t s (Do.Wanted x) c item h e = none_of item c h e
shown_carries row q t s (Do.Settle x) c item h e = none_of item c h e
shown_carries row q t s (Do.Ring x) c item h e = none_of item c h e
shown_carries row q t s (Do.Store w v) c item h e = none_of item c h e

lists_after : (row : QueueRow) (q : Queue) (t : Track) → IsShown row q t → (o : Op) (c : List Cargo) (item : Option Item) → Carries q o c → option_to_list item ≡ items_of c → sent_after t.sent o (option_to_list item) ≡ taken_after t.taken o (option_to_list item) ++ items_of (entries_after q.entries o c)
lists_after row q t s Do.Take c item h e = rw (e, h.1, append_assoc t.taken (h.0.0 ∷ []) (items_of (drop 1 q.entries))) (s.lists ∙ ap (λ es. t.taken ++ items_of es) h.2)
lists_after row q t s Do.Put c item h e = rw (e, map-append (λ x. x.0) q.entries c, ← append_assoc t.taken (items_of q.entries) (items_of c), ← s.lists) refl
lists_after row q t s Do.See c item h e = s.lists
lists_after row q t s Do.Room c item h e = s.lists
lists_after row q t s (Do.Ask x) c item h e = s.lists
lists_after row q t s (Do.Waive x) c item h e = s.lists
lists_after row q t s (Do.Wake x) c item h e = s.lists
lists_after row q t s (Do.Wanted x) c item h e = s.lists
lists_after row q t s (Do.Settle x) c item h e = s.lists
lists_after row q t s (Do.Ring x) c item h e = s.lists
lists_after row q t s (Do.Store w v) c item h e = s.lists

-- after a call the queue is what the track then shows
pub shown_after : (row : QueueRow) (q : Queue) (t : Track) (d : Deed) → IsShown row q t → May q d → IsShown row (after q d) (track_after t d.event)
shown_after row q t d s m = record {
  kind = s.kind;
  capacity = s.capacity;
  producer = s.producer;
  consumer = s.consumer;
  lists = lists_after row q t s d.event.op (cargo_of d) d.event.item m.carries m.item;
  bells = ap (λ b. bells_after b d.event.op d.event.answer) s.bells;
}

-- whose waiters a queue calls, as its track tells it
pub shown_calls : (row : QueueRow) (q : Queue) (t : Track) (actor : ℕ) → IsShown row q t → is_called actor q ≡ calls actor row.producer.0 row.consumer.0 t.bells
shown_calls row q t actor s = rw (s.producer, s.consumer, s.bells) refl
