-- Each call on a wild ring moves what the queue law moves, whatever stands in its six words.
use Rattle.std.proofs.Common.{◌≡◌, ℕ, suc, ◌+◌, ◌≤◌, Bool, true, false, not, nat_lt, nat_eq, List, [], ◌∷◌, ◌++◌, length, drop, length-append, refl, sym, ap, ◌∙◌, subst, arith, Some}
use Rattle.std.specs.Prelude.{slice_index}
use Rattle.std.proofs.lemmas.Bool.{lt-ltb}
use mathlib.Core.Option as maybe
use Rattle.cargo_core.specs.declared.item.QueueKind.{QueueKind}
use Rattle.wire_core.specs.declared.names.Op.{Op}
use Rattle.wire_core.specs.declared.names.Op.TheVariants as Do
use Rattle.wire_core.specs.declared.names.Answer.{Answer}
use Rattle.wire_core.specs.declared.names.Answer.TheVariants.{Yes, No}
use Rattle.wire_core.specs.Bells.{bit}
use Rattle.wire_core.specs.Deeds.{Cargo, answer_of}
use Rattle.wire_core.specs.Ends.{Role, Consumer, Producer, Condition, role_of}
use Rattle.wire_core.specs.Queues.{is_filled, has_room}
use Rattle.spsc_queue.specs.declared.view.Half.{Half}
use Rattle.spsc_queue.specs.Rule.{Slot, guard_word, EndsHold}
use Rattle.spsc_queue.specs.Steps.{EntryTold, RoomTold, SeeDid, RoomDid, fits_entry, fits_room, EndDid, known_end, last_word, last_value}
use Rattle.spsc_queue.specs.Shown.{ring_queue, half_of, entries_with, WasRead, IsWildEvent}
use Rattle.spsc_queue.proofs.Calls.{granted_some}
use Rattle.spsc_queue.proofs.Ends.{counts, some_is}
use Rattle.spsc_queue.proofs.Guards.{first_guard, last_guard}
use Rattle.spsc_queue.proofs.WildEnds.{entry_guard_is, room_guard_is}
use Rattle.spsc_queue.proofs.Events.{shown_left, drop_short, drop_next}
use Rattle.spsc_queue.proofs.Rows.{end_did, see_same, room_same, took_entries, sent_entries}

answer_yes : (b : Bool) → answer_of b ≡ Yes → b ≡ true
answer_yes true is = refl
answer_yes false is = cc

pub beginning : (wild : Bool) (kind : QueueKind) (n : ℕ) (ws : List ℕ) (hs : List (maybe.Option Slot)) (p c : Half) → EndsHold wild kind n ws hs p c → (left : List Cargo) × (p.entries ≡ c.entries ++ left) × (length left ≤ n)
beginning wild kind n ws hs p c e = (e.lists.left, e.lists.sent, e.lists.slots.within)

module _ (kind : QueueKind) (n : ℕ) (ws : List ℕ) (hs : List (maybe.Option Slot)) (p c : Half) (e : EndsHold true kind n ws hs p c) where
  abbrev shown : List Cargo
  shown = drop (length c.entries) p.entries

  shown_is : shown ≡ e.lists.left
  shown_is = shown_left kind n hs p c e.lists

  pub guards_are : (slice_index ws (guard_word n (length c.entries)) ≡ bit (is_filled (ring_queue kind n ws p c))) × (slice_index ws (guard_word n (length p.entries)) ≡ bit (not (has_room (ring_queue kind n ws p c))))
  guards_are = (
    first_guard n (length c.entries) ws e.lists.left e.lists.some_place e.shared ∙ ap (λ (z : List Cargo). bit (nat_lt 0 (length z))) (sym shown_is),
    ap (λ (z : ℕ). slice_index ws (guard_word n z)) (counts kind n ws hs p c e.lists) ∙ (last_guard n (length c.entries) ws e.lists.left e.lists.some_place e.lists.slots.within e.shared ∙ ap (λ (z : List Cargo). bit (not (nat_lt (length z) n))) (sym shown_is)),
  )

  -- where a look answers yes, an entry stands
  entry_finds : (fits : Bool) (x : ℕ) (a : Answer) (h : Half) → EntryTold fits n c x (last_value h) a h → slice_index ws (last_word h) ≡ last_value h → a ≡ Yes → nat_lt 0 (length shown) ≡ true
  entry_finds false x a h d read said = let z : No ≡ Yes = sym d.1 ∙ said in cc
  entry_finds true x a h d read said = let at : slice_index ws (guard_word n (length c.entries)) ≡ last_value h = ap (slice_index ws) (sym (ap last_word d.0)) ∙ read in
      ap (λ (z : List Cargo). nat_lt 0 (length z)) shown_is ∙ (sym (entry_guard_is kind n ws hs p c e) ∙ (ap (λ (z : ℕ). nat_eq z 1) at ∙ answer_yes (nat_eq (last_value h) 1) (sym d.1 ∙ said)))

  -- and room
  room_finds : (fits : Bool) (x : ℕ) (a : Answer) (h : Half) → RoomTold fits n p x (last_value h) a h → slice_index ws (last_word h) ≡ last_value h → a ≡ Yes → nat_lt (length shown) n ≡ true
  room_finds false x a h d read said = let z : No ≡ Yes = sym d.1 ∙ said in cc
  room_finds true x a h d read said = let at : slice_index ws (guard_word n (length p.entries)) ≡ last_value h = ap (slice_index ws) (sym (ap last_word d.0)) ∙ read in
      ap (λ (z : List Cargo). nat_lt (length z) n) shown_is ∙ (sym (room_guard_is kind n ws hs p c e) ∙ (ap (λ (z : ℕ). nat_eq z 0) at ∙ answer_yes (nat_eq (last_value h) 0) (sym d.1 ∙ said)))

  -- a call that moves nothing leaves the entries
  stay : (r : Role) (h : Half) → h.entries ≡ (half_of r p c).entries → entries_with r p c h ≡ shown
  stay Consumer h is = ap (λ (z : List Cargo). drop (length z) p.entries) is
  stay Producer h is = ap (drop (length c.entries)) is

  took_shown : (x : Cargo) (h : Half) → h.entries ≡ c.entries ++ x ∷ [] → drop (length h.entries) p.entries ≡ drop 1 shown
  took_shown x h is = let more : length (c.entries ++ x ∷ []) ≡ suc (length c.entries) = length-append c.entries (x ∷ []) ∙ (let z : length c.entries + 1 ≡ suc (length c.entries) = omega arith in z) in
      ap (λ (z : ℕ). drop z p.entries) (ap length is ∙ more) ∙ drop_next (length c.entries) p.entries

  put_shown : (x : Cargo) (h : Half) → h.entries ≡ p.entries ++ x ∷ [] → drop (length c.entries) h.entries ≡ shown ++ x ∷ []
  put_shown x h is = let k = counts kind n ws hs p c e.lists in ap (drop (length c.entries)) is ∙ drop_short (length c.entries) p.entries (x ∷ []) (omega (arith, k))

  see_event : (a : Answer) (cargo : List Cargo) (h : Half) → EndDid n c Do.See a cargo h → WasRead ws Do.See h → IsWildEvent kind n ws p c Do.See a cargo h
  see_event a cargo h d read = let w : SeeDid true n c (last_value h) a cargo h = subst (λ (z : Bool). SeeDid z n c (last_value h) a cargo h) e.consumer_sort d in record {
    finds = entry_finds (fits_entry n (length c.entries) w.0) w.0 a h w.2 read;
    carries = w.1;
    after = stay Consumer h (see_same n c (last_value h) a cargo h (λ (z : Half). z.entries) (λ g b w v k o. refl) (λ g w v. refl) true w);
    end = end_did n c Do.See a cargo h d;
  }

  room_event : (a : Answer) (cargo : List Cargo) (h : Half) → EndDid n p Do.Room a cargo h → WasRead ws Do.Room h → IsWildEvent kind n ws p c Do.Room a cargo h
  room_event a cargo h d read = let w : RoomDid true n p (last_value h) a cargo h = subst (λ (z : Bool). RoomDid z n p (last_value h) a cargo h) e.producer_sort d in record {
    finds = room_finds (fits_room n (length p.entries) w.0) w.0 a h w.2 read;
    carries = w.1;
    after = stay Producer h (room_same n p (last_value h) a cargo h (λ (z : Half). z.entries) (λ g b w v k o. refl) (λ g w v. refl) true w);
    end = end_did n p Do.Room a cargo h d;
  }

  pub is_wild_event : (o : Op) (a : Answer) (cargo : List Cargo) (h : Half) → Condition (known_end (half_of (role_of o) p c)) o → EndDid n (half_of (role_of o) p c) o a cargo h → WasRead ws o h → IsWildEvent kind n ws p c o a cargo h
  is_wild_event Do.See a cargo h may d read = see_event a cargo h d read
  is_wild_event Do.Room a cargo h may d read = room_event a cargo h d read
  is_wild_event Do.Take a cargo h may d read = let x : Cargo = d.0 in let o = e.lists.slots.to_consumer (Some x) d.3 in let same : x ≡ o.0 = some_is x o.0 o.1 in let first : shown ≡ o.0 ∷ drop 1 shown = subst (λ (z : List Cargo). z ≡ o.0 ∷ drop 1 z) (sym shown_is) o.2 in record {
    finds = ap (λ (z : List Cargo). nat_lt 0 (length z)) first ∙ lt-ltb 0 (suc (length (drop 1 shown))) (omega arith);
    carries = (o.0, d.2 ∙ ap (λ (z : Cargo). z ∷ []) same, first);
    after = took_shown x h (ap (λ (z : Half). z.entries) d.4 ∙ took_entries n c x d.1 c.wild);
    end = end_did n c Do.Take a cargo h d;
  }
  is_wild_event Do.Put a cargo h may d read = let x : Cargo = d.0 in let g = granted_some p.grant may.1 in record {
    finds = ap (λ (z : List Cargo). nat_lt (length z) n) shown_is ∙ lt-ltb (length e.lists.left) n ((e.lists.slots.to_producer g.0 g.1).1);
    carries = (x, d.2, d.5 ∙ e.lists.producer_kind);
    after = put_shown x h (ap (λ (z : Half). z.entries) d.3 ∙ sent_entries n p x d.1 p.wild) ∙ ap (λ (z : List Cargo). shown ++ z) (sym d.2);
    end = end_did n p Do.Put a cargo h d;
  }
  is_wild_event (Do.Ask s) a cargo h may d read = record { finds = tt; carries = d.2; after = stay (role_of (Do.Ask s)) h (ap (λ (z : Half). z.entries) d.0); end = end_did n (half_of (role_of (Do.Ask s)) p c) (Do.Ask s) a cargo h d }
  is_wild_event (Do.Waive s) a cargo h may d read = record { finds = tt; carries = d.2; after = stay (role_of (Do.Waive s)) h (ap (λ (z : Half). z.entries) d.0); end = end_did n (half_of (role_of (Do.Waive s)) p c) (Do.Waive s) a cargo h d }
  is_wild_event (Do.Wake s) a cargo h may d read = record { finds = tt; carries = d.2; after = stay (role_of (Do.Wake s)) h (ap (λ (z : Half). z.entries) d.0); end = end_did n (half_of (role_of (Do.Wake s)) p c) (Do.Wake s) a cargo h d }
  is_wild_event (Do.Wanted s) a cargo h may d read = record { finds = tt; carries = d.2; after = stay (role_of (Do.Wanted s)) h (ap (λ (z : Half). z.entries) d.0); end = end_did n (half_of (role_of (Do.Wanted s)) p c) (Do.Wanted s) a cargo h d }
  is_wild_event (Do.Settle s) a cargo h may d read = record { finds = tt; carries = d.2; after = stay (role_of (Do.Settle s)) h (ap (λ (z : Half). z.entries) d.0); end = end_did n (half_of (role_of (Do.Settle s)) p c) (Do.Settle s) a cargo h d }
  is_wild_event (Do.Ring s) a cargo h may d read = record { finds = tt; carries = d.2; after = stay (role_of (Do.Ring s)) h (ap (λ (z : Half). z.entries) d.0); end = end_did n (half_of (role_of (Do.Ring s)) p c) (Do.Ring s) a cargo h d }
  is_wild_event (Do.Store w v) a cargo h may d read = record { finds = tt; carries = d.2; after = stay (role_of (Do.Store w v)) h (ap (λ (z : Half). z.entries) d.0); end = end_did n (half_of (role_of (Do.Store w v)) p c) (Do.Store w v) a cargo h d }
