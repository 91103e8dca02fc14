-- Each call on a ring is the queue law's next event on the queue that the ring shows.
use Rattle.std.proofs.Common.{◌≡◌, ℕ, zero, suc, ◌+◌, ◌≤◌, Bool, true, false, not, ◌||◌, nat_lt, nat_eq, List, [], ◌∷◌, ◌++◌, length, drop, length-append, refl, sym, ap, ◌∙◌, subst, arith, Option, Some, is_some}
use Rattle.std.specs.Prelude.{slice_index, slice_set, if◌then◌else◌}
use Rattle.std.proofs.lemmas.Bool.{lt-ltb, ltb-true}
use Rattle.std.proofs.Math.Nat.{mod-add-mod}
use mathlib.Core.Option as maybe
use Rattle.cargo_core.specs.declared.item.QueueKind.{QueueKind}
use Rattle.wire_core.specs.declared.names.Op.{Op}
use Rattle.wire_core.specs.declared.names.Op.TheVariants as Do
use Rattle.wire_core.specs.declared.names.Side.TheVariants.{Forward, Backward}
use Rattle.wire_core.specs.declared.names.Answer.{Answer}
use Rattle.wire_core.specs.declared.names.Answer.TheVariants.{Done}
use Rattle.wire_core.specs.Bells.{bit}
use Rattle.wire_core.specs.Deeds.{Cargo, answer_of}
use Rattle.wire_core.specs.Ends.{Role, Consumer, Producer, Condition, role_of}
use Rattle.wire_core.specs.Queues.{Queue, queue_after, next_index}
use Rattle.spsc_queue.specs.declared.view.Half.{Half}
use Rattle.spsc_queue.specs.Rule.{Slot, wrap, head_word, tail_word, flag_word, pending_word, laid, ListsHold, EndsHold}
use Rattle.spsc_queue.specs.Steps.{empty_if, after_look, Granted, tells_room, tells_entry, room_ahead, entries_ahead, knows_one, sent_one, took_one, SeeDid, RoomDid, took, sent, after_wake, after_wanted, known_end, CallDid}
use Rattle.spsc_queue.specs.Shown.{ring_queue, half_of, words_after, read_by, IsEvent}
use Rattle.spsc_queue.proofs.Looks.{room_tells, entry_tells}
use Rattle.spsc_queue.proofs.Calls.{granted_some}

pub drop_all : (xs ys : List Cargo) → drop (length xs) (xs ++ ys) ≡ ys
drop_all [] ys = refl
drop_all (x ∷ xs) ys = drop_all xs ys

pub drop_short : (t : ℕ) (xs ys : List Cargo) → t ≤ length xs → drop t (xs ++ ys) ≡ drop t xs ++ ys
drop_short zero xs ys le = refl
drop_short (suc t) [] ys le = absurd (omega arith)
drop_short (suc t) (x ∷ xs) ys le = drop_short t xs ys (omega arith)

pub drop_next : (t : ℕ) (xs : List Cargo) → drop (suc t) xs ≡ drop 1 (drop t xs)
drop_next zero xs = refl
drop_next (suc t) [] = refl
drop_next (suc t) (x ∷ xs) = drop_next t xs

-- what is shown is what is left
pub shown_left : (kind : QueueKind) (n : ℕ) (hs : List (maybe.Option Slot)) (p c : Half) (l : ListsHold kind n hs p c) → drop (length c.entries) p.entries ≡ l.left
shown_left kind n hs p c l = ap (λ (z : List Cargo). drop (length c.entries) z) l.sent ∙ drop_all c.entries l.left

module _ (kind : QueueKind) (n : ℕ) (hs : List (maybe.Option Slot)) (p c : Half) (l : ListsHold kind n hs p c) (pw : p.wild ≡ false) (cw : c.wild ≡ false) (ra : p.ahead + length l.left ≤ n) (ea : c.ahead ≤ length l.left) (flag pending flag_back pending_back : Bool) where
  abbrev words : List ℕ
  words = laid (wrap (length c.entries)) (wrap (length p.entries)) (bit flag) (bit pending) (bit flag_back) (bit pending_back)

  abbrev shown : Queue
  shown = ring_queue kind n words p c

  left_is : drop (length c.entries) p.entries ≡ l.left
  left_is = shown_left kind n hs p c l

  counts : length p.entries ≡ length c.entries + length l.left
  counts = ap length l.sent ∙ length-append c.entries l.left

  entry_answers : tells_entry (length c.entries) (wrap (length p.entries)) ≡ nat_lt 0 (length (drop (length c.entries) p.entries))
  entry_answers = let within : length l.left ≤ n = l.slots.within in let few : n ≤ 32768 = l.few in ap (λ (z : ℕ). tells_entry (length c.entries) (wrap z)) counts ∙ (entry_tells (length c.entries) (length l.left) (omega arith) ∙ ap (λ (z : List Cargo). nat_lt 0 (length z)) (sym left_is))

  room_answers : tells_room n (length p.entries) (wrap (length c.entries)) ≡ nat_lt (length (drop (length c.entries) p.entries)) n
  room_answers = ap (λ (z : ℕ). tells_room n z (wrap (length c.entries))) counts ∙ (room_tells n (length c.entries) (length l.left) l.slots.within l.few ∙ ap (λ (z : List Cargo). nat_lt (length z) n) (sym left_is))

  -- what the looks answer, also where they need no other index
  see_answers : (b : Bool) → knows_one c ≡ b → (b || tells_entry (length c.entries) (slice_index words (if b then head_word else tail_word))) ≡ nat_lt 0 (length (drop (length c.entries) p.entries))
  see_answers true is = let some = ltb-true 0 c.ahead is in sym (ap (λ (z : List Cargo). nat_lt 0 (length z)) left_is ∙ lt-ltb 0 (length l.left) (omega (arith, ea, some)))
  see_answers false is = entry_answers

  room_answers_too : (b : Bool) → knows_one p ≡ b → (b || tells_room n (length p.entries) (slice_index words (if b then tail_word else head_word))) ≡ nat_lt (length (drop (length c.entries) p.entries)) n
  room_answers_too true is = let some = ltb-true 0 p.ahead is in sym (ap (λ (z : List Cargo). nat_lt (length z) n) left_is ∙ lt-ltb (length l.left) n (omega (arith, ra, some)))
  room_answers_too false is = room_answers

  see_after : (b : Bool) (w r k : ℕ) (g : Option Slot) → Granted c.kind b g → ring_queue kind n words p (after_look b w r g k c) ≡ queue_after shown Do.See (answer_of b) []
  see_after true w r k g h = subst (λ (z : Option Slot). ring_queue kind n words p (after_look true w r z k c) ≡ queue_after shown Do.See (answer_of true) []) (sym h.1) refl
  see_after false w r k g h = subst (λ (z : Option Slot). ring_queue kind n words p (after_look false w r z k c) ≡ queue_after shown Do.See (answer_of false) []) (sym h) refl

  see_goes : (b : Bool) (g : Option Slot) → Granted c.kind (b || tells_entry (length c.entries) (slice_index words (if b then head_word else tail_word))) g
      → ring_queue kind n (slice_set words (if b then head_word else tail_word) (slice_index words (if b then head_word else tail_word))) p (after_look (b || tells_entry (length c.entries) (slice_index words (if b then head_word else tail_word))) (if b then head_word else tail_word) (slice_index words (if b then head_word else tail_word)) g (if b then c.ahead else entries_ahead (length c.entries) (slice_index words (if b then head_word else tail_word))) c) ≡ queue_after shown Do.See (answer_of (b || tells_entry (length c.entries) (slice_index words (if b then head_word else tail_word)))) []
  see_goes true g h = see_after true head_word (wrap (length c.entries)) c.ahead g h
  see_goes false g h = see_after (tells_entry (length c.entries) (wrap (length p.entries))) tail_word (wrap (length p.entries)) (entries_ahead (length c.entries) (wrap (length p.entries))) g h

  room_after : (b : Bool) (w r k : ℕ) → ring_queue kind n words (after_look b w r (empty_if b) k p) c ≡ queue_after shown Do.Room (answer_of b) []
  room_after true w r k = refl
  room_after false w r k = refl

  room_goes : (b : Bool) → ring_queue kind n (slice_set words (if b then tail_word else head_word) (slice_index words (if b then tail_word else head_word))) (after_look (b || tells_room n (length p.entries) (slice_index words (if b then tail_word else head_word))) (if b then tail_word else head_word) (slice_index words (if b then tail_word else head_word)) (empty_if (b || tells_room n (length p.entries) (slice_index words (if b then tail_word else head_word)))) (if b then p.ahead else room_ahead n (length p.entries) (slice_index words (if b then tail_word else head_word))) p) c
      ≡ queue_after shown Do.Room (answer_of (b || tells_room n (length p.entries) (slice_index words (if b then tail_word else head_word)))) []
  room_goes true = room_after true tail_word (wrap (length p.entries)) p.ahead
  room_goes false = room_after (tells_room n (length p.entries) (wrap (length c.entries))) head_word (wrap (length c.entries)) (room_ahead n (length p.entries) (wrap (length c.entries)))

  take_after : (x : Cargo) (time : ℕ) → ring_queue kind n (words_after words c Do.Take) p (took_one x time head_word (wrap (length c.entries + 1)) c) ≡ queue_after shown Do.Take Done (x ∷ [])
  take_after x time = let more : length (c.entries ++ x ∷ []) ≡ suc (length c.entries) = length-append c.entries (x ∷ []) ∙ (let z : length c.entries + 1 ≡ suc (length c.entries) = omega arith in z) in
      let left : drop (length (c.entries ++ x ∷ [])) p.entries ≡ drop 1 (drop (length c.entries) p.entries) = ap (λ (z : ℕ). drop z p.entries) more ∙ drop_next (length c.entries) p.entries in
      let next : wrap (length c.entries + 1) ≡ next_index (wrap (length c.entries)) = sym (mod-add-mod (length c.entries) 65536 1) in
      let mine : wrap (length (c.entries ++ x ∷ [])) ≡ next_index (wrap (length c.entries)) = ap wrap (length-append c.entries (x ∷ [])) ∙ next in
      λ i. record (queue_after shown Do.Take Done (x ∷ [])) { entries = left i; indices = record shown.indices { head = next i; taken = mine i } }

  put_after : (x : Cargo) (time : ℕ) → ring_queue kind n (words_after words p Do.Put) (sent_one x time tail_word (wrap (length p.entries + 1)) p) c ≡ queue_after shown Do.Put Done (x ∷ [])
  put_after x time = let k = counts in let within : length c.entries ≤ length p.entries = omega arith in
      let left : drop (length c.entries) (p.entries ++ x ∷ []) ≡ drop (length c.entries) p.entries ++ x ∷ [] = drop_short (length c.entries) p.entries (x ∷ []) within in
      let next : wrap (length p.entries + 1) ≡ next_index (wrap (length p.entries)) = sym (mod-add-mod (length p.entries) 65536 1) in
      let mine : wrap (length (p.entries ++ x ∷ [])) ≡ next_index (wrap (length p.entries)) = ap wrap (length-append p.entries (x ∷ [])) ∙ next in
      λ i. record (queue_after shown Do.Put Done (x ∷ [])) { entries = left i; indices = record shown.indices { tail = next i; sent = mine i } }

  wake_after : (b : Bool) (k : ℕ) → b ≡ pending → ring_queue kind n (words_after words c (Do.Wake Forward)) p (after_wake (pending_word Forward) (bit b) k c) ≡ queue_after shown (Do.Wake Forward) (answer_of (nat_eq (bit b) 1)) []
  wake_after true k is = refl
  wake_after false k is = ap (λ (z : Bool). record (queue_after shown (Do.Wake Forward) (answer_of false) []) { bells = record shown.bells { forward = record shown.bells.forward { pending = nat_eq (bit z) 1 } } }) is

  wake_back_after : (b : Bool) (k : ℕ) → b ≡ pending_back → ring_queue kind n (words_after words p (Do.Wake Backward)) (after_wake (pending_word Backward) (bit b) k p) c ≡ queue_after shown (Do.Wake Backward) (answer_of (nat_eq (bit b) 1)) []
  wake_back_after true k is = refl
  wake_back_after false k is = ap (λ (z : Bool). record (queue_after shown (Do.Wake Backward) (answer_of false) []) { bells = record shown.bells { backward = record shown.bells.backward { pending = nat_eq (bit z) 1 } } }) is

  wanted_after : (b : Bool) → ring_queue kind n words (after_wanted (flag_word Forward) (bit b) p) c ≡ queue_after shown (Do.Wanted Forward) (answer_of (nat_eq (bit b) 0)) []
  wanted_after true = refl
  wanted_after false = refl

  wanted_back_after : (b : Bool) → ring_queue kind n words p (after_wanted (flag_word Backward) (bit b) c) ≡ queue_after shown (Do.Wanted Backward) (answer_of (nat_eq (bit b) 0)) []
  wanted_back_after true = refl
  wanted_back_after false = refl

  flag_tells : (b : Bool) → nat_eq (bit b) 0 ≡ not (nat_eq (bit b) 1)
  flag_tells true = refl
  flag_tells false = refl

  filled_by : (y : Slot) → c.grant ≡ Some y → (x : Cargo) × (y ≡ Some x) × (drop (length c.entries) p.entries ≡ x ∷ drop 1 (drop (length c.entries) p.entries))
  filled_by y is = let o = l.slots.to_consumer y is in (o.0, o.1, subst (λ (z : List Cargo). z ≡ o.0 ∷ drop 1 z) (sym left_is) o.2)

  roomed_by : is_some p.grant ≡ true → nat_lt (length (drop (length c.entries) p.entries)) n ≡ true
  roomed_by is = let g = granted_some p.grant is in ap (λ (z : List Cargo). nat_lt (length z) n) left_is ∙ lt-ltb (length l.left) n ((l.slots.to_producer g.0 g.1).1)

  some_is : (x y : Cargo) → Some x ≡ Some y → x ≡ y
  some_is x y e = cc

  see_event : (a : Answer) (cargo : List Cargo) (h : Half) → SeeDid false n c (read_by words c Do.See) a cargo h → IsEvent kind n words p c Do.See a cargo h
  see_event a cargo h d = record {
    tells = d.1 ∙ ap answer_of (see_answers (knows_one c) refl);
    carries = d.2;
    after = subst (λ (z : Half × (Answer × List Cargo)). ring_queue kind n (words_after words c Do.See) p z.0 ≡ queue_after shown Do.See z.1.0 z.1.1) (λ i. (sym d.0 i, (sym d.1 i, sym d.2 i))) (see_goes (knows_one c) h.grant d.3);
  }

  room_event : (a : Answer) (cargo : List Cargo) (h : Half) → RoomDid false n p (read_by words p Do.Room) a cargo h → IsEvent kind n words p c Do.Room a cargo h
  room_event a cargo h d = record {
    tells = d.1 ∙ ap answer_of (room_answers_too (knows_one p) refl);
    carries = d.2;
    after = subst (λ (z : Half × (Answer × List Cargo)). ring_queue kind n (words_after words p Do.Room) z.0 c ≡ queue_after shown Do.Room z.1.0 z.1.1) (λ i. (sym d.0 i, (sym d.1 i, sym d.2 i))) (room_goes (knows_one p));
  }

  tame_half : (r : Role) → (half_of r p c).wild ≡ false
  tame_half Consumer = cw
  tame_half Producer = pw

  event : (o : Op) (a : Answer) (cargo : List Cargo) (h : Half) → Condition (known_end (half_of (role_of o) p c)) o → CallDid n (half_of (role_of o) p c) o (read_by words (half_of (role_of o) p c) o) a cargo h → IsEvent kind n words p c o a cargo h
  event Do.See a cargo h may d = see_event a cargo h (subst (λ (z : Bool). SeeDid z n c (read_by words c Do.See) a cargo h) cw d)
  event Do.Room a cargo h may d = room_event a cargo h (subst (λ (z : Bool). RoomDid z n p (read_by words p Do.Room) a cargo h) pw d)
  event Do.Take a cargo h may d = let x : Cargo = d.0 in let o = filled_by (Some x) d.3 in let same : x ≡ o.0 = some_is x o.0 o.1 in let knows : h ≡ took_one x d.1 head_word (wrap (length c.entries + 1)) c = d.4 ∙ ap (λ (z : Bool). took z n x d.1 c) cw in record {
    tells = (d.5, ap (λ (z : List Cargo). nat_lt 0 (length z)) o.2 ∙ lt-ltb 0 (suc (length (drop 1 (drop (length c.entries) p.entries)))) (omega arith));
    carries = (o.0, d.2 ∙ ap (λ (z : Cargo). z ∷ []) same, o.2);
    after = subst (λ (z : Half × (Answer × List Cargo)). ring_queue kind n (words_after words c Do.Take) p z.0 ≡ queue_after shown Do.Take z.1.0 z.1.1) (λ i. (sym knows i, (sym d.5 i, sym d.2 i))) (take_after x d.1);
  }
  event Do.Put a cargo h may d = let x : Cargo = d.0 in let knows : h ≡ sent_one x d.1 tail_word (wrap (length p.entries + 1)) p = d.3 ∙ ap (λ (z : Bool). sent z n x d.1 p) pw in record {
    tells = (d.4, roomed_by may.1);
    carries = (x, d.2, d.5 ∙ l.producer_kind);
    after = subst (λ (z : Half × (Answer × List Cargo)). ring_queue kind n (words_after words p Do.Put) z.0 c ≡ queue_after shown Do.Put z.1.0 z.1.1) (λ i. (sym knows i, (sym d.4 i, sym d.2 i))) (put_after x d.1);
  }
  event (Do.Wake Forward) a cargo h may d = record {
    tells = d.1;
    carries = d.2;
    after = subst (λ (z : Half × (Answer × List Cargo)). ring_queue kind n (words_after words c (Do.Wake Forward)) p z.0 ≡ queue_after shown (Do.Wake Forward) z.1.0 z.1.1) (λ i. (sym d.0 i, (sym d.1 i, sym d.2 i))) (wake_after pending h.woken refl);
  }
  event (Do.Wake Backward) a cargo h may d = record {
    tells = d.1;
    carries = d.2;
    after = subst (λ (z : Half × (Answer × List Cargo)). ring_queue kind n (words_after words p (Do.Wake Backward)) z.0 c ≡ queue_after shown (Do.Wake Backward) z.1.0 z.1.1) (λ i. (sym d.0 i, (sym d.1 i, sym d.2 i))) (wake_back_after pending_back h.woken refl);
  }
  event (Do.Wanted Forward) a cargo h may d = record {
    tells = d.1 ∙ ap answer_of (flag_tells flag);
    carries = d.2;
    after = subst (λ (z : Half × (Answer × List Cargo)). ring_queue kind n words z.0 c ≡ queue_after shown (Do.Wanted Forward) z.1.0 z.1.1) (λ i. (sym d.0 i, (sym d.1 i, sym d.2 i))) (wanted_after flag);
  }
  event (Do.Wanted Backward) a cargo h may d = record {
    tells = d.1 ∙ ap answer_of (flag_tells flag_back);
    carries = d.2;
    after = subst (λ (z : Half × (Answer × List Cargo)). ring_queue kind n words p z.0 ≡ queue_after shown (Do.Wanted Backward) z.1.0 z.1.1) (λ i. (sym d.0 i, (sym d.1 i, sym d.2 i))) (wanted_back_after flag_back);
  }
  event (Do.Ask Forward) a cargo h may d = record {
    tells = d.1;
    carries = d.2;
    after = subst (λ (z : Half × (Answer × List Cargo)). ring_queue kind n (words_after words c (Do.Ask Forward)) p z.0 ≡ queue_after shown (Do.Ask Forward) z.1.0 z.1.1) (λ i. (sym d.0 i, (sym d.1 i, sym d.2 i))) refl;
  }
  event (Do.Ask Backward) a cargo h may d = record {
    tells = d.1;
    carries = d.2;
    after = subst (λ (z : Half × (Answer × List Cargo)). ring_queue kind n (words_after words p (Do.Ask Backward)) z.0 c ≡ queue_after shown (Do.Ask Backward) z.1.0 z.1.1) (λ i. (sym d.0 i, (sym d.1 i, sym d.2 i))) refl;
  }
  event (Do.Waive Forward) a cargo h may d = record {
    tells = d.1;
    carries = d.2;
    after = subst (λ (z : Half × (Answer × List Cargo)). ring_queue kind n (words_after words c (Do.Waive Forward)) p z.0 ≡ queue_after shown (Do.Waive Forward) z.1.0 z.1.1) (λ i. (sym d.0 i, (sym d.1 i, sym d.2 i))) refl;
  }
  event (Do.Waive Backward) a cargo h may d = record {
    tells = d.1;
    carries = d.2;
    after = subst (λ (z : Half × (Answer × List Cargo)). ring_queue kind n (words_after words p (Do.Waive Backward)) z.0 c ≡ queue_after shown (Do.Waive Backward) z.1.0 z.1.1) (λ i. (sym d.0 i, (sym d.1 i, sym d.2 i))) refl;
  }
  event (Do.Settle Forward) a cargo h may d = record {
    tells = d.1;
    carries = d.2;
    after = subst (λ (z : Half × (Answer × List Cargo)). ring_queue kind n (words_after words p (Do.Settle Forward)) z.0 c ≡ queue_after shown (Do.Settle Forward) z.1.0 z.1.1) (λ i. (sym d.0 i, (sym d.1 i, sym d.2 i))) refl;
  }
  event (Do.Settle Backward) a cargo h may d = record {
    tells = d.1;
    carries = d.2;
    after = subst (λ (z : Half × (Answer × List Cargo)). ring_queue kind n (words_after words c (Do.Settle Backward)) p z.0 ≡ queue_after shown (Do.Settle Backward) z.1.0 z.1.1) (λ i. (sym d.0 i, (sym d.1 i, sym d.2 i))) refl;
  }
  event (Do.Ring Forward) a cargo h may d = record {
    tells = d.1;
    carries = d.2;
    after = subst (λ (z : Half × (Answer × List Cargo)). ring_queue kind n (words_after words p (Do.Ring Forward)) z.0 c ≡ queue_after shown (Do.Ring Forward) z.1.0 z.1.1) (λ i. (sym d.0 i, (sym d.1 i, sym d.2 i))) refl;
  }
  event (Do.Ring Backward) a cargo h may d = record {
    tells = d.1;
    carries = d.2;
    after = subst (λ (z : Half × (Answer × List Cargo)). ring_queue kind n (words_after words c (Do.Ring Backward)) p z.0 ≡ queue_after shown (Do.Ring Backward) z.1.0 z.1.1) (λ i. (sym d.0 i, (sym d.1 i, sym d.2 i))) refl;
  }
  event (Do.Store w v) a cargo h may d = absurd (let z : false ≡ true = sym (tame_half (role_of (Do.Store w v))) ∙ d.3 in cc)

-- the same on the words as they are
pub is_event : (kind : QueueKind) (n : ℕ) (words : List ℕ) (hs : List (maybe.Option Slot)) (p c : Half) (o : Op) (a : Answer) (cargo : List Cargo) (h : Half) → EndsHold false kind n words hs p c
    → Condition (known_end (half_of (role_of o) p c)) o → CallDid n (half_of (role_of o) p c) o (read_by words (half_of (role_of o) p c) o) a cargo h → IsEvent kind n words p c o a cargo h
is_event kind n ws hs p c o a cargo h e may did = let s = e.shared in subst (λ (z : List ℕ). IsEvent kind n z p c o a cargo h) (sym s.words_are)
    (event kind n hs p c e.lists e.producer_sort e.consumer_sort s.room_ahead s.entries_ahead s.flag s.pending s.flag_back s.pending_back o a cargo h may (subst (λ (z : List ℕ). CallDid n (half_of (role_of o) p c) o (read_by z (half_of (role_of o) p c) o) a cargo h) s.words_are did))
