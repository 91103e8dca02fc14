-- What a step of one end does to the words, the slots and the two ends.
use Rattle.std.proofs.Common.{◌≡◌, ℕ, zero, suc, ◌+◌, ◌%◌, ◌<◌, ◌≤◌, Bool, true, false, nat_lt, nat_eq, List, [], ◌∷◌, ◌++◌, length, drop, set, refl, sym, ap, ◌∙◌, subst, arith, length-append, append_assoc, Option, Some, None}
use Rattle.std.specs.Prelude.{All, slice_index}
use Rattle.std.proofs.lemmas.List.Elements.{All-append}
use Rattle.std.proofs.lemmas.Bool.{ltb-true, lt-ltb}
use mathlib.Core.Option.{none, some}
use mathlib.Core.Option as maybe
use lib.ListN.{get_elem?}
use Rattle.atomic_table.specs.Table.{Act, keeps, takes, Valid, homes_after, carried_after, gives}
use Rattle.cargo_core.specs.declared.item.QueueKind.{QueueKind}
use Rattle.cargo_core.specs.Items.{kind_of}
use Rattle.wire_core.specs.declared.names.BellState.{BellState}
use Rattle.wire_core.specs.declared.names.Side.TheVariants.{Forward, Backward}
use Rattle.wire_core.specs.declared.names.Waiter.{Waiter}
use Rattle.wire_core.specs.declared.names.Ringer.{Ringer}
use Rattle.wire_core.specs.declared.names.Ringer.TheVariants as Rung
use Rattle.wire_core.specs.Bells.{BellHolds, bit}
use Rattle.wire_core.specs.Deeds.{Cargo, answer_of}
use Rattle.wire_core.specs.Ends.{is_clear, is_free_or_put, looked_waiter}
use Rattle.spsc_queue.specs.declared.view.Half.{Half}
use Rattle.spsc_queue.specs.Rule.{Slot, wrap, head_word, tail_word, flag_word, pending_word, laid, SlotsHold, ListsHold, WordsHold, SharedHold, EndsHold, WordsTold, forward_bell, backward_bell}
use Rattle.spsc_queue.specs.Steps.{slots_held, after_look, empty_if, tells_room, tells_entry, room_ahead, entries_ahead, sent_one, took_one, Granted, asked, waived, after_wake, after_wanted, after_settle, after_ring, sent_home}
use Rattle.spsc_queue.proofs.Places.{grants_room, takes_in, grants_entry, takes_out, room_comes_back, entry_comes_back}
use Rattle.spsc_queue.proofs.Looks.{room_tells, entry_tells, room_counts, entries_count}
use Rattle.spsc_queue.proofs.Told.{bit_is, wish_told, waive_told, wake_told, settle_told, ring_told}
use Rattle.wire_core.proofs.BellLemmas.{look_holds, ask_holds, waive_holds, wake_holds, wanted_holds, settle_holds, ring_holds, move_holds, beside_holds}

abbrev pub bell : Bool → Bool → Waiter → Ringer → BellState
bell flag pending w r = record { flag = flag; pending = pending; waiter = w; ringer = r }

-- a look that answers whether the bell is ready
looks : (flag pending : Bool) (w : Waiter) (r : Ringer) (ready sure : Bool) (count : ℕ) → is_clear w ≡ false → sure ≡ ready → BellHolds (bell flag pending w r) ready count → BellHolds (bell flag pending (looked_waiter w (answer_of sure)) r) ready count
looks flag pending w r ready sure count calm same h = subst (λ (z : Bool). BellHolds (bell flag pending (looked_waiter w (answer_of z)) r) ready count) (sym same) (look_holds (bell flag pending w r) ready count calm h)

-- the ringer moved an entry
moves : (flag pending : Bool) (w : Waiter) (r : Ringer) (ready ready' : Bool) (count count' : ℕ) → is_free_or_put r ≡ true → count' ≡ count + 1 → BellHolds (bell flag pending w r) ready count → BellHolds (bell flag pending w Rung.Put) ready' count'
moves flag pending w r ready ready' count count' may more h = subst (λ (z : ℕ). BellHolds (bell flag pending w Rung.Put) ready' z) (sym more) (move_holds (bell flag pending w r) ready ready' count may h)

pub All-one : (P : Cargo → Type 0) (x : Cargo) → P x → All P (x ∷ [])
All-one P x h zero d lt = h
All-one P x h (suc k) d lt = absurd (omega arith)

pub All-at : (P : Cargo → Type 0) (xs : List Cargo) (y : Cargo) (ys : List Cargo) → All P (xs ++ y ∷ ys) → P y
All-at P [] y ys h = h 0 y (omega arith)
All-at P (x ∷ xs) y ys h = All-at P xs y ys (λ k d lt. h (suc k) d (omega arith))

some_first : (ts : List ℕ) → 0 < length ts → (time : ℕ) × (times : List ℕ) × (ts ≡ time ∷ times)
some_first [] lt = absurd (omega arith)
some_first (t ∷ ts) lt = (t, ts, refl)

pub some_is : (x y : Cargo) → Some x ≡ Some y → x ≡ y
some_is x y e = cc

module _ (kind : QueueKind) (n : ℕ) (ws : List ℕ) (hs : List (maybe.Option Slot)) (p c : Half) where
  -- as many were sent as were taken and are left
  abbrev pub counts : (l : ListsHold kind n hs p c) → length p.entries ≡ length c.entries + length l.left
  counts l = ap length l.sent ∙ length-append c.entries l.left

  -- the slot behind the last entry
  abbrev pub last_place : (l : ListsHold kind n hs p c) → length p.entries % n ≡ (length c.entries + length l.left) % n
  last_place l = ap (λ (z : ℕ). z % n) (counts l)

  -- one more was taken
  pub one_taken : (x : Cargo) → suc (length c.entries) ≡ length (c.entries ++ x ∷ [])
  one_taken x = let more = length-append c.entries (x ∷ []) in omega (arith, more)

  pub no_more : (t : ℕ) → t ≡ t + 0
  no_more t = omega arith

  pub times_left : (l : ListsHold kind n hs p c) (x : Cargo) (time : ℕ) (times : List ℕ) → l.later ≡ time ∷ times → l.left ≡ x ∷ drop 1 l.left → length times ≡ length (drop 1 l.left)
  times_left l x time times later first = omega (arith, ap length first, ap length later, l.timed)

  -- new grants and slots, with the same entries and kinds
  abbrev pub relist : (l : ListsHold kind n hs p c) (p' c' : Half) (hs' : List (maybe.Option Slot)) → p'.entries ≡ p.entries → p'.times ≡ p.times → p'.kind ≡ p.kind → c'.entries ≡ c.entries → c'.times ≡ c.times → c'.kind ≡ c.kind
      → SlotsHold n hs' (length c.entries) l.left p'.grant c'.grant → ListsHold kind n hs' p' c'
  relist l p' c' hs' pe pt pk ce ct ck slots = record {
    left = l.left;
    some_place = l.some_place;
    few = l.few;
    divides = l.divides;
    sent = pe ∙ (l.sent ∙ ap (λ (z : List Cargo). z ++ l.left) (sym ce));
    later = l.later;
    times = pt ∙ (l.times ∙ ap (λ (z : List ℕ). z ++ l.later) (sym ct));
    timed = l.timed;
    kinds = subst (All (λ (z : Cargo). kind_of z.0 ≡ kind)) (sym pe) l.kinds;
    producer_kind = pk ∙ l.producer_kind;
    consumer_kind = ck ∙ l.consumer_kind;
    slots = subst (λ (z : List Cargo). SlotsHold n hs' (length z) l.left p'.grant c'.grant) (sym ce) slots;
  }

  -- the seat has the slots m, and there is an act for the look that answers b where r stands in the
  -- word w, by which the producer may put k entries
  abbrev pub LooksRoom : (wild b : Bool) → (w r k : ℕ) → List (ℕ × Slot) → Type 0
  LooksRoom wild b w r k m = (a : Act Slot) × Valid hs m a × EndsHold wild kind n ws (homes_after hs m a) (after_look b w r (empty_if b) k p) c × (carried_after m a ≡ slots_held (empty_if b) (length p.entries % n))

  -- the producer looks, and the slots are now hs'
  pub room_ends : (wild : Bool) (e : EndsHold wild kind n ws hs p c) (b : Bool) (w r k : ℕ) (hs' : List (maybe.Option Slot)) → SharedHold wild n ws e.lists.left (after_look b w r (empty_if b) k p) c → SlotsHold n hs' (length c.entries) e.lists.left (empty_if b) c.grant
      → EndsHold wild kind n ws hs' (after_look b w r (empty_if b) k p) c
  room_ends wild e b w r k hs' shared slots = record {
    lists = relist e.lists (after_look b w r (empty_if b) k p) c hs' refl refl refl refl refl refl slots;
    producer_sort = e.producer_sort;
    consumer_sort = e.consumer_sort;
    shared = shared;
  }

  -- what the words are then, on a ring that isn't wild
  room_shared : (e : EndsHold false kind n ws hs p c) (b : Bool) (w r k : ℕ) → is_clear p.waiter ≡ false → b ≡ nat_lt (length e.lists.left) n → k + length e.lists.left ≤ n → WordsHold n ws e.lists.left (after_look b w r (empty_if b) k p) c
  room_shared e b w r k calm is fits = record {
    flag = e.shared.flag;
    pending = e.shared.pending;
    flag_back = e.shared.flag_back;
    pending_back = e.shared.pending_back;
    words_are = e.shared.words_are;
    forward_told = e.shared.forward_told;
    backward_told = e.shared.backward_told;
    room_ahead = fits;
    entries_ahead = e.shared.entries_ahead;
    forward = e.shared.forward;
    backward = looks e.shared.flag_back e.shared.pending_back p.waiter c.ringer (nat_lt (length e.lists.left) n) b (length c.entries) calm is e.shared.backward;
  }

  pub room_goes : (wild : Bool) (e : EndsHold wild kind n ws hs p c) (b : Bool) (w r k : ℕ) (g : Option Slot) → SharedHold wild n ws e.lists.left (after_look b w r (empty_if b) k p) c → b ≡ nat_lt (length e.lists.left) n → p.grant ≡ g → LooksRoom wild b w r k (slots_held g (length p.entries % n))
  room_goes wild e true w r k None shared is gr = let room : length e.lists.left < n = ltb-true (length e.lists.left) n (sym is) in let slots = subst (λ (z : Option Slot). SlotsHold n hs (length c.entries) e.lists.left z c.grant) gr e.lists.slots in (
    takes (length p.entries % n) None,
    ap (get_elem? hs) (last_place e.lists) ∙ slots.empty (length e.lists.left) (omega arith) room (λ _. refl),
    room_ends wild e true w r k (set hs (length p.entries % n) none) shared (grants_room n (length c.entries) hs e.lists.left c.grant (length p.entries % n) (last_place e.lists) room slots),
    refl,
  )
  room_goes wild e true w r k (Some y) shared is gr = let slots = subst (λ (z : Option Slot). SlotsHold n hs (length c.entries) e.lists.left z c.grant) gr e.lists.slots in let y_is : y ≡ None = (slots.to_producer y refl).0 in (
    keeps,
    tt,
    room_ends wild e true w r k hs shared (subst (λ (z : Slot). SlotsHold n hs (length c.entries) e.lists.left (Some z) c.grant) y_is slots),
    ap (λ (z : Slot). (length p.entries % n, z) ∷ []) y_is,
  )
  room_goes wild e false w r k None shared is gr = let slots = subst (λ (z : Option Slot). SlotsHold n hs (length c.entries) e.lists.left z c.grant) gr e.lists.slots in (
    keeps,
    tt,
    room_ends wild e false w r k hs shared slots,
    refl,
  )
  room_goes wild e false w r k (Some y) shared is gr = let room : length e.lists.left < n = (e.lists.slots.to_producer y gr).1 in absurd (let z : false ≡ true = is ∙ lt-ltb (length e.lists.left) n room in cc)

  -- the lists after a put, whose step was on the word w
  abbrev pub put_lists : (l : ListsHold kind n hs p c) (x : Cargo) (time w new i : ℕ) → kind_of x.0 ≡ kind → p.grant ≡ Some None → i ≡ length p.entries % n → ListsHold kind n (set hs i (some (Some x))) (sent_one x time w new p) c
  put_lists l x time w new i fits gr at = record {
    left = l.left ++ x ∷ [];
    some_place = l.some_place;
    few = l.few;
    divides = l.divides;
    sent = ap (λ (z : List Cargo). z ++ x ∷ []) l.sent ∙ append_assoc c.entries l.left (x ∷ []);
    later = l.later ++ time ∷ [];
    times = ap (λ (z : List ℕ). z ++ time ∷ []) l.times ∙ append_assoc c.times l.later (time ∷ []);
    timed = length-append l.later (time ∷ []) ∙ (ap (λ (z : ℕ). z + 1) l.timed ∙ sym (length-append l.left (x ∷ [])));
    kinds = All-append (λ (z : Cargo). kind_of z.0 ≡ kind) p.entries (x ∷ []) l.kinds (All-one (λ (z : Cargo). kind_of z.0 ≡ kind) x fits);
    producer_kind = l.producer_kind;
    consumer_kind = l.consumer_kind;
    slots = takes_in n (length c.entries) hs l.left c.grant x i (at ∙ last_place l) (subst (λ (z : Option Slot). SlotsHold n hs (length c.entries) l.left z c.grant) gr l.slots);
  }

  -- a store to the tail, with the producer's slot filled
  pub put_ends : (e : EndsHold false kind n ws hs p c) (x : Cargo) (time new i : ℕ) → kind_of x.0 ≡ kind → is_clear p.waiter ≡ false → is_free_or_put p.ringer ≡ true → p.grant ≡ Some None → new ≡ wrap (length p.entries + 1) → i ≡ length p.entries % n
      → EndsHold false kind n (set ws tail_word new) (set hs i (some (Some x))) (sent_one x time tail_word new p) c
  put_ends e x time new i fits calm may gr is at = let more : length (p.entries ++ x ∷ []) ≡ length p.entries + 1 = length-append p.entries (x ∷ []) in
      let slots = subst (λ (z : Option Slot). SlotsHold n hs (length c.entries) e.lists.left z c.grant) gr e.lists.slots in record {
        lists = put_lists e.lists x time tail_word new i fits gr at;
        producer_sort = e.producer_sort;
        consumer_sort = e.consumer_sort;
        shared = record {
          flag = e.shared.flag;
          pending = e.shared.pending;
          flag_back = e.shared.flag_back;
          pending_back = e.shared.pending_back;
          words_are = ap (λ (z : List ℕ). set z tail_word new) e.shared.words_are ∙ ap (λ (z : ℕ). laid (wrap (length c.entries)) z (bit e.shared.flag) (bit e.shared.pending) (bit e.shared.flag_back) (bit e.shared.pending_back)) (is ∙ ap wrap (sym more));
          forward_told = e.shared.forward_told;
          backward_told = e.shared.backward_told;
          room_ahead = let fits = e.shared.room_ahead in let lt = (slots.to_producer None refl).1 in let long = length-append e.lists.left (x ∷ []) in omega (arith, fits, lt, long);
          entries_ahead = let fits = e.shared.entries_ahead in let long = length-append e.lists.left (x ∷ []) in omega (arith, fits, long);
          forward = moves e.shared.flag e.shared.pending c.waiter p.ringer (nat_lt 0 (length e.lists.left)) (nat_lt 0 (length (e.lists.left ++ x ∷ []))) (length p.entries) (length (p.entries ++ x ∷ [])) may more e.shared.forward;
          backward = beside_holds (bell e.shared.flag_back e.shared.pending_back p.waiter c.ringer) (nat_lt (length e.lists.left) n) (nat_lt (length (e.lists.left ++ x ∷ [])) n) (length c.entries) calm e.shared.backward;
        };
      }

  -- a load of the head by the producer
  pub room_step : (e : EndsHold false kind n ws hs p c) → is_clear p.waiter ≡ false → LooksRoom false (tells_room n (length p.entries) (wrap (length c.entries))) head_word (wrap (length c.entries)) (room_ahead n (length p.entries) (wrap (length c.entries))) (slots_held p.grant (length p.entries % n))
  room_step e calm = let t : ℕ = length c.entries in let k : ℕ = length e.lists.left in let w : ℕ = wrap t in
      let is : tells_room n (length p.entries) w ≡ nat_lt k n = ap (λ (z : ℕ). tells_room n z w) (counts e.lists) ∙ room_tells n t k e.lists.slots.within e.lists.few in
      let fits : room_ahead n (length p.entries) w + k ≤ n = (let same = ap (λ (z : ℕ). room_ahead n z w) (counts e.lists) in let count = room_counts n t k e.lists.slots.within e.lists.few in omega (arith, same, count)) in
      room_goes false e (tells_room n (length p.entries) w) head_word w (room_ahead n (length p.entries) w) p.grant (room_shared e (tells_room n (length p.entries) w) head_word w (room_ahead n (length p.entries) w) calm is fits) is refl

  -- a look of the producer at another word, where it knows of room
  pub room_known : (e : EndsHold false kind n ws hs p c) (w r : ℕ) → is_clear p.waiter ≡ false → 0 < p.ahead → LooksRoom false true w r p.ahead (slots_held p.grant (length p.entries % n))
  room_known e w r calm more = let fits = e.shared.room_ahead in let is : true ≡ nat_lt (length e.lists.left) n = sym (lt-ltb (length e.lists.left) n (omega (arith, fits, more))) in room_goes false e true w r p.ahead p.grant (room_shared e true w r p.ahead calm is fits) is refl

  -- the consumer looks, and the slots are now hs'
  pub see_ends : (wild : Bool) (e : EndsHold wild kind n ws hs p c) (b : Bool) (w r k : ℕ) (g : Option Slot) (hs' : List (maybe.Option Slot)) → SharedHold wild n ws e.lists.left p (after_look b w r g k c) → SlotsHold n hs' (length c.entries) e.lists.left p.grant g
      → EndsHold wild kind n ws hs' p (after_look b w r g k c)
  see_ends wild e b w r k g hs' shared slots = record {
    lists = relist e.lists p (after_look b w r g k c) hs' refl refl refl refl refl refl slots;
    producer_sort = e.producer_sort;
    consumer_sort = e.consumer_sort;
    shared = shared;
  }

  see_shared : (e : EndsHold false kind n ws hs p c) (b : Bool) (w r k : ℕ) → is_clear c.waiter ≡ false → b ≡ nat_lt 0 (length e.lists.left) → k ≤ length e.lists.left → (g : Option Slot) → WordsHold n ws e.lists.left p (after_look b w r g k c)
  see_shared e b w r k calm is fits g = record {
    flag = e.shared.flag;
    pending = e.shared.pending;
    flag_back = e.shared.flag_back;
    pending_back = e.shared.pending_back;
    words_are = e.shared.words_are;
    forward_told = e.shared.forward_told;
    backward_told = e.shared.backward_told;
    room_ahead = e.shared.room_ahead;
    entries_ahead = fits;
    forward = looks e.shared.flag e.shared.pending c.waiter p.ringer (nat_lt 0 (length e.lists.left)) b (length p.entries) calm is e.shared.forward;
    backward = e.shared.backward;
  }

  abbrev pub LooksEntry : (wild b : Bool) → (w r k : ℕ) → List (ℕ × Slot) → Type 0
  LooksEntry wild b w r k m = (a : Act Slot) × Valid hs m a × ((g : Option Slot) × Granted kind b g × EndsHold wild kind n ws (homes_after hs m a) p (after_look b w r g k c) × (carried_after m a ≡ slots_held g (length c.entries % n)))

  -- the first entry has the kind
  first_kind : (l : ListsHold kind n hs p c) (x : Cargo) (xs : List Cargo) → l.left ≡ x ∷ xs → kind_of x.0 ≡ kind
  first_kind l x xs is = let sent : p.entries ≡ c.entries ++ x ∷ xs = l.sent ∙ ap (λ (z : List Cargo). c.entries ++ z) is in All-at (λ (z : Cargo). kind_of z.0 ≡ kind) c.entries x xs (subst (All (λ (z : Cargo). kind_of z.0 ≡ kind)) sent l.kinds)

  pub see_goes : (wild : Bool) (e : EndsHold wild kind n ws hs p c) (b : Bool) (w r k : ℕ) (g : Option Slot) (left : List Cargo) → ((g : Option Slot) → SharedHold wild n ws e.lists.left p (after_look b w r g k c)) → b ≡ nat_lt 0 (length e.lists.left) → c.grant ≡ g → e.lists.left ≡ left → LooksEntry wild b w r k (slots_held g (length c.entries % n))
  see_goes wild e b w r k (Some y) left shared is gr l = let o = e.lists.slots.to_consumer y gr in let some_left : b ≡ true = is ∙ (ap (λ (z : List Cargo). nat_lt 0 (length z)) o.2 ∙ lt-ltb 0 (suc (length (drop 1 e.lists.left))) (omega arith)) in (
    keeps,
    tt,
    (
      Some y,
      subst (λ (z : Bool). Granted kind z (Some y)) (sym some_left) (o.0, ap (λ (z : Slot). Some z) o.1, first_kind e.lists o.0 (drop 1 e.lists.left) o.2),
      see_ends wild e b w r k (Some y) hs (shared (Some y)) (subst (λ (z : Option Slot). SlotsHold n hs (length c.entries) e.lists.left p.grant z) gr e.lists.slots),
      refl,
    ),
  )
  see_goes wild e b w r k None [] shared is gr l = let none_left : b ≡ false = is ∙ ap (λ (z : List Cargo). nat_lt 0 (length z)) l in (
    keeps,
    tt,
    (
      None,
      subst (λ (z : Bool). Granted kind z None) (sym none_left) refl,
      see_ends wild e b w r k None hs (shared None) (subst (λ (z : Option Slot). SlotsHold n hs (length c.entries) e.lists.left p.grant z) gr e.lists.slots),
      refl,
    ),
  )
  see_goes wild e b w r k None (x ∷ xs) shared is gr l = let t : ℕ = length c.entries in let i : ℕ = t % n in let at : i ≡ (t + 0) % n = ap (λ (z : ℕ). z % n) (let z : t ≡ t + 0 = omega arith in z) in
      let slots = subst (λ (z : Option Slot × List Cargo). SlotsHold n hs t z.1 p.grant z.0) (λ k. (gr k, l k)) e.lists.slots in let some_left : b ≡ true = is ∙ (ap (λ (z : List Cargo). nat_lt 0 (length z)) l ∙ lt-ltb 0 (suc (length xs)) (omega arith)) in (
        takes i (Some x),
        ap (get_elem? hs) at ∙ slots.filled 0 x refl (λ _. refl),
        (
          Some (Some x),
          subst (λ (z : Bool). Granted kind z (Some (Some x))) (sym some_left) (x, refl, first_kind e.lists x xs l),
          see_ends wild e b w r k (Some (Some x)) (set hs i none) (shared (Some (Some x))) (subst (λ (z : List Cargo). SlotsHold n (set hs i none) t z p.grant (Some (Some x))) (sym l) (grants_entry n t hs x xs p.grant i at slots)),
          refl,
        ),
      )

  -- a load of the tail by the consumer
  pub see_step : (e : EndsHold false kind n ws hs p c) → is_clear c.waiter ≡ false → LooksEntry false (tells_entry (length c.entries) (wrap (length p.entries))) tail_word (wrap (length p.entries)) (entries_ahead (length c.entries) (wrap (length p.entries))) (slots_held c.grant (length c.entries % n))
  see_step e calm = let t : ℕ = length c.entries in let k : ℕ = length e.lists.left in let w : ℕ = wrap (length p.entries) in let within : k ≤ n = e.lists.slots.within in let few : n ≤ 32768 = e.lists.few in
      let is : tells_entry t w ≡ nat_lt 0 k = ap (λ (z : ℕ). tells_entry t (wrap z)) (counts e.lists) ∙ entry_tells t k (omega arith) in
      let fits : entries_ahead t w ≤ k = (let same = ap (λ (z : ℕ). entries_ahead t (wrap z)) (counts e.lists) in let count = entries_count t k (omega arith) in omega (arith, same, count)) in
      see_goes false e (tells_entry t w) tail_word w (entries_ahead t w) c.grant e.lists.left (see_shared e (tells_entry t w) tail_word w (entries_ahead t w) calm is fits) is refl refl

  -- a look of the consumer at another word, where it knows of an entry
  pub see_known : (e : EndsHold false kind n ws hs p c) (w r : ℕ) → is_clear c.waiter ≡ false → 0 < c.ahead → LooksEntry false true w r c.ahead (slots_held c.grant (length c.entries % n))
  see_known e w r calm more = let fits = e.shared.entries_ahead in let is : true ≡ nat_lt 0 (length e.lists.left) = sym (lt-ltb 0 (length e.lists.left) (omega (arith, fits, more))) in see_goes false e true w r c.ahead c.grant e.lists.left (see_shared e true w r c.ahead calm is fits) is refl refl

  -- the first entry has its time
  pub first_time : (l : ListsHold kind n hs p c) (x : Cargo) → c.grant ≡ Some (Some x) → (time : ℕ) × (times : List ℕ) × (l.later ≡ time ∷ times)
  first_time l x gr = let o = l.slots.to_consumer (Some x) gr in some_first l.later (omega (arith, ap length o.2, l.timed))

  -- what is granted is the first entry
  abbrev pub first_is : (l : ListsHold kind n hs p c) (x : Cargo) → c.grant ≡ Some (Some x) → l.left ≡ x ∷ drop 1 l.left
  first_is l x gr = let o = l.slots.to_consumer (Some x) gr in o.2 ∙ ap (λ (z : Cargo). z ∷ drop 1 l.left) (sym (some_is x o.0 o.1))

  -- the lists after a take, whose step was on the word w
  abbrev pub take_lists : (l : ListsHold kind n hs p c) (x : Cargo) (time w new i : ℕ) (times : List ℕ) → l.later ≡ time ∷ times → c.grant ≡ Some (Some x) → i ≡ length c.entries % n → ListsHold kind n (set hs i (some None)) p (took_one x time w new c)
  take_lists l x time w new i times later gr at = let t : ℕ = length c.entries in let xs : List Cargo = drop 1 l.left in record {
    left = xs;
    some_place = l.some_place;
    few = l.few;
    divides = l.divides;
    sent = l.sent ∙ (ap (λ (z : List Cargo). c.entries ++ z) (first_is l x gr) ∙ sym (append_assoc c.entries (x ∷ []) xs));
    later = times;
    times = l.times ∙ (ap (λ (z : List ℕ). c.times ++ z) later ∙ sym (append_assoc c.times (time ∷ []) times));
    timed = times_left l x time times later (first_is l x gr);
    kinds = l.kinds;
    producer_kind = l.producer_kind;
    consumer_kind = l.consumer_kind;
    slots = subst (λ (z : ℕ). SlotsHold n (set hs i (some None)) z xs p.grant None) (one_taken x)
        (takes_out n t hs x xs p.grant i (at ∙ ap (λ (z : ℕ). z % n) (no_more t)) (subst (λ (z : Option Slot × List Cargo). SlotsHold n hs t z.1 p.grant z.0) (λ k. (gr k, first_is l x gr k)) l.slots));
  }

  -- a store to the head, with the consumer's slot empty, and the time of what was taken
  pub take_ends : (e : EndsHold false kind n ws hs p c) (x : Cargo) (time new i : ℕ) (times : List ℕ) → e.lists.later ≡ time ∷ times → is_clear c.waiter ≡ false → is_free_or_put c.ringer ≡ true → c.grant ≡ Some (Some x) → new ≡ wrap (length c.entries + 1) → i ≡ length c.entries % n
      → EndsHold false kind n (set ws head_word new) (set hs i (some None)) p (took_one x time head_word new c)
  take_ends e x time new i times later calm may gr is at = let t : ℕ = length c.entries in let more : length (c.entries ++ x ∷ []) ≡ t + 1 = length-append c.entries (x ∷ []) in
      let l : e.lists.left ≡ x ∷ drop 1 e.lists.left = first_is e.lists x gr in let xs : List Cargo = drop 1 e.lists.left in record {
        lists = take_lists e.lists x time head_word new i times later gr at;
        producer_sort = e.producer_sort;
        consumer_sort = e.consumer_sort;
        shared = record {
          flag = e.shared.flag;
          pending = e.shared.pending;
          flag_back = e.shared.flag_back;
          pending_back = e.shared.pending_back;
          words_are = ap (λ (z : List ℕ). set z head_word new) e.shared.words_are ∙ ap (λ (z : ℕ). laid z (wrap (length p.entries)) (bit e.shared.flag) (bit e.shared.pending) (bit e.shared.flag_back) (bit e.shared.pending_back)) (is ∙ ap wrap (sym more));
          forward_told = e.shared.forward_told;
          backward_told = e.shared.backward_told;
          room_ahead = let fits = e.shared.room_ahead in let long = ap length l in omega (arith, fits, long);
          entries_ahead = let fits = e.shared.entries_ahead in let long = ap length l in omega (arith, fits, long);
          forward = beside_holds (bell e.shared.flag e.shared.pending c.waiter p.ringer) (nat_lt 0 (length e.lists.left)) (nat_lt 0 (length xs)) (length p.entries) calm e.shared.forward;
          backward = moves e.shared.flag_back e.shared.pending_back p.waiter c.ringer (nat_lt (length e.lists.left) n) (nat_lt (length xs) n) t (length (c.entries ++ x ∷ [])) may more e.shared.backward;
        };
      }

  -- new words and bells, with the same entries, slots and kinds
  pub rebell : (e : EndsHold false kind n ws hs p c) (p' c' : Half) → p'.ahead + length e.lists.left ≤ n → c'.ahead ≤ length e.lists.left → (ws' : List ℕ) (flag pending flag_back pending_back : Bool) → p'.entries ≡ p.entries → p'.times ≡ p.times → p'.kind ≡ p.kind → p'.grant ≡ p.grant → p'.wild ≡ p.wild → c'.entries ≡ c.entries → c'.times ≡ c.times → c'.kind ≡ c.kind → c'.grant ≡ c.grant → c'.wild ≡ c.wild
      → ws' ≡ laid (wrap (length c.entries)) (wrap (length p.entries)) (bit flag) (bit pending) (bit flag_back) (bit pending_back)
      → WordsTold flag pending c'.wishes c'.asks p'.settled p'.rings c'.woken → WordsTold flag_back pending_back p'.wishes p'.asks c'.settled c'.rings p'.woken
      → BellHolds (forward_bell flag pending p' c') (nat_lt 0 (length e.lists.left)) (length p.entries) → BellHolds (backward_bell flag_back pending_back p' c') (nat_lt (length e.lists.left) n) (length c.entries) → EndsHold false kind n ws' hs p' c'
  rebell e p' c' ra ea ws' flag pending flag_back pending_back pe pt pk pg pw ce ct ck cg cw w ft bt f b = record {
    lists = relist e.lists p' c' hs pe pt pk ce ct ck (subst (λ (z : Option Slot × Option Slot). SlotsHold n hs (length c.entries) e.lists.left z.0 z.1) (λ k. (sym pg k, sym cg k)) e.lists.slots);
    producer_sort = pw ∙ e.producer_sort;
    consumer_sort = cw ∙ e.consumer_sort;
    shared = record {
      flag = flag;
      pending = pending;
      flag_back = flag_back;
      pending_back = pending_back;
      words_are = w ∙ ap (λ (z : List Cargo × List Cargo). laid (wrap (length z.0)) (wrap (length z.1)) (bit flag) (bit pending) (bit flag_back) (bit pending_back)) (λ k. (sym ce k, sym pe k));
      forward_told = ft;
      backward_told = bt;
      room_ahead = ra;
      entries_ahead = ea;
      forward = subst (λ (z : List Cargo). BellHolds (forward_bell flag pending p' c') (nat_lt 0 (length e.lists.left)) (length z)) (sym pe) f;
      backward = subst (λ (z : List Cargo). BellHolds (backward_bell flag_back pending_back p' c') (nat_lt (length e.lists.left) n) (length z)) (sym ce) b;
    };
  }

  -- the forward bell's calls
  pub ask_ends : (e : EndsHold false kind n ws hs p c) → EndsHold false kind n (set ws (flag_word Forward) 0) hs p (asked (flag_word Forward) 0 c)
  ask_ends e = rebell e p (asked (flag_word Forward) 0 c) e.shared.room_ahead e.shared.entries_ahead (set ws (flag_word Forward) 0) false e.shared.pending e.shared.flag_back e.shared.pending_back refl refl refl refl refl refl refl refl refl refl (ap (λ (z : List ℕ). set z (flag_word Forward) 0) e.shared.words_are) (wish_told e.shared.flag e.shared.pending c.wishes c.asks p.settled p.rings c.woken e.shared.forward_told) e.shared.backward_told
      (ask_holds (bell e.shared.flag e.shared.pending c.waiter p.ringer) (nat_lt 0 (length e.lists.left)) (length p.entries) e.shared.forward) e.shared.backward

  pub waive_ends : (e : EndsHold false kind n ws hs p c) → EndsHold false kind n (set ws (flag_word Forward) 1) hs p (waived (flag_word Forward) 1 c)
  waive_ends e = rebell e p (waived (flag_word Forward) 1 c) e.shared.room_ahead e.shared.entries_ahead (set ws (flag_word Forward) 1) true e.shared.pending e.shared.flag_back e.shared.pending_back refl refl refl refl refl refl refl refl refl refl (ap (λ (z : List ℕ). set z (flag_word Forward) 1) e.shared.words_are) (waive_told e.shared.flag e.shared.pending c.wishes c.asks p.settled p.rings c.woken e.shared.forward_told) e.shared.backward_told
      (waive_holds (bell e.shared.flag e.shared.pending c.waiter p.ringer) (nat_lt 0 (length e.lists.left)) (length p.entries) e.shared.forward) e.shared.backward

  wake_goes : (e : EndsHold false kind n ws hs p c) (b : Bool) → e.shared.pending ≡ b → EndsHold false kind n (set ws (pending_word Forward) 0) hs p (after_wake (pending_word Forward) (bit b) p.rings c)
  wake_goes e true is = rebell e p (after_wake (pending_word Forward) 1 p.rings c) e.shared.room_ahead e.shared.entries_ahead (set ws (pending_word Forward) 0) e.shared.flag false e.shared.flag_back e.shared.pending_back refl refl refl refl refl refl refl refl refl refl (ap (λ (z : List ℕ). set z (pending_word Forward) 0) e.shared.words_are) (wake_told e.shared.flag e.shared.pending c.wishes c.asks p.settled p.rings c.woken e.shared.forward_told) e.shared.backward_told
      (wake_holds (bell e.shared.flag e.shared.pending c.waiter p.ringer) (nat_lt 0 (length e.lists.left)) (length p.entries) true is e.shared.forward) e.shared.backward
  wake_goes e false is = rebell e p (after_wake (pending_word Forward) 0 p.rings c) e.shared.room_ahead e.shared.entries_ahead (set ws (pending_word Forward) 0) e.shared.flag false e.shared.flag_back e.shared.pending_back refl refl refl refl refl refl refl refl refl refl (ap (λ (z : List ℕ). set z (pending_word Forward) 0) e.shared.words_are) (wake_told e.shared.flag e.shared.pending c.wishes c.asks p.settled p.rings c.woken e.shared.forward_told) e.shared.backward_told
      (subst (λ (z : Bool). BellHolds (forward_bell e.shared.flag z p c) (nat_lt 0 (length e.lists.left)) (length p.entries)) is e.shared.forward) e.shared.backward

  -- whether something was pending
  pub wake_tells : (e : EndsHold false kind n ws hs p c) → nat_eq (slice_index ws (pending_word Forward)) 1 ≡ nat_lt c.woken p.rings
  wake_tells e = ap (λ (z : List ℕ). nat_eq (slice_index z (pending_word Forward)) 1) e.shared.words_are ∙ (bit_is e.shared.pending ∙ e.shared.forward_told.pending_is)

  pub wake_ends : (e : EndsHold false kind n ws hs p c) → EndsHold false kind n (set ws (pending_word Forward) 0) hs p (after_wake (pending_word Forward) (slice_index ws (pending_word Forward)) p.rings c)
  wake_ends e = subst (λ (z : ℕ). EndsHold false kind n (set ws (pending_word Forward) 0) hs p (after_wake (pending_word Forward) z p.rings c)) (ap (λ (z : List ℕ). slice_index z (pending_word Forward)) (sym e.shared.words_are)) (wake_goes e e.shared.pending refl)

  -- a load of the word i changes no word
  pub same_words : (e : EndsHold false kind n ws hs p c) → set ws (flag_word Forward) (slice_index ws (flag_word Forward)) ≡ ws
  same_words e = ap (λ (z : List ℕ). set z (flag_word Forward) (slice_index z (flag_word Forward))) e.shared.words_are ∙ sym e.shared.words_are

  wanted_goes : (e : EndsHold false kind n ws hs p c) (b : Bool) → p.ringer ≡ Rung.Put → e.shared.flag ≡ b → EndsHold false kind n ws hs (after_wanted (flag_word Forward) (bit b) p) c
  wanted_goes e true put is = rebell e (after_wanted (flag_word Forward) 1 p) c e.shared.room_ahead e.shared.entries_ahead ws e.shared.flag e.shared.pending e.shared.flag_back e.shared.pending_back refl refl refl refl refl refl refl refl refl refl e.shared.words_are e.shared.forward_told e.shared.backward_told
      (wanted_holds (bell e.shared.flag e.shared.pending c.waiter p.ringer) (nat_lt 0 (length e.lists.left)) (length p.entries) true is put e.shared.forward) e.shared.backward
  wanted_goes e false put is = rebell e (after_wanted (flag_word Forward) 0 p) c e.shared.room_ahead e.shared.entries_ahead ws e.shared.flag e.shared.pending e.shared.flag_back e.shared.pending_back refl refl refl refl refl refl refl refl refl refl e.shared.words_are e.shared.forward_told e.shared.backward_told
      (wanted_holds (bell e.shared.flag e.shared.pending c.waiter p.ringer) (nat_lt 0 (length e.lists.left)) (length p.entries) false is put e.shared.forward) e.shared.backward

  pub wanted_ends : (e : EndsHold false kind n ws hs p c) → p.ringer ≡ Rung.Put → EndsHold false kind n (set ws (flag_word Forward) (slice_index ws (flag_word Forward))) hs (after_wanted (flag_word Forward) (slice_index ws (flag_word Forward)) p) c
  wanted_ends e put = subst (λ (z : ℕ × List ℕ). EndsHold false kind n z.1 hs (after_wanted (flag_word Forward) z.0 p) c) (λ k. (ap (λ (z : List ℕ). slice_index z (flag_word Forward)) (sym e.shared.words_are) k, sym (same_words e) k)) (wanted_goes e e.shared.flag put refl)

  pub settle_ends : (e : EndsHold false kind n ws hs p c) → p.ringer ≡ Rung.Hot → EndsHold false kind n (set ws (flag_word Forward) 1) hs (after_settle (flag_word Forward) 1 c.asks p) c
  settle_ends e hot = rebell e (after_settle (flag_word Forward) 1 c.asks p) c e.shared.room_ahead e.shared.entries_ahead (set ws (flag_word Forward) 1) true e.shared.pending e.shared.flag_back e.shared.pending_back refl refl refl refl refl refl refl refl refl refl (ap (λ (z : List ℕ). set z (flag_word Forward) 1) e.shared.words_are) (settle_told e.shared.flag e.shared.pending c.wishes c.asks p.settled p.rings c.woken e.shared.forward_told) e.shared.backward_told
      (settle_holds (bell e.shared.flag e.shared.pending c.waiter p.ringer) (nat_lt 0 (length e.lists.left)) (length p.entries) hot e.shared.forward) e.shared.backward

  pub ring_ends : (e : EndsHold false kind n ws hs p c) → p.ringer ≡ Rung.Ringing → EndsHold false kind n (set ws (pending_word Forward) 1) hs (after_ring (pending_word Forward) 1 p) c
  ring_ends e on = rebell e (after_ring (pending_word Forward) 1 p) c e.shared.room_ahead e.shared.entries_ahead (set ws (pending_word Forward) 1) e.shared.flag true e.shared.flag_back e.shared.pending_back refl refl refl refl refl refl refl refl refl refl (ap (λ (z : List ℕ). set z (pending_word Forward) 1) e.shared.words_are) (ring_told e.shared.flag e.shared.pending c.wishes c.asks p.settled p.rings c.woken e.shared.forward_told) e.shared.backward_told
      (ring_holds (bell e.shared.flag e.shared.pending c.waiter p.ringer) (nat_lt 0 (length e.lists.left)) (length p.entries) on e.shared.forward) e.shared.backward

  -- the backward bell's calls
  pub ask_back_ends : (e : EndsHold false kind n ws hs p c) → EndsHold false kind n (set ws (flag_word Backward) 0) hs (asked (flag_word Backward) 0 p) c
  ask_back_ends e = rebell e (asked (flag_word Backward) 0 p) c e.shared.room_ahead e.shared.entries_ahead (set ws (flag_word Backward) 0) e.shared.flag e.shared.pending false e.shared.pending_back refl refl refl refl refl refl refl refl refl refl (ap (λ (z : List ℕ). set z (flag_word Backward) 0) e.shared.words_are) e.shared.forward_told (wish_told e.shared.flag_back e.shared.pending_back p.wishes p.asks c.settled c.rings p.woken e.shared.backward_told) e.shared.forward
      (ask_holds (bell e.shared.flag_back e.shared.pending_back p.waiter c.ringer) (nat_lt (length e.lists.left) n) (length c.entries) e.shared.backward)

  pub waive_back_ends : (e : EndsHold false kind n ws hs p c) → EndsHold false kind n (set ws (flag_word Backward) 1) hs (waived (flag_word Backward) 1 p) c
  waive_back_ends e = rebell e (waived (flag_word Backward) 1 p) c e.shared.room_ahead e.shared.entries_ahead (set ws (flag_word Backward) 1) e.shared.flag e.shared.pending true e.shared.pending_back refl refl refl refl refl refl refl refl refl refl (ap (λ (z : List ℕ). set z (flag_word Backward) 1) e.shared.words_are) e.shared.forward_told (waive_told e.shared.flag_back e.shared.pending_back p.wishes p.asks c.settled c.rings p.woken e.shared.backward_told) e.shared.forward
      (waive_holds (bell e.shared.flag_back e.shared.pending_back p.waiter c.ringer) (nat_lt (length e.lists.left) n) (length c.entries) e.shared.backward)

  wake_back_goes : (e : EndsHold false kind n ws hs p c) (b : Bool) → e.shared.pending_back ≡ b → EndsHold false kind n (set ws (pending_word Backward) 0) hs (after_wake (pending_word Backward) (bit b) c.rings p) c
  wake_back_goes e true is = rebell e (after_wake (pending_word Backward) 1 c.rings p) c e.shared.room_ahead e.shared.entries_ahead (set ws (pending_word Backward) 0) e.shared.flag e.shared.pending e.shared.flag_back false refl refl refl refl refl refl refl refl refl refl (ap (λ (z : List ℕ). set z (pending_word Backward) 0) e.shared.words_are) e.shared.forward_told (wake_told e.shared.flag_back e.shared.pending_back p.wishes p.asks c.settled c.rings p.woken e.shared.backward_told) e.shared.forward
      (wake_holds (bell e.shared.flag_back e.shared.pending_back p.waiter c.ringer) (nat_lt (length e.lists.left) n) (length c.entries) true is e.shared.backward)
  wake_back_goes e false is = rebell e (after_wake (pending_word Backward) 0 c.rings p) c e.shared.room_ahead e.shared.entries_ahead (set ws (pending_word Backward) 0) e.shared.flag e.shared.pending e.shared.flag_back false refl refl refl refl refl refl refl refl refl refl (ap (λ (z : List ℕ). set z (pending_word Backward) 0) e.shared.words_are) e.shared.forward_told (wake_told e.shared.flag_back e.shared.pending_back p.wishes p.asks c.settled c.rings p.woken e.shared.backward_told) e.shared.forward
      (subst (λ (z : Bool). BellHolds (backward_bell e.shared.flag_back z p c) (nat_lt (length e.lists.left) n) (length c.entries)) is e.shared.backward)

  pub wake_back_tells : (e : EndsHold false kind n ws hs p c) → nat_eq (slice_index ws (pending_word Backward)) 1 ≡ nat_lt p.woken c.rings
  wake_back_tells e = ap (λ (z : List ℕ). nat_eq (slice_index z (pending_word Backward)) 1) e.shared.words_are ∙ (bit_is e.shared.pending_back ∙ e.shared.backward_told.pending_is)

  pub wake_back_ends : (e : EndsHold false kind n ws hs p c) → EndsHold false kind n (set ws (pending_word Backward) 0) hs (after_wake (pending_word Backward) (slice_index ws (pending_word Backward)) c.rings p) c
  wake_back_ends e = subst (λ (z : ℕ). EndsHold false kind n (set ws (pending_word Backward) 0) hs (after_wake (pending_word Backward) z c.rings p) c) (ap (λ (z : List ℕ). slice_index z (pending_word Backward)) (sym e.shared.words_are)) (wake_back_goes e e.shared.pending_back refl)

  wanted_back_goes : (e : EndsHold false kind n ws hs p c) (b : Bool) → c.ringer ≡ Rung.Put → e.shared.flag_back ≡ b → EndsHold false kind n ws hs p (after_wanted (flag_word Backward) (bit b) c)
  wanted_back_goes e true put is = rebell e p (after_wanted (flag_word Backward) 1 c) e.shared.room_ahead e.shared.entries_ahead ws e.shared.flag e.shared.pending e.shared.flag_back e.shared.pending_back refl refl refl refl refl refl refl refl refl refl e.shared.words_are e.shared.forward_told e.shared.backward_told e.shared.forward
      (wanted_holds (bell e.shared.flag_back e.shared.pending_back p.waiter c.ringer) (nat_lt (length e.lists.left) n) (length c.entries) true is put e.shared.backward)
  wanted_back_goes e false put is = rebell e p (after_wanted (flag_word Backward) 0 c) e.shared.room_ahead e.shared.entries_ahead ws e.shared.flag e.shared.pending e.shared.flag_back e.shared.pending_back refl refl refl refl refl refl refl refl refl refl e.shared.words_are e.shared.forward_told e.shared.backward_told e.shared.forward
      (wanted_holds (bell e.shared.flag_back e.shared.pending_back p.waiter c.ringer) (nat_lt (length e.lists.left) n) (length c.entries) false is put e.shared.backward)

  pub wanted_back_ends : (e : EndsHold false kind n ws hs p c) → c.ringer ≡ Rung.Put → EndsHold false kind n (set ws (flag_word Backward) (slice_index ws (flag_word Backward))) hs p (after_wanted (flag_word Backward) (slice_index ws (flag_word Backward)) c)
  wanted_back_ends e put = subst (λ (z : ℕ × List ℕ). EndsHold false kind n z.1 hs p (after_wanted (flag_word Backward) z.0 c)) (λ k. (ap (λ (z : List ℕ). slice_index z (flag_word Backward)) (sym e.shared.words_are) k, sym (ap (λ (z : List ℕ). set z (flag_word Backward) (slice_index z (flag_word Backward))) e.shared.words_are ∙ sym e.shared.words_are) k)) (wanted_back_goes e e.shared.flag_back put refl)

  pub settle_back_ends : (e : EndsHold false kind n ws hs p c) → c.ringer ≡ Rung.Hot → EndsHold false kind n (set ws (flag_word Backward) 1) hs p (after_settle (flag_word Backward) 1 p.asks c)
  settle_back_ends e hot = rebell e p (after_settle (flag_word Backward) 1 p.asks c) e.shared.room_ahead e.shared.entries_ahead (set ws (flag_word Backward) 1) e.shared.flag e.shared.pending true e.shared.pending_back refl refl refl refl refl refl refl refl refl refl (ap (λ (z : List ℕ). set z (flag_word Backward) 1) e.shared.words_are) e.shared.forward_told (settle_told e.shared.flag_back e.shared.pending_back p.wishes p.asks c.settled c.rings p.woken e.shared.backward_told) e.shared.forward
      (settle_holds (bell e.shared.flag_back e.shared.pending_back p.waiter c.ringer) (nat_lt (length e.lists.left) n) (length c.entries) hot e.shared.backward)

  pub ring_back_ends : (e : EndsHold false kind n ws hs p c) → c.ringer ≡ Rung.Ringing → EndsHold false kind n (set ws (pending_word Backward) 1) hs p (after_ring (pending_word Backward) 1 c)
  ring_back_ends e on = rebell e p (after_ring (pending_word Backward) 1 c) e.shared.room_ahead e.shared.entries_ahead (set ws (pending_word Backward) 1) e.shared.flag e.shared.pending e.shared.flag_back true refl refl refl refl refl refl refl refl refl refl (ap (λ (z : List ℕ). set z (pending_word Backward) 1) e.shared.words_are) e.shared.forward_told (ring_told e.shared.flag_back e.shared.pending_back p.wishes p.asks c.settled c.rings p.woken e.shared.backward_told) e.shared.forward
      (ring_holds (bell e.shared.flag_back e.shared.pending_back p.waiter c.ringer) (nat_lt (length e.lists.left) n) (length c.entries) on e.shared.backward)

  -- a granted slot of the producer goes home
  pub room_home : (l : ListsHold kind n hs p c) (g : Option Slot) → p.grant ≡ g → SlotsHold n (homes_after hs (slots_held g (length p.entries % n)) gives) (length c.entries) l.left None c.grant
  room_home l None is = subst (λ (z : Option Slot). SlotsHold n hs (length c.entries) l.left z c.grant) is l.slots
  room_home l (Some y) is = let slots = subst (λ (z : Option Slot). SlotsHold n hs (length c.entries) l.left z c.grant) is l.slots in let y_is : y ≡ None = (slots.to_producer y refl).0 in
      subst (λ (z : Slot). SlotsHold n (set hs (length p.entries % n) (some z)) (length c.entries) l.left None c.grant) (sym y_is) (room_comes_back n (length c.entries) hs l.left c.grant (length p.entries % n) (last_place l) (subst (λ (z : Slot). SlotsHold n hs (length c.entries) l.left (Some z) c.grant) y_is slots))

  home_shared : (wild : Bool) (left : List Cargo) → SharedHold wild n ws left p c → SharedHold wild n ws left (sent_home p) c
  home_shared false left s = record { flag = s.flag; pending = s.pending; flag_back = s.flag_back; pending_back = s.pending_back; words_are = s.words_are; forward_told = s.forward_told; backward_told = s.backward_told; room_ahead = s.room_ahead; entries_ahead = s.entries_ahead; forward = s.forward; backward = s.backward }
  home_shared true left s = s

  pub home_ends : (wild : Bool) (e : EndsHold wild kind n ws hs p c) → EndsHold wild kind n ws (homes_after hs (slots_held p.grant (length p.entries % n)) gives) (sent_home p) c
  home_ends wild e = record {
    lists = relist e.lists (sent_home p) c (homes_after hs (slots_held p.grant (length p.entries % n)) gives) refl refl refl refl refl refl (room_home e.lists p.grant refl);
    producer_sort = e.producer_sort;
    consumer_sort = e.consumer_sort;
    shared = home_shared wild e.lists.left e.shared;
  }

  -- a granted slot of the consumer goes home
  pub entry_home : (l : ListsHold kind n hs p c) (g : Option Slot) → c.grant ≡ g → SlotsHold n (homes_after hs (slots_held g (length c.entries % n)) gives) (length c.entries) l.left p.grant None
  entry_home l None is = subst (λ (z : Option Slot). SlotsHold n hs (length c.entries) l.left p.grant z) is l.slots
  entry_home l (Some y) is = let t : ℕ = length c.entries in let i : ℕ = t % n in let o = l.slots.to_consumer y is in let x : Cargo = o.0 in let xs : List Cargo = drop 1 l.left in
      let slots = subst (λ (z : Option Slot × List Cargo). SlotsHold n hs t z.1 p.grant z.0) (λ k. ((is ∙ ap (λ (z : Slot). Some z) o.1) k, o.2 k)) l.slots in
      subst (λ (z : Slot × List Cargo). SlotsHold n (set hs i (some z.0)) t z.1 p.grant None) (λ k. (sym o.1 k, sym o.2 k)) (entry_comes_back n t hs x xs p.grant i (ap (λ (z : ℕ). z % n) (no_more t)) slots)

  home_back_shared : (wild : Bool) (left : List Cargo) → SharedHold wild n ws left p c → SharedHold wild n ws left p (sent_home c)
  home_back_shared false left s = record { flag = s.flag; pending = s.pending; flag_back = s.flag_back; pending_back = s.pending_back; words_are = s.words_are; forward_told = s.forward_told; backward_told = s.backward_told; room_ahead = s.room_ahead; entries_ahead = s.entries_ahead; forward = s.forward; backward = s.backward }
  home_back_shared true left s = s

  pub home_back_ends : (wild : Bool) (e : EndsHold wild kind n ws hs p c) → EndsHold wild kind n ws (homes_after hs (slots_held c.grant (length c.entries % n)) gives) p (sent_home c)
  home_back_ends wild e = record {
    lists = relist e.lists p (sent_home c) (homes_after hs (slots_held c.grant (length c.entries % n)) gives) refl refl refl refl refl refl (entry_home e.lists c.grant refl);
    producer_sort = e.producer_sort;
    consumer_sort = e.consumer_sort;
    shared = home_back_shared wild e.lists.left e.shared;
  }
