-- What a step of one end does to a wild ring, and what the calls of the bells do to either sort.
use Rattle.std.proofs.Common.{◌≡◌, ℕ, ◌%◌, ◌<◌, ◌≤◌, Bool, true, false, nat_lt, nat_eq, List, [], ◌∷◌, length, drop, set, refl, sym, ap, ◌∙◌, subst, arith, Option, Some, None}
use Rattle.std.specs.Prelude.{slice_index}
use mathlib.Core.Option.{some}
use mathlib.Core.Option as maybe
use Rattle.atomic_table.specs.Table.{Act, keeps, gives, Valid, homes_after, carried_after, rest}
use Rattle.cargo_core.specs.declared.item.QueueKind.{QueueKind}
use Rattle.cargo_core.specs.Items.{kind_of}
use Rattle.wire_core.specs.declared.names.Side.TheVariants.{Forward, Backward}
use Rattle.wire_core.specs.declared.names.Ringer.TheVariants as Rung
use Rattle.wire_core.specs.Deeds.{Cargo}
use Rattle.spsc_queue.specs.declared.view.Half.{Half}
use Rattle.spsc_queue.specs.Rule.{Slot, flag_word, pending_word, guard_word, SlotsHold, GuardsHold, EndsHold}
use Rattle.spsc_queue.specs.Steps.{slots_held, slots_kept, after_look, index_read, passed, sent_one, took_one, asked, waived, after_wake, after_wanted, after_settle, after_ring}
use Rattle.spsc_queue.proofs.Ends.{counts, relist, room_home, entry_home, LooksRoom, room_goes, LooksEntry, see_goes, put_lists, take_lists, first_is, one_taken, ask_ends, waive_ends, wake_ends, wake_tells, wanted_ends, settle_ends, ring_ends, ask_back_ends, waive_back_ends, wake_back_ends, wake_back_tells, wanted_back_ends, settle_back_ends, ring_back_ends}
use Rattle.spsc_queue.proofs.Guards.{low_passes, first_guard, last_guard, fills_guard, empties_guard, one_is, none_is}

pub rest_held : (g : Option Slot) (i : ℕ) → rest (slots_held g i) ≡ []
rest_held None i = refl
rest_held (Some y) i = refl

-- the second knows of the same entries and the same slot
abbrev pub SameHalf : Half → Half → Type 0
SameHalf h h' = (h'.entries ≡ h.entries) × (h'.times ≡ h.times) × (h'.kind ≡ h.kind) × (h'.grant ≡ h.grant) × (h'.wild ≡ h.wild)

abbrev pub it_is : (h : Half) → SameHalf h h
it_is h = (refl, refl, refl, refl, refl)

module _ (kind : QueueKind) (n : ℕ) (ws : List ℕ) (hs : List (maybe.Option Slot)) (p c : Half) where
  -- a step on one of the six words, by which an end learns nothing
  pub beside : (e : EndsHold true kind n ws hs p c) (p' c' : Half) (i z : ℕ) → i < 36 → SameHalf p p' → SameHalf c c' → EndsHold true kind n (set ws i z) hs p' c'
  beside e p' c' i z low sp sc = record {
    lists = relist kind n ws hs p c e.lists p' c' hs sp.0 sp.1 sp.2 sc.0 sc.1 sc.2 (subst (λ (z : Option Slot × Option Slot). SlotsHold n hs (length c.entries) e.lists.left z.0 z.1) (λ k. (sym sp.3 k, sym sc.3 k)) e.lists.slots);
    producer_sort = sp.4 ∙ e.producer_sort;
    consumer_sort = sc.4 ∙ e.consumer_sort;
    shared = subst (λ (l : List Cargo). GuardsHold n (set ws i z) (length l) e.lists.left) (sym sc.0) (low_passes n (length c.entries) ws e.lists.left i z low e.shared);
  }

  -- on either sort of ring
  either : (wild : Bool) (e : EndsHold wild kind n ws hs p c) (p' c' : Half) (i z : ℕ) → i < 36 → SameHalf p p' → SameHalf c c' → (EndsHold false kind n ws hs p c → EndsHold false kind n (set ws i z) hs p' c') → EndsHold wild kind n (set ws i z) hs p' c'
  either false e p' c' i z low sp sc tame = tame e
  either true e p' c' i z low sp sc tame = beside e p' c' i z low sp sc

  -- the producer read the head
  abbrev pub LooksHead : Bool → (w r : ℕ) → List (ℕ × Slot) → Type 0
  LooksHead b w r m = (a : Act Slot) × Valid hs m a × EndsHold true kind n ws (homes_after hs m a) (index_read b w r p) c × (carried_after m a ≡ slots_kept b m)

  pub head_goes : (e : EndsHold true kind n ws hs p c) (b : Bool) (w r : ℕ) → LooksHead b w r (slots_held p.grant (length p.entries % n))
  head_goes e true w r = (
    keeps,
    tt,
    record { lists = relist kind n ws hs p c e.lists (passed w r p) c hs refl refl refl refl refl refl e.lists.slots; producer_sort = e.producer_sort; consumer_sort = e.consumer_sort; shared = e.shared },
    refl,
  )
  head_goes e false w r = (
    gives,
    tt,
    record { lists = relist kind n ws hs p c e.lists (after_look false w r None p.ahead p) c (homes_after hs (slots_held p.grant (length p.entries % n)) gives) refl refl refl refl refl refl (room_home kind n ws hs p c e.lists p.grant refl); producer_sort = e.producer_sort; consumer_sort = e.consumer_sort; shared = e.shared },
    rest_held p.grant (length p.entries % n),
  )

  -- the consumer read the tail
  abbrev pub LooksTail : Bool → (w r : ℕ) → List (ℕ × Slot) → Type 0
  LooksTail b w r m = (a : Act Slot) × Valid hs m a × EndsHold true kind n ws (homes_after hs m a) p (index_read b w r c) × (carried_after m a ≡ slots_kept b m)

  pub tail_goes : (e : EndsHold true kind n ws hs p c) (b : Bool) (w r : ℕ) → LooksTail b w r (slots_held c.grant (length c.entries % n))
  tail_goes e true w r = (
    keeps,
    tt,
    record { lists = relist kind n ws hs p c e.lists p (passed w r c) hs refl refl refl refl refl refl e.lists.slots; producer_sort = e.producer_sort; consumer_sort = e.consumer_sort; shared = e.shared },
    refl,
  )
  tail_goes e false w r = (
    gives,
    tt,
    record { lists = relist kind n ws hs p c e.lists p (after_look false w r None c.ahead c) (homes_after hs (slots_held c.grant (length c.entries % n)) gives) refl refl refl refl refl refl (entry_home kind n ws hs p c e.lists c.grant refl); producer_sort = e.producer_sort; consumer_sort = e.consumer_sort; shared = e.shared },
    rest_held c.grant (length c.entries % n),
  )

  -- what stands in the guard at the producer's place
  pub room_guard_is : (e : EndsHold true kind n ws hs p c) → nat_eq (slice_index ws (guard_word n (length p.entries))) 0 ≡ nat_lt (length e.lists.left) n
  room_guard_is e = ap (λ (z : ℕ). nat_eq (slice_index ws (guard_word n z)) 0) (counts kind n ws hs p c e.lists) ∙ (ap (λ (z : ℕ). nat_eq z 0) (last_guard n (length c.entries) ws e.lists.left e.lists.some_place e.lists.slots.within e.shared) ∙ none_is (nat_lt (length e.lists.left) n))

  pub room_guard_step : (e : EndsHold true kind n ws hs p c) (w : ℕ) → w ≡ guard_word n (length p.entries) → LooksRoom kind n ws hs p c true (nat_eq (slice_index ws w) 0) w (slice_index ws w) p.ahead (slots_held p.grant (length p.entries % n))
  room_guard_step e w at = room_goes kind n ws hs p c true e (nat_eq (slice_index ws w) 0) w (slice_index ws w) p.ahead p.grant e.shared (ap (λ (z : ℕ). nat_eq (slice_index ws z) 0) at ∙ room_guard_is e) refl

  -- and at the consumer's
  pub entry_guard_is : (e : EndsHold true kind n ws hs p c) → nat_eq (slice_index ws (guard_word n (length c.entries))) 1 ≡ nat_lt 0 (length e.lists.left)
  entry_guard_is e = ap (λ (z : ℕ). nat_eq z 1) (first_guard n (length c.entries) ws e.lists.left e.lists.some_place e.shared) ∙ one_is (nat_lt 0 (length e.lists.left))

  pub entry_guard_step : (e : EndsHold true kind n ws hs p c) (w : ℕ) → w ≡ guard_word n (length c.entries) → LooksEntry kind n ws hs p c true (nat_eq (slice_index ws w) 1) w (slice_index ws w) c.ahead (slots_held c.grant (length c.entries % n))
  entry_guard_step e w at = see_goes kind n ws hs p c true e (nat_eq (slice_index ws w) 1) w (slice_index ws w) c.ahead c.grant e.lists.left (λ g. e.shared) (ap (λ (z : ℕ). nat_eq (slice_index ws z) 1) at ∙ entry_guard_is e) refl refl

  -- a store to the guard, with the producer's slot filled
  pub fill_ends : (e : EndsHold true kind n ws hs p c) (x : Cargo) (time w i : ℕ) → kind_of x.0 ≡ kind → p.grant ≡ Some None → w ≡ guard_word n (length p.entries) → i ≡ length p.entries % n
      → EndsHold true kind n (set ws w 1) (set hs i (some (Some x))) (sent_one x time w 1 p) c
  fill_ends e x time w i fits gr on at = record {
    lists = put_lists kind n ws hs p c e.lists x time w 1 i fits gr at;
    producer_sort = e.producer_sort;
    consumer_sort = e.consumer_sort;
    shared = fills_guard n (length c.entries) ws e.lists.left x w (on ∙ ap (guard_word n) (counts kind n ws hs p c e.lists)) ((e.lists.slots.to_producer None gr).1) e.shared;
  }

  -- a store to the guard, with the consumer's slot empty
  pub empty_ends : (e : EndsHold true kind n ws hs p c) (x : Cargo) (time w i : ℕ) (times : List ℕ) → e.lists.later ≡ time ∷ times → c.grant ≡ Some (Some x) → w ≡ guard_word n (length c.entries) → i ≡ length c.entries % n
      → EndsHold true kind n (set ws w 0) (set hs i (some None)) p (took_one x time w 0 c)
  empty_ends e x time w i times later gr on at = let l = first_is kind n ws hs p c e.lists x gr in let xs : List Cargo = drop 1 e.lists.left in let within : length e.lists.left ≤ n = e.lists.slots.within in record {
    lists = take_lists kind n ws hs p c e.lists x time w 0 i times later gr at;
    producer_sort = e.producer_sort;
    consumer_sort = e.consumer_sort;
    shared = subst (λ (z : ℕ). GuardsHold n (set ws w 0) z xs) (one_taken kind n ws hs p c x) (empties_guard n (length c.entries) ws x xs w on (omega (arith, within, ap length l)) (subst (λ (z : List Cargo). GuardsHold n ws (length c.entries) z) l e.shared));
  }

  -- the calls of the bells, on either sort of ring
  pub asks : (wild : Bool) (e : EndsHold wild kind n ws hs p c) → EndsHold wild kind n (set ws (flag_word Forward) 0) hs p (asked (flag_word Forward) 0 c)
  asks wild e = either wild e p (asked (flag_word Forward) 0 c) (flag_word Forward) 0 (omega arith) (it_is p) (refl, refl, refl, refl, refl) (ask_ends kind n ws hs p c)

  pub waives : (wild : Bool) (e : EndsHold wild kind n ws hs p c) → EndsHold wild kind n (set ws (flag_word Forward) 1) hs p (waived (flag_word Forward) 1 c)
  waives wild e = either wild e p (waived (flag_word Forward) 1 c) (flag_word Forward) 1 (omega arith) (it_is p) (refl, refl, refl, refl, refl) (waive_ends kind n ws hs p c)

  pub wakes : (wild : Bool) (e : EndsHold wild kind n ws hs p c) → EndsHold wild kind n (set ws (pending_word Forward) 0) hs p (after_wake (pending_word Forward) (slice_index ws (pending_word Forward)) p.rings c)
  wakes wild e = either wild e p (after_wake (pending_word Forward) (slice_index ws (pending_word Forward)) p.rings c) (pending_word Forward) 0 (omega arith) (it_is p) (refl, refl, refl, refl, refl) (wake_ends kind n ws hs p c)

  pub wake_is : (wild : Bool) (e : EndsHold wild kind n ws hs p c) → c.wild ≡ false → nat_eq (slice_index ws (pending_word Forward)) 1 ≡ nat_lt c.woken p.rings
  wake_is false e is = wake_tells kind n ws hs p c e
  wake_is true e is = let z : false ≡ true = sym is ∙ e.consumer_sort in cc

  pub wants : (wild : Bool) (e : EndsHold wild kind n ws hs p c) → p.ringer ≡ Rung.Put → EndsHold wild kind n (set ws (flag_word Forward) (slice_index ws (flag_word Forward))) hs (after_wanted (flag_word Forward) (slice_index ws (flag_word Forward)) p) c
  wants wild e put = either wild e (after_wanted (flag_word Forward) (slice_index ws (flag_word Forward)) p) c (flag_word Forward) (slice_index ws (flag_word Forward)) (omega arith) (refl, refl, refl, refl, refl) (it_is c) (λ e. wanted_ends kind n ws hs p c e put)

  pub settles : (wild : Bool) (e : EndsHold wild kind n ws hs p c) → p.ringer ≡ Rung.Hot → EndsHold wild kind n (set ws (flag_word Forward) 1) hs (after_settle (flag_word Forward) 1 c.asks p) c
  settles wild e hot = either wild e (after_settle (flag_word Forward) 1 c.asks p) c (flag_word Forward) 1 (omega arith) (refl, refl, refl, refl, refl) (it_is c) (λ e. settle_ends kind n ws hs p c e hot)

  pub rings : (wild : Bool) (e : EndsHold wild kind n ws hs p c) → p.ringer ≡ Rung.Ringing → EndsHold wild kind n (set ws (pending_word Forward) 1) hs (after_ring (pending_word Forward) 1 p) c
  rings wild e on = either wild e (after_ring (pending_word Forward) 1 p) c (pending_word Forward) 1 (omega arith) (refl, refl, refl, refl, refl) (it_is c) (λ e. ring_ends kind n ws hs p c e on)

  pub asks_back : (wild : Bool) (e : EndsHold wild kind n ws hs p c) → EndsHold wild kind n (set ws (flag_word Backward) 0) hs (asked (flag_word Backward) 0 p) c
  asks_back wild e = either wild e (asked (flag_word Backward) 0 p) c (flag_word Backward) 0 (omega arith) (refl, refl, refl, refl, refl) (it_is c) (ask_back_ends kind n ws hs p c)

  pub waives_back : (wild : Bool) (e : EndsHold wild kind n ws hs p c) → EndsHold wild kind n (set ws (flag_word Backward) 1) hs (waived (flag_word Backward) 1 p) c
  waives_back wild e = either wild e (waived (flag_word Backward) 1 p) c (flag_word Backward) 1 (omega arith) (refl, refl, refl, refl, refl) (it_is c) (waive_back_ends kind n ws hs p c)

  pub wakes_back : (wild : Bool) (e : EndsHold wild kind n ws hs p c) → EndsHold wild kind n (set ws (pending_word Backward) 0) hs (after_wake (pending_word Backward) (slice_index ws (pending_word Backward)) c.rings p) c
  wakes_back wild e = either wild e (after_wake (pending_word Backward) (slice_index ws (pending_word Backward)) c.rings p) c (pending_word Backward) 0 (omega arith) (refl, refl, refl, refl, refl) (it_is c) (wake_back_ends kind n ws hs p c)

  pub wake_back_is : (wild : Bool) (e : EndsHold wild kind n ws hs p c) → p.wild ≡ false → nat_eq (slice_index ws (pending_word Backward)) 1 ≡ nat_lt p.woken c.rings
  wake_back_is false e is = wake_back_tells kind n ws hs p c e
  wake_back_is true e is = let z : false ≡ true = sym is ∙ e.producer_sort in cc

  pub wants_back : (wild : Bool) (e : EndsHold wild kind n ws hs p c) → c.ringer ≡ Rung.Put → EndsHold wild kind n (set ws (flag_word Backward) (slice_index ws (flag_word Backward))) hs p (after_wanted (flag_word Backward) (slice_index ws (flag_word Backward)) c)
  wants_back wild e put = either wild e p (after_wanted (flag_word Backward) (slice_index ws (flag_word Backward)) c) (flag_word Backward) (slice_index ws (flag_word Backward)) (omega arith) (it_is p) (refl, refl, refl, refl, refl) (λ e. wanted_back_ends kind n ws hs p c e put)

  pub settles_back : (wild : Bool) (e : EndsHold wild kind n ws hs p c) → c.ringer ≡ Rung.Hot → EndsHold wild kind n (set ws (flag_word Backward) 1) hs p (after_settle (flag_word Backward) 1 p.asks c)
  settles_back wild e hot = either wild e p (after_settle (flag_word Backward) 1 p.asks c) (flag_word Backward) 1 (omega arith) (it_is p) (refl, refl, refl, refl, refl) (λ e. settle_back_ends kind n ws hs p c e hot)

  pub rings_back : (wild : Bool) (e : EndsHold wild kind n ws hs p c) → c.ringer ≡ Rung.Ringing → EndsHold wild kind n (set ws (pending_word Backward) 1) hs p (after_ring (pending_word Backward) 1 c)
  rings_back wild e on = either wild e p (after_ring (pending_word Backward) 1 c) (pending_word Backward) 1 (omega arith) (it_is p) (refl, refl, refl, refl, refl) (λ e. ring_back_ends kind n ws hs p c e on)
