-- A step of one seat keeps the rule.
use Rattle.std.proofs.Common.{◌≡◌, ◌≢◌, ℕ, ◌+◌, ◌%◌, ◌<◌, ⊎_elim, Bool, true, false, nat_eq, List, [], ◌∷◌, ◌++◌, length, length-set, set, refl, sym, ap, ◌∙◌, subst, mod-lt, lit<, Some, None}
use Rattle.std.specs.Prelude.{slice_index}
use Rattle.std.proofs.lemmas.List.{set-get_or}
use mathlib.Core.Option.{none, some, some-injective}
use mathlib.Core.Option as maybe
use lib.ListN.{get_elem?}
use Rattle.atomic_table.specs.Table.{State, Act, Valid, step, stepped, keeps, gives, Allows, homes_after, carried_after, rest}
use Rattle.atomic_table.proofs.Lists.{at_set, set_here, set_else, set_again, at_longer, at_last}
use Rattle.cargo_core.specs.declared.item.QueueKind.{QueueKind}
use Rattle.cargo_core.specs.Items.{kind_of}
use Rattle.wire_core.specs.Deeds.{Cargo}
use Rattle.wire_core.specs.Ends.{is_clear, is_free_or_put}
use Rattle.spsc_queue.specs.declared.view.Half.{Half}
use Rattle.spsc_queue.specs.declared.view.View.{View}
use Rattle.spsc_queue.specs.Rule.{Slot, wrap, head_word, tail_word, guard_word, EndsHold, RingHolds}
use Rattle.spsc_queue.specs.Steps.{Seated, slots_held, after_look, empty_if, passed, index_read, fits_entry, fits_room, head_read, tail_read, room_guard_read, entry_guard_read, room_done, room_again, put_done, tells_room, room_ahead, room_read, room_kept, sent_one, with_producer, with_consumer, see_read, see_kept, took_one, take_done, see_done, see_again, tells_entry, entries_ahead, Granted, producing_part, consuming_part, whole, memory_of, spent, sent_home, producer_home, consumer_home}
use Rattle.spsc_queue.proofs.Places.{below, one_more}
use Rattle.spsc_queue.proofs.Ends.{LooksRoom, room_step, room_known, put_ends, LooksEntry, see_step, see_known, take_ends, first_time, home_ends, home_back_ends}
use Rattle.spsc_queue.proofs.WildEnds.{rest_held, beside, it_is, LooksHead, head_goes, LooksTail, tail_goes, room_guard_step, entry_guard_step, fill_ends, empty_ends}

module _ (wild : Bool) (kind : QueueKind) (s : State Slot View) (r : RingHolds wild kind s) (id : ℕ) (v : View) where
  -- the producing seat's view is the one that the rule speaks of
  pub producer_is : get_elem? s.views id ≡ some v → v.produces ≡ true → r.producing ≡ v
  producer_is at does = some-injective r.producing v (sym r.at_p ∙ (ap (get_elem? s.views) (sym (r.one_producer id v at does)) ∙ at))

  -- the producer's step, after which it knows h and the words and slots are these
  pub producer_steps : (h : Half) (ws : List ℕ) (hs : List (maybe.Option Slot)) (n : ℕ) → get_elem? s.views id ≡ some v → v.produces ≡ true → v.consumes ≡ false → EndsHold wild kind n ws hs h r.consuming.consumer
      → RingHolds wild kind record { words = ws; homes = hs; views = set s.views id (with_producer v h) }
  producer_steps h ws hs n at does not e = let w : View = with_producer v h in let is = r.one_producer id v at does in let there : id < length s.views = below s.views id v at in
      let apart : r.c ≢ id = (λ z. let both : v ≡ r.consuming = some-injective v r.consuming (sym at ∙ (ap (get_elem? s.views) (sym z) ∙ r.at_c)) in let bad : false ≡ true = sym not ∙ (ap (λ (y : View). y.consumes) both ∙ r.consumes) in cc) in record {
        p = id;
        c = r.c;
        producing = w;
        consuming = r.consuming;
        at_p = set_here s.views id w there;
        at_c = set_else s.views id r.c w apart ∙ r.at_c;
        produces = does;
        consumes = r.consumes;
        one_producer = λ j u e is_one. ⊎_elim (λ z. z.0) (λ z. r.one_producer j u z.1 is_one ∙ sym is) (at_set s.views id j w u e);
        one_consumer = λ j u e is_one. ⊎_elim (λ z. absurd (let bad : false ≡ true = sym not ∙ (ap (λ (y : View). y.consumes) z.1 ∙ is_one) in cc)) (λ z. r.one_consumer j u z.1 is_one) (at_set s.views id j w u e);
        ends = subst (λ (m : ℕ). EndsHold wild kind m ws hs h r.consuming.consumer) (sym e.lists.slots.size) e;
      }

  pub consumer_is : get_elem? s.views id ≡ some v → v.consumes ≡ true → r.consuming ≡ v
  consumer_is at does = some-injective r.consuming v (sym r.at_c ∙ (ap (get_elem? s.views) (sym (r.one_consumer id v at does)) ∙ at))

  -- the consumer's step
  pub consumer_steps : (h : Half) (ws : List ℕ) (hs : List (maybe.Option Slot)) (n : ℕ) → get_elem? s.views id ≡ some v → v.consumes ≡ true → v.produces ≡ false → EndsHold wild kind n ws hs r.producing.producer h
      → RingHolds wild kind record { words = ws; homes = hs; views = set s.views id (with_consumer v h) }
  consumer_steps h ws hs n at does not e = let w : View = with_consumer v h in let is = r.one_consumer id v at does in let there : id < length s.views = below s.views id v at in
      let apart : r.p ≢ id = (λ z. let both : v ≡ r.producing = some-injective v r.producing (sym at ∙ (ap (get_elem? s.views) (sym z) ∙ r.at_p)) in let bad : false ≡ true = sym not ∙ (ap (λ (y : View). y.produces) both ∙ r.produces) in cc) in record {
        p = r.p;
        c = id;
        producing = r.producing;
        consuming = w;
        at_p = set_else s.views id r.p w apart ∙ r.at_p;
        at_c = set_here s.views id w there;
        produces = r.produces;
        consumes = does;
        one_producer = λ j u e is_one. ⊎_elim (λ z. absurd (let bad : false ≡ true = sym not ∙ (ap (λ (y : View). y.produces) z.1 ∙ is_one) in cc)) (λ z. r.one_producer j u z.1 is_one) (at_set s.views id j w u e);
        one_consumer = λ j u e is_one. ⊎_elim (λ z. z.0) (λ z. r.one_consumer j u z.1 is_one ∙ sym is) (at_set s.views id j w u e);
        ends = subst (λ (m : ℕ). EndsHold wild kind m ws hs r.producing.producer h) (sym e.lists.slots.size) e;
      }

  -- a new seat has the consuming part
  pub splits : get_elem? s.views id ≡ some v → v.produces ≡ true → v.consumes ≡ true → RingHolds wild kind record { words = s.words; homes = s.homes; views = set s.views id (producing_part v) ++ consuming_part v ∷ [] }
  splits at makes eats = let left : View = producing_part v in let right : View = consuming_part v in let there : id < length s.views = below s.views id v at in let is = r.one_producer id v at makes in let is' = r.one_consumer id v at eats in
      let long : length (set s.views id left) ≡ length s.views = length-set s.views id left in record {
        p = id;
        c = length s.views;
        producing = left;
        consuming = right;
        at_p = at_longer (set s.views id left) (right ∷ []) id left (set_here s.views id left there);
        at_c = at_last (set s.views id left) right (length s.views) long;
        produces = makes;
        consumes = eats;
        one_producer = λ j u e is_one. ⊎_elim (λ y. ⊎_elim (λ z. z.0) (λ z. r.one_producer j u z.1 is_one ∙ sym is) (at_set s.views id j left u y)) (λ y. absurd (let bad : false ≡ true = ap (λ (z : View). z.produces) y.1 ∙ is_one in cc)) (one_more (set s.views id left) right u j e);
        one_consumer = λ j u e is_one. ⊎_elim (λ y. ⊎_elim (λ z. absurd (let bad : false ≡ true = ap (λ (x : View). x.consumes) z.1 ∙ is_one in cc)) (λ z. absurd (z.0 (r.one_consumer j u z.1 is_one ∙ sym is'))) (at_set s.views id j left u y)) (λ y. y.0 ∙ long) (one_more (set s.views id left) right u j e);
        ends = subst (λ (z : View × View). EndsHold wild kind (length s.homes) s.words s.homes z.0.producer z.1.consumer) (λ k. (producer_is at makes k, consumer_is at eats k)) r.ends;
      }

  -- a new seat that knows what this one knows, and neither produces nor consumes
  pub remembers : get_elem? s.views id ≡ some v → RingHolds wild kind record { words = s.words; homes = s.homes; views = set s.views id v ++ memory_of v ∷ [] }
  remembers at = let right : View = memory_of v in subst (λ (z : List View). RingHolds wild kind record { words = s.words; homes = s.homes; views = z ++ right ∷ [] }) (sym (set_again s.views id v at)) record {
    p = r.p;
    c = r.c;
    producing = r.producing;
    consuming = r.consuming;
    at_p = at_longer s.views (right ∷ []) r.p r.producing r.at_p;
    at_c = at_longer s.views (right ∷ []) r.c r.consuming r.at_c;
    produces = r.produces;
    consumes = r.consumes;
    one_producer = λ j u e is_one. ⊎_elim (λ y. r.one_producer j u y is_one) (λ y. absurd (let bad : false ≡ true = ap (λ (z : View). z.produces) y.1 ∙ is_one in cc)) (one_more s.views right u j e);
    one_consumer = λ j u e is_one. ⊎_elim (λ y. r.one_consumer j u y is_one) (λ y. absurd (let bad : false ≡ true = ap (λ (z : View). z.consumes) y.1 ∙ is_one in cc)) (one_more s.views right u j e);
    ends = r.ends;
  }

  -- the two ends are one again
  pub joins : (other : ℕ) (w : View) → get_elem? s.views id ≡ some v → v.produces ≡ true → v.consumes ≡ false → w.consumes ≡ true → ¬ (other ≡ id) → get_elem? (set s.views id (whole v w)) other ≡ some w
      → RingHolds wild kind record { words = s.words; homes = s.homes; views = set (set s.views id (whole v w)) other spent }
  joins other w at makes not eats apart at' = let both : View = whole v w in let there : id < length s.views = below s.views id v at in let is = r.one_producer id v at makes in
      let old : get_elem? s.views other ≡ some w = sym (set_else s.views id other both apart) ∙ at' in let is' = r.one_consumer other w old eats in
      let same : r.consuming ≡ w = some-injective r.consuming w (sym r.at_c ∙ (ap (get_elem? s.views) (sym is') ∙ old)) in
      let here = set_else (set s.views id both) other id spent (λ z. apart (sym z)) ∙ set_here s.views id both there in record {
        p = id;
        c = id;
        producing = both;
        consuming = both;
        at_p = here;
        at_c = here;
        produces = makes;
        consumes = refl;
        one_producer = λ j u e is_one. ⊎_elim (λ y. absurd (let bad : false ≡ true = ap (λ (z : View). z.produces) y.1 ∙ is_one in cc)) (λ y. ⊎_elim (λ z. z.0) (λ z. r.one_producer j u z.1 is_one ∙ sym is) (at_set s.views id j both u y.1)) (at_set (set s.views id both) other j spent u e);
        one_consumer = λ j u e is_one. ⊎_elim (λ y. absurd (let bad : false ≡ true = ap (λ (z : View). z.consumes) y.1 ∙ is_one in cc)) (λ y. ⊎_elim (λ z. z.0) (λ z. absurd (y.0 (r.one_consumer j u z.1 is_one ∙ sym is'))) (at_set s.views id j both u y.1)) (at_set (set s.views id both) other j spent u e);
        ends = subst (λ (z : View × View). EndsHold wild kind (length s.homes) s.words s.homes z.0.producer z.1.consumer) (λ k. (producer_is at makes k, same k)) r.ends;
      }

same_grant : (x y : Cargo) → Some (Some x) ≡ Some (Some y) → x ≡ y
same_grant x y e = cc

-- the entry in the first of these slots
abbrev first_of : List (ℕ × Slot) → Cargo → Cargo
first_of [] x = x
first_of ((k, Some y) ∷ l) x = y
first_of ((k, None) ∷ l) x = x

abbrev carried_after_gives : List (ℕ × Slot) → List (ℕ × Slot)
carried_after_gives m = carried_after m gives

module _ (wild : Bool) (kind : QueueKind) (slots id : ℕ) (me : Seated) where
  -- what the rule says of the two ends, where the producer is known
  pub producer_ends : (s : State Slot View) (r : RingHolds wild kind s) → length s.homes ≡ slots → get_elem? s.views id ≡ some me.0 → me.0.produces ≡ true → EndsHold wild kind slots s.words s.homes me.0.producer r.consuming.consumer
  producer_ends s r size at does = subst (λ (z : ℕ × View). EndsHold wild kind z.0 s.words s.homes z.1.producer r.consuming.consumer) (λ k. (size k, producer_is wild kind s r id me.0 at does k)) r.ends

  pub consumer_ends : (s : State Slot View) (r : RingHolds wild kind s) → length s.homes ≡ slots → get_elem? s.views id ≡ some me.0 → me.0.consumes ≡ true → EndsHold wild kind slots s.words s.homes r.producing.producer me.0.consumer
  consumer_ends s r size at does = subst (λ (z : ℕ × View). EndsHold wild kind z.0 s.words s.homes r.producing.producer z.1.consumer) (λ k. (size k, consumer_is wild kind s r id me.0 at does k)) r.ends

  -- the sort of the ring is what the end knows of it
  pub as_producer : (sort : Bool) (i : ℕ) (f : ℕ → ℕ) (then : ℕ → Seated → Type 0) → me.0.producer.wild ≡ sort → me.0.produces ≡ true → Allows (RingHolds sort kind) slots id me i f then → Allows (RingHolds wild kind) slots id me i f then
  as_producer sort i f then is does may s r size at bound = let same : sort ≡ wild = sym is ∙ (producer_ends s r size at does).producer_sort in
      subst (λ (z : Bool). (w : View) × (a : Act Slot) × Valid s.homes me.1 a × RingHolds z kind (stepped s i (f (slice_index s.words i)) id me.1 w a) × then (slice_index s.words i) (w, carried_after me.1 a)) same (may s (subst (λ (z : Bool). RingHolds z kind s) (sym same) r) size at bound)

  pub as_consumer : (sort : Bool) (i : ℕ) (f : ℕ → ℕ) (then : ℕ → Seated → Type 0) → me.0.consumer.wild ≡ sort → me.0.consumes ≡ true → Allows (RingHolds sort kind) slots id me i f then → Allows (RingHolds wild kind) slots id me i f then
  as_consumer sort i f then is does may s r size at bound = let same : sort ≡ wild = sym is ∙ (consumer_ends s r size at does).consumer_sort in
      subst (λ (z : Bool). (w : View) × (a : Act Slot) × Valid s.homes me.1 a × RingHolds z kind (stepped s i (f (slice_index s.words i)) id me.1 w a) × then (slice_index s.words i) (w, carried_after me.1 a)) same (may s (subst (λ (z : Bool). RingHolds z kind s) (sym same) r) size at bound)

  -- a producer's step that leaves the slots alone
  pub producer_turns : (i : ℕ) (new : ℕ → ℕ) (f : ℕ → Half → Half) → me.0.produces ≡ true → me.0.consumes ≡ false
      → ((ws : List ℕ) (hs : List (maybe.Option Slot)) (c : Half) → EndsHold wild kind slots ws hs me.0.producer c → EndsHold wild kind slots (set ws i (new (slice_index ws i))) hs (f (slice_index ws i) me.0.producer) c)
      → Allows (RingHolds wild kind) slots id me i new (λ n m. (m.0 ≡ with_producer me.0 (f n me.0.producer)) × (m.1 ≡ me.1))
  producer_turns i new f does not keeps_it s r size at bound = let x : ℕ = slice_index s.words i in let h : Half = f x me.0.producer in (
    with_producer me.0 h,
    keeps,
    tt,
    producer_steps wild kind s r id me.0 h (set s.words i (new x)) s.homes slots at does not (keeps_it s.words s.homes r.consuming.consumer (producer_ends s r size at does)),
    (refl, refl),
  )

  -- the same where it is told of the other end
  pub producer_tells : (i : ℕ) (new : ℕ → ℕ) (f : ℕ → Half → Half) (told : ℕ → Seated → Type 0) → me.0.produces ≡ true → me.0.consumes ≡ false
      → ((ws : List ℕ) (hs : List (maybe.Option Slot)) (c : Half) → EndsHold wild kind slots ws hs me.0.producer c
      → EndsHold wild kind slots (set ws i (new (slice_index ws i))) hs (f (slice_index ws i) c) c × told (slice_index ws i) (with_producer me.0 (f (slice_index ws i) c), me.1))
      → Allows (RingHolds wild kind) slots id me i new told
  producer_tells i new f told does not keeps_it s r size at bound = let x : ℕ = slice_index s.words i in let c : Half = r.consuming.consumer in let h : Half = f x c in let kept = keeps_it s.words s.homes c (producer_ends s r size at does) in (
    with_producer me.0 h,
    keeps,
    tt,
    producer_steps wild kind s r id me.0 h (set s.words i (new x)) s.homes slots at does not kept.0,
    kept.1,
  )

  pub consumer_turns : (i : ℕ) (new : ℕ → ℕ) (f : ℕ → Half → Half) → me.0.consumes ≡ true → me.0.produces ≡ false
      → ((ws : List ℕ) (hs : List (maybe.Option Slot)) (p : Half) → EndsHold wild kind slots ws hs p me.0.consumer → EndsHold wild kind slots (set ws i (new (slice_index ws i))) hs p (f (slice_index ws i) me.0.consumer))
      → Allows (RingHolds wild kind) slots id me i new (λ n m. (m.0 ≡ with_consumer me.0 (f n me.0.consumer)) × (m.1 ≡ me.1))
  consumer_turns i new f does not keeps_it s r size at bound = let x : ℕ = slice_index s.words i in let h : Half = f x me.0.consumer in (
    with_consumer me.0 h,
    keeps,
    tt,
    consumer_steps wild kind s r id me.0 h (set s.words i (new x)) s.homes slots at does not (keeps_it s.words s.homes r.producing.producer (consumer_ends s r size at does)),
    (refl, refl),
  )

  pub consumer_tells : (i : ℕ) (new : ℕ → ℕ) (f : ℕ → Half → Half) (told : ℕ → Seated → Type 0) → me.0.consumes ≡ true → me.0.produces ≡ false
      → ((ws : List ℕ) (hs : List (maybe.Option Slot)) (p : Half) → EndsHold wild kind slots ws hs p me.0.consumer
      → EndsHold wild kind slots (set ws i (new (slice_index ws i))) hs p (f (slice_index ws i) p) × told (slice_index ws i) (with_consumer me.0 (f (slice_index ws i) p), me.1))
      → Allows (RingHolds wild kind) slots id me i new told
  consumer_tells i new f told does not keeps_it s r size at bound = let x : ℕ = slice_index s.words i in let p : Half = r.producing.producer in let h : Half = f x p in let kept = keeps_it s.words s.homes p (consumer_ends s r size at does) in (
    with_consumer me.0 h,
    keeps,
    tt,
    consumer_steps wild kind s r id me.0 h (set s.words i (new x)) s.homes slots at does not kept.0,
    kept.1,
  )

  pub home_allowed : me.0.produces ≡ true → me.0.consumes ≡ false → me.1 ≡ slots_held me.0.producer.grant (length me.0.producer.entries % slots) → Allows (RingHolds wild kind) slots id me tail_word (λ n. n) (producer_home (step slots tail_word 0 0 none) me)
  home_allowed does not holding s r size at bound = let e = producer_ends s r size at does in let p : Half = me.0.producer in let c : Half = r.consuming.consumer in let x : ℕ = slice_index s.words tail_word in
      let same : set s.words tail_word x ≡ s.words = set-get_or s.words tail_word 0 in (
        with_producer me.0 (sent_home p),
        gives,
        tt,
        producer_steps wild kind s r id me.0 (sent_home p) (set s.words tail_word x) (homes_after s.homes me.1 gives) slots at does not
            (subst (λ (z : List ℕ × List (ℕ × Slot)). EndsHold wild kind slots z.0 (homes_after s.homes z.1 gives) (sent_home p) c) (λ k. (sym same k, sym holding k)) (home_ends kind slots s.words s.homes p c wild e)),
        (refl, ap (λ (z : List (ℕ × Slot)). rest z) holding ∙ rest_held p.grant (length p.entries % slots)),
      )

  pub home_back_allowed : me.0.consumes ≡ true → me.0.produces ≡ false → me.1 ≡ slots_held me.0.consumer.grant (length me.0.consumer.entries % slots) → Allows (RingHolds wild kind) slots id me head_word (λ n. n) (consumer_home (step slots head_word 0 0 none) me)
  home_back_allowed does not holding s r size at bound = let e = consumer_ends s r size at does in let c : Half = me.0.consumer in let p : Half = r.producing.producer in let x : ℕ = slice_index s.words head_word in
      let same : set s.words head_word x ≡ s.words = set-get_or s.words head_word 0 in (
        with_consumer me.0 (sent_home c),
        gives,
        tt,
        consumer_steps wild kind s r id me.0 (sent_home c) (set s.words head_word x) (homes_after s.homes me.1 gives) slots at does not
            (subst (λ (z : List ℕ × List (ℕ × Slot)). EndsHold wild kind slots z.0 (homes_after s.homes z.1 gives) p (sent_home c)) (λ k. (sym same k, sym holding k)) (home_back_ends kind slots s.words s.homes p c wild e)),
        (refl, ap (λ (z : List (ℕ × Slot)). rest z) holding ∙ rest_held c.grant (length c.entries % slots)),
      )

module _ (kind : QueueKind) (slots id : ℕ) (me : Seated) where
  pub room_allowed : me.0.produces ≡ true → me.0.consumes ≡ false → is_clear me.0.producer.waiter ≡ false → me.1 ≡ slots_held me.0.producer.grant (length me.0.producer.entries % slots)
      → Allows (RingHolds false kind) slots id me head_word (λ n. n) (room_done (step slots head_word 0 0 none) me)
  room_allowed does not calm holding s r size at bound =
      let e = producer_ends false kind slots id me s r size at does in let p : Half = me.0.producer in let c : Half = r.consuming.consumer in let t : ℕ = wrap (length c.entries) in let x : ℕ = slice_index s.words head_word in
      let word : t ≡ x = ap (λ (z : List ℕ). slice_index z head_word) (sym e.shared.words_are) in
      let same : set s.words head_word x ≡ s.words = set-get_or s.words head_word 0 in
      let go : LooksRoom kind slots s.words s.homes p c false (tells_room slots (length p.entries) x) head_word x (room_ahead slots (length p.entries) x) me.1 =
      subst (λ (z : ℕ × List (ℕ × Slot)). LooksRoom kind slots s.words s.homes p c false (tells_room slots (length p.entries) z.0) head_word z.0 (room_ahead slots (length p.entries) z.0) z.1) (λ k. (word k, sym holding k)) (room_step kind slots s.words s.homes p c e calm) in (
        with_producer me.0 (room_read slots p head_word x),
        go.0,
        go.1,
        producer_steps false kind s r id me.0 (room_read slots p head_word x) (set s.words head_word x) (homes_after s.homes me.1 go.0) slots at does not (subst (λ (z : List ℕ). EndsHold false kind slots z (homes_after s.homes me.1 go.0) (room_read slots p head_word x) c) (sym same) go.2),
        (subst (λ (z : ℕ). z < 65536) word (mod-lt (length c.entries) (lit< tt)), refl, go.3),
      )

  pub room_again_allowed : me.0.produces ≡ true → me.0.consumes ≡ false → is_clear me.0.producer.waiter ≡ false → 0 < me.0.producer.ahead → me.1 ≡ slots_held me.0.producer.grant (length me.0.producer.entries % slots)
      → Allows (RingHolds false kind) slots id me tail_word (λ n. n) (room_again (step slots tail_word 0 0 none) me)
  room_again_allowed does not calm more holding s r size at bound =
      let e = producer_ends false kind slots id me s r size at does in let p : Half = me.0.producer in let c : Half = r.consuming.consumer in let x : ℕ = slice_index s.words tail_word in
      let same : set s.words tail_word x ≡ s.words = set-get_or s.words tail_word 0 in
      let go : LooksRoom kind slots s.words s.homes p c false true tail_word x p.ahead me.1 = subst (LooksRoom kind slots s.words s.homes p c false true tail_word x p.ahead) (sym holding) (room_known kind slots s.words s.homes p c e tail_word x calm more) in (
        with_producer me.0 (room_kept p tail_word x),
        go.0,
        go.1,
        producer_steps false kind s r id me.0 (room_kept p tail_word x) (set s.words tail_word x) (homes_after s.homes me.1 go.0) slots at does not (subst (λ (z : List ℕ). EndsHold false kind slots z (homes_after s.homes me.1 go.0) (room_kept p tail_word x) c) (sym same) go.2),
        (refl, go.3),
      )

  pub put_allowed : (x : Cargo) (time new : ℕ) → me.0.produces ≡ true → me.0.consumes ≡ false → kind_of x.0 ≡ me.0.producer.kind → is_clear me.0.producer.waiter ≡ false → is_free_or_put me.0.producer.ringer ≡ true → me.0.producer.grant ≡ Some None
      → new ≡ wrap (length me.0.producer.entries + 1) → me.1 ≡ (length me.0.producer.entries % slots, Some x) ∷ []
      → Allows (RingHolds false kind) slots id me tail_word (λ _. new) (λ _ m. put_done time (step slots tail_word new 0 none) me new m)
  put_allowed x time new does not fits calm may gr is holding s r size at bound =
      let e = producer_ends false kind slots id me s r size at does in let p : Half = me.0.producer in let c : Half = r.consuming.consumer in let i : ℕ = length p.entries % slots in (
        with_producer me.0 (sent_one x time tail_word new p),
        gives,
        tt,
        producer_steps false kind s r id me.0 (sent_one x time tail_word new p) (set s.words tail_word new) (homes_after s.homes me.1 gives) slots at does not
            (subst (λ (z : List (ℕ × Slot)). EndsHold false kind slots (set s.words tail_word new) (homes_after s.homes z gives) (sent_one x time tail_word new p) c) (sym holding) (put_ends kind slots s.words s.homes p c e x time new i (fits ∙ e.lists.producer_kind) calm may gr is refl)),
        (λ y other. (ap (λ (z : List (ℕ × Slot)). with_producer me.0 (sent_one (first_of z x) time tail_word new p)) (sym holding ∙ other), ap (carried_after_gives) holding)),
      )

  pub see_allowed : me.0.consumes ≡ true → me.0.produces ≡ false → is_clear me.0.consumer.waiter ≡ false → me.1 ≡ slots_held me.0.consumer.grant (length me.0.consumer.entries % slots)
      → Allows (RingHolds false kind) slots id me tail_word (λ n. n) (see_done (step slots tail_word 0 0 none) me)
  see_allowed does not calm holding s r size at bound = let e = consumer_ends false kind slots id me s r size at does in let c : Half = me.0.consumer in let p : Half = r.producing.producer in let t : ℕ = wrap (length p.entries) in let x : ℕ = slice_index s.words tail_word in
      let word : t ≡ x = ap (λ (z : List ℕ). slice_index z tail_word) (sym e.shared.words_are) in let same : set s.words tail_word x ≡ s.words = set-get_or s.words tail_word 0 in
      let go : LooksEntry kind slots s.words s.homes p c false (tells_entry (length c.entries) x) tail_word x (entries_ahead (length c.entries) x) me.1 =
      subst (λ (z : ℕ × List (ℕ × Slot)). LooksEntry kind slots s.words s.homes p c false (tells_entry (length c.entries) z.0) tail_word z.0 (entries_ahead (length c.entries) z.0) z.1) (λ k. (word k, sym holding k)) (see_step kind slots s.words s.homes p c e calm) in (
        with_consumer me.0 (see_read go.2.0 c tail_word x),
        go.0,
        go.1,
        consumer_steps false kind s r id me.0 (see_read go.2.0 c tail_word x) (set s.words tail_word x) (homes_after s.homes me.1 go.0) slots at does not
            (subst (λ (z : List ℕ). EndsHold false kind slots z (homes_after s.homes me.1 go.0) p (see_read go.2.0 c tail_word x)) (sym same) go.2.2),
        (go.2.0, subst (λ (z : QueueKind). Granted z (tells_entry (length c.entries) x) go.2.0) (sym e.lists.consumer_kind) go.2.1, refl, go.2.3),
      )

  pub see_again_allowed : me.0.consumes ≡ true → me.0.produces ≡ false → is_clear me.0.consumer.waiter ≡ false → 0 < me.0.consumer.ahead → me.1 ≡ slots_held me.0.consumer.grant (length me.0.consumer.entries % slots)
      → Allows (RingHolds false kind) slots id me head_word (λ n. n) (see_again (step slots head_word 0 0 none) me)
  see_again_allowed does not calm more holding s r size at bound = let e = consumer_ends false kind slots id me s r size at does in let c : Half = me.0.consumer in let p : Half = r.producing.producer in let x : ℕ = slice_index s.words head_word in
      let same : set s.words head_word x ≡ s.words = set-get_or s.words head_word 0 in
      let go : LooksEntry kind slots s.words s.homes p c false true head_word x c.ahead me.1 = subst (LooksEntry kind slots s.words s.homes p c false true head_word x c.ahead) (sym holding) (see_known kind slots s.words s.homes p c e head_word x calm more) in (
        with_consumer me.0 (see_kept go.2.0 c head_word x),
        go.0,
        go.1,
        consumer_steps false kind s r id me.0 (see_kept go.2.0 c head_word x) (set s.words head_word x) (homes_after s.homes me.1 go.0) slots at does not
            (subst (λ (z : List ℕ). EndsHold false kind slots z (homes_after s.homes me.1 go.0) p (see_kept go.2.0 c head_word x)) (sym same) go.2.2),
        (go.2.0, subst (λ (z : QueueKind). Granted z true go.2.0) (sym e.lists.consumer_kind) go.2.1, refl, go.2.3),
      )

  pub take_allowed : (x : Cargo) (new : ℕ) → me.0.consumes ≡ true → me.0.produces ≡ false → is_clear me.0.consumer.waiter ≡ false → is_free_or_put me.0.consumer.ringer ≡ true → me.0.consumer.grant ≡ Some (Some x) → new ≡ wrap (length me.0.consumer.entries + 1)
      → me.1 ≡ (length me.0.consumer.entries % slots, None) ∷ [] → Allows (RingHolds false kind) slots id me head_word (λ _. new) (λ _ m. take_done (step slots head_word new 0 none) me new m)
  take_allowed x new does not calm may gr is holding s r size at bound = let e = consumer_ends false kind slots id me s r size at does in let c : Half = me.0.consumer in let p : Half = r.producing.producer in let i : ℕ = length c.entries % slots in let first = first_time kind slots s.words s.homes p c e.lists x gr in let time : ℕ = first.0 in (
    with_consumer me.0 (took_one x time head_word new c),
    gives,
    tt,
    consumer_steps false kind s r id me.0 (took_one x time head_word new c) (set s.words head_word new) (homes_after s.homes me.1 gives) slots at does not
        (subst (λ (z : List (ℕ × Slot)). EndsHold false kind slots (set s.words head_word new) (homes_after s.homes z gives) p (took_one x time head_word new c)) (sym holding) (take_ends kind slots s.words s.homes p c e x time new i first.1 first.2 calm may gr is refl)),
    (λ y other. (time, ap (λ (z : Cargo). with_consumer me.0 (took_one z time head_word new c)) (same_grant x y (sym gr ∙ other)), ap (λ (z : List (ℕ × Slot)). rest z) holding)),
  )

  -- a step on one of the six words of a wild ring
  pub producer_passes : (i : ℕ) (new said : ℕ → ℕ) → i < 36 → me.0.produces ≡ true → me.0.consumes ≡ false
      → Allows (RingHolds true kind) slots id me i new (λ n m. (m.0 ≡ with_producer me.0 (passed i (said n) me.0.producer)) × (m.1 ≡ me.1) × (me.0.producer.wild ≡ true))
  producer_passes i new said low does not s r size at bound = let e = producer_ends true kind slots id me s r size at does in let p : Half = me.0.producer in let c : Half = r.consuming.consumer in let x : ℕ = slice_index s.words i in (
    with_producer me.0 (passed i (said x) p),
    keeps,
    tt,
    producer_steps true kind s r id me.0 (passed i (said x) p) (set s.words i (new x)) s.homes slots at does not (beside kind slots s.words s.homes p c e (passed i (said x) p) c i (new x) low (refl, refl, refl, refl, refl) (it_is c)),
    (refl, refl, e.producer_sort),
  )

  pub consumer_passes : (i : ℕ) (new said : ℕ → ℕ) → i < 36 → me.0.consumes ≡ true → me.0.produces ≡ false
      → Allows (RingHolds true kind) slots id me i new (λ n m. (m.0 ≡ with_consumer me.0 (passed i (said n) me.0.consumer)) × (m.1 ≡ me.1) × (me.0.consumer.wild ≡ true))
  consumer_passes i new said low does not s r size at bound = let e = consumer_ends true kind slots id me s r size at does in let c : Half = me.0.consumer in let p : Half = r.producing.producer in let x : ℕ = slice_index s.words i in (
    with_consumer me.0 (passed i (said x) c),
    keeps,
    tt,
    consumer_steps true kind s r id me.0 (passed i (said x) c) (set s.words i (new x)) s.homes slots at does not (beside kind slots s.words s.homes p c e p (passed i (said x) c) i (new x) low (it_is p) (refl, refl, refl, refl, refl)),
    (refl, refl, e.consumer_sort),
  )

  -- the two steps of a look on a wild ring
  pub head_allowed : me.0.produces ≡ true → me.0.consumes ≡ false → me.1 ≡ slots_held me.0.producer.grant (length me.0.producer.entries % slots)
      → Allows (RingHolds true kind) slots id me head_word (λ n. n) (head_read (step slots head_word 0 0 none) me)
  head_allowed does not holding s r size at bound = let e = producer_ends true kind slots id me s r size at does in let p : Half = me.0.producer in let c : Half = r.consuming.consumer in let x : ℕ = slice_index s.words head_word in let fits : Bool = fits_room slots (length p.entries) x in
      let same : set s.words head_word x ≡ s.words = set-get_or s.words head_word 0 in
      let go : LooksHead kind slots s.words s.homes p c fits head_word x me.1 = subst (LooksHead kind slots s.words s.homes p c fits head_word x) (sym holding) (head_goes kind slots s.words s.homes p c e fits head_word x) in (
        with_producer me.0 (index_read fits head_word x p),
        go.0,
        go.1,
        producer_steps true kind s r id me.0 (index_read fits head_word x p) (set s.words head_word x) (homes_after s.homes me.1 go.0) slots at does not (subst (λ (z : List ℕ). EndsHold true kind slots z (homes_after s.homes me.1 go.0) (index_read fits head_word x p) c) (sym same) go.2),
        (refl, go.3),
      )

  pub room_guard_allowed : (w : ℕ) → w ≡ guard_word slots (length me.0.producer.entries) → me.0.produces ≡ true → me.0.consumes ≡ false → me.1 ≡ slots_held me.0.producer.grant (length me.0.producer.entries % slots)
      → Allows (RingHolds true kind) slots id me w (λ n. n) (room_guard_read (step slots w 0 0 none) me)
  room_guard_allowed w on does not holding s r size at bound = let e = producer_ends true kind slots id me s r size at does in let p : Half = me.0.producer in let c : Half = r.consuming.consumer in let x : ℕ = slice_index s.words w in let b : Bool = nat_eq x 0 in
      let same : set s.words w x ≡ s.words = set-get_or s.words w 0 in
      let go : LooksRoom kind slots s.words s.homes p c true b w x p.ahead me.1 = subst (LooksRoom kind slots s.words s.homes p c true b w x p.ahead) (sym holding) (room_guard_step kind slots s.words s.homes p c e w on) in (
        with_producer me.0 (after_look b w x (empty_if b) p.ahead p),
        go.0,
        go.1,
        producer_steps true kind s r id me.0 (after_look b w x (empty_if b) p.ahead p) (set s.words w x) (homes_after s.homes me.1 go.0) slots at does not (subst (λ (z : List ℕ). EndsHold true kind slots z (homes_after s.homes me.1 go.0) (after_look b w x (empty_if b) p.ahead p) c) (sym same) go.2),
        (refl, go.3),
      )

  pub tail_allowed : me.0.consumes ≡ true → me.0.produces ≡ false → me.1 ≡ slots_held me.0.consumer.grant (length me.0.consumer.entries % slots)
      → Allows (RingHolds true kind) slots id me tail_word (λ n. n) (tail_read (step slots tail_word 0 0 none) me)
  tail_allowed does not holding s r size at bound = let e = consumer_ends true kind slots id me s r size at does in let c : Half = me.0.consumer in let p : Half = r.producing.producer in let x : ℕ = slice_index s.words tail_word in let fits : Bool = fits_entry slots (length c.entries) x in
      let same : set s.words tail_word x ≡ s.words = set-get_or s.words tail_word 0 in
      let go : LooksTail kind slots s.words s.homes p c fits tail_word x me.1 = subst (LooksTail kind slots s.words s.homes p c fits tail_word x) (sym holding) (tail_goes kind slots s.words s.homes p c e fits tail_word x) in (
        with_consumer me.0 (index_read fits tail_word x c),
        go.0,
        go.1,
        consumer_steps true kind s r id me.0 (index_read fits tail_word x c) (set s.words tail_word x) (homes_after s.homes me.1 go.0) slots at does not (subst (λ (z : List ℕ). EndsHold true kind slots z (homes_after s.homes me.1 go.0) p (index_read fits tail_word x c)) (sym same) go.2),
        (refl, go.3),
      )

  pub entry_guard_allowed : (w : ℕ) → w ≡ guard_word slots (length me.0.consumer.entries) → me.0.consumes ≡ true → me.0.produces ≡ false → me.1 ≡ slots_held me.0.consumer.grant (length me.0.consumer.entries % slots)
      → Allows (RingHolds true kind) slots id me w (λ n. n) (entry_guard_read (step slots w 0 0 none) me)
  entry_guard_allowed w on does not holding s r size at bound = let e = consumer_ends true kind slots id me s r size at does in let c : Half = me.0.consumer in let p : Half = r.producing.producer in let x : ℕ = slice_index s.words w in let b : Bool = nat_eq x 1 in
      let same : set s.words w x ≡ s.words = set-get_or s.words w 0 in
      let go : LooksEntry kind slots s.words s.homes p c true b w x c.ahead me.1 = subst (LooksEntry kind slots s.words s.homes p c true b w x c.ahead) (sym holding) (entry_guard_step kind slots s.words s.homes p c e w on) in (
        with_consumer me.0 (after_look b w x go.2.0 c.ahead c),
        go.0,
        go.1,
        consumer_steps true kind s r id me.0 (after_look b w x go.2.0 c.ahead c) (set s.words w x) (homes_after s.homes me.1 go.0) slots at does not (subst (λ (z : List ℕ). EndsHold true kind slots z (homes_after s.homes me.1 go.0) p (after_look b w x go.2.0 c.ahead c)) (sym same) go.2.2),
        (go.2.0, subst (λ (z : QueueKind). Granted z b go.2.0) (sym e.lists.consumer_kind) go.2.1, refl, go.2.3),
      )

  -- a put and a take on a wild ring store to the guard
  pub fill_allowed : (x : Cargo) (time w : ℕ) → w ≡ guard_word slots (length me.0.producer.entries) → me.0.produces ≡ true → me.0.consumes ≡ false → kind_of x.0 ≡ me.0.producer.kind → me.0.producer.grant ≡ Some None → me.1 ≡ (length me.0.producer.entries % slots, Some x) ∷ []
      → Allows (RingHolds true kind) slots id me w (λ _. 1) (λ _ m. put_done time (step slots w 1 0 none) me 1 m)
  fill_allowed x time w on does not fits gr holding s r size at bound =
      let e = producer_ends true kind slots id me s r size at does in let p : Half = me.0.producer in let c : Half = r.consuming.consumer in let i : ℕ = length p.entries % slots in (
        with_producer me.0 (sent_one x time w 1 p),
        gives,
        tt,
        producer_steps true kind s r id me.0 (sent_one x time w 1 p) (set s.words w 1) (homes_after s.homes me.1 gives) slots at does not
            (subst (λ (z : List (ℕ × Slot)). EndsHold true kind slots (set s.words w 1) (homes_after s.homes z gives) (sent_one x time w 1 p) c) (sym holding) (fill_ends kind slots s.words s.homes p c e x time w i (fits ∙ e.lists.producer_kind) gr on refl)),
        (λ y other. (ap (λ (z : List (ℕ × Slot)). with_producer me.0 (sent_one (first_of z x) time w 1 p)) (sym holding ∙ other), ap (carried_after_gives) holding)),
      )

  pub empty_allowed : (x : Cargo) (w : ℕ) → w ≡ guard_word slots (length me.0.consumer.entries) → me.0.consumes ≡ true → me.0.produces ≡ false → me.0.consumer.grant ≡ Some (Some x)
      → me.1 ≡ (length me.0.consumer.entries % slots, None) ∷ [] → Allows (RingHolds true kind) slots id me w (λ _. 0) (λ _ m. take_done (step slots w 0 0 none) me 0 m)
  empty_allowed x w on does not gr holding s r size at bound = let e = consumer_ends true kind slots id me s r size at does in let c : Half = me.0.consumer in let p : Half = r.producing.producer in let i : ℕ = length c.entries % slots in let first = first_time kind slots s.words s.homes p c e.lists x gr in let time : ℕ = first.0 in (
    with_consumer me.0 (took_one x time w 0 c),
    gives,
    tt,
    consumer_steps true kind s r id me.0 (took_one x time w 0 c) (set s.words w 0) (homes_after s.homes me.1 gives) slots at does not
        (subst (λ (z : List (ℕ × Slot)). EndsHold true kind slots (set s.words w 0) (homes_after s.homes z gives) p (took_one x time w 0 c)) (sym holding) (empty_ends kind slots s.words s.homes p c e x time w i first.1 first.2 gr on refl)),
    (λ y other. (time, ap (λ (z : Cargo). with_consumer me.0 (took_one z time w 0 c)) (same_grant x y (sym gr ∙ other)), ap (λ (z : List (ℕ × Slot)). rest z) holding)),
  )
