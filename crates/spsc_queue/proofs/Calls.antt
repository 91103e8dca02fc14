-- What the calls need beside the steps.
use Rattle.std.proofs.Common.{◌≡◌, ◌≢◌, ℕ, ◌+◌, ◌%◌, ◌<◌, arith, mod-lt, subst, nat_eq, List, [], ◌∷◌, length, length-append, refl, sym, ap, ◌∙◌, Option, Some, None, Bool, true, false, is_some}
use Rattle.atomic_table.specs.Table.{rest}
use Rattle.cargo_core.specs.declared.item.QueueKind.{QueueKind}
use Rattle.cargo_core.specs.Items.{kind_of}
use Rattle.wire_core.specs.Deeds.{Cargo}
use Rattle.spsc_queue.specs.declared.view.Half.{Half}
use Rattle.spsc_queue.specs.declared.view.View.{View}
use Rattle.spsc_queue.specs.Rule.{Slot, wrap, guard_word}
use Rattle.spsc_queue.specs.Steps.{Seated, after_look, empty_if, last_value, slots_held, Granted, GrantedKind, with_producer, with_consumer, sent_one, took_one}
use Rattle.spsc_queue.proofs.Looks.{place_is, next_index}

-- the slot that an end holds, by the index that it keeps
pub held_here : (n len index capacity slot : ℕ) (g : Option Slot) (y : Slot) (m : List (ℕ × Slot)) → m ≡ slots_held g (len % n) → g ≡ Some y → index ≡ wrap len → slot ≡ index % capacity → n ≡ capacity → 65536 % capacity ≡ 0 → m ≡ (slot, y) ∷ []
held_here n len index capacity slot g y m holding gr at is size divides = holding ∙ (ap (λ (z : Option Slot). slots_held z (len % n)) gr ∙ ap (λ (z : ℕ). (z, y) ∷ []) (ap (λ (z : ℕ). len % z) size ∙ (sym (place_is capacity len divides) ∙ (ap (λ (z : ℕ). z % capacity) (sym at) ∙ sym is))))

-- as `exchange` asks it
pub takes_first : (slot : ℕ) (y : Slot) (m : List (ℕ × Slot)) → m ≡ (slot, y) ∷ [] → m ≡ (slot, y) ∷ rest m
takes_first slot y m e = e ∙ sym (ap (λ (z : List (ℕ × Slot)). (slot, y) ∷ rest z) e)

pub granted_some : (g : Option Slot) → is_some g ≡ true → (y : Slot) × (g ≡ Some y)
granted_some None n = cc
granted_some (Some y) n = (y, refl)

inside : (x y : Cargo) → Some (Some x) ≡ Some (Some y) → x ≡ y
inside x y e = cc

pub granted_room : (g : Option Slot) → is_some g ≡ true → ((x : Cargo) → g ≢ Some (Some x)) → g ≡ Some None
granted_room None n empty = cc
granted_room (Some None) n empty = refl
granted_room (Some (Some x)) n empty = absurd (empty x refl)

-- what `see` granted has the kind
pub granted_kind : (kind : QueueKind) (b : Bool) (g : Option Slot) → Granted kind b g → GrantedKind kind g
granted_kind kind true g h = ((λ e. (cc (h.1))), λ x e. (let same : h.0 ≡ x = inside (h.0) x (sym h.1 ∙ e) in ap (λ (z : Cargo). kind_of z.0) (sym same) ∙ h.2))
granted_kind kind false g h = ((λ e. (cc (h))), λ x e. (cc (h)))

-- the same slot with something else in it
pub filled_here : (n len index capacity slot : ℕ) (g : Option Slot) (y z : Slot) (m : List (ℕ × Slot)) → m ≡ slots_held g (len % n) → g ≡ Some y → index ≡ wrap len → slot ≡ index % capacity → n ≡ capacity → 65536 % capacity ≡ 0 → (slot, z) ∷ rest m ≡ (len % n, z) ∷ []
filled_here n len index capacity slot g y z m holding gr at is size divides = let e = held_here n len index capacity slot g y m holding gr at is size divides in
    ap (λ (l : List (ℕ × Slot)). (slot, z) ∷ rest l) e ∙ ap (λ (k : ℕ). (k, z) ∷ []) (is ∙ (ap (λ (k : ℕ). k % capacity) at ∙ (place_is capacity len divides ∙ ap (λ (k : ℕ). len % k) (sym size))))

module _ (me me2 m' : Seated) (index : ℕ) (x : Cargo) (time word value : ℕ) where
  -- what a put leaves to the producer
  pub put_after : (n : ℕ) → me2.0 ≡ me.0 → (m'.0 ≡ with_producer me2.0 (sent_one x time word value me2.0.producer)) × (m'.1 ≡ []) → (me.0.produces ≡ true) × (me.0.consumes ≡ false) → index ≡ wrap (length me.0.producer.entries)
      → ((m'.0.produces ≡ true) × (m'.0.consumes ≡ false)) × ((index + 1) % 65536 ≡ wrap (length m'.0.producer.entries)) × (m'.1 ≡ slots_held m'.0.producer.grant n) × ((y : Cargo) → m'.0.producer.grant ≢ Some (Some y))
  put_after n same did role at = let now : m'.0 ≡ with_producer me.0 (sent_one x time word value me.0.producer) = did.0 ∙ ap (λ (v : View). with_producer v (sent_one x time word value v.producer)) same in let len : ℕ = length me.0.producer.entries in (
    (ap (λ (v : View). v.produces) now ∙ role.0, ap (λ (v : View). v.consumes) now ∙ role.1),
    ap (λ (z : ℕ). wrap (z + 1)) at ∙ (next_index len ∙ ap wrap (sym (ap (λ (v : View). length v.producer.entries) now ∙ length-append me.0.producer.entries (x ∷ [])))),
    did.1 ∙ ap (λ (v : View). slots_held v.producer.grant n) (sym now),
    λ y e. (let z : None ≡ Some (Some y) = sym (ap (λ (v : View). v.producer.grant) now) ∙ e in cc),
  )

  pub take_after : (n : ℕ) → me2.0 ≡ me.0 → (m'.0 ≡ with_consumer me2.0 (took_one x time word value me2.0.consumer)) × (m'.1 ≡ []) → (me.0.consumes ≡ true) × (me.0.produces ≡ false) → index ≡ wrap (length me.0.consumer.entries)
      → ((m'.0.consumes ≡ true) × (m'.0.produces ≡ false)) × ((index + 1) % 65536 ≡ wrap (length m'.0.consumer.entries)) × (m'.1 ≡ slots_held m'.0.consumer.grant n) × (m'.0.consumer.grant ≡ None)
  take_after n same did role at = let now : m'.0 ≡ with_consumer me.0 (took_one x time word value me.0.consumer) = did.0 ∙ ap (λ (v : View). with_consumer v (took_one x time word value v.consumer)) same in let len : ℕ = length me.0.consumer.entries in (
    (ap (λ (v : View). v.consumes) now ∙ role.0, ap (λ (v : View). v.produces) now ∙ role.1),
    ap (λ (z : ℕ). wrap (z + 1)) at ∙ (next_index len ∙ ap wrap (sym (ap (λ (v : View). length v.consumer.entries) now ∙ length-append me.0.consumer.entries (x ∷ [])))),
    did.1 ∙ ap (λ (v : View). slots_held v.consumer.grant n) (sym now),
    ap (λ (v : View). v.consumer.grant) now,
  )

-- the value in the first slot
abbrev first_or : Slot → List (ℕ × Slot) → Slot
first_or y [] = y
first_or y (x ∷ xs) = x.1

-- what an exchange found is what the seat held
pub same_first : (m : List (ℕ × Slot)) (k : ℕ) (y z : Slot) → m ≡ (k, y) ∷ [] → m ≡ (k, z) ∷ rest m → y ≡ z
same_first m k y z e f = let g : (k, y) ∷ [] ≡ (k, z) ∷ rest m = sym e ∙ f in ap (λ (l : List (ℕ × Slot)). first_or y l) g

-- nothing is granted
pub ungranted : (kind : QueueKind) (g : Option Slot) → g ≡ None → GrantedKind kind g
ungranted kind g is = ((λ e. cc), λ x e. cc)

-- the place of an end's index, by the index that it keeps
pub slot_is : (n len index capacity slot : ℕ) → index ≡ wrap len → slot ≡ index % capacity → n ≡ capacity → 65536 % capacity ≡ 0 → slot ≡ len % n
slot_is n len index capacity slot at is size divides = is ∙ (ap (λ (z : ℕ). z % capacity) at ∙ (place_is capacity len divides ∙ ap (λ (z : ℕ). len % z) (sym size)))

pub slot_below : (index capacity slot : ℕ) → slot ≡ index % capacity → 0 < capacity → slot < capacity
slot_below index capacity slot is some_place = subst (λ (z : ℕ). z < capacity) (sym is) (mod-lt index some_place)

-- its guard lies inside the words
pub guard_below : (words capacity slot : ℕ) → words ≡ 36 + capacity → slot < capacity → 36 + slot < words
guard_below words capacity slot are lt = omega (arith, are, lt)

-- the guard at an end's own place
pub guard_here : (n n0 slot : ℕ) (h h0 : Half) → h ≡ h0 → slot ≡ length h.entries % n → n ≡ n0 → 36 + slot ≡ guard_word n0 (length h0.entries)
guard_here n n0 slot h h0 same at size = ap (λ (z : ℕ). 36 + z) (at ∙ (λ i. length (same i).entries % size i))

-- what an end knows after it read the guard there
module _ (n n0 slot : ℕ) (h h0 h' : Half) (r : ℕ) (same : h ≡ h0) (at : slot ≡ length h.entries % n) (size : n ≡ n0) where
  place_here : 36 + slot ≡ guard_word n0 (length h0.entries)
  place_here = guard_here n n0 slot h h0 same at size

  pub seen_guard : (g : Option Slot) → h' ≡ after_look (nat_eq r 1) (36 + slot) r g h.ahead h → h' ≡ after_look (nat_eq (last_value h') 1) (guard_word n0 (length h0.entries)) (last_value h') h'.grant h0.ahead h0
  seen_guard g is = is ∙ (λ i. after_look (nat_eq (sym (ap last_value is) i) 1) (place_here i) (sym (ap last_value is) i) (sym (ap (λ (z : Half). z.grant) is) i) (same i).ahead (same i))

  pub roomed_guard : h' ≡ after_look (nat_eq r 0) (36 + slot) r (empty_if (nat_eq r 0)) h.ahead h → h' ≡ after_look (nat_eq (last_value h') 0) (guard_word n0 (length h0.entries)) (last_value h') (empty_if (nat_eq (last_value h') 0)) h0.ahead h0
  roomed_guard is = is ∙ (λ i. after_look (nat_eq (sym (ap last_value is) i) 0) (place_here i) (sym (ap last_value is) i) (empty_if (nat_eq (sym (ap last_value is) i) 0)) (same i).ahead (same i))
