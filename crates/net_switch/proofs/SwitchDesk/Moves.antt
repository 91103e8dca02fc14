-- What a switch holds goes on to stand for what passed, where a frame came, a buffer was filled, a
-- copy was put or a buffer went back.
use Rattle.std.proofs.Common.{◌≡◌, ◌⊎◌, ◌+◌, ◌<◌, ◌≤◌, ◌==◌, ℕ, zero, suc, Bool, true, false, not, cond, List, [], ◌∷◌, ◌++◌, length, map, drop, flat_map, Option, Some, None, slice_get, slice_set, slice_index_or, inl, inr, refl, ap, sym, ◌∙◌, arith, ne_eqb, ltb}
use Rattle.std.specs.List.{filter, find, count_by}
use Rattle.std.specs.Option.{is_some, option_to_list, option_map}
use Rattle.std.proofs.lemmas.Bool.{cases_Bool, cases_lt, and_parts, eq-eqb, lt-ltb}
use Rattle.std.proofs.lemmas.List.{append-nil, length-set, drop-append-le, get_or-set_other, map-append, length-map}
use Rattle.std.proofs.lemmas.Option.{slice_get_within}
use Rattle.std.proofs.lemmas.List.Elements.{filter-append}
use Rattle.std.proofs.lemmas.List.Sums.{sum_by_push}
use Rattle.cargo_core.specs.declared.item.Item.TheVariants as ItemOf
use Rattle.cargo_core.specs.Items.{kind_of}
use Rattle.cargo_core.specs.declared.item.QueueKind.TheVariants as Kind
use Rattle.frame_core.specs.declared.mac.Mac.{Mac}
use Rattle.wire_core.specs.Deeds.{Cargo}
use Rattle.class_expect.specs.NetExpect.Expecting.{is_for_client}
use Rattle.turn_kit.proofs.Offers.{get_map}
use Rattle.buffer_kit.specs.Clients.{capped, entry_in, is_so, with_more}
use Rattle.buffer_kit.specs.Entries.{filled, frame_of, all_filled}
use Rattle.buffer_kit.proofs.Filling.{filled_more, filled_still}
use Rattle.buffer_kit.proofs.ManyClients.{so_there, some_eq, there_more, other_more}
use Rattle.net_virt_rx.specs.Sharing.{how_many}
use Rattle.net_virt_rx.proofs.Marking.{all_clear}
use Rattle.net_switch.specs.declared.switch_desk.slot.Slot.{Slot}
use Rattle.net_switch.specs.declared.switch_desk.desk.Desk.{Desk}
use Rattle.net_switch.specs.SwitchDesk.Frames.{Sent, goes_to, is_lost, sent_to, frames_to, entries_from, receivers_of}
use Rattle.net_switch.specs.SwitchDesk.Orders.{times, AreOnce, turned_last}
use Rattle.net_switch.specs.SwitchDesk.Desks.{IsSlot, IsKept, IsDesk, WithSlot, PortStands, Moved, IsFilledFor, held_at, copy_at, owes, first_owing, owed_by, owed_to, is_loaded, is_copied, has_copy}
use Rattle.net_switch.proofs.SwitchDesk.Orders.{turned_times, turned_once}
use Rattle.net_switch.proofs.SwitchDesk.Owing.{owed_turned, owed_settled, owed_same, owed_first, found_there, there_found, some_there}
use Rattle.net_switch.proofs.SwitchDesk.Places.{same_or_not, get_here, get_beside, get_same, get_long, get_each, owed_in, cleared, still_more, kept}

-- lists of which a front is left out
drop_tail : {X : Type 0} (n : ℕ) (xs ys : List X) (y : X) → drop n xs ≡ y ∷ ys → drop (suc n) xs ≡ ys
drop_tail zero [] ys y h = cc
drop_tail zero (x ∷ xs) ys y h = cc
drop_tail (suc n) [] ys y h = cc
drop_tail (suc n) (x ∷ xs) ys y h = drop_tail n xs ys y h

drop_head : {X : Type 0} (n : ℕ) (xs ys : List X) (y : X) → drop n xs ≡ y ∷ ys → slice_get xs n ≡ Some y
drop_head zero [] ys y h = cc
drop_head zero (x ∷ xs) ys y h = cc
drop_head (suc n) [] ys y h = cc
drop_head (suc n) (x ∷ xs) ys y h = drop_head n xs ys y h

long_more : {X : Type 0} (xs : List X) (x : X) → length (xs ++ x ∷ []) ≡ suc (length xs)
long_more [] x = refl
long_more (y ∷ xs) x = ap suc (long_more xs x)

long_front : {X : Type 0} (xs ys : List X) → length xs ≤ length (xs ++ ys)
long_front [] ys = omega arith
long_front (x ∷ xs) ys = let h = long_front xs ys in omega (arith, h)

-- as many are filled as there are only where there are enough frames
filled_few : (fs : List (List ℕ)) (cs : List Cargo) → length cs ≡ length (all_filled fs cs) → length cs ≤ length fs
filled_few [] [] h = omega arith
filled_few [] (c ∷ cs) h = absurd (omega (arith, h))
filled_few (f ∷ fs) [] h = omega arith
filled_few (f ∷ fs) (c ∷ cs) h = let rest = filled_few fs cs (omega (arith, h)) in omega (arith, rest)

-- a port to which no more than its frames came
pub few_given : (d : Desk) (k : ℕ) (sent : List Sent) (gave went back : List Cargo) → PortStands d k sent gave went back → length gave ≤ length (sent_to d.macs.items k sent)
few_given d k sent gave went back h =
    let few = filled_few (frames_to d.macs.items k sent) gave (h.takes ∙ ap length h.copies) in
    let long = length-map (sent_to d.macs.items k sent) (λ (x : Sent). frame_of x.1) in
    omega (arith, few, long)

few_put : (d : Desk) (k : ℕ) (sent : List Sent) (gave went back : List Cargo) → PortStands d k sent gave went back → length went ≤ length (sent_to d.macs.items k sent)
few_put d k sent gave went back h =
    let few = few_given d k sent gave went back h in
    let front = long_front went (option_to_list (copy_at d k)) in
    let takes = h.takes in
    omega (arith, few, front, takes)

-- a port whose frame alone may have changed
port_rest : (old new : Desk) (k : ℕ) (sent : List Sent) (gave went back : List Cargo) → new.macs.items ≡ old.macs.items → copy_at new k ≡ copy_at old k → owed_to new k ≡ owed_to old k → PortStands old k sent gave went back
    → (went ++ option_to_list (copy_at new k) ≡ all_filled (frames_to new.macs.items k sent) gave) × (length gave ≡ length (went ++ option_to_list (copy_at new k))) × (drop (length went) (sent_to new.macs.items k sent) ≡ owed_to new k)
port_rest old new k sent gave went back macs copy owed h = (
  ap (λ o. went ++ option_to_list o) copy ∙ (h.copies ∙ ap (λ (m : List Mac). all_filled (frames_to m k sent) gave) (sym macs)),
  h.takes ∙ ap (λ o. length (went ++ option_to_list o)) (sym copy),
  ap (λ (m : List Mac). drop (length went) (sent_to m k sent)) macs ∙ (h.owed ∙ sym owed),
)

-- a port of which nothing changed
port_same : (old new : Desk) (k : ℕ) (sent : List Sent) (gave went back : List Cargo) → new.macs.items ≡ old.macs.items → held_at new k ≡ held_at old k → copy_at new k ≡ copy_at old k → owed_to new k ≡ owed_to old k
    → PortStands old k sent gave went back → PortStands new k sent gave went back
port_same old new k sent gave went back macs held copy owed h =
    let rest = port_rest old new k sent gave went back macs copy owed h in
    record {
      backs = ap (λ o. back ++ option_to_list o) held ∙ h.backs;
      copies = rest.0;
      takes = rest.1;
      owed = rest.2;
    }

-- the same of lists that are equal
port_at : (d : Desk) (k : ℕ) (sent sent' : List Sent) (gave gave' went went' back back' : List Cargo) → sent' ≡ sent → gave' ≡ gave → went' ≡ went → back' ≡ back → PortStands d k sent gave went back → PortStands d k sent' gave' went' back'
port_at d k sent sent' gave gave' went went' back back' e f g i h = rw (e, f, g, i) h

within_old : (old new : Desk) (k : ℕ) → new.macs.items ≡ old.macs.items → k < length new.macs.items → k < length old.macs.items
within_old old new k macs less = let e = ap (λ (m : List Mac). length m) macs in omega (arith, e, less)

-- the first of what is owed is the frame that is held of a sender
pub first_held : (d : Desk) → IsDesk d → (port sender : ℕ) → first_owing d port ≡ Some sender
    → (s : Slot) × (held : Cargo) × (slice_get d.slots.items sender ≡ Some s) × (s.frame ≡ Some held) × (owes d sender port ≡ true) × (times sender d.order ≡ 1)
first_held d h port sender first =
    let found = found_there (λ x. owes d x port) sender d.order first in
    let slot = so_there (λ (s : Slot). slice_index_or s.owed port false) (slice_get d.slots.items sender) found.0 in
    let held = some_there slot.0.frame ((h.kept.each sender slot.0 slot.1).owing port slot.2) in
    (slot.0, held.0, slot.1, held.1, found.0, once d.order (length d.macs.items) sender h.kept.order found.1)
  where
    once : (xs : List ℕ) (n x : ℕ) → AreOnce n xs → 0 < times x xs → times x xs ≡ 1
    once xs n x o some = elim (less_or_not x n) [
      | inl less ↦ o.once x less
      | inr past ↦ absurd (let none = o.none x past in omega (arith, none, some))
    ]
      where
        less_or_not : (a b : ℕ) → (a < b) ⊎ (b ≤ a)
        less_or_not a b = elim (cases_lt a b) [
          | inl less ↦ inl less
          | inr past ↦ inr past
        ]

-- one that owes gives its frame
gives : (d : Desk) (port sender : ℕ) (s : Slot) (held : Cargo) → slice_get d.slots.items sender ≡ Some s → s.frame ≡ Some held → owes d sender port ≡ true → owed_by d port sender ≡ (sender, held) ∷ []
gives d port sender s held there frame owing =
    ap (λ b. cond b (option_to_list (option_map (λ (c : Cargo). (sender, c)) (held_at d sender))) []) owing
    ∙ ap (λ (o : Option Cargo). option_to_list (option_map (λ (c : Cargo). (sender, c)) o)) (ap (entry_in (λ (s : Slot). s.frame)) there ∙ frame)

-- one that doesn't owe gives nothing
gives_none : (d : Desk) (port sender : ℕ) → owes d sender port ≡ false → owed_by d port sender ≡ []
gives_none d port sender isnt = ap (λ b. cond b (option_to_list (option_map (λ (c : Cargo). (sender, c)) (held_at d sender))) []) isnt

-- where each owes as before, the same is the first
first_same : (old new : Desk) (port : ℕ) → ((x : ℕ) → owes new x port ≡ owes old x port) → new.order ≡ old.order → first_owing new port ≡ first_owing old port
first_same old new port same order = (λ i. find (λ x. same x i) (order i))

owed_stays : (old new : Desk) (port : ℕ) → ((x : ℕ) → owed_by new port x ≡ owed_by old port x) → new.order ≡ old.order → owed_to new port ≡ owed_to old port
owed_stays old new port same order = ap (λ l. flat_map (owed_by new port) l) order ∙ owed_same (owed_by old port) (owed_by new port) old.order same

copied_parts : (s : Slot) → is_copied s ≡ true → how_many s.owed ≡ 0
copied_parts s h = none (how_many s.owed) (and_parts (is_some s.frame) (not (ltb 0 (how_many s.owed))) h).1
  where
    none : (n : ℕ) → not (ltb 0 n) ≡ true → n ≡ 0
    none zero h = refl
    none (suc n) h = let less = lt-ltb 0 (suc n) (omega arith) in let bad = rw less at h in cc

-- a buffer went back
module _ (old new : Desk) (port : ℕ) (s : Slot) (x : Cargo) (h : IsDesk old) (there : slice_get old.slots.items port ≡ Some s) (copied : is_copied s ≡ true) (frame : s.frame ≡ Some x) (w : WithSlot old new port (record s { frame = None })) where
  abbrev now : Slot
  now = record s { frame = None }

  owes_none : (k : ℕ) → slice_index_or s.owed k false ≡ false
  owes_none k = all_clear s.owed k (copied_parts s copied)

  owed_still : (k : ℕ) → owed_to new k ≡ owed_to old k
  owed_still k = owed_stays old new k
      (λ sender. get_same old.slots.items new.slots.items port s now there w.slots (owed_in k sender)
      (ap (λ b. cond b (option_to_list (option_map (λ (c : Cargo). (sender, c)) None)) []) (owes_none k) ∙ sym (ap (λ b. cond b (option_to_list (option_map (λ (c : Cargo). (sender, c)) s.frame)) []) (owes_none k))) sender)
      w.order

  first_still : (k : ℕ) → first_owing new k ≡ first_owing old k
  first_still k = first_same old new k (λ sender. get_same old.slots.items new.slots.items port s now there w.slots (is_so (λ (t : Slot). slice_index_or t.owed k false)) refl sender) w.order

  copy_still : (k : ℕ) → copy_at new k ≡ copy_at old k
  copy_still k = get_same old.slots.items new.slots.items port s now there w.slots (entry_in (λ (t : Slot). t.copy)) refl k

  back_desk : IsDesk new
  back_desk =
      let is = h.kept.each port s there in
      record {
        kept = kept old new port s now there w h.kept (record {
          long = is.long;
          frame = λ c e. cc;
          copy = is.copy;
          owing = λ k e. let bad = sym (owes_none k) ∙ e in cc;
        });
        copied = λ k loaded. ap is_some (first_still k) ∙ h.copied k (sym (get_same old.slots.items new.slots.items port s now there w.slots (is_so has_copy) refl k) ∙ loaded);
      }

  back_at : (ss : List Sent) (gave went back : List Cargo) → PortStands old port ss gave went back → PortStands new port ss gave went (back ++ x ∷ [])
  back_at ss gave went back was =
      let rest = port_rest old new port ss gave went back w.macs (copy_still port) (owed_still port) was in
      let held_new : held_at new port ≡ None = ap (entry_in (λ (t : Slot). t.frame)) (get_here old.slots.items new.slots.items port s now there w.slots) in
      let held_old : held_at old port ≡ Some x = ap (entry_in (λ (t : Slot). t.frame)) there ∙ frame in
      record {
        backs = ap (λ o. (back ++ x ∷ []) ++ option_to_list o) held_new ∙ (append-nil (back ++ x ∷ []) ∙ (ap (λ o. back ++ option_to_list o) (sym held_old) ∙ was.backs));
        copies = rest.0;
        takes = rest.1;
        owed = rest.2;
      }

  back_else : (k : ℕ) → (k ≡ port → ⊥) → (ss : List Sent) (gave went back : List Cargo) → PortStands old k ss gave went back → PortStands new k ss gave went back
  back_else k ne ss gave went back was =
      port_same old new k ss gave went back w.macs (ap (entry_in (λ (t : Slot). t.frame)) (get_beside old.slots.items new.slots.items port s now there w.slots k ne)) (copy_still k) (owed_still k) was

  pub back_moved : Moved old new port [] [] [] (x ∷ [])
  back_moved = record {
    desk = back_desk;
    macs = w.macs;
    stands = λ ss gs ws bs st. record {
      ports = λ k less.
          let was = st.ports k (within_old old new k w.macs less) in
          elim (same_or_not k port) [
            | inl is ↦ rw is (port_at new port ss (ss ++ []) (gs port) (with_more gs port [] port) (ws port) (with_more ws port [] port) (bs port ++ x ∷ []) (with_more bs port (x ∷ []) port)
                (append-nil ss) (still_more gs port port) (still_more ws port port) (there_more bs port port (x ∷ []) refl) (back_at ss (gs port) (ws port) (bs port) (rw (sym is) was)))
            | inr ne ↦ port_at new k ss (ss ++ []) (gs k) (with_more gs port [] k) (ws k) (with_more ws port [] k) (bs k) (with_more bs port (x ∷ []) k)
                (append-nil ss) (still_more gs port k) (still_more ws port k) (other_more bs port k (x ∷ []) (λ e. ne (sym e))) (back_else k ne ss (gs k) (ws k) (bs k) was)
          ];
      lost = rw (append-nil ss, w.macs, w.lost) st.lost;
    };
  }

-- a mark that is cleared set none
unset : (marks : List Bool) (p k : ℕ) → slice_index_or (slice_set marks p false) k false ≡ true → slice_index_or marks k false ≡ true
unset marks p k h = elim (same_or_not k p) [
  | inl is ↦ let none = cleared marks p in let e = sym (ap (λ n. slice_index_or (slice_set marks p false) n false) is ∙ none) in let bad = e ∙ h in cc
  | inr ne ↦ sym (get_or-set_other marks p k false false ne) ∙ h
]

-- a copy was put
module _ (old mid new : Desk) (port sender : ℕ) (s t : Slot) (x : Cargo) (h : IsDesk old) (there : slice_get old.slots.items port ≡ Some s) (copy : s.copy ≡ Some x) (w : WithSlot old mid port (record s { copy = None }))
    (first : first_owing mid port ≡ Some sender) (then : slice_get mid.slots.items sender ≡ Some t) (v : WithSlot mid new sender (record t { owed = slice_set t.owed port false })) where
  abbrev bare : Slot
  bare = record s { copy = None }

  abbrev paid : Slot
  paid = record t { owed = slice_set t.owed port false }

  macs_stay : new.macs.items ≡ old.macs.items
  macs_stay = v.macs ∙ w.macs

  order_stays : new.order ≡ old.order
  order_stays = v.order ∙ w.order

  -- what isn't about copies or debts stays
  both_same : {X : Type 0} (g : Option Slot → X) → g (Some bare) ≡ g (Some s) → g (Some paid) ≡ g (Some t) → (k : ℕ) → g (slice_get new.slots.items k) ≡ g (slice_get old.slots.items k)
  both_same g a b k = get_same mid.slots.items new.slots.items sender t paid then v.slots g b k ∙ get_same old.slots.items mid.slots.items port s bare there w.slots g a k

  first_old : first_owing old port ≡ Some sender
  first_old = sym (first_same old mid port (λ y. get_same old.slots.items mid.slots.items port s bare there w.slots (is_so (λ (u : Slot). slice_index_or u.owed port false)) refl y) w.order) ∙ first

  mid_kept : IsKept mid
  mid_kept =
      let is = h.kept.each port s there in
      kept old mid port s bare there w h.kept (record { long = is.long; frame = is.frame; copy = λ c e. cc; owing = is.owing })

  copy_none : copy_at new port ≡ None
  copy_none = get_same mid.slots.items new.slots.items sender t paid then v.slots (entry_in (λ (u : Slot). u.copy)) refl port ∙ ap (entry_in (λ (u : Slot). u.copy)) (get_here old.slots.items mid.slots.items port s bare there w.slots)

  copy_else : (k : ℕ) → (k ≡ port → ⊥) → copy_at new k ≡ copy_at old k
  copy_else k ne = get_same mid.slots.items new.slots.items sender t paid then v.slots (entry_in (λ (u : Slot). u.copy)) refl k ∙ ap (entry_in (λ (u : Slot). u.copy)) (get_beside old.slots.items mid.slots.items port s bare there w.slots k ne)

  owes_else : (k : ℕ) → (k ≡ port → ⊥) → (y : ℕ) → owes new y k ≡ owes old y k
  owes_else k ne y = both_same (is_so (λ (u : Slot). slice_index_or u.owed k false)) refl (get_or-set_other t.owed port k false false ne) y

  owed_else : (k : ℕ) → (k ≡ port → ⊥) → owed_to new k ≡ owed_to old k
  owed_else k ne = owed_stays old new k (λ y. both_same (owed_in k y) refl (ap (λ b. cond b (option_to_list (option_map (λ (c : Cargo). (y, c)) t.frame)) []) (get_or-set_other t.owed port k false false ne)) y) order_stays

  -- what was owed there is what is owed now, behind one more
  owed_one : (c : Sent) × (owed_to old port ≡ c ∷ owed_to new port)
  owed_one =
      let f = first_held old h port sender first_old in (
        (sender, f.1),
        owed_settled (owed_by old port) (owed_by new port) sender
            (λ y ne. ap (owed_in port y) (get_beside mid.slots.items new.slots.items sender t paid then v.slots y ne) ∙ get_same old.slots.items mid.slots.items port s bare there w.slots (owed_in port y) refl y)
            (λ y. owes old y port) (sender, f.1) old.order first_old (λ y isnt. gives_none old port y isnt) (gives old port sender f.0 f.1 f.2 f.3 f.4)
            (gives_none new port sender (ap (is_so (λ (u : Slot). slice_index_or u.owed port false)) (get_here mid.slots.items new.slots.items sender t paid then v.slots) ∙ cleared t.owed port)) f.5
            ∙ ap (λ l. (sender, f.1) ∷ flat_map (owed_by new port) l) (sym order_stays),
      )

  settle_desk : IsDesk new
  settle_desk =
      let is = mid_kept.each sender t then in
      record {
        kept = kept mid new sender t paid then v mid_kept (record {
          long = length-set t.owed port false ∙ is.long;
          frame = is.frame;
          copy = is.copy;
          owing = λ k e. is.owing k (unset t.owed port k e);
        });
        copied = λ k loaded. elim (same_or_not k port) [
          | inl is_port ↦
              let none : is_loaded new port ≡ false = get_same mid.slots.items new.slots.items sender t paid then v.slots (is_so has_copy) refl port ∙ ap (is_so has_copy) (get_here old.slots.items mid.slots.items port s bare there w.slots) in
              absurd (let bad = sym none ∙ (ap (is_loaded new) (sym is_port) ∙ loaded) in cc)
          | inr ne ↦
              let was : is_loaded new k ≡ is_loaded old k = get_same mid.slots.items new.slots.items sender t paid then v.slots (is_so has_copy) refl k ∙ ap (is_so has_copy) (get_beside old.slots.items mid.slots.items port s bare there w.slots k ne) in
              ap is_some (first_same old new k (owes_else k ne) order_stays) ∙ h.copied k (sym was ∙ loaded)
        ];
      }

  settle_at : (ss : List Sent) (gave went back : List Cargo) → PortStands old port ss gave went back → PortStands new port ss gave (went ++ x ∷ []) back
  settle_at ss gave went back was =
      let copy_old : copy_at old port ≡ Some x = ap (entry_in (λ (u : Slot). u.copy)) there ∙ copy in
      let now_is : (went ++ x ∷ []) ++ option_to_list (copy_at new port) ≡ went ++ option_to_list (copy_at old port) =
      ap (λ o. (went ++ x ∷ []) ++ option_to_list o) copy_none ∙ (append-nil (went ++ x ∷ []) ∙ ap (λ o. went ++ option_to_list o) (sym copy_old)) in
      record {
        backs = ap (λ o. back ++ option_to_list o) (both_same (entry_in (λ (u : Slot). u.frame)) refl refl port) ∙ was.backs;
        copies = now_is ∙ (was.copies ∙ ap (λ (m : List Mac). all_filled (frames_to m port ss) gave) (sym macs_stay));
        takes = was.takes ∙ ap length (sym now_is);
        owed = ap (λ n. drop n (sent_to new.macs.items port ss)) (long_more went x)
            ∙ (ap (λ (m : List Mac). drop (suc (length went)) (sent_to m port ss)) macs_stay ∙ drop_tail (length went) (sent_to old.macs.items port ss) (owed_to new port) owed_one.0 (was.owed ∙ owed_one.1));
      }

  settle_else : (k : ℕ) → (k ≡ port → ⊥) → (ss : List Sent) (gave went back : List Cargo) → PortStands old k ss gave went back → PortStands new k ss gave went back
  settle_else k ne ss gave went back was = port_same old new k ss gave went back macs_stay (both_same (entry_in (λ (u : Slot). u.frame)) refl refl k) (copy_else k ne) (owed_else k ne) was

  pub settle_moved : Moved old new port [] [] (x ∷ []) []
  settle_moved = record {
    desk = settle_desk;
    macs = macs_stay;
    stands = λ ss gs ws bs st. record {
      ports = λ k less.
          let was = st.ports k (within_old old new k macs_stay less) in
          elim (same_or_not k port) [
            | inl is ↦ rw is (port_at new port ss (ss ++ []) (gs port) (with_more gs port [] port) (ws port ++ x ∷ []) (with_more ws port (x ∷ []) port) (bs port) (with_more bs port [] port)
                (append-nil ss) (still_more gs port port) (there_more ws port port (x ∷ []) refl) (still_more bs port port) (settle_at ss (gs port) (ws port) (bs port) (rw (sym is) was)))
            | inr ne ↦ port_at new k ss (ss ++ []) (gs k) (with_more gs port [] k) (ws k) (with_more ws port (x ∷ []) k) (bs k) (with_more bs port [] k)
                (append-nil ss) (still_more gs port k) (other_more ws port k (x ∷ []) (λ e. ne (sym e))) (still_more bs port k) (settle_else k ne ss (gs k) (ws k) (bs k) was)
          ];
      lost = rw (append-nil ss, macs_stay, v.lost, w.lost) st.lost;
    };
  }

-- without a copy, what is kept goes on to fit together
pub bare_kept : (old mid : Desk) (port : ℕ) (s : Slot) → IsDesk old → slice_get old.slots.items port ≡ Some s → WithSlot old mid port (record s { copy = None }) → IsKept mid
bare_kept old mid port s h there w =
    let is = h.kept.each port s there in
    kept old mid port s (record s { copy = None }) there w h.kept (record { long = is.long; frame = is.frame; copy = λ c e. cc; owing = is.owing })

pub port_within : (old mid : Desk) (port : ℕ) (s : Slot) → IsDesk old → slice_get old.slots.items port ≡ Some s → WithSlot old mid port (record s { copy = None }) → port < length mid.macs.items
port_within old mid port s h there w =
    let less = slice_get_within old.slots.items port s there in
    let many = h.kept.many in
    let macs = ap (λ (m : List Mac). length m) w.macs in
    omega (arith, less, many, macs)

-- where a copy was in hand, some port is the first
pub settle_found : (old mid : Desk) (port : ℕ) (s : Slot) (x : Cargo) → IsDesk old → slice_get old.slots.items port ≡ Some s → s.copy ≡ Some x → WithSlot old mid port (record s { copy = None }) → is_some (first_owing mid port) ≡ true
settle_found old mid port s x h there copy w =
    ap is_some (first_same old mid port (λ y. get_same old.slots.items mid.slots.items port s (record s { copy = None }) there w.slots (is_so (λ (u : Slot). slice_index_or u.owed port false)) refl y) w.order)
    ∙ h.copied port (ap (is_so has_copy) there ∙ ap is_some copy)

-- the item of a buffer that is filled keeps its kind
pub filled_kind : (bytes : List ℕ) (c : Cargo) → kind_of (filled bytes c).0 ≡ kind_of c.0
filled_kind bytes (ItemOf.Net d, body) = refl
filled_kind bytes (ItemOf.Byte b, body) = refl
filled_kind bytes (ItemOf.Req r, body) = refl
filled_kind bytes (ItemOf.Resp r, body) = refl

-- a buffer was filled
module _ (old new : Desk) (port : ℕ) (s : Slot) (entry copy : Cargo) (h : IsDesk old) (there : slice_get old.slots.items port ≡ Some s) (empty : s.copy ≡ None) (f : IsFilledFor old port entry copy) (kind : kind_of copy.0 ≡ Kind.Net)
    (w : WithSlot old new port (record s { copy = Some copy })) where
  abbrev full : Slot
  full = record s { copy = Some copy }

  still_first : (k : ℕ) → first_owing new k ≡ first_owing old k
  still_first k = first_same old new k (λ y. get_same old.slots.items new.slots.items port s full there w.slots (is_so (λ (u : Slot). slice_index_or u.owed k false)) refl y) w.order

  still_owed : (k : ℕ) → owed_to new k ≡ owed_to old k
  still_owed k = owed_stays old new k (λ y. get_same old.slots.items new.slots.items port s full there w.slots (owed_in k y) refl y) w.order

  still_held : (k : ℕ) → held_at new k ≡ held_at old k
  still_held k = get_same old.slots.items new.slots.items port s full there w.slots (entry_in (λ (u : Slot). u.frame)) refl k

  copy_desk : IsDesk new
  copy_desk =
      let is = h.kept.each port s there in
      record {
        kept = kept old new port s full there w h.kept (record { long = is.long; frame = is.frame; copy = λ c e. let same : copy ≡ c = some_eq e in rw (← same) kind; owing = is.owing });
        copied = λ k loaded. ap is_some (still_first k) ∙ elim (same_or_not k port) [
          | inl is_port ↦ ap (λ n. is_some (first_owing old n)) is_port ∙ ap is_some f.is_first
          | inr ne ↦ h.copied k (sym (ap (is_so has_copy) (get_beside old.slots.items new.slots.items port s full there w.slots k ne)) ∙ loaded)
        ];
      }

  copy_at_port : (ss : List Sent) (gave went back : List Cargo) → PortStands old port ss gave went back → PortStands new port ss (gave ++ entry ∷ []) went back
  copy_at_port ss gave went back was =
      let first = first_held old h port f.sender f.is_first in
      let same : first.1 ≡ f.held = some_eq (sym first.3 ∙ (sym (ap (entry_in (λ (u : Slot). u.frame)) first.2) ∙ f.is_held)) in
      let front = owed_first (owed_by old port) (λ y. owes old y port) f.sender (f.sender, first.1) old.order f.is_first (λ y isnt. gives_none old port y isnt) (gives old port f.sender first.0 first.1 first.2 first.3 first.4) in
      let copy_old : copy_at old port ≡ None = ap (entry_in (λ (u : Slot). u.copy)) there ∙ empty in
      let copy_new : copy_at new port ≡ Some copy = ap (entry_in (λ (u : Slot). u.copy)) (get_here old.slots.items new.slots.items port s full there w.slots) in
      let all : went ≡ all_filled (frames_to old.macs.items port ss) gave = sym (append-nil went) ∙ (ap (λ o. went ++ option_to_list o) (sym copy_old) ∙ was.copies) in
      let many : length gave ≡ length went = was.takes ∙ (ap (λ o. length (went ++ option_to_list o)) copy_old ∙ ap length (append-nil went)) in
      let at = drop_head (length went) (sent_to old.macs.items port ss) front.0 (f.sender, first.1) (was.owed ∙ front.1) in
      let frame = get_map (λ (y : Sent). frame_of y.1) (sent_to old.macs.items port ss) (length went) (f.sender, first.1) at in
      let now_is : went ++ option_to_list (copy_at new port) ≡ went ++ copy ∷ [] = ap (λ o. went ++ option_to_list o) copy_new in
      record {
        backs = ap (λ o. back ++ option_to_list o) (still_held port) ∙ was.backs;
        copies = now_is ∙ (ap (λ l. l ++ copy ∷ []) all ∙ (ap (λ c. all_filled (frames_to old.macs.items port ss) gave ++ c ∷ []) (f.copy_is ∙ ap (λ y. filled (frame_of y) entry) (sym same))
            ∙ (sym (filled_more (frames_to old.macs.items port ss) gave (frame_of first.1) entry (ap (slice_get (frames_to old.macs.items port ss)) many ∙ frame))
            ∙ ap (λ (m : List Mac). all_filled (frames_to m port ss) (gave ++ entry ∷ [])) (sym w.macs))));
        takes = long_more gave entry ∙ (ap suc many ∙ (sym (long_more went copy) ∙ ap length (sym now_is)));
        owed = ap (λ (m : List Mac). drop (length went) (sent_to m port ss)) w.macs ∙ (was.owed ∙ sym (still_owed port));
      }

  pub copy_moved : Moved old new port [] (entry ∷ []) [] []
  copy_moved = record {
    desk = copy_desk;
    macs = w.macs;
    stands = λ ss gs ws bs st. record {
      ports = λ k less.
          let was = st.ports k (within_old old new k w.macs less) in
          elim (same_or_not k port) [
            | inl is ↦ rw is (port_at new port ss (ss ++ []) (gs port ++ entry ∷ []) (with_more gs port (entry ∷ []) port) (ws port) (with_more ws port [] port) (bs port) (with_more bs port [] port)
                (append-nil ss) (there_more gs port port (entry ∷ []) refl) (still_more ws port port) (still_more bs port port) (copy_at_port ss (gs port) (ws port) (bs port) (rw (sym is) was)))
            | inr ne ↦ port_at new k ss (ss ++ []) (gs k) (with_more gs port (entry ∷ []) k) (ws k) (with_more ws port [] k) (bs k) (with_more bs port [] k)
                (append-nil ss) (other_more gs port k (entry ∷ []) (λ e. ne (sym e))) (still_more ws port k) (still_more bs port k)
                (port_same old new k ss (gs k) (ws k) (bs k) w.macs (still_held k) (ap (entry_in (λ (u : Slot). u.copy)) (get_beside old.slots.items new.slots.items port s full there w.slots k ne)) (still_owed k) was)
          ];
      lost = rw (append-nil ss, w.macs, w.lost) st.lost;
    };
  }

count_more : {X : Type 0} (p : X → Bool) (xs : List X) (x : X) → count_by p (xs ++ x ∷ []) ≡ count_by p xs + cond (p x) 1 0
count_more p xs x = sum_by_push (λ y. cond (p y) 1 0) xs x

-- what came from a port, where one more came
pub from_here : (port : ℕ) (c : Cargo) (ss : List Sent) → entries_from port (ss ++ (port, c) ∷ []) ≡ entries_from port ss ++ c ∷ []
from_here port c ss =
    ap (map (λ (x : Sent). x.1)) (filter-append (λ (x : Sent). x.0 == port) ss ((port, c) ∷ []) ∙ ap (λ b. filter (λ (x : Sent). x.0 == port) ss ++ cond b ((port, c) ∷ []) []) (eq-eqb port port refl))
    ∙ map-append (λ (x : Sent). x.1) (filter (λ (x : Sent). x.0 == port) ss) ((port, c) ∷ [])

pub from_else : (k port : ℕ) (c : Cargo) (ss : List Sent) → (port ≡ k → ⊥) → entries_from k (ss ++ (port, c) ∷ []) ≡ entries_from k ss
from_else k port c ss ne =
    ap (map (λ (x : Sent). x.1)) (filter-append (λ (x : Sent). x.0 == k) ss ((port, c) ∷ []) ∙ (ap (λ b. filter (λ (x : Sent). x.0 == k) ss ++ cond b ((port, c) ∷ []) []) (ne_eqb port k ne) ∙ append-nil (filter (λ (x : Sent). x.0 == k) ss)))

-- a frame came
module _ (old new : Desk) (port : ℕ) (s : Slot) (entry : Cargo) (h : IsDesk old) (there : slice_get old.slots.items port ≡ Some s) (free : s.frame ≡ None) (kind : kind_of entry.0 ≡ Kind.Net)
    (macs : new.macs.items ≡ old.macs.items) (set : new.slots.items ≡ slice_set old.slots.items port (record s { frame = Some entry; owed = receivers_of old.macs.items (port, entry) }))
    (order : new.order ≡ turned_last port old.order) (lost : new.lost ≡ cond (is_lost old.macs.items (port, entry)) (capped (old.lost + 1)) old.lost) where
  abbrev took : Slot
  took = record s { frame = Some entry; owed = receivers_of old.macs.items (port, entry) }

  abbrev one : Sent
  one = (port, entry)

  owed_none : (k : ℕ) → owes old port k ≡ false
  owed_none k = elim (cases_Bool (slice_index_or s.owed k false)) [
    | inl is ↦ absurd (let some = (h.kept.each port s there).owing k is in let bad = sym (ap is_some free) ∙ some in cc)
    | inr isnt ↦ ap (is_so (λ (u : Slot). slice_index_or u.owed k false)) there ∙ isnt
  ]

  owed_now : (k : ℕ) → owed_by new k port ≡ filter (goes_to old.macs.items k) (one ∷ [])
  owed_now k = ap (owed_in k port) (get_here old.slots.items new.slots.items port s took there set)

  owed_more : (k : ℕ) → owed_to new k ≡ owed_to old k ++ filter (goes_to old.macs.items k) (one ∷ [])
  owed_more k =
      ap (λ l. flat_map (owed_by new k) l) order
      ∙ (owed_turned (owed_by old k) (owed_by new k) port (λ y ne. ap (owed_in k y) (get_beside old.slots.items new.slots.items port s took there set y ne)) old.order (gives_none old k port (owed_none k))
      ∙ ap (λ l. owed_to old k ++ l) (owed_now k))

  copy_same : (k : ℕ) → copy_at new k ≡ copy_at old k
  copy_same k = get_same old.slots.items new.slots.items port s took there set (entry_in (λ (u : Slot). u.copy)) refl k

  receive_desk : IsDesk new
  receive_desk =
      let is = h.kept.each port s there in
      let less : port < length old.macs.items = let w = slice_get_within old.slots.items port s there in let m = h.kept.many in omega (arith, w, m) in
      record {
        kept = record {
          few = rw macs h.kept.few;
          many = rw macs (get_long old.slots.items new.slots.items port s took there set ∙ h.kept.many);
          each = rw macs (get_each old.slots.items new.slots.items port s took there set (IsSlot (length old.macs.items)) h.kept.each (record {
            long = length-set (map (λ (m : Mac). is_for_client m (frame_of entry)) old.macs.items) port false ∙ length-map old.macs.items (λ (m : Mac). is_for_client m (frame_of entry));
            frame = λ c e. let same : entry ≡ c = some_eq e in rw (← same) kind;
            copy = is.copy;
            owing = λ k e. refl;
          }));
          order = rw (macs, order) (turned_once port (length old.macs.items) old.order less h.kept.order);
        };
        copied = λ k loaded.
            let found = some_there (first_owing old k) (h.copied k (sym (get_same old.slots.items new.slots.items port s took there set (is_so has_copy) refl k) ∙ loaded)) in
            let first = found_there (λ y. owes old y k) found.0 old.order found.1 in
            let ne : found.0 ≡ port → ⊥ = λ e. let bad = sym (owed_none k) ∙ (ap (λ n. owes old n k) (sym e) ∙ first.0) in cc in
            let times_same = ap (times found.0) order ∙ turned_times port found.0 old.order ne in
            there_found (λ y. owes new y k) found.0 new.order (ap (is_so (λ (u : Slot). slice_index_or u.owed k false)) (get_beside old.slots.items new.slots.items port s took there set found.0 ne) ∙ first.0)
            (let some = first.1 in omega (arith, times_same, some));
      }

  sent_more : (k : ℕ) (ss : List Sent) → sent_to new.macs.items k (ss ++ one ∷ []) ≡ sent_to old.macs.items k ss ++ filter (goes_to old.macs.items k) (one ∷ [])
  sent_more k ss = ap (λ (m : List Mac). sent_to m k (ss ++ one ∷ [])) macs ∙ filter-append (goes_to old.macs.items k) ss (one ∷ [])

  receive_rest : (k : ℕ) (ss : List Sent) (gave went back back' : List Cargo) → PortStands old k ss gave went back → back' ++ option_to_list (held_at new k) ≡ entries_from k (ss ++ one ∷ []) → PortStands new k (ss ++ one ∷ []) gave went back'
  receive_rest k ss gave went back back' was backs =
      let few = few_given old k ss gave went back was in
      let put = few_put old k ss gave went back was in
      let long = length-map (sent_to old.macs.items k ss) (λ (x : Sent). frame_of x.1) in
      let frames : frames_to new.macs.items k (ss ++ one ∷ []) ≡ frames_to old.macs.items k ss ++ map (λ (x : Sent). frame_of x.1) (filter (goes_to old.macs.items k) (one ∷ [])) =
      ap (map (λ (x : Sent). frame_of x.1)) (sent_more k ss) ∙ map-append (λ (x : Sent). frame_of x.1) (sent_to old.macs.items k ss) (filter (goes_to old.macs.items k) (one ∷ [])) in
      record {
        backs = backs;
        copies = ap (λ o. went ++ option_to_list o) (copy_same k) ∙ (was.copies
            ∙ sym (ap (λ l. all_filled l gave) frames ∙ filled_still (frames_to old.macs.items k ss) (map (λ (x : Sent). frame_of x.1) (filter (goes_to old.macs.items k) (one ∷ []))) gave (omega (arith, few, long))));
        takes = was.takes ∙ ap (λ o. length (went ++ option_to_list o)) (sym (copy_same k));
        owed = ap (drop (length went)) (sent_more k ss) ∙ (drop-append-le (length went) (sent_to old.macs.items k ss) (filter (goes_to old.macs.items k) (one ∷ [])) put
            ∙ (ap (λ l. l ++ filter (goes_to old.macs.items k) (one ∷ [])) was.owed ∙ sym (owed_more k)));
      }

  receive_at : (ss : List Sent) (gave went back : List Cargo) → PortStands old port ss gave went back → PortStands new port (ss ++ one ∷ []) gave went back
  receive_at ss gave went back was =
      let held_old : held_at old port ≡ None = ap (entry_in (λ (u : Slot). u.frame)) there ∙ free in
      let held_new : held_at new port ≡ Some entry = ap (entry_in (λ (u : Slot). u.frame)) (get_here old.slots.items new.slots.items port s took there set) in
      let all : back ≡ entries_from port ss = sym (append-nil back) ∙ (ap (λ o. back ++ option_to_list o) (sym held_old) ∙ was.backs) in
      receive_rest port ss gave went back back was (ap (λ o. back ++ option_to_list o) held_new ∙ (ap (λ l. l ++ entry ∷ []) all ∙ sym (from_here port entry ss)))

  receive_else : (k : ℕ) → (k ≡ port → ⊥) → (ss : List Sent) (gave went back : List Cargo) → PortStands old k ss gave went back → PortStands new k (ss ++ one ∷ []) gave went back
  receive_else k ne ss gave went back was =
      receive_rest k ss gave went back back was (ap (λ o. back ++ option_to_list o) (ap (entry_in (λ (u : Slot). u.frame)) (get_beside old.slots.items new.slots.items port s took there set k ne))
      ∙ (was.backs ∙ sym (from_else k port entry ss (λ e. ne (sym e)))))

  lost_more : (ss : List Sent) → old.lost ≡ capped (count_by (is_lost old.macs.items) ss) → new.lost ≡ capped (count_by (is_lost new.macs.items) (ss ++ one ∷ []))
  lost_more ss was =
      lost ∙ (counts (is_lost old.macs.items one) (count_by (is_lost old.macs.items) ss) (count_by (is_lost old.macs.items) (ss ++ one ∷ [])) was (count_more (is_lost old.macs.items) ss one)
      ∙ ap (λ (m : List Mac). capped (count_by (is_lost m) (ss ++ one ∷ []))) (sym macs))
    where
      counts : (b : Bool) (n m : ℕ) → old.lost ≡ capped n → m ≡ n + cond b 1 0 → cond b (capped (old.lost + 1)) old.lost ≡ capped m
      counts true n m e f = omega (arith, e, f)
      counts false n m e f = omega (arith, e, f)

  pub receive_moved : Moved old new port (one ∷ []) [] [] []
  receive_moved = record {
    desk = receive_desk;
    macs = macs;
    stands = λ ss gs ws bs st. record {
      ports = λ k less.
          let was = st.ports k (within_old old new k macs less) in
          elim (same_or_not k port) [
            | inl is ↦ rw is (port_at new port (ss ++ one ∷ []) (ss ++ one ∷ []) (gs port) (with_more gs port [] port) (ws port) (with_more ws port [] port) (bs port) (with_more bs port [] port)
                refl (still_more gs port port) (still_more ws port port) (still_more bs port port) (receive_at ss (gs port) (ws port) (bs port) (rw (sym is) was)))
            | inr ne ↦ port_at new k (ss ++ one ∷ []) (ss ++ one ∷ []) (gs k) (with_more gs port [] k) (ws k) (with_more ws port [] k) (bs k) (with_more bs port [] k)
                refl (still_more gs port k) (still_more ws port k) (still_more bs port k) (receive_else k ne ss (gs k) (ws k) (bs k) was)
          ];
      lost = lost_more ss st.lost;
    };
  }
