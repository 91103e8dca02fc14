-- A desk that took nothing yet.
use Rattle.std.proofs.Common.{◌≡◌, ◌<◌, ◌^◌, ◌++◌, ℕ, zero, suc, Bool, false, cond, List, [], ◌∷◌, length, flat_map, replicate, Option, Some, None, slice_get, slice_index_or, refl, ap, sym, ◌∙◌}
use Rattle.std.specs.Option.{is_some, option_to_list, option_map}
use Rattle.std.proofs.lemmas.List.{length-replicate}
use Rattle.frame_core.specs.declared.mac.Mac.{Mac}
use Rattle.wire_core.specs.Deeds.{Cargo}
use Rattle.buffer_kit.specs.Clients.{entry_in, is_so}
use Rattle.buffer_kit.proofs.ManyClients.{so_there}
use Rattle.net_switch.specs.declared.switch_desk.slot.Slot.{Slot}
use Rattle.net_switch.specs.declared.switch_desk.desk.Desk.{Desk}
use Rattle.net_switch.specs.SwitchDesk.Frames.{Sent}
use Rattle.net_switch.specs.SwitchDesk.Desks.{IsNewSlot, IsNewDesk, IsDesk, DeskStands, held_at, copy_at, owed_by, owes, has_copy}

none_set : (n k : ℕ) → slice_index_or (replicate n false) k false ≡ false
none_set zero k = refl
none_set (suc n) zero = refl
none_set (suc n) (suc k) = none_set n k

no_entry : (f : Slot → Option Cargo) (o : Option Slot) → ((s : Slot) → o ≡ Some s → f s ≡ None) → entry_in f o ≡ None
no_entry f None h = refl
no_entry f (Some s) h = h s refl

not_so : (p : Slot → Bool) (o : Option Slot) → ((s : Slot) → o ≡ Some s → p s ≡ false) → is_so p o ≡ false
not_so p None h = refl
not_so p (Some s) h = h s refl

nothing_owed : (f : ℕ → List Sent) (xs : List ℕ) → ((x : ℕ) → f x ≡ []) → flat_map f xs ≡ []
nothing_owed f [] none = refl
nothing_owed f (x ∷ xs) none = ap (λ l. l ++ flat_map f xs) (none x) ∙ nothing_owed f xs none

module _ (macs : List Mac) (d : Desk) (few : length macs < 2 ^ 32) (h : IsNewDesk macs d) where
  unset : (s : Slot) → IsNewSlot (length macs) s → (k : ℕ) → slice_index_or s.owed k false ≡ false
  unset s is k = ap (λ l. slice_index_or l k false) is.owed ∙ none_set (length macs) k

  owes_none : (x k : ℕ) → owes d x k ≡ false
  owes_none x k = not_so (λ (s : Slot). slice_index_or s.owed k false) (slice_get d.slots.items x) (λ s at. unset s (h.each x s at) k)

  pub new_desk : IsDesk d
  new_desk = record {
    kept = record {
      few = rw h.macs_are few;
      many = h.many ∙ ap length (sym h.macs_are);
      each = λ k s at.
          let is = h.each k s at in
          record {
            long = ap length is.owed ∙ (length-replicate (length macs) false ∙ ap length (sym h.macs_are));
            frame = λ c e. let bad = sym is.frame ∙ e in cc;
            copy = λ c e. let bad = sym is.copy ∙ e in cc;
            owing = λ k e. let bad = sym (unset s is k) ∙ e in cc;
          };
      order = rw h.macs_are h.order;
    };
    copied = λ k loaded.
        let s = so_there has_copy (slice_get d.slots.items k) loaded in
        let is = h.each k s.0 s.1 in
        absurd (let bad = sym (ap is_some is.copy) ∙ s.2 in cc);
  }

  held_none : (k : ℕ) → held_at d k ≡ None
  held_none k = no_entry (λ (s : Slot). s.frame) (slice_get d.slots.items k) (λ s at. (h.each k s at).frame)

  copy_none : (k : ℕ) → copy_at d k ≡ None
  copy_none k = no_entry (λ (s : Slot). s.copy) (slice_get d.slots.items k) (λ s at. (h.each k s at).copy)

  pub new_stands : DeskStands d [] (λ x. []) (λ x. []) (λ x. [])
  new_stands = record {
    ports = λ k less. record {
      backs = ap option_to_list (held_none k);
      copies = ap option_to_list (copy_none k);
      takes = ap (λ o. length (option_to_list o)) (sym (copy_none k));
      owed = sym (nothing_owed (owed_by d k) d.order (λ x. ap (λ b. cond b (option_to_list (option_map (λ (c : Cargo). (x, c)) (held_at d x))) []) (owes_none x k)));
    };
    lost = h.lost;
  }
