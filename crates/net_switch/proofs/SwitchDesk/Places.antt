-- What is kept of each port, where one of them changed.
use Rattle.std.proofs.Common.{◌≡◌, ◌⊎◌, ℕ, suc, Bool, false, cond, eqb, List, [], ◌∷◌, ◌++◌, length, Option, Some, slice_get, slice_set, slice_index_or, inl, inr, refl, ap, sym, ◌∙◌, zero}
use Rattle.std.specs.Option.{option_to_list, option_map}
use Rattle.std.proofs.lemmas.Bool.{cases_Bool, eqb-true, eq-eqb}
use Rattle.std.proofs.lemmas.List.{append-nil, length-set}
use Rattle.wire_core.specs.Deeds.{Cargo}
use Rattle.wire_core.proofs.Places.{slice_get_written, slice_get_beside}
use Rattle.buffer_kit.specs.Clients.{entry_in, is_so, with_more}
use Rattle.buffer_kit.proofs.ManyClients.{none_if}
use Rattle.net_switch.specs.declared.switch_desk.slot.Slot.{Slot}
use Rattle.net_switch.specs.declared.switch_desk.desk.Desk.{Desk}
use Rattle.net_switch.specs.SwitchDesk.Frames.{Sent}
use Rattle.net_switch.specs.SwitchDesk.Desks.{IsSlot, IsKept, WithSlot}

pub same_or_not : (a b : ℕ) → (a ≡ b) ⊎ (a ≡ b → ⊥)
same_or_not a b = elim (cases_Bool (eqb a b)) [
  | inl is ↦ inl (eqb-true a b is)
  | inr isnt ↦ inr (λ e. let bad = sym (eq-eqb a b e) ∙ isnt in cc)
]

-- in a list of what is kept of the ports one changed
module _ (xs ys : List Slot) (port : ℕ) (was s : Slot) (there : slice_get xs port ≡ Some was) (set : ys ≡ slice_set xs port s) where
  pub get_here : slice_get ys port ≡ Some s
  get_here = ap (λ l. slice_get l port) set ∙ slice_get_written xs port was s there

  pub get_beside : (k : ℕ) → (k ≡ port → ⊥) → slice_get ys k ≡ slice_get xs k
  get_beside k ne = ap (λ l. slice_get l k) set ∙ slice_get_beside xs port k s ne

  -- what doesn't tell the new one from the old one stays of all
  pub get_same : {X : Type 0} (g : Option Slot → X) → g (Some s) ≡ g (Some was) → (k : ℕ) → g (slice_get ys k) ≡ g (slice_get xs k)
  get_same g e k = elim (same_or_not k port) [
    | inl is ↦ ap (λ n. g (slice_get ys n)) is ∙ (ap g get_here ∙ (e ∙ (ap g (sym there) ∙ ap (λ n. g (slice_get xs n)) (sym is))))
    | inr ne ↦ ap g (get_beside k ne)
  ]

  pub get_long : length ys ≡ length xs
  get_long = ap length set ∙ length-set xs port s

  -- each is as it must be
  pub get_each : (P : Slot → Type 0) → ((k : ℕ) (t : Slot) → slice_get xs k ≡ Some t → P t) → P s → (k : ℕ) (t : Slot) → slice_get ys k ≡ Some t → P t
  get_each P each now k t at = elim (same_or_not k port) [
    | inl is ↦ let e : s ≡ t = let both = sym get_here ∙ (ap (slice_get ys) (sym is) ∙ at) in cc in rw (← e) now
    | inr ne ↦ each k t (sym (get_beside k ne) ∙ at)
  ]

-- one more is as it must be
pub pushed : (P : Slot → Type 0) (xs : List Slot) (y : Slot) → ((k : ℕ) (s : Slot) → slice_get xs k ≡ Some s → P s) → P y → (k : ℕ) (s : Slot) → slice_get (xs ++ y ∷ []) k ≡ Some s → P s
pushed P [] y each now zero s at = let e : y ≡ s = cc in rw (← e) now
pushed P [] y each now (suc k) s at = cc
pushed P (x ∷ xs) y each now zero s at = each zero s at
pushed P (x ∷ xs) y each now (suc k) s at = pushed P xs y (λ j t e. each (suc j) t e) now k s at

-- what one port owes another
abbrev pub owed_in : (port sender : ℕ) → Option Slot → List Sent
owed_in port sender o =
    cond (is_so (λ (s : Slot). slice_index_or s.owed port false) o) (option_to_list (option_map (λ (c : Cargo). (sender, c)) (entry_in (λ (s : Slot). s.frame) o))) []

-- a mark that was cleared
pub cleared : (marks : List Bool) (k : ℕ) → slice_index_or (slice_set marks k false) k false ≡ false
cleared [] k = refl
cleared (b ∷ bs) zero = refl
cleared (b ∷ bs) (suc k) = cleared bs k

-- where nothing more came
pub still_more : (lists : ℕ → List Cargo) (port k : ℕ) → with_more lists port [] k ≡ lists k
still_more lists port k = ap (λ l. lists k ++ l) (none_if (eqb port k)) ∙ append-nil (lists k)

-- what is kept goes on to fit together
pub kept : (old new : Desk) (port : ℕ) (was s : Slot) → slice_get old.slots.items port ≡ Some was → WithSlot old new port s → IsKept old → IsSlot (length old.macs.items) s → IsKept new
kept old new port was s there w h is = record {
  few = rw w.macs h.few;
  many = rw w.macs (get_long old.slots.items new.slots.items port was s there w.slots ∙ h.many);
  each = rw w.macs (get_each old.slots.items new.slots.items port was s there w.slots (IsSlot (length old.macs.items)) h.each is);
  order = rw (w.macs, w.order) h.order;
}
