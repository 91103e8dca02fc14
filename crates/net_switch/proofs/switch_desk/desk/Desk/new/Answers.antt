use Rattle.std.proofs.Common.{◌≡◌, ℕ, Some, length, slice_get, refl, ◌∙◌, subst}
use Rattle.net_switch.specs.declared.switch_desk.slot.Slot.{Slot}
use Rattle.net_switch.specs.SwitchDesk.Orders.{AreOnce}
use Rattle.net_switch.specs.SwitchDesk.Desks.{IsNewSlot}
use Rattle.net_switch.proofs.SwitchDesk.Beginning.{new_desk, new_stands}
use Rattle.net_switch.proofs.switch_desk.desk.Desk.new.Goals as goal

pub returns-clause-desk : goal.returns-clause-desk
returns-clause-desk c =
    let p : c.len-ports.result ≡ length c.args.macs.items = c.len-ports.ensures ∙ c.args.macs.ok.0 in
    new_desk c.args.macs.items _ c.requires (record {
      macs_are = refl;
      many = c.in_ok-slots.ensures.many ∙ p;
      each = subst (λ n. (k : ℕ) (s : Slot) → slice_get c.in_ok-slots.slots.items k ≡ Some s → IsNewSlot n s) p c.in_ok-slots.ensures.each;
      order = subst (λ n. AreOnce n c.in_ok-order.order) p c.in_ok-order.ensures;
      lost = refl;
    })

pub returns-clause-stands : goal.returns-clause-stands
returns-clause-stands c =
    let p : c.len-ports.result ≡ length c.args.macs.items = c.len-ports.ensures ∙ c.args.macs.ok.0 in
    new_stands c.args.macs.items _ c.requires (record {
      macs_are = refl;
      many = c.in_ok-slots.ensures.many ∙ p;
      each = subst (λ n. (k : ℕ) (s : Slot) → slice_get c.in_ok-slots.slots.items k ≡ Some s → IsNewSlot n s) p c.in_ok-slots.ensures.each;
      order = subst (λ n. AreOnce n c.in_ok-order.order) p c.in_ok-order.ensures;
      lost = refl;
    })
