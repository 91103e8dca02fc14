use Rattle.std.specs.Prelude.{◌≡◌, ℕ, Some, length, slice_get}
use Rattle.net_switch.specs.declared.switch_desk.slot.Slot.{Slot}
use Rattle.net_switch.specs.SwitchDesk.Desks.{IsNewSlot}
use Rattle.net_switch.proofs.switch_desk.desk.empty_slots.Given as goal

abbrev pub invariant-loop : goal.invariant-loop
invariant-loop l = (length l.slots.items ≡ l.counter) × ((k : ℕ) (s : Slot) → slice_get l.slots.items k ≡ Some s → IsNewSlot l.ports s)
