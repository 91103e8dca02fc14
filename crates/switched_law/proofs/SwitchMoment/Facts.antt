-- What the switch holds of one port, and how much passed there.
use Rattle.std.proofs.Common.{◌≡◌, ◌+◌, ◌*◌, ◌<◌, ℕ, Some, List, length, slice_get, length-append, ap, ◌∙◌, arith}
use Rattle.std.specs.Option.{option_to_list}
use Rattle.frame_core.specs.declared.mac.Mac.{Mac}
use Rattle.line_text.specs.declared.ports_text.ports.Ports.{Ports}
use Rattle.wire_core.specs.Ends.{Role, End}
use Rattle.wire_core.specs.Lists.{Passed}
use Rattle.play_core.proofs.Lists.{there_is}
use Rattle.buffer_kit.specs.Clients.{entry_in}
use Rattle.net_switch.specs.declared.switch_desk.slot.Slot.{Slot}
use Rattle.net_switch.specs.SwitchDesk.Desks.{held_at, copy_at}
use Rattle.net_switch.specs.declared.switch.NetSwitch.{NetSwitch}
use Rattle.switched_law.specs.SwitchMoment.Scene.{IsSwitched}
use Rattle.switched_law.proofs.SwitchMoment.Ports.{came, stands}

module _ (ports : Ports) (ends : Role → ℕ → End) (v : NetSwitch) (passed : Passed) (h : IsSwitched ports ends v passed) where
  pub macs_many : length v.desk.macs.items ≡ length ports.macs
  macs_many = ap (λ (l : List Mac). length l) h.switch.macs_are

  module _ (port : ℕ) (less : port < length ports.macs) where
    -- of its own buffers all went back but one that is held
    pub held_many : length (passed.sent (4 * port + 1)) + length (option_to_list (held_at v.desk port)) ≡ length (passed.taken (4 * port))
    held_many =
        let st = stands ports ends v passed h port less in
        let all = ap (λ l. length l) (st.backs ∙ came ports ends v passed h port less) in
        let left = length-append (passed.sent (4 * port + 1)) (option_to_list (held_at v.desk port)) in
        omega (arith, all, left)

    -- of the buffers that it gave all were put but one that is in hand
    pub copy_many : length (passed.taken (4 * port + 3)) ≡ length (passed.sent (4 * port + 2)) + length (option_to_list (copy_at v.desk port))
    copy_many =
        let st = stands ports ends v passed h port less in
        let left = length-append (passed.sent (4 * port + 2)) (option_to_list (copy_at v.desk port)) in
        let takes = st.takes in
        omega (arith, left, takes)

    pub slot : (s : Slot) × (slice_get v.desk.slots.items port ≡ Some s)
    slot = let many = h.stands.fits.kept.many in let e = macs_many in there_is v.desk.slots.items port (omega (arith, less, many, e))

    pub held_is : held_at v.desk port ≡ slot.0.frame
    held_is = ap (entry_in (λ (s : Slot). s.frame)) slot.1

    pub copy_is : copy_at v.desk port ≡ slot.0.copy
    copy_is = ap (entry_in (λ (s : Slot). s.copy)) slot.1
