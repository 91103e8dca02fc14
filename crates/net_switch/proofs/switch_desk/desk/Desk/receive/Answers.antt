use Rattle.std.proofs.Common.{◌≡◌, ◌+◌, ℕ, zero, suc, Option, Some, None, List, true, not, cond, ltb, eqb, slice_get, slice_set, refl, sym, ap, ◌∙◌, arith, ne_eqb}
use Rattle.std.specs.Option.{is_none}
use Rattle.std.proofs.lemmas.Bool.{lt-ltb}
use Rattle.std.proofs.lemmas.Option.{slice_get_read, slice_get_within}
use Rattle.frame_core.specs.declared.mac.Mac.{Mac}
use Rattle.wire_core.specs.Deeds.{Cargo}
use Rattle.buffer_kit.specs.Clients.{capped}
use Rattle.buffer_kit.proofs.ManyClients.{so_there, some_eq}
use Rattle.net_virt_rx.specs.Sharing.{how_many}
use Rattle.net_switch.specs.declared.switch_desk.slot.Slot.{Slot}
use Rattle.net_switch.specs.SwitchDesk.Frames.{receivers_of}
use Rattle.net_switch.specs.SwitchDesk.Desks.{is_free}
use Rattle.net_switch.proofs.SwitchDesk.Moves.{receive_moved}
use Rattle.net_switch.proofs.switch_desk.desk.Desk.receive.Goals as goal

none_there : (o : Option Cargo) → is_none o ≡ true → o ≡ None
none_there None h = refl
none_there (Some x) h = cc

none_left : (n : ℕ) → not (ltb 0 n) ≡ eqb n 0
none_left zero = refl
none_left (suc n) = ap not (lt-ltb 0 (suc n) (omega arith)) ∙ sym (ne_eqb (suc n) 0 (λ e. omega (arith, e)))

pub returns : goal.returns
returns c =
    let d = c.args.self.now in
    let port = c.args.port in
    let free = so_there is_free (slice_get d.slots.items port) c.requires.taking in
    let s = c.index_mut-slot.result.now in
    let at = slice_get_read d.slots.items _ port s refl (slice_get_within d.slots.items port free.0 free.1) c.index_mut-slot.ensures.value in
    let same : free.0 ≡ s = some_eq (sym free.1 ∙ at) in
    let none = ap (λ (t : Slot). t.frame) (sym same) ∙ none_there free.0.frame free.2 in
    let held = c.hold.ensures ∙ ap (λ (m : List Mac). record s { frame = Some c.args.entry; owed = receivers_of m (port, c.args.entry) }) c.deref.ensures.value in
    let owing = c.is_owing.ensures ∙ ap (λ (t : Slot). ltb 0 (how_many t.owed)) held in
    receive_moved d _ port s c.args.entry c.requires.desk at none c.requires.kind refl (ap (slice_set d.slots.items port) held) c.turn.ensures
    (c.counted-self.ensures ∙ ap (λ b. cond b (capped (d.lost + 1)) d.lost) (ap not owing ∙ none_left (how_many (receivers_of d.macs.items (port, c.args.entry)))))
