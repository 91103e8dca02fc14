use Rattle.std.proofs.Common.{◌≡◌, Option, Some, None, true, not, slice_get, refl, sym, ap, ◌∙◌}
use Rattle.std.specs.Option.{is_some}
use Rattle.std.proofs.lemmas.Bool.{and_parts}
use Rattle.std.proofs.lemmas.Option.{slice_get_read, slice_get_within}
use Rattle.cargo_core.specs.Items.{kind_of}
use Rattle.wire_core.specs.Deeds.{Cargo}
use Rattle.buffer_kit.specs.Clients.{is_so}
use Rattle.buffer_kit.specs.Entries.{frame_of}
use Rattle.buffer_kit.proofs.ManyClients.{so_there, some_eq}
use Rattle.net_switch.specs.declared.switch_desk.slot.Slot.{Slot}
use Rattle.net_switch.specs.SwitchDesk.Desks.{first_owing, has_copy}
use Rattle.net_switch.proofs.SwitchDesk.Moves.{copy_moved, filled_kind}
use Rattle.net_switch.proofs.switch_desk.desk.Desk.copy.Goals as goal

empty : (o : Option Cargo) → not (is_some o) ≡ true → o ≡ None
empty None h = refl
empty (Some x) h = cc

pub returns : goal.returns
returns c =
    let d = c.args.self.now in
    let port = c.args.port in
    let so = and_parts (is_so (λ (s : Slot). not (has_copy s)) (slice_get d.slots.items port)) (is_some (first_owing d port)) c.requires.wanting in
    let slot = so_there (λ (s : Slot). not (has_copy s)) (slice_get d.slots.items port) so.0 in
    let s = c.index_mut-slot.result.now in
    let at = slice_get_read d.slots.items _ port s refl (slice_get_within d.slots.items port slot.0 slot.1) c.index_mut-slot.ensures.value in
    let same : slot.0 ≡ s = some_eq (sym slot.1 ∙ at) in
    let none = ap (λ (t : Slot). t.copy) (sym same) ∙ empty slot.0.copy slot.2 in
    let f = c.filled-filled.ensures in
    copy_moved d _ port s c.args.entry c.filled-filled.result c.requires.desk at none f
    (ap (λ (x : Cargo). kind_of x.0) f.copy_is ∙ (filled_kind (frame_of f.held) c.args.entry ∙ c.requires.kind))
    (record { macs = refl; slots = refl; order = refl; lost = refl })
