use Rattle.std.proofs.Common.{◌<◌, slice_get, slice_set, slice_index_or, false, refl, sym, ap, ◌∙◌, subst}
use Rattle.std.specs.Option.{is_some}
use Rattle.std.proofs.lemmas.Option.{slice_get_read, slice_get_within}
use Rattle.buffer_kit.proofs.ManyClients.{so_there}
use Rattle.net_switch.specs.declared.switch_desk.slot.Slot.{Slot}
use Rattle.net_switch.specs.SwitchDesk.Desks.{owes}
use Rattle.net_switch.proofs.SwitchDesk.Owing.{found_there}
use Rattle.net_switch.proofs.SwitchDesk.Moves.{settle_moved, settle_found, bare_kept, port_within}
use Rattle.net_switch.proofs.switch_desk.desk.Desk.settle.Goals as goal

pub index_mut-slot-requires : goal.index_mut-slot-requires
index_mut-slot-requires c =
    let d = c.args.self.now in
    let found = found_there (λ y. owes d y c.args.port) c.in-Some.sender d.order (sym c.in-Some.ensures) in
    let slot = so_there (λ (s : Slot). slice_index_or s.owed c.args.port false) (slice_get d.slots.items c.in-Some.sender) found.0 in
    subst (λ n. c.in-Some.sender < n) (sym d.slots.ok.0) (slice_get_within d.slots.items c.in-Some.sender slot.0 slot.1)

pub settle-requires : goal.settle-requires
settle-requires c =
    let d = c.args.self.now in
    let found = found_there (λ y. owes d y c.args.port) c.in-Some.sender d.order (sym c.in-Some.ensures) in
    let slot = so_there (λ (s : Slot). slice_index_or s.owed c.args.port false) (slice_get d.slots.items c.in-Some.sender) found.0 in
    let at = slice_get_read d.slots.items _ c.in-Some.sender c.index_mut-slot.result.now refl (slice_get_within d.slots.items c.in-Some.sender slot.0 slot.1) c.index_mut-slot.ensures.value in
    let kept = bare_kept c.requires.0 d c.args.port c.requires.1 c.requires.2 c.requires.3 c.requires.4 in
    subst (λ n. c.args.port < n) (sym (kept.each c.in-Some.sender c.index_mut-slot.result.now at).long) (port_within c.requires.0 d c.args.port c.requires.1 c.requires.2 c.requires.3 c.requires.4)

pub returns-in-Some : goal.returns-in-Some
returns-in-Some c =
    λ d s x h there copy w.
    let m = c.args.self.now in
    let found = found_there (λ y. owes m y c.args.port) c.in-Some.sender m.order (sym c.in-Some.ensures) in
    let slot = so_there (λ (s : Slot). slice_index_or s.owed c.args.port false) (slice_get m.slots.items c.in-Some.sender) found.0 in
    let at = slice_get_read m.slots.items _ c.in-Some.sender c.index_mut-slot.result.now refl (slice_get_within m.slots.items c.in-Some.sender slot.0 slot.1) c.index_mut-slot.ensures.value in
    settle_moved d m _ c.args.port c.in-Some.sender s c.index_mut-slot.result.now x h there copy w (sym c.in-Some.ensures) at
    (record { macs = refl; slots = ap (slice_set m.slots.items c.in-Some.sender) c.settle.ensures; order = refl; lost = refl })

pub returns-in_default : goal.returns-in_default
returns-in_default c =
    λ d s x h there copy w.
    let some = settle_found d c.args.self.now c.args.port s x h there copy w in
    absurd (let bad = ap is_some c.in_default.ensures ∙ some in cc)
