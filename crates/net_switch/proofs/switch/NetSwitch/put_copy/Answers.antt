use Rattle.std.proofs.Common.{◌≡◌, ◌==◌, Option, true, None, not, slice_set, refl, sym, ap, ◌∙◌, subst}
use Rattle.std.specs.Option.{is_some, option_map, option_to_list}
use Rattle.wire_core.specs.Deeds.{Cargo, deed_of, put_of}
use Rattle.wire_core.specs.Lists.{if_there}
use Rattle.turn_kit.specs.Turns.{PostedAt}
use Rattle.buffer_kit.proofs.ManyClients.{none_if}
use Rattle.net_switch.specs.SwitchDesk.Desks.{has_copy}
use Rattle.net_switch.specs.declared.ends.SwitchEnd.TheVariants as At
use Rattle.net_switch.specs.Ends.{switch_posts, place_of}
use Rattle.net_switch.proofs.Steps.{desk_stays}
use Rattle.net_switch.proofs.Calls.{fits_on, copied, still, copy_stays, gone_list, stays_list, is_nothing, loaded_there, slot_there}
use Rattle.net_switch.proofs.switch.NetSwitch.put_copy.Goals as goal

pub step_copy-event-requires-clause-kind : goal.step_copy-event-requires-clause-kind
step_copy-event-requires-clause-kind g c =
    let d = c.args.self.now.desk in
    let at = slot_there d c.args.port c.index_mut-slot.result.now has_copy c.requires.loaded c.index_mut-slot.ensures.value in
    (c.requires.fits.desk.kept.each c.args.port c.index_mut-slot.result.now at).copy

pub settle-requires : goal.settle-requires
settle-requires g c =
    let d = c.args.self.now.desk in
    let s = c.index_mut-slot.result.now in
    let at = slot_there d c.args.port s has_copy c.requires.loaded c.index_mut-slot.ensures.value in
    let gone = is_nothing c.step_copy-event.new.load (c.is_none.ensures ∙ ap not c.if-is_none.true) in
    (d, s, c.requires.fits.desk, at, record { macs = refl; slots = ap (λ (o : Option Cargo). slice_set d.slots.items c.args.port (record s { copy = o })) gone; order = refl; lost = refl })

pub returns-then-is_none-clause-fits : goal.returns-then-is_none-clause-fits
returns-then-is_none-clause-fits g c =
    let d = c.args.self.now.desk in
    let s = c.index_mut-slot.result.now in
    let at = slot_there d c.args.port s has_copy c.requires.loaded c.index_mut-slot.ensures.value in
    let gone = is_nothing c.step_copy-event.new.load (c.is_none.ensures ∙ ap not c.if-is_none.true) in
    let x = loaded_there d c.args.port s at c.requires.loaded in
    let m = c.settle.ensures d s x.0 c.requires.fits.desk at x.1 (record { macs = refl; slots = ap (λ (o : Option Cargo). slice_set d.slots.items c.args.port (record s { copy = o })) gone; order = refl; lost = refl }) in
    fits_on (g.W.Wires.ends c.args.wires.now) _ c.args.self.now c.step_copy-event.new.self _ c.requires.fits c.step_copy-event.ensures.fits c.step_copy-event.ensures.same m.desk m.macs

pub returns-then-is_none-clause-same : goal.returns-then-is_none-clause-same
returns-then-is_none-clause-same g c =
    let d = c.args.self.now.desk in
    let s = c.index_mut-slot.result.now in
    let at = slot_there d c.args.port s has_copy c.requires.loaded c.index_mut-slot.ensures.value in
    let gone = is_nothing c.step_copy-event.new.load (c.is_none.ensures ∙ ap not c.if-is_none.true) in
    let x = loaded_there d c.args.port s at c.requires.loaded in
    let m = c.settle.ensures d s x.0 c.requires.fits.desk at x.1 (record { macs = refl; slots = ap (λ (o : Option Cargo). slice_set d.slots.items c.args.port (record s { copy = o })) gone; order = refl; lost = refl }) in
    record { ends = c.step_copy-event.ensures.same; macs = m.macs }

pub returns-then-is_none-clause-stepped : goal.returns-then-is_none-clause-stepped
returns-then-is_none-clause-stepped g c =
    let d = c.args.self.now.desk in
    let s = c.index_mut-slot.result.now in
    let at = slot_there d c.args.port s has_copy c.requires.loaded c.index_mut-slot.ensures.value in
    let gone = is_nothing c.step_copy-event.new.load (c.is_none.ensures ∙ ap not c.if-is_none.true) in
    let x = loaded_there d c.args.port s at c.requires.loaded in
    let m = c.settle.ensures d s x.0 c.requires.fits.desk at x.1 (record { macs = refl; slots = ap (λ (o : Option Cargo). slice_set d.slots.items c.args.port (record s { copy = o })) gone; order = refl; lost = refl }) in
    let p = put_of c.step_copy-event.result s.copy in
    let list = gone_list x.0 p c.step_copy-event.new.load (sym (ap option_to_list x.1) ∙ c.step_copy-event.ensures.load) gone in
    record {
      body = option_map (λ y. y.1) p;
      happened = c.step_copy-event.ensures.did;
      kept = λ passed st.
          copied (g.W.Wires.ends c.args.wires.now) c.args.self.now _ c.requires.fits c.step_copy-event.ensures.same passed (deed_of c.step_copy-event.result p) c.args.port st _ c.step_copy-event.ensures.on c.step_copy-event.ensures.takes_none m
          c.step_copy-event.ensures.takes (λ n. c.step_copy-event.ensures.puts n ∙ ap (if_there (c.step_copy-event.result.queue.0 == n)) list);
    }

pub returns-then-is_none-clause-posted : goal.returns-then-is_none-clause-posted
returns-then-is_none-clause-posted g c =
    let d = c.args.self.now.desk in
    let s = c.index_mut-slot.result.now in
    let at = slot_there d c.args.port s has_copy c.requires.loaded c.index_mut-slot.ensures.value in
    let x = loaded_there d c.args.port s at c.requires.loaded in
    subst (λ b. PostedAt (switch_posts c.args.self.now.ends) (place_of c.args.self.now.ends (At.Copy c.args.port)) b c.step_copy-event.result (switch_posts c.step_copy-event.new.self)) (ap is_some x.1) c.step_copy-event.ensures.posted

pub returns-then-is_none-clause-still : goal.returns-then-is_none-clause-still
returns-then-is_none-clause-still g c = λ m.
    let d = c.args.self.now.desk in
    let s = c.index_mut-slot.result.now in
    let at = slot_there d c.args.port s has_copy c.requires.loaded c.index_mut-slot.ensures.value in
    let gone = is_nothing c.step_copy-event.new.load (c.is_none.ensures ∙ ap not c.if-is_none.true) in
    let x = loaded_there d c.args.port s at c.requires.loaded in
    absurd (let bad = sym x.1 ∙ (sym (c.step_copy-event.ensures.still m) ∙ gone) in cc)

pub returns-else-is_none-clause-fits : goal.returns-else-is_none-clause-fits
returns-else-is_none-clause-fits g c =
    let d = c.args.self.now.desk in
    let s = c.index_mut-slot.result.now in
    let at = slot_there d c.args.port s has_copy c.requires.loaded c.index_mut-slot.ensures.value in
    let x = loaded_there d c.args.port s at c.requires.loaded in
    let stays = stays_list x.0 (put_of c.step_copy-event.result s.copy) c.step_copy-event.new.load (sym (ap option_to_list x.1) ∙ c.step_copy-event.ensures.load) (c.is_none.ensures ∙ ap not c.if-is_none.false) in
    fits_on (g.W.Wires.ends c.args.wires.now) _ c.args.self.now c.step_copy-event.new.self _ c.requires.fits c.step_copy-event.ensures.fits c.step_copy-event.ensures.same
    (desk_stays d _ c.args.port (copy_stays d _ c.args.port s c.step_copy-event.new.load at (stays.1 ∙ sym x.1) (record { macs = refl; slots = refl; order = refl; lost = refl })) c.requires.fits.desk).desk refl

pub returns-else-is_none-clause-stepped : goal.returns-else-is_none-clause-stepped
returns-else-is_none-clause-stepped g c =
    let d = c.args.self.now.desk in
    let s = c.index_mut-slot.result.now in
    let at = slot_there d c.args.port s has_copy c.requires.loaded c.index_mut-slot.ensures.value in
    let x = loaded_there d c.args.port s at c.requires.loaded in
    let p = put_of c.step_copy-event.result s.copy in
    let stays = stays_list x.0 p c.step_copy-event.new.load (sym (ap option_to_list x.1) ∙ c.step_copy-event.ensures.load) (c.is_none.ensures ∙ ap not c.if-is_none.false) in
    record {
      body = option_map (λ y. y.1) p;
      happened = c.step_copy-event.ensures.did;
      kept = λ passed st.
          still (g.W.Wires.ends c.args.wires.now) c.args.self.now _ c.requires.fits c.step_copy-event.ensures.same passed (deed_of c.step_copy-event.result p) c.args.port st c.step_copy-event.ensures.takes_none
          (copy_stays d _ c.args.port s c.step_copy-event.new.load at (stays.1 ∙ sym x.1) (record { macs = refl; slots = refl; order = refl; lost = refl })) c.step_copy-event.ensures.takes
          (λ n. c.step_copy-event.ensures.puts n ∙ (ap (λ (o : Option Cargo). if_there (c.step_copy-event.result.queue.0 == n) (option_to_list o)) stays.0 ∙ none_if (c.step_copy-event.result.queue.0 == n)));
    }

pub returns-else-is_none-clause-posted : goal.returns-else-is_none-clause-posted
returns-else-is_none-clause-posted g c =
    let d = c.args.self.now.desk in
    let s = c.index_mut-slot.result.now in
    let at = slot_there d c.args.port s has_copy c.requires.loaded c.index_mut-slot.ensures.value in
    let x = loaded_there d c.args.port s at c.requires.loaded in
    subst (λ b. PostedAt (switch_posts c.args.self.now.ends) (place_of c.args.self.now.ends (At.Copy c.args.port)) b c.step_copy-event.result (switch_posts c.step_copy-event.new.self)) (ap is_some x.1) c.step_copy-event.ensures.posted

pub returns-else-is_none-clause-still : goal.returns-else-is_none-clause-still
returns-else-is_none-clause-still g c = λ m.
    let d = c.args.self.now.desk in
    let s = c.index_mut-slot.result.now in
    let at = slot_there d c.args.port s has_copy c.requires.loaded c.index_mut-slot.ensures.value in
    copy_stays d _ c.args.port s c.step_copy-event.new.load at (c.step_copy-event.ensures.still m) (record { macs = refl; slots = refl; order = refl; lost = refl })
