use Rattle.std.proofs.Common.{◌≡◌, true, refl, sym, ap, ◌∙◌, subst}
use Rattle.std.specs.Option.{is_some, option_map, option_to_list}
use Rattle.wire_core.specs.Deeds.{deed_of, put_of}
use Rattle.turn_kit.specs.Turns.{PostedAt}
use Rattle.net_switch.specs.SwitchDesk.Desks.{is_copied}
use Rattle.net_switch.specs.declared.ends.SwitchEnd.TheVariants as At
use Rattle.net_switch.specs.Ends.{switch_posts, place_of}
use Rattle.net_switch.proofs.Calls.{fits_on, went_back, back_or_not, frame_stays, load_cases, held_there, slot_there}
use Rattle.net_switch.proofs.switch.NetSwitch.put_back.Goals as goal

pub step_back-event-requires-clause-kind : goal.step_back-event-requires-clause-kind
step_back-event-requires-clause-kind g c =
    let d = c.args.self.now.desk in
    let at = slot_there d c.args.port c.index_mut-slot.result.now is_copied c.requires.returning c.index_mut-slot.ensures.value in
    (c.requires.fits.desk.kept.each c.args.port c.index_mut-slot.result.now at).frame

pub returns-clause-fits : goal.returns-clause-fits
returns-clause-fits g c =
    let d = c.args.self.now.desk in
    let s = c.index_mut-slot.result.now in
    let at = slot_there d c.args.port s is_copied c.requires.returning c.index_mut-slot.ensures.value in
    let h = held_there d c.args.port s at c.requires.returning in
    fits_on (g.W.Wires.ends c.args.wires.now) _ c.args.self.now c.step_back-event.new.self _ c.requires.fits c.step_back-event.ensures.fits c.step_back-event.ensures.same
    (back_or_not d _ c.args.port s h.0 (put_of c.step_back-event.result s.frame) c.step_back-event.new.load c.requires.fits.desk at h.2 h.1 (load_cases h.0 _ _ (sym (ap option_to_list h.1) ∙ c.step_back-event.ensures.load))
    (record { macs = refl; slots = refl; order = refl; lost = refl }) (λ w. c.back_law.ensures d _ c.args.port s h.0 c.requires.fits.desk at h.2 h.1 w)).desk refl

pub returns-clause-stepped : goal.returns-clause-stepped
returns-clause-stepped g c =
    let d = c.args.self.now.desk in
    let s = c.index_mut-slot.result.now in
    let at = slot_there d c.args.port s is_copied c.requires.returning c.index_mut-slot.ensures.value in
    let h = held_there d c.args.port s at c.requires.returning in
    let p = put_of c.step_back-event.result s.frame in
    record {
      body = option_map (λ x. x.1) p;
      happened = c.step_back-event.ensures.did;
      kept = λ passed st.
          went_back (g.W.Wires.ends c.args.wires.now) c.args.self.now _ c.requires.fits c.step_back-event.ensures.same passed (deed_of c.step_back-event.result p) c.args.port st (option_to_list p) c.step_back-event.ensures.on c.step_back-event.ensures.takes_none
          (back_or_not d _ c.args.port s h.0 p c.step_back-event.new.load c.requires.fits.desk at h.2 h.1 (load_cases h.0 _ _ (sym (ap option_to_list h.1) ∙ c.step_back-event.ensures.load))
          (record { macs = refl; slots = refl; order = refl; lost = refl }) (λ w. c.back_law.ensures d _ c.args.port s h.0 c.requires.fits.desk at h.2 h.1 w))
          c.step_back-event.ensures.takes c.step_back-event.ensures.puts;
    }

pub returns-clause-posted : goal.returns-clause-posted
returns-clause-posted g c =
    let d = c.args.self.now.desk in
    let s = c.index_mut-slot.result.now in
    let at = slot_there d c.args.port s is_copied c.requires.returning c.index_mut-slot.ensures.value in
    let h = held_there d c.args.port s at c.requires.returning in
    subst (λ b. PostedAt (switch_posts c.args.self.now.ends) (place_of c.args.self.now.ends (At.Back c.args.port)) b c.step_back-event.result (switch_posts c.step_back-event.new.self)) (ap is_some h.1) c.step_back-event.ensures.posted

pub returns-clause-still : goal.returns-clause-still
returns-clause-still g c = λ m.
    let d = c.args.self.now.desk in
    let s = c.index_mut-slot.result.now in
    let at = slot_there d c.args.port s is_copied c.requires.returning c.index_mut-slot.ensures.value in
    frame_stays d _ c.args.port s c.step_back-event.new.load at (c.step_back-event.ensures.still m) (record { macs = refl; slots = refl; order = refl; lost = refl })
