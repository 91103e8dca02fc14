use Rattle.std.proofs.Common.{◌≡◌, ◌+◌, List, length, map, refl, sym, ap, ◌∙◌, subst, arith}
use Rattle.std.proofs.lemmas.List.{length-map}
use Rattle.frame_core.specs.declared.mac.Mac.{Mac}
use Rattle.turn_kit.specs.declared.ends.Intake.{Intake}
use Rattle.buffer_kit.specs.Virtualising.{new_intake, new_outlet}
use Rattle.net_switch.specs.SwitchDesk.Desks.{IsNewDesk}
use Rattle.net_switch.specs.declared.switch.PortEnds.{PortEnds}
use Rattle.net_switch.specs.Switching.{queue_of}
use Rattle.net_switch.proofs.switch.NetSwitch.new.Goals as goal

pub returns-clause-new : goal.returns-clause-new
returns-clause-new c = record {
  ends = record {
    come_is = c.in_ok-ends.ensures.come_is ∙ ap (map new_intake) (c.deref-6.ensures.value ∙ (c.in_ok-come.ensures ∙ ap (map (λ (p : PortEnds). queue_of p.tx 0)) c.deref.ensures.value));
    back_is = c.in_ok-ends.ensures.back_is ∙ ap (map new_outlet) (c.deref-7.ensures.value ∙ (c.in_ok-back.ensures ∙ ap (map (λ (p : PortEnds). queue_of p.tx 1)) c.deref-2.ensures.value));
    room_is = c.in_ok-ends.ensures.room_is ∙ ap (map new_intake) (c.deref-8.ensures.value ∙ (c.in_ok-room.ensures ∙ ap (map (λ (p : PortEnds). queue_of p.rx 1)) c.deref-4.ensures.value));
    copy_is = c.in_ok-ends.ensures.copy_is ∙ ap (map new_outlet) (c.deref-9.ensures.value ∙ (c.in_ok-copy.ensures ∙ ap (map (λ (p : PortEnds). queue_of p.rx 0)) c.deref-3.ensures.value));
    last = c.in_ok-ends.ensures.last;
  };
  desk = subst (λ (m : List Mac). IsNewDesk m c.in_ok-desk.desk) (c.in_ok-macs.ensures ∙ ap (map (λ (p : PortEnds). p.mac)) c.deref-5.ensures.value) c.in_ok-desk.ensures.new;
}

pub returns-clause-stands : goal.returns-clause-stands
returns-clause-stands c =
    let a = ap length (c.in_ok-desk.ensures.new.macs_are ∙ (c.in_ok-macs.ensures ∙ ap (map (λ (p : PortEnds). p.mac)) c.deref-5.ensures.value)) in
    let b = length-map c.args.ports.items (λ (p : PortEnds). p.mac) in
    let d = length-map c.in_ok-ends.ends.come.ends.items (λ (i : Intake). i.queue) in
    let e = ap length c.in_ok-ends.ensures.come_is in
    let f = length-map c.deref-6.result.now new_intake in
    let g = ap length (c.deref-6.ensures.value ∙ (c.in_ok-come.ensures ∙ ap (map (λ (p : PortEnds). queue_of p.tx 0)) c.deref.ensures.value)) in
    let h = length-map c.args.ports.items (λ (p : PortEnds). queue_of p.tx 0) in
    record {
      fits = c.in_ok-desk.ensures.desk;
      ports = omega (arith, a, b, d, e, f, g, h);
      desk = c.in_ok-desk.ensures.stands;
      came = λ k less. refl;
      called = λ k less. refl;
    }
