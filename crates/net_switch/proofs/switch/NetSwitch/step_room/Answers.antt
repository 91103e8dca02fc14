use Rattle.std.proofs.Common.{◌≡◌, ◌==◌, refl, sym, ap, ◌∙◌}
use Rattle.std.specs.Option.{is_some, option_map, option_to_list}
use Rattle.wire_core.specs.Deeds.{Cargo, deed_of}
use Rattle.wire_core.specs.Lists.{if_there}
use Rattle.buffer_kit.proofs.ManyClients.{none_if}
use Rattle.net_switch.proofs.Steps.{same_desk}
use Rattle.net_switch.proofs.Calls.{is_there, fits_on, still, roomed}
use Rattle.net_switch.proofs.switch.NetSwitch.step_room.Goals as goal

pub copy-requires-clause-wanting : goal.copy-requires-clause-wanting
copy-requires-clause-wanting g c = sym c.is_wanting-need.ensures ∙ c.step_room-got.ensures.needed (is_there c.step_room-got.result.1 c.in-Some.entry c.in-Some.is)

pub returns-in_default-clause-stepped : goal.returns-in_default-clause-stepped
returns-in_default-clause-stepped g c = record {
  body = option_map (λ x. x.1) c.step_room-got.result.1;
  happened = c.step_room-got.ensures.did;
  kept = λ passed h.
      still (g.W.Wires.ends c.args.wires.now) c.args.self.now _ c.requires.fits c.step_room-got.ensures.same passed (deed_of c.step_room-got.result.0 c.step_room-got.result.1) c.args.port h
      (c.step_room-got.ensures.takes_one ∙ ap is_some c.in_default.is) (same_desk c.args.self.now.desk)
      (λ n. c.step_room-got.ensures.takes n ∙ (ap (λ o. if_there (c.step_room-got.result.0.queue.0 == n) (option_to_list o)) c.in_default.is ∙ none_if (c.step_room-got.result.0.queue.0 == n))) c.step_room-got.ensures.puts;
}

pub returns-in-Some-clause-fits : goal.returns-in-Some-clause-fits
returns-in-Some-clause-fits g c = fits_on (g.W.Wires.ends c.args.wires.now) _ c.args.self.now c.step_room-got.new.self c.copy.new.self c.requires.fits c.step_room-got.ensures.fits c.step_room-got.ensures.same c.copy.ensures.desk c.copy.ensures.macs

pub returns-in-Some-clause-stepped : goal.returns-in-Some-clause-stepped
returns-in-Some-clause-stepped g c = record {
  body = option_map (λ x. x.1) c.step_room-got.result.1;
  happened = c.step_room-got.ensures.did;
  kept = λ passed h.
      roomed (g.W.Wires.ends c.args.wires.now) c.args.self.now _ c.requires.fits c.step_room-got.ensures.same passed (deed_of c.step_room-got.result.0 c.step_room-got.result.1) c.args.port h
      c.in-Some.entry c.step_room-got.ensures.on c.copy.ensures
      (λ n. c.step_room-got.ensures.takes n ∙ ap (λ o. if_there (c.step_room-got.result.0.queue.0 == n) (option_to_list o)) c.in-Some.is) c.step_room-got.ensures.puts;
}

pub returns-in-Some-clause-still : goal.returns-in-Some-clause-still
returns-in-Some-clause-still g c = λ m. absurd (let bad = sym (c.step_room-got.ensures.still m) ∙ c.in-Some.is in cc)
