use Rattle.std.proofs.Common.{◌≡◌, ◌==◌, refl, sym, ap, ◌∙◌}
use Rattle.std.specs.Option.{is_some, option_map, option_to_list}
use Rattle.wire_core.specs.Deeds.{Cargo, deed_of}
use Rattle.wire_core.specs.Lists.{if_there}
use Rattle.buffer_kit.proofs.ManyClients.{none_if}
use Rattle.net_switch.proofs.Steps.{same_desk}
use Rattle.net_switch.proofs.Calls.{is_there, fits_on, still, came}
use Rattle.net_switch.proofs.switch.NetSwitch.step_come.Goals as goal

pub receive-requires-clause-taking : goal.receive-requires-clause-taking
receive-requires-clause-taking g c = sym c.is_taking-need.ensures ∙ c.step_come-got.ensures.needed (is_there c.step_come-got.result.1 c.in-Some.entry c.in-Some.is)

pub returns-in_default-clause-stepped : goal.returns-in_default-clause-stepped
returns-in_default-clause-stepped g c = record {
  body = option_map (λ x. x.1) c.step_come-got.result.1;
  happened = c.step_come-got.ensures.did;
  kept = λ passed h.
      still (g.W.Wires.ends c.args.wires.now) c.args.self.now _ c.requires.fits c.step_come-got.ensures.same passed (deed_of c.step_come-got.result.0 c.step_come-got.result.1) c.args.port h
      (c.step_come-got.ensures.takes_one ∙ ap is_some c.in_default.is) (same_desk c.args.self.now.desk)
      (λ n. c.step_come-got.ensures.takes n ∙ (ap (λ o. if_there (c.step_come-got.result.0.queue.0 == n) (option_to_list o)) c.in_default.is ∙ none_if (c.step_come-got.result.0.queue.0 == n))) c.step_come-got.ensures.puts;
}

pub returns-in-Some-clause-fits : goal.returns-in-Some-clause-fits
returns-in-Some-clause-fits g c = fits_on (g.W.Wires.ends c.args.wires.now) _ c.args.self.now c.step_come-got.new.self c.receive.new.self c.requires.fits c.step_come-got.ensures.fits c.step_come-got.ensures.same c.receive.ensures.desk c.receive.ensures.macs

pub returns-in-Some-clause-stepped : goal.returns-in-Some-clause-stepped
returns-in-Some-clause-stepped g c = record {
  body = option_map (λ x. x.1) c.step_come-got.result.1;
  happened = c.step_come-got.ensures.did;
  kept = λ passed h.
      came (g.W.Wires.ends c.args.wires.now) c.args.self.now _ c.requires.fits c.step_come-got.ensures.same passed (deed_of c.step_come-got.result.0 c.step_come-got.result.1) c.args.port h
      c.in-Some.entry c.step_come-got.ensures.on (c.step_come-got.ensures.takes_one ∙ ap is_some c.in-Some.is) c.receive.ensures
      (λ n. c.step_come-got.ensures.takes n ∙ ap (λ o. if_there (c.step_come-got.result.0.queue.0 == n) (option_to_list o)) c.in-Some.is) c.step_come-got.ensures.puts;
}

pub returns-in-Some-clause-still : goal.returns-in-Some-clause-still
returns-in-Some-clause-still g c = λ m. absurd (let bad = sym (c.step_come-got.ensures.still m) ∙ c.in-Some.is in cc)
