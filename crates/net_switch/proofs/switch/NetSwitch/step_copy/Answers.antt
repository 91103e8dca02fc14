use Rattle.std.proofs.Common.{◌≡◌, ◌==◌, None, sym, ap, ◌∙◌}
use Rattle.std.specs.Option.{option_map, option_to_list}
use Rattle.wire_core.specs.Deeds.{deed_of, put_of}
use Rattle.wire_core.specs.Lists.{if_there}
use Rattle.buffer_kit.proofs.ManyClients.{none_if}
use Rattle.net_switch.proofs.Steps.{same_desk}
use Rattle.net_switch.proofs.Calls.{still, puts_none}
use Rattle.net_switch.proofs.switch.NetSwitch.step_copy.Goals as goal

pub returns-else-is_loaded-clause-stepped : goal.returns-else-is_loaded-clause-stepped
returns-else-is_loaded-clause-stepped g c = record {
  body = option_map (λ x. x.1) (put_of c.step_copy.result None);
  happened = c.step_copy.ensures.did;
  kept = λ passed h.
      still (g.W.Wires.ends c.args.wires.now) c.args.self.now _ c.requires.fits c.step_copy.ensures.same passed (deed_of c.step_copy.result (put_of c.step_copy.result None)) c.args.port h
      c.step_copy.ensures.takes_none (same_desk c.args.self.now.desk) c.step_copy.ensures.takes
      (λ n. c.step_copy.ensures.puts n ∙ (ap (λ o. if_there (c.step_copy.result.queue.0 == n) (option_to_list o)) (puts_none c.step_copy.result) ∙ none_if (c.step_copy.result.queue.0 == n)));
}
