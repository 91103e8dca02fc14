use Rattle.std.proofs.Common.{◌≡◌, ◌==◌, None, sym, ap, ◌∙◌}
use Rattle.std.specs.Option.{option_map, option_to_list}
use Rattle.wire_core.specs.Deeds.{deed_of, put_of}
use Rattle.wire_core.specs.Lists.{if_there}
use Rattle.buffer_kit.proofs.ManyClients.{none_if}
use Rattle.net_switch.proofs.Steps.{same_desk}
use Rattle.net_switch.proofs.Calls.{still, puts_none}
use Rattle.net_switch.proofs.switch.NetSwitch.step_back.Goals as goal

pub returns-else-is_returning-clause-stepped : goal.returns-else-is_returning-clause-stepped
returns-else-is_returning-clause-stepped g c = record {
  body = option_map (λ x. x.1) (put_of c.step_back.result None);
  happened = c.step_back.ensures.did;
  kept = λ passed h.
      still (g.W.Wires.ends c.args.wires.now) c.args.self.now _ c.requires.fits c.step_back.ensures.same passed (deed_of c.step_back.result (put_of c.step_back.result None)) c.args.port h
      c.step_back.ensures.takes_none (same_desk c.args.self.now.desk) c.step_back.ensures.takes
      (λ n. c.step_back.ensures.puts n ∙ (ap (λ o. if_there (c.step_back.result.queue.0 == n) (option_to_list o)) (puts_none c.step_back.result) ∙ none_if (c.step_back.result.queue.0 == n)));
}
