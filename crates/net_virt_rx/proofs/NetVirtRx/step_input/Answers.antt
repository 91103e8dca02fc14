use Rattle.std.proofs.Common.{◌≡◌, ◌==◌, true, sym, ap, ◌∙◌, refl}
use Rattle.std.specs.Option.{option_map, option_to_list}
use Rattle.std.proofs.lemmas.Bool.{cases_Bool}
use Rattle.wire_core.specs.Deeds.{deed_of}
use Rattle.wire_core.specs.Lists.{if_there, with_deed}
use Rattle.buffer_kit.specs.Virtualising.{from_queues, to_queues}
use Rattle.net_virt_rx.specs.Sharing.{is_back, is_idle}
use Rattle.net_virt_rx.proofs.Steps.{still, moved, rx_takes, none_if, is_there}
use Rattle.net_virt_rx.proofs.NetVirtRx.step_input.Goals as goal

pub returns-in_default-clause-stepped : goal.returns-in_default-clause-stepped
returns-in_default-clause-stepped g c = record {
  body = option_map (λ x. x.1) c.step_input-got.result.1;
  happened = c.step_input-got.ensures.did;
  kept = λ passed h. still c.args.self.now.ends c.step_input-got.new.self c.step_input-got.ensures.same c.args.self.now.work c.args.self.now.work refl passed _ _ _ (λ n. c.step_input-got.ensures.takes n ∙ (ap (λ o. if_there (c.args.self.now.ends.input.queue.0 == n) (option_to_list o)) c.in_default.is ∙ none_if (c.args.self.now.ends.input.queue.0 == n))) c.step_input-got.ensures.puts h;
}

pub returns-in-Some-clause-stepped : goal.returns-in-Some-clause-stepped
returns-in-Some-clause-stepped g c =
    let idle : is_idle c.args.self.now.work ≡ true = sym c.is_idle.ensures ∙ c.step_input-got.ensures.needed (is_there c.step_input-got.result.1 c.in-Some.entry c.in-Some.is) in
    record {
      body = option_map (λ x. x.1) c.step_input-got.result.1;
      happened = c.step_input-got.ensures.did;
      kept = λ passed h. moved c.args.self.now.ends c.step_input-got.new.self c.step_input-got.ensures.same c.receive.new.self (with_deed passed (deed_of c.step_input-got.result.0 c.step_input-got.result.1))
          (rx_takes c.args.self.now.ends.input.queue.0 c.args.self.now.ends.output.queue.0 (from_queues c.args.self.now.ends) (to_queues c.args.self.now.ends) c.args.self.now.work c.receive.new.self c.requires.work c.receive.ensures.work idle c.requires.from_each c.in-Some.entry passed _ _ _ c.receive.ensures.same c.receive.ensures.turn c.receive.ensures.stands c.receive.ensures.stray c.receive.ensures.held
          c.requires.ends_fit.inputs_apart (λ n. c.step_input-got.ensures.takes n ∙ ap (λ o. if_there (c.args.self.now.ends.input.queue.0 == n) (option_to_list o)) c.in-Some.is) c.step_input-got.ensures.puts h (cases_Bool (is_back c.args.self.now.work c.in-Some.entry)));
    }
