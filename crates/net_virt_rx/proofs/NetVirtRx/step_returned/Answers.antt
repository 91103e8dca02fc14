use Rattle.std.proofs.Common.{◌≡◌, ◌==◌, true, sym, ap, ◌∙◌, refl}
use Rattle.std.specs.Option.{option_map, option_to_list}
use Rattle.std.proofs.lemmas.Bool.{cases_Bool}
use Rattle.wire_core.specs.Deeds.{deed_of}
use Rattle.wire_core.specs.Lists.{if_there, with_deed}
use Rattle.buffer_kit.specs.Virtualising.{from_queues, to_queues}
use Rattle.net_virt_rx.specs.Sharing.{is_returned, is_idle}
use Rattle.net_virt_rx.proofs.Steps.{still, moved, rx_returns, none_if, is_there}
use Rattle.net_virt_rx.proofs.NetVirtRx.step_returned.Goals as goal

pub returns-in_default-clause-stepped : goal.returns-in_default-clause-stepped
returns-in_default-clause-stepped g c = record {
  body = option_map (λ x. x.1) c.step_from_client-got.result.1;
  happened = c.step_from_client-got.ensures.did;
  kept = λ passed h. still c.args.self.now.ends c.step_from_client-got.new.self c.step_from_client-got.ensures.same c.args.self.now.work c.args.self.now.work refl passed _ _ _ (λ n. c.step_from_client-got.ensures.takes n ∙ (ap (λ o. if_there (c.step_from_client-got.result.0.queue.0 == n) (option_to_list o)) c.in_default.is ∙ none_if (c.step_from_client-got.result.0.queue.0 == n))) c.step_from_client-got.ensures.puts h;
}

pub returns-in-Some-clause-stepped : goal.returns-in-Some-clause-stepped
returns-in-Some-clause-stepped g c =
    let idle : is_idle c.args.self.now.work ≡ true = sym c.is_idle-idle.ensures ∙ c.step_from_client-got.ensures.needed (is_there c.step_from_client-got.result.1 c.in-Some.entry c.in-Some.is) in
    record {
      body = option_map (λ x. x.1) c.step_from_client-got.result.1;
      happened = c.step_from_client-got.ensures.did;
      kept = λ passed h. moved c.args.self.now.ends c.step_from_client-got.new.self c.step_from_client-got.ensures.same c.take_back.new.self (with_deed passed (deed_of c.step_from_client-got.result.0 c.step_from_client-got.result.1))
          (rx_returns c.args.self.now.ends.input.queue.0 c.args.self.now.ends.output.queue.0 (from_queues c.args.self.now.ends) (to_queues c.args.self.now.ends) c.args.self.now.work c.take_back.new.self c.requires.fits.work c.take_back.ensures.work idle c.requires.fits.from_each c.args.client c.step_from_client-got.result.0.queue c.step_from_client-got.ensures.on c.requires.fits.ends_fit.from_clients.apart (c.requires.fits.ends_fit.inputs_apart c.args.client c.step_from_client-got.result.0.queue c.step_from_client-got.ensures.on) c.in-Some.entry passed _ _ _ c.take_back.ensures.same c.take_back.ensures.turn c.take_back.ensures.stands c.take_back.ensures.stray c.take_back.ensures.held
          (λ n. c.step_from_client-got.ensures.takes n ∙ ap (λ o. if_there (c.step_from_client-got.result.0.queue.0 == n) (option_to_list o)) c.in-Some.is) c.step_from_client-got.ensures.puts h (cases_Bool (is_returned c.args.self.now.work c.args.client c.in-Some.entry)));
    }
