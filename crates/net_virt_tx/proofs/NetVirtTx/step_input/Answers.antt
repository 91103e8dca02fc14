use Rattle.std.proofs.Common.{◌≡◌, ◌==◌, true, sym, ap, ◌∙◌}
use Rattle.std.specs.Option.{option_map, option_to_list}
use Rattle.wire_core.specs.Deeds.{deed_of}
use Rattle.wire_core.specs.Lists.{if_there, with_deed}
use Rattle.buffer_kit.specs.Virtualising.{from_queues, to_queues}
use Rattle.buffer_kit.proofs.ManyClients.{none_if}
use Rattle.net_virt_tx.specs.Traffics.{is_free}
use Rattle.net_virt_tx.proofs.Steps.{still, moved, tx_back, is_there, free_none, fits_on, back_keeps}
use Rattle.net_virt_tx.proofs.NetVirtTx.step_input.Goals as goal

pub returns-in_default-clause-stepped : goal.returns-in_default-clause-stepped
returns-in_default-clause-stepped g c = record {
  body = option_map (λ x. x.1) c.step_input-got.result.1;
  happened = c.step_input-got.ensures.did;
  kept = λ passed h. still c.args.self.now.ends c.step_input-got.new.self c.step_input-got.ensures.same c.args.self.now.work passed _ _ _ (λ n. c.step_input-got.ensures.takes n ∙ (ap (λ o. if_there (c.args.self.now.ends.input.queue.0 == n) (option_to_list o)) c.in_default.is ∙ none_if (c.args.self.now.ends.input.queue.0 == n))) c.step_input-got.ensures.puts h;
}

pub returns-in-Some-clause-fits : goal.returns-in-Some-clause-fits
returns-in-Some-clause-fits g c = fits_on (g.W.Wires.ends c.args.wires.now) _ c.args.self.now c.step_input-got.new.self c.take_back.new.self c.requires c.step_input-got.ensures.fits c.step_input-got.ensures.same (back_keeps c.args.self.now.work c.take_back.new.self c.requires.work c.in-Some.entry c.take_back.ensures)

pub returns-in-Some-clause-same : goal.returns-in-Some-clause-same
returns-in-Some-clause-same g c = record {
  ends = c.step_input-got.ensures.same;
  work = (back_keeps c.args.self.now.work c.take_back.new.self c.requires.work c.in-Some.entry c.take_back.ensures).1;
}

pub returns-in-Some-clause-stepped : goal.returns-in-Some-clause-stepped
returns-in-Some-clause-stepped g c =
    let free : is_free c.args.self.now.work ≡ true = sym c.is_free.ensures ∙ c.step_input-got.ensures.needed (is_there c.step_input-got.result.1 c.in-Some.entry c.in-Some.is) in
    record {
      body = option_map (λ x. x.1) c.step_input-got.result.1;
      happened = c.step_input-got.ensures.did;
      kept = λ passed h. moved c.args.self.now.ends c.step_input-got.new.self c.step_input-got.ensures.same c.take_back.new.self (with_deed passed (deed_of c.step_input-got.result.0 c.step_input-got.result.1))
          (tx_back c.args.self.now.ends.input.queue.0 c.args.self.now.ends.output.queue.0 (from_queues c.args.self.now.ends) (to_queues c.args.self.now.ends) c.args.self.now.work c.take_back.new.self c.in-Some.entry passed _ _ _ c.requires.from_each c.requires.to_each (free_none c.args.self.now.work.stray free) h c.take_back.ensures c.requires.ends_fit.inputs_apart
          (λ n. c.step_input-got.ensures.takes n ∙ ap (λ o. if_there (c.args.self.now.ends.input.queue.0 == n) (option_to_list o)) c.in-Some.is) c.step_input-got.ensures.puts);
    }
