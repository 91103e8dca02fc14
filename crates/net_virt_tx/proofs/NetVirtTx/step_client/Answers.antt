use Rattle.std.proofs.Common.{◌≡◌, ◌==◌, true, is_none, slice_get, sym, ap, ◌∙◌}
use Rattle.std.specs.Option.{option_map, option_to_list}
use Rattle.std.proofs.lemmas.Bool.{and_parts}
use Rattle.wire_core.specs.Deeds.{deed_of}
use Rattle.wire_core.specs.Lists.{if_there, with_deed}
use Rattle.buffer_kit.specs.Virtualising.{from_queues, to_queues}
use Rattle.buffer_kit.proofs.ManyClients.{none_if}
use Rattle.net_virt_tx.specs.Clients.{is_idle}
use Rattle.net_virt_tx.specs.Traffics.{is_so, needs_at}
use Rattle.net_virt_tx.proofs.Steps.{still, moved, tx_in, is_there, free_none, fits_on, in_keeps}
use Rattle.net_virt_tx.proofs.NetVirtTx.step_client.Goals as goal

pub returns-in_default-clause-stepped : goal.returns-in_default-clause-stepped
returns-in_default-clause-stepped g c = record {
  body = option_map (λ x. x.1) c.step_from_client-got.result.1;
  happened = c.step_from_client-got.ensures.did;
  kept = λ passed h. still c.args.self.now.ends c.step_from_client-got.new.self c.step_from_client-got.ensures.same c.args.self.now.work passed _ _ _ (λ n. c.step_from_client-got.ensures.takes n ∙ (ap (λ o. if_there (c.step_from_client-got.result.0.queue.0 == n) (option_to_list o)) c.in_default.is ∙ none_if (c.step_from_client-got.result.0.queue.0 == n))) c.step_from_client-got.ensures.puts h;
}

pub receive-requires-clause-needed : goal.receive-requires-clause-needed
receive-requires-clause-needed g c = sym c.needs-needed.ensures ∙ c.step_from_client-got.ensures.needed (is_there c.step_from_client-got.result.1 c.in-Some.entry c.in-Some.is)

pub returns-in-Some-clause-fits : goal.returns-in-Some-clause-fits
returns-in-Some-clause-fits g c = fits_on (g.W.Wires.ends c.args.wires.now) _ c.args.self.now c.step_from_client-got.new.self c.receive.new.self c.requires.fits c.step_from_client-got.ensures.fits c.step_from_client-got.ensures.same (in_keeps c.args.self.now.work c.receive.new.self c.requires.fits.work c.args.client c.in-Some.entry c.receive.ensures)

pub returns-in-Some-clause-same : goal.returns-in-Some-clause-same
returns-in-Some-clause-same g c = record {
  ends = c.step_from_client-got.ensures.same;
  work = (in_keeps c.args.self.now.work c.receive.new.self c.requires.fits.work c.args.client c.in-Some.entry c.receive.ensures).1;
}

pub returns-in-Some-clause-stepped : goal.returns-in-Some-clause-stepped
returns-in-Some-clause-stepped g c =
    let needed : needs_at c.args.self.now.work c.args.client ≡ true = sym c.needs-needed.ensures ∙ c.step_from_client-got.ensures.needed (is_there c.step_from_client-got.result.1 c.in-Some.entry c.in-Some.is) in
    let free = (and_parts (is_none c.args.self.now.work.stray) (is_so is_idle (slice_get c.args.self.now.work.clients.items c.args.client)) needed).0 in
    record {
      body = option_map (λ x. x.1) c.step_from_client-got.result.1;
      happened = c.step_from_client-got.ensures.did;
      kept = λ passed h. moved c.args.self.now.ends c.step_from_client-got.new.self c.step_from_client-got.ensures.same c.receive.new.self (with_deed passed (deed_of c.step_from_client-got.result.0 c.step_from_client-got.result.1))
          (tx_in c.args.self.now.ends.input.queue.0 c.args.self.now.ends.output.queue.0 (from_queues c.args.self.now.ends) (to_queues c.args.self.now.ends) c.args.self.now.work c.receive.new.self c.args.client c.step_from_client-got.result.0.queue c.in-Some.entry passed _ _ _ c.requires.fits.from_each c.requires.fits.to_each (free_none c.args.self.now.work.stray free) h c.receive.ensures
          c.step_from_client-got.ensures.on c.requires.fits.ends_fit.from_clients.apart (c.requires.fits.ends_fit.inputs_apart c.args.client c.step_from_client-got.result.0.queue c.step_from_client-got.ensures.on)
          (λ n. c.step_from_client-got.ensures.takes n ∙ ap (λ o. if_there (c.step_from_client-got.result.0.queue.0 == n) (option_to_list o)) c.in-Some.is) c.step_from_client-got.ensures.puts);
    }
