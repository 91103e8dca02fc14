use Rattle.std.proofs.Common.{◌≡◌, None, true, is_none, slice_get, sym, ◌∙◌}
use Rattle.std.specs.Option.{option_map, option_to_list}
use Rattle.std.proofs.lemmas.Bool.{and_parts}
use Rattle.wire_core.specs.Deeds.{put_of, deed_of}
use Rattle.wire_core.specs.Lists.{with_deed}
use Rattle.buffer_kit.specs.Virtualising.{from_queues, to_queues}
use Rattle.net_virt_tx.specs.Clients.{is_loaded}
use Rattle.net_virt_tx.specs.Traffics.{is_so, load_at, loaded_at}
use Rattle.net_virt_tx.proofs.Steps.{still, moved, entry_back, puts_none, free_none, fits_on, one_keeps}
use Rattle.net_virt_tx.proofs.NetVirtTx.step_return.Goals as goal

pub returns-else-is_loaded-clause-stepped : goal.returns-else-is_loaded-clause-stepped
returns-else-is_loaded-clause-stepped g c = record {
  body = option_map (λ x. x.1) (put_of c.step_to_client.result None);
  happened = c.step_to_client.ensures.did;
  kept = λ passed h. still c.args.self.now.ends c.step_to_client.new.self c.step_to_client.ensures.same c.args.self.now.work passed _ _ _ c.step_to_client.ensures.takes (λ n. c.step_to_client.ensures.puts n ∙ puts_none c.step_to_client.result c.step_to_client.result.queue.0 n) h;
}

pub returns-then-is_loaded-clause-fits : goal.returns-then-is_loaded-clause-fits
returns-then-is_loaded-clause-fits g c = fits_on (g.W.Wires.ends c.args.wires.now) _ c.args.self.now c.give.new.ends c.give.new.self c.requires.fits c.give.ensures.fits c.give.ensures.same (one_keeps c.args.self.now.work c.give.new.self c.requires.fits.work _ _ _ _ _ c.give.ensures.moved)

pub returns-then-is_loaded-clause-same : goal.returns-then-is_loaded-clause-same
returns-then-is_loaded-clause-same g c = record {
  ends = c.give.ensures.same;
  work = (one_keeps c.args.self.now.work c.give.new.self c.requires.fits.work _ _ _ _ _ c.give.ensures.moved).1;
}

pub returns-then-is_loaded-clause-stepped : goal.returns-then-is_loaded-clause-stepped
returns-then-is_loaded-clause-stepped g c =
    let p = put_of c.give.result (load_at c.args.self.now.work c.args.client) in
    let loaded : loaded_at c.args.self.now.work c.args.client ≡ true = sym c.is_loaded.ensures ∙ c.if-is_loaded.true in
    let free = (and_parts (is_none c.args.self.now.work.stray) (is_so is_loaded (slice_get c.args.self.now.work.clients.items c.args.client)) loaded).0 in
    record {
      body = option_map (λ x. x.1) p;
      happened = c.give.ensures.did;
      kept = λ passed h. moved c.args.self.now.ends c.give.new.ends c.give.ensures.same c.give.new.self (with_deed passed (deed_of c.give.result p))
          (entry_back c.args.self.now.ends.input.queue.0 c.args.self.now.ends.output.queue.0 (from_queues c.args.self.now.ends) (to_queues c.args.self.now.ends) c.args.self.now.work c.give.new.self c.args.client passed _ _ _ c.requires.fits.from_each c.requires.fits.to_each (free_none c.args.self.now.work.stray free) h (option_to_list p) c.give.ensures.moved
          c.give.result.queue c.give.ensures.on c.requires.fits.ends_fit.to_clients.apart (c.requires.fits.ends_fit.outputs_apart c.args.client c.give.result.queue c.give.ensures.on) c.give.ensures.takes c.give.ensures.puts);
    }
