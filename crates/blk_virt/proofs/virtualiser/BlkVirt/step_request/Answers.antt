use Rattle.std.proofs.Common.{◌≡◌, ◌==◌, true, Option, is_some, sym, ap, ◌∙◌}
use Rattle.std.specs.Option.{option_map, option_to_list}
use Rattle.wire_core.specs.Deeds.{Cargo, deed_of}
use Rattle.wire_core.specs.Lists.{if_there, with_deed}
use Rattle.buffer_kit.specs.Virtualising.{from_queues, to_queues}
use Rattle.buffer_kit.proofs.ManyClients.{none_if}
use Rattle.blk_virt.specs.Works.{wants_at}
use Rattle.blk_virt.specs.Virtualising.{queue_at}
use Rattle.blk_virt.proofs.Stepping.{still, moved, request_in, free_from}
use Rattle.blk_virt.proofs.virtualiser.BlkVirt.step_request.Goals as goal

pub returns-in_default-clause-stepped : goal.returns-in_default-clause-stepped
returns-in_default-clause-stepped g c =
    let v = c.args.self.now in
    record {
      body = option_map (λ x. x.1) c.step_from_client-got.result.1;
      happened = c.step_from_client-got.ensures.did;
      kept = λ passed h. moved v.ends c.step_from_client-got.new.self c.step_from_client-got.ensures.same v.work (with_deed passed (deed_of c.step_from_client-got.result.0 c.step_from_client-got.result.1))
          (still v.ends.input.queue.0 v.ends.output.queue.0 (from_queues v.ends) (to_queues v.ends) v.work passed _ _ _ (λ n. c.step_from_client-got.ensures.takes n ∙ (ap (λ (o : Option Cargo). if_there (c.step_from_client-got.result.0.queue.0 == n) (option_to_list o)) c.in_default.is ∙ none_if (c.step_from_client-got.result.0.queue.0 == n))) c.step_from_client-got.ensures.puts h);
    }

pub returns-in-Some-clause-stepped : goal.returns-in-Some-clause-stepped
returns-in-Some-clause-stepped g c =
    let v = c.args.self.now in
    let wants : wants_at v.work c.args.place ≡ true = sym c.wants-wants.ensures ∙ c.step_from_client-got.ensures.needed (ap (λ (o : Option Cargo). is_some o) c.in-Some.is) in
    let free = free_from v.work.stray _ wants in
    record {
      body = option_map (λ x. x.1) c.step_from_client-got.result.1;
      happened = c.step_from_client-got.ensures.did;
      kept = λ passed h. moved v.ends c.step_from_client-got.new.self c.step_from_client-got.ensures.same c.request.new.self (with_deed passed (deed_of c.step_from_client-got.result.0 c.step_from_client-got.result.1))
          (request_in v.ends.input.queue.0 v.ends.output.queue.0 (from_queues v.ends) (to_queues v.ends) v.work c.request.new.self c.request.ensures.same c.request.ensures.work passed _ _ _ h c.in-Some.entry free c.step_from_client-got.ensures.puts c.request.ensures.held c.args.place c.step_from_client-got.result.0.queue c.step_from_client-got.ensures.on c.requires.fits.ends_fit.from_clients.apart (c.requires.fits.ends_fit.inputs_apart c.args.place c.step_from_client-got.result.0.queue c.step_from_client-got.ensures.on) c.requires.fits.from_each c.request.ensures.stray
          (λ n. c.step_from_client-got.ensures.takes n ∙ ap (λ (o : Option Cargo). if_there (c.step_from_client-got.result.0.queue.0 == n) (option_to_list o)) c.in-Some.is)
          (c.request.ensures.stands h.start h.back (passed.sent v.ends.output.queue.0) (λ k. passed.taken (queue_at (from_queues v.ends) k)) (λ k. passed.sent (queue_at (to_queues v.ends) k)) h.stands));
    }
