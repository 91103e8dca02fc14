use Rattle.std.proofs.Common.{◌==◌, Option, is_some, ap, ◌∙◌}
use Rattle.std.specs.Option.{option_map, option_to_list}
use Rattle.wire_core.specs.Deeds.{Cargo, deed_of}
use Rattle.wire_core.specs.Lists.{if_there, with_deed}
use Rattle.buffer_kit.specs.Virtualising.{from_queues, to_queues}
use Rattle.buffer_kit.proofs.ManyClients.{none_if}
use Rattle.blk_virt.specs.Virtualising.{queue_at}
use Rattle.blk_virt.proofs.Stepping.{still, moved, response_in, is_free}
use Rattle.blk_virt.proofs.virtualiser.BlkVirt.step_response.Goals as goal

pub returns-in_default-clause-stepped : goal.returns-in_default-clause-stepped
returns-in_default-clause-stepped g c =
    let v = c.args.self.now in
    record {
      body = option_map (λ x. x.1) c.step_input-got.result.1;
      happened = c.step_input-got.ensures.did;
      kept = λ passed h. moved v.ends c.step_input-got.new.self c.step_input-got.ensures.same v.work (with_deed passed (deed_of c.step_input-got.result.0 c.step_input-got.result.1))
          (still v.ends.input.queue.0 v.ends.output.queue.0 (from_queues v.ends) (to_queues v.ends) v.work passed _ _ _ (λ n. c.step_input-got.ensures.takes n ∙ (ap (λ (o : Option Cargo). if_there (v.ends.input.queue.0 == n) (option_to_list o)) c.in_default.is ∙ none_if (v.ends.input.queue.0 == n))) c.step_input-got.ensures.puts h);
    }

pub returns-in-Some-clause-stepped : goal.returns-in-Some-clause-stepped
returns-in-Some-clause-stepped g c =
    let v = c.args.self.now in
    let free = is_free v.work.stray c.is_none.result c.is_none.ensures (c.step_input-got.ensures.needed (ap (λ (o : Option Cargo). is_some o) c.in-Some.is)) in
    record {
      body = option_map (λ x. x.1) c.step_input-got.result.1;
      happened = c.step_input-got.ensures.did;
      kept = λ passed h. moved v.ends c.step_input-got.new.self c.step_input-got.ensures.same c.receive.new.self (with_deed passed (deed_of c.step_input-got.result.0 c.step_input-got.result.1))
          (response_in v.ends.input.queue.0 v.ends.output.queue.0 (from_queues v.ends) (to_queues v.ends) v.work c.receive.new.self c.receive.ensures.same c.receive.ensures.work passed _ _ _ h c.in-Some.entry free c.step_input-got.ensures.puts c.receive.ensures.held c.requires.ends_fit.inputs_apart c.requires.from_each
          (λ n. c.step_input-got.ensures.takes n ∙ ap (λ (o : Option Cargo). if_there (v.ends.input.queue.0 == n) (option_to_list o)) c.in-Some.is)
          (c.receive.ensures.stands h.start h.back (passed.sent v.ends.output.queue.0) (λ k. passed.taken (queue_at (from_queues v.ends) k)) (λ k. passed.sent (queue_at (to_queues v.ends) k)) h.stands));
    }
