use Rattle.std.proofs.Common.{◌==◌, Option, is_some, sym, ap, ◌∙◌}
use Rattle.std.specs.Option.{option_map, option_to_list}
use Rattle.wire_core.specs.declared.names.QueueId.{QueueId}
use Rattle.wire_core.specs.Deeds.{Cargo, deed_of}
use Rattle.wire_core.specs.Lists.{if_there, with_deed}
use Rattle.buffer_kit.specs.Virtualising.{from_queues, to_queues}
use Rattle.buffer_kit.proofs.ManyClients.{none_if}
use Rattle.i2c_virt.proofs.Ordering.{order_still, beside_takes_none}
use Rattle.i2c_virt.proofs.Stepping.{still, moved, response_in, is_free}
use Rattle.i2c_virt.proofs.virtualiser.I2cVirt.step_response.Goals as goal

pub returns-in-None-clause-stepped : goal.returns-in-None-clause-stepped
returns-in-None-clause-stepped g c =
    let v = c.args.self.now in
    let e = c.step_input.new.event in
    let fit = c.requires.ends_fit in
    record {
      body = option_map (λ x. x.1) c.step_input.new.got;
      happened = c.step_input.ensures.did;
      kept = λ passed h. moved v.ends c.step_input.new.ends c.step_input.ensures.same v.work (with_deed passed (deed_of e c.step_input.new.got))
          (still v.ends.input.queue.0 v.ends.output.queue.0 (from_queues v.ends) (to_queues v.ends) v.work v.work passed _ _ _ h
          (λ n. c.step_input.ensures.takes n ∙ (ap (λ (o : Option Cargo). if_there (v.ends.input.queue.0 == n) (option_to_list o)) c.in-None.is ∙ none_if (v.ends.input.queue.0 == n))) c.step_input.ensures.puts
          (order_still (from_queues v.ends) passed.calls e (beside_takes_none (from_queues v.ends) e (λ k q at same. fit.inputs_apart k q at (ap (λ (r : QueueId). r.0) (sym c.step_input.ensures.on) ∙ sym same)))));
    }

pub returns-in-Some-clause-stepped : goal.returns-in-Some-clause-stepped
returns-in-Some-clause-stepped g c =
    let v = c.args.self.now in
    let e = c.step_input.new.event in
    let fit = c.requires.ends_fit in
    let free = is_free v.work.stray c.is_none-free.result c.is_none-free.ensures (c.step_input.ensures.needed (ap (λ (o : Option Cargo). is_some o) c.in-Some.is)) in
    record {
      body = option_map (λ x. x.1) c.step_input.new.got;
      happened = c.step_input.ensures.did;
      kept = λ passed h. moved v.ends c.step_input.new.ends c.step_input.ensures.same c.respond.new.self (with_deed passed (deed_of e c.step_input.new.got))
          (response_in v.ends.input.queue.0 v.ends.output.queue.0 (from_queues v.ends) (to_queues v.ends) v.work c.respond.new.self passed _ _ _ h free c.respond.ensures.work c.in-Some.entry fit.inputs_apart c.requires.from_each
          (λ n. c.step_input.ensures.takes n ∙ ap (λ (o : Option Cargo). if_there (v.ends.input.queue.0 == n) (option_to_list o)) c.in-Some.is) c.step_input.ensures.puts
          (order_still (from_queues v.ends) passed.calls e (beside_takes_none (from_queues v.ends) e (λ k q at same. fit.inputs_apart k q at (ap (λ (r : QueueId). r.0) (sym c.step_input.ensures.on) ∙ sym same))))
          c.respond.ensures.same c.respond.ensures.answered);
    }
