use Rattle.std.proofs.Common.{◌==◌, None, Option, sym, ap, ◌∙◌}
use Rattle.std.specs.Option.{option_map, option_to_list}
use Rattle.wire_core.specs.Deeds.{Cargo, deed_of, put_of}
use Rattle.wire_core.specs.Lists.{if_there, with_deed}
use Rattle.buffer_kit.specs.Virtualising.{from_queues, to_queues}
use Rattle.buffer_kit.proofs.ManyClients.{none_if}
use Rattle.blk_virt.specs.Desks.{leaving_with}
use Rattle.blk_virt.proofs.Stepping.{still, moved, nothing_put, driver_out, free_from}
use Rattle.blk_virt.proofs.virtualiser.BlkVirt.step_driver.Goals as goal

pub returns-then-is_reading-clause-stepped : goal.returns-then-is_reading-clause-stepped
returns-then-is_reading-clause-stepped g c =
    let v = c.args.self.now in
    let free = free_from v.work.stray _ (sym c.is_owing.ensures ∙ c.if-not-is_owing.false) in
    let p = put_of c.send_first.result v.work.opening.first in
    record {
      body = option_map (λ x. x.1) p;
      happened = c.send_first.ensures.did;
      kept = λ passed h. moved v.ends c.send_first.new.ends c.send_first.ensures.same c.send_first.new.self (with_deed passed (deed_of c.send_first.result p))
          (driver_out v.ends.input.queue.0 v.ends.output.queue.0 (from_queues v.ends) (to_queues v.ends) v.work c.send_first.new.self c.send_first.ensures.kept c.send_first.ensures.work passed _ _ _ h (option_to_list p) c.send_first.ensures.takes free c.send_first.ensures.stray c.send_first.ensures.sent.held c.requires.ends_fit.outputs_apart c.requires.to_each c.send_first.ensures.puts c.send_first.ensures.sent.stands);
    }

pub returns-clause-stepped : goal.returns-clause-stepped
returns-clause-stepped g c =
    let v = c.args.self.now in
    let free = free_from v.work.stray _ (sym c.is_owing.ensures ∙ c.if-not-is_owing.false) in
    let p = put_of c.send_request.result (leaving_with v.work.number v.work.desk c.in-Some.place) in
    record {
      body = option_map (λ x. x.1) p;
      happened = c.send_request.ensures.did;
      kept = λ passed h. moved v.ends c.send_request.new.ends c.send_request.ensures.same c.send_request.new.self (with_deed passed (deed_of c.send_request.result p))
          (driver_out v.ends.input.queue.0 v.ends.output.queue.0 (from_queues v.ends) (to_queues v.ends) v.work c.send_request.new.self c.send_request.ensures.kept c.send_request.ensures.work passed _ _ _ h (option_to_list p) c.send_request.ensures.takes free c.send_request.ensures.stray c.send_request.ensures.sent.held c.requires.ends_fit.outputs_apart c.requires.to_each c.send_request.ensures.puts c.send_request.ensures.sent.stands);
    }

pub returns-then-not-is_owing-clause-stepped : goal.returns-then-not-is_owing-clause-stepped
returns-then-not-is_owing-clause-stepped g c =
    let v = c.args.self.now in
    record {
      body = option_map (λ x. x.1) (put_of c.step_output.result None);
      happened = c.step_output.ensures.did;
      kept = λ passed h. moved v.ends c.step_output.new.self c.step_output.ensures.same v.work (with_deed passed (deed_of c.step_output.result (put_of c.step_output.result None)))
          (still v.ends.input.queue.0 v.ends.output.queue.0 (from_queues v.ends) (to_queues v.ends) v.work passed _ _ _ c.step_output.ensures.takes (λ n. c.step_output.ensures.puts n ∙ (ap (λ (o : Option Cargo). if_there (v.ends.output.queue.0 == n) (option_to_list o)) (nothing_put c.step_output.result) ∙ none_if (v.ends.output.queue.0 == n))) h);
    }
