use Rattle.std.proofs.Common.{◌==◌, None, Option, sym, ap, ◌∙◌}
use Rattle.std.specs.Option.{option_map, option_to_list}
use Rattle.wire_core.specs.Deeds.{Cargo, deed_of, put_of}
use Rattle.wire_core.specs.Lists.{if_there, with_deed}
use Rattle.buffer_kit.specs.Virtualising.{from_queues, to_queues}
use Rattle.buffer_kit.proofs.ManyClients.{none_if}
use Rattle.blk_virt.specs.Desks.{held_at}
use Rattle.blk_virt.proofs.Stepping.{still, moved, nothing_put, client_out, free_from}
use Rattle.blk_virt.proofs.virtualiser.BlkVirt.step_answer.Goals as goal

pub returns-clause-stepped : goal.returns-clause-stepped
returns-clause-stepped g c =
    let v = c.args.self.now in
    let free = free_from v.work.stray _ (sym c.gives.ensures ∙ c.if-not-gives.false) in
    let p = put_of c.give.result (held_at v.work.desk c.args.place) in
    record {
      body = option_map (λ x. x.1) p;
      happened = c.give.ensures.did;
      kept = λ passed h. moved v.ends c.give.new.ends c.give.ensures.same c.give.new.self (with_deed passed (deed_of c.give.result p))
          (client_out v.ends.input.queue.0 v.ends.output.queue.0 (from_queues v.ends) (to_queues v.ends) v.work c.give.new.self c.give.ensures.kept c.give.ensures.work passed _ _ _ h (option_to_list p) c.give.ensures.takes free c.give.ensures.stray c.give.ensures.gave.held c.args.place c.give.result.queue c.give.ensures.on c.requires.fits.ends_fit.to_clients.apart (c.requires.fits.ends_fit.outputs_apart c.args.place c.give.result.queue c.give.ensures.on) c.requires.fits.to_each c.give.ensures.puts c.give.ensures.gave.stands);
    }

pub returns-then-not-gives-clause-stepped : goal.returns-then-not-gives-clause-stepped
returns-then-not-gives-clause-stepped g c =
    let v = c.args.self.now in
    record {
      body = option_map (λ x. x.1) (put_of c.step_to_client.result None);
      happened = c.step_to_client.ensures.did;
      kept = λ passed h. moved v.ends c.step_to_client.new.self c.step_to_client.ensures.same v.work (with_deed passed (deed_of c.step_to_client.result (put_of c.step_to_client.result None)))
          (still v.ends.input.queue.0 v.ends.output.queue.0 (from_queues v.ends) (to_queues v.ends) v.work passed _ _ _ c.step_to_client.ensures.takes (λ n. c.step_to_client.ensures.puts n ∙ (ap (λ (o : Option Cargo). if_there (c.step_to_client.result.queue.0 == n) (option_to_list o)) (nothing_put c.step_to_client.result) ∙ none_if (c.step_to_client.result.queue.0 == n))) h);
    }
