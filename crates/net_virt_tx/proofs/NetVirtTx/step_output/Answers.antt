use Rattle.std.specs.Option.{option_map, option_to_list}
use Rattle.std.proofs.Common.{None, ◌∙◌}
use Rattle.wire_core.specs.Deeds.{put_of, deed_of}
use Rattle.wire_core.specs.Lists.{with_deed}
use Rattle.buffer_kit.specs.Virtualising.{from_queues, to_queues}
use Rattle.net_virt_tx.specs.Traffics.{leaving_at}
use Rattle.net_virt_tx.proofs.Steps.{still, moved, descriptor_out, puts_none, fits_on, one_keeps}
use Rattle.net_virt_tx.proofs.NetVirtTx.step_output.Goals as goal

pub returns-in-None-clause-stepped : goal.returns-in-None-clause-stepped
returns-in-None-clause-stepped g c = record {
  body = option_map (λ x. x.1) (put_of c.step_output.result None);
  happened = c.step_output.ensures.did;
  kept = λ passed h. still c.args.self.now.ends c.step_output.new.self c.step_output.ensures.same c.args.self.now.work passed _ _ _ c.step_output.ensures.takes (λ n. c.step_output.ensures.puts n ∙ puts_none c.step_output.result c.args.self.now.ends.output.queue.0 n) h;
}

pub returns-in-Some-clause-fits : goal.returns-in-Some-clause-fits
returns-in-Some-clause-fits g c = fits_on (g.W.Wires.ends c.args.wires.now) _ c.args.self.now c.send.new.ends c.send.new.self c.requires c.send.ensures.fits c.send.ensures.same (one_keeps c.args.self.now.work c.send.new.self c.requires.work _ _ _ _ _ c.send.ensures.moved)

pub returns-in-Some-clause-same : goal.returns-in-Some-clause-same
returns-in-Some-clause-same g c = record {
  ends = c.send.ensures.same;
  work = (one_keeps c.args.self.now.work c.send.new.self c.requires.work _ _ _ _ _ c.send.ensures.moved).1;
}

pub returns-in-Some-clause-stepped : goal.returns-in-Some-clause-stepped
returns-in-Some-clause-stepped g c =
    let p = put_of c.send.result (leaving_at c.args.self.now.work c.in-Some.place) in
    record {
      body = option_map (λ x. x.1) p;
      happened = c.send.ensures.did;
      kept = λ passed h. moved c.args.self.now.ends c.send.new.ends c.send.ensures.same c.send.new.self (with_deed passed (deed_of c.send.result p))
          (descriptor_out c.args.self.now.ends.input.queue.0 c.args.self.now.ends.output.queue.0 (from_queues c.args.self.now.ends) (to_queues c.args.self.now.ends) c.args.self.now.work c.send.new.self c.in-Some.place passed _ _ _ c.requires.from_each c.requires.to_each c.in-Some.ensures.1 h (option_to_list p) c.send.ensures.moved
          c.requires.ends_fit.outputs_apart c.send.ensures.takes c.send.ensures.puts);
    }
