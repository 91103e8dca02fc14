use Rattle.std.proofs.Common.{◌==◌, sym, ap, ◌∙◌}
use Rattle.std.specs.Option.{option_map, option_to_list}
use Rattle.wire_core.specs.Lists.{if_there}
use Rattle.i2c_virt.proofs.Serving.{request_came, serving}
use Rattle.i2c_virt.proofs.bus_device.BusDevice.step_input.Goals as goal

pub returns-in-Some-clause-stepped : goal.returns-in-Some-clause-stepped
returns-in-Some-clause-stepped g c =
    let b = c.args.self.now in
    let w = serving b c.pull.new.got c.is_serving-need.result c.is_serving-need.ensures c.pull.ensures.needed c.in-Some.entry c.in-Some.is in
    record {
      body = option_map (λ x. x.1) c.pull.new.got;
      happened = c.pull.ensures.did;
      kept = λ passed h. request_came b c.accept.new.self c.pull.new.input c.in-Some.entry passed _ _ _ c.pull.ensures.queue c.accept.ensures.input c.accept.ensures.output c.accept.ensures.addresses w.0 w.1
          (λ n. c.pull.ensures.takes n ∙ ap (λ o. if_there (b.input.queue.0 == n) (option_to_list o)) c.in-Some.is) c.pull.ensures.puts h c.accept.ensures.accepted;
    }
