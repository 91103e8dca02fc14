use Rattle.std.proofs.Common.{refl}
use Rattle.buffer_kit.proofs.Forgets.{intakes_stay, outlets_stay, intakes_agree, outlets_agree, still_agrees}
use Rattle.buffer_kit.proofs.virt_ends.VirtEnds.forget.Goals as goal

pub returns-clause-same : goal.returns-clause-same
returns-clause-same c = record {
  input = rw c.forget.ensures refl;
  output = rw c.forget-2.ensures refl;
  from_clients = intakes_stay c.args.self.now.from_clients.ends.items c.forget_inputs.new.inputs.ends.items c.forget_inputs.ensures;
  to_clients = outlets_stay c.args.self.now.to_clients.ends.items c.forget_outputs.new.outputs.ends.items c.forget_outputs.ensures;
}

pub returns-clause-fits : goal.returns-clause-fits
returns-clause-fits c = λ kinds ends h.
    let from = intakes_stay c.args.self.now.from_clients.ends.items c.forget_inputs.new.inputs.ends.items c.forget_inputs.ensures in
    let to = outlets_stay c.args.self.now.to_clients.ends.items c.forget_outputs.new.outputs.ends.items c.forget_outputs.ensures in
    record {
      input = rw c.forget.ensures (still_agrees _ c.args.self.now.input.state h.input);
      output = rw c.forget-2.ensures (still_agrees _ c.args.self.now.output.state h.output);
      from_clients = record {
        agrees = intakes_agree ends c.args.self.now.from_clients.ends.items c.forget_inputs.new.inputs.ends.items c.forget_inputs.ensures h.from_clients.agrees;
        apart = rw from h.from_clients.apart;
      };
      to_clients = record {
        agrees = outlets_agree ends c.args.self.now.to_clients.ends.items c.forget_outputs.new.outputs.ends.items c.forget_outputs.ensures h.to_clients.agrees;
        apart = rw to h.to_clients.apart;
      };
      comes = rw c.forget.ensures h.comes;
      goes = rw c.forget-2.ensures h.goes;
      come_from = rw from h.come_from;
      go_to = rw to h.go_to;
      inputs_apart = rw (c.forget.ensures, from) h.inputs_apart;
      outputs_apart = rw (c.forget-2.ensures, to) h.outputs_apart;
      few_from = rw from h.few_from;
      few_to = rw to h.few_to;
    }
