use Rattle.std.proofs.Common.{refl}
use Rattle.serial_virt.proofs.Forgets.{intakes_stay, intakes_agree, still_agrees}
use Rattle.serial_virt.proofs.tx.SerialVirtTx.forget.Goals as goal

pub returns-clause-queues : goal.returns-clause-queues
returns-clause-queues c = rw (c.forget.ensures, intakes_stay c.args.self.now.inputs.ends.items c.forget_inputs.new.inputs.ends.items c.forget_inputs.ensures) refl

pub returns-clause-fits : goal.returns-clause-fits
returns-clause-fits c = λ ends h.
    let stay = intakes_stay c.args.self.now.inputs.ends.items c.forget_inputs.new.inputs.ends.items c.forget_inputs.ensures in
    record {
      inputs = record {
        agrees = intakes_agree ends c.args.self.now.inputs.ends.items c.forget_inputs.new.inputs.ends.items c.forget_inputs.ensures h.inputs.agrees;
        apart = rw stay h.inputs.apart;
      };
      output = rw c.forget.ensures (still_agrees _ c.args.self.now.output.state h.output);
      hears = rw stay h.hears;
      says = rw c.forget.ensures h.says;
      load = h.load;
    }

pub returns-clause-lists : goal.returns-clause-lists
returns-clause-lists c = λ passed h. rw (c.forget.ensures, intakes_stay c.args.self.now.inputs.ends.items c.forget_inputs.new.inputs.ends.items c.forget_inputs.ensures) h
