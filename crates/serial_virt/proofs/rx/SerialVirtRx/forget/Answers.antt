use Rattle.std.proofs.Common.{refl}
use Rattle.serial_virt.proofs.Forgets.{outlets_stay, outlets_agree, still_agrees}
use Rattle.serial_virt.proofs.rx.SerialVirtRx.forget.Goals as goal

pub returns-clause-queues : goal.returns-clause-queues
returns-clause-queues c = rw (c.forget.ensures, outlets_stay c.args.self.now.outputs.ends.items c.forget_outputs.new.outputs.ends.items c.forget_outputs.ensures) refl

pub returns-clause-fits : goal.returns-clause-fits
returns-clause-fits c = λ ends h.
    let stay = outlets_stay c.args.self.now.outputs.ends.items c.forget_outputs.new.outputs.ends.items c.forget_outputs.ensures in
    record {
      input = rw c.forget.ensures (still_agrees _ c.args.self.now.input.state h.input);
      outputs = record {
        agrees = outlets_agree ends c.args.self.now.outputs.ends.items c.forget_outputs.new.outputs.ends.items c.forget_outputs.ensures h.outputs.agrees;
        apart = rw stay h.outputs.apart;
      };
      hears = rw c.forget.ensures h.hears;
      says = rw stay h.says;
      load = h.load;
      policies = rw stay h.policies;
    }

pub returns-clause-lists : goal.returns-clause-lists
returns-clause-lists c = λ passed h.
    let stay = outlets_stay c.args.self.now.outputs.ends.items c.forget_outputs.new.outputs.ends.items c.forget_outputs.ensures in
    record {
      switched = rw (c.forget.ensures, stay) h.switched;
      to = rw stay h.to;
      told = rw c.forget.ensures h.told;
      clients = rw (c.forget.ensures, stay) h.clients;
    }

pub returns-clause-held : goal.returns-clause-held
returns-clause-held c = λ passed h.
    let stay = outlets_stay c.args.self.now.outputs.ends.items c.forget_outputs.new.outputs.ends.items c.forget_outputs.ensures in
    record {
      switched = rw (c.forget.ensures, stay) h.switched;
      to = rw stay h.to;
      given = rw (c.forget.ensures, stay) h.given;
    }
