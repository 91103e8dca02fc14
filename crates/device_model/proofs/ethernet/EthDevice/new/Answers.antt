use Rattle.std.proofs.Common.{arith, refl, sym}
use Rattle.buffer_kit.proofs.Filling.{no_entries}
use Rattle.device_model.proofs.ethernet.EthDevice.new.Goals as goal

pub returns-clause-stands : goal.returns-clause-stands
returns-clause-stands c = record {
  filled = sym (no_entries c.args.frames);
  takes = refl;
  next = omega arith;
  sends = record { moved = rw c.new-3.ensures.pipe.load refl; recorded = c.new-3.ensures.tape };
  tells = λ on. record { used = refl; each = refl };
}
