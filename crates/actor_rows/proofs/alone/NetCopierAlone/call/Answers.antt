use Rattle.std.proofs.Common.{ap, ◌∙◌}
use Rattle.wire_core.specs.declared.names.QueueId.{QueueId}
use Rattle.wire_core.specs.Ends.{Producer}
use Rattle.actor_rows.proofs.Sizing.{after_call, kinds_call}
use Rattle.actor_rows.proofs.alone.NetCopierAlone.call.Goals as goal

pub returns : goal.returns
returns c =
    let same = c.step.ensures.same in
    record {
      fits = c.step.ensures.fits;
      long = after_call _ _ _ c.args.self.now c.step.new.self c.step.result c.step.ensures.stepped c.requires.long;
      hands = λ n input. kinds_call _ _ _ c.args.self.now c.step.new.self c.step.result c.step.ensures.stepped Producer n ∙ c.requires.hands n input;
      leases = ap (λ (q : QueueId). q.0) same.lease_input ∙ c.requires.leases;
      leases_back = ap (λ (q : QueueId). q.0) same.lease_output ∙ c.requires.leases_back;
      buffers = ap (λ (q : QueueId). q.0) same.buffer_input ∙ c.requires.buffers;
      filled = ap (λ (q : QueueId). q.0) same.buffer_output ∙ c.requires.filled;
    }
