use Rattle.std.proofs.Common.{ap, ◌∙◌}
use Rattle.wire_core.specs.declared.names.QueueId.{QueueId}
use Rattle.wire_core.specs.Ends.{Producer}
use Rattle.actor_rows.proofs.Sizing.{after_try, kinds_try}
use Rattle.actor_rows.proofs.alone.EthDeviceAlone.call.Goals as goal

pub returns : goal.returns
returns c =
    let step = c.step-called in
    let same = step.ensures.same in
    record {
      fits = step.ensures.fits;
      long = after_try _ _ _ c.args.self.now step.new.self step.result step.ensures.stepped step.ensures.no_call c.requires.long;
      hands = λ n input. kinds_try _ _ _ c.args.self.now step.new.self step.result step.ensures.stepped step.ensures.no_call Producer n ∙ c.requires.hands n input;
      free = ap (λ (q : QueueId). q.0) same.free ∙ c.requires.free;
      active = ap (λ (q : QueueId). q.0) same.active ∙ c.requires.active;
      input = ap (λ (q : QueueId). q.0) same.tx_active ∙ c.requires.input;
      output = ap (λ (q : QueueId). q.0) same.tx_free ∙ c.requires.output;
    }
