use Rattle.std.proofs.Common.{sym, subst}
use Rattle.wire_core.specs.Ends.{role_of}
use Rattle.blk_virt.specs.declared.virtualiser.BlkVirt.{BlkVirt}
use Rattle.blk_virt.specs.Virtualising.{BlkVirtStandsFor, BlkVirtEnd}
use Rattle.blk_virt.proofs.Turning.{virt_turned}
use Rattle.blk_virt.proofs.virtualiser.BlkVirt.step.Goals as goal

pub returns-clause-stepped : goal.returns-clause-stepped
returns-clause-stepped g c =
    let s = c.step_at.ensures.stepped in
    record {
      body = s.body;
      happened = s.happened;
      kept = λ passed h. s.kept passed (subst (λ (v : BlkVirt). BlkVirtStandsFor v passed) (sym c.choose-at.ensures.after) h);
    }

pub returns-clause-turned : goal.returns-clause-turned
returns-clause-turned g c = virt_turned c.args.self.now c.choose-at.new.self c.step_at.new.self c.step_at.result c.choose-at.result c.choose-at.ensures.place c.choose-at.ensures.there c.choose-at.ensures.after c.step_at.ensures.posted c.step_at.ensures.same c.step_at.ensures.turn c.step_at.ensures.still

pub returns-clause-own : goal.returns-clause-own
returns-clause-own g c = subst (λ (v : BlkVirt). BlkVirtEnd v (role_of c.step_at.result.op) c.step_at.result.queue.0) c.choose-at.ensures.after c.step_at.ensures.own
