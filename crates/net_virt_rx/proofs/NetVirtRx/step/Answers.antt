use Rattle.std.proofs.Common.{sym, subst, refl}
use Rattle.wire_core.specs.Ends.{role_of}
use Rattle.buffer_kit.specs.Virtualising.{from_queues, to_queues}
use Rattle.net_virt_rx.specs.declared.NetVirtRx.{NetVirtRx}
use Rattle.net_virt_rx.specs.declared.sharer.Sharer.{Sharer}
use Rattle.net_virt_rx.specs.Sharing.{IsSharer}
use Rattle.net_virt_rx.specs.Receiving.{RxStands, RxStandsFor, RxEnd}
use Rattle.net_virt_rx.proofs.Steps.{ready_stands}
use Rattle.net_virt_rx.proofs.Rounds.{rx_turned}
use Rattle.net_virt_rx.proofs.NetVirtRx.step.Goals as goal

pub returns-clause-own : goal.returns-clause-own
returns-clause-own g c = subst (λ (v : NetVirtRx). RxEnd v (role_of c.step_at.result.op) c.step_at.result.queue.0) c.choose-at.ensures.after c.step_at.ensures.own

pub returns-clause-stepped : goal.returns-clause-stepped
returns-clause-stepped g c =
    let s = c.step_at.ensures.stepped in
    record {
      body = s.body;
      happened = s.happened;
      kept = λ passed h. s.kept passed (subst (λ (v : NetVirtRx). RxStandsFor v passed) (sym c.choose-at.ensures.after)
          (subst (λ (w : Sharer). RxStands c.args.self.now.ends.input.queue.0 c.args.self.now.ends.output.queue.0 (from_queues c.args.self.now.ends) (to_queues c.args.self.now.ends) w passed) (sym c.in_ok-prepare.ensures.others)
          (ready_stands c.args.self.now.work c.prepare.new.self.ready _ _ _ _ passed (subst IsSharer c.in_ok-prepare.ensures.others c.in_ok-prepare.ensures.work) h)));
    }

pub returns-clause-turned : goal.returns-clause-turned
returns-clause-turned g c = rx_turned c.args.self.now (record { ends = c.args.self.now.ends; work = c.prepare.new.self }) c.choose-at.new.self c.step_at.new.self c.step_at.result c.choose-at.result c.prepare.new.self.ready refl c.in_ok-prepare.ensures.others c.choose-at.ensures.place c.choose-at.ensures.there c.choose-at.ensures.after c.step_at.ensures.posted c.step_at.ensures.same c.step_at.ensures.turn c.step_at.ensures.still
