use Rattle.std.proofs.Common.{◌-◌, arith, refl, sym, subst}
use Rattle.serial_virt.specs.Receiving.{RxStandsFor}
use Rattle.serial_virt.proofs.Rounds.{rx_turned, rx_input_turned}
use Rattle.serial_virt.proofs.rx.SerialVirtRx.step.Goals as goal

pub returns-then-place-eq0-clause-turned : goal.returns-then-place-eq0-clause-turned
returns-then-place-eq0-clause-turned g c = rx_input_turned c.args.self.now c.choose-place.new.self c.step_input.new.self _ c.step_input.new.event c.choose-place.result c.choose-place.ensures.after c.choose-place.ensures.place c.if-place-eq0.true c.step_input.ensures.posted c.step_input.ensures.outputs c.step_input.ensures.policies c.step_input.ensures.still c.step_input.ensures.to c.step_input.ensures.turn refl

pub returns-else-place-eq0-clause-turned : goal.returns-else-place-eq0-clause-turned
returns-else-place-eq0-clause-turned g c = rx_turned c.args.self.now c.choose-place.new.self c.step_output.new.self _ c.step_output.new.event c.choose-place.result (c.choose-place.result - 1) c.choose-place.ensures.after c.choose-place.ensures.place (omega arith) (omega (arith, c.choose-place.ensures.within)) c.step_output.ensures.posted c.step_output.ensures.input c.step_output.ensures.still c.step_output.ensures.to c.step_output.ensures.queues c.step_output.ensures.turn refl

pub returns-then-place-eq0-clause-stepped : goal.returns-then-place-eq0-clause-stepped
returns-then-place-eq0-clause-stepped g c =
    let s = c.step_input.ensures.stepped in
    record {
      body = s.body;
      happened = s.happened;
      kept = λ passed h. s.kept passed (subst (λ v. RxStandsFor v passed) (sym c.choose-place.ensures.after) (record { switched = h.switched; to = h.to; told = h.told; clients = h.clients }));
    }

pub returns-else-place-eq0-clause-stepped : goal.returns-else-place-eq0-clause-stepped
returns-else-place-eq0-clause-stepped g c =
    let s = c.step_output.ensures.stepped in
    record {
      body = s.body;
      happened = s.happened;
      kept = λ passed h. s.kept passed (subst (λ v. RxStandsFor v passed) (sym c.choose-place.ensures.after) (record { switched = h.switched; to = h.to; told = h.told; clients = h.clients }));
    }
