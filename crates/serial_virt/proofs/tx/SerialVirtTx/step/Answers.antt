use Rattle.std.proofs.Common.{◌-◌, arith, refl}
use Rattle.serial_virt.proofs.Rounds.{tx_turned, tx_output_turned}
use Rattle.serial_virt.proofs.tx.SerialVirtTx.step.Goals as goal

pub returns-else-place-eq0-clause-turned : goal.returns-else-place-eq0-clause-turned
returns-else-place-eq0-clause-turned g c = tx_turned c.args.self.now c.choose-place.new.self c.step_input.new.self _ c.step_input.result c.choose-place.result (c.choose-place.result - 1) c.choose-place.ensures.after c.choose-place.ensures.place (omega arith) (omega (arith, c.choose-place.ensures.within)) c.step_input.ensures.posted c.step_input.ensures.output c.step_input.ensures.still c.step_input.ensures.queues c.step_input.ensures.turn refl

pub returns-then-place-eq0-clause-turned : goal.returns-then-place-eq0-clause-turned
returns-then-place-eq0-clause-turned g c = tx_output_turned c.args.self.now c.choose-place.new.self c.step_output.new.self _ c.step_output.result c.choose-place.result c.choose-place.ensures.after c.choose-place.ensures.place c.if-place-eq0.true c.step_output.ensures.posted c.step_output.ensures.inputs c.step_output.ensures.still c.step_output.ensures.turn refl
