use Rattle.std.proofs.Common.{◌∙◌, sym}
use Rattle.std.specs.Option.{option_map}
use Rattle.turn_kit.specs.ManyEnds.{intake_queues}
use Rattle.serial_virt.proofs.Merging.{merge_on, no_load, loaded_now, loaded_still}
use Rattle.serial_virt.proofs.tx.SerialVirtTx.step_input.Goals as goal

pub returns-then-is_some-clause-stepped : goal.returns-then-is_some-clause-stepped
returns-then-is_some-clause-stepped g c = record {
  body = option_map (λ x. x.1) c.step-taken.result.1;
  happened = c.step-taken.ensures.did;
  kept = λ passed h. merge_on (intake_queues c.args.self.now.inputs) _ passed.taken _ c.args.k c.step-taken.result.0.queue c.step-taken.result.1 c.step-taken.ensures.queues c.step-taken.ensures.on c.requires.fits.inputs.apart c.step-taken.ensures.takes _ _
      (loaded_now _ _ c.args.self.now.load c.step-taken.result.1 (c.step-taken.ensures.puts c.args.self.now.output.queue.0) (no_load c.args.self.now.load c.step-taken.result.1 c.is_none-need.result c.is_none-need.ensures c.step-taken.ensures.needed (sym c.is_some.ensures ∙ c.if-is_some.true))) h;
}

pub returns-else-is_some-clause-stepped : goal.returns-else-is_some-clause-stepped
returns-else-is_some-clause-stepped g c = record {
  body = option_map (λ x. x.1) c.step-taken.result.1;
  happened = c.step-taken.ensures.did;
  kept = λ passed h. merge_on (intake_queues c.args.self.now.inputs) _ passed.taken _ c.args.k c.step-taken.result.0.queue c.step-taken.result.1 c.step-taken.ensures.queues c.step-taken.ensures.on c.requires.fits.inputs.apart c.step-taken.ensures.takes _ _
      (loaded_still _ _ c.args.self.now.load c.step-taken.result.1 (c.step-taken.ensures.puts c.args.self.now.output.queue.0) (sym c.is_some.ensures ∙ c.if-is_some.false)) h;
}
