use Rattle.std.specs.Option.{option_map}
use Rattle.wire_core.specs.Deeds.{put_of}
use Rattle.device_model.proofs.EthernetLemmas.Standing.{buffer_went}
use Rattle.device_model.proofs.ethernet.EthDevice.step_active.Goals as goal

pub returns-clause-stepped : goal.returns-clause-stepped
returns-clause-stepped g c = record {
  body = option_map (λ x. x.1) (put_of c.step.result c.args.self.now.load);
  happened = c.step.ensures.did;
  kept = λ passed h. buffer_went c.args.self.now passed _ _ c.step.result h c.step.new.self (put_of c.step.result c.args.self.now.load) c.step.new.load c.step.ensures.queue c.step.ensures.role c.step.ensures.load c.requires.outputs_apart c.step.ensures.takes c.step.ensures.puts;
}
