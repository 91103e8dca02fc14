use Rattle.wire_core.specs.Deeds.{deed_of, put_of}
use Rattle.turn_kit.specs.Pipes.{arrival}
use Rattle.pipe_driver.proofs.Moved.{first_fits_in, first_fits_out, rest_fits, first_steps_in, first_steps_out, rest_steps}
use Rattle.pipe_driver.proofs.pipes.PipesPipeList.step.Goals as goal

pub returns-then-place-eq0-clause-fits : goal.returns-then-place-eq0-clause-fits
returns-then-place-eq0-clause-fits g c = first_fits_in _ _ c.step_input.new.event c.step_input.ensures.moves c.args.self.now.first c.step_input.new.self (g.R.PipeList.list c.args.self.now.rest) c.requires.fits c.step_input.ensures.fits c.step_input.ensures.role c.step_input.ensures.on c.step_input.ensures.input c.step_input.ensures.output

pub returns-then-place-eq0-clause-stepped : goal.returns-then-place-eq0-clause-stepped
returns-then-place-eq0-clause-stepped g c = first_steps_in g.W.Wires.did c.args.wires.now c.step_input.new.wires (deed_of c.step_input.new.event (arrival c.args.self.now.first.load c.step_input.new.self.load)) c.step_input.ensures.did _ c.args.self.now.first c.step_input.new.self (g.R.PipeList.list c.args.self.now.rest) c.requires.fits c.step_input.ensures.role c.step_input.ensures.on c.step_input.ensures.kept

pub returns-then-place-eq1-clause-fits : goal.returns-then-place-eq1-clause-fits
returns-then-place-eq1-clause-fits g c = first_fits_out _ _ c.step_output.new.event c.step_output.ensures.moves c.args.self.now.first c.step_output.new.self (g.R.PipeList.list c.args.self.now.rest) c.requires.fits c.step_output.ensures.fits c.step_output.ensures.role c.step_output.ensures.on c.step_output.ensures.input c.step_output.ensures.output

pub returns-then-place-eq1-clause-stepped : goal.returns-then-place-eq1-clause-stepped
returns-then-place-eq1-clause-stepped g c = first_steps_out g.W.Wires.did c.args.wires.now c.step_output.new.wires (deed_of c.step_output.new.event (put_of c.step_output.new.event c.args.self.now.first.load)) c.step_output.ensures.did _ c.args.self.now.first c.step_output.new.self (g.R.PipeList.list c.args.self.now.rest) c.requires.fits c.step_output.ensures.role c.step_output.ensures.on c.step_output.ensures.kept

pub returns-clause-fits : goal.returns-clause-fits
returns-clause-fits g c = rest_fits _ _ c.step.new.event c.step.ensures.moves c.args.self.now.first (g.R.PipeList.list c.args.self.now.rest) (g.R.PipeList.list c.step.new.self) c.requires.fits c.step.ensures.fits c.step.ensures.own c.step.ensures.inputs c.step.ensures.outputs

pub returns-clause-stepped : goal.returns-clause-stepped
returns-clause-stepped g c = rest_steps g.W.Wires.did c.args.wires.now c.step.new.wires c.step.new.event _ c.args.self.now.first (g.R.PipeList.list c.args.self.now.rest) (g.R.PipeList.list c.step.new.self) c.requires.fits c.step.ensures.own c.step.ensures.stepped
