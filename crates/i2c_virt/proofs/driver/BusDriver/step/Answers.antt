use Rattle.std.proofs.Common.{ap}
use Rattle.pipe_driver.proofs.Rounds.{pipes_turned}
use Rattle.pipe_driver.specs.Lengths.{two_pipes}
use Rattle.i2c_virt.specs.Drivers.{pipes_of}
use Rattle.i2c_virt.proofs.driver.BusDriver.step.Goals as goal

pub returns-clause-turned : goal.returns-clause-turned
returns-clause-turned g c = pipes_turned (pipes_of c.args.self.now) (two_pipes c.step_two.new.pipes) c.args.self.now.driver.turn.last c.choose-place.new.self.driver.turn.last c.choose-place.result c.step_two.new.event c.choose-place.ensures.place c.choose-place.ensures.last (pipes_of c.choose-place.new.self) (ap two_pipes c.choose-place.ensures.pipes) c.step_two.ensures.posted c.step_two.ensures.still
