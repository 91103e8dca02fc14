use Rattle.std.proofs.Common.{ap}
use Rattle.pipe_driver.proofs.Rounds.{pipes_turned}
use Rattle.pipe_driver.proofs.driver.PipeDriver.step.Goals as goal

pub returns-clause-turned : goal.returns-clause-turned
returns-clause-turned g c = pipes_turned (g.P.PipeList.list c.args.self.now.pipes) (g.P.PipeList.list c.step.new.self) c.args.self.now.turn.last c.choose-place.new.self.turn.last c.choose-place.result c.step.new.event c.choose-place.ensures.place c.choose-place.ensures.last (g.P.PipeList.list c.choose-place.new.self.pipes) (ap g.P.PipeList.list c.choose-place.ensures.pipes) c.step.ensures.posted c.step.ensures.still
