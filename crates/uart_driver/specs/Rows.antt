-- A driver of two pipes as the logic holds it, for the clause on what `deref_mut` lends.
use Rattle.std.specs.Borrow.{RattleType}
use Rattle.turn_kit.specs.contracts.pipe.Pipe as pipe
use Rattle.pipe_driver.specs.contracts.pipes.Pipes as pipes
use Rattle.pipe_driver.specs.contracts.driver.PipeDriver as driver

-- a driver of two pipes, as the logic holds it
abbrev pub two_pipes_row : RattleType
two_pipes_row = driver.the_row (pipes.the_row pipe.the_row)
