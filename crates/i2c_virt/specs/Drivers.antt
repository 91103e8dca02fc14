-- The driver of the bus: two pipes.
use Rattle.std.specs.Prelude.{List}
use Rattle.wire_core.specs.Lists.{Passed}
use Rattle.turn_kit.specs.Turns.{Round}
use Rattle.turn_kit.specs.declared.pipe.Pipe.{Pipe}
use Rattle.pipe_driver.specs.Drivers.{PipesStandFor, PipesRow, pipes_round}
use Rattle.pipe_driver.specs.Lengths.{two_pipes}
use Rattle.i2c_virt.specs.declared.driver.BusDriver.{BusDriver}

-- its pipes: that of the requests, and that of the answers
abbrev pub pipes_of : BusDriver → List Pipe
pipes_of d = two_pipes d.driver.pipes

-- its ends, each pipe's input before its output
abbrev pub driver_round : BusDriver → Round
driver_round d = pipes_round (pipes_of d) d.driver.turn.last

-- what came in at each pipe is what went out there, and what is loaded
abbrev pub DriverStandsFor : BusDriver → Passed → Type 0
DriverStandsFor d passed = PipesStandFor (pipes_of d) passed

-- each output copies its input
abbrev pub DriverRow : BusDriver → Passed → Type 0
DriverRow d passed = PipesRow (pipes_of d) passed
