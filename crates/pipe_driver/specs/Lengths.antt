-- Lists of pipes of a length that their type tells.
use Rattle.std.specs.Prelude.{List, [], ◌∷◌}
use Rattle.turn_kit.specs.declared.pipe.Pipe.{Pipe}
use Rattle.pipe_driver.specs.declared.pipes.Pipes.{Pipes}

-- two pipes as a list
abbrev pub two_pipes : Pipes Pipe → List Pipe
two_pipes ps = ps.first ∷ ps.rest ∷ []
