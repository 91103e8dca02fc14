-- Four pipes as a list.
use Rattle.std.specs.Prelude.{List, [], ◌∷◌}
use Rattle.turn_kit.specs.declared.pipe.Pipe.{Pipe}
use Rattle.pipe_driver.specs.declared.pipes.Pipes.{Pipes}

-- four pipes, whose number their type tells, in their order
abbrev pub four_pipes : Pipes (Pipes (Pipes Pipe)) → List Pipe
four_pipes ps = ps.first ∷ ps.rest.first ∷ ps.rest.rest.first ∷ ps.rest.rest.rest ∷ []
