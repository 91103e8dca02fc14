-- The lowest end that was found of a sort.
use Rattle.std.specs.Prelude.{Option, Some, None, cond, nat_lt}
use Rattle.turn_kit.specs.declared.turns.Lowest.{Lowest}
use Rattle.turn_kit.specs.declared.turns.Stand.{Stand}

-- the end, if any was found: a queue has a number below 65,536
abbrev pub found : Lowest → Option Stand
found l = cond (nat_lt l.queue 65536) (Some (record { queue = l.queue; place = l.place })) None
