-- The ends of actors as posts, on which turns are defined.
use Rattle.std.specs.Prelude.{false}
use Rattle.wire_core.specs.declared.names.Side.TheVariants.{Forward, Backward}
use Rattle.turn_kit.specs.declared.ends.Intake.{Intake}
use Rattle.turn_kit.specs.declared.ends.Outlet.{Outlet}
use Rattle.turn_kit.specs.Turns.{Post}

-- a consuming end as its actor keeps it: it waits forward, and drops nothing
abbrev pub intake_post : Intake → Post
intake_post i = record { queue = i.queue.0; side = Forward; drops = false; state = i.state }

-- a producing end as its actor keeps it: it waits backward, and drops nothing
abbrev pub outlet_post : Outlet → Post
outlet_post o = record { queue = o.queue.0; side = Backward; drops = false; state = o.state }
