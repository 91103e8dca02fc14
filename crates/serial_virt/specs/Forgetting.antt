-- Ends without their last look.
use Rattle.std.specs.Prelude.{None}
use Rattle.turn_kit.specs.declared.ends.Intake.{Intake}
use Rattle.turn_kit.specs.declared.ends.Outlet.{Outlet}

-- a consuming end without its last look
abbrev pub intake_forgotten : Intake → Intake
intake_forgotten i = record i { state = record i.state { look = None } }

-- a producing end without its last look
abbrev pub outlet_forgotten : Outlet → Outlet
outlet_forgotten o = record o { state = record o.state { look = None } }
