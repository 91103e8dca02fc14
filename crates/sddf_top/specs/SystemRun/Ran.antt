-- What a run of a plan and a trace on threads shows: all that a caller learns of the system that
-- took over what the threads left.
use Rattle.std.specs.Prelude.{◌⊎◌, ℕ}
use Rattle.sdf_plan.specs.declared.plan.Plan.{Plan}
use Rattle.trace_text.specs.declared.trace.Trace.{Trace}
use Rattle.system_core.specs.Shows.{Shown}
use Rattle.system_core.specs.PlanPlays.{IsPlayedOn}
use Rattle.system_core.specs.Adopting.{AllRest, OneSpent}

-- the system of a plan and a trace went on from what its queues had after the threads, by steps
-- that seed 0 picked; where its journal begins all actors were at rest, or the ends of one had
-- made as many word steps as are allowed
pub record IsRan (plan : Plan) (trace : Trace) (limit : ℕ) (s : Shown) : Type 0 where
  pub played : IsPlayedOn plan trace 0 limit s
  pub first : AllRest s.setting ⊎ OneSpent s.setting limit
