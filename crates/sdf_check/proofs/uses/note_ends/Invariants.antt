use Rattle.std.specs.BTreeMap.{get}
use Rattle.sdf_plan.specs.declared.plan.Plan.{Plan}
use Rattle.sdf_plan.specs.Elements.{OfChannel}
use Rattle.sdf_check.specs.Lookups.{FindsPlaces}
use Rattle.sdf_check.specs.Names.{domain_names}
use Rattle.sdf_check.specs.Uses.{use_cmp, UsesUpTo}
use Rattle.std.proofs.Common.{◌≡◌}
use Rattle.sdf_check.proofs.uses.note_ends.Given as goal

abbrev pub invariant-loop-at : goal.invariant-loop-at
invariant-loop-at l =
    (plan : Plan) → FindsPlaces l.fn.domains (domain_names plan) → OfChannel plan l.number (λ other. other ≡ l.fn.channel)
    → UsesUpTo (get use_cmp l.initial.uses) plan l.number 0 → UsesUpTo (get use_cmp l.uses) plan l.number l.at
