use Rattle.std.proofs.Common.{◌≡◌, map, take}
use Rattle.sdf_plan.specs.declared.class_table.uses.RoleUse.{RoleUse}
use Rattle.sdf_plan.specs.ClassTable.Rows.{Name}
use Rattle.sdf_plan.specs.ClassTable.Shown.{role_shown}
use Rattle.sdf_check.specs.Lookups.{names_shown}
use Rattle.sdf_check.proofs.keys.domains.Given as goal

abbrev pub invariant-loop-role : goal.invariant-loop-role
invariant-loop-role l = names_shown l.names.items ≡ map (λ (r : RoleUse Name). r.domain) (map role_shown (take l.role-index l.element.roles))
