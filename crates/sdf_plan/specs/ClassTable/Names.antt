-- The domains and the regions that the rows of an element name.
use Rattle.std.specs.Prelude.{List, [], ◌∷◌, ◌++◌, map, Option, Some, None}
use Rattle.std.specs.List.{flat_map}
use Rattle.cargo_core.specs.declared.item.QueueKind.{QueueKind}
use Rattle.sdf_plan.specs.declared.class_table.uses.Link.{Link}
use Rattle.sdf_plan.specs.declared.class_table.uses.Ends.{Ends}
use Rattle.sdf_plan.specs.declared.class_table.uses.Ends.TheVariants as Way
use Rattle.sdf_plan.specs.declared.class_table.uses.RoleUse.{RoleUse}
use Rattle.sdf_plan.specs.declared.class_table.uses.QueueUse.{QueueUse}
use Rattle.sdf_plan.specs.declared.class_table.uses.PoolUse.{PoolUse}
use Rattle.sdf_plan.specs.ClassTable.Rows.{Name}
use Rattle.sdf_plan.specs.ClassTable.Table.{Element}

-- the domains: those to which it gives roles
abbrev pub domains_of : Element → List Name
domains_of e = map (λ (r : RoleUse Name). r.domain) e.roles

-- the region of a queue, where it stands first in one
abbrev pub first_region : Option QueueKind → Ends Name → List Name
first_region None (Way.Across link) = link.region ∷ []
first_region _ _ = []

-- the region of a queue, where it stands first in one
abbrev pub queue_region : QueueUse Name → List Name
queue_region q = first_region q.behind q.ends

-- the region that a pool lies in
abbrev pub pool_region : PoolUse Name → Name
pool_region p = p.region

-- the regions: those of its queues, each once, and then those of its pools
abbrev pub regions_of : Element → List Name
regions_of e = flat_map queue_region e.queues ++ map pool_region e.pools
