-- What the rows of the program show, whose texts stand behind references: the rows of the table.
use Rattle.std.specs.Prelude.{◌≡◌, ℕ, List, [], map}
use Rattle.std.specs.Option.{option_map, option_map_or}
use Rattle.sdf_plan.specs.declared.plan.Plan.{Plan}
use denote.Ref.{Bor}
use Rattle.sdf_plan.specs.declared.class_table.uses.UseName.{UseName}
use Rattle.sdf_plan.specs.declared.class_table.uses.Link.{Link}
use Rattle.sdf_plan.specs.declared.class_table.uses.Ends.{Ends}
use Rattle.sdf_plan.specs.declared.class_table.uses.Ends.TheVariants as Way
use Rattle.sdf_plan.specs.declared.class_table.uses.RoleUse.{RoleUse}
use Rattle.sdf_plan.specs.declared.class_table.uses.QueueUse.{QueueUse}
use Rattle.sdf_plan.specs.declared.class_table.uses.Grant.{Grant}
use Rattle.sdf_plan.specs.declared.class_table.uses.PoolUse.{PoolUse}
use Rattle.sdf_plan.specs.declared.class_table.uses.ClassElement.{ClassElement}
use Rattle.sdf_plan.specs.declared.class_table.classes.Classes.{Classes}
use Rattle.sdf_plan.specs.ClassTable.Rows.{Name}
use Rattle.sdf_plan.specs.ClassTable.Table.{Element, net_elements, serial_elements, blk_elements}

-- a text behind a reference
abbrev pub Shelved : Type 0
Shelved = Bor (List ℕ)

-- the text that stands behind a reference
abbrev pub name_shown : Shelved → Name
name_shown text = text.now

-- a name of the program, as a name of the table
abbrev pub use_name_shown : UseName Shelved → UseName Name
use_name_shown n = record { first = n.first.now; client = n.client; rest = n.rest.now }

-- a role of the program, as one of the table
abbrev pub role_shown : RoleUse Shelved → RoleUse Name
role_shown r = record { domain = r.domain.now; role = r.role }

-- a link of the program, as one of the table
abbrev pub link_shown : Link Shelved → Link Name
link_shown l = record { region = l.region.now; from = l.from.now; to = l.to.now }

-- the ends of a queue of the program, as those of the table
abbrev pub ends_shown : Ends Shelved → Ends Name
ends_shown (Way.FromDevice driver) = Way.FromDevice driver.now
ends_shown (Way.ToDevice driver) = Way.ToDevice driver.now
ends_shown (Way.Across link) = Way.Across (link_shown link)

-- a queue of the program, as a row of the table
abbrev pub queue_shown : QueueUse Shelved → QueueUse Name
queue_shown q = record {
  name = use_name_shown q.name;
  kind = q.kind;
  ends = ends_shown q.ends;
  behind = q.behind;
  capacity = q.capacity;
  holds = q.holds;
}

-- which domain must map, as the table says it
abbrev pub grant_shown : Grant Shelved → Grant Name
grant_shown g = record { domain = g.domain.now; writes = g.writes }

-- a pool of the program, as a row of the table
abbrev pub pool_shown : PoolUse Shelved → PoolUse Name
pool_shown p = record {
  name = use_name_shown p.name;
  region = p.region.now;
  must = map grant_shown p.must;
  may = map name_shown p.may;
  buffers = p.buffers;
  size = p.size;
}

-- an element of the program, as one of the table
abbrev pub element_shown : ClassElement Shelved → Element
element_shown e = record {
  place = e.place;
  roles = map role_shown e.roles;
  driver = option_map name_shown e.driver;
  queues = map queue_shown e.queues;
  pools = map pool_shown e.pools;
}

-- the elements of the classes are those of the table of a plan
pub record AreClasses (classes : Classes) (plan : Plan) : Type 0 where
  pub net : map element_shown classes.net ≡ option_map_or net_elements plan.net []
  pub serial : map element_shown classes.serial ≡ option_map_or serial_elements plan.serial []
  pub blk : map element_shown classes.blk ≡ option_map_or blk_elements plan.blk []
