-- How many clients classes may have, so that each has a number, and the elements behind references.
use Rattle.std.specs.Prelude.{ℕ, ◌^◌, ◌<◌, length, IfSome}
use denote.Ref.{Bor}
use Rattle.sdf_plan.specs.declared.plan.Plan.{Plan}
use Rattle.sdf_plan.specs.declared.plan.Net.{Net}
use Rattle.sdf_plan.specs.declared.plan.Serial.{Serial}
use Rattle.sdf_plan.specs.declared.plan.Blk.{Blk}
use Rattle.sdf_plan.specs.declared.class_table.uses.ClassElement.{ClassElement}
use Rattle.sdf_plan.specs.ClassTable.Shown.{Shelved, element_shown}
use Rattle.sdf_plan.specs.ClassTable.Table.{Element}

-- each class has fewer than 2^32 clients, so that the number of each takes 32 bits
pub record AreNumbered (plan : Plan) : Type 0 where
  pub net : IfSome plan.net (λ (x : Net). length x.client < 2 ^ 32)
  pub serial : IfSome plan.serial (λ (x : Serial). length x.client < 2 ^ 32)
  pub blk : IfSome plan.blk (λ (x : Blk). length x.client < 2 ^ 32)

-- what an element behind a reference shows
abbrev pub seen : Bor (ClassElement Shelved) → Element
seen e = element_shown e.now
