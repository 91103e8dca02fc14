-- What the judge's tables say of a plan, and which elements are prior to one: where a table has
-- only the first element that breaks a rule, the answer for a later one may be of that.
use Rattle.std.specs.Prelude.{◌≡◌, ℕ, ◌<◌, ◌⊎◌, length}
use Rattle.std.specs.BTreeMap.{get}
use Rattle.sdf_plan.specs.declared.place.Place.{Place}
use Rattle.sdf_plan.specs.declared.place.Place.TheVariants as At
use Rattle.sdf_plan.specs.declared.plan.Plan.{Plan}
use Rattle.sdf_plan.specs.ClassTable.Shown.{AreClasses}
use Rattle.sdf_check.specs.declared.judge.Tables.{Tables}
use Rattle.sdf_plan.specs.ClassTable.Names.{domains_of, regions_of}
use Rattle.sdf_check.specs.Keys.{AreKeys}
use Rattle.sdf_check.specs.Rules.{given_range}
use Rattle.sdf_check.specs.Meetings.{IsFirstMeeting, AreFirstMaps}
use Rattle.sdf_check.specs.Uses.{use_cmp, UsesUpTo}
use Rattle.std.specs.Prelude.{map}

-- an earlier region, or an earlier map of the same domain
abbrev pub IsPrior : Place → Place → Type 0
IsPrior prior (At.Region r) = (a : ℕ) × (a < r) × (prior ≡ At.Region a)
IsPrior prior (At.Map d m) = (a : ℕ) × (a < m) × (prior ≡ At.Map d a)
IsPrior prior _ = ⊥

-- this element breaks a rule, or one prior to it does
abbrev pub OrPrior : (Place → Type 0) → Place → Type 0
OrPrior broken place = broken place ⊎ ((prior : Place) × IsPrior prior place × broken prior)

-- the tables are those of this plan
pub record AreTables (tables : Tables) (plan : Plan) : Type 0 where
  pub classes : AreClasses tables.classes plan
  pub given : IsFirstMeeting (map given_range plan.memory_region) tables.given
  pub maps : AreFirstMaps plan tables.maps
  pub uses : UsesUpTo (get use_cmp tables.uses) plan (length plan.channel) 0
  pub domains : AreKeys tables.named_domains domains_of plan
  pub regions : AreKeys tables.named_regions regions_of plan
