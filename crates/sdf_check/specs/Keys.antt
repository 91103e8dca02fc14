-- What the judge keeps of the names of class elements.
use Rattle.std.specs.Prelude.{◌≡◌, ◌↔◌, ℕ, ◌<◌, Bool, List, length, take, Some, slice_get, IsTrue}
use Rattle.std.specs.List.{flat_map}
use Rattle.sdf_plan.specs.declared.plan.Plan.{Plan}
use Rattle.sdf_plan.specs.ClassTable.Names.{domains_of, regions_of}
use Rattle.sdf_plan.specs.ClassTable.Rows.{Name}
use Rattle.sdf_plan.specs.ClassTable.Table.{Element, table_of}
use Rattle.sdf_check.specs.declared.keys.Keys.{Keys}
use Rattle.sdf_check.specs.declared.keys.Named.{Named}
use Rattle.sdf_check.specs.declared.keys.Named.TheVariants as Which
use Rattle.sdf_check.specs.ClassRules.{RepeatsName}
use Rattle.sdf_check.specs.Lookups.{FindsPlaces}

-- the names of an element that are asked for
abbrev pub names_of : Named → Element → List Name
names_of Which.Domains = domains_of
names_of Which.Regions = regions_of

-- a flag says whether the names of an element repeat one
abbrev pub Tells : (Element → List Name) → List Element → ℕ → Element → Bool → Type 0
Tells give elements n e flag = IsTrue flag ↔ RepeatsName (flat_map give (take n elements)) (give e)

-- there is a flag for each of the first elements
pub record AreFlags (give : Element → List Name) (elements : List Element) (many : ℕ)
    (flags : List Bool) : Type 0 where
  pub count : length flags ≡ many
  pub each : (n : ℕ) (e : Element) → n < many → slice_get elements n ≡ Some e
      → (flag : Bool) × (slice_get flags n ≡ Some flag) × Tells give elements n e flag

-- the names of a plan's elements are found, and there is a flag for each element
pub record AreKeys (keys : Keys) (give : Element → List Name) (plan : Plan) : Type 0 where
  pub places : FindsPlaces keys.places (flat_map give (table_of plan))
  pub again : AreFlags give (table_of plan) (length (table_of plan)) keys.again
