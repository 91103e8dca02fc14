-- The elements of one sort by their numbers, of which the walk over a plan is made.
use Rattle.std.specs.Prelude.{ℕ}
use Rattle.sdf_plan.specs.declared.place.Place.{Place}
use Rattle.sdf_plan.specs.declared.place.Place.TheVariants as At
use Rattle.sdf_plan.specs.declared.places.Sort.{Sort}
use Rattle.sdf_plan.specs.declared.places.Sort.TheVariants as Of

-- the element of a sort with a number
abbrev pub member : Sort → ℕ → Place
member Of.Region number = At.Region number
member (Of.Map domain) number = At.Map domain number
member (Of.Irq domain) number = At.Irq domain number
member (Of.End channel) number = At.End channel number
member Of.NetClient number = At.NetClient number
member Of.SerialClient number = At.SerialClient number
member Of.BlkClient number = At.BlkClient number
