use Rattle.std.proofs.Common.{take}
use Rattle.sdf_check.specs.Lookups.{FindsPlaces}
use Rattle.sdf_check.specs.Names.{domain_names_of}
use Rattle.sdf_check.proofs.names.domains_by_name.Given as goal

abbrev pub invariant-loop-at : goal.invariant-loop-at
invariant-loop-at l = FindsPlaces l.places (domain_names_of (take l.at l.domains))
