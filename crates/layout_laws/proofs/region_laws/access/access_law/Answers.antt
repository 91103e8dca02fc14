use Rattle.layout_laws.proofs.RegionLaws.AccessLemmas.Links.{queues_linked}
use Rattle.layout_laws.proofs.RegionLaws.AccessLemmas.Reached.{pools_reached}
use Rattle.layout_laws.proofs.RegionLaws.AccessLemmas.Interrupts.{drivers_interrupted}
use Rattle.layout_laws.proofs.RegionLaws.AccessLemmas.Placed.{regions_placed}
use Rattle.layout_laws.proofs.RegionLaws.AccessLemmas.Stacked.{queues_stacked}
use Rattle.layout_laws.proofs.region_laws.access.access_law.Goals as goal

pub returns-clause-links : goal.returns-clause-links
returns-clause-links c = queues_linked

pub returns-clause-pools : goal.returns-clause-pools
returns-clause-pools c = pools_reached

pub returns-clause-drivers : goal.returns-clause-drivers
returns-clause-drivers c = drivers_interrupted

pub returns-clause-bases : goal.returns-clause-bases
returns-clause-bases c = regions_placed

pub returns-clause-offsets : goal.returns-clause-offsets
returns-clause-offsets c = queues_stacked
