use Rattle.layout_laws.proofs.Queues.{queues_sound}
use Rattle.layout_laws.proofs.Pools.{pools_sound}
use Rattle.layout_laws.proofs.Acting.{class_acts}
use Rattle.layout_laws.proofs.Once.{regions_once, domains_once}
use Rattle.layout_laws.proofs.Spreads.{rows_apart}
use Rattle.layout_laws.proofs.Owners.{queues_owned}
use Rattle.layout_laws.proofs.Rooms.{has_rooms}
use Rattle.layout_laws.proofs.layout_law.Goals as goal

pub returns-clause-queues : goal.returns-clause-queues
returns-clause-queues c = queues_sound

pub returns-clause-pools : goal.returns-clause-pools
returns-clause-pools c = pools_sound

pub returns-clause-actors : goal.returns-clause-actors
returns-clause-actors c = class_acts

pub returns-clause-domains : goal.returns-clause-domains
returns-clause-domains c = domains_once

pub returns-clause-regions : goal.returns-clause-regions
returns-clause-regions c = regions_once

pub returns-clause-apart : goal.returns-clause-apart
returns-clause-apart c = rows_apart

pub returns-clause-owners : goal.returns-clause-owners
returns-clause-owners c = queues_owned

pub returns-clause-rooms : goal.returns-clause-rooms
returns-clause-rooms c = has_rooms
