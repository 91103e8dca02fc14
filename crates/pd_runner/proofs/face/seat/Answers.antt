use Rattle.std.proofs.Common.{refl}
use Rattle.wire_core.specs.Ends.{Consumer, Producer}
use Rattle.pd_runner.proofs.Seated.{ends_within, seated}
use Rattle.pd_runner.proofs.face.seat.Goals as goal

pub ends_by_place-requires-clause-producers : goal.ends_by_place-requires-clause-producers
ends_by_place-requires-clause-producers c = ends_within c.args.rings.now c.args.part c.requires.apart Producer

pub ends_by_place-requires-clause-consumers : goal.ends_by_place-requires-clause-consumers
ends_by_place-requires-clause-consumers c = ends_within c.args.rings.now c.args.part c.requires.apart Consumer

pub returns-in-Ok : goal.returns-in-Ok
returns-in-Ok c = seated c.args.rings.now c.args.part c.requires.apart c.requires.few _ refl c.in-Ok.ensures.producers c.in-Ok.ensures.consumers
