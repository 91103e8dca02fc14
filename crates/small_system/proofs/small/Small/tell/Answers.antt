use Rattle.std.proofs.Common.{subst}
use Rattle.small_system.specs.Standing.{IsLawful}
use Rattle.small_system.specs.Shows.{Shown, IsTold, Stands}
use Rattle.small_system.proofs.Telling.{stands_now}
use Rattle.small_system.proofs.Paced.{lawful_now}
use Rattle.small_system.proofs.small.Small.tell.Goals as goal

pub returns-clause-told : goal.returns-clause-told
returns-clause-told g c = subst (IsTold g.A.SmallActor.means) c.self.view_is c.self.invariant.told

pub returns-clause-stands : goal.returns-clause-stands
returns-clause-stands g c = subst (Stands g.A.SmallActor.means) c.self.view_is (stands_now g.A.SmallActor.means g.met.A.SmallActor.lawful _ c.self.invariant.told)

pub returns-clause-lawful : goal.returns-clause-lawful
returns-clause-lawful g c = subst (λ s. IsLawful s.rows s.journal) c.self.view_is (lawful_now g.A.SmallActor.means g.met.A.SmallActor.lawful _ c.self.invariant.told)
