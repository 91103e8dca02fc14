use Rattle.std.proofs.Common.{refl, []}
use Rattle.small_system.specs.Tales.{start_of}
use Rattle.small_system.proofs.Telling.{tale_join, holds_along, told_holds, start_small, tale_count, tale_parts, items_shown, bells_shown}
use Rattle.small_system.proofs.Paced.{tale_lawful}
use Rattle.small_system.proofs.Wanting.{runs_wanted, picks_wanted, quiet_wanted}
use Rattle.small_system.proofs.laws.tale_law.Goals as goal

pub returns-clause-joins : goal.returns-clause-joins
returns-clause-joins g c = tale_join g.A.SmallActor.means

pub returns-clause-moments : goal.returns-clause-moments
returns-clause-moments g c = λ rows start turns begins tale. holds_along g.A.SmallActor.means g.met.A.SmallActor.lawful rows (start_of rows start) [] turns (start_small g.A.SmallActor.means rows start begins) tale

pub returns-clause-last : goal.returns-clause-last
returns-clause-last g c = λ rows start turns begins tale. told_holds g.A.SmallActor.means g.met.A.SmallActor.lawful rows start turns begins tale

pub returns-clause-lawful : goal.returns-clause-lawful
returns-clause-lawful g c = λ rows start turns begins tale. tale_lawful g.A.SmallActor.means g.met.A.SmallActor.lawful rows start turns begins tale

pub returns-clause-count : goal.returns-clause-count
returns-clause-count g c = tale_count g.A.SmallActor.means

pub returns-clause-parts : goal.returns-clause-parts
returns-clause-parts g c = tale_parts g.A.SmallActor.means

pub returns-clause-items : goal.returns-clause-items
returns-clause-items g c = items_shown g.A.SmallActor.means

pub returns-clause-bells : goal.returns-clause-bells
returns-clause-bells g c = bells_shown g.A.SmallActor.means

pub returns-clause-runs : goal.returns-clause-runs
returns-clause-runs g c = λ wants rows moment passed journal holds rests. runs_wanted g.A.SmallActor.means wants rows moment passed journal holds rests

pub returns-clause-picks : goal.returns-clause-picks
returns-clause-picks g c = λ wants rows moment before more seed holds tale rests picked. picks_wanted g.A.SmallActor.means g.met.A.SmallActor.lawful wants rows _ moment before more seed holds refl tale rests picked

pub returns-clause-quiet : goal.returns-clause-quiet
returns-clause-quiet g c = λ wants rows start turns begins tale rests none. quiet_wanted g.A.SmallActor.means g.met.A.SmallActor.lawful wants rows start turns begins tale rests none
