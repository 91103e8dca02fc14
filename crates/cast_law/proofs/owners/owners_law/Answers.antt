use Rattle.std.proofs.Common.{List, [], map, sym}
use Rattle.wire_core.specs.declared.names.QueueRow.{QueueRow}
use Rattle.wire_core.specs.Lists.{Passed}
use Rattle.wire_core.specs.Queues.{Queue, end_at, queue_at}
use Rattle.play_core.specs.Moved.{Moved, moved}
use Rattle.play_core.specs.Rests.Showing.{HaveItems}
use Rattle.owner_law.proofs.Replays.{owners_hold}
use Rattle.actor_set.specs.Actors.{part_of}
use Rattle.actor_set.specs.declared.actor.Actor.{Actor}
use Rattle.actor_set.specs.Laws.Kinds.{hostiles}
use Rattle.cast_law.specs.Pools.Beside.{AllTold}
use Rattle.cast_law.specs.Pools.Owning.{owner_keepers, owner_naming}
use Rattle.cast_law.specs.Pools.Places.{IsPlaced, PoolPlace}
use Rattle.cast_law.specs.Pools.Pooling.{AreOverQueues}
use Rattle.cast_law.proofs.BesideLemmas.Around.{Around}
use Rattle.cast_law.proofs.OwningLemmas.Beginning.{begins_beside, owned_beside, pools_beside}
use Rattle.cast_law.proofs.OwningLemmas.Keeping.{kept_at}
use Rattle.cast_law.proofs.OwningLemmas.Lining.{line_beside}
use Rattle.cast_law.proofs.OwningLemmas.Past.{past_beside}
use Rattle.cast_law.proofs.OwningLemmas.Plain.{plain_keepers, plain_naming}
use Rattle.cast_law.proofs.OwningLemmas.Unlent.{theirs_unlent}
use Rattle.cast_law.proofs.owners.owners_law.Goals as goal

pub returns-clause-anew : goal.returns-clause-anew
returns-clause-anew c = λ rows pools place cast placed has seated filled. (begins_beside rows place cast pools placed has seated filled, pools_beside rows place cast pools placed has seated filled)

-- a cast over its queues, by its parts
around : (rows : List QueueRow) (place : PoolPlace) (actors : List Actor) (passed : Passed) (world : List Queue) (m : Moved) → IsPlaced rows place (map part_of actors) → AreOverQueues rows actors passed world → AllTold rows actors passed → HaveItems passed m → Around rows place actors passed m
around rows place actors passed world m placed over told items = record {
  placed = placed;
  seated = over.seated;
  filled = over.filled;
  ends = end_at world;
  work = record {
    fits = over.fits;
    stands = over.stands;
    hands_over = λ n. ((queue_at world n).entries, sym (over.stands_there n));
    kinds = over.kinds;
  };
  told = told;
  items = items;
}

pub returns-clause-kept : goal.returns-clause-kept
returns-clause-kept c = λ history rows place actors journal passed world placed over told items carry flows. kept_at history rows place actors journal passed (around rows place actors passed world (moved history journal) placed over told items) carry flows

pub returns-clause-past : goal.returns-clause-past
returns-clause-past c = λ history rows pools place actors passed world placed has over told items carry flows. past_beside history rows pools place actors passed world has over (around rows place actors passed world (moved history []) placed over told items) carry flows

pub returns-clause-owned : goal.returns-clause-owned
returns-clause-owned c = owned_beside

pub returns-clause-owners : goal.returns-clause-owners
returns-clause-owners c = λ history rows place actors start journal passed world over legal kept begin. owners_hold (owner_naming rows place (map part_of actors)) begin.lender (hostiles (map part_of actors)) history rows (owner_keepers rows place (map part_of actors)) start journal (owned_beside history rows place actors start journal passed world over legal kept begin)

pub returns-clause-lines : goal.returns-clause-lines
returns-clause-lines c = λ history rows pools place actors start journal passed world placed has over told items carry legal kept begin k row at free. line_beside history rows pools place actors start journal passed world has over (around rows place actors passed world (moved history journal) placed over told items) carry legal kept begin k row at free

pub returns-clause-unlent : goal.returns-clause-unlent
returns-clause-unlent c = λ rows pools place actors world placed has k is. theirs_unlent rows place actors placed has.numbered k is world

pub returns-clause-plain : goal.returns-clause-plain
returns-clause-plain c = λ rows place cast calm. (plain_naming rows place cast calm, plain_keepers rows place cast calm)
