-- A cast at play whose buffers are followed, and one call of an actor of it.
use Rattle.std.specs.Prelude.{◌≡◌, ◌+◌, ◌++◌, ℕ, Option, None, Some, List, [], length, map}
use Rattle.std.specs.Prelude.{slice_get}
use Rattle.cargo_core.specs.Items.{kind_of}
use Rattle.cargo_core.specs.Lists.{IsPrefix}
use Rattle.cargo_core.specs.declared.item.Item.{Item}
use Rattle.wire_core.specs.declared.names.PoolRow.{PoolRow}
use Rattle.wire_core.specs.declared.names.QueueRow.{QueueRow}
use Rattle.wire_core.specs.declared.names.Entry.{Entry}
use Rattle.wire_core.specs.Deeds.{Deed}
use Rattle.wire_core.specs.Ends.{role_of}
use Rattle.wire_core.specs.Lists.{Passed, with_deed}
use Rattle.wire_core.specs.Queues.{Queue, queue_at, end_at}
use Rattle.wire_core.specs.Journal.{History, LegalJournal, QueuesFlow, EachMoment}
use Rattle.play_core.specs.Moved.{Moved, moved, sent, taken}
use Rattle.play_core.specs.Sheets.{AreSeated, AreFilled, RowsHold}
use Rattle.play_core.specs.Still.{IsPeopled}
use Rattle.owner_law.specs.Census.{IsPool}
use Rattle.owner_law.specs.Keeping.{Keeper, keeper_of, IsNaming, IsShownBy}
use Rattle.owner_law.specs.Owners.{Table, AreCounted}
use Rattle.owner_law.specs.Pages.{CarryPages}
use Rattle.play_core.specs.Rests.Showing.{HaveItems}
use Rattle.owner_law.specs.Pools.Lines.{Holder}
use Rattle.cast_law.specs.PoolLines.PoolLines.{counted}
use Rattle.actor_set.specs.Parts.{Part}
use Rattle.actor_set.specs.Actors.{FitsActor, ActorStandsFor, ActorEnd, IsWhole, part_of}
use Rattle.actor_set.specs.declared.actor.Actor.{Actor}
use Rattle.actor_set.specs.Laws.Kinds.{AllCalm, sheet, scene_of, hostiles}
use Rattle.actor_set.specs.Laws.Turning.{InTurn}
use Rattle.wired_law.specs.Wiring.{AreOfKind}
use Rattle.cast_law.specs.Pools.Places.{PoolPlace, IsPlaced, cast_naming, place_sizes}

-- what the parts of a cast have at the start, and their ends
abbrev pub keepers_at : List Part → List Keeper
keepers_at cast = map (λ p. keeper_of (sheet (scene_of cast) p)) cast

-- of each of these pools, by their numbers, the buffers that are counted in queues and hands and as
-- lent are all that it has
abbrev pub AddUp : List Queue → List Holder → List PoolRow → Type 0
AddUp world holders pools = (k : ℕ) (row : PoolRow) → slice_get pools k ≡ Some row
    → (counted world holders (record { 0 = k })).queues
    + (counted world holders (record { 0 = k })).hands
    + (counted world holders (record { 0 = k })).lent ≡ row.buffers

-- a cast over queues at one moment, with hostile clients or without: each actor has just the ends
-- that the rows give it, fits them and stands for what passed there, which is of each queue's kind;
-- and in each queue stands what was put there and not taken
pub record AreOverQueues (rows : List QueueRow) (actors : List Actor) (passed : Passed)
    (world : List Queue) : Type 0 where
  pub peopled : IsPeopled rows (length (map part_of actors))
  pub seated : AreSeated (sheet (scene_of (map part_of actors))) rows (map part_of actors)
  pub filled : AreFilled (sheet (scene_of (map part_of actors))) rows (map part_of actors)
  pub stands_there : (n : ℕ) → passed.sent n ≡ passed.taken n ++ (queue_at world n).entries
  pub size : length world ≡ length rows
  pub kinds : AreOfKind rows passed
  pub fits : (k : ℕ) (x : Actor) → slice_get actors k ≡ Some x → FitsActor (end_at world) x
  pub stands : (k : ℕ) (x : Actor) → slice_get actors k ≡ Some x → ActorStandsFor x passed

-- a cast at play whose queues had this before its journal begins: it is over its queues, and no
-- actor is hostile; nothing came out of turn; and the journal is legal, at each moment queues hand
-- over and rows hold
pub record AreAtPlay (history : History) (rows : List QueueRow) (actors : List Actor)
    (journal : List Entry) (passed : Passed) (world : List Queue) : Type 0 where
  pub over : AreOverQueues rows actors passed world
  pub calm : AllCalm (map part_of actors)
  pub legal : LegalJournal (hostiles (map part_of actors)) history rows journal
  pub flows : EachMoment (QueuesFlow history rows) journal
  pub rows_hold : EachMoment (λ j. RowsHold (sheet (scene_of (map part_of actors)))
      (hostiles (map part_of actors)) (map part_of actors) (moved history j)) journal
  pub items : HaveItems passed (moved history journal)
  pub in_turn : (k : ℕ) (x : Actor) → slice_get actors k ≡ Some x
      → InTurn (scene_of (map part_of actors)) x passed

-- a table of owners with which a cast begins whose queues had this before: where one actor lends
-- what items name there, all that was put and taken by then shows the table, and lent buffers are
-- counted in it
pub record BeginsWith (history : History) (rows : List QueueRow) (place : PoolPlace)
    (cast : List Part) (start : Table) : Type 0 where
  pub lender : ℕ
  pub naming_is : IsNaming (cast_naming (scene_of cast) place) lender (hostiles cast) rows
  pub counted : AreCounted start
  pub shown : IsShownBy (cast_naming (scene_of cast) place) lender (keepers_at cast)
      (moved history []) start

-- there is such a table, in which each buffer of a pool has its place
pub record HasOwners (history : History) (rows : List QueueRow) (place : PoolPlace)
    (cast : List Part) : Type 0 where
  pub table : Table
  pub begins : BeginsWith history rows place cast table
  pub pools : (k : ℕ) → IsPool table k (place_sizes place k)

-- what was put to a queue is of its kind; at a number that is no queue's what was taken is a
-- beginning of what was put
abbrev pub IsKindly : Option QueueRow → (put took : List Item) → Type 0
IsKindly None put took = IsPrefix took put
IsKindly (Some row) put took = (j : ℕ) (i : Item) → slice_get put j ≡ Some i → kind_of i ≡ row.kind

-- so it is at each queue after a journal
abbrev pub AreKindly : History → List QueueRow → (journal : List Entry) → Type 0
AreKindly history rows journal =
    (n : ℕ) → IsKindly (slice_get rows n) (sent history n journal) (taken history n journal)

-- entries carried what their items name, and actor k of a cast without a hostile client made a call
-- on an end of its own, and is then x; it stands for what passed by then, of which nothing came out
-- of turn; queues hand over what is of their kind, and rows hold, before the call and after it
pub record IsCall (rows : List QueueRow) (place : PoolPlace) (cast : List Part) (m m' : Moved)
    (passed : Passed) (d : Deed) (k : ℕ) (x : Actor) : Type 0 where
  pub calm : AllCalm cast
  pub placed : IsPlaced rows place cast
  pub seated : AreSeated (sheet (scene_of cast)) rows cast
  pub split : (n : ℕ) (row : QueueRow) → slice_get rows n ≡ Some row
      → row.producer.0 ≡ row.consumer.0 → ⊥
  pub carried : CarryPages (cast_naming (scene_of cast) place) m passed
  pub rows_before : RowsHold (sheet (scene_of cast)) (hostiles cast) cast m
  pub rows_after : RowsHold (sheet (scene_of cast)) (hostiles cast) cast m'
  pub began : (n : ℕ) → IsPrefix (passed.taken n) (passed.sent n)
  pub items : HaveItems (with_deed passed d) m'
  pub begins : (n : ℕ) → IsPrefix ((with_deed passed d).taken n) ((with_deed passed d).sent n)
  pub kinds : AreOfKind rows (with_deed passed d)
  pub here : slice_get cast k ≡ Some (part_of x)
  pub in_turn : InTurn (scene_of cast) x (with_deed passed d)
  pub stands : ActorStandsFor x (with_deed passed d)
  pub fits : IsWhole x
  pub own : ActorEnd x (role_of d.event.op) d.event.queue.0
