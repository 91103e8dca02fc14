-- The invariant of a system at play: history, queues, actors and journal belong together.
use Rattle.std.specs.Prelude.{◌≡◌, ◌<◌, ◌≤◌, ℕ, true, false, Some, List, [], ◌++◌, length, map}
use Rattle.std.specs.Prelude.{slice_get}
use Rattle.wire_core.specs.declared.names.QueueRow.{QueueRow}
use Rattle.wire_core.specs.declared.names.Entry.{Entry}
use Rattle.wire_core.specs.Ends.{Role}
use Rattle.wire_core.specs.Fates.{noes_at}
use Rattle.wire_core.specs.Lists.{Passed}
use Rattle.wire_core.specs.Queues.{Queue, queue_at, end_at, items_of}
use Rattle.wire_core.specs.Journal.{History, track, IsShown, LegalJournal, BellsHold, QueuesFlow}
use Rattle.wire_core.specs.Journal.{EachMoment, owner_of, is_calm}
use Rattle.wire_core.specs.Marks.{HasCalmQueues, since}
use Rattle.play_core.specs.Moved.{moved, noes_of}
use Rattle.play_core.specs.Names.{AreNoted, Noted, told_by, wild_in}
use Rattle.turn_kit.specs.Pace.{Paced, pendings}
use Rattle.actor_set.specs.Actors.{FitsActor, ActorStandsFor, ActorEnd, part_of, actor_round}
use Rattle.actor_set.specs.Laws.Kinds.{hostiles, scene_of}
use Rattle.actor_set.specs.Laws.Scenes.{ToldInTurn}
use Rattle.actor_set.specs.Rogues.{KeepsActs}
use Rattle.client_programs.specs.declared.rogue.Rogue.{Rogue}
use Rattle.wired_law.specs.Wiring.{AreOfKind, ClientsSend}
use Rattle.cast_law.specs.Pools.Beside.{CastCarries, RoguesAsk}
use Rattle.cast_law.specs.Pools.Owning.{IsKeptBeside}
use Rattle.cast_law.specs.Pools.Places.{PoolPlace, IsPlaced}
use Rattle.cast_bound.specs.Dropping.{drops_in}
use Rattle.system_core.specs.Shows.{Setting, hostile_in}
use Rattle.system_core.specs.Dropped.{HaveTold}
use Rattle.system_core.specs.Lawful.{IsFitted}
use Rattle.actor_set.specs.declared.actor.Actor.{Actor}
use Rattle.actor_set.specs.declared.actor.Actor.TheVariants as Kinds

-- the history, the names that are kept, the queues, the actors and the journal belong together
pub record Holds (history : History) (rows : List QueueRow) (names : List Noted)
    (world : List Queue) (actors : List Actor) (journal : List Entry) : Type 0 where
  -- the entries that the actors stand for, with their bodies, and all calls; history and journal
  -- show their items
  pub passed : Passed
  -- in each queue stands what was put there and wasn't taken
  pub stands_there : (n : ℕ) → passed.sent n ≡ passed.taken n ++ (queue_at world n).entries
  pub shows_taken : (n : ℕ) → items_of (passed.taken n) ≡ (track history n journal).taken
  pub shows_sent : (n : ℕ) → items_of (passed.sent n) ≡ (track history n journal).sent
  -- and by its calls each end looked in vain as often
  pub shows_noes : (r : Role) (n : ℕ)
      → noes_at r n passed.calls ≡ noes_of r (track history n journal)
  -- which are those made before the journal begins, and the journal's; and those bytes for serial
  -- clients were dropped that they tell
  pub told : HaveTold history (map part_of actors) journal passed.calls
  -- what was put to a queue is of its kind
  pub kinds : AreOfKind rows passed
  pub size : length world ≡ length rows
  pub queues : (n : ℕ) (row : QueueRow) → slice_get rows n ≡ Some row
      → IsShown row (queue_at world n) (track history n journal)
  pub fits : (k : ℕ) (x : Actor) → slice_get actors k ≡ Some x → FitsActor (end_at world) x
  pub stands : (k : ℕ) (x : Actor) → slice_get actors k ≡ Some x → ActorStandsFor x passed
  -- where the classes with pools stand, entries carry the pages that their items name at all queues
  -- but those of hostile clients, and at these no page of another's pool
  pub carry : (place : PoolPlace) → IsPlaced rows place (map part_of actors)
      → CastCarries rows place actors (moved history journal) passed
  -- and hostile clients of the block class asked for reads and writes alone
  pub asks : (place : PoolPlace) → IsPlaced rows place (map part_of actors)
      → RoguesAsk (wild_in (hostiles (map part_of actors)) rows) place passed
  -- the network's clients that aren't hostile put good descriptors alone, those of the block class
  -- good requests
  pub sends : ClientsSend rows (map part_of actors) passed
  -- the names that are kept are those of all that was put where they are kept
  pub noted : AreNoted (wild_in (hostiles (map part_of actors)) rows) names passed
  -- by these names nothing came out of turn at any actor
  pub in_turn : (k : ℕ) (x : Actor) → slice_get actors k ≡ Some x
      → ToldInTurn (scene_of (map part_of actors)) (wild_in (hostiles (map part_of actors)) rows)
      (told_by names) x passed
  -- a hostile client made the calls of its acts
  pub acts : (k : ℕ) (r : Rogue) → slice_get actors k ≡ Some (Kinds.Rogue r)
      → KeepsActs k r journal
  pub owners : (k : ℕ) (x : Actor) → slice_get actors k ≡ Some x → (r : Role) (n : ℕ)
      → ActorEnd x r n → (row : QueueRow) → slice_get rows n ≡ Some row → owner_of row r ≡ k
  -- at a queue with no hostile end no word was stored
  pub unstored : (n : ℕ) (row : QueueRow) → slice_get rows n ≡ Some row
      → is_calm (hostiles (map part_of actors)) row ≡ true
      → (queue_at world n).indices.stored ≡ false
  -- what each actor did since its last mark that isn't hostile and has no queue with a hostile end
  pub paced : (k : ℕ) (x : Actor) → slice_get actors k ≡ Some x
      → HasCalmQueues (hostiles (map part_of actors)) rows k
      → Paced (pendings history journal) (since (drops_in (map part_of actors)) k
      journal) (actor_round x)
  pub peers : (n : ℕ) (row : QueueRow) → slice_get rows n ≡ Some row → (r : Role)
      → owner_of row r < length actors
  pub few : length actors ≤ 65536
  pub legal : LegalJournal (hostiles (map part_of actors)) history rows journal

-- at each moment each actor that isn't hostile put only what was in its hand, of all pools but
-- those of hostile clients, where the classes with pools stand
abbrev pub PutTheirOwn : Setting → List Entry → Type 0
PutTheirOwn s journal = (place : PoolPlace) → IsPlaced s.rows place s.cast
    → EachMoment (IsKeptBeside s.history s.rows place s.cast) journal

-- bells and queues hold before the journal begins
pub record HoldsBefore (s : Setting) : Type 0 where
  pub bells_hold : BellsHold (hostile_in s) s.history s.rows []
  pub flows : QueuesFlow s.history s.rows []

-- queues and actors, as they are, go on from this history: the start state from one in which
-- nothing happened
pub record GoesOn (s : Setting) (world : List Queue) (actors : List Actor) : Type 0 where
  pub fitted : IsFitted s
  pub before : HoldsBefore s
  pub holds : Holds s.history s.rows s.names world actors []
