-- Beside hostile clients: which pools are theirs, what items name by a table of the others' buffers,
-- and entries that carry what their items name at all queues but theirs.
use Rattle.std.specs.Prelude.{◌≡◌, ◌⊎◌, ◌==◌, ◌||◌, ◌+◌, ◌*◌, ℕ, Bool, true, false, cond, Option, None}
use Rattle.std.specs.Prelude.{Some, List, [], ◌∷◌, slice_get, map}
use Rattle.wire_core.specs.declared.names.QueueRow.{QueueRow}
use Rattle.wire_core.specs.Deeds.{Cargo, Deed}
use Rattle.wire_core.specs.Ends.{Role, End, role_of}
use Rattle.wire_core.specs.Lists.{Passed, with_deed}
use Rattle.wire_core.specs.Queues.{is_store, items_of}
use Rattle.play_core.specs.Moved.{Moved}
use Rattle.play_core.specs.Names.{Wild, names_at, wild_in}
use Rattle.play_core.specs.Sheets.{AreFilled, AreSeated}
use Rattle.owner_law.specs.Pages.{as_page}
use Rattle.owner_law.specs.Things.{Buffer}
use Rattle.owner_law.specs.Things.{Naming, as_buffer, requests_of, thing_at}
use Rattle.owner_law.specs.Pools.Places.{PoolAt}
use Rattle.net_law.specs.Owners.Names.{ClientPools}
use Rattle.net_law.specs.Parts.Numbers.{client_first}
use Rattle.net_law.specs.TxParts.Numbers.{NetPlace}
use Rattle.blk_law.specs.Sheets.Numbers.{BlkPlace}
use Rattle.wired_law.specs.PageLaw.WildPages.Rounds.{AllMove}
use Rattle.actor_set.specs.Actors.{ActorEnd, part_of}
use Rattle.actor_set.specs.declared.actor.Actor.{Actor}
use Rattle.actor_set.specs.Laws.Kinds.{hostiles, scene_of, sheet}
use Rattle.actor_set.specs.Laws.Scenes.{ToldInTurn}
use Rattle.wired_law.specs.Wiring.{AreAtWork}
use Rattle.cast_law.specs.Pools.Places.{PoolPlace, IsPlaced, cast_naming}

-- a pool, by its number, is one of the two of a network client at whose queue a hostile actor has
-- an end, from a number on
abbrev pub is_net_rogues : Wild → (first k : ℕ) → List ClientPools → ℕ → Bool
is_net_rogues wild first k [] pool = false
is_net_rogues wild first k (q ∷ qs) pool = cond (wild (client_first first k + 4))
    ((q.rx.number == pool) || ((q.tx.number == pool)
    || is_net_rogues wild first (k + 1) qs pool)) (is_net_rogues wild first (k + 1) qs pool)

-- or that of a block client
abbrev pub is_blk_rogues : Wild → (first k : ℕ) → List PoolAt → ℕ → Bool
is_blk_rogues wild first k [] pool = false
is_blk_rogues wild first k (q ∷ qs) pool = cond (wild (first + 4 + 2 * k))
    ((q.number == pool) || is_blk_rogues wild first (k + 1) qs pool)
    (is_blk_rogues wild first (k + 1) qs pool)

-- it is a hostile client's, of the network's
abbrev pub in_net : Wild → Option NetPlace → ℕ → Bool
in_net wild None pool = false
in_net wild (Some net) pool = is_net_rogues wild net.first 0 net.pools pool

-- of the block class's
abbrev pub in_blk : Wild → Option BlkPlace → ℕ → Bool
in_blk wild None pool = false
in_blk wild (Some blk) pool = is_blk_rogues wild blk.first 0 blk.pools pool

-- of either class's
abbrev pub is_rogues : Wild → PoolPlace → ℕ → Bool
is_rogues wild place pool = in_net wild place.net pool || in_blk wild place.blk pool

-- entries that passed have these items; where no hostile actor has an end of the queue, each has as
-- its body the page of the buffer that its item names, and else none; and where one has, no page of
-- a pool that isn't a hostile client's
pub record CarryBeside (wild : Wild) (rogues : ℕ → Bool) (naming : Naming) (m : Moved)
    (passed : Passed) : Type 0 where
  pub sent : (n : ℕ) → m.sent n ≡ items_of (passed.sent n)
  pub taken : (n : ℕ) → m.taken n ≡ items_of (passed.taken n)
  pub bodies : (n : ℕ) → wild n ≡ false → (k : ℕ) (c : Cargo)
      → slice_get (passed.sent n) k ≡ Some c → (b : Buffer)
      → as_page b c.1 ≡ as_buffer b (thing_at (naming n) (requests_of (naming n) m) k c.0)
  pub others : (n : ℕ) → wild n ≡ true → (k : ℕ) (c : Cargo)
      → slice_get (passed.sent n) k ≡ Some c → (b : Buffer) → rogues b.pool ≡ false
      → as_page b c.1 ≡ 0

-- so do those of a cast that stands at a place
abbrev pub CastCarries : List QueueRow → PoolPlace → List Actor → Moved → Passed → Type 0
CastCarries rows place actors m passed = CarryBeside (wild_in (hostiles (map part_of actors)) rows)
    (is_rogues (wild_in (hostiles (map part_of actors)) rows) place)
    (cast_naming (scene_of (map part_of actors)) place) m passed

-- hostile clients of the block class asked for reads and writes alone
abbrev pub RoguesAsk : Wild → PoolPlace → Passed → Type 0
RoguesAsk wild place passed = (blk : BlkPlace) → place.blk ≡ Some blk → (k : ℕ) (q : PoolAt)
    → slice_get blk.pools k ≡ Some q → wild (blk.first + 4 + 2 * k) ≡ true
    → AllMove (passed.sent (blk.first + 4 + 2 * k))

-- nothing came out of turn at any actor by the names of all that was put
abbrev pub AllTold : List QueueRow → List Actor → Passed → Type 0
AllTold rows actors passed = (k : ℕ) (x : Actor) → slice_get actors k ≡ Some x
    → ToldInTurn (scene_of (map part_of actors)) (wild_in (hostiles (map part_of actors)) rows)
    (names_at passed) x passed

-- actors were at work, and the one of a number made a call at an end of its own, or a store; they
-- are at work after it; nothing came out of turn by the names of all that was put, before and after
pub record IsCallAmong (rows : List QueueRow) (place : PoolPlace) (olds news : List Actor)
    (passed : Passed) (d : Deed) (k : ℕ) : Type 0 where
  pub placed : IsPlaced rows place (map part_of news)
  pub seated : AreSeated (sheet (scene_of (map part_of news))) rows (map part_of news)
  pub filled : AreFilled (sheet (scene_of (map part_of news))) rows (map part_of news)
  pub split : (n : ℕ) (row : QueueRow) → slice_get rows n ≡ Some row
      → row.producer.0 ≡ row.consumer.0 → ⊥
  pub same : map part_of news ≡ map part_of olds
  pub before : Role → ℕ → End
  pub worked : AreAtWork before rows olds passed
  pub ends : Role → ℕ → End
  pub works : AreAtWork ends rows news (with_deed passed d)
  pub was_told : AllTold rows olds passed
  pub told : AllTold rows news (with_deed passed d)
  pub asks : RoguesAsk (wild_in (hostiles (map part_of news)) rows) place (with_deed passed d)
  pub there : Actor
  pub here : slice_get news k ≡ Some there
  pub own : ActorEnd there (role_of d.event.op) d.event.queue.0 ⊎ (is_store d.event.op ≡ true)
