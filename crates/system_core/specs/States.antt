-- What is seen of actors as they are, and the state in which a system begins.
use Rattle.std.specs.Prelude.{◌-◌, ◌+◌, ◌^◌, ◌++◌, ◌&&◌, ℕ, Bool, cond, min, Option, None, List, []}
use Rattle.std.specs.Prelude.{◌∷◌, map, slice_get, sum_by}
use Rattle.std.specs.Option.{option_map, option_map_or}
use Rattle.cargo_core.specs.declared.item.PoolId.{PoolId}
use Rattle.cargo_core.specs.declared.item.Reply.{Reply}
use Rattle.cargo_core.specs.Bodies.{buffers_of}
use Rattle.wire_core.specs.Deeds.{Cargo}
use Rattle.play_core.specs.Names.{Noted, carries_pages, name_of}
use Rattle.wire_core.specs.declared.names.PoolRow.{PoolRow}
use Rattle.wire_core.specs.declared.names.QueueRow.{QueueRow}
use Rattle.wire_core.specs.Journal.{History, start_history}
use Rattle.wire_core.specs.Queues.{Queue}
use Rattle.spsc_queue.specs.Known.Ends.{EndedIs}
use Rattle.cast_law.specs.PoolLines.PoolLines.{counted_lines}
use Rattle.actor_set.specs.Actors.{part_of, bad_of, actor_hand, actor_lent}
use Rattle.actor_set.specs.declared.actor.Actor.{Actor}
use Rattle.actor_set.specs.Laws.Kinds.{scene_of}
use Rattle.order_law.specs.Ended.Tracks.{track_of}
use Rattle.actor_set.specs.Laws.Records.{record_of, frames_got, replies_got}
use Rattle.cast_law.specs.Pools.Holders.{holders_of}
use Rattle.cast_law.specs.Pages.Paging.{shown_bodies}
use Rattle.system_core.specs.Shows.{Crew, Setting, State, Shown}

-- what the actor at a place recorded
abbrev pub record_from : List Actor → ℕ → List ℕ
record_from actors k = option_map_or record_of (slice_get actors k) []

-- the frames that the actor at a place recorded
abbrev pub frames_from : List Actor → ℕ → List (List ℕ)
frames_from actors k = option_map_or frames_got (slice_get actors k) []

-- the replies that the actor at a place recorded
abbrev pub replies_from : List Actor → ℕ → List Reply
replies_from actors k = option_map_or replies_got (slice_get actors k) []

-- how many buffers of a pool are in the hands of actors
abbrev pub held_by : PoolId → List Actor → ℕ
held_by pool actors = sum_by (λ x. buffers_of pool (actor_hand x)) actors

-- and how many they have lent
abbrev pub lent_by : PoolId → List Actor → ℕ
lent_by pool actors = sum_by (λ x. actor_lent x pool.0) actors

-- what the actors counted as bad, all together; a count stands still at its type's end
abbrev pub bad_in : List Actor → ℕ
bad_in actors = min (sum_by bad_of actors) (2 ^ 64 - 1)

-- what is seen of queues and actors
abbrev pub state_of : List Queue → List PoolRow → List Actor → (net serial blk : Crew) → State
state_of world pools actors net serial blk = record {
  wire = option_map (frames_from actors) net.device;
  net = map (frames_from actors) net.clients;
  line = option_map (record_from actors) serial.device;
  serial = map (record_from actors) serial.clients;
  blk = map (replies_from actors) blk.clients;
  pools = counted_lines world (holders_of actors) 0 pools;
  bodies = shown_bodies world actors;
  bad = bad_in actors;
}

-- what the queues had before the journal begins: what the rings show that the system was made from;
-- where it was made from none, nothing happened
abbrev pub history_of : List QueueRow → List EndedIs → History
history_of rows [] = start_history rows
history_of rows (ring ∷ rings) = map track_of (ring ∷ rings)

-- these queues, pools and actors, in the scene of these and with no names kept, with what the
-- queues had before the journal begins
abbrev pub begun : History → List QueueRow → List PoolRow → List Actor → (net serial blk : Crew)
    → Setting
begun history rows pools actors net serial blk = record {
  history = history;
  rows = rows;
  pools = pools;
  cast = map part_of actors;
  scene = scene_of (map part_of actors);
  names = [];
  net = net;
  serial = serial;
  blk = blk;
}

-- names are kept of what was put to a ring that was wild, where its entries may carry pages
abbrev pub is_noted : EndedIs → Bool
is_noted e = e.producer.wild && carries_pages e.producer.kind

-- the names of entries that were put to the queue of a number
abbrev pub notes_at : ℕ → List Cargo → List Noted
notes_at n cs = map (λ (c : Cargo). record { queue = n; name = name_of c.1 }) cs

-- the names that are kept of what was put to these rings, the first of them that of the queue of a
-- number
abbrev pub names_left : ℕ → List EndedIs → List Noted
names_left n [] = []
names_left n (e ∷ es) =
    cond (is_noted e) (notes_at n e.producer.entries) [] ++ names_left (n + 1) es

-- the same where the queues had this past, with the names of what was put by then
abbrev pub begun_on : List EndedIs → List QueueRow → List PoolRow → List Actor
    → (net serial blk : Crew) → Setting
begun_on past rows pools actors net serial blk =
    record (begun (history_of rows past) rows pools actors net serial blk) {
      names = names_left 0 past;
    }

-- a device and clients
abbrev pub crew_of : Option ℕ → List ℕ → Crew
crew_of device clients = record { device = device; clients = clients }

-- nobody
abbrev pub nobody : Crew
nobody = crew_of None []

-- a system whose journal begins with this history, and whose queues have this in them
abbrev pub started : History → List QueueRow → List PoolRow → List Queue → List Actor
    → (net serial blk : Crew) → Shown
started history rows pools world actors net serial blk = record {
  setting = begun history rows pools actors net serial blk;
  journal = [];
  state = state_of world pools actors net serial blk;
}

-- the same where the queues had this past
abbrev pub started_on : List EndedIs → List QueueRow → List PoolRow → List Queue → List Actor
    → (net serial blk : Crew) → Shown
started_on past rows pools world actors net serial blk = record {
  setting = begun_on past rows pools actors net serial blk;
  journal = [];
  state = state_of world pools actors net serial blk;
}
