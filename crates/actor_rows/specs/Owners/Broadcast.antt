-- A broadcast frame through one receive buffer to two clients, of which the second answers it: each
-- put and take of it, in one order that the actors may make.
use Rattle.std.specs.Prelude.{◌==◌, ◌&&◌, ℕ, Bool, true, false, nat_le, if◌then◌else◌, Some, List}
use Rattle.std.specs.Prelude.{[], ◌∷◌, ◌++◌}
use Rattle.cargo_core.specs.declared.item.Item.TheVariants as ItemOf
use Rattle.wire_core.specs.declared.names.Entry.{Entry}
use Rattle.wire_core.specs.declared.names.Op.{Op}
use Rattle.wire_core.specs.declared.names.Op.TheVariants as Do
use Rattle.wire_core.specs.declared.names.Answer.TheVariants.{Done}
use Rattle.play_core.specs.Moved.{moved}
use Rattle.owner_law.specs.Things.{Naming, naming_of, Thing, Nothing, Whole, Frame, Lease, Return}
use Rattle.owner_law.specs.Owners.{Spot, InQueue, InHand, is_spot, Place, Nowhere, At, Lent, Table}
use Rattle.owner_law.specs.Owners.{leases_at, Move, Stays, Puts, Takes, move_of, after_move, replay}
use Rattle.owner_law.specs.Keeping.{Keeper, start_table}
use Rattle.owner_law.specs.Census.{Census, census}
use Rattle.net_law.specs.Owners.Names.{ClientPools, net_names}
use Rattle.owner_law.specs.Pools.Places.{PoolAt}

-- the pools in their order, each client's with two buffers, where the full example's regions lie
abbrev pub rx_pool : PoolAt
rx_pool = record { number = 0; base = 0x10000000; buffers = 1; size = 2048 }

-- the recording client's pools
abbrev pub first_client : ClientPools
first_client = record {
  rx = record { number = 1; base = 0x40018000; buffers = 2; size = 2048 };
  tx = record { number = 2; base = 0x40222000; buffers = 2; size = 2048 };
}

-- the answering client's pools
abbrev pub second_client : ClientPools
second_client = record {
  rx = record { number = 3; base = 0x40118000; buffers = 2; size = 2048 };
  tx = record { number = 4; base = 0x40322000; buffers = 2; size = 2048 };
}

-- what items name, where each frame is for both clients
abbrev pub naming : Naming
naming = naming_of (net_names rx_pool (λ place. 2) (first_client ∷ second_client ∷ []))

-- all buffers of a pool of two
abbrev pub two : List ℕ
two = 0 ∷ 1 ∷ []

-- of an actor that has nothing at the start
abbrev pub empty : Keeper
empty = record { ends = []; hand = λ pool. [] }

-- of a client with these two pools
abbrev pub with_pools : (rx tx : ℕ) → Keeper
with_pools rx tx = record {
  ends = [];
  hand = λ pool. if pool == rx then two else if pool == tx then two else [];
}

-- the actors in their order: 0 is the driver, 1 the receiving virtualiser, 2 the sending one, 3 and
-- 4 are the copiers, 5 and 6 the clients, and 7 is the device
abbrev pub actors : List Keeper
actors = empty ∷ record { ends = []; hand = λ pool. if pool == 0 then 0 ∷ [] else [] }
    ∷ empty ∷ empty ∷ empty ∷ with_pools 1 2 ∷ with_pools 3 4 ∷ empty ∷ []

-- an actor moves an entry with this address at a queue
abbrev pub entry : Op → (actor queue address : ℕ) → Entry
entry op actor queue address = record {
  actor = record { 0 = actor };
  event = record {
    queue = record { 0 = queue };
    op = op;
    answer = Done;
    item = Some (ItemOf.Net (record { addr = address; len = 14 }));
  };
}

-- it puts one
abbrev pub puts : (actor queue address : ℕ) → Entry
puts actor queue address = entry Do.Put actor queue address

-- it takes one
abbrev pub takes : (actor queue address : ℕ) → Entry
takes actor queue address = entry Do.Take actor queue address

-- the buffer comes to the device and back with the frame, and the clients give their buffers
abbrev pub to_the_virtualiser : List Entry
to_the_virtualiser = puts 1 5 0x10000000 ∷ takes 0 5 0x10000000 ∷ puts 0 0 0x10000000
    ∷ takes 7 0 0x10000000 ∷ puts 7 1 0x10000000 ∷ takes 0 1 0x10000000 ∷ puts 0 4 0x10000000
    ∷ puts 5 11 0 ∷ puts 5 11 2048 ∷ puts 6 17 0 ∷ puts 6 17 2048 ∷ []

-- the virtualiser takes the frame
abbrev pub lent : List Entry
lent = to_the_virtualiser ++ takes 1 4 0x10000000 ∷ []

-- it puts a lease for each client; the first client's copier copies the frame, and its lease is
-- back
abbrev pub first_back : List Entry
first_back = lent ++ puts 1 8 0 ∷ puts 1 14 0 ∷ takes 3 8 0 ∷ takes 3 11 0 ∷ puts 3 10 0
    ∷ puts 3 9 0 ∷ takes 1 9 0 ∷ []

-- the second client's lease is back too
abbrev pub both_back : List Entry
both_back = first_back ++ takes 5 10 0 ∷ puts 5 11 0 ∷ takes 4 14 0 ∷ takes 4 17 0 ∷ puts 4 16 0
    ∷ puts 4 15 0 ∷ takes 1 15 0 ∷ []

-- the buffer goes back to the driver's queue; the second client answers through the sending
-- virtualiser, driver and device, and its buffer comes back to its queue
abbrev pub answered : List Entry
answered = both_back ++ puts 1 5 0x10000000 ∷ takes 6 16 0 ∷ puts 6 17 0 ∷ puts 6 18 0
    ∷ takes 2 18 0 ∷ puts 2 6 0x40322000 ∷ takes 0 6 0x40322000 ∷ puts 0 2 0x40322000
    ∷ takes 7 2 0x40322000 ∷ puts 7 3 0x40322000 ∷ takes 0 3 0x40322000 ∷ puts 0 7 0x40322000
    ∷ takes 2 7 0x40322000 ∷ puts 2 19 0 ∷ []

-- the table after these entries
abbrev pub table : List Entry → Table
table journal = replay naming [] (start_table actors) journal

-- a pool's line
abbrev pub line : List Entry → (pool buffers : ℕ) → Census
line journal pool buffers = census (table journal) pool buffers

-- this line
abbrev pub counts : (queues hands lent : ℕ) → Census
counts queues hands lent = record { queues = queues; hands = hands; lent = lent }

-- whether a place is this spot
abbrev pub is_at : Place → Spot → Bool
is_at Nowhere spot = false
is_at (At s) spot = is_spot s spot
is_at (Lent receivers) spot = false

-- whether a thing stands at a spot
abbrev pub stands : Table → Spot → Thing → Bool
stands t spot Nothing = true
stands t spot (Whole b) = is_at (t.place b) spot
stands t spot (Frame b receivers) = is_at (t.place b) spot
stands t spot (Lease b) = nat_le 1 (leases_at t b spot)
stands t spot (Return b) = nat_le 1 (leases_at t b spot)

-- whether a move finds its thing in the place that it leaves
abbrev pub finds : Table → (actor queue : ℕ) → Move → Bool
finds t actor queue Stays = true
finds t actor queue (Puts thing) = stands t (InHand actor) thing
finds t actor queue (Takes thing) = stands t (InQueue queue) thing

-- whether each of these entries does, which follow those before
abbrev pub all_found : (before : List Entry) → Table → List Entry → Bool
all_found before t [] = true
all_found before t (e ∷ es) =
    finds t e.actor.0 e.event.queue.0 (move_of naming (moved [] before) e)
    && all_found (before ++ e ∷ [])
    (after_move t e.actor.0 e.event.queue.0 (move_of naming (moved [] before) e)) es

-- whether one more entry does
abbrev pub next_found : List Entry → Entry → Bool
next_found journal e = all_found journal (table journal) (e ∷ [])
