-- What holds of every system, however it was built and played: its seats, its journal at each
-- moment, and what is seen of it.
use Rattle.std.specs.Prelude.{◌≡◌, ◌+◌, ◌*◌, ◌<◌, ◌≤◌, ℕ, Some, is_some, List, [], length, map}
use Rattle.std.specs.Prelude.{slice_get}
use Rattle.std.specs.Option.{option_map, option_map_or}
use Rattle.wire_core.specs.declared.names.QueueRow.{QueueRow}
use Rattle.wire_core.specs.declared.names.Entry.{Entry}
use Rattle.wire_core.specs.Journal.{LegalJournal, EachMoment, BellsHold, QueuesFlow, start_history}
use Rattle.wire_core.specs.Lists.{Passed}
use Rattle.wire_core.specs.Marks.{Brisk}
use Rattle.cargo_core.specs.Capacities.{IsCapacity}
use Rattle.cargo_core.specs.Lists.{IsPrefix, PrefixMerge}
use Rattle.cargo_core.specs.declared.item.Ask.{Ask}
use Rattle.cargo_core.specs.declared.item.Reply.{Reply}
use Rattle.class_expect.specs.BlkExpect.Replies.{replies_of}
use Rattle.blk_law.specs.Sheets.Numbers.{BlkPlace, blk_client_at}
use Rattle.frame_core.specs.declared.mac.Mac.{Mac}
use Rattle.class_expect.specs.NetExpect.Expecting.{Program}
use Rattle.buffer_kit.specs.Conserving.{Count, counted, the_page, of_other_length}
use Rattle.net_law.specs.Dropped.{left_for}
use Rattle.net_law.specs.Owners.Names.{ClientPools}
use Rattle.owner_law.specs.Pools.Places.{PoolAt}
use Rattle.net_law.specs.Parts.Numbers.{client_first, device_at, client_at}
use Rattle.net_law.specs.TxParts.Numbers.{NetPlace}
use Rattle.net_quiet.specs.TxCast.Casting.{NoneHostile, net_marks, sends_at, sends_beside}
use Rattle.net_quiet.specs.TxCast.Casting.{wire_beside}
use Rattle.play_core.specs.Moved.{Seat}
use Rattle.play_core.specs.Rests.Showing.{HaveItems}
use Rattle.play_core.specs.Sheets.{AreSeated, IsSeat}
use Rattle.play_core.specs.Still.{IsPeopled}
use Rattle.owner_law.specs.Owners.{OneOwner, Table, replay}
use Rattle.owner_law.specs.Keeping.{start_table}
use Rattle.actor_set.specs.Parts.{Part, RoguePart, NetworkPart, BlockPart, HostilePart}
use Rattle.actor_set.specs.Laws.Kinds.{AllCalm, scene_of, sheet}
use Rattle.actor_set.specs.Laws.Records.{record_by}
use Rattle.wired_law.specs.Wiring.{HasWholeIn, HasNoNetwork, HasBlkIn, HasNoBlock, IsWiredIn}
use Rattle.cast_law.specs.Pages.Paging.{part_pools, pools_weigh}
use Rattle.cast_law.specs.Pools.Places.{PoolPlace, IsPlaced, HasPools, ArePooled}
use Rattle.cast_law.specs.Pools.Places.{place_sizes}
use Rattle.cast_law.specs.Pools.Beside.{is_rogues}
use Rattle.cast_law.specs.Pools.Owning.{BeginsBeside, HasOwnersBeside, owner_keepers, owner_naming}
use Rattle.cast_law.specs.Pools.Pooling.{AreKindly}
use Rattle.cast_bound.specs.Dropping.{drops_in}
use Rattle.system_core.specs.BadOnes.{bad_among}
use Rattle.system_core.specs.Dropped.{HaveTold}
use Rattle.system_core.specs.PoolLines.{AllAdd, AreLinesOf, AreUnlent, CountStanding}
use Rattle.system_core.specs.Shows.{Crew, Setting, Shown, hostile_in, wild_by, moved_in}
use Rattle.system_core.specs.Shows.{NamesTell, RowsStand}

-- the rows and the actors fit one another
pub record IsFitted (s : Setting) : Type 0 where
  -- the scene is what these actors' parts give
  pub scene_is : s.scene ≡ scene_of s.cast
  -- where nobody is hostile no names are kept
  pub names_are : AllCalm s.cast → s.names ≡ []
  -- each queue's owners are among the actors
  pub peopled : IsPeopled s.rows (length s.cast)
  -- each end of an actor is one that the rows give it
  pub seated : AreSeated (sheet s.scene) s.rows s.cast
  -- and each that they give it is one of its ends
  pub ends : (k : ℕ) (p : Part) → slice_get s.cast k ≡ Some p → (x : Seat) → IsSeat s.rows k x
      → (i : ℕ) × (slice_get (sheet s.scene p).ends i ≡ Some x)
  -- no actor has both ends of a queue
  pub split : (n : ℕ) (row : QueueRow) → slice_get s.rows n ≡ Some row
      → row.producer.0 ≡ row.consumer.0 → ⊥
  -- the actors of the network, if there are any, are the whole class at the layout's queues, and so
  -- are those of the block class
  pub wired : IsWiredIn s.scene s.rows s.cast
  -- its pools are those of these classes, where it has them, and none else; and what was put and
  -- taken before the journal begins shows a table of owners, in which each buffer of a pool that
  -- isn't a hostile client's has its place
  pub pooled : ArePooled s.rows s.pools s.cast
  pub owners : (place : PoolPlace) → IsPlaced s.rows place s.cast → HasPools s.pools place
      → HasOwnersBeside s.history s.rows place s.cast
  -- each queue has a number of 16 bits
  pub numbered : length s.rows ≤ 65536
  -- and can hold an entry
  pub places : (n : ℕ) (row : QueueRow) → slice_get s.rows n ≡ Some row → IsCapacity row.capacity

-- each queue hands over what was put, once and in order, each call is in discipline, at each moment
-- bells, queues and rows hold, names tell what rows and needs ask, and queues have what is of their
-- kind; between two marks no actor makes more than 8 calls on an end, but a hostile one or one that
-- has a queue with a hostile end; and each move of a buffer of a pool that isn't a hostile client's
-- finds it in the place that it leaves, from any table of owners on with which the journal begins
pub record IsLawful (s : Setting) (journal : List Entry) : Type 0 where
  pub legal : LegalJournal (hostile_in s) s.history s.rows journal
  pub bells_hold : EachMoment (BellsHold (hostile_in s) s.history s.rows) journal
  pub flows : EachMoment (QueuesFlow s.history s.rows) journal
  pub rows_hold : EachMoment (RowsStand s) journal
  pub names_tell : EachMoment (NamesTell s) journal
  pub kinds : EachMoment (AreKindly s.history s.rows) journal
  pub brisk : Brisk (hostile_in s) s.rows (drops_in s.cast) journal
  pub owners : (place : PoolPlace) → IsPlaced s.rows place s.cast → (start : Table)
      → BeginsBeside s.history s.rows place s.cast start
      → EachMoment (OneOwner (owner_naming s.rows place s.cast) s.history start) journal

-- the bytes that the actor at a place recorded
abbrev pub record_at : Shown → ℕ → List ℕ
record_at s k = option_map_or (record_by (moved_in s.setting s.journal))
    (slice_get s.setting.cast k) []

-- what the clients at a place of the network send: each by its program, where it gets the frames
-- for its address without those that were dropped as the calls tell, but a hostile one the frames
-- of the good descriptors that were taken of it
abbrev pub sends_in : Shown → NetPlace → Passed → List (List (List ℕ))
sends_in s net passed = sends_beside (wild_by s.setting) net s.setting.scene.frames passed

-- the frames on the wire as the entries tell them that the device took: of each client's they come
-- in their order
abbrev pub wire_of : Shown → NetPlace → Passed → List (List ℕ)
wire_of s net passed = wire_beside (wild_by s.setting) net s.setting.scene.frames passed

-- at a place of the network the record of a client that has buffers is a beginning of the frames
-- for its address without those that its copier dropped, as the calls tell, a frame for each entry
-- that it took; and what was sent on the device's wire is what the entries tell, a merge of
-- beginnings of what the clients send, all by their programs where none of them is hostile
pub record TellsFrames (s : Shown) (passed : Passed) (net : NetPlace) : Type 0 where
  pub records : (c k j : ℕ) (program : Program) (mac : Mac) (pools : ClientPools)
      (got : List (List ℕ)) → slice_get s.setting.net.clients c ≡ Some k
      → slice_get s.setting.cast k
      ≡ Some (NetworkPart (client_at net.first j program mac pools))
      → 1 ≤ pools.rx.buffers → slice_get net.macs j ≡ Some mac → slice_get s.state.net c ≡ Some got
      → IsPrefix got (left_for (net_marks net passed.calls j) mac s.setting.scene.frames)
      × (length got
      ≡ length ((moved_in s.setting s.journal).taken (client_first net.first j + 2)))
  pub wire : (k : ℕ) → s.setting.net.device ≡ Some k → slice_get s.setting.cast k
      ≡ Some (NetworkPart (device_at net.first s.setting.scene.frames net.device_drops))
      → (s.state.wire ≡ Some (wire_of s net passed))
      × PrefixMerge (sends_in s net passed) (wire_of s net passed)
  pub plain : NoneHostile (wild_by s.setting) net
      → sends_in s net passed ≡ sends_at (net_marks net passed.calls) 0 net.programs net.macs
      s.setting.scene.frames

-- at a place of the block class a client's record is a beginning of what it must get, a reply for
-- each response that it took, where these are no more than its requests
abbrev pub TellsReplies : Shown → BlkPlace → Type 0
TellsReplies s blk = (c k j : ℕ) (asks : List Ask) (pool : PoolAt) (entry : ℕ) (got : List Reply)
    → slice_get s.setting.blk.clients c ≡ Some k
    → slice_get s.setting.cast k ≡ Some (BlockPart (blk_client_at blk.first j asks pool))
    → slice_get blk.entries j ≡ Some entry → slice_get blk.asks j ≡ Some asks
    → slice_get s.state.blk c ≡ Some got → IsPrefix got (replies_of blk.image entry asks)
    × (length ((moved_in s.setting s.journal).taken (blk.first + 5 + 2 * j)) ≤ length asks
    → length got ≡ length ((moved_in s.setting s.journal).taken (blk.first + 5 + 2 * j)))

-- what stands in queues, in hands and is lent are the buffers of the cast's pools, one by one:
-- whatever is counted of them by pool, number and length, it is what all buffers of the pools
-- weigh, each with its pool's length
pub record TellsBuffers (place : PoolPlace) (s : Shown) : Type 0 where
  pub all : (f : Count) → counted f s.state.bodies ≡ pools_weigh f s.setting.cast
  -- so each buffer of each pool is there once
  pub once : (pool number : ℕ) → number < place_sizes place pool
      → counted (the_page (record { 0 = pool }) number) s.state.bodies ≡ 1
  -- and none of a pool that has buffers has another length than the pool's
  pub lengths : (i : ℕ) (p : Part) → slice_get s.setting.cast i ≡ Some p → (j : ℕ) (q : PoolAt)
      → slice_get (part_pools p) j ≡ Some q → 1 ≤ q.buffers
      → counted (of_other_length (record { 0 = q.number }) q.size) s.state.bodies ≡ 0

-- hostile clients record nothing: of the clients of this crew, each has an empty record whose actor
-- is one
abbrev pub IsSilent : {T : Type 0} → Shown → Crew → List (List T) → Type 0
IsSilent {T} s crew records = (c k : ℕ) (p : RoguePart) (got : List T)
    → slice_get crew.clients c ≡ Some k → slice_get s.setting.cast k ≡ Some (HostilePart p)
    → slice_get records c ≡ Some got → got ≡ []

-- line and records are what the journal says that device and clients took; those of the network and
-- of the block class, whose frames and blocks no journal has, are what their places say of them
pub record IsTold (s : Shown) : Type 0 where
  -- what passed, with the bodies of its entries, and all calls: their items are those that the
  -- journal tells, and by the calls each end looked in vain as often as it tells
  pub passed : Passed
  pub items : HaveItems passed (moved_in s.setting s.journal)
  pub line : s.state.line ≡ option_map (record_at s) s.setting.serial.device
  pub serial : s.state.serial ≡ map (record_at s) s.setting.serial.clients
  pub wire : is_some s.state.wire ≡ is_some s.setting.net.device
  pub net : length s.state.net ≡ length s.setting.net.clients
  pub frames : (net : NetPlace)
      → HasWholeIn s.setting.scene s.setting.rows net s.setting.cast → TellsFrames s passed net
  pub net_silent : IsSilent s s.setting.net s.state.net
  pub blk : length s.state.blk ≡ length s.setting.blk.clients
  pub replies : (blk : BlkPlace)
      → HasBlkIn s.setting.scene s.setting.rows blk s.setting.cast → TellsReplies s blk
  pub blk_silent : IsSilent s s.setting.blk s.state.blk
  -- the lines of the pools that aren't hostile clients' are those of the table of owners after the
  -- journal, from any table on with which it begins
  pub pools : (place : PoolPlace) → IsPlaced s.setting.rows place s.setting.cast
      → HasPools s.setting.pools place → (start : Table)
      → BeginsBeside s.setting.history s.setting.rows place s.setting.cast start
      → AreLinesOf (is_rogues (wild_by s.setting) place)
      (replay (owner_naming s.setting.rows place s.setting.cast) s.setting.history start s.journal)
      s.setting.pools s.state.pools
  -- so they are from the start state on, from the table on in which each pool's buffers are in the
  -- hand of the actor that owns it
  pub pools_anew : s.setting.history ≡ start_history s.setting.rows → (place : PoolPlace)
      → IsPlaced s.setting.rows place s.setting.cast → HasPools s.setting.pools place
      → AreLinesOf (is_rogues (wild_by s.setting) place)
      (replay (owner_naming s.setting.rows place s.setting.cast) (start_history s.setting.rows)
      (start_table (owner_keepers s.setting.rows place s.setting.cast)) s.journal)
      s.setting.pools s.state.pools
  -- without a network and a block class there are none
  pub no_pools : HasNoNetwork s.setting.cast → HasNoBlock s.setting.cast → s.state.pools ≡ []
  -- of hostile clients' pools nothing is lent; all lines count the pages that stand in queues, and
  -- their numbers are all buffers of their pools
  pub unlent : (place : PoolPlace) → IsPlaced s.setting.rows place s.setting.cast
      → HasPools s.setting.pools place
      → AreUnlent (is_rogues (wild_by s.setting) place) s.state.pools
  pub standing : CountStanding passed (length s.setting.rows) s.state.pools
  pub adds : AllAdd s.state.pools
  -- and the buffers are those of these pools, one by one
  pub buffers : (place : PoolPlace) → IsPlaced s.setting.rows place s.setting.cast
      → HasPools s.setting.pools place → TellsBuffers place s
  -- as bad was counted what the virtualisers took of their clients that was bad: where nobody is
  -- hostile, nothing
  pub bad : s.state.bad ≡ bad_among passed s.setting.cast
  pub none_bad : AllCalm s.setting.cast → s.state.bad ≡ 0

-- all that holds of every system
pub record StandsLawful (s : Shown) : Type 0 where
  pub fitted : IsFitted s.setting
  pub lawful : IsLawful s.setting s.journal
  pub told : IsTold s
  -- and of the bytes for serial clients, and the frames for network clients, those were dropped
  -- that its calls tell
  pub calls : HaveTold s.setting.history s.setting.cast s.journal told.passed.calls
