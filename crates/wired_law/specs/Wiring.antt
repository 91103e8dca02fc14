-- The actors of the network and of the block class in a cast: of either there are none, or they are
-- the whole class at the layout's queues.
use Rattle.std.specs.Prelude.{◌≡◌, ◌⊎◌, ◌+◌, ◌*◌, ◌<◌, ◌≤◌, ℕ, true, false, Some, List, []}
use Rattle.std.specs.Prelude.{length, slice_get}
use Rattle.cargo_core.specs.Blocks.{block_bytes}
use Rattle.cargo_core.specs.Items.{kind_of}
use Rattle.cargo_core.specs.Lists.{IsPrefix}
use Rattle.cargo_core.specs.declared.item.Ask.{Ask}
use Rattle.cargo_core.specs.declared.item.QueueKind.TheVariants as Kind
use Rattle.frame_core.specs.declared.mac.Mac.{Mac}
use Rattle.wire_core.specs.declared.names.QueueRow.{QueueRow}
use Rattle.wire_core.specs.Deeds.{Cargo}
use Rattle.wire_core.specs.Ends.{Role, End}
use Rattle.wire_core.specs.Lists.{Passed}
use Rattle.play_core.specs.Names.{Names, Wild, names_at, wild_in}
use Rattle.play_core.specs.Sheets.{Scene, Sheet}
use Rattle.net_law.specs.Receiving.{HandsOver}
use Rattle.class_expect.specs.NetExpect.Expecting.{Program, Source}
use Rattle.net_law.specs.Owners.Names.{ClientPools}
use Rattle.owner_law.specs.Pools.Places.{PoolAt}
use Rattle.net_law.specs.Parts.Parts.{NetPart}
use Rattle.net_law.specs.Parts.Numbers.{client_first, device_at, driver_at, receiver_at}
use Rattle.net_law.specs.Parts.Numbers.{copier_at, client_at, policy_at}
use Rattle.net_law.specs.TxParts.Parts.{SendPart}
use Rattle.net_law.specs.TxScene.Playing.{ReturnsGood}
use Rattle.net_virt_tx.specs.Sending.{TxRow}
use Rattle.net_virt_tx.specs.declared.NetVirtTx.{NetVirtTx}
use Rattle.net_law.specs.TxParts.Numbers.{NetPlace, own_pools, sender_at}
use Rattle.net_quiet.specs.TxCast.Casting.{AreFrames, CalmSend, IsClientOf}
use Rattle.blk_law.specs.Sheets.Parts.{BlkPart, BlkClient}
use Rattle.blk_law.specs.Sheets.Numbers.{BlkPlace, IsBlkClientOf, disk_at, blk_driver_at, virt_at}
use Rattle.blk_law.specs.Sheets.Numbers.{blk_client_at}
use Rattle.blk_quiet.specs.Cast.Casting.{AreRequests}
use Rattle.blk_law.specs.Replying.{AreSized}
use Rattle.blk_law.specs.Sheets.Playing.{DiskInTurn}
use Rattle.actor_set.specs.Parts.{Part, NetworkPart, SendingPart, BlockPart}
use Rattle.actor_set.specs.Actors.{FitsActor, ActorStandsFor}
use Rattle.actor_set.specs.declared.actor.Actor.{Actor}
use Rattle.actor_set.specs.declared.actor.Actor.TheVariants as Kinds
use Rattle.actor_set.specs.declared.disk.Disk.{Disk}
use Rattle.actor_set.specs.Laws.Kinds.{hostiles, scene_of}
use Rattle.actor_set.specs.Laws.Scenes.{told_sheet}

-- what is said of each part of a cast, in a scene: of a virtualiser with hostile clients by the
-- names that are told, of all others by items alone
abbrev pub told_in : Scene → List QueueRow → List Part → Names → Part → Sheet
told_in scene rows cast names = told_sheet scene (wild_in (hostiles cast) rows) names

-- some actor of a cast plays this part
abbrev pub HasPart : List Part → Part → Type 0
HasPart cast p = (k : ℕ) × (slice_get cast k ≡ Some p)

-- a part is one of the network's at its place: that of the device, the driver, the receiving
-- virtualiser or the sending one, or that of a client's copier or of a client
abbrev pub IsOfNetwork : NetPlace → (frames : List (List ℕ)) → Part → Type 0
IsOfNetwork net frames p =
    (p ≡ NetworkPart (device_at net.first frames net.device_drops))
    ⊎ (p ≡ NetworkPart (driver_at net.first))
    ⊎ (p ≡ NetworkPart (receiver_at net.first net.pool net.macs))
    ⊎ (p ≡ SendingPart (sender_at net.first net.most net.pools))
    ⊎ ((k : ℕ) × (k < length net.macs)
    × (p ≡ NetworkPart (copier_at net.first k (policy_at net.drops k))))
    ⊎ ((k : ℕ) × (program : Program) × (mac : Mac) × (q : ClientPools)
    × IsClientOf net k program mac q
    × (p ≡ NetworkPart (client_at net.first k program mac (own_pools q))))

-- a cast has the whole network, in a scene, and no other actor of it, each client where no hostile
-- actor has an end of its queue; its device waits for buffers; a client's two queues for sending both have a hostile end or
-- neither; each client has buffers to receive in, and an address of six bytes; the class's queues
-- carry entries of the network; each frame, received or of a script, has 14 bytes to the most; and
-- no frame is longer than a buffer of any pool, or than an entry can say
pub record HasWholeIn (scene : Scene) (rows : List QueueRow) (net : NetPlace) (cast : List Part) :
    Type 0 where
  pub pools_many : length net.pools ≡ length net.macs
  pub programs_many : length net.programs ≡ length net.macs
  pub device : HasPart cast (NetworkPart (device_at net.first scene.frames net.device_drops))
  pub waits : net.device_drops ≡ false
  pub driver : HasPart cast (NetworkPart (driver_at net.first))
  pub receiver : HasPart cast (NetworkPart (receiver_at net.first net.pool net.macs))
  pub sender : HasPart cast (SendingPart (sender_at net.first net.most net.pools))
  pub copier : (k : ℕ) → k < length net.macs
      → HasPart cast (NetworkPart (copier_at net.first k (policy_at net.drops k)))
  pub client : (k : ℕ) (program : Program) (mac : Mac) (q : ClientPools)
      → IsClientOf net k program mac q
      → wild_in (hostiles cast) rows (client_first net.first k + 4) ≡ false
      → HasPart cast (NetworkPart (client_at net.first k program mac (own_pools q)))
  pub both : (k : ℕ) → k < length net.macs
      → wild_in (hostiles cast) rows (client_first net.first k + 4)
      ≡ wild_in (hostiles cast) rows (client_first net.first k + 5)
  pub only : (k : ℕ) (p : NetPart) → slice_get cast k ≡ Some (NetworkPart p)
      → IsOfNetwork net scene.frames (NetworkPart p)
  pub only_sender : (k : ℕ) (p : SendPart) → slice_get cast k ≡ Some (SendingPart p)
      → IsOfNetwork net scene.frames (SendingPart p)
  pub kinds : (i : ℕ) → i < 8 + 6 * length net.macs → (row : QueueRow)
      × (slice_get rows (net.first + i) ≡ Some row) × (row.kind ≡ Kind.Net)
  pub some : (k : ℕ) (q : ClientPools) → slice_get net.pools k ≡ Some q → 1 ≤ q.rx.buffers
  pub addresses : (k : ℕ) (mac : Mac) → slice_get net.macs k ≡ Some mac → length mac.0 ≡ 6
  pub frames : AreFrames net.most scene.frames
  pub scripts : (k : ℕ) (script : List (List ℕ)) → slice_get net.programs k ≡ Some (Source script)
      → AreFrames net.most script
  pub told : net.most < 65536
  pub fits : net.most ≤ net.pool.size
  pub fits_client : (k : ℕ) (q : ClientPools) → slice_get net.pools k ≡ Some q
      → (net.most ≤ q.rx.size) × (net.most ≤ q.tx.size)

-- a cast has the whole network, in its own scene
abbrev pub HasWhole : List QueueRow → NetPlace → List Part → Type 0
HasWhole rows net cast = HasWholeIn (scene_of cast) rows net cast

-- a cast has no actor of the network
pub record HasNoNetwork (cast : List Part) : Type 0 where
  pub none : (k : ℕ) (p : NetPart) → slice_get cast k ≡ Some (NetworkPart p) → ⊥
  pub no_sender : (k : ℕ) (p : SendPart) → slice_get cast k ≡ Some (SendingPart p) → ⊥

-- a part is one of the block class's at its place: that of the disk, the driver, the virtualiser
-- or a client
abbrev pub IsOfBlock : BlkPlace → BlkPart → Type 0
IsOfBlock place p = (p ≡ disk_at place) ⊎ (p ≡ blk_driver_at place.first) ⊎ (p ≡ virt_at place)
    ⊎ ((k entry : ℕ) × (asks : List Ask) × (pool : PoolAt) × IsBlkClientOf place k entry asks pool
    × (p ≡ blk_client_at place.first k asks pool))

-- a cast has the whole block class and no other actor of it, each client where no hostile actor has
-- an end of its queue; each client has a buffer; requests go to the driver; the disk has some
-- blocks, which the scene tells; what a client writes has the size that it says; and no two clients
-- have the same entry of the table of partitions
pub record HasBlkIn (scene : Scene) (rows : List QueueRow) (place : BlkPlace) (cast : List Part) :
    Type 0 where
  pub asks_many : length place.asks ≡ length place.entries
  pub pools_many : length place.pools ≡ length place.entries
  pub disk : HasPart cast (BlockPart (disk_at place))
  pub driver : HasPart cast (BlockPart (blk_driver_at place.first))
  pub virt : HasPart cast (BlockPart (virt_at place))
  pub client : (k entry : ℕ) (asks : List Ask) (pool : PoolAt)
      → IsBlkClientOf place k entry asks pool
      → wild_in (hostiles cast) rows (place.first + 4 + 2 * k) ≡ false
      → HasPart cast (BlockPart (blk_client_at place.first k asks pool))
  pub only : (k : ℕ) (p : BlkPart) → slice_get cast k ≡ Some (BlockPart p) → IsOfBlock place p
  pub requests : (row : QueueRow) × (slice_get rows (place.first + 2) ≡ Some row)
      × (row.kind ≡ Kind.Req)
  pub some : (k : ℕ) (pool : PoolAt) → slice_get place.pools k ≡ Some pool → 1 ≤ pool.buffers
  pub blocks : ℕ
  pub some_blocks : 1 ≤ blocks
  pub image_long : length place.image ≡ blocks * block_bytes
  pub image_is : scene.image ≡ place.image
  pub sized : (k : ℕ) (asks : List Ask) → slice_get place.asks k ≡ Some asks → AreSized asks
  pub apart : (j k entry : ℕ) → slice_get place.entries j ≡ Some entry
      → slice_get place.entries k ≡ Some entry → j ≡ k

-- a cast has the whole block class, in its own scene
abbrev pub HasBlk : List QueueRow → BlkPlace → List Part → Type 0
HasBlk rows place cast = HasBlkIn (scene_of cast) rows place cast

-- a cast has no actor of the block class
abbrev pub HasNoBlock : List Part → Type 0
HasNoBlock cast = (k : ℕ) (p : BlkPart) → slice_get cast k ≡ Some (BlockPart p) → ⊥

-- a cast has no actor of the network, or the whole network; and none of the block class, or the
-- whole class
pub record IsWiredIn (scene : Scene) (rows : List QueueRow) (cast : List Part) : Type 0 where
  pub network : HasNoNetwork cast ⊎ ((net : NetPlace) × HasWholeIn scene rows net cast)
  pub block : HasNoBlock cast ⊎ ((place : BlkPlace) × HasBlkIn scene rows place cast)

-- so it is in the cast's own scene
abbrev pub IsWired : List QueueRow → List Part → Type 0
IsWired rows cast = IsWiredIn (scene_of cast) rows cast

-- each block client that isn't hostile put requests in its own buffers alone
abbrev pub ClientsAsk : List Part → Passed → Type 0
ClientsAsk cast passed = (k req resp : ℕ) (asks : List Ask) (pool : PoolAt)
    → hostiles cast k ≡ false → slice_get cast k ≡ Some (BlockPart (BlkClient req resp asks pool))
    → AreRequests pool (passed.sent req)

-- wherever the network stands in a cast, each of its clients put entries alone that send frames in
-- buffers of its pool for sending, where no hostile actor has an end of the queue
abbrev pub NetClientsSendIn : Scene → List QueueRow → List Part → Passed → Type 0
NetClientsSendIn scene rows cast passed =
    (net : NetPlace) → HasWholeIn scene rows net cast
    → CalmSend (wild_in (hostiles cast) rows) net passed

-- so they did, and each block client that isn't hostile put requests in its own buffers alone
pub record ClientsSendIn (scene : Scene) (rows : List QueueRow) (cast : List Part)
    (passed : Passed) : Type 0 where
  pub frames : NetClientsSendIn scene rows cast passed
  pub requests : ClientsAsk cast passed

-- so they did, in the cast's own scene
abbrev pub ClientsSend : List QueueRow → List Part → Passed → Type 0
ClientsSend rows cast passed = ClientsSendIn (scene_of cast) rows cast passed

-- what was put to each queue is of the queue's kind
abbrev pub AreOfKind : List QueueRow → Passed → Type 0
AreOfKind rows passed = (n : ℕ) (row : QueueRow) → slice_get rows n ≡ Some row
    → (k : ℕ) (c : Cargo) → slice_get (passed.sent n) k ≡ Some c → kind_of c.0 ≡ row.kind

-- actors fit their ends and stand for what passed there, which queues handed over in order, each
-- what is of its kind
pub record AreAtWork (ends : Role → ℕ → End) (rows : List QueueRow) (actors : List Actor)
    (passed : Passed) : Type 0 where
  pub fits : (k : ℕ) (x : Actor) → slice_get actors k ≡ Some x → FitsActor ends x
  pub stands : (k : ℕ) (x : Actor) → slice_get actors k ≡ Some x → ActorStandsFor x passed
  pub hands_over : HandsOver passed
  pub kinds : AreOfKind rows passed

-- the names tell of all that was put to the queues of which they are kept, and perhaps of more
abbrev pub TellsKept : Wild → Names → Passed → Type 0
TellsKept wild names passed = (n : ℕ) → wild n ≡ true → IsPrefix (names_at passed n) (names n)

-- nothing comes out of turn, whatever hostile clients put, where what they put may do so: at the
-- network's sending virtualiser, to which good descriptors alone come back, and at the disk
pub record AreInTurn (wild : Wild) (actors : List Actor) (passed : Passed) : Type 0 where
  pub sends : (k : ℕ) (v : NetVirtTx) → slice_get actors k ≡ Some (Kinds.NetVirtTx v)
      → (row : TxRow v passed) → row.stray ≡ []
  pub returns : (k : ℕ) (v : NetVirtTx) → slice_get actors k ≡ Some (Kinds.NetVirtTx v)
      → ReturnsGood wild v passed
  pub disk : (k : ℕ) (d : Disk) → slice_get actors k ≡ Some (Kinds.DiskDevice d)
      → DiskInTurn d.start.value d.device passed
