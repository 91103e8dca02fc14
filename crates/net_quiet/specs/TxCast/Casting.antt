-- The whole network in a system: the receive half with the sending virtualiser and the clients, at
-- the layout's queues, and what clients may put to be sent.
use Rattle.std.specs.Prelude.{◌≡◌, ◌+◌, ◌<◌, ◌≤◌, ℕ, Bool, true, false, Some, List, [], ◌∷◌, length}
use Rattle.std.specs.Prelude.{map, slice_get}
use Rattle.std.specs.List.{filter}
use Rattle.cargo_core.specs.declared.item.Item.{Item}
use Rattle.frame_core.specs.declared.mac.Mac.{Mac}
use Rattle.wire_core.specs.declared.names.Event.{Event}
use Rattle.wire_core.specs.Deeds.{Cargo}
use Rattle.wire_core.specs.Lists.{Passed}
use Rattle.wire_core.specs.Queues.{items_of}
use Rattle.play_core.specs.Names.{Wild, by_sort}
use Rattle.class_expect.specs.NetExpect.Expecting.{Program, Source}
use Rattle.buffer_kit.specs.Entries.{frame_of}
use Rattle.client_programs.specs.Net.Clients.{ClientRow}
use Rattle.client_programs.specs.declared.net.NetClient.{NetClient}
use Rattle.net_virt_tx.specs.Descriptors.{is_good}
use Rattle.net_virt_tx.specs.Sending.{TxRow}
use Rattle.net_virt_tx.specs.declared.NetVirtTx.{NetVirtTx}
use Rattle.net_law.specs.Receiving.{HasRoom}
use Rattle.net_law.specs.Dropped.{Marks, left_for, sends_upon, told_marks, told_used}
use Rattle.net_law.specs.Owners.Names.{ClientPools}
use Rattle.owner_law.specs.Pools.Places.{PoolAt}
use Rattle.net_law.specs.Parts.Numbers.{client_first, device_at, client_at}
use Rattle.net_law.specs.Parts.Playing.{device_part, client_part}
use Rattle.net_law.specs.TxParts.Numbers.{NetPlace, own_pools, sender_at}
use Rattle.net_law.specs.TxParts.Playing.{send_part}
use Rattle.net_law.specs.Wire.Telling.{told_frames}
use Rattle.net_quiet.specs.Cast.Casting.{IsCast, kept_frames}

-- the bytes of a frame: 14 to the most that one has
abbrev pub IsFrame : (most : ℕ) → List ℕ → Type 0
IsFrame most frame = (14 ≤ length frame) × (length frame ≤ most)

-- each of these frames has so many
abbrev pub AreFrames : (most : ℕ) → List (List ℕ) → Type 0
AreFrames most frames = (k : ℕ) (frame : List ℕ) → slice_get frames k ≡ Some frame
    → IsFrame most frame

-- an entry sends a frame in one of a pool's buffers: it is a good descriptor there, and the buffer
-- has as many bytes as the pool's
pub record IsSend (most : ℕ) (pool : PoolAt) (c : Cargo) : Type 0 where
  pub good : is_good (record { 0 = pool.number }) pool.buffers pool.size most c ≡ true
  pub long : HasRoom pool.size c.1

-- each of these entries does
abbrev pub AreSends : (most : ℕ) → PoolAt → List Cargo → Type 0
AreSends most pool cs = (k : ℕ) (c : Cargo) → slice_get cs k ≡ Some c → IsSend most pool c

-- of the frames that the device used up, whether each was dropped, as these calls tell
abbrev pub net_used : NetPlace → List Event → List Bool
net_used net calls = told_used net.device_drops net.first calls

-- those that it accepted
abbrev pub net_kept : NetPlace → (frames : List (List ℕ)) → List Event → List (List ℕ)
net_kept net frames calls = kept_frames net.first net.device_drops frames calls

-- of each client's leases, whether its copier dropped it, as these calls tell
abbrev pub net_marks : NetPlace → List Event → Marks
net_marks net calls = told_marks net.first net.drops calls

-- what each client sends by its program, from a number on, where it gets those of these frames that
-- are for it and aren't marked
abbrev pub sends_at : Marks → (k : ℕ) → List Program → List Mac → (frames : List (List ℕ))
    → List (List (List ℕ))
sends_at marks k [] macs frames = []
sends_at marks k (program ∷ programs) [] frames = []
sends_at marks k (program ∷ programs) (mac ∷ macs) frames =
    sends_upon program mac (left_for (marks k) mac frames)
    ∷ sends_at marks (k + 1) programs macs frames

-- the frames on the wire by the items that the device took: an item tells by its address whose
-- buffer it has, and of each client the frames come in their order
abbrev pub wire_at : NetPlace → Marks → (frames : List (List ℕ)) → (taken : List Item)
    → List (List ℕ)
wire_at net marks frames taken = told_frames (map (λ (q : ClientPools). q.tx) net.pools)
    (sends_at marks 0 net.programs net.macs frames) taken

-- the address, the pools and the program of the client of a number
pub record IsClientOf (net : NetPlace) (k : ℕ) (program : Program) (mac : Mac) (q : ClientPools) :
    Type 0 where
  pub address : slice_get net.macs k ≡ Some mac
  pub pools : slice_get net.pools k ≡ Some q
  pub plays : slice_get net.programs k ≡ Some program

-- a sending virtualiser has the class's queues and its clients' pools, and its row holds
pub record IsSenderAt (net : NetPlace) (v : NetVirtTx) (passed : Passed) : Type 0 where
  pub part : send_part v ≡ sender_at net.first net.most net.pools
  pub row : TxRow v passed

-- a client of a number has its queues, its program and its pools; it has buffers to receive in, and
-- its row holds
pub record IsSendingClient (net : NetPlace) (k : ℕ) (program : Program) (mac : Mac)
    (q : ClientPools) (c : NetClient) (passed : Passed) : Type 0 where
  pub part : client_part c ≡ client_at net.first k program mac (own_pools q)
  pub some : 1 ≤ c.stock.buffers
  pub row : ClientRow c passed

-- the receive half's actors and the sending virtualiser stand at their queues; an address has six
-- bytes; each frame, received or of a script, has 14 bytes to the most; and no frame is longer than
-- a buffer of any pool
pub record IsWholeCast (net : NetPlace) (frames : List (List ℕ)) (passed : Passed) : Type 0 where
  pub pools_many : length net.pools ≡ length net.macs
  pub programs_many : length net.programs ≡ length net.macs
  pub half : IsCast net.first net.device_drops frames net.pool net.macs net.drops passed
  pub device_at : device_part half.device ≡ device_at net.first frames net.device_drops
  pub sender : NetVirtTx
  pub sender_at : IsSenderAt net sender passed
  pub addresses : (k : ℕ) (mac : Mac) → slice_get net.macs k ≡ Some mac → length mac.0 ≡ 6
  pub received : AreFrames net.most frames
  pub scripts : (k : ℕ) (script : List (List ℕ)) → slice_get net.programs k ≡ Some (Source script)
      → AreFrames net.most script
  pub fits : net.most ≤ net.pool.size
  pub fits_client : (k : ℕ) (q : ClientPools) → slice_get net.pools k ≡ Some q
      → (net.most ≤ q.rx.size) × (net.most ≤ q.tx.size)

-- each client is there, where no hostile actor has an end of its queue
abbrev pub AreClients : Wild → NetPlace → Passed → Type 0
AreClients wild net passed = (k : ℕ) (program : Program) (mac : Mac) (q : ClientPools)
    → IsClientOf net k program mac q → wild (client_first net.first k + 4) ≡ false
    → (c : NetClient) × IsSendingClient net k program mac q c passed

-- each client put entries alone that send frames in buffers of its pool for sending, where no
-- hostile actor has an end of the queue
abbrev pub CalmSend : Wild → NetPlace → Passed → Type 0
CalmSend wild net passed = (k : ℕ) (q : ClientPools) → slice_get net.pools k ≡ Some q
    → wild (client_first net.first k + 4) ≡ false
    → AreSends net.most q.tx (passed.sent (client_first net.first k + 4))

-- no hostile actor has an end of a client's queue for sending
abbrev pub NoneHostile : Wild → NetPlace → Type 0
NoneHostile wild net = (k : ℕ) → k < length net.pools
    → wild (client_first net.first k + 4) ≡ false

-- the frames of the good descriptors that the virtualiser took from the client of a number
abbrev pub good_frames : (first most : ℕ) → Passed → (k : ℕ) → PoolAt → List (List ℕ)
good_frames first most passed k pool =
    map frame_of (filter (is_good (record { 0 = pool.number }) pool.buffers pool.size most)
    (passed.taken (client_first first k + 4)))

-- what clients send, from a number on: each by its program, where it gets those of these frames
-- that are for it and aren't marked, but a hostile one the frames of its good descriptors
abbrev pub sends_from : Wild → (first most : ℕ) → Marks → (frames : List (List ℕ)) → Passed
    → (k : ℕ) → List Program → List Mac → List ClientPools → List (List (List ℕ))
sends_from wild first most marks frames passed k [] macs pools = []
sends_from wild first most marks frames passed k (program ∷ programs) [] pools = []
sends_from wild first most marks frames passed k (program ∷ programs) (mac ∷ macs) [] = []
sends_from wild first most marks frames passed k (program ∷ programs) (mac ∷ macs) (q ∷ pools) =
    by_sort (wild (client_first first k + 4)) (good_frames first most passed k q.tx)
    (sends_upon program mac (left_for (marks k) mac frames))
    ∷ sends_from wild first most marks frames passed (k + 1) programs macs pools

-- so do all clients, of the frames that the device accepted and without those that the copiers
-- dropped
abbrev pub sends_beside : Wild → NetPlace → (frames : List (List ℕ)) → Passed
    → List (List (List ℕ))
sends_beside wild net frames passed = sends_from wild net.first net.most
    (net_marks net passed.calls) (net_kept net frames passed.calls) passed 0 net.programs net.macs
    net.pools

-- the frames on the wire by the items that the device took, where clients may be hostile
abbrev pub wire_beside : Wild → NetPlace → (frames : List (List ℕ)) → Passed → List (List ℕ)
wire_beside wild net frames passed = told_frames (map (λ (q : ClientPools). q.tx) net.pools)
    (sends_beside wild net frames passed) (items_of (passed.taken (net.first + 2)))
