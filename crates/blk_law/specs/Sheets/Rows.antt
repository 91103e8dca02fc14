-- What each actor of the block class may have put for what it took, of items alone.
use Rattle.std.specs.Prelude.{◌≡◌, ◌+◌, ◌*◌, ◌<◌, ◌≤◌, ◌^◌, ◌%◌, ℕ, Bool, true, nat_lt}
use Rattle.std.specs.Prelude.{if◌then◌else◌, Option, Some, List, [], ◌∷◌, length, map, take, drop}
use Rattle.std.specs.Prelude.{slice_get}
use Rattle.std.specs.List.{filter}
use Rattle.cargo_core.specs.Lists.{IsPrefix, PrefixMerge}
use Rattle.cargo_core.specs.Ranges.{is_within}
use Rattle.cargo_core.specs.declared.item.Ask.{Ask}
use Rattle.cargo_core.specs.declared.item.BlkStatus.{BlkStatus}
use Rattle.cargo_core.specs.declared.item.Code.TheVariants as Asked
use Rattle.cargo_core.specs.declared.item.Item.{Item}
use Rattle.cargo_core.specs.declared.item.Item.TheVariants as ItemOf
use Rattle.play_core.specs.Moved.{Moved}
use Rattle.play_core.specs.Totals.{total}
use Rattle.device_model.specs.Disk.Serving.{resp_to}
use Rattle.blk_mbr.specs.declared.part.Part.{Part}
use Rattle.class_expect.specs.BlkExpect.Judging.{status_of}
use Rattle.class_expect.specs.BlkExpect.Replies.{partition_in}
use Rattle.client_programs.specs.Blk.Asking.{needs_buffer, request_for}
use Rattle.blk_virt.specs.Requests.{request_of, response_of, is_ok, first_block, asked_of_disk}
use Rattle.blk_virt.specs.Requests.{moves_blocks}
use Rattle.owner_law.specs.Pools.Places.{PoolAt}
use Rattle.blk_law.specs.Sheets.Parts.{Sharer}

-- the response of a disk to a request; an item that is none is never answered
abbrev pub answer_item : Item → Item
answer_item (ItemOf.Req r) = resp_to r
answer_item (ItemOf.Net d) = ItemOf.Net d
answer_item (ItemOf.Byte b) = ItemOf.Byte b
answer_item (ItemOf.Resp r) = ItemOf.Resp r

-- how many of these requests need a buffer
abbrev pub buffers_for : List Ask → ℕ
buffers_for [] = 0
buffers_for (a ∷ asks) =
    if needs_buffer a.code then (1 + buffers_for asks) else buffers_for asks

-- the requests for what is asked, in their order and with rising numbers, as far as a read or a
-- write has a buffer, where so many were used of so many that came to hand: the buffers of a pool,
-- so many of this size, come to hand in rising number, and again in the order in which they were
-- used
abbrev pub asked_items : (id used hand buffers size : ℕ) → List Ask → List Item
asked_items id used hand buffers size [] = []
asked_items id used hand buffers size (a ∷ asks) =
    if needs_buffer a.code then (if nat_lt used hand then
    (request_for a id ((used % buffers) * size)
    ∷ asked_items (id + 1) (used + 1) hand buffers size asks)
    else []) else (request_for a id 0 ∷ asked_items (id + 1) used hand buffers size asks)

-- the requests that a client can have put where so many responses came: each brought the buffer of
-- its request back
abbrev pub client_requests : List Ask → PoolAt → (came : ℕ) → List Item
client_requests asks pool came =
    asked_items 0 0 (pool.buffers + buffers_for (take came asks)) pool.buffers pool.size asks

-- what a client may have put: those requests, in their order; and no more responses came than it
-- put requests
pub record AsksInOrder (asks : List Ask) (pool : PoolAt) (came put : List Item) : Type 0 where
  pub begins : IsPrefix put (client_requests asks pool (length came))
  pub answered : length came ≤ length put

-- how a request is judged, whose buffer is its client's own
abbrev pub judged_item : Option Part → Item → BlkStatus
judged_item part i =
    status_of true part (request_of i).code (request_of i).block (request_of i).count

-- it is sent on to the disk
abbrev pub goes_on_item : Option Part → Item → Bool
goes_on_item part i = is_ok (judged_item part i)

-- a request as it goes to the disk, its number aside
abbrev pub item_for_disk : ℕ → Option Part → Item → Item
item_for_disk base part i =
    ItemOf.Req (asked_of_disk (request_of i).code base (first_block part) (request_of i))

-- the same request with another number
abbrev pub numbered_item : ℕ → Item → Item
numbered_item n i = ItemOf.Req (record (request_of i) { id = n })

-- the answer to a request that isn't sent on
abbrev pub refusal_item : Option Part → Item → Item
refusal_item part i = ItemOf.Resp (record {
  status = judged_item part i;
  count = 0;
  id = (request_of i).id;
})

-- the answer to a request with this number, by the disk's response
abbrev pub passed_item : ℕ → Item → Item
passed_item id i = ItemOf.Resp (record {
  status = (response_of i).status;
  count = (response_of i).count;
  id = id;
})

-- a request of the driver's queue is at one of a pool's buffers
abbrev pub is_item_at : PoolAt → Item → Bool
is_item_at p i =
    is_within (record { base = p.base; size = p.buffers * p.size }) (request_of i).addr

-- of the responses from the driver, of which each answers the request of its place, those to
-- requests at a pool's buffers
abbrev pub items_back : PoolAt → List Item → List Item → List Item
items_back p [] back = []
items_back p (x ∷ sent) [] = []
items_back p (x ∷ sent) (y ∷ back) =
    if is_item_at p x then (y ∷ items_back p sent back) else items_back p sent back

-- the answers to a client's requests, in their order, as far as the disk has answered
abbrev pub answer_items : Option Part → List Item → List Item → List Item
answer_items part [] back = []
answer_items part (x ∷ xs) [] =
    if goes_on_item part x then [] else (refusal_item part x ∷ answer_items part xs [])
answer_items part (x ∷ xs) (y ∷ back) =
    if goes_on_item part x then (passed_item (request_of x).id y ∷ answer_items part xs back)
    else (refusal_item part x ∷ answer_items part xs (y ∷ back))

-- what of a client's requests goes to the disk, their numbers aside
abbrev pub requests_on : List ℕ → Moved → Sharer → List Item
requests_on image m c = map (item_for_disk c.pool.base (partition_in image c.entry))
    (filter (goes_on_item (partition_in image c.entry)) (m.taken c.req))

-- the same of each client
abbrev pub all_requests : List ℕ → List Sharer → Moved → List (List Item)
all_requests image clients m = map (requests_on image m) clients

-- how many requests are due to the driver: the virtualiser's own, and what goes to the disk
abbrev pub requests_due : List ℕ → List Sharer → Moved → ℕ
requests_due image clients m = 1 + total (all_requests image clients m)

-- the answers that are due to a client, by what went to the driver and what came from there behind
-- the virtualiser's own request
abbrev pub answers_due : List ℕ → (req resp : ℕ) → Moved → Sharer → List Item
answers_due image req resp m c = answer_items (partition_in image c.entry) (m.taken c.req)
    (items_back c.pool (drop 1 (m.sent req)) (drop 1 (m.taken resp)))

-- the virtualiser's own request: a read of the first block in its buffer
abbrev pub first_item : PoolAt → Item
first_item pool = ItemOf.Req
    (record { addr = pool.base; block = 0; id = 0; count = 1; code = Asked.Read })

-- a read or a write is at the offset of one of a pool's buffers
abbrev pub IsRequestIn : PoolAt → Item → Type 0
IsRequestIn p i = moves_blocks (request_of i).code ≡ true
    → (number : ℕ) × (number < p.buffers) × ((request_of i).addr ≡ number * p.size)

-- what the virtualiser may have put, by the partitions of this image: first its own request, and
-- then a merge of beginnings of what of each client's requests goes to the disk, all with rising
-- numbers; and to each client its answers in their order. No more responses came than it put
-- requests; before the first one came it took no request, and of a client it took at most one more
-- than it answered; and each read and write came at a buffer of its client
pub record ServesRequests (image : List ℕ) (req resp : ℕ) (pool : PoolAt) (clients : List Sharer)
    (m : Moved) : Type 0 where
  pub first : IsPrefix (m.sent req) (first_item pool ∷ drop 1 (m.sent req))
  pub numbers : (j : ℕ) (i : Item) → slice_get (m.sent req) j ≡ Some i
      → (request_of i).id ≡ j % 2 ^ 32
  pub merges : PrefixMerge (all_requests image clients m)
      (map (numbered_item 0) (drop 1 (m.sent req)))
  pub answered : length (m.taken resp) ≤ length (m.sent req)
  pub waits : m.taken resp ≡ [] → (k : ℕ) (c : Sharer) → slice_get clients k ≡ Some c
      → m.taken c.req ≡ []
  pub gives : (k : ℕ) (c : Sharer) → slice_get clients k ≡ Some c
      → IsPrefix (m.sent c.resp) (answers_due image req resp m c)
  pub one : (k : ℕ) (c : Sharer) → slice_get clients k ≡ Some c
      → length (m.taken c.req) ≤ length (m.sent c.resp) + 1
  pub came : (k : ℕ) (c : Sharer) → slice_get clients k ≡ Some c → (j : ℕ) (i : Item)
      → slice_get (m.taken c.req) j ≡ Some i → IsRequestIn c.pool i
