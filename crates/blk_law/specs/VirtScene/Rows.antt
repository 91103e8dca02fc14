-- What the block virtualiser may have put for what it took, of items and the names of their pages,
-- whoever its clients are.
use Rattle.std.specs.Prelude.{◌≡◌, ◌+◌, ◌*◌, ◌==◌, ◌&&◌, ◌≤◌, ◌^◌, ◌%◌, ℕ, Bool, false, nat_lt}
use Rattle.std.specs.Prelude.{if◌then◌else◌, Option, Some, None, List, [], ◌∷◌, length, map, drop}
use Rattle.std.specs.Prelude.{slice_get}
use Rattle.std.specs.List.{filter}
use Rattle.cargo_core.specs.Lists.{IsPrefix, PrefixMerge}
use Rattle.cargo_core.specs.declared.item.BlkStatus.{BlkStatus}
use Rattle.cargo_core.specs.declared.item.Item.{Item}
use Rattle.cargo_core.specs.declared.item.Item.TheVariants as ItemOf
use Rattle.play_core.specs.Moved.{Moved}
use Rattle.play_core.specs.Names.{Named, Names, Wild, by_sort, items_in, named}
use Rattle.play_core.specs.Totals.{total}
use Rattle.blk_mbr.specs.declared.part.Part.{Part}
use Rattle.class_expect.specs.BlkExpect.Judging.{status_of}
use Rattle.class_expect.specs.BlkExpect.Replies.{partition_in}
use Rattle.blk_virt.specs.Requests.{request_of, is_ok}
use Rattle.owner_law.specs.Pools.Places.{PoolAt}
use Rattle.blk_law.specs.Sheets.Parts.{Sharer}
use Rattle.blk_law.specs.Sheets.Rows.{IsRequestIn, first_item, item_for_disk, items_back}
use Rattle.blk_law.specs.Sheets.Rows.{judged_item, numbered_item, passed_item}

-- a request, and how it is judged
abbrev pub Judged : Type 0
Judged = Item × BlkStatus

-- the buffer of a request is one of a pool, by its item and the name of the page that it carries
abbrev pub is_own_at : PoolAt → Named → Bool
is_own_at p (item, None) = false
is_own_at p (item, Some tag) = (tag.pool == p.number)
    && (nat_lt tag.number p.buffers && ((request_of item).addr == tag.number * p.size))

-- how a request of a pool's owner is judged, by its item and the name of its page
abbrev pub judged_at : PoolAt → Option Part → Named → BlkStatus
judged_at p part x = status_of (is_own_at p x) part (request_of x.0).code (request_of x.0).block
    (request_of x.0).count

-- a request with how it is judged, by the name of its page
abbrev pub by_name : PoolAt → Option Part → Named → Judged
by_name p part x = (x.0, judged_at p part x)

-- a request with how it is judged, whose buffer is its client's own
abbrev pub by_item : Option Part → Item → Judged
by_item part i = (i, judged_item part i)

-- the requests that came from a client, each with how it is judged: of a client that isn't hostile
-- each as one whose buffer is its own, and no name is asked
abbrev pub judge : List ℕ → Wild → Names → Sharer → List Item → List Judged
judge image wild names c came = by_sort (wild c.req)
    (map (by_name c.pool (partition_in image c.entry)) (named came (names c.req)))
    (map (by_item (partition_in image c.entry)) came)

-- of what came from a client, what is at a buffer of its own: all, where the client isn't hostile
abbrev pub owns : Wild → Names → Sharer → List Item → List Item
owns wild names c came =
    by_sort (wild c.req) (items_in (filter (is_own_at c.pool) (named came (names c.req)))) came

-- what of these requests goes to the disk, their numbers aside
abbrev pub going_on : (base : ℕ) → Option Part → List Judged → List Item
going_on base part js =
    map (λ (j : Judged). item_for_disk base part j.0) (filter (λ (j : Judged). is_ok j.1) js)

-- the answer to a request that isn't sent on
abbrev pub refused_item : Judged → Item
refused_item j = ItemOf.Resp (record { status = j.1; count = 0; id = (request_of j.0).id })

-- the answers to these requests, in their order, as far as the disk has answered
abbrev pub all_answers : List Judged → List Item → List Item
all_answers [] back = []
all_answers (j ∷ js) [] =
    if is_ok j.1 then [] else (refused_item j ∷ all_answers js [])
all_answers (j ∷ js) (y ∷ back) =
    if is_ok j.1 then (passed_item (request_of j.0).id y ∷ all_answers js back)
    else (refused_item j ∷ all_answers js (y ∷ back))

-- what of a client's requests goes to the disk, their numbers aside
abbrev pub requests_told : List ℕ → Wild → Names → Moved → Sharer → List Item
requests_told image wild names m c = going_on c.pool.base (partition_in image c.entry)
    (judge image wild names c (m.taken c.req))

-- the same of each client
abbrev pub all_told : List ℕ → Wild → Names → List Sharer → Moved → List (List Item)
all_told image wild names clients m = map (requests_told image wild names m) clients

-- how many requests are due to the driver: the virtualiser's own, and what goes to the disk
abbrev pub told_due : List ℕ → Wild → Names → List Sharer → Moved → ℕ
told_due image wild names clients m = 1 + total (all_told image wild names clients m)

-- the answers that are due to a client, by what went to the driver and what came from there behind
-- the virtualiser's own request
abbrev pub answers_told : List ℕ → Wild → Names → (req resp : ℕ) → Moved → Sharer → List Item
answers_told image wild names req resp m c = all_answers (judge image wild names c (m.taken c.req))
    (items_back c.pool (drop 1 (m.sent req)) (drop 1 (m.taken resp)))

-- what the virtualiser may have put, by the partitions of this image: first its own request, and
-- then a merge of beginnings of what of each client's requests goes to the disk, all with rising
-- numbers; and to each client its answers in their order. No more responses came than it put
-- requests; before the first one came it took no request, and of a client it took at most one more
-- than it answered; and of what came from a client, what is its own came at its buffers
pub record AnswersBoth (image : List ℕ) (wild : Wild) (names : Names) (req resp : ℕ)
    (pool : PoolAt) (clients : List Sharer) (m : Moved) : Type 0 where
  pub first : IsPrefix (m.sent req) (first_item pool ∷ drop 1 (m.sent req))
  pub numbers : (j : ℕ) (i : Item) → slice_get (m.sent req) j ≡ Some i
      → (request_of i).id ≡ j % 2 ^ 32
  pub merges : PrefixMerge (all_told image wild names clients m)
      (map (numbered_item 0) (drop 1 (m.sent req)))
  pub answered : length (m.taken resp) ≤ length (m.sent req)
  pub waits : m.taken resp ≡ [] → (k : ℕ) (c : Sharer) → slice_get clients k ≡ Some c
      → m.taken c.req ≡ []
  pub gives : (k : ℕ) (c : Sharer) → slice_get clients k ≡ Some c
      → IsPrefix (m.sent c.resp) (answers_told image wild names req resp m c)
  pub one : (k : ℕ) (c : Sharer) → slice_get clients k ≡ Some c
      → length (m.taken c.req) ≤ length (m.sent c.resp) + 1
  pub came : (k : ℕ) (c : Sharer) → slice_get clients k ≡ Some c → (j : ℕ) (i : Item)
      → slice_get (owns wild names c (m.taken c.req)) j ≡ Some i → IsRequestIn c.pool i
