-- What a block client asks, and what it records of the responses.
use Rattle.std.specs.Prelude.{◌≡◌, ◌+◌, ◌-◌, ◌*◌, ◌<◌, ◌≤◌, ◌^◌, ℕ, Bool, true, false, nat_le, min}
use Rattle.std.specs.Prelude.{if◌then◌else◌, Option, None, Some, List, [], ◌∷◌, ◌++◌, length, map}
use Rattle.std.specs.Prelude.{drop, option_to_list}
use Rattle.std.specs.Option.{ForSome}
use Rattle.cargo_core.specs.Blocks.{block_bytes, blk_buffer_bytes}
use Rattle.cargo_core.specs.declared.item.Ask.{Ask}
use Rattle.cargo_core.specs.declared.item.BlkResp.{BlkResp}
use Rattle.cargo_core.specs.declared.item.BlkStatus.{BlkStatus}
use Rattle.cargo_core.specs.declared.item.BlkStatus.TheVariants as Answered
use Rattle.cargo_core.specs.declared.item.Body.{Body}
use Rattle.cargo_core.specs.declared.item.Body.TheVariants as Carried
use Rattle.cargo_core.specs.declared.item.Code.{Code}
use Rattle.cargo_core.specs.declared.item.Code.TheVariants as Asked
use Rattle.cargo_core.specs.declared.item.Item.{Item}
use Rattle.cargo_core.specs.declared.item.Item.TheVariants as ItemOf
use Rattle.cargo_core.specs.declared.item.QueueKind.TheVariants as Kind
use Rattle.cargo_core.specs.declared.item.Reply.{Reply}
use Rattle.cargo_core.specs.Items.{kind_of}
use Rattle.cargo_core.specs.Lists.{replaced}
use Rattle.cargo_core.specs.Pages.{Paged}
use Rattle.wire_core.specs.Deeds.{Cargo}
use Rattle.buffer_kit.specs.Entries.{first_bytes}
use Rattle.buffer_kit.specs.Pools.{ArePool}
use Rattle.turn_kit.specs.Hands.{bodies_of}
use Rattle.client_programs.specs.declared.blk.asking.Asking.{Asking}

-- a request of this code needs a buffer
abbrev pub needs_buffer : Code → Bool
needs_buffer Asked.Read = true
needs_buffer Asked.Write = true
needs_buffer Asked.Flush = false
needs_buffer Asked.Barrier = false

-- the request for what is asked, with its number, at the buffer of an address
abbrev pub request_for : Ask → (id address : ℕ) → Item
request_for a id address = ItemOf.Req (record {
  addr = address;
  block = a.block;
  id = id;
  count = a.count;
  code = a.code;
})

-- a buffer with these bytes at its front, where it is long enough
abbrev pub written : List ℕ → Paged → Paged
written bytes page = if nat_le (length bytes) (length page.bytes) then (record {
  pool = page.pool;
  no = page.no;
  bytes = replaced page.bytes 0 bytes;
}) else page

-- a buffer as a request of this code takes it: that of a write holds its bytes
abbrev pub page_for : Code → List ℕ → Paged → Paged
page_for Asked.Write bytes page = written bytes page
page_for Asked.Read bytes page = page
page_for Asked.Flush bytes page = page
page_for Asked.Barrier bytes page = page

-- the entry that asks it in a buffer, whose offset is its address
abbrev pub asked_in : Ask → ℕ → Paged → Cargo
asked_in a id page =
    (request_for a id (page.no * blk_buffer_bytes), Carried.Page (page_for a.code a.fill page))

-- the entry that asks it without a buffer
abbrev pub asked_bare : Ask → ℕ → Cargo
asked_bare a id = (request_for a id 0, Carried.Empty)

-- what is asked, in its order and with rising numbers, in these buffers, in their order: as far as
-- a read or a write has one
abbrev pub asked_from : ℕ → List Ask → List Paged → List Cargo
asked_from id [] pages = []
asked_from id (a ∷ asks) [] =
    if needs_buffer a.code then [] else (asked_bare a id ∷ asked_from (id + 1) asks [])
asked_from id (a ∷ asks) (page ∷ pages) =
    if needs_buffer a.code then (asked_in a id page ∷ asked_from (id + 1) asks pages)
    else (asked_bare a id ∷ asked_from (id + 1) asks (page ∷ pages))

-- the response that an item is; one of another class says that a request was invalid
abbrev pub response_of : Item → BlkResp
response_of (ItemOf.Resp r) = r
response_of (ItemOf.Net d) = record { status = Answered.Invalid; count = 0; id = 0 }
response_of (ItemOf.Byte b) = record { status = Answered.Invalid; count = 0; id = 0 }
response_of (ItemOf.Req r) = record { status = Answered.Invalid; count = 0; id = 0 }

-- how many blocks a read asks for
abbrev pub read_blocks : Code → ℕ → ℕ
read_blocks Asked.Read count = count
read_blocks Asked.Write count = 0
read_blocks Asked.Flush count = 0
read_blocks Asked.Barrier count = 0

-- how many blocks came, by what a response says
abbrev pub came_blocks : BlkStatus → ℕ → ℕ
came_blocks Answered.Ok count = count
came_blocks Answered.Invalid count = 0
came_blocks Answered.NoDevice count = 0

-- how many bytes of its buffer a response brings: those of the blocks that came, where so many were
-- asked for
abbrev pub read_bytes : Ask → BlkResp → ℕ
read_bytes a r = min (read_blocks a.code a.count) (came_blocks r.status r.count) * block_bytes

-- what is recorded of a response: the response, and for a read that went well the first bytes of
-- its buffer
abbrev pub reply_to : Ask → Cargo → Reply
reply_to a c = record {
  resp = response_of c.0;
  bytes = first_bytes (read_bytes a (response_of c.0)) c.1;
}

-- the replies to what is asked, in its order, by the responses that came
abbrev pub replies_to : List Ask → List Cargo → List Reply
replies_to [] cs = []
replies_to (a ∷ asks) [] = []
replies_to (a ∷ asks) (c ∷ cs) = reply_to a c ∷ replies_to asks cs

-- the buffer of a body
abbrev pub page_in : Body → List Paged
page_in (Carried.Page page) = page ∷ []
page_in (Carried.Lease lease) = []
page_in Carried.Empty = []

-- the buffers that came with these entries
abbrev pub pages_in : List Cargo → List Paged
pages_in [] = []
pages_in (c ∷ cs) = page_in c.1 ++ pages_in cs

-- one more, where there is an entry
abbrev pub and_one : ℕ → Option Cargo → ℕ
and_one n None = n
and_one n (Some c) = n + 1

-- how many requests were made ready: those that were put, and the next one
abbrev pub made : Asking → ℕ
made w = and_one w.sent w.next

-- what is left of the script behind the requests that were made ready
abbrev pub left : Asking → List Ask
left w = drop (made w) w.script.items

-- how many bytes the reply to what was asked may have
abbrev pub reply_room : Option Ask → ℕ
reply_room None = 0
reply_room (Some a) = read_blocks a.code a.count * block_bytes

-- the bodies in its hand: that of the next request, and the buffers
abbrev pub asking_hand : Asking → List Body
asking_hand w = bodies_of (option_to_list w.next)
    ++ map (λ (p : Paged). Carried.Page p) w.kept.pages

-- a request is ready where one can be put; no more was answered than was put; and the buffers in
-- hand are those of the start and those that came, which together with the script are few
pub record IsAsking (w : Asking) : Type 0 where
  pub few : length w.script.items < 2 ^ 32
  pub within : made w ≤ length w.script.items
  pub kind : ForSome w.next (λ c. kind_of c.0 ≡ Kind.Req)
  pub ready : w.next ≡ None → asked_from w.sent (left w) w.kept.pages ≡ []
  pub answered : length w.kept.shown ≤ w.sent
  pub hold : length w.kept.pages ≤ w.buffers + length w.kept.shown
  pub room : w.buffers + length w.script.items < 2 ^ 32 - 2

-- these are its buffers at the start, in rising number
pub record IsHoard (w : Asking) (start : List Paged) : Type 0 where
  pub are_pool : ArePool 0 w.pool blk_buffer_bytes start
  pub many : length start ≡ w.buffers

-- it put its requests in their order, in its buffers as they came to hand, and whatever buffers
-- came further, it would go on so; it recorded what came, of which each answers a request that was
-- put
pub record AskingStands (w : Asking) (start : List Paged) (came put : List Cargo) : Type 0 where
  pub asks : (more : List Paged) → put ++ (option_to_list w.next ++ asked_from (made w) (left w)
      (w.kept.pages ++ more)) ≡ asked_from 0 w.script.items (start ++ (pages_in came ++ more))
  pub sent_many : w.sent ≡ length put
  pub replied : w.kept.shown ≡ replies_to w.script.items came
  pub answered : length came ≤ length put

-- the script and the buffers of which it had all at the start stay
pub record SameAsking (old new : Asking) : Type 0 where
  pub script : new.script ≡ old.script
  pub same_pool : new.pool ≡ old.pool
  pub buffers : new.buffers ≡ old.buffers
