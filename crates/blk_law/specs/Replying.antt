-- What a client's replies are, where its requests are answered by a disk that has the bytes of its
-- partition alone.
use Rattle.std.specs.Prelude.{◌≡◌, ◌+◌, ◌*◌, ◌≤◌, ℕ, true, Option, List, [], ◌∷◌, All, length, take}
use Rattle.cargo_core.specs.Blocks.{block_bytes}
use Rattle.cargo_core.specs.declared.item.Ask.{Ask}
use Rattle.cargo_core.specs.declared.item.BlkReq.{BlkReq}
use Rattle.cargo_core.specs.declared.item.BlkStatus.{BlkStatus}
use Rattle.cargo_core.specs.declared.item.BlkStatus.TheVariants as Answered
use Rattle.cargo_core.specs.declared.item.Body.{Body}
use Rattle.cargo_core.specs.declared.item.Code.{Code}
use Rattle.cargo_core.specs.declared.item.Code.TheVariants as Asked
use Rattle.cargo_core.specs.declared.item.Item.{Item}
use Rattle.cargo_core.specs.declared.item.Item.TheVariants as ItemOf
use Rattle.cargo_core.specs.Lists.{IsPrefix}
use Rattle.cargo_core.specs.Pages.{Paged}
use Rattle.wire_core.specs.Deeds.{Cargo}
use Rattle.class_expect.specs.BlkExpect.BlkKit.Pages.{has_room, carried_blocks}
use Rattle.blk_mbr.specs.declared.part.Part.{Part}
use Rattle.class_expect.specs.BlkExpect.Judging.{status_of}
use Rattle.class_expect.specs.BlkExpect.Replies.{partition_bytes, partition_in, replies_of}
use Rattle.client_programs.specs.Blk.Asking.{asked_from, replies_to}
use Rattle.device_model.specs.Disk.Serving.{answer_to, done}
use Rattle.blk_law.specs.Runs.{id_of}

-- how a client's own request is judged; an entry that is no request is invalid
abbrev pub judged : Option Part → Item → BlkStatus
judged part (ItemOf.Req q) = status_of true part q.code q.block q.count
judged part (ItemOf.Net d) = Answered.Invalid
judged part (ItemOf.Byte b) = Answered.Invalid
judged part (ItemOf.Resp r) = Answered.Invalid

-- the response to a request that isn't for the disk
abbrev pub refused : BlkStatus → Cargo → Cargo
refused status y =
    (ItemOf.Resp (record { status = status; count = 0; id = id_of y.0 }), y.1)

-- the answer to a request that was judged so, by a disk with these bytes
abbrev pub answer_as : BlkStatus → List ℕ → Cargo → Cargo
answer_as Answered.Ok bytes y = answer_to bytes y
answer_as Answered.Invalid bytes y = refused Answered.Invalid y
answer_as Answered.NoDevice bytes y = refused Answered.NoDevice y

-- the bytes that it leaves
abbrev pub left_as : BlkStatus → List ℕ → Cargo → List ℕ
left_as Answered.Ok bytes y = done bytes y
left_as Answered.Invalid bytes y = bytes
left_as Answered.NoDevice bytes y = bytes

-- the answers to a client's requests, in their order: a disk with the bytes of its partition alone
-- does those that are judged well, and the others are refused
abbrev pub client_answers : Option Part → List ℕ → List Cargo → List Cargo
client_answers part bytes [] = []
client_answers part bytes (y ∷ ys) = answer_as (judged part y.0) bytes y
    ∷ client_answers part (left_as (judged part y.0) bytes y) ys

-- a request's body carries what it needs: a read has room for its blocks, and a write has its bytes
abbrev pub Carries : Code → Ask → Body → Type 0
Carries Asked.Read a body = has_room a.count body ≡ true
Carries Asked.Write a body = carried_blocks a.count body ≡ take (a.count * block_bytes) a.fill
Carries Asked.Flush a body = Unit {0}
Carries Asked.Barrier a body = Unit {0}

-- a request with this id is what a client's script asks
pub record IsAskedBy (id : ℕ) (a : Ask) (q : BlkReq) (body : Body) : Type 0 where
  pub has_id : q.id ≡ id
  pub code : q.code ≡ a.code
  pub block : q.block ≡ a.block
  pub count : q.count ≡ a.count
  pub carries : Carries a.code a body

-- the entry asks this under this id; one that is no request asks nothing
abbrev pub IsAsked : ℕ → Ask → Cargo → Type 0
IsAsked id a (ItemOf.Req q, body) = IsAskedBy id a q body
IsAsked id a (ItemOf.Net d, body) = ⊥
IsAsked id a (ItemOf.Byte b, body) = ⊥
IsAsked id a (ItemOf.Resp r, body) = ⊥

-- requests with rising ids, from this one on, are what a script asks, as far as they go
abbrev pub AreAsked : ℕ → List Ask → List Cargo → Type 0
AreAsked id asks [] = Unit {0}
AreAsked id [] (y ∷ ys) = ⊥
AreAsked id (a ∷ asks) (y ∷ ys) = IsAsked id a y × AreAsked (id + 1) asks ys

-- what is asked has a size that a buffer takes: a read or a write is of at most eight blocks, and a
-- write has as many bytes as its blocks
abbrev pub IsSized : Code → Ask → Type 0
IsSized Asked.Read a = a.count ≤ 8
IsSized Asked.Write a = (a.count ≤ 8) × (length a.fill ≡ a.count * block_bytes)
IsSized Asked.Flush a = Unit {0}
IsSized Asked.Barrier a = Unit {0}

-- each thing that is asked has a size that a buffer takes
abbrev pub AreSized : List Ask → Type 0
AreSized asks = All (λ (a : Ask). IsSized a.code a) asks

-- each of these buffers takes eight blocks
abbrev pub HaveRoom : List Paged → Type 0
HaveRoom pages = All (λ (p : Paged). 8 * block_bytes ≤ length p.bytes) pages

-- a client's replies to its script, whatever buffers it has: where what it put is a beginning of
-- its script, and what came is a beginning of the answers by a disk that has the bytes of its
-- partition alone, it recorded a beginning of what it must get
abbrev pub RecordsReplies : (image : List ℕ) (entry : ℕ) (asks : List Ask) → Type 0
RecordsReplies image entry asks = (pages : List Paged) (put came : List Cargo) → HaveRoom pages
    → IsPrefix put (asked_from 0 asks pages)
    → IsPrefix came (client_answers (partition_in image entry)
    (partition_bytes (partition_in image entry) image) put)
    → IsPrefix (replies_to asks came) (replies_of image entry asks)
