-- How the requests of one client are judged, answered and sent on to the disk.
use Rattle.std.specs.Prelude.{◌+◌, ◌*◌, ◌==◌, ◌&&◌, ℕ, Bool, true, false, not, nat_lt, Option, None}
use Rattle.std.specs.Prelude.{Some}
use Rattle.cargo_core.specs.Blocks.{blk_buffer_bytes}
use Rattle.cargo_core.specs.declared.item.BlkReq.{BlkReq}
use Rattle.cargo_core.specs.declared.item.BlkResp.{BlkResp}
use Rattle.cargo_core.specs.declared.item.BlkStatus.{BlkStatus}
use Rattle.cargo_core.specs.declared.item.BlkStatus.TheVariants as Answered
use Rattle.cargo_core.specs.declared.item.Body.{Body}
use Rattle.cargo_core.specs.declared.item.Body.TheVariants as Carried
use Rattle.cargo_core.specs.declared.item.Code.{Code}
use Rattle.cargo_core.specs.declared.item.Code.TheVariants as Asked
use Rattle.cargo_core.specs.declared.item.Item.{Item}
use Rattle.cargo_core.specs.declared.item.Item.TheVariants as ItemOf
use Rattle.cargo_core.specs.declared.ranges.Range.{Range}
use Rattle.cargo_core.specs.Ranges.{is_within}
use Rattle.wire_core.specs.Deeds.{Cargo}
use Rattle.blk_mbr.specs.declared.part.Part.{Part}
use Rattle.class_expect.specs.BlkExpect.Judging.{status_of}
use Rattle.blk_virt.specs.declared.requests.Holder.{Holder}
use Rattle.blk_virt.specs.declared.requests.PageName.{PageName}

-- the request that an item is; one of another class asks for nothing
abbrev pub request_of : Item → BlkReq
request_of (ItemOf.Req r) = r
request_of (ItemOf.Resp r) =
    record { addr = 0; block = 0; id = 0; count = 0; code = Asked.Flush }
request_of (ItemOf.Net d) =
    record { addr = 0; block = 0; id = 0; count = 0; code = Asked.Flush }
request_of (ItemOf.Byte b) =
    record { addr = 0; block = 0; id = 0; count = 0; code = Asked.Flush }

-- the response that an item is; one of another class says that a request was invalid
abbrev pub response_of : Item → BlkResp
response_of (ItemOf.Resp r) = r
response_of (ItemOf.Req r) = record { status = Answered.Invalid; count = 0; id = 0 }
response_of (ItemOf.Net d) = record { status = Answered.Invalid; count = 0; id = 0 }
response_of (ItemOf.Byte b) = record { status = Answered.Invalid; count = 0; id = 0 }

-- a request of this code moves blocks, by way of a buffer
abbrev pub moves_blocks : Code → Bool
moves_blocks Asked.Read = true
moves_blocks Asked.Write = true
moves_blocks Asked.Flush = false
moves_blocks Asked.Barrier = false

-- the buffer of a request is the client's own: its address is the offset of one of the client's
-- buffers, and its body is the page of that buffer
abbrev pub is_own : Holder → Cargo → Bool
is_own h (item, Carried.Page page) = (page.pool.0 == h.pool.0)
    && (nat_lt page.no h.buffers && ((request_of item).addr == page.no * blk_buffer_bytes))
is_own h (item, Carried.Lease lease) = false
is_own h (item, Carried.Empty) = false

-- it is a read or a write whose buffer isn't the client's own
abbrev pub is_bad : Holder → Cargo → Bool
is_bad h x = moves_blocks (request_of x.0).code && not (is_own h x)

-- how a request is judged, by the client's partition
abbrev pub judged : Holder → Option Part → Cargo → BlkStatus
judged h part x = status_of (is_own h x) part (request_of x.0).code (request_of x.0).block
    (request_of x.0).count

-- a status says that a request goes well
abbrev pub is_ok : BlkStatus → Bool
is_ok Answered.Ok = true
is_ok Answered.Invalid = false
is_ok Answered.NoDevice = false

-- it is sent on to the disk
abbrev pub goes_on : Holder → Option Part → Cargo → Bool
goes_on h part x = is_ok (judged h part x)

-- the block at which a client's partition begins
abbrev pub first_block : Option Part → ℕ
first_block None = 0
first_block (Some part) = part.first_block

-- what a request of this code asks of the disk, its number aside: a read or a write at the device
-- address of its buffer and at its block of the partition, and a flush or a barrier at the address
-- of the client's first buffer, which tells whose it is
abbrev pub asked_of_disk : Code → (base first : ℕ) → BlkReq → BlkReq
asked_of_disk Asked.Read base first r = record {
  addr = base + r.addr;
  block = first + r.block;
  id = 0;
  count = r.count;
  code = Asked.Read;
}
asked_of_disk Asked.Write base first r = record {
  addr = base + r.addr;
  block = first + r.block;
  id = 0;
  count = r.count;
  code = Asked.Write;
}
asked_of_disk Asked.Flush base first r =
    record { addr = base; block = 0; id = 0; count = 0; code = Asked.Flush }
asked_of_disk Asked.Barrier base first r =
    record { addr = base; block = 0; id = 0; count = 0; code = Asked.Barrier }

-- a client's request as it goes to the disk, its number aside
abbrev pub for_disk : Holder → Option Part → Cargo → Cargo
for_disk h part x = (
  ItemOf.Req (asked_of_disk (request_of x.0).code h.base (first_block part) (request_of x.0)),
  x.1,
)

-- the same request with another number
abbrev pub numbered : ℕ → Cargo → Cargo
numbered n x = (ItemOf.Req (record (request_of x.0) { id = n }), x.1)

-- the number of a request
abbrev pub number_of : Cargo → ℕ
number_of x = (request_of x.0).id

-- the answer to a request that isn't sent on
abbrev pub refusal : Holder → Option Part → Cargo → Cargo
refusal h part x = (
  ItemOf.Resp (record {
    status = judged h part x;
    count = 0;
    id = (request_of x.0).id;
  }),
  x.1,
)

-- the answer to a request with this number, by the disk's response
abbrev pub passed_on : ℕ → Cargo → Cargo
passed_on id y = (
  ItemOf.Resp (record {
    status = (response_of y.0).status;
    count = (response_of y.0).count;
    id = id;
  }),
  y.1,
)

-- the name of the buffer of a body
abbrev pub page_named : Body → Option PageName
page_named (Carried.Page page) = Some (record { pool = page.pool; no = page.no })
page_named (Carried.Lease lease) = None
page_named Carried.Empty = None

-- a body is the buffer of a name, where there is one
abbrev pub brings : Option PageName → Body → Bool
brings None b = true
brings (Some name) (Carried.Page page) = (page.pool.0 == name.pool.0) && (page.no == name.no)
brings (Some name) (Carried.Lease lease) = false
brings (Some name) Carried.Empty = false

-- the device addresses of a client's buffers
abbrev pub range_of : Holder → Range
range_of h = record { base = h.base; size = h.buffers * blk_buffer_bytes }

-- an entry of the driver's queue of requests is at one of the client's buffers
abbrev pub is_at : Holder → Cargo → Bool
is_at h x = is_within (range_of h) (request_of x.0).addr
