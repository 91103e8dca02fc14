-- What the bytes of a buffer say: a request, and in its place the reply to it. The first byte is
-- the operation, then come address, status and count, and then data.
use Rattle.std.specs.Prelude.{◌≡◌, ℕ, ◌==◌, ◌&&◌, nat_le, Bool, true, if◌then◌else◌, List, [], ◌∷◌}
use Rattle.std.specs.Prelude.{length, take, drop, slice_index, Option, Some, None}
use Rattle.std.specs.Option.{option_map, option_and_then}
use Rattle.cargo_core.specs.Lists.{replaced}
use Rattle.i2c_text.specs.declared.bus.BusAsk.{BusAsk}
use Rattle.i2c_text.specs.declared.bus.BusAsk.TheVariants as Asks
use Rattle.i2c_text.specs.declared.report.BusReply.{BusReply}
use Rattle.i2c_text.specs.declared.report.BusStatus.{BusStatus}
use Rattle.i2c_text.specs.declared.report.BusStatus.TheVariants as Ended
use Rattle.i2c_virt.specs.declared.i2c_kit.page.TheConstants.{BUFFER_BYTES, DATA, MOST_BYTES}
use Rattle.i2c_virt.specs.declared.i2c_kit.page.Operation.{Operation}
use Rattle.i2c_virt.specs.declared.i2c_kit.page.Operation.TheVariants as Does
use Rattle.i2c_virt.specs.declared.i2c_kit.page.Head.{Head}

-- whether a number can be the address of a device: those of seven bits that aren't reserved
abbrev pub is_address : ℕ → Bool
is_address a = nat_le 8 a && nat_le a 119

-- whether a transfer can have so many bytes
abbrev pub is_count : ℕ → Bool
is_count n = nat_le 1 n && nat_le n MOST_BYTES

-- a request in the form in which the clients' text gives it
abbrev pub is_request : BusAsk → Bool
is_request (Asks.Claim a) = is_address a
is_request (Asks.Read a n) = is_address a && is_count n
is_request (Asks.Write a bytes) = is_address a && is_count (length bytes)

-- the operation of a number
abbrev pub operation_of : ℕ → Option Operation
operation_of number =
    if number == 0 then Some Does.Claim
    else if number == 1 then Some Does.Read
    else if number == 2 then Some Does.Write
    else None

-- whether a count suits an operation; that of a claim says nothing
abbrev pub suits : Operation → (count : ℕ) → Bool
suits Does.Claim count = true
suits Does.Read count = is_count count
suits Does.Write count = is_count count

-- the head of an operation, where the count suits it
abbrev pub head_by : (address count : ℕ) → Operation → Option Head
head_by address count o =
    if suits o count then Some (record { operation = o; address = address; count = count })
    else None

-- the head of the request that the bytes of a page spell
unfoldable pub head_in : List ℕ → Option Head
head_in page =
    if length page == BUFFER_BYTES && is_address (slice_index page 1)
    then option_and_then (head_by (slice_index page 1) (slice_index page 3))
    (operation_of (slice_index page 0))
    else None

-- the request of a head and data
abbrev pub asked : Operation → (address count : ℕ) → List ℕ → BusAsk
asked Does.Claim address count bytes = Asks.Claim address
asked Does.Read address count bytes = Asks.Read address count
asked Does.Write address count bytes = Asks.Write address (take count bytes)

-- the request that the bytes of a page spell
unfoldable pub request_in : List ℕ → Option BusAsk
request_in page =
    option_map (λ (h : Head). asked h.operation h.address h.count (drop DATA page)) (head_in page)

-- this page spells this request
abbrev pub SpellsRequest : List ℕ → BusAsk → Type 0
SpellsRequest page ask = request_in page ≡ Some ask

-- the status of a number
abbrev pub status_of : ℕ → Option BusStatus
status_of number =
    if number == 0 then Some Ended.Ok
    else if number == 1 then Some Ended.Taken
    else if number == 2 then Some Ended.Unclaimed
    else if number == 3 then Some Ended.NoAck
    else None

-- the number of a status
abbrev pub status_number : BusStatus → ℕ
status_number Ended.Ok = 0
status_number Ended.Taken = 1
status_number Ended.Unclaimed = 2
status_number Ended.NoAck = 3

-- how many bytes a reply has: a read that went well has those that were asked for
abbrev pub bytes_due : BusStatus → BusAsk → ℕ
bytes_due Ended.Ok (Asks.Read a n) = n
bytes_due Ended.Ok (Asks.Claim a) = 0
bytes_due Ended.Ok (Asks.Write a bytes) = 0
bytes_due Ended.Taken ask = 0
bytes_due Ended.Unclaimed ask = 0
bytes_due Ended.NoAck ask = 0

-- a reply has as many bytes as its status and the request say
abbrev pub IsReplyTo : BusAsk → BusReply → Type 0
IsReplyTo ask reply = length reply.bytes ≡ bytes_due reply.status ask

-- the status of the reply that the bytes of a page spell
unfoldable pub status_in : List ℕ → Option BusStatus
status_in page =
    if length page == BUFFER_BYTES then status_of (slice_index page 2) else None

-- the reply to a request that the bytes of its page spell
unfoldable pub reply_in : BusAsk → List ℕ → Option BusReply
reply_in ask page =
    option_map (λ s. record { status = s; bytes = take (bytes_due s ask) (drop DATA page) })
    (status_in page)

-- this page spells this reply to this request
abbrev pub SpellsReply : List ℕ → BusAsk → BusReply → Type 0
SpellsReply page ask reply = reply_in ask page ≡ Some reply

-- the bytes of a page with a reply in them, by its status and its bytes
unfoldable pub with_reply : List ℕ → BusStatus → List ℕ → List ℕ
with_reply page status bytes =
    replaced (replaced page 2 (status_number status ∷ [])) DATA bytes
