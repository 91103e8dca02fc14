-- The requests that the virtualiser took, read off the calls of a journal and what the clients ask.
use Rattle.std.specs.Prelude.{◌*◌, ◌==◌, ◌++◌, ℕ, zero, suc, Option, Some, None, List, [], ◌∷◌}
use Rattle.std.specs.Prelude.{length, slice_get, slice_index_or}
use Rattle.std.specs.List.{filter}
use Rattle.wire_core.specs.declared.names.Entry.{Entry}
use Rattle.wire_core.specs.declared.names.Event.{Event}
use Rattle.wire_core.specs.declared.names.QueueId.{QueueId}
use Rattle.small_system.specs.Wants.{calls_in}
use Rattle.i2c_text.specs.declared.bus.Bus.{Bus}
use Rattle.i2c_text.specs.declared.bus.BusAsk.{BusAsk}
use Rattle.i2c_text.specs.declared.report.BusReply.{BusReply}
use Rattle.i2c_virt.specs.declared.i2c_kit.alone.Request.{Request}
use Rattle.i2c_virt.specs.I2cKit.Grants.{granted_to}
use Rattle.i2c_virt.specs.I2cKit.Replies.{replies_alone}
use Rattle.i2c_virt.specs.Virtualising.{order_of}

-- what a client asks
abbrev pub script_of : Bus → (client : ℕ) → List BusAsk
script_of bus client = slice_index_or bus.asks client []

-- the queues on which the clients put their requests, in the order of the clients: queue 2c is
-- client c's
abbrev pub request_queues : (clients : ℕ) → List QueueId
request_queues zero = []
request_queues (suc c) = request_queues c ++ record { 0 = 2 * c } ∷ []

-- a request of a client, if there is one
abbrev pub request_of : (client : ℕ) → Option BusAsk → List Request
request_of client None = []
request_of client (Some ask) = record { client = client; ask = ask } ∷ []

-- how many of these are this client
abbrev pub turns_of : (client : ℕ) → List ℕ → ℕ
turns_of client clients = length (filter (λ d. d == client) clients)

-- the requests that are taken where these clients come in turn, after those that came before: of
-- each its next one
abbrev pub next_requests : Bus → (before clients : List ℕ) → List Request
next_requests bus before [] = []
next_requests bus before (c ∷ more) =
    request_of c (slice_get (script_of bus c) (turns_of c before))
    ++ next_requests bus (before ++ c ∷ []) more

-- the requests that these calls take, in the order of the takes
abbrev pub requests_by : Bus → List Event → List Request
requests_by bus calls = next_requests bus [] (order_of (request_queues bus.clients) calls)

-- the requests that the virtualiser took, in the order of its takes
abbrev pub requests_taken : Bus → List Entry → List Request
requests_taken bus journal = requests_by bus (calls_in journal)

-- what a client is answered: what its own requests, the devices and the addresses that were granted
-- to it determine
abbrev pub granted_replies : Bus → List Entry → (client : ℕ) → List BusReply
granted_replies bus journal client =
    replies_alone (granted_to client (requests_taken bus journal)) bus.devices
    (script_of bus client)
