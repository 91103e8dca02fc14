-- The replies of the clients: by the order in which the virtualiser took all requests, and of one
-- client by its own requests, the devices and the addresses that were granted to it alone.
use Rattle.std.specs.Prelude.{ℕ, ◌==◌, ◌&&◌, Bool, if◌then◌else◌, List, [], ◌∷◌, ◌++◌}
use Rattle.std.specs.List.{list_any}
use Rattle.i2c_text.specs.declared.bus.BusAsk.{BusAsk}
use Rattle.i2c_text.specs.declared.report.BusReply.{BusReply}
use Rattle.i2c_text.specs.declared.report.BusStatus.{BusStatus}
use Rattle.i2c_text.specs.declared.report.BusStatus.TheVariants as Ended
use Rattle.i2c_virt.specs.declared.i2c_kit.alone.Request.{Request}
use Rattle.i2c_virt.specs.declared.i2c_kit.device.Device.{Device}
use Rattle.i2c_virt.specs.I2cKit.Devices.{address_of, devices_answer, devices_after, new_devices}
use Rattle.i2c_virt.specs.I2cKit.Grants.{is_claim, claims, owner_after, is_free_for, is_owner}

-- a reply without bytes
abbrev pub bare_reply : BusStatus → BusReply
bare_reply status = record { status = status; bytes = [] }

-- the reply to a request: `may` says whether its client may have the address, `has` whether it has
-- it already
abbrev pub reply_to : (may has : Bool) → List Device → BusAsk → BusReply
reply_to may has devices ask =
    if is_claim ask then bare_reply (if may then Ended.Ok else Ended.Taken)
    else if has then devices_answer devices ask
    else bare_reply Ended.Unclaimed

-- the devices after a request: only a transfer at an address that its client has reaches them
abbrev pub reached_after : (has : Bool) → List Device → BusAsk → List Device
reached_after has devices ask =
    if is_claim ask then devices
    else if has then devices_after devices ask
    else devices

-- whether a client has the address of its request after these were taken
abbrev pub has_it : List Request → Request → Bool
has_it before r = is_owner (owner_after before (address_of r.ask)) r.client

-- whether the client of a request may have its address after these were taken
abbrev pub may_have_it : List Request → Request → Bool
may_have_it before r = is_free_for (owner_after before (address_of r.ask)) r.client

-- the replies to requests in the order in which they were taken, after those before them
abbrev pub replies_from : (before : List Request) → List Device → List Request → List BusReply
replies_from before devices [] = []
replies_from before devices (r ∷ more) =
    reply_to (may_have_it before r) (has_it before r) devices r.ask
    ∷ replies_from (before ++ r ∷ []) (reached_after (has_it before r) devices r.ask) more

-- the replies to all requests that the virtualiser took, in that order
unfoldable pub replies_by : (addresses : List ℕ) → List Request → List BusReply
replies_by addresses taken = replies_from [] (new_devices addresses) taken

-- whether an address is one of those granted, and was claimed by one of these requests
abbrev pub is_claimed : (granted : List ℕ) → List BusAsk → (address : ℕ) → Bool
is_claimed granted before address =
    list_any (λ g. g == address) granted && list_any (λ q. claims q address) before

-- the replies to a client's requests, after those before them
abbrev pub alone_from : (granted : List ℕ) → (before : List BusAsk) → List Device → List BusAsk
    → List BusReply
alone_from granted before devices [] = []
alone_from granted before devices (ask ∷ more) =
    reply_to (list_any (λ g. g == address_of ask) granted)
    (is_claimed granted before (address_of ask)) devices ask
    ∷ alone_from granted (before ++ ask ∷ [])
    (reached_after (is_claimed granted before (address_of ask)) devices ask) more

-- the replies to a client's requests on the devices alone, where these addresses are granted to it:
-- a claim is good for one of them, which counts as granted from the first claim on
unfoldable pub replies_alone : (granted addresses : List ℕ) → List BusAsk → List BusReply
replies_alone granted addresses asks = alone_from granted [] (new_devices addresses) asks
