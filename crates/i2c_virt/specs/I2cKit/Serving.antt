-- How the bus does requests: a replay of them, in their order, on its devices.
use Rattle.std.specs.Prelude.{◌≡◌, ℕ, true, Option, Some, None, List, [], ◌∷◌, All}
use Rattle.cargo_core.specs.declared.item.Body.TheVariants as Bodies
use Rattle.cargo_core.specs.Pages.{Paged}
use Rattle.wire_core.specs.Deeds.{Cargo}
use Rattle.i2c_text.specs.declared.bus.BusAsk.{BusAsk}
use Rattle.i2c_text.specs.declared.report.BusReply.{BusReply}
use Rattle.i2c_text.specs.declared.report.BusStatus.{BusStatus}
use Rattle.i2c_virt.specs.declared.i2c_kit.device.Device.{Device}
use Rattle.i2c_virt.specs.I2cKit.Devices.{devices_answer, devices_after}
use Rattle.i2c_virt.specs.I2cKit.Entries.{is_bus_request}
use Rattle.i2c_virt.specs.I2cKit.Pages.{request_in, with_reply}

-- a reply, by its parts
abbrev pub reply : BusStatus → List ℕ → BusReply
reply status bytes = record { status = status; bytes = bytes }

-- a page with a reply in it
abbrev pub replied : Paged → BusReply → Paged
replied page reply = record page { bytes = with_reply page.bytes reply.status reply.bytes }

-- a page with the answer to the request that it spells
abbrev pub answered : List Device → Option BusAsk → Paged → Paged
answered devices None page = page
answered devices (Some ask) page = replied page (devices_answer devices ask)

-- the devices after a request, if there is one
abbrev pub done_if : List Device → Option BusAsk → List Device
done_if devices None = devices
done_if devices (Some ask) = devices_after devices ask

-- the answer to an entry, in its own buffer
unfoldable pub answer_to : List Device → Cargo → Cargo
answer_to devices (item, Bodies.Page p) =
    (item, Bodies.Page (answered devices (request_in p.bytes) p))
answer_to devices (item, Bodies.Empty) = (item, Bodies.Empty)
answer_to devices (item, Bodies.Lease l) = (item, Bodies.Lease l)

-- the devices once an entry was done
unfoldable pub done : List Device → Cargo → List Device
done devices (item, Bodies.Page p) = done_if devices (request_in p.bytes)
done devices (item, Bodies.Empty) = devices
done devices (item, Bodies.Lease l) = devices

-- the devices once these were done in their order
abbrev pub all_done : List Device → List Cargo → List Device
all_done devices [] = devices
all_done devices (x ∷ xs) = all_done (done devices x) xs

-- the answers to these: each on the devices that those before it left
abbrev pub answers_to : List Device → List Cargo → List Cargo
answers_to devices [] = []
answers_to devices (x ∷ xs) = answer_to devices x ∷ answers_to (done devices x) xs

-- each of these is in turn
abbrev pub AreInTurn : List Cargo → Type 0
AreInTurn xs = All (λ (x : Cargo). is_bus_request x ≡ true) xs
