-- The share of one client in all requests and all replies.
use Rattle.std.specs.Prelude.{◌≡◌, ℕ, ◌==◌, if◌then◌else◌, Option, Some, List, [], ◌∷◌, map}
use Rattle.std.specs.Prelude.{slice_get}
use Rattle.i2c_text.specs.declared.bus.BusAsk.{BusAsk}
use Rattle.i2c_text.specs.declared.report.BusReply.{BusReply}
use Rattle.i2c_virt.specs.declared.i2c_kit.alone.Request.{Request}
use Rattle.i2c_virt.specs.declared.i2c_kit.device.Device.{Device}
use Rattle.i2c_virt.specs.I2cKit.Devices.{address_of, devices_answer, devices_after}

-- what a client asked, of all that was taken
abbrev pub asks_of : (client : ℕ) → List Request → List BusAsk
asks_of client [] = []
asks_of client (r ∷ more) =
    if r.client == client then r.ask ∷ asks_of client more else asks_of client more

-- what a client was answered, where these are the replies to all that was taken, one each
abbrev pub replies_for : (client : ℕ) → List Request → List BusReply → List BusReply
replies_for client [] replies = []
replies_for client (r ∷ more) [] = []
replies_for client (r ∷ more) (reply ∷ replies) =
    if r.client == client then reply ∷ replies_for client more replies
    else replies_for client more replies

-- what the devices answer to transfers, one after another
abbrev pub served_by : List Device → List BusAsk → List BusReply
served_by devices [] = []
served_by devices (ask ∷ asks) =
    devices_answer devices ask ∷ served_by (devices_after devices ask) asks

-- the transfers alone
abbrev pub asks_in : List Request → List BusAsk
asks_in transfers = map (λ (r : Request). r.ask) transfers

-- each of these is at an address that its client has, where each address has one client at most
abbrev pub AtTheirOwn : (owner : ℕ → Option ℕ) → List Request → Type 0
AtTheirOwn owner transfers = (k : ℕ) (r : Request) → slice_get transfers k ≡ Some r
    → owner (address_of r.ask) ≡ Some r.client
