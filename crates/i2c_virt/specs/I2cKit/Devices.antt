-- The devices of a bus: each has 256 bytes and a pointer.
use Rattle.std.specs.Prelude.{◌≡◌, ℕ, zero, suc, ◌+◌, ◌%◌, ◌==◌, if◌then◌else◌, List, []}
use Rattle.std.specs.Prelude.{◌∷◌, length, map, replicate, slice_index, slice_set, slice_get, Some}
use Rattle.i2c_text.specs.declared.bus.BusAsk.{BusAsk}
use Rattle.i2c_text.specs.declared.bus.BusAsk.TheVariants as Asks
use Rattle.i2c_text.specs.declared.report.BusReply.{BusReply}
use Rattle.i2c_text.specs.declared.report.BusStatus.{BusStatus}
use Rattle.i2c_text.specs.declared.report.BusStatus.TheVariants as Ended
use Rattle.i2c_virt.specs.declared.i2c_kit.device.TheConstants.{DEVICE_BYTES}
use Rattle.i2c_virt.specs.declared.i2c_kit.device.Device.{Device}

-- the place after a place: after the last one comes the first
abbrev pub next_place : ℕ → ℕ
next_place place = (place + 1) % DEVICE_BYTES

-- the place after so many bytes
abbrev pub place_after : (place count : ℕ) → ℕ
place_after place zero = place
place_after place (suc n) = place_after (next_place place) n

-- so many bytes, from a place on
abbrev pub bytes_from : List ℕ → (place count : ℕ) → List ℕ
bytes_from bytes place zero = []
bytes_from bytes place (suc n) =
    slice_index bytes place ∷ bytes_from bytes (next_place place) n

-- the bytes with others stored from a place on
abbrev pub stored_from : List ℕ → (place : ℕ) → List ℕ → List ℕ
stored_from bytes place [] = bytes
stored_from bytes place (b ∷ more) =
    stored_from (slice_set bytes place b) (next_place place) more

-- a device before anything is asked of it
abbrev pub new_device : ℕ → Device
new_device address = record { address = address; bytes = replicate DEVICE_BYTES 0; pointer = 0 }

-- a device after a read of so many bytes
abbrev pub after_read : Device → ℕ → Device
after_read d n = record d { pointer = place_after d.pointer n }

-- a device with more bytes stored from its pointer on
abbrev pub after_store : Device → List ℕ → Device
after_store d more = record d {
  bytes = stored_from d.bytes d.pointer more;
  pointer = place_after d.pointer (length more);
}

-- a device after a write: the first byte sets the pointer, the others are stored from there on
abbrev pub after_write : Device → List ℕ → Device
after_write d [] = d
after_write d (place ∷ more) = after_store (record d { pointer = place }) more

-- what a device answers to a request
abbrev pub answer_of : Device → BusAsk → List ℕ
answer_of d (Asks.Read a n) = bytes_from d.bytes d.pointer n
answer_of d (Asks.Claim a) = []
answer_of d (Asks.Write a bytes) = []

-- a device after a request
abbrev pub device_after : Device → BusAsk → Device
device_after d (Asks.Read a n) = after_read d n
device_after d (Asks.Claim a) = d
device_after d (Asks.Write a bytes) = after_write d bytes

-- the address that a request names
abbrev pub address_of : BusAsk → ℕ
address_of (Asks.Claim a) = a
address_of (Asks.Read a n) = a
address_of (Asks.Write a bytes) = a

-- what the devices answer to a transfer: the one of its address does, and where there is none,
-- nobody does
abbrev pub devices_answer : List Device → BusAsk → BusReply
devices_answer [] ask = record { status = Ended.NoAck; bytes = [] }
devices_answer (d ∷ more) ask =
    if d.address == address_of ask then record { status = Ended.Ok; bytes = answer_of d ask }
    else devices_answer more ask

-- the devices after a transfer
abbrev pub devices_after : List Device → BusAsk → List Device
devices_after [] ask = []
devices_after (d ∷ more) ask =
    if d.address == address_of ask then device_after d ask ∷ more
    else d ∷ devices_after more ask

-- the devices at the start
abbrev pub new_devices : List ℕ → List Device
new_devices addresses = map new_device addresses

-- each device has its 256 bytes
abbrev pub AreWhole : List Device → Type 0
AreWhole devices =
    (k : ℕ) (d : Device) → slice_get devices k ≡ Some d → length d.bytes ≡ DEVICE_BYTES
