-- How much is put to the queues of the serial class, and how many bytes it has to move.
use Rattle.std.specs.Prelude.{◌+◌, ℕ, Bool, List, [], ◌∷◌, length}
use Rattle.wire_core.specs.Ends.{Producer}
use Rattle.serial_virt.specs.Shares.{policy_at}
use Rattle.play_core.specs.Moved.{Moved, gone_at}
use Rattle.play_core.specs.Totals.{total}
use Rattle.serial_law.specs.Serial.{SerialClass}

-- how many entries were put to queues, to all together
abbrev pub put_to : List ℕ → Moved → ℕ
put_to [] m = 0
put_to (q ∷ qs) m = length (m.sent q) + put_to qs m

-- the queues between the device, its driver and the virtualisers
abbrev pub driver_queues : SerialClass → List ℕ
driver_queues c = c.device_rx ∷ c.device_tx ∷ c.rx ∷ c.tx ∷ []

-- how many entries were put to the queues of the class
abbrev pub serial_put : SerialClass → Moved → ℕ
serial_put c m = put_to (driver_queues c) m + put_to c.client_rx m + put_to c.client_tx m

-- how many bytes were dropped for clients with these queues, from number c on
abbrev pub gone_from : List Bool → ℕ → List ℕ → Moved → ℕ
gone_from drops c [] m = 0
gone_from drops c (q ∷ qs) m =
    gone_at (policy_at drops c) m Producer q + gone_from drops (c + 1) qs m

-- so many were for all of them
abbrev pub serial_gone : SerialClass → Moved → ℕ
serial_gone c m = gone_from c.drops 0 c.client_rx m

-- how many bytes come in and are said
abbrev pub serial_bytes : SerialClass → ℕ
serial_bytes c = length c.input + total c.scripts
