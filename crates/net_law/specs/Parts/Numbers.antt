-- The network's receive half by the number of the class's first queue, in the order of the layout's
-- table: four queues at the device, four at the driver's other side, and then six for each client.
use Rattle.std.specs.Prelude.{◌+◌, ◌*◌, ℕ, Bool, false, List, [], ◌∷◌, slice_index_or}
use Rattle.frame_core.specs.declared.mac.Mac.{Mac}
use Rattle.owner_law.specs.Things.{Naming, naming_of}
use Rattle.play_core.specs.Sheets.{Scene}
use Rattle.class_expect.specs.NetExpect.Expecting.{Program}
use Rattle.net_law.specs.Owners.Names.{ClientPools, net_names}
use Rattle.owner_law.specs.Pools.Places.{PoolAt}
use Rattle.net_law.specs.Owners.Lending.{receivers_of}
use Rattle.net_law.specs.Parts.Parts.{NetPart, NetDevice, NetDriver, NetReceiver, NetCopier}
use Rattle.net_law.specs.Parts.Parts.{NetClient, Lessee}
use Rattle.net_law.specs.Parts.Rows.{lender_of}

-- the device's part, with the frames that it receives, and whether it may drop
abbrev pub device_at : (first : ℕ) → List (List ℕ) → (drops : Bool) → NetPart
device_at first frames drops = NetDevice first (first + 1) (first + 2) (first + 3) frames drops

-- the driver's part: free buffers and received frames, frames to send and buffers that were sent
abbrev pub driver_at : (first : ℕ) → NetPart
driver_at first = NetDriver (record { input = first + 5; output = first }
    ∷ record { input = first + 1; output = first + 4 }
    ∷ record { input = first + 6; output = first + 2 }
    ∷ record { input = first + 3; output = first + 7 } ∷ [])

-- the first queue of the client of a number
abbrev pub client_first : (first k : ℕ) → ℕ
client_first first k = first + 8 + 6 * k

-- clients with these addresses, from a number on
abbrev pub lessees_from : (first k : ℕ) → List Mac → List Lessee
lessees_from first k [] = []
lessees_from first k (mac ∷ macs) =
    record { active = client_first first k; free = client_first first k + 1; mac = mac }
    ∷ lessees_from first (k + 1) macs

-- the receiving virtualiser's part
abbrev pub receiver_at : (first : ℕ) → PoolAt → List Mac → NetPart
receiver_at first pool macs =
    NetReceiver (first + 4) (first + 5) pool (lessees_from first 0 macs)

-- the part of the copier of the client of a number, and whether it may drop
abbrev pub copier_at : (first k : ℕ) → (drops : Bool) → NetPart
copier_at first k drops = NetCopier (client_first first k) (client_first first k + 1)
    (client_first first k + 2) (client_first first k + 3) drops

-- whether frames for the client of a place may be dropped
abbrev pub policy_at : List Bool → ℕ → Bool
policy_at drops k = slice_index_or drops k false

-- the part of the client of a number, with its program, its address and its pools
abbrev pub client_at : (first k : ℕ) → Program → Mac → ClientPools → NetPart
client_at first k program mac pools = NetClient program mac (client_first first k + 2)
    (client_first first k + 3) (client_first first k + 4) (client_first first k + 5)
    pools.rx pools.tx

-- what items name by the layout's table, where the network's queues are the first
abbrev pub layout_naming : Scene → PoolAt → List Mac → List ClientPools → Naming
layout_naming scene pool macs pools = naming_of (net_names pool
    (receivers_of (lender_of scene.frames 4 5 pool (lessees_from 0 0 macs)).clients) pools)
