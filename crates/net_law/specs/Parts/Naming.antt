-- What the items name at an actor's queues.
use Rattle.std.specs.Prelude.{◌≡◌, ℕ, Some, List, [], ◌∷◌, slice_get}
use Rattle.play_core.specs.Sheets.{Scene}
use Rattle.owner_law.specs.Things.{Window, Buffers, Leases, Returns, Naming}
use Rattle.owner_law.specs.Pools.Places.{by_address, by_offset}
use Rattle.net_law.specs.Owners.Ends.{NameBuffers}
use Rattle.net_law.specs.Owners.Lending.{LenderNames}
use Rattle.net_law.specs.Parts.Parts.{NetPart, NetDevice, NetDriver, NetReceiver, NetCopier}
use Rattle.net_law.specs.Parts.Parts.{NetClient, Way}
use Rattle.net_law.specs.Parts.Rows.{lender_of}

-- at two queues buffers are named in the same windows
abbrev pub NamePair : Naming → List Window → ℕ → ℕ → Type 0
NamePair naming ws a b = (naming a ≡ Buffers ws) × (naming b ≡ Buffers ws)

-- a way's two queues name buffers in the same windows
abbrev pub NameWay : Naming → Way → Type 0
NameWay naming w = (ws : List Window) × (naming w.input ≡ Buffers ws)
    × NameBuffers ws (naming w.output)

-- at an actor's queues: buffers at each pair of a device's, each way of a driver's and each pair of
-- a client's; frames, buffers and leases at a virtualiser's; and leases and buffers at a copier's
abbrev pub NamesPart : Naming → Scene → NetPart → Type 0
NamesPart naming scene (NetDevice rx_free rx_active tx_active tx_free frames drops) =
    ((rx : List Window) × NamePair naming rx rx_free rx_active)
    × ((tx : List Window) × NamePair naming tx tx_active tx_free)
NamesPart naming scene (NetDriver ways) = (k : ℕ) (w : Way) → slice_get ways k ≡ Some w
    → NameWay naming w
NamesPart naming scene (NetReceiver active free pool clients) =
    LenderNames naming (by_address pool ∷ []) (by_offset pool ∷ [])
    (lender_of scene.frames active free pool clients)
NamesPart naming scene (NetCopier lease_active lease_free rx_active rx_free drops) =
    ((leased : List Window) × (naming lease_active ≡ Leases leased)
    × (naming lease_free ≡ Returns leased))
    × ((buffers : List Window) × NamePair naming buffers rx_free rx_active)
NamesPart naming scene (NetClient program mac rx_active rx_free tx_active tx_free rx tx) =
    NamePair naming (by_offset rx ∷ []) rx_active rx_free
    × NamePair naming (by_offset tx ∷ []) tx_active tx_free
