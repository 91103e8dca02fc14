-- Each actor of a cast as one that has buffers of pools, and what the items at its queues name.
use Rattle.std.specs.Prelude.{◌≡◌, ℕ, List, map}
use Rattle.wire_core.specs.Lists.{Passed}
use Rattle.play_core.specs.Sheets.{Scene}
use Rattle.owner_law.specs.Things.{Naming}
use Rattle.net_law.specs.Parts.Parts.{NetPart, NetDevice, NetDriver, NetReceiver, NetCopier}
use Rattle.net_law.specs.Parts.Parts.{NetClient}
use Rattle.net_law.specs.Parts.Naming.{NamesPart}
use Rattle.net_law.specs.RxOwners.Virtualiser.{AreNet}
use Rattle.net_quiet.specs.TxOwners.Shipping.{NamesSend}
use Rattle.blk_quiet.specs.Pools.Naming.{NamesServed}
use Rattle.owner_law.specs.Pools.Handing.{NameNothing}
use Rattle.owner_law.specs.Pools.Lines.{Holder}
use Rattle.net_quiet.specs.Pools.Holders.{holder_of}
use Rattle.actor_set.specs.Parts.{Part, UartPart, DriverPart, RxPart, TxPart, ClientPart}
use Rattle.actor_set.specs.Parts.{HostilePart, NetworkPart, SendingPart, BlockPart}
use Rattle.actor_set.specs.Actors.{part_of, actor_hand, actor_lent}
use Rattle.actor_set.specs.declared.actor.Actor.{Actor}
use Rattle.actor_set.specs.declared.actor.Actor.TheVariants as Kinds
use Rattle.actor_set.specs.Laws.Kinds.{sheet, scene_of}

-- an actor with what its sheet gives it at the start, what is in its hand and what it has lent
abbrev pub actor_holder : Scene → Actor → Holder
actor_holder scene x = holder_of (sheet scene (part_of x)) (actor_hand x) (actor_lent x)

-- all actors of a cast
abbrev pub holders_of : List Actor → List Holder
holders_of actors = map (actor_holder (scene_of (map part_of actors))) actors

-- items at a part's queues name nothing
abbrev pub NothingAt : Naming → Scene → Part → Type 0
NothingAt naming scene p = NameNothing naming (sheet scene p).ends

-- what items name at a part's queues: at those of the serial class nothing, at those of the network
-- buffers and leases, and at those of the block class buffers; at a hostile client's nothing
abbrev pub NamesAt : Naming → Scene → Part → Type 0
NamesAt naming scene (UartPart rx tx input) = NothingAt naming scene (UartPart rx tx input)
NamesAt naming scene (DriverPart device_rx device_tx rx tx) =
    NothingAt naming scene (DriverPart device_rx device_tx rx tx)
NamesAt naming scene (RxPart rx clients drops) = NothingAt naming scene (RxPart rx clients drops)
NamesAt naming scene (TxPart tx clients) = NothingAt naming scene (TxPart tx clients)
NamesAt naming scene (ClientPart rx tx script) = NothingAt naming scene (ClientPart rx tx script)
NamesAt naming scene (NetworkPart p) = NamesPart naming scene p
NamesAt naming scene (SendingPart p) = NamesSend naming p
NamesAt naming scene (BlockPart p) = NamesServed naming p
NamesAt naming scene (HostilePart p) = NothingAt naming scene (HostilePart p)

-- the pool that a part of the network lends has its size by its number
abbrev pub LendsSized : (ℕ → ℕ) → NetPart → Type 0
LendsSized sizes (NetDevice rx_free rx_active tx_active tx_free frames drops) = Unit {0}
LendsSized sizes (NetDriver ways) = Unit {0}
LendsSized sizes (NetReceiver active free pool clients) = sizes pool.number ≡ pool.buffers
LendsSized sizes (NetCopier lease_active lease_free rx_active rx_free drops) = Unit {0}
LendsSized sizes (NetClient program mac rx_active rx_free tx_active tx_free rx tx) = Unit {0}

-- so has that of any part
abbrev pub IsSized : (ℕ → ℕ) → Part → Type 0
IsSized sizes (UartPart rx tx input) = Unit {0}
IsSized sizes (DriverPart device_rx device_tx rx tx) = Unit {0}
IsSized sizes (RxPart rx clients drops) = Unit {0}
IsSized sizes (TxPart tx clients) = Unit {0}
IsSized sizes (ClientPart rx tx script) = Unit {0}
IsSized sizes (NetworkPart p) = LendsSized sizes p
IsSized sizes (SendingPart p) = Unit {0}
IsSized sizes (BlockPart p) = Unit {0}
IsSized sizes (HostilePart p) = Unit {0}

-- a sending virtualiser took entries of the network alone from the driver; of other kinds nothing
-- is asked
abbrev pub TakesNet : Actor → Passed → Type 0
TakesNet (Kinds.UartDevice x) passed = Unit {0}
TakesNet (Kinds.UartDriver x) passed = Unit {0}
TakesNet (Kinds.SerialVirtRx x) passed = Unit {0}
TakesNet (Kinds.SerialVirtTx x) passed = Unit {0}
TakesNet (Kinds.SerialClient x) passed = Unit {0}
TakesNet (Kinds.EthDevice x) passed = Unit {0}
TakesNet (Kinds.EthDriver x) passed = Unit {0}
TakesNet (Kinds.NetVirtRx x) passed = Unit {0}
TakesNet (Kinds.NetCopier x) passed = Unit {0}
TakesNet (Kinds.NetClient x) passed = Unit {0}
TakesNet (Kinds.NetVirtTx x) passed = AreNet (passed.taken x.ends.input.queue.0)
TakesNet (Kinds.DiskDevice x) passed = Unit {0}
TakesNet (Kinds.BlkDriver x) passed = Unit {0}
TakesNet (Kinds.BlkVirt x) passed = Unit {0}
TakesNet (Kinds.BlkClient x) passed = Unit {0}
TakesNet (Kinds.Rogue x) passed = Unit {0}
