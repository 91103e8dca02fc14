-- The table of the kinds of actor by the names that are told of pages, where clients of the
-- virtualisers may be hostile; and where nothing came out of turn at an actor.
use Rattle.std.specs.Prelude.{◌≡◌, []}
use Rattle.wire_core.specs.Lists.{Passed}
use Rattle.play_core.specs.Moved.{Moved}
use Rattle.play_core.specs.Names.{Names, Wild}
use Rattle.play_core.specs.Sheets.{Scene, Sheet}
use Rattle.net_virt_tx.specs.declared.NetVirtTx.{NetVirtTx}
use Rattle.net_virt_tx.specs.Sending.{TxRow}
use Rattle.net_law.specs.TxParts.Playing.{send_part}
use Rattle.net_law.specs.TxScene.Playing as sends
use Rattle.net_law.specs.TxScene.Table as sending
use Rattle.blk_law.specs.VirtScene.Playing as serves
use Rattle.blk_law.specs.VirtScene.Table as block
use Rattle.actor_set.specs.Parts.{Part, UartPart, DriverPart, RxPart, TxPart, ClientPart}
use Rattle.actor_set.specs.Parts.{NetworkPart, SendingPart, BlockPart, HostilePart}
use Rattle.actor_set.specs.declared.actor.Actor.{Actor}
use Rattle.actor_set.specs.declared.actor.Actor.TheVariants as Kinds
use Rattle.actor_set.specs.Laws.Kinds.{sheet}
use Rattle.actor_set.specs.Laws.Turning.{InTurn}

-- what is said of a part, in a scene and by the names that are told: only at the virtualisers that
-- judge what clients put is a name asked
abbrev pub told_sheet : Scene → Wild → Names → Part → Sheet
told_sheet scene wild names (UartPart rx tx input) = sheet scene (UartPart rx tx input)
told_sheet scene wild names (DriverPart device_rx device_tx rx tx) =
    sheet scene (DriverPart device_rx device_tx rx tx)
told_sheet scene wild names (RxPart rx clients drops) = sheet scene (RxPart rx clients drops)
told_sheet scene wild names (TxPart tx clients) = sheet scene (TxPart tx clients)
told_sheet scene wild names (ClientPart rx tx script) = sheet scene (ClientPart rx tx script)
told_sheet scene wild names (NetworkPart p) = sheet scene (NetworkPart p)
told_sheet scene wild names (SendingPart p) = sending.both_sheet wild names p
told_sheet scene wild names (BlockPart p) = block.both_sheet scene wild names p
told_sheet scene wild names (HostilePart p) = sheet scene (HostilePart p)

-- what a part asks the names of has names that are told
abbrev pub LiesWithin : Wild → Names → Part → Moved → Type 0
LiesWithin wild names (UartPart rx tx input) m = Unit {0}
LiesWithin wild names (DriverPart device_rx device_tx rx tx) m = Unit {0}
LiesWithin wild names (RxPart rx clients drops) m = Unit {0}
LiesWithin wild names (TxPart tx clients) m = Unit {0}
LiesWithin wild names (ClientPart rx tx script) m = Unit {0}
LiesWithin wild names (NetworkPart p) m = Unit {0}
LiesWithin wild names (SendingPart p) m = sending.LiesWithin wild names p m
LiesWithin wild names (BlockPart p) m = block.LiesWithin wild names p m
LiesWithin wild names (HostilePart p) m = Unit {0}

-- no client of a part is hostile
abbrev pub NoneWild : Wild → Part → Type 0
NoneWild wild (UartPart rx tx input) = Unit {0}
NoneWild wild (DriverPart device_rx device_tx rx tx) = Unit {0}
NoneWild wild (RxPart rx clients drops) = Unit {0}
NoneWild wild (TxPart tx clients) = Unit {0}
NoneWild wild (ClientPart rx tx script) = Unit {0}
NoneWild wild (NetworkPart p) = Unit {0}
NoneWild wild (SendingPart p) = sending.NoneWild wild p
NoneWild wild (BlockPart p) = block.NoneWild wild p
NoneWild wild (HostilePart p) = Unit {0}

-- nothing came out of turn at a sending virtualiser of the network: each descriptor that came from
-- a client that isn't hostile is good, and what came back for a hostile one; and the names of what
-- came from hostile clients, and went back to them, are told
pub record SendsBoth (wild : Wild) (names : Names) (v : NetVirtTx) (passed : Passed) :
    Type 0 where
  pub tells : sends.TellsOf wild names (send_part v).clients passed
  pub backs : sends.TellsBack wild names (send_part v).clients passed
  pub good : sends.CalmGood wild v passed
  pub returns : sends.ReturnsGood wild v passed
  pub in_turn : (row : TxRow v passed) → row.stray ≡ []

-- nothing came out of turn at an actor, of whose clients some may be hostile
abbrev pub ToldInTurn : Scene → Wild → Names → Actor → Passed → Type 0
ToldInTurn scene wild names (Kinds.UartDevice x) passed = InTurn scene (Kinds.UartDevice x) passed
ToldInTurn scene wild names (Kinds.UartDriver x) passed = InTurn scene (Kinds.UartDriver x) passed
ToldInTurn scene wild names (Kinds.SerialVirtRx x) passed =
    InTurn scene (Kinds.SerialVirtRx x) passed
ToldInTurn scene wild names (Kinds.SerialVirtTx x) passed =
    InTurn scene (Kinds.SerialVirtTx x) passed
ToldInTurn scene wild names (Kinds.SerialClient x) passed =
    InTurn scene (Kinds.SerialClient x) passed
ToldInTurn scene wild names (Kinds.EthDevice x) passed = InTurn scene (Kinds.EthDevice x) passed
ToldInTurn scene wild names (Kinds.EthDriver x) passed = InTurn scene (Kinds.EthDriver x) passed
ToldInTurn scene wild names (Kinds.NetVirtRx x) passed = InTurn scene (Kinds.NetVirtRx x) passed
ToldInTurn scene wild names (Kinds.NetCopier x) passed = InTurn scene (Kinds.NetCopier x) passed
ToldInTurn scene wild names (Kinds.NetClient x) passed = InTurn scene (Kinds.NetClient x) passed
ToldInTurn scene wild names (Kinds.NetVirtTx x) passed = SendsBoth wild names x passed
ToldInTurn scene wild names (Kinds.DiskDevice x) passed = InTurn scene (Kinds.DiskDevice x) passed
ToldInTurn scene wild names (Kinds.BlkDriver x) passed = InTurn scene (Kinds.BlkDriver x) passed
ToldInTurn scene wild names (Kinds.BlkVirt x) passed =
    serves.BothInTurn wild scene.image x passed × serves.TellsOf wild names x passed
ToldInTurn scene wild names (Kinds.BlkClient x) passed = InTurn scene (Kinds.BlkClient x) passed
ToldInTurn scene wild names (Kinds.Rogue x) passed = InTurn scene (Kinds.Rogue x) passed
