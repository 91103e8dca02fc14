-- Where nothing came out of turn at an actor, so that what passed there is as its sheet says of
-- items.
use Rattle.std.specs.Prelude.{◌≡◌, []}
use Rattle.wire_core.specs.Lists.{Passed}
use Rattle.play_core.specs.Sheets.{Scene}
use Rattle.net_law.specs.Parts.Playing.{AreLeases, ReceivesInTurn, HasBuffers, AnswersWhole}
use Rattle.net_virt_tx.specs.declared.NetVirtTx.{NetVirtTx}
use Rattle.net_virt_tx.specs.Sending.{TxRow}
use Rattle.net_law.specs.TxParts.Playing.{TakesGood}
use Rattle.blk_law.specs.Sheets.Playing.{DiskInTurn, VirtInTurn, ClientInTurn}
use Rattle.actor_set.specs.declared.actor.Actor.{Actor}
use Rattle.actor_set.specs.declared.actor.Actor.TheVariants as Kinds

-- nothing came out of turn at a sending virtualiser of the network, and each descriptor that came
-- is good
pub record SendsInTurn (v : NetVirtTx) (passed : Passed) : Type 0 where
  pub good : TakesGood v passed
  pub in_turn : (row : TxRow v passed) → row.stray ≡ []

-- nothing came out of turn at an actor: what passed there is what its sheet speaks of. Of most
-- kinds nothing is asked
abbrev pub InTurn : Scene → Actor → Passed → Type 0
InTurn scene (Kinds.UartDevice x) passed = Unit {0}
InTurn scene (Kinds.UartDriver x) passed = Unit {0}
InTurn scene (Kinds.SerialVirtRx x) passed = Unit {0}
InTurn scene (Kinds.SerialVirtTx x) passed = Unit {0}
InTurn scene (Kinds.SerialClient x) passed = Unit {0}
InTurn scene (Kinds.EthDevice x) passed = Unit {0}
InTurn scene (Kinds.EthDriver x) passed = Unit {0}
InTurn scene (Kinds.NetVirtRx x) passed = ReceivesInTurn scene.frames x passed
InTurn scene (Kinds.NetCopier x) passed = AreLeases (passed.taken x.lease_input.queue.0)
InTurn scene (Kinds.NetClient x) passed = HasBuffers x × AnswersWhole x passed
InTurn scene (Kinds.NetVirtTx x) passed = SendsInTurn x passed
InTurn scene (Kinds.DiskDevice x) passed = DiskInTurn x.start.value x.device passed
InTurn scene (Kinds.BlkDriver x) passed = Unit {0}
InTurn scene (Kinds.BlkVirt x) passed = VirtInTurn scene.image x passed
InTurn scene (Kinds.BlkClient x) passed = ClientInTurn x passed
InTurn scene (Kinds.Rogue x) passed = Unit {0}
