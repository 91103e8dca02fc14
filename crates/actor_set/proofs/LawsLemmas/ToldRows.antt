-- An actor, of whose clients some may be hostile, keeps what is said of its part.
use Rattle.std.proofs.Common.{◌≡◌}
use Rattle.wire_core.specs.declared.names.Entry.{Entry}
use Rattle.wire_core.specs.Journal.{History}
use Rattle.wire_core.specs.Lists.{Passed}
use Rattle.wire_core.specs.Queues.{Queue, end_at}
use Rattle.std.specs.Prelude.{List}
use Rattle.play_core.specs.Manners.{Calm}
use Rattle.play_core.specs.Moved.{Moved, moved}
use Rattle.play_core.specs.Names.{Names, Wild}
use Rattle.play_core.specs.Rests.Showing.{HaveBells, HaveItems}
use Rattle.play_core.specs.Sheets.{Scene}
use Rattle.play_core.specs.Wants.{all_settled}
use Rattle.net_virt_tx.proofs.Rounds.{row_of as sender_row_of}
use Rattle.net_law.specs.TxParts.Playing.{send_part}
use Rattle.net_law.specs.TxScene.Table as sending
use Rattle.net_law.proofs.TxScene.Items as sender_rows
use Rattle.net_law.proofs.TxScene.Resting as sender_rests
use Rattle.blk_law.specs.Sheets.Playing.{virt_part}
use Rattle.blk_law.specs.VirtScene.Table as block
use Rattle.blk_law.proofs.VirtScene.Items as server_rows
use Rattle.blk_law.proofs.VirtScene.Resting as server_rests
use Rattle.actor_set.specs.Actors.{ActorStandsFor, FitsActor, actor_rests, part_of}
use Rattle.actor_set.specs.Laws.Kinds.{manner_of}
use Rattle.actor_set.specs.Laws.Scenes.{ToldInTurn, told_sheet}
use Rattle.actor_set.specs.declared.actor.Actor.{Actor}
use Rattle.actor_set.specs.declared.actor.Actor.TheVariants as Kinds
use Rattle.blk_virt.proofs.Rows.{row_of as server_row_of}
use Rattle.actor_set.proofs.LawsLemmas.NetRows.{items_at}
use Rattle.actor_set.proofs.LawsLemmas.Rests.{rests}
use Rattle.actor_set.proofs.LawsLemmas.Rows.{actor_row}

module _ (scene : Scene) (wild : Wild) (names : Names) (passed : Passed) where
  pub told_row : (m : Moved) → HaveItems passed m → (x : Actor) → ToldInTurn scene wild names x passed → ActorStandsFor x passed → (told_sheet scene wild names (part_of x)).row m
  told_row m has (Kinds.UartDevice x) turn st = actor_row scene passed m has (Kinds.UartDevice x) turn st
  told_row m has (Kinds.UartDriver x) turn st = actor_row scene passed m has (Kinds.UartDriver x) turn st
  told_row m has (Kinds.SerialVirtRx x) turn st = actor_row scene passed m has (Kinds.SerialVirtRx x) turn st
  told_row m has (Kinds.SerialVirtTx x) turn st = actor_row scene passed m has (Kinds.SerialVirtTx x) turn st
  told_row m has (Kinds.SerialClient x) turn st = actor_row scene passed m has (Kinds.SerialClient x) turn st
  told_row m has (Kinds.EthDevice x) turn st = actor_row scene passed m has (Kinds.EthDevice x) turn st
  told_row m has (Kinds.EthDriver x) turn st = actor_row scene passed m has (Kinds.EthDriver x) turn st
  told_row m has (Kinds.NetVirtRx x) turn st = actor_row scene passed m has (Kinds.NetVirtRx x) turn st
  told_row m has (Kinds.NetCopier x) turn st = actor_row scene passed m has (Kinds.NetCopier x) turn st
  told_row m has (Kinds.NetClient x) turn st = actor_row scene passed m has (Kinds.NetClient x) turn st
  told_row m has (Kinds.DiskDevice x) turn st = actor_row scene passed m has (Kinds.DiskDevice x) turn st
  told_row m has (Kinds.BlkDriver x) turn st = actor_row scene passed m has (Kinds.BlkDriver x) turn st
  told_row m has (Kinds.BlkClient x) turn st = actor_row scene passed m has (Kinds.BlkClient x) turn st
  told_row m has (Kinds.Rogue x) turn st = actor_row scene passed m has (Kinds.Rogue x) turn st
  told_row m has (Kinds.NetVirtTx x) turn st = let row = sender_row_of x passed st in sender_rows.both_row wild names x passed m (items_at (sending.both_sheet wild names (send_part x)).ends passed m has) turn.tells turn.good row (turn.in_turn row)
  told_row m has (Kinds.BlkVirt x) turn st = server_rows.both_row scene wild names x passed m turn.0 turn.1 (items_at (block.both_sheet scene wild names (virt_part x)).ends passed m has) (server_row_of x passed st)

  pub told_rests : (history : History) (journal : List Entry) (w : List Queue) → HaveBells w history journal → HaveItems passed (moved history journal) → (x : Actor) → manner_of (part_of x) ≡ Calm → ToldInTurn scene wild names x passed → FitsActor (end_at w) x → ActorStandsFor x passed → actor_rests x ≡ all_settled history journal ((told_sheet scene wild names (part_of x)).wants (moved history journal))
  told_rests history journal w bells has (Kinds.UartDevice x) calm turn fits st = rests history journal w bells scene (Kinds.UartDevice x) passed calm turn fits st has
  told_rests history journal w bells has (Kinds.UartDriver x) calm turn fits st = rests history journal w bells scene (Kinds.UartDriver x) passed calm turn fits st has
  told_rests history journal w bells has (Kinds.SerialVirtRx x) calm turn fits st = rests history journal w bells scene (Kinds.SerialVirtRx x) passed calm turn fits st has
  told_rests history journal w bells has (Kinds.SerialVirtTx x) calm turn fits st = rests history journal w bells scene (Kinds.SerialVirtTx x) passed calm turn fits st has
  told_rests history journal w bells has (Kinds.SerialClient x) calm turn fits st = rests history journal w bells scene (Kinds.SerialClient x) passed calm turn fits st has
  told_rests history journal w bells has (Kinds.EthDevice x) calm turn fits st = rests history journal w bells scene (Kinds.EthDevice x) passed calm turn fits st has
  told_rests history journal w bells has (Kinds.EthDriver x) calm turn fits st = rests history journal w bells scene (Kinds.EthDriver x) passed calm turn fits st has
  told_rests history journal w bells has (Kinds.NetVirtRx x) calm turn fits st = rests history journal w bells scene (Kinds.NetVirtRx x) passed calm turn fits st has
  told_rests history journal w bells has (Kinds.NetCopier x) calm turn fits st = rests history journal w bells scene (Kinds.NetCopier x) passed calm turn fits st has
  told_rests history journal w bells has (Kinds.NetClient x) calm turn fits st = rests history journal w bells scene (Kinds.NetClient x) passed calm turn fits st has
  told_rests history journal w bells has (Kinds.DiskDevice x) calm turn fits st = rests history journal w bells scene (Kinds.DiskDevice x) passed calm turn fits st has
  told_rests history journal w bells has (Kinds.BlkDriver x) calm turn fits st = rests history journal w bells scene (Kinds.BlkDriver x) passed calm turn fits st has
  told_rests history journal w bells has (Kinds.BlkClient x) calm turn fits st = rests history journal w bells scene (Kinds.BlkClient x) passed calm turn fits st has
  told_rests history journal w bells has (Kinds.Rogue x) calm turn fits st = cc
  told_rests history journal w bells has (Kinds.NetVirtTx x) calm turn fits st = sender_rests.both_rest wild names history journal w passed has bells x turn.tells turn.backs turn.good turn.returns turn.in_turn fits st
  told_rests history journal w bells has (Kinds.BlkVirt x) calm turn fits st = server_rests.both_rest scene wild names history journal w passed has bells x turn.0 turn.1 fits.0 st
