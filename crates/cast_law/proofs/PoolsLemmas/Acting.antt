-- Each kind of actor as one that has buffers of pools.
use Rattle.std.proofs.Common.{◌≡◌, ◌≤◌, ℕ, Option, Some, None, List, [], ◌∷◌, ◌++◌, length, map, refl, sym, ap, ◌∙◌, arith}
use Rattle.std.specs.Option.{option_to_list}
use Rattle.cargo_core.specs.Bodies.{buffers_of}
use Rattle.wire_core.specs.Deeds.{Cargo}
use Rattle.wire_core.specs.Lists.{Passed}
use Rattle.play_core.specs.Moved.{Moved}
use Rattle.play_core.specs.Sheets.{Scene}
use Rattle.play_core.specs.Wants.{intake, outlet}
use Rattle.owner_law.specs.Things.{Naming}
use Rattle.turn_kit.specs.Hands.{Balances, bodies_of, bodies_at}
use Rattle.turn_kit.specs.ManyEnds.{intake_queues, outlet_queues}
use Rattle.pipe_driver.specs.Lengths.{two_pipes}
use Rattle.pipe_driver.proofs.Holding.{row_of as pipes_row, balance_of as pipes_balance}
use Rattle.eth_driver.specs.Four.{four_pipes}
use Rattle.device_model.specs.SerialTerminal.Terminals.{terminal_hand}
use Rattle.device_model.proofs.SerialTerminal.Speech.{row_of as terminal_row}
use Rattle.device_model.proofs.SerialTerminal.Holding.{balance_of as terminal_balance}
use Rattle.serial_virt.specs.Receiving.{RxStandsFor, rx_hand}
use Rattle.serial_virt.specs.declared.rx.SerialVirtRx.{SerialVirtRx}
use Rattle.serial_virt.specs.Sending.{TxStandsFor, TxRow, tx_hand}
use Rattle.serial_virt.specs.declared.tx.SerialVirtTx.{SerialVirtTx}
use Rattle.serial_virt.proofs.Sharing.{rx_row}
use Rattle.serial_virt.proofs.Holding.{rx_balance, tx_balance}
use Rattle.device_model.proofs.EthernetLemmas.Holding.{balance_of as device_balance, row_of as device_row}
use Rattle.net_virt_rx.specs.declared.NetVirtRx.{NetVirtRx}
use Rattle.net_virt_rx.specs.Receiving.{RxStandsFor as NetRxStandsFor}
use Rattle.net_virt_rx.proofs.Rounds.{row_of as receiver_row}
use Rattle.net_virt_tx.proofs.Rounds.{row_of as sender_row}
use Rattle.net_copier.proofs.Holding.{row_of as copier_row, balance_of as copier_balance}
use Rattle.client_programs.proofs.NetLemmas.Standing.{row_of as client_row}
use Rattle.client_programs.proofs.NetLemmas.Holding.{balance_of as client_balance}
use Rattle.net_law.specs.Parts.Playing.{receiver_part, ReceivesInTurn}
use Rattle.net_law.specs.Parts.Table.{net_sheet}
use Rattle.play_core.specs.Rests.Showing.{HaveItems}
use Rattle.owner_law.specs.Pools.Handing.{HandsOn, TakesPages}
use Rattle.owner_law.specs.Pools.Lines.{HoldsIts, came, went}
use Rattle.owner_law.proofs.PoolsLemmas.Plain.{plain_holds}
use Rattle.serial_law.specs.Pools.SerialEnds.{terminal_ends, piped_ends, rx_ends, tx_ends}
use Rattle.serial_law.proofs.PoolsLemmas.Passing.{terminal_on, driver_on as piped_on, receiver_on as serial_receiver_on, sender_on as serial_sender_on}
use Rattle.net_quiet.proofs.PoolsLemmas.Handing.{device_on, driver_on, copier_on}
use Rattle.net_quiet.proofs.PoolsLemmas.Receiving.{receiver_on}
use Rattle.net_quiet.proofs.PoolsLemmas.Clients.{client_on, client_holds}
use Rattle.net_quiet.proofs.PoolsLemmas.Holding.{device_holds, driver_holds, copier_holds}
use Rattle.net_quiet.proofs.PoolsLemmas.Lending.{receiver_holds}
use Rattle.net_quiet.proofs.TxOwners.Carrying.{sender_on}
use Rattle.net_quiet.proofs.TxOwners.Holding.{sender_holds}
use Rattle.device_model.proofs.DiskLemmas.Holding.{balance_of as disk_balance}
use Rattle.blk_virt.proofs.Rows.{row_of as server_row, balance_of as virt_balance}
use Rattle.client_programs.proofs.BlkLemmas.Standing.{row_of as asker_row, balance_of as asker_balance}
use Rattle.blk_law.specs.Owners.Answering.{IsInOrder}
use Rattle.blk_quiet.proofs.PoolsLemmas.Carrying.{disk_on, driver_on as blk_driver_on}
use Rattle.blk_quiet.proofs.PoolsLemmas.Asking.{client_on as asker_on}
use Rattle.blk_quiet.proofs.PoolsLemmas.Serving.{virt_on}
use Rattle.blk_quiet.proofs.PoolsLemmas.Holding.{disk_holds, driver_holds as blk_driver_holds, virt_holds, client_holds as asker_holds}
use Rattle.actor_set.specs.Actors.{ActorStandsFor, IsWhole, part_of, numbers}
use Rattle.actor_set.specs.declared.actor.Actor.{Actor}
use Rattle.actor_set.specs.declared.actor.Actor.TheVariants as Kinds
use Rattle.actor_set.specs.Laws.Kinds.{manner_of, sheet}
use Rattle.actor_set.specs.Laws.Turning.{InTurn}
use Rattle.actor_set.proofs.LawsLemmas.BlkRows.{disk_row_of}
use Rattle.actor_set.proofs.LawsLemmas.NetRows.{items_at}
use Rattle.play_core.specs.Manners.{Calm}
use Rattle.cast_law.specs.Pools.Holders.{NamesAt, IsSized, TakesNet, actor_holder}

-- an entry that isn't there
none_of : (o : Option Cargo) → option_to_list o ≡ [] → o ≡ None
none_of None e = refl
none_of (Some c) e = cc

-- ends on one side
module _ (passed : Passed) where
  pub ins_came : (qs : List ℕ) → came passed (map intake qs) ≡ bodies_at passed.taken qs
  ins_came [] = refl
  ins_came (q ∷ qs) = ap (λ xs. bodies_of (passed.taken q) ++ xs) (ins_came qs)

  pub ins_went : (qs : List ℕ) → went passed (map intake qs) ≡ []
  ins_went [] = refl
  ins_went (q ∷ qs) = ins_went qs

  pub outs_came : (qs : List ℕ) → came passed (map outlet qs) ≡ []
  outs_came [] = refl
  outs_came (q ∷ qs) = outs_came qs

  pub outs_went : (qs : List ℕ) → went passed (map outlet qs) ≡ bodies_at passed.sent qs
  outs_went [] = refl
  outs_went (q ∷ qs) = ap (λ xs. bodies_of (passed.sent q) ++ xs) (outs_went qs)

  -- of many on both sides
  pub both_came : (ins outs : List ℕ) → came passed (map intake ins ++ map outlet outs) ≡ bodies_at passed.taken ins
  both_came [] outs = outs_came outs
  both_came (q ∷ ins) outs = ap (λ xs. bodies_of (passed.taken q) ++ xs) (both_came ins outs)

  pub both_went : (ins outs : List ℕ) → went passed (map intake ins ++ map outlet outs) ≡ bodies_at passed.sent outs
  both_went [] outs = outs_went outs
  both_went (q ∷ ins) outs = both_went ins outs

  rx_balances : (v : SerialVirtRx) → RxStandsFor v passed → Balances [] (came passed (rx_ends v)) (went passed (rx_ends v)) (rx_hand v) (bodies_at passed.taken (v.input.queue.0 ∷ []))
  rx_balances v st pool =
      let qs : List ℕ = numbers (outlet_queues v.outputs) in
      omega (arith, rx_balance v passed st pool, ap (λ xs. buffers_of pool (bodies_of (passed.taken v.input.queue.0) ++ xs)) (outs_came qs), ap (buffers_of pool) (outs_went qs))

  tx_balances : (v : SerialVirtTx) → TxStandsFor v passed → Balances [] (came passed (tx_ends v)) (went passed (tx_ends v)) (tx_hand v) []
  tx_balances v st pool =
      let qs : List ℕ = numbers (intake_queues v.inputs) in
      omega (arith, tx_balance v passed st pool, ap (buffers_of pool) (ins_came qs), ap (λ xs. buffers_of pool (bodies_of (passed.sent v.output.queue.0) ++ xs)) (ins_went qs))

tx_row : (v : SerialVirtTx) (passed : Passed) → TxStandsFor v passed → TxRow v passed
tx_row v passed st = record { owed = option_to_list v.load; few = one v.load; merged = st }
  where
    one : (o : Option Cargo) → length (option_to_list o) ≤ 1
    one None = omega arith
    one (Some c) = omega arith

module _ (naming : Naming) (scene : Scene) (passed : Passed) (m : Moved) (items : HaveItems passed m) where
  -- where what it took carries the pages that are named, so does what it put
  pub actor_on : IsInOrder naming m → (x : Actor) → manner_of (part_of x) ≡ Calm → NamesAt naming scene (part_of x) → TakesNet x passed → IsWhole x → InTurn scene x passed → ActorStandsFor x passed → HandsOn naming m passed (sheet scene (part_of x)).ends
  actor_on order (Kinds.UartDevice x) calm names net whole turn st = terminal_on naming passed m x.terminal names (terminal_row x.terminal passed st)
  actor_on order (Kinds.UartDriver x) calm names net whole turn st = piped_on naming passed m (two_pipes x.driver.pipes) names (pipes_row (two_pipes x.driver.pipes) passed st)
  actor_on order (Kinds.SerialVirtRx x) calm names net whole turn st = serial_receiver_on naming passed m x names (rx_row x passed st)
  actor_on order (Kinds.SerialVirtTx x) calm names net whole turn st = serial_sender_on naming passed m x names (tx_row x passed st)
  actor_on order (Kinds.SerialClient x) calm names net whole turn st = terminal_on naming passed m x.terminal names (terminal_row x.terminal passed st)
  actor_on order (Kinds.EthDevice x) calm names net whole turn st = device_on naming scene passed m x names (device_row x passed st)
  actor_on order (Kinds.EthDriver x) calm names net whole turn st = driver_on naming scene passed m (four_pipes x.driver.pipes) names (pipes_row (four_pipes x.driver.pipes) passed st)
  actor_on order (Kinds.NetVirtRx x) calm names net whole turn st = receiver_on naming scene passed m x names turn.takes.given_net (receiver_row x passed st)
  actor_on order (Kinds.NetCopier x) calm names net whole turn st = copier_on naming scene passed m x names (copier_row x passed st)
  actor_on order (Kinds.NetClient x) calm names net whole turn st = client_on naming scene passed m x names turn.0 (client_row x passed st)
  actor_on order (Kinds.NetVirtTx x) calm names net whole turn st = sender_on naming passed m x names net (sender_row x passed st)
  actor_on order (Kinds.DiskDevice x) calm names net whole turn st = disk_on naming passed m items order scene x.start.value x.device names.0 (disk_row_of x.start.value x.device passed st)
  actor_on order (Kinds.BlkDriver x) calm names net whole turn st = blk_driver_on naming passed m items order scene x.driver.pipes.first x.driver.pipes.rest names.0 (pipes_row (two_pipes x.driver.pipes) passed st)
  actor_on order (Kinds.BlkVirt x) calm names net whole turn st = virt_on naming scene passed m items order x names whole.first turn (server_row x passed st)
  actor_on order (Kinds.BlkClient x) calm names net whole turn st = asker_on naming scene passed m x names.0 (asker_row x passed st)
  actor_on order (Kinds.Rogue x) calm names net whole turn st = absurd cc

  module _ (sizes : ℕ → ℕ) where
    pub lender_holds : (v : NetVirtRx) → NamesAt naming scene (part_of (Kinds.NetVirtRx v)) → IsSized sizes (part_of (Kinds.NetVirtRx v)) → IsWhole (Kinds.NetVirtRx v) → ReceivesInTurn scene.frames v passed → NetRxStandsFor v passed → HoldsIts naming sizes m passed (actor_holder scene (Kinds.NetVirtRx v))
    lender_holds v names sized whole turn st =
        let row = receiver_row v passed st in
        receiver_holds naming sizes scene v passed m names (items_at (net_sheet scene (receiver_part v)).ends passed m items) turn.takes st (none_of v.work.stray (sym row.strayed ∙ turn.in_turn row)) whole.to_each whole.from_each sized

    -- of each pool it had at the start and took what it put, has in its hand and has lent
    pub actor_holds : (x : Actor) → manner_of (part_of x) ≡ Calm → NamesAt naming scene (part_of x) → IsSized sizes (part_of x) → IsWhole x → InTurn scene x passed → ActorStandsFor x passed → TakesPages naming m passed (sheet scene (part_of x)).ends → HoldsIts naming sizes m passed (actor_holder scene x)
    actor_holds (Kinds.UartDevice x) calm names sized whole turn st takes = plain_holds naming m passed sizes (terminal_ends x.terminal) (terminal_hand x.terminal) (bodies_at passed.taken (x.terminal.input.queue.0 ∷ [])) names takes (terminal_balance x.terminal passed st)
    actor_holds (Kinds.UartDriver x) calm names sized whole turn st takes = plain_holds naming m passed sizes (piped_ends (two_pipes x.driver.pipes)) _ [] names takes (pipes_balance (two_pipes x.driver.pipes) passed st)
    actor_holds (Kinds.SerialVirtRx x) calm names sized whole turn st takes = plain_holds naming m passed sizes (rx_ends x) (rx_hand x) (bodies_at passed.taken (x.input.queue.0 ∷ [])) names takes (rx_balances passed x st)
    actor_holds (Kinds.SerialVirtTx x) calm names sized whole turn st takes = plain_holds naming m passed sizes (tx_ends x) (tx_hand x) [] names takes (tx_balances passed x st)
    actor_holds (Kinds.SerialClient x) calm names sized whole turn st takes = plain_holds naming m passed sizes (terminal_ends x.terminal) (terminal_hand x.terminal) (bodies_at passed.taken (x.terminal.input.queue.0 ∷ [])) names takes (terminal_balance x.terminal passed st)
    actor_holds (Kinds.EthDevice x) calm names sized whole turn st takes = device_holds naming sizes scene passed m x names (device_balance x passed st)
    actor_holds (Kinds.EthDriver x) calm names sized whole turn st takes = driver_holds naming sizes scene passed m (four_pipes x.driver.pipes) names (pipes_balance (four_pipes x.driver.pipes) passed st)
    actor_holds (Kinds.NetVirtRx x) calm names sized whole turn st takes = lender_holds x names sized whole turn st
    actor_holds (Kinds.NetCopier x) calm names sized whole turn st takes = copier_holds naming sizes scene passed m x names (copier_balance x passed st)
    actor_holds (Kinds.NetClient x) calm names sized whole turn st takes = client_holds naming scene passed m x names sizes (client_balance x passed st)
    actor_holds (Kinds.NetVirtTx x) calm names sized whole turn st takes =
        let row = sender_row x passed st in
        sender_holds naming sizes x passed m names row.from_each row.to_each st.balances
    actor_holds (Kinds.DiskDevice x) calm names sized whole turn st takes = disk_holds naming sizes scene passed m x.start.value x.device names.0 (disk_balance x.start.value x.device passed st)
    actor_holds (Kinds.BlkDriver x) calm names sized whole turn st takes = blk_driver_holds naming sizes scene passed m x.driver.pipes.first x.driver.pipes.rest names.0 (pipes_balance (two_pipes x.driver.pipes) passed st)
    actor_holds (Kinds.BlkVirt x) calm names sized whole turn st takes = virt_holds naming sizes scene passed m x names.0 whole.from_each whole.to_each (virt_balance x passed st)
    actor_holds (Kinds.BlkClient x) calm names sized whole turn st takes = asker_holds naming sizes scene passed m x names.0 (asker_balance x passed st)
    actor_holds (Kinds.Rogue x) calm names sized whole turn st takes = absurd cc
