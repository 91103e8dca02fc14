use Rattle.std.proofs.Common.{◌-◌, ◌<◌, ◌≤◌, ◌^◌, ℕ, Option, Some, None, Bool, List, [], ◌∷◌, length, ap, ◌∙◌, ◌≡◌, arith}
use Rattle.std.proofs.lemmas.List.{length-map}
use Rattle.wire_core.specs.declared.names.Event.{Event}
use Rattle.wire_core.specs.Deeds.{Cargo, Deed}
use Rattle.wire_core.specs.Lists.{Passed, Stepped}
use Rattle.device_model.specs.declared.serial_terminal.Terminal.{Terminal}
use Rattle.device_model.specs.SerialTerminal.Terminals.{TerminalStandsFor, TerminalRow, TerminalBalances}
use Rattle.turn_kit.specs.declared.pipe.Pipe.{Pipe}
use Rattle.pipe_driver.specs.Drivers.{PipesStandFor, PipesRow, PipesBalance}
use Rattle.pipe_driver.specs.Lengths.{two_pipes}
use Rattle.serial_virt.specs.Receiving.{RxStandsFor, RxRow, RxBalances, rx_queues}
use Rattle.serial_virt.specs.declared.rx.SerialVirtRx.{SerialVirtRx}
use Rattle.serial_virt.specs.Sending.{TxStandsFor, TxRow, TxBalances}
use Rattle.serial_virt.specs.declared.tx.SerialVirtTx.{SerialVirtTx}
use Rattle.eth_driver.specs.Four.{four_pipes}
use Rattle.device_model.specs.Ethernet.Devices.{DeviceStandsFor, DeviceRow, DeviceBalances}
use Rattle.device_model.specs.declared.ethernet.EthDevice.{EthDevice}
use Rattle.net_virt_rx.specs.Receiving.{RxStandsFor as NetRxStandsFor, RxRow as NetRxRow, RxBalances as NetRxBalances}
use Rattle.net_virt_rx.specs.declared.NetVirtRx.{NetVirtRx}
use Rattle.net_copier.specs.Copying.{CopierStandsFor, CopierRow, CopierBalances}
use Rattle.net_copier.specs.declared.NetCopier.{NetCopier}
use Rattle.client_programs.specs.Net.Clients.{ClientStandsFor, ClientRow, ClientBalances}
use Rattle.client_programs.specs.declared.net.NetClient.{NetClient}
use Rattle.net_virt_tx.specs.Sending.{TxStandsFor as NetTxStandsFor, TxRow as NetTxRow, TxBalances as NetTxBalances}
use Rattle.net_virt_tx.specs.declared.NetVirtTx.{NetVirtTx}
use Rattle.device_model.specs.Disk.Disks.{DiskStandsFor, DiskRow, DiskBalances}
use Rattle.device_model.specs.declared.disk.DiskDevice.{DiskDevice}
use Rattle.blk_virt.specs.Virtualising.{BlkVirtStandsFor, BlkVirtRow, BlkVirtBalances, SameBlkVirt}
use Rattle.blk_virt.specs.declared.client.Client.{Client}
use Rattle.blk_virt.specs.declared.virtualiser.BlkVirt.{BlkVirt}
use Rattle.client_programs.specs.Blk.Asking.{IsAsking, and_one}
use Rattle.client_programs.specs.declared.blk.asking.Asking.{Asking}
use Rattle.client_programs.specs.Blk.Clients.{BlkClientStandsFor, BlkClientRow, BlkClientBalances}
use Rattle.client_programs.specs.declared.blk.BlkClient.{BlkClient}
use Rattle.client_programs.specs.Rogue.Clients.{RogueStandsFor, RogueBalances}
use Rattle.client_programs.specs.declared.rogue.Rogue.{Rogue}
use Rattle.wire_core.specs.declared.names.QueueId.{QueueId}
use Rattle.actor_set.specs.Parts.{Part, RxPart}
use Rattle.actor_set.specs.Actors.{numbers, part_of, ActorStandsFor, ActorRow, ActorBalances, HasFewClients, HasFirst}
use Rattle.actor_set.specs.declared.actor.Actor.{Actor}
use Rattle.actor_set.specs.declared.actor.Actor.TheVariants as Kinds

-- a step of one kind is one of an actor
pub as_actor : {A W : Type 0} (S : A → Passed → Type 0) (did : W → Deed → W → Type 0) (w v : W) (old new : Actor) (a a' : A) (e : Event) → ((passed : Passed) → ActorStandsFor old passed → S a passed) → ((passed : Passed) → S a' passed → ActorStandsFor new passed) → Stepped S did w v a a' e → Stepped ActorStandsFor did w v old new e
as_actor S did w v old new a a' e was is st = record { body = st.body; happened = st.happened; kept = λ passed h. is _ (st.kept passed (was passed h)) }

-- the row of each kind is that of an actor
pub rows : ((x : Terminal) (p : Passed) → TerminalStandsFor x p → TerminalRow x p) → ((ps : List Pipe) (p : Passed) → PipesStandFor ps p → PipesRow ps p) → ((x : SerialVirtRx) (p : Passed) → RxStandsFor x p → RxRow x p) → ((x : SerialVirtTx) (p : Passed) → TxStandsFor x p → TxRow x p)
    → ((x : EthDevice) (p : Passed) → DeviceStandsFor x p → DeviceRow x p) → ((x : NetVirtRx) (p : Passed) → NetRxStandsFor x p → NetRxRow x p) → ((x : NetCopier) (p : Passed) → CopierStandsFor x p → CopierRow x p) → ((x : NetClient) (p : Passed) → ClientStandsFor x p → ClientRow x p) → ((x : NetVirtTx) (p : Passed) → NetTxStandsFor x p → NetTxRow x p)
    → ((start : List ℕ) (x : DiskDevice) (p : Passed) → DiskStandsFor start x p → DiskRow start x p) → ((x : BlkVirt) (p : Passed) → BlkVirtStandsFor x p → BlkVirtRow x p) → ((x : BlkClient) (p : Passed) → BlkClientStandsFor x p → BlkClientRow x p)
    → (a : Actor) (p : Passed) → ActorStandsFor a p → ActorRow a p
rows terminal driver rx tx device lender copier client sender disk server asker (Kinds.UartDevice x) p h = terminal x.terminal p h
rows terminal driver rx tx device lender copier client sender disk server asker (Kinds.UartDriver x) p h = driver (two_pipes x.driver.pipes) p h
rows terminal driver rx tx device lender copier client sender disk server asker (Kinds.SerialVirtRx x) p h = rx x p h
rows terminal driver rx tx device lender copier client sender disk server asker (Kinds.SerialVirtTx x) p h = tx x p h
rows terminal driver rx tx device lender copier client sender disk server asker (Kinds.SerialClient x) p h = terminal x.terminal p h
rows terminal driver rx tx device lender copier client sender disk server asker (Kinds.EthDevice x) p h = device x p h
rows terminal driver rx tx device lender copier client sender disk server asker (Kinds.EthDriver x) p h = driver (four_pipes x.driver.pipes) p h
rows terminal driver rx tx device lender copier client sender disk server asker (Kinds.NetVirtRx x) p h = lender x p h
rows terminal driver rx tx device lender copier client sender disk server asker (Kinds.NetCopier x) p h = copier x p h
rows terminal driver rx tx device lender copier client sender disk server asker (Kinds.NetClient x) p h = client x p h
rows terminal driver rx tx device lender copier client sender disk server asker (Kinds.NetVirtTx x) p h = sender x p h
rows terminal driver rx tx device lender copier client sender disk server asker (Kinds.DiskDevice x) p h = disk x.start.value x.device p h
rows terminal driver rx tx device lender copier client sender disk server asker (Kinds.BlkDriver x) p h = driver (two_pipes x.driver.pipes) p h
rows terminal driver rx tx device lender copier client sender disk server asker (Kinds.BlkVirt x) p h = server x p h
rows terminal driver rx tx device lender copier client sender disk server asker (Kinds.BlkClient x) p h = asker x p h
rows terminal driver rx tx device lender copier client sender disk server asker (Kinds.Rogue x) p h = tt

-- and so is its balance
pub balances : ((x : Terminal) (p : Passed) → TerminalStandsFor x p → TerminalBalances x p) → ((ps : List Pipe) (p : Passed) → PipesStandFor ps p → PipesBalance ps p) → ((x : SerialVirtRx) (p : Passed) → RxStandsFor x p → RxBalances x p) → ((x : SerialVirtTx) (p : Passed) → TxStandsFor x p → TxBalances x p)
    → ((x : EthDevice) (p : Passed) → DeviceStandsFor x p → DeviceBalances x p) → ((x : NetVirtRx) (p : Passed) → NetRxStandsFor x p → NetRxBalances x p) → ((x : NetCopier) (p : Passed) → CopierStandsFor x p → CopierBalances x p) → ((x : NetClient) (p : Passed) → ClientStandsFor x p → ClientBalances x p) → ((x : NetVirtTx) (p : Passed) → NetTxStandsFor x p → NetTxBalances x p)
    → ((start : List ℕ) (x : DiskDevice) (p : Passed) → DiskStandsFor start x p → DiskBalances x p) → ((x : BlkVirt) (p : Passed) → BlkVirtStandsFor x p → BlkVirtBalances x p) → ((x : BlkClient) (p : Passed) → BlkClientStandsFor x p → BlkClientBalances x p) → ((x : Rogue) (p : Passed) → RogueStandsFor x p → RogueBalances x p)
    → (a : Actor) (p : Passed) → ActorStandsFor a p → ActorBalances a p
balances terminal driver rx tx device lender copier client sender disk server asker rogue (Kinds.UartDevice x) p h = terminal x.terminal p h
balances terminal driver rx tx device lender copier client sender disk server asker rogue (Kinds.UartDriver x) p h = driver (two_pipes x.driver.pipes) p h
balances terminal driver rx tx device lender copier client sender disk server asker rogue (Kinds.SerialVirtRx x) p h = rx x p h
balances terminal driver rx tx device lender copier client sender disk server asker rogue (Kinds.SerialVirtTx x) p h = tx x p h
balances terminal driver rx tx device lender copier client sender disk server asker rogue (Kinds.SerialClient x) p h = terminal x.terminal p h
balances terminal driver rx tx device lender copier client sender disk server asker rogue (Kinds.EthDevice x) p h = device x p h
balances terminal driver rx tx device lender copier client sender disk server asker rogue (Kinds.EthDriver x) p h = driver (four_pipes x.driver.pipes) p h
balances terminal driver rx tx device lender copier client sender disk server asker rogue (Kinds.NetVirtRx x) p h = lender x p h
balances terminal driver rx tx device lender copier client sender disk server asker rogue (Kinds.NetCopier x) p h = copier x p h
balances terminal driver rx tx device lender copier client sender disk server asker rogue (Kinds.NetClient x) p h = client x p h
balances terminal driver rx tx device lender copier client sender disk server asker rogue (Kinds.NetVirtTx x) p h = sender x p h
balances terminal driver rx tx device lender copier client sender disk server asker rogue (Kinds.DiskDevice x) p h = disk x.start.value x.device p h
balances terminal driver rx tx device lender copier client sender disk server asker rogue (Kinds.BlkDriver x) p h = driver (two_pipes x.driver.pipes) p h
balances terminal driver rx tx device lender copier client sender disk server asker rogue (Kinds.BlkVirt x) p h = server x p h
balances terminal driver rx tx device lender copier client sender disk server asker rogue (Kinds.BlkClient x) p h = asker x p h
balances terminal driver rx tx device lender copier client sender disk server asker rogue (Kinds.Rogue x) p h = rogue x p h

-- a block client's buffers can be counted
pub few_pages : (w : Asking) → IsAsking w → length w.kept.pages < 2 ^ 32 - 2
few_pages w h = by w.next h.within
  where
    by : (o : Option Cargo) → and_one w.sent o ≤ length w.script.items → length w.kept.pages < 2 ^ 32 - 2
    by None within = omega (arith, within, h.answered, h.hold, h.room)
    by (Some x) within = omega (arith, within, h.answered, h.hold, h.room)

-- a block virtualiser has as many clients as before
pub few_still : (old new : BlkVirt) → SameBlkVirt old new → HasFewClients old → HasFewClients new
few_still old new same few =
    let was = length-map old.work.desk.clients.items (λ (c : Client). c.holder) in
    let now = length-map new.work.desk.clients.items (λ (c : Client). c.holder) in
    let as_many = ap (λ hs. length hs) same.work.clients in
    omega (arith, was, now, as_many, few)

-- and the same own buffer
pub first_still : (old new : BlkVirt) → SameBlkVirt old new → HasFirst old → HasFirst new
first_still old new same first = ap (λ o. o.no) same.work.own ∙ first

-- a receiving virtualiser of the serial class with the same queues and policies has the same part
pub rx_part : (old new : SerialVirtRx) → rx_queues new ≡ rx_queues old → new.drops.items ≡ old.drops.items → part_of (Kinds.SerialVirtRx new) ≡ part_of (Kinds.SerialVirtRx old)
rx_part old new queues drops = ap (λ qs. as_part qs new.drops.items) queues ∙ ap (as_part (rx_queues old)) drops
  where
    as_part : List QueueId → List Bool → Part
    as_part [] ds = RxPart 0 [] ds
    as_part (q ∷ qs) ds = RxPart q.0 (numbers qs) ds
