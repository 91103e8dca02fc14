-- Which kind of actor plays a part of the network.
use Rattle.std.proofs.Common.{◌≡◌, ℕ, List, refl, Bool}
use Rattle.frame_core.specs.declared.mac.Mac.{Mac}
use Rattle.device_model.specs.declared.ethernet.EthDevice.{EthDevice}
use Rattle.eth_driver.specs.Four.{four_pipes}
use Rattle.eth_driver.specs.declared.EthDriver.{EthDriver}
use Rattle.client_programs.specs.declared.net.NetClient.{NetClient}
use Rattle.net_copier.specs.declared.NetCopier.{NetCopier}
use Rattle.net_virt_rx.specs.declared.NetVirtRx.{NetVirtRx}
use Rattle.net_virt_tx.specs.declared.NetVirtTx.{NetVirtTx}
use Rattle.class_expect.specs.NetExpect.Expecting.{Program}
use Rattle.net_law.specs.Owners.Names.{ClientPools}
use Rattle.owner_law.specs.Pools.Places.{PoolAt}
use Rattle.net_law.specs.Parts.Numbers.{device_at, driver_at, receiver_at, copier_at, client_at}
use Rattle.net_law.specs.Parts.Playing.{device_part, driver_part, receiver_part, copier_part, client_part}
use Rattle.net_law.specs.TxParts.Numbers.{sender_at}
use Rattle.net_law.specs.TxParts.Playing.{send_part}
use Rattle.cargo_core.specs.declared.item.Ask.{Ask}
use Rattle.pipe_driver.specs.Lengths.{two_pipes}
use Rattle.client_programs.specs.declared.blk.BlkClient.{BlkClient}
use Rattle.blk_driver.specs.declared.BlkDriver.{BlkDriver}
use Rattle.blk_virt.specs.declared.virtualiser.BlkVirt.{BlkVirt}
use Rattle.blk_law.specs.Sheets.Numbers.{BlkPlace, disk_at, blk_driver_at, virt_at, blk_client_at}
use Rattle.blk_law.specs.Sheets.Playing.{disk_part, blk_driver_part, virt_part, blk_client_part}
use Rattle.actor_set.specs.declared.disk.Disk.{Disk}
use Rattle.actor_set.specs.Parts.{NetworkPart, SendingPart, BlockPart}
use Rattle.actor_set.specs.Actors.{part_of}
use Rattle.actor_set.specs.declared.actor.Actor.{Actor}
use Rattle.actor_set.specs.declared.actor.Actor.TheVariants as Kinds

pub device_actor : (first : ℕ) (frames : List (List ℕ)) (drops : Bool) (x : Actor) → part_of x ≡ NetworkPart (device_at first frames drops) → (d : EthDevice) × (x ≡ Kinds.EthDevice d) × (device_part d ≡ device_at first frames drops)
device_actor first frames drops (Kinds.UartDevice x) e = absurd cc
device_actor first frames drops (Kinds.UartDriver x) e = absurd cc
device_actor first frames drops (Kinds.SerialVirtRx x) e = absurd cc
device_actor first frames drops (Kinds.SerialVirtTx x) e = absurd cc
device_actor first frames drops (Kinds.SerialClient x) e = absurd cc
device_actor first frames drops (Kinds.EthDevice x) e = (x, refl, cc)
device_actor first frames drops (Kinds.EthDriver x) e = absurd cc
device_actor first frames drops (Kinds.NetVirtRx x) e = absurd cc
device_actor first frames drops (Kinds.NetCopier x) e = absurd cc
device_actor first frames drops (Kinds.NetClient x) e = absurd cc
device_actor first frames drops (Kinds.NetVirtTx x) e = absurd cc
device_actor first frames drops (Kinds.DiskDevice x) e = absurd cc
device_actor first frames drops (Kinds.BlkDriver x) e = absurd cc
device_actor first frames drops (Kinds.BlkVirt x) e = absurd cc
device_actor first frames drops (Kinds.BlkClient x) e = absurd cc
device_actor first frames drops (Kinds.Rogue x) e = absurd cc

pub driver_actor : (first : ℕ) (x : Actor) → part_of x ≡ NetworkPart (driver_at first) → (d : EthDriver) × (x ≡ Kinds.EthDriver d) × (driver_part (four_pipes d.driver.pipes) ≡ driver_at first)
driver_actor first (Kinds.UartDevice x) e = absurd cc
driver_actor first (Kinds.UartDriver x) e = absurd cc
driver_actor first (Kinds.SerialVirtRx x) e = absurd cc
driver_actor first (Kinds.SerialVirtTx x) e = absurd cc
driver_actor first (Kinds.SerialClient x) e = absurd cc
driver_actor first (Kinds.EthDevice x) e = absurd cc
driver_actor first (Kinds.EthDriver x) e = (x, refl, cc)
driver_actor first (Kinds.NetVirtRx x) e = absurd cc
driver_actor first (Kinds.NetCopier x) e = absurd cc
driver_actor first (Kinds.NetClient x) e = absurd cc
driver_actor first (Kinds.NetVirtTx x) e = absurd cc
driver_actor first (Kinds.DiskDevice x) e = absurd cc
driver_actor first (Kinds.BlkDriver x) e = absurd cc
driver_actor first (Kinds.BlkVirt x) e = absurd cc
driver_actor first (Kinds.BlkClient x) e = absurd cc
driver_actor first (Kinds.Rogue x) e = absurd cc

pub receiver_actor : (first : ℕ) (pool : PoolAt) (macs : List Mac) (x : Actor) → part_of x ≡ NetworkPart (receiver_at first pool macs) → (v : NetVirtRx) × (x ≡ Kinds.NetVirtRx v) × (receiver_part v ≡ receiver_at first pool macs)
receiver_actor first pool macs (Kinds.UartDevice x) e = absurd cc
receiver_actor first pool macs (Kinds.UartDriver x) e = absurd cc
receiver_actor first pool macs (Kinds.SerialVirtRx x) e = absurd cc
receiver_actor first pool macs (Kinds.SerialVirtTx x) e = absurd cc
receiver_actor first pool macs (Kinds.SerialClient x) e = absurd cc
receiver_actor first pool macs (Kinds.EthDevice x) e = absurd cc
receiver_actor first pool macs (Kinds.EthDriver x) e = absurd cc
receiver_actor first pool macs (Kinds.NetVirtRx x) e = (x, refl, cc)
receiver_actor first pool macs (Kinds.NetCopier x) e = absurd cc
receiver_actor first pool macs (Kinds.NetClient x) e = absurd cc
receiver_actor first pool macs (Kinds.NetVirtTx x) e = absurd cc
receiver_actor first pool macs (Kinds.DiskDevice x) e = absurd cc
receiver_actor first pool macs (Kinds.BlkDriver x) e = absurd cc
receiver_actor first pool macs (Kinds.BlkVirt x) e = absurd cc
receiver_actor first pool macs (Kinds.BlkClient x) e = absurd cc
receiver_actor first pool macs (Kinds.Rogue x) e = absurd cc

pub copier_actor : (first k : ℕ) (drops : Bool) (x : Actor) → part_of x ≡ NetworkPart (copier_at first k drops) → (c : NetCopier) × (x ≡ Kinds.NetCopier c) × (copier_part c ≡ copier_at first k drops)
copier_actor first k drops (Kinds.UartDevice x) e = absurd cc
copier_actor first k drops (Kinds.UartDriver x) e = absurd cc
copier_actor first k drops (Kinds.SerialVirtRx x) e = absurd cc
copier_actor first k drops (Kinds.SerialVirtTx x) e = absurd cc
copier_actor first k drops (Kinds.SerialClient x) e = absurd cc
copier_actor first k drops (Kinds.EthDevice x) e = absurd cc
copier_actor first k drops (Kinds.EthDriver x) e = absurd cc
copier_actor first k drops (Kinds.NetVirtRx x) e = absurd cc
copier_actor first k drops (Kinds.NetCopier x) e = (x, refl, cc)
copier_actor first k drops (Kinds.NetClient x) e = absurd cc
copier_actor first k drops (Kinds.NetVirtTx x) e = absurd cc
copier_actor first k drops (Kinds.DiskDevice x) e = absurd cc
copier_actor first k drops (Kinds.BlkDriver x) e = absurd cc
copier_actor first k drops (Kinds.BlkVirt x) e = absurd cc
copier_actor first k drops (Kinds.BlkClient x) e = absurd cc
copier_actor first k drops (Kinds.Rogue x) e = absurd cc

pub client_actor : (first k : ℕ) (program : Program) (mac : Mac) (pools : ClientPools) (x : Actor) → part_of x ≡ NetworkPart (client_at first k program mac pools) → (c : NetClient) × (x ≡ Kinds.NetClient c) × (client_part c ≡ client_at first k program mac pools)
client_actor first k program mac pools (Kinds.UartDevice x) e = absurd cc
client_actor first k program mac pools (Kinds.UartDriver x) e = absurd cc
client_actor first k program mac pools (Kinds.SerialVirtRx x) e = absurd cc
client_actor first k program mac pools (Kinds.SerialVirtTx x) e = absurd cc
client_actor first k program mac pools (Kinds.SerialClient x) e = absurd cc
client_actor first k program mac pools (Kinds.EthDevice x) e = absurd cc
client_actor first k program mac pools (Kinds.EthDriver x) e = absurd cc
client_actor first k program mac pools (Kinds.NetVirtRx x) e = absurd cc
client_actor first k program mac pools (Kinds.NetCopier x) e = absurd cc
client_actor first k program mac pools (Kinds.NetClient x) e = (x, refl, cc)
client_actor first k program mac pools (Kinds.NetVirtTx x) e = absurd cc
client_actor first k program mac pools (Kinds.DiskDevice x) e = absurd cc
client_actor first k program mac pools (Kinds.BlkDriver x) e = absurd cc
client_actor first k program mac pools (Kinds.BlkVirt x) e = absurd cc
client_actor first k program mac pools (Kinds.BlkClient x) e = absurd cc
client_actor first k program mac pools (Kinds.Rogue x) e = absurd cc

pub sender_actor : (first most : ℕ) (pools : List ClientPools) (x : Actor) → part_of x ≡ SendingPart (sender_at first most pools) → (v : NetVirtTx) × (x ≡ Kinds.NetVirtTx v) × (send_part v ≡ sender_at first most pools)
sender_actor first most pools (Kinds.UartDevice x) e = absurd cc
sender_actor first most pools (Kinds.UartDriver x) e = absurd cc
sender_actor first most pools (Kinds.SerialVirtRx x) e = absurd cc
sender_actor first most pools (Kinds.SerialVirtTx x) e = absurd cc
sender_actor first most pools (Kinds.SerialClient x) e = absurd cc
sender_actor first most pools (Kinds.EthDevice x) e = absurd cc
sender_actor first most pools (Kinds.EthDriver x) e = absurd cc
sender_actor first most pools (Kinds.NetVirtRx x) e = absurd cc
sender_actor first most pools (Kinds.NetCopier x) e = absurd cc
sender_actor first most pools (Kinds.NetClient x) e = absurd cc
sender_actor first most pools (Kinds.NetVirtTx x) e = (x, refl, cc)
sender_actor first most pools (Kinds.DiskDevice x) e = absurd cc
sender_actor first most pools (Kinds.BlkDriver x) e = absurd cc
sender_actor first most pools (Kinds.BlkVirt x) e = absurd cc
sender_actor first most pools (Kinds.BlkClient x) e = absurd cc
sender_actor first most pools (Kinds.Rogue x) e = absurd cc

pub disk_actor : (place : BlkPlace) (x : Actor) → part_of x ≡ BlockPart (disk_at place) → (d : Disk) × (x ≡ Kinds.DiskDevice d) × (disk_part d.start.value d.device ≡ disk_at place)
disk_actor place (Kinds.UartDevice x) e = absurd cc
disk_actor place (Kinds.UartDriver x) e = absurd cc
disk_actor place (Kinds.SerialVirtRx x) e = absurd cc
disk_actor place (Kinds.SerialVirtTx x) e = absurd cc
disk_actor place (Kinds.SerialClient x) e = absurd cc
disk_actor place (Kinds.EthDevice x) e = absurd cc
disk_actor place (Kinds.EthDriver x) e = absurd cc
disk_actor place (Kinds.NetVirtRx x) e = absurd cc
disk_actor place (Kinds.NetCopier x) e = absurd cc
disk_actor place (Kinds.NetClient x) e = absurd cc
disk_actor place (Kinds.NetVirtTx x) e = absurd cc
disk_actor place (Kinds.DiskDevice x) e = (x, refl, cc)
disk_actor place (Kinds.BlkDriver x) e = absurd cc
disk_actor place (Kinds.BlkVirt x) e = absurd cc
disk_actor place (Kinds.BlkClient x) e = absurd cc
disk_actor place (Kinds.Rogue x) e = absurd cc

pub blk_driver_actor : (first : ℕ) (x : Actor) → part_of x ≡ BlockPart (blk_driver_at first) → (d : BlkDriver) × (x ≡ Kinds.BlkDriver d) × (blk_driver_part (two_pipes d.driver.pipes) ≡ blk_driver_at first)
blk_driver_actor first (Kinds.UartDevice x) e = absurd cc
blk_driver_actor first (Kinds.UartDriver x) e = absurd cc
blk_driver_actor first (Kinds.SerialVirtRx x) e = absurd cc
blk_driver_actor first (Kinds.SerialVirtTx x) e = absurd cc
blk_driver_actor first (Kinds.SerialClient x) e = absurd cc
blk_driver_actor first (Kinds.EthDevice x) e = absurd cc
blk_driver_actor first (Kinds.EthDriver x) e = absurd cc
blk_driver_actor first (Kinds.NetVirtRx x) e = absurd cc
blk_driver_actor first (Kinds.NetCopier x) e = absurd cc
blk_driver_actor first (Kinds.NetClient x) e = absurd cc
blk_driver_actor first (Kinds.NetVirtTx x) e = absurd cc
blk_driver_actor first (Kinds.DiskDevice x) e = absurd cc
blk_driver_actor first (Kinds.BlkDriver x) e = (x, refl, cc)
blk_driver_actor first (Kinds.BlkVirt x) e = absurd cc
blk_driver_actor first (Kinds.BlkClient x) e = absurd cc
blk_driver_actor first (Kinds.Rogue x) e = absurd cc

pub virt_actor : (place : BlkPlace) (x : Actor) → part_of x ≡ BlockPart (virt_at place) → (v : BlkVirt) × (x ≡ Kinds.BlkVirt v) × (virt_part v ≡ virt_at place)
virt_actor place (Kinds.UartDevice x) e = absurd cc
virt_actor place (Kinds.UartDriver x) e = absurd cc
virt_actor place (Kinds.SerialVirtRx x) e = absurd cc
virt_actor place (Kinds.SerialVirtTx x) e = absurd cc
virt_actor place (Kinds.SerialClient x) e = absurd cc
virt_actor place (Kinds.EthDevice x) e = absurd cc
virt_actor place (Kinds.EthDriver x) e = absurd cc
virt_actor place (Kinds.NetVirtRx x) e = absurd cc
virt_actor place (Kinds.NetCopier x) e = absurd cc
virt_actor place (Kinds.NetClient x) e = absurd cc
virt_actor place (Kinds.NetVirtTx x) e = absurd cc
virt_actor place (Kinds.DiskDevice x) e = absurd cc
virt_actor place (Kinds.BlkDriver x) e = absurd cc
virt_actor place (Kinds.BlkVirt x) e = (x, refl, cc)
virt_actor place (Kinds.BlkClient x) e = absurd cc
virt_actor place (Kinds.Rogue x) e = absurd cc

pub blk_client_actor : (first k : ℕ) (asks : List Ask) (pool : PoolAt) (x : Actor) → part_of x ≡ BlockPart (blk_client_at first k asks pool) → (c : BlkClient) × (x ≡ Kinds.BlkClient c) × (blk_client_part c ≡ blk_client_at first k asks pool)
blk_client_actor first k asks pool (Kinds.UartDevice x) e = absurd cc
blk_client_actor first k asks pool (Kinds.UartDriver x) e = absurd cc
blk_client_actor first k asks pool (Kinds.SerialVirtRx x) e = absurd cc
blk_client_actor first k asks pool (Kinds.SerialVirtTx x) e = absurd cc
blk_client_actor first k asks pool (Kinds.SerialClient x) e = absurd cc
blk_client_actor first k asks pool (Kinds.EthDevice x) e = absurd cc
blk_client_actor first k asks pool (Kinds.EthDriver x) e = absurd cc
blk_client_actor first k asks pool (Kinds.NetVirtRx x) e = absurd cc
blk_client_actor first k asks pool (Kinds.NetCopier x) e = absurd cc
blk_client_actor first k asks pool (Kinds.NetClient x) e = absurd cc
blk_client_actor first k asks pool (Kinds.NetVirtTx x) e = absurd cc
blk_client_actor first k asks pool (Kinds.DiskDevice x) e = absurd cc
blk_client_actor first k asks pool (Kinds.BlkDriver x) e = absurd cc
blk_client_actor first k asks pool (Kinds.BlkVirt x) e = absurd cc
blk_client_actor first k asks pool (Kinds.BlkClient x) e = (x, refl, cc)
blk_client_actor first k asks pool (Kinds.Rogue x) e = absurd cc
