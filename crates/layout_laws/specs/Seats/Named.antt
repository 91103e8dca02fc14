-- Which numbers have which jobs, by the names that a plan's class elements give.
use Rattle.std.specs.Prelude.{◌≡◌, ℕ, Some, slice_get}
use Rattle.sdf_plan.specs.declared.plan.Plan.{Plan}
use Rattle.sdf_plan.specs.declared.plan.Net.{Net}
use Rattle.sdf_plan.specs.declared.plan.NetClient.{NetClient as NetClientKeys}
use Rattle.sdf_plan.specs.declared.plan.Serial.{Serial}
use Rattle.sdf_plan.specs.declared.plan.SerialClient.{SerialClient as SerialClientKeys}
use Rattle.sdf_plan.specs.declared.plan.Blk.{Blk}
use Rattle.sdf_plan.specs.declared.plan.BlkClient.{BlkClient as BlkClientKeys}
use Rattle.region_layout.specs.Rows.{actor_named, eth_number, uart_number, disk_number}
use Rattle.layout_laws.specs.Jobs.Jobs.{EthDevice, EthDriver, NetReceiver, NetSender, NetCopier}
use Rattle.layout_laws.specs.Jobs.Jobs.{NetClient, UartDevice, UartDriver, SerialReceiver}
use Rattle.layout_laws.specs.Jobs.Jobs.{SerialSender, SerialClient, DiskDevice, DiskDriver}
use Rattle.layout_laws.specs.Jobs.Jobs.{BlkVirtualiser, BlkClient, HasJob}

-- those of the network class
pub record AreNetNamed (plan : Plan) (net : Net) : Type 0 where
  pub device : HasJob plan EthDevice (eth_number plan).0
  pub driver : HasJob plan EthDriver (actor_named plan net.driver).0
  pub receiver : HasJob plan NetReceiver (actor_named plan net.rx_virt).0
  pub sender : HasJob plan NetSender (actor_named plan net.tx_virt).0
  pub copier : (c : ℕ) (client : NetClientKeys) → slice_get net.client c ≡ Some client
      → HasJob plan (NetCopier c) (actor_named plan client.copier).0
  pub client : (c : ℕ) (client : NetClientKeys) → slice_get net.client c ≡ Some client
      → HasJob plan (NetClient c) (actor_named plan client.pd).0

-- those of the serial class
pub record AreSerialNamed (plan : Plan) (serial : Serial) : Type 0 where
  pub device : HasJob plan UartDevice (uart_number plan).0
  pub driver : HasJob plan UartDriver (actor_named plan serial.driver).0
  pub receiver : HasJob plan SerialReceiver (actor_named plan serial.rx_virt).0
  pub sender : HasJob plan SerialSender (actor_named plan serial.tx_virt).0
  pub client : (c : ℕ) (client : SerialClientKeys) → slice_get serial.client c ≡ Some client
      → HasJob plan (SerialClient c) (actor_named plan client.pd).0

-- those of the block class
pub record AreBlkNamed (plan : Plan) (blk : Blk) : Type 0 where
  pub device : HasJob plan DiskDevice (disk_number plan).0
  pub driver : HasJob plan DiskDriver (actor_named plan blk.driver).0
  pub virtualiser : HasJob plan BlkVirtualiser (actor_named plan blk.virt).0
  pub client : (c : ℕ) (client : BlkClientKeys) → slice_get blk.client c ≡ Some client
      → HasJob plan (BlkClient c) (actor_named plan client.pd).0
