-- The numbers of a plan for which the rows of its layout have room: the rules allow no others.
use Rattle.std.specs.Prelude.{◌≡◌, ℕ, ◌+◌, ◌^◌, ◌<◌, ◌≤◌, List, length, slice_get, Some}
use Rattle.sdf_plan.specs.declared.plan.Plan.{Plan}
use Rattle.sdf_plan.specs.declared.plan.Region.{Region}
use Rattle.sdf_plan.specs.declared.plan.Net.{Net}
use Rattle.sdf_plan.specs.declared.plan.NetClient.{NetClient}
use Rattle.sdf_plan.specs.declared.plan.Serial.{Serial}
use Rattle.sdf_plan.specs.declared.plan.SerialClient.{SerialClient}
use Rattle.sdf_plan.specs.declared.plan.Blk.{Blk}
use Rattle.sdf_plan.specs.declared.plan.BlkClient.{BlkClient}

-- a region whose numbers the rules allow
pub record IsSmallRegion (region : Region) : Type 0 where
  pub some : 1 ≤ region.size
  pub size : region.size ≤ 2 ^ 30
  pub page : 1 ≤ region.page_size
  pub page_size : region.page_size ≤ 2 ^ 21
  pub given : (base : ℕ) → region.phys_addr ≡ Some base → base + region.size ≤ 2 ^ 40

-- the regions are few, and their numbers are such
pub record AreSmallRegions (regions : List Region) : Type 0 where
  pub few : length regions ≤ 256
  pub each : (k : ℕ) (region : Region) → slice_get regions k ≡ Some region → IsSmallRegion region

-- the numbers of a network client have 32 bits
pub record IsSmallNetClient (client : NetClient) : Type 0 where
  pub rx_capacity : client.rx_capacity < 2 ^ 32
  pub tx_capacity : client.tx_capacity < 2 ^ 32
  pub rx_buffers : client.rx_buffers < 2 ^ 32
  pub tx_buffers : client.tx_buffers < 2 ^ 32
  pub rx_buffer_size : client.rx_buffer_size < 2 ^ 32
  pub tx_buffer_size : client.tx_buffer_size < 2 ^ 32

-- the numbers of the network class, and of its clients, have 32 bits
pub record IsSmallNet (net : Net) : Type 0 where
  pub rx_capacity : net.rx_capacity < 2 ^ 32
  pub tx_capacity : net.tx_capacity < 2 ^ 32
  pub rx_buffers : net.rx_buffers < 2 ^ 32
  pub rx_buffer_size : net.rx_buffer_size < 2 ^ 32
  pub clients : (k : ℕ) (client : NetClient) → slice_get net.client k ≡ Some client
      → IsSmallNetClient client

-- the numbers of a serial client have 32 bits
pub record IsSmallSerialClient (client : SerialClient) : Type 0 where
  pub rx_capacity : client.rx_capacity < 2 ^ 32
  pub tx_capacity : client.tx_capacity < 2 ^ 32

-- the numbers of the serial class, and of its clients, have 32 bits
pub record IsSmallSerial (serial : Serial) : Type 0 where
  pub rx_capacity : serial.rx_capacity < 2 ^ 32
  pub tx_capacity : serial.tx_capacity < 2 ^ 32
  pub clients : (k : ℕ) (client : SerialClient) → slice_get serial.client k ≡ Some client
      → IsSmallSerialClient client

-- the numbers of a block client have 32 bits
pub record IsSmallBlkClient (client : BlkClient) : Type 0 where
  pub capacity : client.capacity < 2 ^ 32
  pub buffers : client.buffers < 2 ^ 32

-- the numbers of the block class, and of its clients, have 32 bits
pub record IsSmallBlk (blk : Blk) : Type 0 where
  pub capacity : blk.capacity < 2 ^ 32
  pub clients : (k : ℕ) (client : BlkClient) → slice_get blk.client k ≡ Some client
      → IsSmallBlkClient client

-- the numbers of a plan for which rows have room
pub record HasSmallNumbers (plan : Plan) : Type 0 where
  pub domains : length plan.protection_domain ≤ 63
  pub regions : AreSmallRegions plan.memory_region
  pub net : (net : Net) → plan.net ≡ Some net → IsSmallNet net
  pub serial : (serial : Serial) → plan.serial ≡ Some serial → IsSmallSerial serial
  pub blk : (blk : Blk) → plan.blk ≡ Some blk → IsSmallBlk blk
