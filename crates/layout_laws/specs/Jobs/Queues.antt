-- Whose the queues of a layout are, by the jobs of their owners.
use Rattle.std.specs.Prelude.{ℕ, List, [], ◌∷◌, ◌++◌}
use Rattle.std.specs.Option.{option_map_or}
use Rattle.sdf_plan.specs.declared.plan.Plan.{Plan}
use Rattle.sdf_plan.specs.declared.plan.Net.{Net}
use Rattle.sdf_plan.specs.declared.plan.Serial.{Serial}
use Rattle.sdf_plan.specs.declared.plan.Blk.{Blk}
use Rattle.region_layout.specs.Rows.{each_client}
use Rattle.layout_laws.specs.Jobs.Jobs.{Job, EthDevice, EthDriver, NetReceiver, NetSender}
use Rattle.layout_laws.specs.Jobs.Jobs.{NetCopier, NetClient, UartDevice, UartDriver}
use Rattle.layout_laws.specs.Jobs.Jobs.{SerialReceiver, SerialSender, SerialClient, DiskDevice}
use Rattle.layout_laws.specs.Jobs.Jobs.{DiskDriver, BlkVirtualiser, BlkClient}

-- the jobs of a queue's two owners
pub record Owners : Type 0 where
  pub producer : Job
  pub consumer : Job

-- the owners of a queue from one actor to another
abbrev pub one_way : Job → Job → Owners
one_way from to = record { producer = from; consumer = to }

-- the owners of two queues between two actors, there and back
abbrev pub both_ways : Job → Job → List Owners
both_ways from to = one_way from to ∷ one_way to from ∷ []

-- the owners of a network client's queues
abbrev pub net_client_owners : ℕ → List Owners
net_client_owners c =
    both_ways NetReceiver (NetCopier c) ++ both_ways (NetCopier c) (NetClient c)
    ++ both_ways (NetClient c) NetSender

-- the owners of the network's queues, in the order of the layout's table
abbrev pub net_owners : Net → List Owners
net_owners net =
    both_ways EthDriver EthDevice ++ both_ways EthDriver EthDevice
    ++ both_ways EthDriver NetReceiver ++ both_ways NetSender EthDriver
    ++ each_client (λ c client. net_client_owners c) 0 net.client

-- the owners of a serial client's queues
abbrev pub serial_client_owners : ℕ → List Owners
serial_client_owners c =
    one_way SerialReceiver (SerialClient c) ∷ one_way (SerialClient c) SerialSender ∷ []

-- the owners of the serial class's queues, in the order of the layout's table
abbrev pub serial_owners : Serial → List Owners
serial_owners serial =
    both_ways UartDevice UartDriver
    ++ (one_way UartDriver SerialReceiver ∷ one_way SerialSender UartDriver ∷ [])
    ++ each_client (λ c client. serial_client_owners c) 0 serial.client

-- those of the block class
abbrev pub blk_owners : Blk → List Owners
blk_owners blk =
    both_ways DiskDriver DiskDevice ++ both_ways BlkVirtualiser DiskDriver
    ++ each_client (λ c client. both_ways (BlkClient c) BlkVirtualiser) 0 blk.client

-- all queues, class by class
abbrev pub owners_of : Plan → List Owners
owners_of plan =
    option_map_or net_owners plan.net [] ++ option_map_or serial_owners plan.serial []
    ++ option_map_or blk_owners plan.blk []
