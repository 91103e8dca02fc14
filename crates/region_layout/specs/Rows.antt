-- The tables of actors, queues and pools that a plan gives.
use Rattle.std.specs.Prelude.{ℕ, ◌+◌, ◌*◌, not, Bool, if◌then◌else◌, List, [], ◌∷◌, ◌++◌, length}
use Rattle.std.specs.Prelude.{map, filter, codes, bytes_eq, slice_index, Option, None, is_some}
use Rattle.std.specs.Prelude.{unwrap_or}
use Rattle.std.specs.List.{flat_map}
use Rattle.std.specs.Option.{option_map_or}
use Rattle.std.specs.Fmt.{decimal}
use Rattle.cargo_core.specs.declared.item.QueueKind.{QueueKind}
use Rattle.cargo_core.specs.declared.item.QueueKind.TheVariants as Kind
use Rattle.wire_core.specs.declared.names.ActorId.{ActorId}
use Rattle.wire_core.specs.declared.names.QueueRow.{QueueRow}
use Rattle.wire_core.specs.declared.names.PoolRow.{PoolRow}
use Rattle.sdf_plan.specs.declared.place.Place.{Place}
use Rattle.sdf_plan.specs.declared.place.Place.TheVariants as At
use Rattle.sdf_plan.specs.declared.plan.Plan.{Plan}
use Rattle.sdf_plan.specs.declared.plan.Domain.{Domain}
use Rattle.sdf_plan.specs.declared.plan.Net.{Net}
use Rattle.sdf_plan.specs.declared.plan.NetClient.{NetClient}
use Rattle.sdf_plan.specs.declared.plan.Serial.{Serial}
use Rattle.sdf_plan.specs.declared.plan.SerialClient.{SerialClient}
use Rattle.sdf_plan.specs.declared.plan.Blk.{Blk}
use Rattle.sdf_plan.specs.declared.plan.BlkClient.{BlkClient}
use Rattle.sdf_plan.specs.declared.class_table.uses.Ends.{Ends}
use Rattle.sdf_plan.specs.declared.class_table.uses.Ends.TheVariants as Way
use Rattle.sdf_plan.specs.declared.class_table.uses.QueueUse.{QueueUse}
use Rattle.sdf_plan.specs.declared.class_table.uses.PoolUse.{PoolUse}
use Rattle.sdf_plan.specs.ClassTable.Named.{text_of}
use Rattle.sdf_plan.specs.ClassTable.Rows.{Name, blk_buffer}
use Rattle.sdf_plan.specs.ClassTable.Sizes.{entry_size, offset_behind}
use Rattle.sdf_plan.specs.ClassTable.Table.{Element, table_of}
use Rattle.sdf_check.specs.Names.{place_of, region_named}
use Rattle.region_layout.specs.Bases.{round_up, bases_of}

-- whether a domain acts: its program isn't `idle`
abbrev pub acts : Domain → Bool
acts domain = not (bytes_eq domain.program (codes "idle"))

-- a name that is there where a class is
abbrev pub name_if : Bool → List ℕ → List (List ℕ)
name_if there name = if there then name ∷ [] else []

-- the devices of the classes that a plan has
abbrev pub devices_of : Plan → List (List ℕ)
devices_of plan = name_if (is_some plan.net) (codes "@eth")
    ++ name_if (is_some plan.serial) (codes "@uart") ++ name_if (is_some plan.blk) (codes "@disk")

-- the actors: the domains that act, in file order, and the devices
unfoldable pub actors_of : Plan → List (List ℕ)
actors_of plan = map (λ (d : Domain). d.name) (filter acts plan.protection_domain)
    ++ devices_of plan

-- the number of a domain that acts, by its name
unfoldable pub actor_named : Plan → List ℕ → ActorId
actor_named plan name = record { 0 = unwrap_or (place_of name (actors_of plan)) 0 }

-- whether a class is there, as a number
abbrev pub one_if : Bool → ℕ
one_if there = if there then 1 else 0

-- how many domains act: the devices are numbered behind them, each behind those of the classes
-- before its own
abbrev pub acting_count : Plan → ℕ
acting_count plan = length (filter acts plan.protection_domain)

-- the number of the Ethernet device
unfoldable pub eth_number : Plan → ActorId
eth_number plan = record { 0 = acting_count plan }

-- the number of the UART
unfoldable pub uart_number : Plan → ActorId
uart_number plan = record { 0 = acting_count plan + one_if (is_some plan.net) }

-- the number of the disk
unfoldable pub disk_number : Plan → ActorId
disk_number plan = record {
  0 = acting_count plan + one_if (is_some plan.net) + one_if (is_some plan.serial);
}

-- the bytes of a region that a queue takes: a header of 64 bytes, its entries, and what is left up
-- to a multiple of 64
unfoldable pub queue_span : QueueKind → ℕ → ℕ
queue_span kind capacity = round_up (64 + entry_size kind * capacity) 64

-- a queue between two actors, in a region from an offset on
unfoldable pub queue_in : Plan → Option ℕ → ℕ → List ℕ → QueueKind → ActorId → ActorId → ℕ
    → QueueRow
queue_in plan region offset name kind producer consumer capacity = record {
  name = name;
  kind = kind;
  capacity = capacity;
  producer = producer;
  consumer = consumer;
  region = region;
  offset = offset;
}

-- a pool that fills a region from its base on
unfoldable pub pool_in : Plan → List ℕ → List ℕ → ℕ → ℕ → PoolRow
pool_in plan key name buffers size = record {
  name = name;
  region = unwrap_or (region_named plan key) 0;
  base = slice_index (bases_of plan.memory_region) (unwrap_or (region_named plan key) 0);
  buffers = buffers;
  size = size;
}

-- the number of the device of the class at a place
abbrev pub device_at : Plan → Place → ActorId
device_at plan At.Net = eth_number plan
device_at plan At.Serial = uart_number plan
device_at plan _ = disk_number plan

-- the producer of a queue of the element at a place
abbrev pub producer_of : Plan → Place → Ends Name → ActorId
producer_of plan place (Way.FromDevice driver) = device_at plan place
producer_of plan place (Way.ToDevice driver) = actor_named plan driver
producer_of plan place (Way.Across link) = actor_named plan link.from

-- the consumer of a queue of the element at a place
abbrev pub consumer_of : Plan → Place → Ends Name → ActorId
consumer_of plan place (Way.FromDevice driver) = actor_named plan driver
consumer_of plan place (Way.ToDevice driver) = device_at plan place
consumer_of plan place (Way.Across link) = actor_named plan link.to

-- the number of the region in which a queue stands
abbrev pub region_of : Plan → Ends Name → Option ℕ
region_of plan (Way.Across link) = region_named plan link.region
region_of plan _ = None

-- the row of the layout that a queue of the element at a place is
abbrev pub queue_row : Plan → Place → QueueUse Name → QueueRow
queue_row plan place q =
    queue_in plan (region_of plan q.ends) (offset_behind q.behind q.capacity)
    (text_of q.name) q.kind
    (producer_of plan place q.ends) (consumer_of plan place q.ends) q.capacity

-- the row of the layout that a pool is
abbrev pub pool_row : Plan → PoolUse Name → PoolRow
pool_row plan p = pool_in plan p.region (text_of p.name) p.buffers p.size

-- the rows of the queues of an element
abbrev pub queue_rows : Plan → Element → List QueueRow
queue_rows plan e = map (queue_row plan e.place) e.queues

-- the rows of the pools of an element
abbrev pub pool_rows : Plan → Element → List PoolRow
pool_rows plan e = map (pool_row plan) e.pools

-- all queues: the rows of the table of classes, element by element
unfoldable pub queues_of : Plan → List QueueRow
queues_of plan = flat_map (queue_rows plan) (table_of plan)

-- all pools of a plan, element by element
unfoldable pub pools_of : Plan → List PoolRow
pools_of plan = flat_map (pool_rows plan) (table_of plan)

-- The same rows by the names of the queues and pools, class by class, as proofs go through them:
-- that these are the table's is a lemma.

-- a queue that a device shares with its driver: it stands in no region
abbrev pub device_queue : Plan → List ℕ → QueueKind → ActorId → ActorId → ℕ → QueueRow
device_queue plan name kind producer consumer capacity =
    queue_in plan None 0 name kind producer consumer capacity

-- the only queue of a region
abbrev pub only_queue : Plan → List ℕ → List ℕ → QueueKind → ActorId → ActorId → ℕ → QueueRow
only_queue plan key name kind producer consumer capacity =
    queue_in plan (region_named plan key) 0 name kind producer consumer capacity

-- the two queues of a region between two actors: the first from one to the other, the second behind
-- it and back
unfoldable pub queue_pair : Plan → List ℕ → List ℕ → QueueKind → List ℕ → QueueKind → ActorId
    → ActorId → ℕ → List QueueRow
queue_pair plan key first kind second kind_back from to capacity =
    queue_in plan (region_named plan key) 0 first kind from to capacity
    ∷ queue_in plan (region_named plan key)
    (queue_span kind capacity) second kind_back to from capacity ∷ []

-- the name of a queue or a pool of a client
abbrev pub client_name : List ℕ → ℕ → List ℕ → List ℕ
client_name class c rest = class ++ (decimal c ++ rest)

-- what each client of a class gives, with its number
abbrev pub each_client : {C T : Type 0} → (ℕ → C → List T) → ℕ → List C → List T
each_client rows c [] = []
each_client rows c (client ∷ rest) = rows c client ++ each_client rows (c + 1) rest

-- the queues between the Ethernet driver and its device, of what is received
unfoldable pub eth_rx_queues : Plan → Net → List QueueRow
eth_rx_queues plan net =
    device_queue plan (codes "eth.rx.free") Kind.Net (actor_named plan net.driver)
    (eth_number plan) net.rx_capacity
    ∷ device_queue plan (codes "eth.rx.active") Kind.Net (eth_number plan)
    (actor_named plan net.driver) net.rx_capacity ∷ []

-- the queues between the Ethernet driver and its device, of what is sent
unfoldable pub eth_tx_queues : Plan → Net → List QueueRow
eth_tx_queues plan net =
    device_queue plan (codes "eth.tx.active") Kind.Net (actor_named plan net.driver)
    (eth_number plan) net.tx_capacity
    ∷ device_queue plan (codes "eth.tx.free") Kind.Net (eth_number plan)
    (actor_named plan net.driver) net.tx_capacity ∷ []

-- the queues between the Ethernet driver and the receiving virtualiser
unfoldable pub net_rx_queues : Plan → Net → List QueueRow
net_rx_queues plan net = queue_pair plan net.rx_queues (codes "net.rx.active") Kind.Net
    (codes "net.rx.free") Kind.Net (actor_named plan net.driver)
    (actor_named plan net.rx_virt) net.rx_capacity

-- the queues between the sending virtualiser and the Ethernet driver
unfoldable pub net_tx_queues : Plan → Net → List QueueRow
net_tx_queues plan net = queue_pair plan net.tx_queues (codes "net.tx.active") Kind.Net
    (codes "net.tx.free") Kind.Net (actor_named plan net.tx_virt)
    (actor_named plan net.driver) net.tx_capacity

-- the queues of a network client's leases
unfoldable pub lease_queues : Plan → Net → ℕ → NetClient → List QueueRow
lease_queues plan net c client =
    queue_pair plan client.lease_queues
    (client_name (codes "net.") c (codes ".lease.active")) Kind.Net
    (client_name (codes "net.") c (codes ".lease.free")) Kind.Net
    (actor_named plan net.rx_virt) (actor_named plan client.copier) net.rx_capacity

-- the queues of what a network client receives
unfoldable pub client_rx_queues : Plan → ℕ → NetClient → List QueueRow
client_rx_queues plan c client =
    queue_pair plan client.rx_queues (client_name (codes "net.") c (codes ".rx.active")) Kind.Net
    (client_name (codes "net.") c (codes ".rx.free")) Kind.Net (actor_named plan client.copier)
    (actor_named plan client.pd) client.rx_capacity

-- the queues of what a network client sends
unfoldable pub client_tx_queues : Plan → Net → ℕ → NetClient → List QueueRow
client_tx_queues plan net c client =
    queue_pair plan client.tx_queues (client_name (codes "net.") c (codes ".tx.active")) Kind.Net
    (client_name (codes "net.") c (codes ".tx.free")) Kind.Net (actor_named plan client.pd)
    (actor_named plan net.tx_virt) client.tx_capacity

-- all queues of a network client
unfoldable pub net_client_queues : Plan → Net → ℕ → NetClient → List QueueRow
net_client_queues plan net c client =
    lease_queues plan net c client ++ client_rx_queues plan c client
    ++ client_tx_queues plan net c client

-- the queues of the network class
unfoldable pub net_queues : Plan → Net → List QueueRow
net_queues plan net =
    eth_rx_queues plan net ++ eth_tx_queues plan net ++ net_rx_queues plan net
    ++ net_tx_queues plan net ++ each_client (net_client_queues plan net) 0 net.client

-- the queues between the serial device and its driver
unfoldable pub uart_queues : Plan → Serial → List QueueRow
uart_queues plan serial =
    device_queue plan (codes "uart.rx") Kind.Byte (uart_number plan)
    (actor_named plan serial.driver) serial.rx_capacity
    ∷ device_queue plan (codes "uart.tx") Kind.Byte (actor_named plan serial.driver)
    (uart_number plan) serial.tx_capacity ∷ []

-- the queues between the driver and the virtualisers of the serial class
unfoldable pub shared_serial_queues : Plan → Serial → List QueueRow
shared_serial_queues plan serial =
    only_queue plan serial.rx_queues (codes "serial.rx") Kind.Byte (actor_named plan serial.driver)
    (actor_named plan serial.rx_virt) serial.rx_capacity
    ∷ only_queue plan serial.tx_queues (codes "serial.tx") Kind.Byte
    (actor_named plan serial.tx_virt) (actor_named plan serial.driver) serial.tx_capacity ∷ []

-- the queues of a serial client
unfoldable pub serial_client_queues : Plan → Serial → ℕ → SerialClient → List QueueRow
serial_client_queues plan serial c client =
    only_queue plan client.rx_queues (client_name (codes "serial.") c (codes ".rx")) Kind.Byte
    (actor_named plan serial.rx_virt) (actor_named plan client.pd) client.rx_capacity
    ∷ only_queue plan client.tx_queues (client_name (codes "serial.") c (codes ".tx")) Kind.Byte
    (actor_named plan client.pd) (actor_named plan serial.tx_virt) client.tx_capacity ∷ []

-- the queues of the serial class
unfoldable pub serial_queues : Plan → Serial → List QueueRow
serial_queues plan serial = uart_queues plan serial ++ shared_serial_queues plan serial
    ++ each_client (serial_client_queues plan serial) 0 serial.client

-- the queues between the disk and its driver
unfoldable pub disk_queues : Plan → Blk → List QueueRow
disk_queues plan blk =
    device_queue plan (codes "disk.req") Kind.Req (actor_named plan blk.driver)
    (disk_number plan) blk.capacity
    ∷ device_queue plan (codes "disk.resp") Kind.Resp (disk_number plan)
    (actor_named plan blk.driver) blk.capacity ∷ []

-- the queues between the driver and the virtualiser of the block class
unfoldable pub shared_blk_queues : Plan → Blk → List QueueRow
shared_blk_queues plan blk = queue_pair plan blk.queues (codes "blk.req") Kind.Req
    (codes "blk.resp") Kind.Resp (actor_named plan blk.virt)
    (actor_named plan blk.driver) blk.capacity

-- the queues of a block client
unfoldable pub blk_client_queues : Plan → Blk → ℕ → BlkClient → List QueueRow
blk_client_queues plan blk c client =
    queue_pair plan client.queues (client_name (codes "blk.") c (codes ".req")) Kind.Req
    (client_name (codes "blk.") c (codes ".resp")) Kind.Resp (actor_named plan client.pd)
    (actor_named plan blk.virt) client.capacity

-- the queues of the block class
unfoldable pub blk_queues : Plan → Blk → List QueueRow
blk_queues plan blk = disk_queues plan blk ++ shared_blk_queues plan blk
    ++ each_client (blk_client_queues plan blk) 0 blk.client

-- the pools of a network client
unfoldable pub net_client_pools : Plan → ℕ → NetClient → List PoolRow
net_client_pools plan c client =
    pool_in plan client.rx_region (client_name (codes "net.") c
    (codes ".rx")) client.rx_buffers client.rx_buffer_size
    ∷ pool_in plan client.tx_region (client_name (codes "net.") c
    (codes ".tx")) client.tx_buffers client.tx_buffer_size ∷ []

-- the pools of the network class and of its clients
unfoldable pub net_pools : Plan → Net → List PoolRow
net_pools plan net =
    pool_in plan net.rx_region (codes "net.rx") net.rx_buffers net.rx_buffer_size
    ∷ each_client (net_client_pools plan) 0 net.client

-- the pool of a block client
unfoldable pub blk_client_pools : Plan → ℕ → BlkClient → List PoolRow
blk_client_pools plan c client = pool_in plan client.region
    (client_name (codes "blk.") c []) client.buffers blk_buffer ∷ []

-- the pools of the block class and of its clients
unfoldable pub blk_pools : Plan → Blk → List PoolRow
blk_pools plan blk = pool_in plan blk.region (codes "blk") 1 blk_buffer
    ∷ each_client (blk_client_pools plan) 0 blk.client

-- all queues so told, class by class
abbrev pub class_queues : Plan → List QueueRow
class_queues plan = option_map_or (net_queues plan) plan.net []
    ++ option_map_or (serial_queues plan) plan.serial []
    ++ option_map_or (blk_queues plan) plan.blk []

-- all pools so told
abbrev pub class_pools : Plan → List PoolRow
class_pools plan = option_map_or (net_pools plan) plan.net []
    ++ option_map_or (blk_pools plan) plan.blk []
