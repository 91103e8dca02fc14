-- The header of a plan and its layout.
use Rattle.std.specs.Prelude.{ℕ, List, [], ◌∷◌, ◌++◌, length, codes}
use Rattle.std.specs.Option.{option_map_or}
use Rattle.std.specs.Fmt.{decimal}
use Rattle.cargo_core.specs.declared.item.QueueKind.{QueueKind}
use Rattle.cargo_core.specs.declared.item.QueueKind.TheVariants as Kind
use Rattle.sdf_plan.specs.declared.plan.Plan.{Plan}
use Rattle.sdf_plan.specs.declared.plan.Region.{Region}
use Rattle.sdf_plan.specs.declared.plan.Domain.{Domain}
use Rattle.sdf_plan.specs.declared.plan.Map.{Map}
use Rattle.sdf_plan.specs.declared.plan.Irq.{Irq}
use Rattle.sdf_plan.specs.declared.plan.Channel.{Channel}
use Rattle.sdf_plan.specs.declared.plan.End.{End}
use Rattle.sdf_plan.specs.declared.plan.Net.{Net}
use Rattle.sdf_plan.specs.declared.plan.Serial.{Serial}
use Rattle.sdf_plan.specs.declared.plan.Blk.{Blk}
use Rattle.sdf_plan.specs.declared.plan.BlkClient.{BlkClient}
use Rattle.wire_core.specs.declared.names.QueueRow.{QueueRow}
use Rattle.wire_core.specs.declared.names.PoolRow.{PoolRow}
use Rattle.export_text.specs.declared.config_text.config.Rows.{Rows}
use Rattle.export_text.specs.declared.config_text.config.TheConstants.{BEGINNING}
use Rattle.export_text.specs.ConfigText.Code.{code}
use Rattle.export_text.specs.ConfigText.Lines.{constant_of, definition, hex_value, each_numbered, if_there}

-- a decimal constant and a hexadecimal one, of one thing
unfoldable pub decimal_of : List ℕ → List ℕ → List ℕ → ℕ → List ℕ
decimal_of kind name rest n = definition (constant_of kind name rest) (decimal n)

-- a line that gives a constant of these words a number, in hexadecimal digits
unfoldable pub hex_of : List ℕ → List ℕ → List ℕ → ℕ → List ℕ
hex_of kind name rest n = definition (constant_of kind name rest) (hex_value n)

-- a region: its number, its size, and its physical address where it is given
abbrev pub region_text : ℕ → Region → List ℕ
region_text n region =
    decimal_of (codes "SDDF_REGION_") region.name [] n
    ++ (hex_of (codes "SDDF_REGION_") region.name (codes "_SIZE") region.size
    ++ if_there (hex_of (codes "SDDF_REGION_") region.name (codes "_PHYS_ADDR"))
    region.phys_addr)

-- the number of a kind of queues
abbrev pub kind_number : QueueKind → ℕ
kind_number Kind.Net = 0
kind_number Kind.Byte = 1
kind_number Kind.Req = 2
kind_number Kind.Resp = 3

-- a queue: its number, its kind, who puts and who takes, how many entries it holds, its region,
-- where it has one, and where it begins there
abbrev pub queue_text : ℕ → QueueRow → List ℕ
queue_text n queue =
    decimal_of (codes "SDDF_QUEUE_") queue.name [] n
    ++ (decimal_of (codes "SDDF_QUEUE_") queue.name (codes "_KIND") (kind_number queue.kind)
    ++ (decimal_of (codes "SDDF_QUEUE_") queue.name (codes "_PRODUCER") queue.producer.0
    ++ (decimal_of (codes "SDDF_QUEUE_") queue.name (codes "_CONSUMER") queue.consumer.0
    ++ (decimal_of (codes "SDDF_QUEUE_") queue.name (codes "_CAPACITY") queue.capacity
    ++ (if_there (decimal_of (codes "SDDF_QUEUE_") queue.name (codes "_REGION")) queue.region
    ++ hex_of (codes "SDDF_QUEUE_") queue.name (codes "_OFFSET") queue.offset)))))

-- a pool: its number, its region, how many buffers it has, and how many bytes each
abbrev pub pool_text : ℕ → PoolRow → List ℕ
pool_text n pool =
    decimal_of (codes "SDDF_POOL_") pool.name [] n
    ++ (decimal_of (codes "SDDF_POOL_") pool.name (codes "_REGION") pool.region
    ++ (decimal_of (codes "SDDF_POOL_") pool.name (codes "_BUFFERS") pool.buffers
    ++ decimal_of (codes "SDDF_POOL_") pool.name (codes "_BUFFER_SIZE") pool.size))

-- an actor: its number
abbrev pub actor_text : ℕ → List ℕ → List ℕ
actor_text n name = decimal_of (codes "SDDF_ACTOR_") name [] n

-- what a constant of a part of a domain ends with: the sort of the part, its number, and the name
-- of what it leads to
abbrev pub part : List ℕ → ℕ → List ℕ → List ℕ
part sort n name = sort ++ (decimal n ++ (codes "_" ++ code name))

-- a map of a domain: where its region begins there
abbrev pub map_text : List ℕ → ℕ → Map → List ℕ
map_text domain n m = hex_of (codes "SDDF_PD_") domain (part (codes "_MAP_") n m.mr) m.vaddr

-- an interrupt of a domain: its id there
abbrev pub irq_text : List ℕ → ℕ → Irq → List ℕ
irq_text domain n i = decimal_of (codes "SDDF_PD_") domain (codes "_IRQ_" ++ decimal n) i.id

-- a domain: its maps and its interrupts
abbrev pub domain_text : ℕ → Domain → List ℕ
domain_text n domain =
    each_numbered (map_text domain.name) 0 domain.map
    ++ each_numbered (irq_text domain.name) 0 domain.irq

-- an end of a channel: its id in its domain, and the domain at the other end
abbrev pub end_text : ℕ → End → End → List ℕ
end_text n here there =
    decimal_of (codes "SDDF_PD_") here.pd (part (codes "_CHANNEL_") n there.pd) here.id

-- a channel: its ends, of which it has two
abbrev pub ends_text : ℕ → List End → List ℕ
ends_text n (first ∷ second ∷ []) = end_text n first second ++ end_text n second first
ends_text n _ = []

-- a channel
abbrev pub channel_text : ℕ → Channel → List ℕ
channel_text n channel = ends_text n channel.end

-- a constant of a class
unfoldable pub class_number : List ℕ → ℕ → List ℕ
class_number constant n = definition constant (decimal n)

-- the network class: how many clients it has, and how long a frame is at most
abbrev pub net_text : Net → List ℕ
net_text net =
    class_number (codes "SDDF_NET_CLIENTS") (length net.client)
    ++ class_number (codes "SDDF_NET_MAX_FRAME") net.max_frame

-- the serial class: how many clients it has
abbrev pub serial_text : Serial → List ℕ
serial_text serial = class_number (codes "SDDF_SERIAL_CLIENTS") (length serial.client)

-- a client of the block class: its partition
abbrev pub blk_client_text : ℕ → BlkClient → List ℕ
blk_client_text n client =
    class_number (codes "SDDF_BLK_PARTITION_" ++ decimal n) client.partition

-- the block class: how many clients it has, and their partitions
abbrev pub blk_text : Blk → List ℕ
blk_text blk =
    class_number (codes "SDDF_BLK_CLIENTS") (length blk.client)
    ++ each_numbered blk_client_text 0 blk.client

-- the classes that a plan has
abbrev pub classes_text : Plan → List ℕ
classes_text plan =
    option_map_or net_text plan.net []
    ++ (option_map_or serial_text plan.serial [] ++ option_map_or blk_text plan.blk [])

-- what it ends with
abbrev pub ending : List ℕ
ending = codes "#endif\n"

-- the rows of a layout: its actors, its pools and its queues
pub record HeaderRows : Type 0 where
  pub actors : List (List ℕ)
  pub pools : List PoolRow
  pub queues : List QueueRow

-- the rows that the program has behind references
abbrev pub rows_shown : Rows → HeaderRows
rows_shown rows = record {
  actors = rows.actors.now;
  pools = rows.pools.now;
  queues = rows.queues.now;
}

-- the actors, the regions, the pools and the queues
abbrev pub rows_text : List Region → HeaderRows → List ℕ
rows_text regions layout =
    each_numbered actor_text 0 layout.actors
    ++ (each_numbered region_text 0 regions
    ++ (each_numbered pool_text 0 layout.pools ++ each_numbered queue_text 0 layout.queues))

-- what each domain knows of maps, interrupts and channels
abbrev pub ids_text : Plan → List ℕ
ids_text plan =
    each_numbered domain_text 0 plan.protection_domain ++ each_numbered channel_text 0 plan.channel

-- the header
unfoldable pub config_text : Plan → HeaderRows → List ℕ
config_text plan layout =
    BEGINNING.now
    ++ (classes_text plan
    ++ (rows_text plan.memory_region layout ++ (ids_text plan ++ ending)))
