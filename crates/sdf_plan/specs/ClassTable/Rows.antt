-- The rows of the tables of queues and pools, of each element of a class one by one.
use Rattle.std.specs.Prelude.{ℕ, true, false, List, [], ◌∷◌, length, map, sum_by, codes, Some, None}
use Rattle.cargo_core.specs.declared.item.QueueKind.{QueueKind}
use Rattle.cargo_core.specs.declared.item.QueueKind.TheVariants as Kind
use Rattle.cargo_core.specs.Blocks.{blk_buffer_bytes}
use Rattle.sdf_plan.specs.declared.plan.Net.{Net}
use Rattle.sdf_plan.specs.declared.plan.NetClient.{NetClient}
use Rattle.sdf_plan.specs.declared.plan.Serial.{Serial}
use Rattle.sdf_plan.specs.declared.plan.SerialClient.{SerialClient}
use Rattle.sdf_plan.specs.declared.plan.Blk.{Blk}
use Rattle.sdf_plan.specs.declared.plan.BlkClient.{BlkClient}
use Rattle.sdf_plan.specs.declared.class_table.role.Role.{Role}
use Rattle.sdf_plan.specs.declared.class_table.role.Role.TheVariants as For
use Rattle.sdf_plan.specs.declared.class_table.uses.UseName.{UseName}
use Rattle.sdf_plan.specs.declared.class_table.uses.Ends.{Ends}
use Rattle.sdf_plan.specs.declared.class_table.uses.Ends.TheVariants as Way
use Rattle.sdf_plan.specs.declared.class_table.uses.RoleUse.{RoleUse}
use Rattle.sdf_plan.specs.declared.class_table.uses.QueueUse.{QueueUse}
use Rattle.sdf_plan.specs.declared.class_table.uses.Grant.{Grant}
use Rattle.sdf_plan.specs.declared.class_table.uses.PoolUse.{PoolUse}

-- a domain, or a text of another kind, by its name
abbrev pub Name : Type 0
Name = List ℕ

-- the name of a queue or a pool of a class itself
abbrev pub whole : Name → UseName Name
whole first = record { first = first; client = None; rest = [] }

-- the name of a client's queue or pool, with the client's number within it
abbrev pub of_client : Name → ℕ → Name → UseName Name
of_client first c rest = record { first = first; client = Some c; rest = rest }

-- the name of a queue or pool of a network client
abbrev pub of_net : ℕ → Name → UseName Name
of_net c rest = of_client (codes "net.") c rest

-- the name of a queue of a serial client
abbrev pub of_serial : ℕ → Name → UseName Name
of_serial c rest = of_client (codes "serial.") c rest

-- the name of a queue or pool of a block client
abbrev pub of_blk : ℕ → Name → UseName Name
of_blk c rest = of_client (codes "blk.") c rest

-- a domain plays a role
abbrev pub plays : Name → Role → RoleUse Name
plays domain role = record { domain = domain; role = role }

-- in a region, from one domain to another
abbrev pub across : Name → Name → Name → Ends Name
across region from to = Way.Across (record { region = region; from = from; to = to })

-- a row of the table of queues
abbrev pub queue : UseName Name → QueueKind → Ends Name → ℕ → ℕ → QueueUse Name
queue name kind ends capacity holds =
    record {
      name = name;
      kind = kind;
      ends = ends;
      behind = None;
      capacity = capacity;
      holds = holds;
    }

-- the row of a queue that stands behind one of a kind in its region
abbrev pub queue_behind : QueueKind → UseName Name → QueueKind → Ends Name → ℕ → ℕ → QueueUse Name
queue_behind first name kind ends capacity holds =
    record {
      name = name;
      kind = kind;
      ends = ends;
      behind = Some first;
      capacity = capacity;
      holds = holds;
    }

-- a domain must map a region, to read it at least
abbrev pub reads : Name → Grant Name
reads domain = record { domain = domain; writes = false }

-- a domain must map a region, to read and to write it
abbrev pub writes : Name → Grant Name
writes domain = record { domain = domain; writes = true }

-- a row of the table of pools
abbrev pub pool : UseName Name → Name → ℕ → ℕ → List (Grant Name) → List Name → PoolUse Name
pool name region buffers size must may =
    record { name = name; region = region; must = must; may = may; buffers = buffers; size = size }

-- the bytes of a block buffer
abbrev pub blk_buffer : ℕ
blk_buffer = blk_buffer_bytes

-- how many buffers the clients of the network class send from
abbrev pub tx_buffers : Net → ℕ
tx_buffers net = sum_by (λ (c : NetClient). c.tx_buffers) net.client

-- the roles of the network class
abbrev pub net_roles : Net → List (RoleUse Name)
net_roles net =
    plays net.driver For.NetDriver ∷ plays net.rx_virt For.NetRxVirt
    ∷ plays net.tx_virt For.NetTxVirt ∷ []

-- the queues of the network class itself, row by row
abbrev pub net_queues : Net → List (QueueUse Name)
net_queues net =
    queue (whole (codes "eth.rx.free")) Kind.Net (Way.ToDevice net.driver)
    net.rx_capacity net.rx_buffers
    ∷ queue (whole (codes "eth.rx.active")) Kind.Net (Way.FromDevice net.driver)
    net.rx_capacity net.rx_buffers
    ∷ queue (whole (codes "eth.tx.active")) Kind.Net (Way.ToDevice net.driver)
    net.tx_capacity (tx_buffers net)
    ∷ queue (whole (codes "eth.tx.free")) Kind.Net (Way.FromDevice net.driver)
    net.tx_capacity (tx_buffers net)
    ∷ queue (whole (codes "net.rx.active")) Kind.Net (across net.rx_queues net.driver net.rx_virt)
    net.rx_capacity net.rx_buffers
    ∷ queue_behind Kind.Net (whole (codes "net.rx.free")) Kind.Net
    (across net.rx_queues net.rx_virt net.driver) net.rx_capacity net.rx_buffers
    ∷ queue (whole (codes "net.tx.active")) Kind.Net (across net.tx_queues net.tx_virt net.driver)
    net.tx_capacity (tx_buffers net)
    ∷ queue_behind Kind.Net (whole (codes "net.tx.free")) Kind.Net
    (across net.tx_queues net.driver net.tx_virt) net.tx_capacity (tx_buffers net) ∷ []

-- the pool of the network class: the receiving virtualiser and every copier read it
abbrev pub net_pools : Net → List (PoolUse Name)
net_pools net =
    pool (whole (codes "net.rx")) net.rx_region net.rx_buffers net.rx_buffer_size
    (reads net.rx_virt ∷ map (λ (c : NetClient). reads c.copier) net.client) (net.driver ∷ []) ∷ []

-- the roles that a network client gives
abbrev pub net_client_roles : NetClient → List (RoleUse Name)
net_client_roles client = plays client.pd For.NetClient ∷ plays client.copier For.NetCopier ∷ []

-- the queues of a network client: of leases, of what it receives, of what it sends
abbrev pub net_client_queues : Net → ℕ → NetClient → List (QueueUse Name)
net_client_queues net c client =
    queue (of_net c (codes ".lease.active")) Kind.Net
    (across client.lease_queues net.rx_virt client.copier)
    net.rx_capacity net.rx_buffers
    ∷ queue_behind Kind.Net (of_net c (codes ".lease.free")) Kind.Net
    (across client.lease_queues client.copier net.rx_virt) net.rx_capacity net.rx_buffers
    ∷ queue (of_net c (codes ".rx.active")) Kind.Net
    (across client.rx_queues client.copier client.pd)
    client.rx_capacity client.rx_buffers
    ∷ queue_behind Kind.Net (of_net c (codes ".rx.free")) Kind.Net
    (across client.rx_queues client.pd client.copier) client.rx_capacity client.rx_buffers
    ∷ queue (of_net c (codes ".tx.active")) Kind.Net (across client.tx_queues client.pd net.tx_virt)
    client.tx_capacity client.tx_buffers
    ∷ queue_behind Kind.Net (of_net c (codes ".tx.free")) Kind.Net
    (across client.tx_queues net.tx_virt client.pd) client.tx_capacity client.tx_buffers ∷ []

-- the pool of what a network client receives
abbrev pub rx_pool : ℕ → NetClient → PoolUse Name
rx_pool c client =
    pool (of_net c (codes ".rx")) client.rx_region client.rx_buffers client.rx_buffer_size
    (writes client.copier ∷ reads client.pd ∷ []) []

-- the pool of what a network client sends
abbrev pub tx_pool : Net → ℕ → NetClient → PoolUse Name
tx_pool net c client =
    pool (of_net c (codes ".tx")) client.tx_region client.tx_buffers client.tx_buffer_size
    (writes client.pd ∷ []) (net.tx_virt ∷ net.driver ∷ [])

-- the two pools of a network client
abbrev pub net_client_pools : Net → ℕ → NetClient → List (PoolUse Name)
net_client_pools net c client = rx_pool c client ∷ tx_pool net c client ∷ []

-- the roles of the serial class
abbrev pub serial_roles : Serial → List (RoleUse Name)
serial_roles serial =
    plays serial.driver For.SerialDriver ∷ plays serial.rx_virt For.SerialRxVirt
    ∷ plays serial.tx_virt For.SerialTxVirt ∷ []

-- the queues of the serial class itself
abbrev pub serial_queues : Serial → List (QueueUse Name)
serial_queues serial =
    queue (whole (codes "uart.rx")) Kind.Byte (Way.FromDevice serial.driver) serial.rx_capacity 0
    ∷ queue (whole (codes "uart.tx")) Kind.Byte (Way.ToDevice serial.driver) serial.tx_capacity 0
    ∷ queue (whole (codes "serial.rx")) Kind.Byte
    (across serial.rx_queues serial.driver serial.rx_virt)
    serial.rx_capacity 0
    ∷ queue (whole (codes "serial.tx")) Kind.Byte
    (across serial.tx_queues serial.tx_virt serial.driver)
    serial.tx_capacity 0 ∷ []

-- the role that a serial client gives
abbrev pub serial_client_roles : SerialClient → List (RoleUse Name)
serial_client_roles client = plays client.pd For.SerialClient ∷ []

-- the two queues of a serial client
abbrev pub serial_client_queues : Serial → ℕ → SerialClient → List (QueueUse Name)
serial_client_queues serial c client =
    queue (of_serial c (codes ".rx")) Kind.Byte (across client.rx_queues serial.rx_virt client.pd)
    client.rx_capacity 0
    ∷ queue (of_serial c (codes ".tx")) Kind.Byte (across client.tx_queues client.pd serial.tx_virt)
    client.tx_capacity 0 ∷ []

-- the roles of the block class
abbrev pub blk_roles : Blk → List (RoleUse Name)
blk_roles blk = plays blk.driver For.BlkDriver ∷ plays blk.virt For.BlkVirt ∷ []

-- the queues of the block class itself
abbrev pub blk_queues : Blk → List (QueueUse Name)
blk_queues blk =
    queue (whole (codes "disk.req")) Kind.Req (Way.ToDevice blk.driver)
    blk.capacity (length blk.client)
    ∷ queue (whole (codes "disk.resp")) Kind.Resp (Way.FromDevice blk.driver)
    blk.capacity (length blk.client)
    ∷ queue (whole (codes "blk.req")) Kind.Req (across blk.queues blk.virt blk.driver)
    blk.capacity (length blk.client)
    ∷ queue_behind Kind.Req (whole (codes "blk.resp")) Kind.Resp
    (across blk.queues blk.driver blk.virt) blk.capacity (length blk.client) ∷ []

-- the pool of the block class: the virtualiser's own buffer
abbrev pub blk_pools : Blk → List (PoolUse Name)
blk_pools blk = pool (whole (codes "blk")) blk.region 1 blk_buffer (writes blk.virt ∷ [])
    (blk.driver ∷ []) ∷ []

-- the role that a block client gives
abbrev pub blk_client_roles : BlkClient → List (RoleUse Name)
blk_client_roles client = plays client.pd For.BlkClient ∷ []

-- the two queues of a block client
abbrev pub blk_client_queues : Blk → ℕ → BlkClient → List (QueueUse Name)
blk_client_queues blk c client =
    queue (of_blk c (codes ".req")) Kind.Req (across client.queues client.pd blk.virt)
    client.capacity 0
    ∷ queue_behind Kind.Req (of_blk c (codes ".resp")) Kind.Resp
    (across client.queues blk.virt client.pd) client.capacity 0 ∷ []

-- the pool of a block client
abbrev pub blk_client_pools : Blk → ℕ → BlkClient → List (PoolUse Name)
blk_client_pools blk c client =
    pool (of_blk c []) client.region client.buffers blk_buffer
    (writes client.pd ∷ []) (blk.virt ∷ blk.driver ∷ []) ∷ []
