-- The ends of queues that each job has in the layout, told by the queues' numbers: those of the
-- network class are the first, those of the serial class follow, and those of the block class are
-- the last.
use Rattle.std.specs.Prelude.{◌≡◌, ◌==◌, ◌+◌, ◌*◌, ◌<◌, ℕ, zero, suc, if◌then◌else◌, Some, List, []}
use Rattle.std.specs.Prelude.{◌∷◌, ◌++◌, length}
use Rattle.std.specs.Option.{option_map_or}
use Rattle.cargo_core.specs.declared.item.QueueKind.{QueueKind}
use Rattle.cargo_core.specs.declared.item.QueueKind.TheVariants as Kind
use Rattle.wire_core.specs.Ends.{Role, Consumer, Producer}
use Rattle.sdf_plan.specs.declared.plan.Plan.{Plan}
use Rattle.sdf_plan.specs.declared.plan.Net.{Net}
use Rattle.sdf_plan.specs.declared.plan.Serial.{Serial}
use Rattle.sdf_plan.specs.declared.plan.Blk.{Blk}
use Rattle.play_core.specs.Moved.{Seat}
use Rattle.play_core.specs.Wants.{intake, outlet}
use Rattle.layout_laws.specs.Jobs.Jobs.{Job, EthDevice, EthDriver, NetReceiver, NetSender}
use Rattle.layout_laws.specs.Jobs.Jobs.{NetCopier, NetClient, UartDevice, UartDriver}
use Rattle.layout_laws.specs.Jobs.Jobs.{SerialReceiver, SerialSender, SerialClient, DiskDevice}
use Rattle.layout_laws.specs.Jobs.Jobs.{DiskDriver, BlkVirtualiser, BlkClient}

-- the plan has a network class
abbrev pub HasNet : Plan → Type 0
HasNet plan = (net : Net) × (plan.net ≡ Some net)

-- the plan has a serial class
abbrev pub HasSerial : Plan → Type 0
HasSerial plan = (serial : Serial) × (plan.serial ≡ Some serial)

-- the plan has a block class
abbrev pub HasBlk : Plan → Type 0
HasBlk plan = (blk : Blk) × (plan.blk ≡ Some blk)

-- how many clients the network class has: none, where it isn't there
abbrev pub net_count : Plan → ℕ
net_count plan = option_map_or (λ (net : Net). length net.client) plan.net 0

-- how many clients the serial class has
abbrev pub serial_count : Plan → ℕ
serial_count plan = option_map_or (λ (serial : Serial). length serial.client) plan.serial 0

-- how many clients the block class has
abbrev pub blk_count : Plan → ℕ
blk_count plan = option_map_or (λ (blk : Blk). length blk.client) plan.blk 0

-- a job is one of a class that the plan has, and a client's one of a client that is there
abbrev pub IsOf : Plan → Job → Type 0
IsOf plan EthDevice = HasNet plan
IsOf plan EthDriver = HasNet plan
IsOf plan NetReceiver = HasNet plan
IsOf plan NetSender = HasNet plan
IsOf plan (NetCopier c) = HasNet plan × (c < net_count plan)
IsOf plan (NetClient c) = HasNet plan × (c < net_count plan)
IsOf plan UartDevice = HasSerial plan
IsOf plan UartDriver = HasSerial plan
IsOf plan SerialReceiver = HasSerial plan
IsOf plan SerialSender = HasSerial plan
IsOf plan (SerialClient c) = HasSerial plan × (c < serial_count plan)
IsOf plan DiskDevice = HasBlk plan
IsOf plan DiskDriver = HasBlk plan
IsOf plan BlkVirtualiser = HasBlk plan
IsOf plan (BlkClient c) = HasBlk plan × (c < blk_count plan)

-- the ends at the queues of so many clients, from the client of a number on
abbrev pub ends_from : (ℕ → List Seat) → ℕ → ℕ → List Seat
ends_from ends k zero = []
ends_from ends k (suc count) = ends k ++ ends_from ends (k + 1) count

-- the number of the first queue of the network client of a number
abbrev pub client_queue : ℕ → ℕ
client_queue k = 8 + 6 * k

-- the ends that the receiving virtualiser of the network has at the queues of a client
abbrev pub lease_ends : ℕ → List Seat
lease_ends k = outlet (client_queue k) ∷ intake (client_queue k + 1) ∷ []

-- those that the sending virtualiser has there
abbrev pub send_ends : ℕ → List Seat
send_ends k = intake (client_queue k + 4) ∷ outlet (client_queue k + 5) ∷ []

-- the number of the first queue of the serial class
abbrev pub serial_first : Plan → ℕ
serial_first plan = option_map_or (λ (net : Net). client_queue (length net.client)) plan.net 0

-- the number of the first queue of the block class
abbrev pub blk_first : Plan → ℕ
blk_first plan = serial_first plan
    + option_map_or (λ (serial : Serial). 4 + 2 * length serial.client) plan.serial 0

-- the end that the receiving virtualiser of a serial class with this first queue has at the queues
-- of a client
abbrev pub given_end : ℕ → ℕ → List Seat
given_end first k = outlet (first + 4 + 2 * k) ∷ []

-- that which the sending virtualiser has there
abbrev pub said_end : ℕ → ℕ → List Seat
said_end first k = intake (first + 5 + 2 * k) ∷ []

-- the ends that the virtualiser of a block class with this first queue has at the queues of a
-- client
abbrev pub ask_ends : ℕ → ℕ → List Seat
ask_ends first k = intake (first + 4 + 2 * k) ∷ outlet (first + 5 + 2 * k) ∷ []

-- the ends of each job
abbrev pub job_ends : Plan → Job → List Seat
job_ends plan EthDevice = intake 0 ∷ outlet 1 ∷ intake 2 ∷ outlet 3 ∷ []
job_ends plan EthDriver = intake 5 ∷ outlet 0 ∷ intake 1 ∷ outlet 4 ∷ intake 6 ∷ outlet 2
    ∷ intake 3 ∷ outlet 7 ∷ []
job_ends plan NetReceiver = intake 4 ∷ outlet 5 ∷ ends_from lease_ends 0 (net_count plan)
job_ends plan NetSender = intake 7 ∷ outlet 6 ∷ ends_from send_ends 0 (net_count plan)
job_ends plan (NetCopier c) = intake (client_queue c) ∷ intake (client_queue c + 3)
    ∷ outlet (client_queue c + 2) ∷ outlet (client_queue c + 1) ∷ []
job_ends plan (NetClient c) = intake (client_queue c + 2) ∷ outlet (client_queue c + 3)
    ∷ intake (client_queue c + 5) ∷ outlet (client_queue c + 4) ∷ []
job_ends plan UartDevice = intake (serial_first plan + 1) ∷ outlet (serial_first plan) ∷ []
job_ends plan UartDriver = intake (serial_first plan) ∷ outlet (serial_first plan + 2)
    ∷ intake (serial_first plan + 3) ∷ outlet (serial_first plan + 1) ∷ []
job_ends plan SerialReceiver = intake (serial_first plan + 2)
    ∷ ends_from (given_end (serial_first plan)) 0 (serial_count plan)
job_ends plan SerialSender = outlet (serial_first plan + 3)
    ∷ ends_from (said_end (serial_first plan)) 0 (serial_count plan)
job_ends plan (SerialClient c) = intake (serial_first plan + 4 + 2 * c)
    ∷ outlet (serial_first plan + 5 + 2 * c) ∷ []
job_ends plan DiskDevice = intake (blk_first plan) ∷ outlet (blk_first plan + 1) ∷ []
job_ends plan DiskDriver = intake (blk_first plan + 2) ∷ outlet (blk_first plan)
    ∷ intake (blk_first plan + 1) ∷ outlet (blk_first plan + 3) ∷ []
job_ends plan BlkVirtualiser = intake (blk_first plan + 3) ∷ outlet (blk_first plan + 2)
    ∷ ends_from (ask_ends (blk_first plan)) 0 (blk_count plan)
job_ends plan (BlkClient c) = intake (blk_first plan + 5 + 2 * c)
    ∷ outlet (blk_first plan + 4 + 2 * c) ∷ []

-- what the queue of a number carries to, or from, a job: entries of the network, bytes, or requests
-- and responses
abbrev pub job_kind : Plan → Job → Role → ℕ → QueueKind
job_kind plan EthDevice r n = Kind.Net
job_kind plan EthDriver r n = Kind.Net
job_kind plan NetReceiver r n = Kind.Net
job_kind plan NetSender r n = Kind.Net
job_kind plan (NetCopier c) r n = Kind.Net
job_kind plan (NetClient c) r n = Kind.Net
job_kind plan UartDevice r n = Kind.Byte
job_kind plan UartDriver r n = Kind.Byte
job_kind plan SerialReceiver r n = Kind.Byte
job_kind plan SerialSender r n = Kind.Byte
job_kind plan (SerialClient c) r n = Kind.Byte
job_kind plan DiskDevice Consumer n = Kind.Req
job_kind plan DiskDevice Producer n = Kind.Resp
job_kind plan DiskDriver Consumer n =
    if n == blk_first plan + 2 then Kind.Req else Kind.Resp
job_kind plan DiskDriver Producer n = if n == blk_first plan then Kind.Req else Kind.Resp
job_kind plan BlkVirtualiser Consumer n =
    if n == blk_first plan + 3 then Kind.Resp else Kind.Req
job_kind plan BlkVirtualiser Producer n =
    if n == blk_first plan + 2 then Kind.Req else Kind.Resp
job_kind plan (BlkClient c) Consumer n = Kind.Resp
job_kind plan (BlkClient c) Producer n = Kind.Req
