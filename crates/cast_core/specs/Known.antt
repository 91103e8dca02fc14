-- By which queue, and which of its ends, the job of an actor is known.
use Rattle.std.specs.Prelude.{◌≡◌, ◌<◌, ◌≤◌, ◌+◌, ◌*◌, ℕ, Some, List, length, slice_get}
use Rattle.wire_core.specs.declared.names.QueueRow.{QueueRow}
use Rattle.wire_core.specs.Ends.{Role, Consumer, Producer}
use Rattle.wire_core.specs.Journal.{owner_of}
use Rattle.sdf_plan.specs.declared.plan.Plan.{Plan}
use Rattle.sdf_plan.specs.declared.plan.Net.{Net as NetClass}
use Rattle.sdf_plan.specs.declared.plan.Serial.{Serial as SerialClass}
use Rattle.sdf_plan.specs.declared.plan.Blk.{Blk as BlkClass}
use Rattle.layout_laws.specs.Jobs.Jobs as jobs
use Rattle.cast_core.specs.declared.jobs.NetJob.{NetJob}
use Rattle.cast_core.specs.declared.jobs.NetJob.TheVariants as Net
use Rattle.cast_core.specs.declared.jobs.SerialJob.{SerialJob}
use Rattle.cast_core.specs.declared.jobs.SerialJob.TheVariants as Serial
use Rattle.cast_core.specs.declared.jobs.BlkJob.{BlkJob}
use Rattle.cast_core.specs.declared.jobs.BlkJob.TheVariants as Blk
use Rattle.cast_core.specs.declared.jobs.Job.{Job}
use Rattle.cast_core.specs.declared.jobs.Job.TheVariants as Class
use Rattle.cast_core.specs.Sources.{first_serial, first_blk}

-- by the rows, actor k has this end of queue n
abbrev pub IsOwner : List QueueRow → ℕ → Role → ℕ → Type 0
IsOwner rows n r k = (row : QueueRow) × (slice_get rows n ≡ Some row) × (owner_of row r ≡ k)

-- the jobs of the network class among all
abbrev pub net_job : NetJob → jobs.Job
net_job Net.Device = jobs.EthDevice
net_job Net.Driver = jobs.EthDriver
net_job Net.Receiver = jobs.NetReceiver
net_job Net.Sender = jobs.NetSender
net_job (Net.Copier c) = jobs.NetCopier c
net_job (Net.Client c) = jobs.NetClient c

-- a job is one of a network class with so many clients
abbrev pub net_within : ℕ → NetJob → Type 0
net_within clients Net.Device = Unit {0}
net_within clients Net.Driver = Unit {0}
net_within clients Net.Receiver = Unit {0}
net_within clients Net.Sender = Unit {0}
net_within clients (Net.Copier c) = c < clients
net_within clients (Net.Client c) = c < clients

-- the queue by which a job of the network class is known
abbrev pub net_queue : NetJob → ℕ
net_queue Net.Device = 0
net_queue Net.Driver = 0
net_queue Net.Receiver = 4
net_queue Net.Sender = 6
net_queue (Net.Copier c) = 8 + 6 * c
net_queue (Net.Client c) = 10 + 6 * c

-- the end of that queue
abbrev pub net_role : NetJob → Role
net_role Net.Device = Consumer
net_role Net.Driver = Producer
net_role Net.Receiver = Consumer
net_role Net.Sender = Producer
net_role (Net.Copier c) = Consumer
net_role (Net.Client c) = Consumer

-- by the rows, actor k has this job in a network class with so many clients
abbrev pub HasNetJob : List QueueRow → ℕ → ℕ → NetJob → Type 0
HasNetJob rows clients k job =
    net_within clients job × IsOwner rows (net_queue job) (net_role job) k

-- by the rows, actor k has no job in a network class with so many clients
abbrev pub HasNoNetJob : List QueueRow → ℕ → ℕ → Type 0
HasNoNetJob rows clients k = (job : NetJob) → HasNetJob rows clients k job → ⊥

-- the jobs of the serial class among all
abbrev pub serial_job : SerialJob → jobs.Job
serial_job Serial.Device = jobs.UartDevice
serial_job Serial.Driver = jobs.UartDriver
serial_job Serial.Receiver = jobs.SerialReceiver
serial_job Serial.Sender = jobs.SerialSender
serial_job (Serial.Client c) = jobs.SerialClient c

-- a job is one of a serial class with so many clients
abbrev pub serial_within : ℕ → SerialJob → Type 0
serial_within clients Serial.Device = Unit {0}
serial_within clients Serial.Driver = Unit {0}
serial_within clients Serial.Receiver = Unit {0}
serial_within clients Serial.Sender = Unit {0}
serial_within clients (Serial.Client c) = c < clients

-- the queue by which a job of the serial class is known, which begins at this queue
abbrev pub serial_queue : ℕ → SerialJob → ℕ
serial_queue first Serial.Device = first
serial_queue first Serial.Driver = first
serial_queue first Serial.Receiver = first + 2
serial_queue first Serial.Sender = first + 3
serial_queue first (Serial.Client c) = first + 4 + 2 * c

-- the end of that queue
abbrev pub serial_role : SerialJob → Role
serial_role Serial.Device = Producer
serial_role Serial.Driver = Consumer
serial_role Serial.Receiver = Consumer
serial_role Serial.Sender = Producer
serial_role (Serial.Client c) = Consumer

-- by the rows, actor k has this job in a serial class with this first queue and so many clients
abbrev pub HasSerialJob : List QueueRow → ℕ → ℕ → ℕ → SerialJob → Type 0
HasSerialJob rows first clients k job =
    serial_within clients job × IsOwner rows (serial_queue first job) (serial_role job) k

-- by the rows, actor k is neither a copier nor a client of a network class with so many clients
abbrev pub IsNoNetClient : List QueueRow → ℕ → ℕ → Type 0
IsNoNetClient rows clients k = (c : ℕ) → c < clients
    → (IsOwner rows (8 + 6 * c) Consumer k → ⊥) × (IsOwner rows (10 + 6 * c) Consumer k → ⊥)

-- by the rows, actor k is no client of a serial class with this first queue and so many clients
abbrev pub IsNoSerialClient : List QueueRow → ℕ → ℕ → ℕ → Type 0
IsNoSerialClient rows first clients k = (c : ℕ) → c < clients
    → IsOwner rows (first + 4 + 2 * c) Consumer k → ⊥

-- by the rows, actor k has no job in a serial class with this first queue and so many clients
abbrev pub HasNoSerialJob : List QueueRow → ℕ → ℕ → ℕ → Type 0
HasNoSerialJob rows first clients k =
    (job : SerialJob) → HasSerialJob rows first clients k job → ⊥

-- the jobs of the block class among all
abbrev pub blk_job : BlkJob → jobs.Job
blk_job Blk.Device = jobs.DiskDevice
blk_job Blk.Driver = jobs.DiskDriver
blk_job Blk.Virtualiser = jobs.BlkVirtualiser
blk_job (Blk.Client c) = jobs.BlkClient c

-- a job is one of a block class with so many clients
abbrev pub blk_within : ℕ → BlkJob → Type 0
blk_within clients Blk.Device = Unit {0}
blk_within clients Blk.Driver = Unit {0}
blk_within clients Blk.Virtualiser = Unit {0}
blk_within clients (Blk.Client c) = c < clients

-- the queue by which a job of the block class is known, which begins at this queue
abbrev pub blk_queue : ℕ → BlkJob → ℕ
blk_queue first Blk.Device = first
blk_queue first Blk.Driver = first
blk_queue first Blk.Virtualiser = first + 2
blk_queue first (Blk.Client c) = first + 4 + 2 * c

-- the end of that queue
abbrev pub blk_role : BlkJob → Role
blk_role Blk.Device = Consumer
blk_role Blk.Driver = Producer
blk_role Blk.Virtualiser = Producer
blk_role (Blk.Client c) = Producer

-- by the rows, actor k has this job in a block class with this first queue and so many clients
abbrev pub HasBlkJob : List QueueRow → ℕ → ℕ → ℕ → BlkJob → Type 0
HasBlkJob rows first clients k job =
    blk_within clients job × IsOwner rows (blk_queue first job) (blk_role job) k

-- by the rows, actor k has this job in a class that the plan has
abbrev pub IsKnown : Plan → List QueueRow → ℕ → Job → Type 0
IsKnown plan rows k (Class.Net job) =
    (net : NetClass) × (plan.net ≡ Some net) × HasNetJob rows (length net.client) k job
IsKnown plan rows k (Class.Serial job) =
    (serial : SerialClass) × (plan.serial ≡ Some serial)
    × HasSerialJob rows (first_serial plan) (length serial.client) k job
IsKnown plan rows k (Class.Blk job) =
    (blk : BlkClass) × (plan.blk ≡ Some blk)
    × HasBlkJob rows (first_blk plan) (length blk.client) k job

-- the job among those of all classes
abbrev pub any_job : Job → jobs.Job
any_job (Class.Net job) = net_job job
any_job (Class.Serial job) = serial_job job
any_job (Class.Blk job) = blk_job job

-- the rows are those of the plan's classes, and have numbers of 16 bits
pub record HasRows (plan : Plan) (rows : List QueueRow) : Type 0 where
  pub numbered : length rows ≤ 65536
  pub net : (net : NetClass) → plan.net ≡ Some net → 8 + 6 * length net.client ≤ length rows
  pub serial : (serial : SerialClass) → plan.serial ≡ Some serial
      → first_serial plan + 4 + 2 * length serial.client ≤ length rows
  pub blk : (blk : BlkClass) → plan.blk ≡ Some blk
      → first_blk plan + 4 + 2 * length blk.client ≤ length rows
