-- What each actor of a plan is in its class: the domains that class elements name, and the devices.
use Rattle.std.specs.Prelude.{◌≡◌, ◌⊎◌, ◌+◌, ℕ, Bool, if◌then◌else◌, Some, is_some, List, [], ◌∷◌}
use Rattle.std.specs.Prelude.{◌++◌, slice_get}
use Rattle.std.specs.Option.{option_map_or}
use Rattle.sdf_plan.specs.declared.plan.Plan.{Plan}
use Rattle.sdf_plan.specs.declared.plan.Net.{Net}
use Rattle.sdf_plan.specs.declared.plan.NetClient.{NetClient as NetClientKeys}
use Rattle.sdf_plan.specs.declared.plan.Serial.{Serial}
use Rattle.sdf_plan.specs.declared.plan.SerialClient.{SerialClient as SerialClientKeys}
use Rattle.sdf_plan.specs.declared.plan.Blk.{Blk}
use Rattle.sdf_plan.specs.declared.plan.BlkClient.{BlkClient as BlkClientKeys}
use Rattle.region_layout.specs.Rows.{acting_count, actor_named, each_client}

-- what an actor is, a client by its number in its class
pub data Job : Type 0 where
  EthDevice : Job
  EthDriver : Job
  NetReceiver : Job
  NetSender : Job
  NetCopier : (client : ℕ) → Job
  NetClient : (client : ℕ) → Job
  UartDevice : Job
  UartDriver : Job
  SerialReceiver : Job
  SerialSender : Job
  SerialClient : (client : ℕ) → Job
  DiskDevice : Job
  DiskDriver : Job
  BlkVirtualiser : Job
  BlkClient : (client : ℕ) → Job

-- a job, and the name of the domain that has it
pub record Post : Type 0 where
  pub job : Job
  pub name : List ℕ

-- a job and the name of the domain that has it
abbrev pub post : Job → List ℕ → Post
post job name = record { job = job; name = name }

-- the jobs that a network client gives, key by key in the order of the walk
abbrev pub net_client_posts : ℕ → NetClientKeys → List Post
net_client_posts c client = post (NetClient c) client.pd ∷ post (NetCopier c) client.copier ∷ []

-- the jobs of the network class, with the domains that have them
abbrev pub net_posts : Net → List Post
net_posts net = post EthDriver net.driver ∷ post NetReceiver net.rx_virt
    ∷ post NetSender net.tx_virt ∷ each_client net_client_posts 0 net.client

-- the job that a serial client gives
abbrev pub serial_client_posts : ℕ → SerialClientKeys → List Post
serial_client_posts c client = post (SerialClient c) client.pd ∷ []

-- the jobs of the serial class, with the domains that have them
abbrev pub serial_posts : Serial → List Post
serial_posts serial = post UartDriver serial.driver ∷ post SerialReceiver serial.rx_virt
    ∷ post SerialSender serial.tx_virt ∷ each_client serial_client_posts 0 serial.client

-- the job that a block client gives
abbrev pub blk_client_posts : ℕ → BlkClientKeys → List Post
blk_client_posts c client = post (BlkClient c) client.pd ∷ []

-- the jobs of the block class, with the domains that have them
abbrev pub blk_posts : Blk → List Post
blk_posts blk = post DiskDriver blk.driver ∷ post BlkVirtualiser blk.virt
    ∷ each_client blk_client_posts 0 blk.client

-- those of all classes that a plan has
unfoldable pub posts_of : Plan → List Post
posts_of plan = option_map_or net_posts plan.net [] ++ option_map_or serial_posts plan.serial []
    ++ option_map_or blk_posts plan.blk []

-- a job that is there where a class is
abbrev pub job_if : Bool → Job → List Job
job_if there job = if there then job ∷ [] else []

-- the devices of the classes that a plan has
abbrev pub device_jobs : Plan → List Job
device_jobs plan = job_if (is_some plan.net) EthDevice
    ++ job_if (is_some plan.serial) UartDevice ++ job_if (is_some plan.blk) DiskDevice

-- the actor of a number has a job: it is the domain to which a class element gives it, or the
-- device
abbrev pub HasJob : Plan → Job → ℕ → Type 0
HasJob plan job k =
    ((i : ℕ) × (name : List ℕ) × (slice_get (posts_of plan) i ≡ Some (post job name))
    × (k ≡ (actor_named plan name).0))
    ⊎ ((i : ℕ) × (slice_get (device_jobs plan) i ≡ Some job) × (k ≡ acting_count plan + i))
