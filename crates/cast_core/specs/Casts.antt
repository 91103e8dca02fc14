-- What each actor of a plan is made of, by its job, and actors that are so made.
use Rattle.std.specs.Prelude.{◌≡◌, ◌+◌, ◌*◌, ℕ, Option, Some, List, [], length, slice_get}
use Rattle.std.specs.Prelude.{false, unwrap_or, if◌then◌else◌}
use Rattle.std.specs.Option.{option_map_or}
use Rattle.sdf_plan.specs.declared.plan.Plan.{Plan}
use Rattle.trace_text.specs.declared.trace.Trace.{Trace}
use Rattle.trace_text.specs.Events.{net_clients, serial_clients, blk_clients, is_net_rogue}
use Rattle.trace_text.specs.Events.{is_serial_rogue, is_blk_rogue}
use Rattle.trace_text.specs.Limits.{frame_most}
use Rattle.trace_text.specs.Traces.{per_client}
use Rattle.region_layout.specs.Rows.{actors_of, pools_of}
use Rattle.net_law.specs.Owners.Names.{ClientPools}
use Rattle.owner_law.specs.Pools.Places.{PoolAt}
use Rattle.net_law.specs.Parts.Numbers.{device_at, driver_at, receiver_at, copier_at, client_at}
use Rattle.net_law.specs.Parts.Numbers.{policy_at}
use Rattle.net_law.specs.TxParts.Numbers.{NetPlace, own_pools, sender_at}
use Rattle.blk_law.specs.Sheets.Numbers.{BlkPlace, disk_at, blk_driver_at, virt_at, blk_client_at}
use Rattle.actor_set.specs.Parts.{Part, UartPart, DriverPart, RxPart, TxPart, ClientPart}
use Rattle.actor_set.specs.Parts.{NetworkPart, SendingPart, BlockPart, HostilePart}
use Rattle.actor_set.specs.Actors.{part_of}
use Rattle.actor_set.specs.StartStates.{IsNew}
use Rattle.actor_set.specs.declared.actor.Actor.{Actor}
use Rattle.play_core.specs.Sheets.{Scene}
use Rattle.expect_core.specs.Expected.{client_asks, client_entry}
use Rattle.cast_core.specs.Sources.{every_second, first_serial, serial_drops, pool_at, pools_at}
use Rattle.cast_core.specs.Sources.{client_mac, client_program, first_blk, first_blk_pool}
use Rattle.cast_core.specs.Sources.{net_drops}
use Rattle.cast_core.specs.Hostile.{acts_at, net_rogue_at, serial_rogue_at, blk_rogue_at}
use Rattle.layout_laws.specs.Jobs.Jobs.{Job, EthDevice, EthDriver, NetReceiver, NetSender}
use Rattle.layout_laws.specs.Jobs.Jobs.{NetCopier, NetClient, UartDevice, UartDriver}
use Rattle.layout_laws.specs.Jobs.Jobs.{SerialReceiver, SerialSender, SerialClient, DiskDevice}
use Rattle.layout_laws.specs.Jobs.Jobs.{DiskDriver, BlkVirtualiser, BlkClient, HasJob}

-- the pools of the network client of a number
abbrev pub client_pools : Plan → ℕ → ClientPools
client_pools plan = pools_at (pools_of plan)

-- where the network class of a plan stands: its queues and its pools are the first, and its frames
-- are such as a trace gives
abbrev pub net_place : Plan → Trace → NetPlace
net_place plan trace = record {
  first = 0;
  device_drops = false;
  pool = pool_at (pools_of plan) 0;
  macs = per_client (length (net_clients plan)) (client_mac plan);
  pools = per_client (length (net_clients plan)) (client_pools plan);
  programs = per_client (length (net_clients plan)) (client_program plan trace);
  drops = net_drops plan;
  most = frame_most plan;
}

-- the pool of the block client of a number: it stands behind the virtualiser's
abbrev pub client_pool : Plan → ℕ → PoolAt
client_pool plan c = pool_at (pools_of plan) (first_blk_pool plan + 1 + c)

-- where the block class of a plan stands: its queues and its pools are the last
abbrev pub blk_place : Plan → Trace → BlkPlace
blk_place plan trace = record {
  first = first_blk plan;
  image = trace.image;
  pool = pool_at (pools_of plan) (first_blk_pool plan);
  entries = per_client (length (blk_clients plan)) (client_entry plan);
  asks = per_client (length (blk_clients plan)) (client_asks trace);
  pools = per_client (length (blk_clients plan)) (client_pool plan);
}

-- the part of an actor of a job, where its client isn't hostile
abbrev pub calm_part : Plan → Trace → Job → Option Part
calm_part plan trace EthDevice =
    Some (NetworkPart (device_at 0 trace.frames false))
calm_part plan trace EthDriver = Some (NetworkPart (driver_at 0))
calm_part plan trace NetReceiver = Some (NetworkPart
    (receiver_at 0 (net_place plan trace).pool (net_place plan trace).macs))
calm_part plan trace NetSender =
    Some (SendingPart (sender_at 0 (frame_most plan) (net_place plan trace).pools))
calm_part plan trace (NetCopier c) =
    Some (NetworkPart (copier_at 0 c (policy_at (net_drops plan) c)))
calm_part plan trace (NetClient c) = Some (NetworkPart
    (client_at 0 c (client_program plan trace c)
    (client_mac plan c) (own_pools (client_pools plan c))))
calm_part plan trace UartDevice = Some (UartPart
    (first_serial plan) (first_serial plan + 1) trace.input)
calm_part plan trace UartDriver = Some (DriverPart (first_serial plan) (first_serial plan + 1)
    (first_serial plan + 2) (first_serial plan + 3))
calm_part plan trace SerialReceiver = Some (RxPart (first_serial plan + 2)
    (every_second (first_serial plan + 4) (length (serial_clients plan))) (serial_drops plan))
calm_part plan trace SerialSender = Some (TxPart (first_serial plan + 3)
    (every_second (first_serial plan + 5) (length (serial_clients plan))))
calm_part plan trace (SerialClient c) = Some (ClientPart (first_serial plan + 4 + 2 * c)
    (first_serial plan + 5 + 2 * c) (unwrap_or (slice_get trace.says c) []))
calm_part plan trace DiskDevice = Some (BlockPart (disk_at (blk_place plan trace)))
calm_part plan trace DiskDriver = Some (BlockPart (blk_driver_at (first_blk plan)))
calm_part plan trace BlkVirtualiser = Some (BlockPart (virt_at (blk_place plan trace)))
calm_part plan trace (BlkClient c) = Some (BlockPart
    (blk_client_at (first_blk plan) c (client_asks trace c) (client_pool plan c)))

-- the part of an actor of a job: of a client that is hostile, what the trace has it do
abbrev pub job_part : Plan → Trace → Job → Option Part
job_part plan trace (NetClient c) =
    if is_net_rogue plan c
    then Some (HostilePart (net_rogue_at 0 c (client_pools plan c) (acts_at trace.net_acts c)))
    else calm_part plan trace (NetClient c)
job_part plan trace (SerialClient c) =
    if is_serial_rogue plan c
    then Some (HostilePart
    (serial_rogue_at (first_serial plan) c (acts_at trace.serial_acts c)))
    else calm_part plan trace (SerialClient c)
job_part plan trace (BlkClient c) =
    if is_blk_rogue plan c
    then Some (HostilePart
    (blk_rogue_at (first_blk plan) c (client_pool plan c) (acts_at trace.blk_acts c)))
    else calm_part plan trace (BlkClient c)
job_part plan trace job = calm_part plan trace job

-- what a trace gives the classes that a plan has: the frames to the network class, and the image to
-- the block class
abbrev pub scene_for : Plan → Trace → Scene
scene_for plan trace = record {
  frames = option_map_or (λ net. trace.frames) plan.net [];
  image = option_map_or (λ blk. trace.image) plan.blk [];
}

-- an actor in its start state, with the part that the job has which the plan gives its number
pub record IsCastBy (parts : Job → Option Part) (plan : Plan) (k : ℕ) (x : Actor) : Type 0 where
  pub job : Job
  pub has : HasJob plan job k
  pub new : IsNew x
  pub part : parts job ≡ Some (part_of x)

-- all actors of a plan, with such parts
pub record AreCastBy (parts : Job → Option Part) (plan : Plan) (actors : List Actor) : Type 0 where
  pub count_is : length actors ≡ length (actors_of plan)
  pub each : (k : ℕ) (x : Actor) → slice_get actors k ≡ Some x → IsCastBy parts plan k x

-- an actor as the plan and the trace have it
abbrev pub IsCast : Plan → Trace → ℕ → Actor → Type 0
IsCast plan trace k x = IsCastBy (job_part plan trace) plan k x

-- all actors of a plan
abbrev pub AreCast : Plan → Trace → List Actor → Type 0
AreCast plan trace actors = AreCastBy (job_part plan trace) plan actors

-- the same where no client is hostile
abbrev pub AreCalmCast : Plan → Trace → List Actor → Type 0
AreCalmCast plan trace actors = AreCastBy (calm_part plan trace) plan actors
