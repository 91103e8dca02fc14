-- The system of a plan and a trace: who acts at which queues, and that nothing happened yet.
use Rattle.std.specs.Prelude.{◌≡◌, ◌+◌, ℕ, Bool, Some, List, [], length, slice_get}
use Rattle.wire_core.specs.Journal.{start_history}
use Rattle.sdf_plan.specs.declared.plan.Plan.{Plan}
use Rattle.sdf_plan.specs.declared.plan.Net.{Net}
use Rattle.sdf_plan.specs.declared.plan.Serial.{Serial}
use Rattle.sdf_plan.specs.declared.plan.Blk.{Blk}
use Rattle.trace_text.specs.declared.trace.Trace.{Trace}
use Rattle.region_layout.specs.Rows.{queues_of, actors_of, pools_of}
use Rattle.serial_law.specs.Serial.{SerialClass}
use Rattle.layout_laws.specs.Jobs.Jobs.{Job, HasJob}
use Rattle.wired_law.specs.Wiring.{HasWholeIn, HasBlkIn}
use Rattle.cast_core.specs.Casts.{job_part, net_place, blk_place, scene_for}
use Rattle.cast_core.specs.Sources.{every_second, first_serial, serial_drops}
use Rattle.cast_law.specs.Jobs.{PlayJobs}
use Rattle.cast_law.specs.Places.{pool_place}
use Rattle.cast_law.specs.Pools.Rogues.{HasRogues}
use Rattle.system_core.specs.Shows.{Setting, Shown}
use Rattle.system_core.specs.Crews.{net_crew, serial_crew, blk_crew}

-- the serial class with so many clients, from its first queue on: two queues between device and
-- driver, two between driver and virtualisers, and then two for each client, each with whether its
-- bytes may be dropped; with what a trace gives it
abbrev pub serial_class : ℕ → ℕ → List Bool → Trace → SerialClass
serial_class first count drops trace = record {
  device_rx = first;
  device_tx = first + 1;
  rx = first + 2;
  tx = first + 3;
  client_rx = every_second (first + 4) count;
  client_tx = every_second (first + 5) count;
  drops = drops;
  input = trace.input;
  scripts = trace.says;
}

-- that of a plan
abbrev pub class_of : Plan → Trace → Serial → SerialClass
class_of plan trace serial =
    serial_class (first_serial plan) (length serial.client) (serial_drops plan) trace

-- the queues, the pools and the actors of a plan, with what a trace gives them
pub record IsCastOf (plan : Plan) (trace : Trace) (s : Setting) : Type 0 where
  pub rows : s.rows ≡ queues_of plan
  pub pools : s.pools ≡ pools_of plan
  pub count : length s.cast ≡ length (actors_of plan)
  -- the scene in which their needs and rows are said
  pub scene : s.scene ≡ scene_for plan trace
  -- the actor of each job has the part of that job, whatever a hostile client has yet to do
  pub parts : PlayJobs plan trace s.cast
  -- the network class is there as a whole, and the block class
  pub whole : (net : Net) → plan.net ≡ Some net
      → HasWholeIn s.scene s.rows (net_place plan trace) s.cast
  pub whole_block : (blk : Blk) → plan.blk ≡ Some blk
      → HasBlkIn s.scene s.rows (blk_place plan trace) s.cast
  -- and hostile clients stand at the queues of clients of theirs
  pub rogues : HasRogues s.rows (pool_place plan trace).net (pool_place plan trace).blk s.cast
  -- the devices and the clients are those of the plan
  pub net : s.net ≡ net_crew plan
  pub serial : s.serial ≡ serial_crew plan
  pub blk : s.blk ≡ blk_crew plan

-- nothing happened before the journal begins
abbrev pub BeginsAnew : Setting → Type 0
BeginsAnew s = s.history ≡ start_history s.rows

-- the start state of a plan, with what a trace gives it
pub record IsBuilt (plan : Plan) (trace : Trace) (s : Shown) : Type 0 where
  pub cast : IsCastOf plan trace s.setting
  -- a hostile client has all before it that the trace has it do
  pub acts : (job : Job) (k : ℕ) → HasJob plan job k
      → slice_get s.setting.cast k ≡ job_part plan trace job
  pub begins : BeginsAnew s.setting
  pub journal : s.journal ≡ []
