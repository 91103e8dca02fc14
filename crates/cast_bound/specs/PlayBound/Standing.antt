-- Where the queues of the classes stand among all, and what a trace gives them.
use Rattle.std.specs.Prelude.{◌≡◌, ◌+◌, ◌*◌, ◌≤◌, ℕ, Option, Some, None, length, slice_get, sum_by}
use Rattle.sdf_plan.specs.declared.plan.Plan.{Plan}
use Rattle.sdf_plan.specs.declared.plan.Net.{Net}
use Rattle.sdf_plan.specs.declared.plan.NetClient.{NetClient}
use Rattle.sdf_plan.specs.declared.plan.Serial.{Serial}
use Rattle.sdf_plan.specs.declared.plan.Blk.{Blk}
use Rattle.trace_text.specs.declared.trace.Trace.{Trace}
use Rattle.play_core.specs.Moved.{Moved}
use Rattle.serial_law.specs.Serial.{SerialClass}
use Rattle.serial_law.specs.Hops.Hops.{serial_put, serial_bytes}
use Rattle.net_law.specs.Owners.Names.{ClientPools}
use Rattle.net_law.specs.TxParts.Numbers.{NetPlace}
use Rattle.net_law.specs.Hops.Hops.{net_put, net_moves, script_frames}
use Rattle.blk_law.specs.Hops.Hops.{blk_put, blk_moves}

-- the queues of the class stand one behind the other from a number on: two at its device, two at
-- the driver's other side, and then two for each of so many clients
pub record StandsFrom (first count : ℕ) (c : SerialClass) : Type 0 where
  pub device_rx : c.device_rx ≡ first
  pub device_tx : c.device_tx ≡ first + 1
  pub rx : c.rx ≡ first + 2
  pub tx : c.tx ≡ first + 3
  pub rx_count : length c.client_rx ≡ count
  pub tx_count : length c.client_tx ≡ count
  pub client_rx : (k q : ℕ) → slice_get c.client_rx k ≡ Some q → q ≡ first + 4 + 2 * k
  pub client_tx : (k q : ℕ) → slice_get c.client_tx k ≡ Some q → q ≡ first + 5 + 2 * k

-- the class has to move what a trace gives it
pub record Carries (trace : Trace) (c : SerialClass) : Type 0 where
  pub input : c.input ≡ trace.input
  pub scripts : c.scripts ≡ trace.says

-- a network stands at the first queues, and is no larger than plan and trace say: it has the plan's
-- clients and buffers, and no more frames to send than the trace gives
pub record IsPlaceOf (trace : Trace) (net : Net) (place : NetPlace) : Type 0 where
  pub first : place.first ≡ 0
  pub clients : length place.macs ≡ length net.client
  pub pool : place.pool.buffers ≤ net.rx_buffers
  pub scripts : sum_by script_frames place.programs ≤ sum_by length trace.sends
  pub buffers : sum_by (λ (q : ClientPools). q.rx.buffers) place.pools
      ≤ sum_by (λ (c : NetClient). c.rx_buffers) net.client

-- how many queues the network of a plan has, before those of the serial class
abbrev pub serial_first : Option Net → ℕ
serial_first None = 0
serial_first (Some net) = 8 + 6 * length net.client

-- no more was put to the queues of the network than its entries have to be moved, with those that
-- were dropped there, where the plan has one
pub data NetMoves (plan : Plan) (trace : Trace) (gone : ℕ) (m : Moved) : Type 0 where
  without_net : plan.net ≡ None → gone ≡ 0 → NetMoves plan trace gone m
  with_net : (net : Net) (place : NetPlace) → plan.net ≡ Some net → IsPlaceOf trace net place
      → net_put place.first (length place.macs) m + gone ≤ net_moves place trace.frames
      → NetMoves plan trace gone m

-- and so of the serial class, with those entries that were dropped there
pub data SerialMoves (plan : Plan) (trace : Trace) (gone : ℕ) (m : Moved) : Type 0 where
  without_serial : plan.serial ≡ None → gone ≡ 0 → SerialMoves plan trace gone m
  with_serial : (serial : Serial) (class : SerialClass) → plan.serial ≡ Some serial
      → StandsFrom (serial_first plan.net) (length serial.client) class → Carries trace class
      → serial_put class m + gone ≤ 3 * serial_bytes class → SerialMoves plan trace gone m

-- how many queues the serial class of a plan has
abbrev pub serial_many : Option Serial → ℕ
serial_many None = 0
serial_many (Some serial) = 4 + 2 * length serial.client

-- the number of the first queue of the block class: the others' stand before it
abbrev pub blk_first : Plan → ℕ
blk_first plan = serial_first plan.net + serial_many plan.serial

-- and so of the block class
pub data BlkMoves (plan : Plan) (trace : Trace) (m : Moved) : Type 0 where
  without_blk : plan.blk ≡ None → BlkMoves plan trace m
  with_blk : (blk : Blk) → plan.blk ≡ Some blk
      → blk_put (blk_first plan) (length blk.client) m ≤ blk_moves trace.asks
      → BlkMoves plan trace m
