-- The step budget: how many steps are enough for a play, from the numbers of its plan and its
-- trace.
use Rattle.std.specs.Prelude.{ℕ, ◌+◌, ◌*◌, ◌≤◌, max, Option, Some, None, [], length, sum_by}
use Rattle.std.specs.Option.{option_map, option_map_or}
use Rattle.sdf_plan.specs.declared.plan.Plan.{Plan}
use Rattle.sdf_plan.specs.declared.plan.Net.{Net}
use Rattle.sdf_plan.specs.declared.plan.NetClient.{NetClient}
use Rattle.sdf_plan.specs.declared.plan.Serial.{Serial}
use Rattle.sdf_plan.specs.declared.plan.Blk.{Blk}
use Rattle.trace_text.specs.declared.trace.Trace.{Trace}
use Rattle.expect_core.specs.declared.counts.ClassCounts.{ClassCounts}
use Rattle.trace_text.specs.Events.{net_clients}
use Rattle.trace_text.specs.Limits.{lines_most, stream_most}

-- how many clients a class has; none where it isn't there
abbrev pub clients_or_none : Option ℕ → ℕ
clients_or_none None = 0
clients_or_none (Some n) = n

-- a disk's first block is read once
abbrev pub first_read_hops : Option ℕ → ℕ
first_read_hops None = 0
first_read_hops (Some n) = 4

-- how often the entries of a play are moved from queue to queue, at most
abbrev pub hops_of : ClassCounts → ℕ
hops_of c =
    (4 + 10 * clients_or_none c.net) * c.frames + 6 * c.sends + 3 * c.bytes + 6 * c.asks
    + 2 * c.device_buffers + c.client_buffers + first_read_hops c.blk

-- the actors of a network class with so many clients: its device, its driver and virtualisers, and
-- each client with its copier
abbrev pub net_actors : Option ℕ → ℕ
net_actors None = 0
net_actors (Some n) = 4 + 2 * n

-- the actors of a serial class with so many clients
abbrev pub serial_actors : Option ℕ → ℕ
serial_actors None = 0
serial_actors (Some n) = 4 + n

-- the actors of a block class with so many clients
abbrev pub blk_actors : Option ℕ → ℕ
blk_actors None = 0
blk_actors (Some n) = 3 + n

-- the greatest number of queue ends that one actor of the network class has: the driver's, or a
-- virtualiser's
abbrev pub net_ends : Option ℕ → ℕ
net_ends None = 0
net_ends (Some n) = max (2 + 2 * n) 8

-- the greatest number of queue ends that one actor of the serial class has
abbrev pub serial_ends : Option ℕ → ℕ
serial_ends None = 0
serial_ends (Some n) = max (1 + n) 4

-- the greatest number of queue ends that one actor of the block class has
abbrev pub blk_ends : Option ℕ → ℕ
blk_ends None = 0
blk_ends (Some n) = max (2 + 2 * n) 4

-- how many actors there are
abbrev pub actors_of : ClassCounts → ℕ
actors_of c = net_actors c.net + serial_actors c.serial + blk_actors c.blk

-- the greatest number of queue ends of one actor
abbrev pub most_ends : ClassCounts → ℕ
most_ends c = max (net_ends c.net) (max (serial_ends c.serial) (blk_ends c.blk))

-- how many steps are enough, by these numbers
abbrev pub budget_from : ClassCounts → ℕ
budget_from c = 32 * (hops_of c + actors_of c + 1) * (most_ends c + 1)

-- the numbers of a plan and a trace on which the budget rests
abbrev pub counts_of : Plan → Trace → ClassCounts
counts_of plan trace = record {
  net = option_map (λ (net : Net). length net.client) plan.net;
  serial = option_map (λ (serial : Serial). length serial.client) plan.serial;
  blk = option_map (λ (blk : Blk). length blk.client) plan.blk;
  device_buffers = option_map_or (λ (net : Net). net.rx_buffers) plan.net 0;
  client_buffers = sum_by (λ (c : NetClient). c.rx_buffers) (net_clients plan);
  frames = length trace.frames;
  sends = sum_by length trace.sends;
  bytes = length trace.input + sum_by length trace.says;
  asks = sum_by length trace.asks;
}

-- a trace that gives nothing
abbrev pub no_trace : Trace
no_trace = record {
  frames = [];
  input = [];
  sends = [];
  says = [];
  asks = [];
  image = [];
  net_acts = [];
  serial_acts = [];
  blk_acts = [];
}

-- how many steps are enough for a play of this plan and trace
abbrev pub budget_of : Plan → Trace → ℕ
budget_of plan trace = budget_from (counts_of plan trace)

-- the limits that a valid plan and a trace that was read for it keep
pub record IsWithinLimits (c : ClassCounts) : Type 0 where
  pub net : clients_or_none c.net ≤ 8
  pub serial : clients_or_none c.serial ≤ 8
  pub blk : clients_or_none c.blk ≤ 8
  pub device_buffers : c.device_buffers ≤ 512
  pub client_buffers : c.client_buffers ≤ 4096
  pub frames : c.frames + c.sends ≤ lines_most
  pub bytes : c.bytes ≤ stream_most
  pub asks : c.asks ≤ lines_most
