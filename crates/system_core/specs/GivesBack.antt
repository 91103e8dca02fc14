-- Which classes of a plan have no hostile client: there each client gives back what it gets, so
-- that all that is meant for the class's clients arrives.
use Rattle.std.specs.Prelude.{◌≡◌, ℕ, false}
use Rattle.sdf_plan.specs.declared.plan.Plan.{Plan}
use Rattle.trace_text.specs.Events.{is_net_rogue, is_serial_rogue, is_blk_rogue}

-- no client of the network is hostile, so all give back what they get
abbrev pub NetGivesBack : Plan → Type 0
NetGivesBack plan = (c : ℕ) → is_net_rogue plan c ≡ false

-- no client of the serial class is hostile, so all take what they get
abbrev pub SerialGivesBack : Plan → Type 0
SerialGivesBack plan = (c : ℕ) → is_serial_rogue plan c ≡ false

-- no client of the block class is hostile, so all take their replies and give back their buffers
abbrev pub BlkGivesBack : Plan → Type 0
BlkGivesBack plan = (c : ℕ) → is_blk_rogue plan c ≡ false
