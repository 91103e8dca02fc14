-- The lines of the pools of a switch's ports.
use Rattle.std.specs.Prelude.{◌+◌, ◌*◌, ◌-◌, ℕ, zero, suc, List, [], ◌∷◌, ◌++◌, codes}
use Rattle.std.specs.Fmt.{decimal}
use Rattle.cargo_core.specs.declared.census.Census.{Census}
use Rattle.wire_core.specs.Queues.{Queue}
use Rattle.owner_law.specs.Census as Counts
use Rattle.switched_law.specs.declared.switch_class.actors.TheConstants.{BUFFERS}
use Rattle.switched_law.specs.SwitchOwners.Lines.{queued}

-- the name of a pool of a port: that in which it receives, or that in which it sends
abbrev pub pool_name : (port : ℕ) → (way : List ℕ) → List ℕ
pool_name port way = codes "switch." ++ (decimal port ++ (codes "." ++ way))

-- the line of a pool with these counts
abbrev pub line_of : (name : List ℕ) → Counts.Census → Census
line_of name c = record {
  name = name;
  buffers = BUFFERS;
  queues = c.queues;
  hands = c.hands;
  lent = c.lent;
}

-- the lines of ports, from one on, two of each, where each pool has these counts
abbrev pub lines_from : (counts : ℕ → Counts.Census) → (port ports : ℕ) → List Census
lines_from counts port zero = []
lines_from counts port (suc ports) = line_of (pool_name port (codes "rx")) (counts (2 * port))
    ∷ line_of (pool_name port (codes "tx")) (counts (2 * port + 1))
    ∷ lines_from counts (port + 1) ports

-- a pool's counts by the pages that stand in the queues
abbrev pub counted : List Queue → ℕ → Counts.Census
counted world pool = record {
  queues = queued world pool;
  hands = BUFFERS - queued world pool;
  lent = 0;
}
