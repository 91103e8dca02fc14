-- Who has the buffers of a switch's system: what the items of its queues name, and what each actor
-- has in its hand at the start.
use Rattle.std.specs.Prelude.{◌+◌, ◌*◌, ℕ, zero, suc, List, [], ◌∷◌, ◌++◌}
use Rattle.line_text.specs.Lists.{per_client}
use Rattle.play_core.specs.Moved.{Seat}
use Rattle.play_core.specs.Wants.{intake, outlet}
use Rattle.owner_law.specs.Things.{Names, Buffers, Naming, naming_of}
use Rattle.owner_law.specs.Keeping.{Keeper}
use Rattle.owner_law.specs.Pools.Places.{PoolAt, by_offset, pool_hand}
use Rattle.switched_law.specs.SwitchClass.Casting.{rx_pool, tx_pool}

-- items name the buffers of a pool by their offsets
abbrev pub names_of : PoolAt → Names
names_of pool = Buffers (by_offset pool ∷ [])

-- what the items of the queues of ports name, from a port on: at those for sending the buffers in
-- which its client sends, and at those for receiving the ones in which it receives
abbrev pub names_from : (port ports : ℕ) → List Names
names_from port zero = []
names_from port (suc ports) = names_of (tx_pool port) ∷ names_of (tx_pool port)
    ∷ names_of (rx_pool port) ∷ names_of (rx_pool port) ∷ names_from (port + 1) ports

-- the same of all queues of so many ports
abbrev pub switch_naming : ℕ → Naming
switch_naming ports = naming_of (names_from 0 ports)

-- the client of a port has all buffers of its two pools at the start
abbrev pub client_keeper : ℕ → Keeper
client_keeper port = record {
  ends = intake (4 * port + 2) ∷ outlet (4 * port + 3) ∷ intake (4 * port + 1)
      ∷ outlet (4 * port) ∷ [];
  hand = λ pool. pool_hand (rx_pool port) pool ++ pool_hand (tx_pool port) pool;
}

-- the switch's ends at the queues of ports, from a port on
abbrev pub ends_from : (port ports : ℕ) → List Seat
ends_from port zero = []
ends_from port (suc ports) = intake (4 * port) ∷ outlet (4 * port + 1) ∷ outlet (4 * port + 2)
    ∷ intake (4 * port + 3) ∷ ends_from (port + 1) ports

-- the switch has none at the start
abbrev pub switch_keeper : ℕ → Keeper
switch_keeper ports = record { ends = ends_from 0 ports; hand = λ pool. [] }

-- the clients of so many ports, and then the switch
abbrev pub switch_keepers : ℕ → List Keeper
switch_keepers ports = per_client ports client_keeper ++ switch_keeper ports ∷ []
