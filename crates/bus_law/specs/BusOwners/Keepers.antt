-- The actors of a bus as those that keep buffers: the ends of each, and what it has at the start.
use Rattle.std.specs.Prelude.{◌+◌, ◌*◌, ℕ, zero, suc, nat_lt, if◌then◌else◌, List, [], ◌∷◌, ◌++◌}
use Rattle.play_core.specs.Moved.{Seat}
use Rattle.play_core.specs.Wants.{intake, outlet}
use Rattle.owner_law.specs.Keeping.{Keeper}
use Rattle.owner_law.specs.Pools.Spread.{share_of}
use Rattle.i2c_virt.specs.declared.i2c_kit.page.TheConstants.{BUFFERS}

-- how many buffers the pool of a number has: that of each client has two, and there are no others
abbrev pub pool_size : (clients pool : ℕ) → ℕ
pool_size clients pool = if nat_lt pool clients then BUFFERS else 0

-- the actor that has a pool's buffers at the start: the client of its number
abbrev pub pool_owner : (pool : ℕ) → ℕ
pool_owner pool = pool

-- an actor by its number and its ends
abbrev pub keeper : (clients number : ℕ) → List Seat → Keeper
keeper clients k ends = record { ends = ends; hand = share_of (pool_size clients) pool_owner k }

-- the ends of a client
abbrev pub client_ends : (client : ℕ) → List Seat
client_ends c = intake (2 * c + 1) ∷ outlet (2 * c) ∷ []

-- the ends of the virtualiser at so many clients, from a number on
abbrev pub served_ends : (first count : ℕ) → List Seat
served_ends first zero = []
served_ends first (suc n) =
    intake (2 * first) ∷ outlet (2 * first + 1) ∷ served_ends (first + 1) n

-- all its ends
abbrev pub virt_ends : (clients : ℕ) → List Seat
virt_ends n = intake (2 * n + 1) ∷ outlet (2 * n) ∷ served_ends 0 n

-- the ends of the driver
abbrev pub driver_ends : (clients : ℕ) → List Seat
driver_ends n = intake (2 * n) ∷ outlet (2 * n + 2) ∷ intake (2 * n + 3) ∷ outlet (2 * n + 1) ∷ []

-- the ends of the bus itself
abbrev pub device_ends : (clients : ℕ) → List Seat
device_ends n = intake (2 * n + 2) ∷ outlet (2 * n + 3) ∷ []

-- so many clients, from a number on
abbrev pub client_keepers : (clients first count : ℕ) → List Keeper
client_keepers clients first zero = []
client_keepers clients first (suc n) =
    keeper clients first (client_ends first) ∷ client_keepers clients (first + 1) n

-- the actors behind the clients
abbrev pub last_keepers : (clients : ℕ) → List Keeper
last_keepers n = keeper n n (virt_ends n) ∷ keeper n (n + 1) (driver_ends n)
    ∷ keeper n (n + 2) (device_ends n) ∷ []

-- all actors of a bus of so many clients
abbrev pub bus_keepers : (clients : ℕ) → List Keeper
bus_keepers n = client_keepers n 0 n ++ last_keepers n
