-- What the items of a bus's queues name: the buffers of its clients.
use Rattle.std.specs.Prelude.{◌+◌, ◌*◌, ◌/◌, ℕ, zero, suc, nat_lt, if◌then◌else◌, List, [], ◌∷◌}
use Rattle.owner_law.specs.Things.{Window, NoBuffers, Buffers, Naming}
use Rattle.i2c_virt.specs.declared.i2c_kit.page.TheConstants.{BUFFER_BYTES, BUFFERS}

-- the buffers of a client by the addresses on its own queues
abbrev pub own_window : (client : ℕ) → Window
own_window client = record {
  pool = client;
  base = 0;
  size = BUFFER_BYTES;
  buffers = BUFFERS;
}

-- by those on the queues of virtualiser, driver and bus
abbrev pub shared_window : (client : ℕ) → Window
shared_window client = record {
  pool = client;
  base = BUFFERS * BUFFER_BYTES * client;
  size = BUFFER_BYTES;
  buffers = BUFFERS;
}

-- the same of so many clients, from a number on
abbrev pub shared_windows : (first count : ℕ) → List Window
shared_windows first zero = []
shared_windows first (suc n) = shared_window first ∷ shared_windows (first + 1) n

-- what the items of a queue of so many clients name: at the two queues of a client that client's
-- buffers, at the four behind them the buffers of all clients, and beyond them nothing
abbrev pub bus_naming : (clients : ℕ) → Naming
bus_naming clients n =
    if nat_lt n (2 * clients) then Buffers (own_window (n / 2) ∷ [])
    else if nat_lt n (2 * clients + 4) then Buffers (shared_windows 0 clients)
    else NoBuffers
