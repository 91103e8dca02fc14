-- How many steps a bus may have before it is quiet, by what is asked alone.
use Rattle.std.specs.Prelude.{◌*◌, ◌+◌, ℕ, length, sum_by}
use Rattle.i2c_text.specs.declared.bus.Bus.{Bus}

-- how many requests the clients have together
abbrev pub requests_of : Bus → ℕ
requests_of bus = sum_by length bus.asks

-- how many entries are put at most: each request goes over three queues at most, and so does its
-- answer
abbrev pub hops_of : Bus → ℕ
hops_of bus = 6 * requests_of bus

-- a bus is quiet within this number of steps: beside the clients there are the virtualiser, the
-- driver and the bus itself, and none has more ends of queues than the virtualiser, two for each
-- client and two more
abbrev pub bus_bound : Bus → ℕ
bus_bound bus = 32 * (hops_of bus + (bus.clients + 3) + 1) * (2 * bus.clients + 2 + 1)
