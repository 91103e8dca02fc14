-- How many steps are enough for a play of a switch.
use Rattle.std.specs.Prelude.{ℕ, ◌+◌, ◌*◌, length, sum_by}
use Rattle.line_text.specs.declared.ports_text.ports.Ports.{Ports}

-- how many ports there are
abbrev pub count_of : Ports → ℕ
count_of ports = length ports.macs

-- how many frames the ports send together
abbrev pub sends_of : Ports → ℕ
sends_of ports = sum_by length ports.sends

-- how often entries are moved from queue to queue, at most: each frame goes to the switch and back,
-- and to each other port and back, and the four buffers of each port begin in a queue
abbrev pub hops_of : Ports → ℕ
hops_of ports = 2 * count_of ports * sends_of ports + 4 * count_of ports

-- how many steps are enough: beside the clients there is the switch, which has four ends of queues
-- for each of them
abbrev pub ports_bound : Ports → ℕ
ports_bound ports = 32 * (hops_of ports + (count_of ports + 1) + 1) * (4 * count_of ports + 1)
