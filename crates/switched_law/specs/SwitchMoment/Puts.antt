-- How many entries are put to all queues of a switch's system.
use Rattle.std.specs.Prelude.{ℕ, ◌+◌, ◌*◌, length, sum_by}
use Rattle.wire_core.specs.Lists.{Passed}
use Rattle.wire_core.specs.Marks.{sum_below}
use Rattle.line_text.specs.declared.ports_text.ports.Ports.{Ports}

-- how many were put to the four queues of each port
abbrev pub all_put : (ports : ℕ) → Passed → ℕ
all_put ports passed = sum_below (λ n. length (passed.sent n)) (4 * ports)

-- how many are put at most, where so many ports send so many frames: of each frame its sender's
-- buffer and one of each other port, there and back, and once each buffer in which a port receives
abbrev pub puts_most : Ports → ℕ
puts_most ports = 2 * length ports.macs * sum_by length ports.sends + 4 * length ports.macs
