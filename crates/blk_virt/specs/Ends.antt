-- The ends of the block virtualiser.
use Rattle.std.specs.Prelude.{ℕ}
use Rattle.wire_core.specs.Ends.{Role, End}
use Rattle.buffer_kit.specs.declared.virt_ends.VirtEnds.{VirtEnds}
use Rattle.buffer_kit.specs.Virtualising.{FitsKinds, blk_kinds}

-- the ends are its own, and as it keeps them; no two are one, and they are at queues of requests
-- and of responses
abbrev pub FitsEnds : (Role → ℕ → End) → VirtEnds → Type 0
FitsEnds ends v = FitsKinds blk_kinds ends v
