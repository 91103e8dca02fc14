use Rattle.std.proofs.Common.{◌≡◌, ◌≤◌}
use Rattle.plain_wires.specs.Contents.{standing}
use Rattle.plain_wires.specs.Pages.{pages_among}
use Rattle.plain_wires.proofs.slots.pages_from.Given as goal

abbrev pub invariant-loop-place : goal.invariant-loop-place
invariant-loop-place l = (l.pages ≡ pages_among l.pool (standing l.slots l.capacity l.head l.place)) × (l.pages ≤ l.place)
