use Rattle.std.proofs.Common.{◌≡◌, ◌≤◌, take}
use Rattle.cargo_core.specs.Bodies.{buffers_of}
use Rattle.buffer_kit.specs.Pools.{page_bodies}
use Rattle.buffer_kit.proofs.pages.pages_of.Given as goal

abbrev pub invariant-loop-page : goal.invariant-loop-page
invariant-loop-page l = (l.count ≡ buffers_of l.pool (page_bodies (take l.page-index l.pages))) × (l.count ≤ l.page-index)
