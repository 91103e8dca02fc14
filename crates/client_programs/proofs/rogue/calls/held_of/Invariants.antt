use Rattle.std.proofs.Common.{◌≡◌, ◌≤◌, take}
use Rattle.cargo_core.specs.Bodies.{buffers_of}
use Rattle.client_programs.proofs.rogue.calls.held_of.Given as goal

abbrev pub invariant-loop-body : goal.invariant-loop-body
invariant-loop-body l = (l.count ≡ buffers_of l.pool (take l.body-index l.bodies)) × (l.count ≤ l.body-index)
