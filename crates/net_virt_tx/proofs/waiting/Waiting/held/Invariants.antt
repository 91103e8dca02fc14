use Rattle.std.proofs.Common.{◌≡◌, ◌≤◌, take}
use Rattle.cargo_core.specs.Bodies.{buffers_of}
use Rattle.turn_kit.specs.Hands.{bodies_of}
use Rattle.net_virt_tx.proofs.waiting.Waiting.held.Given as goal

abbrev pub invariant-loop-k : goal.invariant-loop-k
invariant-loop-k l = (l.count ≡ buffers_of l.pool (bodies_of (take l.k l.self.shown))) × (l.count ≤ l.k)
