use Rattle.std.proofs.Common.{◌≡◌, ◌≤◌, length}
use Rattle.std.specs.VecDeque.{deque_capacity}
use Rattle.i2c_virt.specs.declared.i2c_kit.page.TheConstants.{BUFFERS}
use Rattle.i2c_virt.specs.I2cClient.Hands.{AreBuffers}
use Rattle.i2c_virt.proofs.i2c_client.hand.Hand.new.Given as goal

abbrev pub invariant-loop-number : goal.invariant-loop-number
invariant-loop-number l = AreBuffers l.pool 0 l.pages.items × (length l.pages.items ≡ l.number) × (BUFFERS ≤ deque_capacity l.pages)
