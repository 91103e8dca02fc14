use Rattle.actor_rows.specs.Sizes.{DeviceStands}
use Rattle.actor_rows.proofs.drops.use_up.Given as goal

abbrev pub invariant-loop-call : goal.invariant-loop-call
invariant-loop-call l = DeviceStands l.world l.device
