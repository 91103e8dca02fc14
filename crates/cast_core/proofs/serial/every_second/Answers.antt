use Rattle.std.proofs.Common.{refl}
use Rattle.cast_core.proofs.Seconds.{second_more}
use Rattle.cast_core.proofs.serial.every_second.Goals as goal

pub loop-k-preserved : goal.loop-k-preserved
loop-k-preserved c = second_more c.args.first c.loop-k.k c.loop-k.queues.items c.push.new.self.items _ c.in_ok-push.ensures.items refl c.loop-k.invariant
