use Rattle.std.proofs.Common.{◌≡◌, take}
use Rattle.i2c_play.proofs.playing.copies.Given as goal

abbrev pub invariant-loop-reply : goal.invariant-loop-reply
invariant-loop-reply l = l.copies.items ≡ take l.reply-index l.replies
