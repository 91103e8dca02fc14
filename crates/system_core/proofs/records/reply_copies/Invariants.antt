use Rattle.std.proofs.Common.{◌≡◌, take}
use Rattle.system_core.proofs.records.reply_copies.Given as goal

abbrev pub invariant-loop-reply : goal.invariant-loop-reply
invariant-loop-reply l = l.copies ≡ take l.reply-index l.replies
