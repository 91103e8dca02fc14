use Rattle.wired_law.proofs.BlkReplies.Casts.{replied}
use Rattle.wired_law.proofs.blk_replies.replied_law.Goals as goal

pub returns : goal.returns
returns c scene = replied
