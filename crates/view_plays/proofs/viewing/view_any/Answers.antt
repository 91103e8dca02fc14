use Rattle.std.proofs.Common.{refl}
use Rattle.view_plays.proofs.viewing.view_any.Goals as goal

pub returns-then-begins_play-clause-play : goal.returns-then-begins_play-clause-play
returns-then-begins_play-clause-play g c b = (c.view_play.result, c.code.ensures, c.view_play.ensures)

pub returns-then-begins_play-clause-other : goal.returns-then-begins_play-clause-other
returns-then-begins_play-clause-other g c n = absurd (n (c.if-begins_play.ensures.0 refl))

pub returns-else-begins_play-clause-play : goal.returns-else-begins_play-clause-play
returns-else-begins_play-clause-play g c b = let f = c.if-begins_play.ensures.1 b in absurd (cc f)

pub returns-else-begins_play-clause-other : goal.returns-else-begins_play-clause-other
returns-else-begins_play-clause-other g c n = (c.view.result, c.code-else-begins_play.ensures, c.view.ensures)
