use Rattle.std.proofs.Common.{refl}
use Rattle.view_plays.proofs.playing.reply_to.Goals as goal

pub returns-in-Say-clause-replies : goal.returns-in-Say-clause-replies
returns-in-Say-clause-replies g c = rw c.in-Say.is refl

pub returns-in-Go-clause-replies : goal.returns-in-Go-clause-replies
returns-in-Go-clause-replies g c = rw c.in-Go.is c.play.ensures.drawn

pub play-requires-clause-accepted : goal.play-requires-clause-accepted
play-requires-clause-accepted g c = (rw c.in-Go.is at c.requires).0

pub play-requires-clause-numbered : goal.play-requires-clause-numbered
play-requires-clause-numbered g c = (rw c.in-Go.is at c.requires).1

pub play-requires-clause-read : goal.play-requires-clause-read
play-requires-clause-read g c = (rw c.in-Go.is at c.requires).2
