use Rattle.pictures.specs.PlayPicture.Pairs.{moves}
use Rattle.pictures.proofs.PlayPicture.PairLemmas.{IsSought}
use Rattle.pictures.proofs.play_picture.pairs.place_of_nth.Given as goal

abbrev pub invariant-loop-k : goal.invariant-loop-k
invariant-loop-k l = IsSought (moves l.way l.queue) l.journal l.n l.k l.left
