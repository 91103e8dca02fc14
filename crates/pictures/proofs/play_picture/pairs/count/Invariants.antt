use Rattle.std.proofs.Common.{◌≡◌, ◌+◌, ◌≤◌, drop}
use Rattle.std.specs.Prelude.{count_by}
use Rattle.pictures.specs.PlayPicture.Pairs.{moves}
use Rattle.pictures.proofs.play_picture.pairs.count.Given as goal

abbrev pub invariant-loop-entry : goal.invariant-loop-entry
invariant-loop-entry l = (l.n + count_by (moves l.way l.queue) (drop l.entry-index l.journal) ≡ count_by (moves l.way l.queue) l.journal) × (l.n ≤ l.entry-index)
