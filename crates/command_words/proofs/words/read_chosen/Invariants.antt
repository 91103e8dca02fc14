use Rattle.std.proofs.Common.{length, ◌-◌}
use Rattle.command_words.specs.Words.{texts_of}
use Rattle.command_words.proofs.SoFar.{SoFar}
use Rattle.command_words.proofs.words.read_chosen.Given as goal

abbrev pub invariant-loop-at : goal.invariant-loop-at
invariant-loop-at l = SoFar l.fn.from l.fn.first (texts_of l.words) l.at l.chosen

abbrev pub decreases-loop-at : goal.decreases-loop-at
decreases-loop-at l = length l.words - l.at
