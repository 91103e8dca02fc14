use Rattle.std.proofs.Common.{length, ◌-◌}
use Rattle.command_words.specs.Words.{texts_of}
use Rattle.command_words.proofs.PlayWords.SoFar.{SoFar}
use Rattle.command_words.proofs.play_words.ask.read_options.Given as goal

abbrev pub invariant-loop-at : goal.invariant-loop-at
invariant-loop-at l = SoFar (texts_of l.words) l.at l.settings

abbrev pub decreases-loop-at : goal.decreases-loop-at
decreases-loop-at l = length l.words - l.at
