use Rattle.std.proofs.Common.{arith}
use Rattle.command_words.proofs.Steps.{past-limits}
use Rattle.command_words.proofs.chosen.number_at.Goals as goal

pub returns-then-number-least-clause-none : goal.returns-then-number-least-clause-none
returns-then-number-least-clause-none c =
    past-limits _ _ _ _ _ c.in_ok-number.number c.word_at.ensures c.in_ok-number.ensures.some.0 c.in_ok-number.ensures.some.1 (omega arith) c.then-number-least.either
