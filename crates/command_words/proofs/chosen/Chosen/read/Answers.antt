use Rattle.command_words.proofs.Steps.{seed-read, steps-read, journal-read, bad-name, bad-seed, bad-steps}
use Rattle.command_words.proofs.chosen.Chosen.read.Goals as goal

pub returns-in-None-clause-err : goal.returns-in-None-clause-err
returns-in-None-clause-err c = bad-name _ _ _ _ c.word_at.ensures (λ name unset. c.in-None.ensures.none name unset)

pub returns-in_default-clause-err : goal.returns-in_default-clause-err
returns-in_default-clause-err c = bad-seed _ _ _ _ c.word_at.ensures (rw c.in-Some-Seed.field-0-is at c.in-Some-Seed.ensures.some) c.in_default.ensures.none

pub returns-in_default-number_at-clause-err : goal.returns-in_default-number_at-clause-err
returns-in_default-number_at-clause-err c = bad-steps _ _ _ _ c.word_at.ensures (rw c.in-Some-Steps.field-0-is at c.in-Some-Steps.ensures.some) c.in_default-number_at.ensures.none

pub returns-in-Some-clause-ok : goal.returns-in-Some-clause-ok
returns-in-Some-clause-ok c = seed-read _ _ _ _ c.word_at.ensures (rw c.in-Some-Seed.field-0-is at c.in-Some-Seed.ensures.some) _ c.in-Some.ensures.some

pub returns-in-Some-number_at-clause-ok : goal.returns-in-Some-number_at-clause-ok
returns-in-Some-number_at-clause-ok c = steps-read _ _ _ _ c.word_at.ensures (rw c.in-Some-Steps.field-0-is at c.in-Some-Steps.ensures.some) _ c.in-Some-number_at.ensures.some

pub returns-in-Some-Journal-clause-ok : goal.returns-in-Some-Journal-clause-ok
returns-in-Some-Journal-clause-ok c = journal-read _ _ _ _ c.word_at.ensures (rw c.in-Some-Journal.field-0-is at c.in-Some-Journal.ensures.some)
