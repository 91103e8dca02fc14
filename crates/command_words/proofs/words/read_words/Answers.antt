use Rattle.std.proofs.Common.{arith}
use Rattle.command_words.proofs.Once.{same-command, same-place, bad-spelled, bad-early}
use Rattle.command_words.proofs.words.read_words.Goals as goal

pub overflow_cast-result : goal.overflow_cast-result
overflow_cast-result c = let early = bad-early _ _ c.in-Err.ensures.bad in omega arith

pub returns-in-Ok-clause-unique : goal.returns-in-Ok-clause-unique
returns-in-Ok-clause-unique c command s = same-command _ _ _ c.in-Ok.ensures.command s

pub returns-in-Ok-clause-bad_unique : goal.returns-in-Ok-clause-bad_unique
returns-in-Ok-clause-bad_unique c k h = absurd (bad-spelled _ _ _ h c.in-Ok.ensures.command)

pub returns-in-Err-clause-unique : goal.returns-in-Err-clause-unique
returns-in-Err-clause-unique c command s = absurd (bad-spelled _ _ _ c.in-Err.ensures.bad s)

pub returns-in-Err-clause-bad_unique : goal.returns-in-Err-clause-bad_unique
returns-in-Err-clause-bad_unique c k h = same-place _ _ _ c.in-Err.ensures.bad h
