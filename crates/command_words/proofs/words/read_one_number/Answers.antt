use Rattle.std.proofs.lemmas.Option.{slice_get_within}
use Rattle.command_words.proofs.OneNumber.{bad-number, bad-behind-number, one-number, more-words, no-more-words}
use Rattle.command_words.proofs.words.read_one_number.Goals as goal

pub returns-in_default-clause-err : goal.returns-in_default-clause-err
returns-in_default-clause-err c = bad-number _ c.in_default.ensures.none

pub returns-then-words-ne2-clause-err : goal.returns-then-words-ne2-clause-err
returns-then-words-ne2-clause-err c = bad-behind-number _ _ c.in-Some.ensures.some (more-words c.args.words.now (slice_get_within _ _ _ c.in-Some.ensures.some.word) c.if-words-ne2.true)

pub returns-clause-ok : goal.returns-clause-ok
returns-clause-ok c = one-number _ _ c.in-Some.ensures.some (no-more-words c.args.words.now c.if-words-ne2.false)
