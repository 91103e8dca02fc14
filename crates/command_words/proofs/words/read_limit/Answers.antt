use Rattle.std.proofs.Common.{refl}
use Rattle.std.proofs.lemmas.Option.{slice_get_within}
use Rattle.command_words.proofs.Limits.{no-more, bad-option, bad-number, bad-more, one-limit, more-words, no-more-words}
use Rattle.command_words.proofs.words.read_limit.Goals as goal

pub returns-then-words-eq3-clause-ok : goal.returns-then-words-eq3-clause-ok
returns-then-words-eq3-clause-ok c = no-more c.args.words.now c.if-words-eq3.true

pub returns-then-not-is_word-clause-err : goal.returns-then-not-is_word-clause-err
returns-then-not-is_word-clause-err c = bad-option _ _ c.word_at.ensures (λ e. let t = c.is_word.ensures.1 e in let f = c.if-not-is_word.true in cc)

pub returns-in_default-clause-err : goal.returns-in_default-clause-err
returns-in_default-clause-err c = bad-number _ _ c.word_at.ensures (c.if-not-is_word.ensures.0 refl) c.in_default.ensures.none

pub returns-then-words-ne5-clause-err : goal.returns-then-words-ne5-clause-err
returns-then-words-ne5-clause-err c =
    bad-more _ _ c.word_at.ensures (c.if-not-is_word.ensures.0 refl) _ c.in-Some.ensures.some (more-words c.args.words.now (slice_get_within _ _ _ c.in-Some.ensures.some.word) c.if-words-ne5.true)

pub returns-clause-ok : goal.returns-clause-ok
returns-clause-ok c = one-limit _ _ c.word_at.ensures (c.if-not-is_word.ensures.0 refl) _ c.in-Some.ensures.some (no-more-words c.args.words.now c.if-words-ne5.false)
