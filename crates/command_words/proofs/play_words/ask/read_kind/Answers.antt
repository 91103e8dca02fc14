use Rattle.std.proofs.Common.{arith}
use Rattle.std.proofs.lemmas.List.{length-map}
use Rattle.command_words.proofs.PlayWords.WordLemmas.{bad-empty, bad-kind}
use Rattle.command_words.proofs.play_words.ask.read_kind.Goals as goal

pub returns-then-is_empty-clause-err : goal.returns-then-is_empty-clause-err
returns-then-is_empty-clause-err c = bad-empty _ (simp length-map (grind (arith, c.if-is_empty.ensures)))

pub returns-clause-err : goal.returns-clause-err
returns-clause-err c = bad-kind _ _ c.word_at-word.ensures (λ e. let t = c.is_word.ensures.1 e in let f = c.if-is_word.false in cc)
    (λ e. let t = c.is_word-2.ensures.1 e in let f = c.if-is_word-2.false in cc)
