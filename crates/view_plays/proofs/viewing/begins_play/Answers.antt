use Rattle.std.proofs.Common.{arith}
use Rattle.std.proofs.lemmas.List.{length-map}
use Rattle.command_words.specs.Words.{texts_of}
use Rattle.view_plays.proofs.KindLemmas.{begins-none, begins-play, begins-html, begins-other}
use Rattle.view_plays.proofs.viewing.begins_play.Goals as goal

pub returns-then-is_empty : goal.returns-then-is_empty
returns-then-is_empty c = (
  λ e. absurd (cc e),
  λ b. absurd (begins-none (texts_of c.args.words.now) (simp length-map (grind (arith, c.if-is_empty.ensures))) b),
)

pub returns-then-is_word : goal.returns-then-is_word
returns-then-is_word c = (
  λ e. begins-play (texts_of c.args.words.now) _ c.word_at-word.ensures (c.is_word.ensures.0 c.if-is_word.true),
  λ b. c.if-is_word.true,
)

pub returns-else-is_word : goal.returns-else-is_word
returns-else-is_word c = (
  λ e. begins-html (texts_of c.args.words.now) _ c.word_at-word.ensures (c.is_word-else-is_word.ensures.0 e),
  λ b. c.is_word-else-is_word.ensures.1 (begins-other (texts_of c.args.words.now) _ c.word_at-word.ensures (λ e. let t = c.is_word.ensures.1 e in let f = c.if-is_word.false in cc) b),
)
