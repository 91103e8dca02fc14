use Rattle.std.proofs.Common.{ℕ, List, Some, refl, ap, ◌∙◌}
use Rattle.view_plays.proofs.view_core.ask.is_word_at.Goals as goal

pub returns : goal.returns
returns c = (
  λ t. (let h = c.has_word_at.ensures.0 t in h.1 ∙ ap (λ (w : List ℕ). Some w) h.2),
  λ s. c.has_word_at.ensures.1 (c.args.word.now, s, refl),
)
