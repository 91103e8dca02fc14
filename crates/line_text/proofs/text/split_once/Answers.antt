use Rattle.std.proofs.Common.{sym, ◌∙◌}
use Rattle.line_text.proofs.Pieces.{parts_none, parts_some}
use Rattle.line_text.proofs.text.split_once.Goals as goal

pub returns-in-Some-clause-parts : goal.returns-in-Some-clause-parts
returns-in-Some-clause-parts c = rw c.split_at.ensures.back (parts_some _ _ _ (sym c.place_of.ensures ∙ c.in-Some.is))

pub returns-in-None-clause-parts : goal.returns-in-None-clause-parts
returns-in-None-clause-parts c = parts_none _ _ (sym c.place_of.ensures ∙ c.in-None.is)
