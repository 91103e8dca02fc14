use Rattle.cast_law.proofs.PagesLemmas.Once.{each_once}
use Rattle.cast_law.proofs.pages.cast_once_law.Goals as goal

pub returns : goal.returns
returns c = each_once
