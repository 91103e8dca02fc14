use Rattle.wired_law.proofs.PageLaw.LawLemmas.Starting.{started}
use Rattle.wired_law.proofs.page_law.law.start_law.Goals as goal

pub returns : goal.returns
returns c = started
