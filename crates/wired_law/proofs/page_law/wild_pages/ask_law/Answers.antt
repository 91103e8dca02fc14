use Rattle.wired_law.proofs.PageLaw.WildPages.Rounds.Writing.{writes}
use Rattle.wired_law.proofs.page_law.wild_pages.ask_law.Goals as goal

pub returns : goal.returns
returns c = writes
