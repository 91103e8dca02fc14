use Rattle.wired_law.proofs.PageLaw.WildPages.Rounds.Asking.{asked_closed}
use Rattle.wired_law.proofs.page_law.wild_pages.block_law.Goals as goal

pub returns : goal.returns
returns c = asked_closed
