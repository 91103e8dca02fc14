use Rattle.wired_law.proofs.PageLaw.WildPages.Rounds.Going.{starts, goes_on, keeps}
use Rattle.wired_law.proofs.page_law.wild_pages.round_law.Goals as goal

pub returns-clause-starts : goal.returns-clause-starts
returns-clause-starts c = starts

pub returns-clause-goes_on : goal.returns-clause-goes_on
returns-clause-goes_on c = goes_on

pub returns-clause-keeps : goal.returns-clause-keeps
returns-clause-keeps c = keeps
