use Rattle.actor_set.proofs.RogueLemmas.Sheeting.{own_sheet, needs_sheet}
use Rattle.actor_set.proofs.RogueLemmas.Ends.{pages_counted}
use Rattle.actor_set.proofs.rogues.sheet_law.Goals as goal

pub returns-clause-own : goal.returns-clause-own
returns-clause-own c = own_sheet

pub returns-clause-needs : goal.returns-clause-needs
returns-clause-needs c = needs_sheet

pub returns-clause-pages : goal.returns-clause-pages
returns-clause-pages c = pages_counted
