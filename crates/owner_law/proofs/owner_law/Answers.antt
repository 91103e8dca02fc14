use Rattle.owner_law.proofs.Replays.{owners_hold, shown_hold}
use Rattle.owner_law.proofs.owner_law.Goals as goal

pub returns-clause-owners : goal.returns-clause-owners
returns-clause-owners c = owners_hold

pub returns-clause-shown : goal.returns-clause-shown
returns-clause-shown c = shown_hold
