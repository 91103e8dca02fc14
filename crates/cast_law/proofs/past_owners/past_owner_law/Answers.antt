use Rattle.cast_law.proofs.PastOwners.Past.{past_owned}
use Rattle.cast_law.proofs.past_owners.past_owner_law.Goals as goal

pub returns : goal.returns
returns c = past_owned
