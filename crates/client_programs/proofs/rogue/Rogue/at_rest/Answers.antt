use Rattle.std.proofs.Common.{rules}
use Rattle.client_programs.proofs.RogueLemmas.Skipping.{rest_is}
use Rattle.client_programs.proofs.rogue.Rogue.at_rest.Goals as goal

pub returns : goal.returns
returns c = rw c.upcoming.ensures.next (rest_is c.args.self.now.acts.items c.upcoming.result c.len.result (search rules))
