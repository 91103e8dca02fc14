use Rattle.std.proofs.Common.{[], ◌∷◌, ◌++◌}
use Rattle.client_programs.proofs.BlkLemmas.Asks.{stands_put}
use Rattle.client_programs.proofs.blk.asking.Asking.go_on.Goals as goal

pub returns-clause-stands : goal.returns-clause-stands
returns-clause-stands c = λ start came put x h. c.prepare.ensures.stands start came (put ++ x ∷ []) (stands_put c.args.self.now start came put x c.requires.none h)
