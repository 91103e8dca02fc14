use Rattle.blk_quiet.proofs.CastLemmas.Clients.{client_in_turn, client_like, back_own, client_puts}
use Rattle.blk_quiet.proofs.cast.client_law.Goals as goal

pub returns-clause-turn : goal.returns-clause-turn
returns-clause-turn c = client_in_turn

pub returns-clause-brings : goal.returns-clause-brings
returns-clause-brings c = λ place passed h k entry asks pool of j x y at bt. (client_like place passed h k entry asks pool of j x y at bt).0

pub returns-clause-back : goal.returns-clause-back
returns-clause-back c = back_own

pub returns-clause-puts : goal.returns-clause-puts
returns-clause-puts c = client_puts
