use Rattle.std.proofs.Common.{◌≡◌, take}
use Rattle.std.specs.List.{sum_by}
use Rattle.buffer_kit.specs.Clients.{capped}
use Rattle.buffer_kit.proofs.clients.bad_of_all.Given as goal

abbrev pub invariant-loop-client : goal.invariant-loop-client
invariant-loop-client g l = l.bad ≡ capped (sum_by g.C.Served.bad_many (take l.client-index l.clients))
