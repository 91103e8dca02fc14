use Rattle.std.proofs.Common.{arith}
use Rattle.client_programs.proofs.NetLemmas.Holding.{hand_count}
use Rattle.client_programs.proofs.net.NetClient.held.Goals as goal

pub returns : goal.returns
returns c =
    let all = hand_count c.args.pool c.args.self.now in
    omega (arith, all, c.held.ensures.held, c.count_held.ensures.held, c.held-2.ensures.held)
