use Rattle.std.proofs.Common.{arith}
use Rattle.std.specs.Option.{option_to_list}
use Rattle.turn_kit.proofs.Holding.{cargo-append}
use Rattle.blk_virt.proofs.client.Client.held.Goals as goal

pub returns-clause-held : goal.returns-clause-held
returns-clause-held c =
    let all = cargo-append c.args.pool (option_to_list c.args.self.now.leaving) (option_to_list c.args.self.now.held) in
    let one = c.count_held.ensures.held in
    let two = c.count_held-2.ensures.held in
    omega (arith, all, one, two)
