use Rattle.std.proofs.Common.{arith}
use Rattle.std.specs.Option.{option_to_list}
use Rattle.net_virt_tx.proofs.Holding.{few_carried, few_entries}
use Rattle.net_virt_tx.proofs.client.Client.held.Goals as goal

pub held-requires : goal.held-requires
held-requires c = let few = few_entries c.args.self.now c.requires.work in let all = c.requires.few in omega (arith, few, all)

pub overflow_add-result-2 : goal.overflow_add-result-2
overflow_add-result-2 c =
    let few = few_entries c.args.self.now c.requires.work in
    let all = c.requires.few in
    let one = c.count_held.ensures.held in
    let less = few_carried c.args.pool (option_to_list c.args.self.now.leaving) in
    let two = c.count_held-2.ensures.one in
    let three = c.held.ensures.few in
    omega (arith, few, all, one, less, two, three)

pub returns-clause-few : goal.returns-clause-few
returns-clause-few c =
    let few = few_entries c.args.self.now c.requires.work in
    let one = c.count_held.ensures.held in
    let less = few_carried c.args.pool (option_to_list c.args.self.now.leaving) in
    let two = c.count_held-2.ensures.one in
    let three = c.held.ensures.few in
    omega (arith, few, one, less, two, three)
