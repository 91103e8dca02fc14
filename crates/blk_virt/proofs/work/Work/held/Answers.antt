use Rattle.std.proofs.Common.{◌++◌, arith}
use Rattle.std.specs.Option.{option_to_list}
use Rattle.turn_kit.proofs.Holding.{cargo-append}
use Rattle.blk_virt.specs.Openings.{block_cargo}
use Rattle.blk_virt.specs.Desks.{desk_cargo}
use Rattle.blk_virt.proofs.work.Work.held.Goals as goal

pub returns : goal.returns
returns c =
    let w = c.args.self.now in
    let all = cargo-append c.args.pool (option_to_list w.opening.first) (block_cargo w.opening.block ++ (desk_cargo w.desk ++ option_to_list w.stray)) in
    let block = cargo-append c.args.pool (block_cargo w.opening.block) (desk_cargo w.desk ++ option_to_list w.stray) in
    let clients = cargo-append c.args.pool (desk_cargo w.desk) (option_to_list w.stray) in
    let opening = c.held.ensures.held in
    let desk = c.held-2.ensures.held in
    let stray = c.count_held.ensures.held in
    omega (arith, all, block, clients, opening, desk, stray)
