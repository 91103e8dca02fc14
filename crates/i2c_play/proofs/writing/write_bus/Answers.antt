use Rattle.std.proofs.Common.{[], ◌∷◌, ◌++◌, map}
use Rattle.report_text.specs.Reports.{ending_line, steps_line, each_numbered, pool_line}
use Rattle.report_text.proofs.LineLemmas.{written_on}
use Rattle.i2c_play.specs.Texts.{replies_lines}
use Rattle.i2c_play.proofs.writing.write_bus.Goals as goal

pub returns : goal.returns
returns c =
    let r = c.args.report.now in
    let head = ending_line r.quiet ∷ steps_line r.steps ∷ [] in
    let a = written_on [] head _ _ c.new-text.ensures.bytes c.in_ok-add_head.ensures in
    let b = written_on head (each_numbered replies_lines 0 r.replies) _ _ a c.in_ok-add_clients.ensures in
    written_on (head ++ each_numbered replies_lines 0 r.replies) (map pool_line r.pools) _ _ b c.in_ok-add_pools.ensures
