use Rattle.std.proofs.Common.{[], ◌∷◌, ◌++◌, map}
use Rattle.report_text.specs.Reports.{ending_line, steps_line, bad_line, wire_line, net_line, uart_line, serial_line, blk_line, line_or_none, one_numbered, pool_line}
use Rattle.report_text.proofs.LineLemmas.{written_on}
use Rattle.report_text.proofs.summary.write_summary.Goals as goal

pub returns : goal.returns
returns c =
    let r = c.args.report.now in
    let head = ending_line r.quiet ∷ steps_line r.steps ∷ [] in
    let a = written_on [] head _ _ c.new-text.ensures.bytes c.in_ok-add_head.ensures in
    let b = written_on head (line_or_none wire_line r.wire) _ _ a c.in_ok-add_wire.ensures in
    let d = written_on (head ++ line_or_none wire_line r.wire) (one_numbered net_line 0 r.net) _ _ b c.in_ok-add_net.ensures in
    let e = written_on (head ++ line_or_none wire_line r.wire ++ one_numbered net_line 0 r.net) (line_or_none uart_line r.line) _ _ d c.in_ok-add_uart.ensures in
    let f = written_on (head ++ line_or_none wire_line r.wire ++ one_numbered net_line 0 r.net ++ line_or_none uart_line r.line) (one_numbered serial_line 0 r.serial) _ _ e c.in_ok-add_serial.ensures in
    let g = written_on (head ++ line_or_none wire_line r.wire ++ one_numbered net_line 0 r.net ++ line_or_none uart_line r.line ++ one_numbered serial_line 0 r.serial) (one_numbered blk_line 0 r.blk) _ _ f c.in_ok-add_blk.ensures in
    let h = written_on (head ++ line_or_none wire_line r.wire ++ one_numbered net_line 0 r.net ++ line_or_none uart_line r.line ++ one_numbered serial_line 0 r.serial ++ one_numbered blk_line 0 r.blk) (map pool_line r.pools) _ _ g c.in_ok-add_pools.ensures in
    written_on (head ++ line_or_none wire_line r.wire ++ one_numbered net_line 0 r.net ++ line_or_none uart_line r.line ++ one_numbered serial_line 0 r.serial ++ one_numbered blk_line 0 r.blk ++ map pool_line r.pools) (bad_line r.bad ∷ []) _ _ h c.in_ok-add_bad.ensures
