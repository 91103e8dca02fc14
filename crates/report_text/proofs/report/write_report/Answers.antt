use Rattle.std.proofs.Common.{[], ◌∷◌, ◌++◌, map}
use Rattle.report_text.specs.Reports.{ending_line, steps_line, bad_line, wire_lines, net_lines, uart_lines, serial_lines, blk_lines, each_numbered, pool_line}
use Rattle.report_text.proofs.LineLemmas.{written_on}
use Rattle.report_text.proofs.report.write_report.Goals as goal

pub returns : goal.returns
returns c =
    let r = c.args.report.now in
    let head = ending_line r.quiet ∷ steps_line r.steps ∷ [] in
    let a = written_on [] head _ _ c.new-text.ensures.bytes c.in_ok-add_head.ensures in
    let b = written_on head (wire_lines r.wire) _ _ a c.in_ok-add_wire.ensures in
    let d = written_on (head ++ wire_lines r.wire) (each_numbered net_lines 0 r.net) _ _ b c.in_ok-add_net.ensures in
    let e = written_on (head ++ wire_lines r.wire ++ each_numbered net_lines 0 r.net) (uart_lines r.line) _ _ d c.in_ok-add_uart.ensures in
    let f = written_on (head ++ wire_lines r.wire ++ each_numbered net_lines 0 r.net ++ uart_lines r.line) (each_numbered serial_lines 0 r.serial) _ _ e c.in_ok-add_serial.ensures in
    let g = written_on (head ++ wire_lines r.wire ++ each_numbered net_lines 0 r.net ++ uart_lines r.line ++ each_numbered serial_lines 0 r.serial) (each_numbered blk_lines 0 r.blk) _ _ f c.in_ok-add_blk.ensures in
    let h = written_on (head ++ wire_lines r.wire ++ each_numbered net_lines 0 r.net ++ uart_lines r.line ++ each_numbered serial_lines 0 r.serial ++ each_numbered blk_lines 0 r.blk) (map pool_line r.pools) _ _ g c.in_ok-add_pools.ensures in
    written_on (head ++ wire_lines r.wire ++ each_numbered net_lines 0 r.net ++ uart_lines r.line ++ each_numbered serial_lines 0 r.serial ++ each_numbered blk_lines 0 r.blk ++ map pool_line r.pools) (bad_line r.bad ∷ []) _ _ h c.in_ok-add_bad.ensures
