use Rattle.std.proofs.Common.{◌+◌, ◌*◌, ◌∙◌, ap, arith}
use Rattle.switch_play.specs.SwitchSystem.Lines.{line_of, counted}
use Rattle.switch_play.proofs.SwitchSystem.Reports.{port_more}
use Rattle.switch_play.proofs.switch_system.reporting.lines.Goals as goal

pub loop-port-preserved : goal.loop-port-preserved
loop-port-preserved c =
    let counts = counted c.args.world.now in
    let k = c.loop-port.port in (
      port_more counts k c.loop-port.lines c.push.new.self c.push-in-loop-port.new.self c.line.result c.line-in-loop-port.result c.loop-port.invariant.0 c.in_ok-push.ensures.ok c.in_ok-push-2.ensures.ok
          (c.line.ensures ∙ ap (λ n. line_of n (counts (2 * k))) c.in_ok-rx.ensures)
          (c.line-in-loop-port.ensures ∙ ap (λ n. line_of n (counts (2 * k + 1))) c.in_ok-tx.ensures),
      omega arith,
    )
