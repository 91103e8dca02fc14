use Rattle.std.proofs.Common.{◌≡◌, ◌≤◌, true, refl, sym, ap, ◌∙◌, subst}
use Rattle.std.specs.Prelude.{Bool}
use Rattle.switch_play.specs.Bounds.{ports_bound}
use Rattle.switch_play.specs.Playing.{PortsPlayed}
use Rattle.sddf_top.specs.Shown.{ending_of}
use Rattle.sddf_top.proofs.alone.play_one_switch.Goals as goal

pub returns : goal.returns
returns c =
    let plays = subst (λ n. PortsPlayed c.args.ports.now c.args.schedule.seed n c.in_ok-report.report) c.ports_limit-limit.ensures c.in_ok-report.ensures in
    record {
      report = c.in_ok-report.report;
      played_is = refl;
      plays = plays;
      status_is = c.ending_of.ensures;
      bounded = λ enough. c.ending_of.ensures ∙ ap (λ (q : Bool). ending_of q c.in_ok-report.report.steps) (plays.enough enough);
      text_is = c.in_ok-text.ensures;
    }
