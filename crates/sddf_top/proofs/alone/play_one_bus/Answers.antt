use Rattle.std.proofs.Common.{◌≡◌, ◌≤◌, true, refl, sym, ap, ◌∙◌, subst}
use Rattle.std.specs.Prelude.{Bool}
use Rattle.i2c_play.specs.Bounds.{bus_bound}
use Rattle.i2c_play.specs.Playing.{BusPlayed}
use Rattle.sddf_top.specs.Shown.{ending_of}
use Rattle.sddf_top.proofs.alone.play_one_bus.Goals as goal

pub returns : goal.returns
returns c =
    let plays = subst (λ n. BusPlayed c.args.bus.now c.args.schedule.seed n c.in_ok-report.report) c.bus_limit-limit.ensures c.in_ok-report.ensures in
    record {
      report = c.in_ok-report.report;
      played_is = refl;
      plays = plays;
      status_is = c.ending_of.ensures;
      bounded = λ enough. c.ending_of.ensures ∙ ap (λ (q : Bool). ending_of q c.in_ok-report.report.steps) (plays.enough enough);
      text_is = c.in_ok-text.ensures;
    }
