use Rattle.std.proofs.Common.{◌≡◌, sym, subst}
use Rattle.net_switch.specs.declared.switch.NetSwitch.{NetSwitch}
use Rattle.net_switch.specs.Switching.{SwitchStandsFor}
use Rattle.net_switch.proofs.Turning.{switch_turned, turn_stands}
use Rattle.net_switch.proofs.switch.NetSwitch.step.Goals as goal

pub returns-clause-stepped : goal.returns-clause-stepped
returns-clause-stepped g c =
    let s = c.step_at.ensures.stepped in
    record {
      body = s.body;
      happened = s.happened;
      kept = λ passed h. s.kept passed (subst (λ (v : NetSwitch). SwitchStandsFor v passed) (sym c.choose-at.ensures.after) (turn_stands c.args.self.now _ passed h));
    }

pub returns-clause-turned : goal.returns-clause-turned
returns-clause-turned g c = switch_turned c.args.self.now c.choose-at.new.self c.step_at.new.self c.step_at.result c.choose-at.result c.choose-at.ensures.place c.choose-at.ensures.there c.choose-at.ensures.after c.step_at.ensures.posted c.step_at.ensures.same c.step_at.ensures.turn c.step_at.ensures.still
