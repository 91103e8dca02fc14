use Rattle.std.proofs.Common.{◌∙◌, sym, subst}
use Rattle.device_model.specs.SerialTerminal.Terminals.{TerminalStandsFor}
use Rattle.device_model.proofs.serial_terminal.Terminal.step.Goals as goal

pub returns-in-0-clause-stepped : goal.returns-in-0-clause-stepped
returns-in-0-clause-stepped g c =
    let s = c.step_input.ensures.stepped in
    record {
      body = s.body;
      happened = s.happened;
      kept = λ passed h. s.kept passed (subst (λ t. TerminalStandsFor t passed) (sym c.choose.ensures.after) (record { sent_is = h.sent_is; record_is = c.in_ok-reserve.ensures.ok ∙ h.record_is }));
    }

pub returns-in-1-clause-stepped : goal.returns-in-1-clause-stepped
returns-in-1-clause-stepped g c =
    let s = c.step_output.ensures.stepped in
    record {
      body = s.body;
      happened = s.happened;
      kept = λ passed h. s.kept passed (subst (λ t. TerminalStandsFor t passed) (sym c.choose.ensures.after) (record { sent_is = h.sent_is; record_is = c.in_ok-reserve.ensures.ok ∙ h.record_is }));
    }
