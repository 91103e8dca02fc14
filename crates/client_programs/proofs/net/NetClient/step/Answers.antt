use Rattle.std.proofs.Common.{sym, subst}
use Rattle.client_programs.specs.Net.Clients.{ClientStandsFor}
use Rattle.client_programs.proofs.NetLemmas.Standing.{reserved_holds}
use Rattle.client_programs.proofs.net.NetClient.step.Goals as goal

pub returns-in-0-clause-stepped : goal.returns-in-0-clause-stepped
returns-in-0-clause-stepped g c =
    let s = c.step_input.ensures.stepped in
    record {
      body = s.body;
      happened = s.happened;
      kept = λ passed h. s.kept passed (subst (λ t. ClientStandsFor t passed) (sym c.choose.ensures.after) (reserved_holds c.args.self.now c.reserve.new.self _ passed c.in_ok-reserve.ensures.pipe c.in_ok-reserve.ensures.ok h));
    }

pub returns-in-1-clause-stepped : goal.returns-in-1-clause-stepped
returns-in-1-clause-stepped g c =
    let s = c.step_output.ensures.stepped in
    record {
      body = s.body;
      happened = s.happened;
      kept = λ passed h. s.kept passed (subst (λ t. ClientStandsFor t passed) (sym c.choose.ensures.after) (reserved_holds c.args.self.now c.reserve.new.self _ passed c.in_ok-reserve.ensures.pipe c.in_ok-reserve.ensures.ok h));
    }

pub returns-in-2-clause-stepped : goal.returns-in-2-clause-stepped
returns-in-2-clause-stepped g c =
    let s = c.step_sent.ensures.stepped in
    record {
      body = s.body;
      happened = s.happened;
      kept = λ passed h. s.kept passed (subst (λ t. ClientStandsFor t passed) (sym c.choose.ensures.after) (reserved_holds c.args.self.now c.reserve.new.self _ passed c.in_ok-reserve.ensures.pipe c.in_ok-reserve.ensures.ok h));
    }

pub returns-in-3-clause-stepped : goal.returns-in-3-clause-stepped
returns-in-3-clause-stepped g c =
    let s = c.step_send.ensures.stepped in
    record {
      body = s.body;
      happened = s.happened;
      kept = λ passed h. s.kept passed (subst (λ t. ClientStandsFor t passed) (sym c.choose.ensures.after) (reserved_holds c.args.self.now c.reserve.new.self _ passed c.in_ok-reserve.ensures.pipe c.in_ok-reserve.ensures.ok h));
    }
