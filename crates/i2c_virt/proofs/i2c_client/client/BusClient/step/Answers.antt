use Rattle.std.proofs.Common.{Option, sym, subst}
use Rattle.i2c_virt.specs.declared.i2c_client.client.BusClient.{BusClient}
use Rattle.i2c_virt.specs.declared.i2c_client.asking.Asking.{Asking}
use Rattle.i2c_virt.specs.I2cClient.Clients.{ClientStands, ClientStandsFor}
use Rattle.i2c_virt.proofs.I2cClient.Standing.{ready_stands}
use Rattle.i2c_virt.proofs.i2c_client.client.BusClient.step.Goals as goal

pub returns-in-0-clause-stepped : goal.returns-in-0-clause-stepped
returns-in-0-clause-stepped g c =
    let s = c.step_responses.ensures.stepped in
    let b = c.args.self.now in
    record {
      body = s.body;
      happened = s.happened;
      kept = λ passed h. s.kept passed (subst (λ (x : BusClient). ClientStandsFor x passed) (sym c.choose.ensures.after)
          (subst (λ (w : Asking). ClientStands b.responses.queue.0 b.requests.queue.0 w b.stray passed) (sym c.in_ok-reserve.ensures.others)
          (ready_stands b.responses.queue.0 b.requests.queue.0 b.asking c.reserve.new.self.replies b.stray passed c.in_ok-reserve.ensures.shown h)));
    }

pub returns-in-1-clause-stepped : goal.returns-in-1-clause-stepped
returns-in-1-clause-stepped g c =
    let s = c.step_requests.ensures.stepped in
    let b = c.args.self.now in
    record {
      body = s.body;
      happened = s.happened;
      kept = λ passed h. s.kept passed (subst (λ (x : BusClient). ClientStandsFor x passed) (sym c.choose.ensures.after)
          (subst (λ (w : Asking). ClientStands b.responses.queue.0 b.requests.queue.0 w b.stray passed) (sym c.in_ok-reserve.ensures.others)
          (ready_stands b.responses.queue.0 b.requests.queue.0 b.asking c.reserve.new.self.replies b.stray passed c.in_ok-reserve.ensures.shown h)));
    }
