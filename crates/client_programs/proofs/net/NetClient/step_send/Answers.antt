use Rattle.std.proofs.Common.{[], ℕ, List, refl, subst}
use Rattle.std.specs.Option.{option_map, option_to_list}
use Rattle.wire_core.specs.Deeds.{Cargo, put_of}
use Rattle.client_programs.specs.Net.Programs.{frames_out}
use Rattle.client_programs.specs.Net.Sending.{OutboxStandsFor}
use Rattle.client_programs.specs.Net.Clients.{rx_active, rx_free, tx_active, tx_free}
use Rattle.client_programs.proofs.NetLemmas.Standing.{frame_put, frames_put}
use Rattle.client_programs.proofs.net.NetClient.step_send.Goals as goal

pub returns-clause-stepped : goal.returns-clause-stepped
returns-clause-stepped g c =
    let old = c.args.self.now in
    let mid = c.load_next.new.self in
    let went = put_of c.step.result mid.load in
    let ready = subst (λ (fs : List (List ℕ)). (back put : List Cargo) → OutboxStandsFor old.outbox (frames_out old.program fs) back put → OutboxStandsFor mid (frames_out old.program fs) back put) c.frames.ensures c.load_next.ensures.kept in
    record {
      body = option_map (λ x. x.1) went;
      happened = c.step.ensures.did;
      kept = λ p h. frames_put old _ p _ _ [] (option_to_list went) (record { rx_active = refl; rx_free = refl; tx_active = c.step.ensures.queue; tx_free = refl }) c.requires.outputs_apart c.step.ensures.takes c.step.ensures.puts
          (frame_put old c.step.new.self mid (record { stock = mid.stock; load = c.step.new.load; next = mid.next }) (option_to_list went) (p.taken (rx_active old)) (p.sent (rx_free old)) (p.taken (tx_free old)) (p.sent (tx_active old)) ready c.step.ensures.load refl refl h);
    }
