use Rattle.std.proofs.Common.{◌≡◌, sym, ap, ◌∙◌}
use Rattle.std.specs.Option.{option_map, option_to_list}
use Rattle.turn_kit.specs.Pipes.{arrival}
use Rattle.wire_core.proofs.Readings.{take_at_other, vain_other, moved_not}
use Rattle.device_model.proofs.EthernetLemmas.Standing.{wire_moved, mark_none}
use Rattle.device_model.proofs.ethernet.EthDevice.step_input.Goals as goal

pub returns-clause-stepped : goal.returns-clause-stepped
returns-clause-stepped g c =
    let me = c.args.self.now in
    let s = c.step_input in
    let away : s.result.queue.0 ≡ me.free.queue.0 → ⊥ = λ r. c.requires.fits.inputs_apart (sym r ∙ ap (λ q. q.0) s.ensures.on) in
    let vain = vain_other me.free.queue.0 s.result away in
    let came = arrival me.wire.pipe.load s.new.self.pipe.load in
    record {
      body = option_map (λ x. x.1) came;
      happened = s.ensures.did;
      kept = λ passed h. wire_moved me passed _ _ s.result h s.new.self (mark_none me.drops me.free.queue.0 s.result (take_at_other me.free.queue.0 s.result away) (λ o. vain)) (λ o. vain) (moved_not _ me.wire.pipe.input.queue.0 me.free.queue.0 (option_to_list came) (λ r. c.requires.fits.inputs_apart (sym r)) s.ensures.takes) (s.ensures.puts me.active.queue.0) (s.ensures.kept passed h.sends);
    }
