use Rattle.std.proofs.Common.{sym}
use Rattle.std.specs.Option.{option_map, option_to_list}
use Rattle.wire_core.specs.Deeds.{put_of}
use Rattle.wire_core.proofs.Readings.{no_take_at, gives, vain_out, moved_not}
use Rattle.device_model.proofs.EthernetLemmas.Standing.{wire_moved, mark_none}
use Rattle.device_model.proofs.ethernet.EthDevice.step_output.Goals as goal

pub returns-clause-stepped : goal.returns-clause-stepped
returns-clause-stepped g c =
    let me = c.args.self.now in
    let s = c.step_output in
    let vain = vain_out me.free.queue.0 s.result s.ensures.role in
    let went = put_of s.result me.wire.pipe.load in
    record {
      body = option_map (λ x. x.1) went;
      happened = s.ensures.did;
      kept = λ passed h. wire_moved me passed _ _ s.result h s.new.self (mark_none me.drops me.free.queue.0 s.result (no_take_at me.free.queue.0 s.result (gives s.result.op s.ensures.role)) (λ o. vain)) (λ o. vain) (s.ensures.takes me.free.queue.0) (moved_not _ me.wire.pipe.output.queue.0 me.active.queue.0 (option_to_list went) (λ r. c.requires.outputs_apart (sym r)) s.ensures.puts) (s.ensures.kept passed h.sends);
    }
