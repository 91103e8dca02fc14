use Rattle.std.proofs.Common.{None, sym, ◌∙◌}
use Rattle.std.specs.Option.{option_map}
use Rattle.wire_core.specs.Deeds.{put_of}
use Rattle.wire_core.proofs.Readings.{nothing_moved, vain_out}
use Rattle.net_copier.proofs.Standing.{lease_out, still_back, none_put}
use Rattle.net_copier.proofs.Words.{word_out}
use Rattle.net_copier.proofs.NetCopier.step_lease_output.Goals as goal

pub returns-then-is_returning-clause-stepped : goal.returns-then-is_returning-clause-stepped
returns-then-is_returning-clause-stepped g c =
    let s = c.step in
    let me = c.args.self.now in
    record {
      body = option_map (λ x. x.1) (put_of s.result me.lease);
      happened = s.ensures.did;
      kept = λ passed h. lease_out me passed _ _ s.result h s.new.self s.new.load s.ensures.queue s.ensures.role (sym c.is_returning.ensures ∙ c.if-is_returning.true) s.ensures.item s.ensures.load (λ e. c.requires.outputs_apart (sym e)) s.ensures.takes s.ensures.puts;
    }

pub returns-else-is_returning-clause-stepped : goal.returns-else-is_returning-clause-stepped
returns-else-is_returning-clause-stepped g c =
    let s = c.step-else-is_returning in
    let me = c.args.self.now in
    record {
      body = option_map (λ x. x.1) (put_of s.result None);
      happened = s.ensures.did;
      kept = λ passed h. still_back me passed _ _ s.result h (word_out me.drops me.lease_input.queue.0 me.buffer_input.queue.0 passed.calls s.result s.ensures.role) (λ o. vain_out me.buffer_input.queue.0 s.result s.ensures.role) s.ensures.takes (nothing_moved _ me.lease_output.queue.0 _ (none_put s.result) s.ensures.puts) s.new.self s.ensures.queue;
    }
