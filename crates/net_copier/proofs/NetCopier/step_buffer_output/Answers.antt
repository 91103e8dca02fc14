use Rattle.std.proofs.Common.{◌==◌, sym, ap, ◌∙◌, subst}
use Rattle.std.specs.Option.{option_map, option_to_list}
use Rattle.wire_core.specs.Deeds.{put_of, deed_of}
use Rattle.wire_core.specs.Lists.{if_there}
use Rattle.wire_core.specs.Lists.{with_deed}
use Rattle.net_copier.specs.declared.Stage.TheVariants as At
use Rattle.net_copier.specs.Copying.{CopierStandsFor}
use Rattle.wire_core.proofs.Readings.{nothing_moved, vain_out}
use Rattle.net_copier.proofs.Standing.{buffer_went, still_put, put_all, put_none, lease_of}
use Rattle.net_copier.proofs.Words.{word_out}
use Rattle.net_copier.proofs.NetCopier.step_buffer_output.Goals as goal

pub returns-then-is_some-clause-stepped : goal.returns-then-is_some-clause-stepped
returns-then-is_some-clause-stepped g c =
    let s = c.step-event in
    let me = c.args.self.now in
    let p = put_all s.result me.buffer s.new.load s.ensures.item s.ensures.load (sym c.is_some.ensures ∙ c.if-is_some.true) in
    let w = lease_of me c.requires.work p.0 p.1 in
    record {
      body = option_map (λ x. x.1) (put_of s.result me.buffer);
      happened = s.ensures.did;
      kept = λ passed h. subst (λ b. CopierStandsFor (record me { buffer_output = s.new.self; buffer = b; stage = At.Copied }) (with_deed passed (deed_of s.result (put_of s.result me.buffer)))) (sym p.3)
          (buffer_went me passed _ _ s.result h s.new.self w.0 p.0 s.ensures.queue s.ensures.role w.1 p.1 w.2 c.requires.outputs_apart s.ensures.takes (λ n. s.ensures.puts n ∙ ap (λ o. if_there (me.buffer_output.queue.0 == n) (option_to_list o)) p.2));
    }

pub returns-else-is_some-clause-stepped : goal.returns-else-is_some-clause-stepped
returns-else-is_some-clause-stepped g c =
    let s = c.step-event in
    let me = c.args.self.now in
    let p = put_none s.result me.buffer s.new.load s.ensures.load (sym c.is_some.ensures ∙ c.if-is_some.false) in
    record {
      body = option_map (λ x. x.1) (put_of s.result me.buffer);
      happened = s.ensures.did;
      kept = λ passed h. subst (λ b. CopierStandsFor (record me { buffer_output = s.new.self; buffer = b }) (with_deed passed (deed_of s.result (put_of s.result me.buffer)))) (sym p.1)
          (still_put me passed _ _ s.result h (word_out me.drops me.lease_input.queue.0 me.buffer_input.queue.0 passed.calls s.result s.ensures.role) (λ o. vain_out me.buffer_input.queue.0 s.result s.ensures.role) s.ensures.takes (nothing_moved _ me.buffer_output.queue.0 _ (ap option_to_list p.0) s.ensures.puts) s.new.self s.ensures.queue);
    }
