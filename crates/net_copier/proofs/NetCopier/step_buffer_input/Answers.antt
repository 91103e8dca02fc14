use Rattle.std.proofs.Common.{◌==◌, Some, IsSome, refl, sym, ap, ◌∙◌, subst}
use Rattle.std.specs.Option.{option_map, option_to_list}
use Rattle.wire_core.specs.Deeds.{deed_of}
use Rattle.wire_core.specs.Lists.{if_there}
use Rattle.buffer_kit.specs.Entries.{filled}
use Rattle.wire_core.specs.Lists.{with_deed}
use Rattle.net_copier.specs.Copying.{CopierStandsFor}
use Rattle.wire_core.proofs.Readings.{no_take, none_of, nothing_moved, vain_still}
use Rattle.net_copier.proofs.Standing.{buffer_came, frame_dropped, still_buffer, wanting, wanting_as}
use Rattle.net_copier.proofs.Words.{word_still}
use Rattle.net_copier.proofs.NetCopier.step_buffer_input.Goals as goal

pub returns-in-Some-clause-stepped : goal.returns-in-Some-clause-stepped
returns-in-Some-clause-stepped g c =
    let got = c.take_or_drop-got in
    let w = wanting c.args.self.now got.result.1 c.is_wanting-need.result c.is_wanting-need.ensures got.ensures.needed c.in-Some.entry c.in-Some.is in
    let is = c.fill-buffer.ensures ∙ ap (λ bs. filled bs c.in-Some.entry) (c.bytes.ensures.bytes w.0 w.1) in
    record {
      body = option_map (λ x. x.1) got.result.1;
      happened = got.ensures.did;
      kept = λ passed h. subst (λ b. CopierStandsFor (record c.args.self.now { buffer_input = got.new.end; buffer = Some b }) (with_deed passed (deed_of got.result.0 got.result.1))) (sym is)
          (buffer_came c.args.self.now passed _ _ got.result.0 h got.new.end w.0 c.in-Some.entry got.ensures.queue got.ensures.on (got.ensures.taken.0 (subst (λ o. IsSome o) (sym c.in-Some.is) refl)) w.1 w.2 w.3 c.requires.inputs_apart (λ n. got.ensures.takes n ∙ ap (λ o. if_there (c.args.self.now.buffer_input.queue.0 == n) (option_to_list o)) c.in-Some.is) got.ensures.puts);
    }

pub returns-then-dropped-clause-stepped : goal.returns-then-dropped-clause-stepped
returns-then-dropped-clause-stepped g c =
    let got = c.take_or_drop-got in
    let none = none_of got.result.1 c.in_default.not-Some in
    let w = wanting_as c.args.self.now.lease c.args.self.now.buffer c.args.self.now.stage (sym c.is_wanting-need.ensures ∙ got.ensures.drop_needed c.if-dropped.true) in
    record {
      body = option_map (λ x. x.1) got.result.1;
      happened = got.ensures.did;
      kept = λ passed h. frame_dropped c.args.self.now passed _ _ got.result.0 h got.new.end w.0 got.ensures.queue got.ensures.on got.ensures.role (sym got.ensures.dropped ∙ c.if-dropped.true) w.1 w.2 w.3 (nothing_moved _ c.args.self.now.buffer_input.queue.0 _ (ap option_to_list none) got.ensures.takes) got.ensures.puts;
    }

pub returns-else-dropped-clause-stepped : goal.returns-else-dropped-clause-stepped
returns-else-dropped-clause-stepped g c =
    let got = c.take_or_drop-got in
    let none = none_of got.result.1 c.in_default.not-Some in
    record {
      body = option_map (λ x. x.1) got.result.1;
      happened = got.ensures.did;
      kept = λ passed h. still_buffer c.args.self.now passed _ _ got.result.0 h (word_still c.args.self.now.drops c.args.self.now.lease_input.queue.0 c.args.self.now.buffer_input.queue.0 passed.calls got.result.0 (no_take got.result.0.op got.result.1 got.ensures.taken none) (sym got.ensures.dropped ∙ c.if-dropped.false)) (vain_still c.args.self.now.drops c.args.self.now.buffer_input.queue.0 got.result.0 (sym got.ensures.dropped ∙ c.if-dropped.false)) (nothing_moved _ c.args.self.now.buffer_input.queue.0 _ (ap option_to_list none) got.ensures.takes) got.ensures.puts got.new.end got.ensures.queue;
    }
