use Rattle.std.proofs.Common.{◌==◌, IsSome, refl, sym, ap, ◌∙◌, subst}
use Rattle.std.specs.Option.{option_map, option_to_list}
use Rattle.wire_core.specs.Lists.{if_there}
use Rattle.wire_core.proofs.Readings.{no_take, none_of, nothing_moved, vain_other}
use Rattle.net_copier.proofs.Standing.{lease_came, lease_free, still_in}
use Rattle.net_copier.proofs.Words.{word_in}
use Rattle.net_copier.proofs.NetCopier.step_lease_input.Goals as goal

pub returns-in-Some-clause-stepped : goal.returns-in-Some-clause-stepped
returns-in-Some-clause-stepped g c =
    let got = c.step-got in
    record {
      body = option_map (λ x. x.1) got.result.1;
      happened = got.ensures.did;
      kept = λ passed h. lease_came c.args.self.now passed _ _ got.result.0 h got.new.self c.stage_of-self.result c.in-Some.entry got.ensures.queue got.ensures.on (got.ensures.taken.0 (subst (λ o. IsSome o) (sym c.in-Some.is) refl)) (lease_free c.args.self.now.lease got.result.1 c.is_none.result c.is_none.ensures got.ensures.needed c.in-Some.entry c.in-Some.is)
          c.stage_of-self.ensures.at c.stage_of-self.ensures.new c.requires.inputs_apart (λ n. got.ensures.takes n ∙ ap (λ o. if_there (c.args.self.now.lease_input.queue.0 == n) (option_to_list o)) c.in-Some.is) got.ensures.puts;
    }

pub returns-in_default-clause-stepped : goal.returns-in_default-clause-stepped
returns-in_default-clause-stepped g c =
    let got = c.step-got in
    let none = none_of got.result.1 c.in_default.not-Some in
    record {
      body = option_map (λ x. x.1) got.result.1;
      happened = got.ensures.did;
      kept = λ passed h. still_in c.args.self.now passed _ _ got.result.0 h (word_in c.args.self.now.drops c.args.self.now.lease_input.queue.0 c.args.self.now.buffer_input.queue.0 passed.calls got.result.0 c.requires.inputs_apart (ap (λ q. q.0) got.ensures.on) (no_take got.result.0.op got.result.1 got.ensures.taken none)) (λ o. vain_other c.args.self.now.buffer_input.queue.0 got.result.0 (λ r. c.requires.inputs_apart (sym (ap (λ q. q.0) got.ensures.on) ∙ r))) (nothing_moved _ c.args.self.now.lease_input.queue.0 _ (ap option_to_list none) got.ensures.takes) got.ensures.puts got.new.self got.ensures.queue;
    }
