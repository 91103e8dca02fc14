use Rattle.std.proofs.Common.{◌+◌, ◌==◌, Some, IsSome, refl, sym, ap, ◌∙◌, subst, arith}
use Rattle.std.specs.Option.{option_map, option_to_list}
use Rattle.wire_core.specs.Deeds.{deed_of}
use Rattle.wire_core.specs.Lists.{if_there, with_deed}
use Rattle.wire_core.proofs.Readings.{none_of, no_take, nothing_moved}
use Rattle.device_model.specs.Ethernet.Devices.{DeviceStandsFor}
use Rattle.device_model.proofs.EthernetLemmas.Standing.{buffer_came, frame_dropped, still_free, filling_at, needed_so}
use Rattle.device_model.proofs.ethernet.EthDevice.step_free.Goals as goal

pub overflow_add-self : goal.overflow_add-self
overflow_add-self g c = let fits = c.is_filling-need.ensures.fits (needed_so c.take_or_drop-got.result.1 c.is_filling-need.result c.take_or_drop-got.ensures.needed c.in-Some.entry c.in-Some.is) in omega (arith, fits)

pub returns-in-Some-clause-stepped : goal.returns-in-Some-clause-stepped
returns-in-Some-clause-stepped g c =
    let got = c.take_or_drop-got in
    let me = c.args.self.now in
    let w = filling_at me (sym c.is_filling-need.ensures.value ∙ needed_so got.result.1 c.is_filling-need.result got.ensures.needed c.in-Some.entry c.in-Some.is) in
    record {
      body = option_map (λ x. x.1) got.result.1;
      happened = got.ensures.did;
      kept = λ passed h. subst (λ b. DeviceStandsFor (record me { free = got.new.end; load = Some b; next = me.next + 1 }) (with_deed passed (deed_of got.result.0 got.result.1))) (sym c.fill-filled.ensures)
          (buffer_came me passed _ _ got.result.0 h got.new.end c.get.result.now c.in-Some.entry got.ensures.queue got.ensures.on (got.ensures.taken.0 (subst (λ o. IsSome o) (sym c.in-Some.is) refl)) w.0 w.1 c.get.ensures c.requires.inputs_apart (λ n. got.ensures.takes n ∙ ap (λ o. if_there (me.free.queue.0 == n) (option_to_list o)) c.in-Some.is) got.ensures.puts);
    }

pub returns-then-dropped-clause-stepped : goal.returns-then-dropped-clause-stepped
returns-then-dropped-clause-stepped g c =
    let got = c.take_or_drop-got in
    let me = c.args.self.now in
    let none = none_of got.result.1 c.in_default.not-Some in
    let w = filling_at me (sym c.is_filling-need.ensures.value ∙ got.ensures.drop_needed c.if-dropped.true) in
    record {
      body = option_map (λ x. x.1) got.result.1;
      happened = got.ensures.did;
      kept = λ passed h. frame_dropped me passed _ _ got.result.0 h got.new.end got.ensures.queue got.ensures.on got.ensures.role (sym got.ensures.dropped ∙ c.if-dropped.true) w.0 w.1 (nothing_moved _ me.free.queue.0 _ (ap option_to_list none) got.ensures.takes) got.ensures.puts;
    }

pub returns-else-dropped-clause-stepped : goal.returns-else-dropped-clause-stepped
returns-else-dropped-clause-stepped g c =
    let got = c.take_or_drop-got in
    let me = c.args.self.now in
    let none = none_of got.result.1 c.in_default.not-Some in
    record {
      body = option_map (λ x. x.1) got.result.1;
      happened = got.ensures.did;
      kept = λ passed h. still_free me passed _ _ got.result.0 h got.new.end got.ensures.queue (no_take got.result.0.op got.result.1 got.ensures.taken none) (sym got.ensures.dropped ∙ c.if-dropped.false) (nothing_moved _ me.free.queue.0 _ (ap option_to_list none) got.ensures.takes) got.ensures.puts;
    }
