use Rattle.std.proofs.Common.{◌≡◌, ◌==◌, true, false, IsSome, None, Option, is_some, sym, ap, ◌∙◌, subst, arith}
use Rattle.std.specs.Option.{option_map, option_to_list}
use Rattle.wire_core.specs.declared.names.Op.TheVariants as Do
use Rattle.wire_core.specs.Deeds.{Cargo, deed_of}
use Rattle.wire_core.specs.Lists.{if_there, with_deed}
use Rattle.buffer_kit.specs.Virtualising.{from_queues, to_queues}
use Rattle.buffer_kit.proofs.ManyClients.{none_if}
use Rattle.i2c_virt.specs.Works.{wants_at}
use Rattle.i2c_virt.proofs.Ordering.{order_still, order_longer, not_taken, taken_from}
use Rattle.i2c_virt.proofs.Working.{wanted_there, open_there}
use Rattle.i2c_virt.proofs.Stepping.{still, moved, request_in, free_from}
use Rattle.i2c_virt.proofs.virtualiser.I2cVirt.step_request.Goals as goal

pub returns-in_default-clause-stepped : goal.returns-in_default-clause-stepped
returns-in_default-clause-stepped g c =
    let v = c.args.self.now in
    let e = c.step_from.new.event in
    record {
      body = option_map (λ x. x.1) c.step_from.new.got;
      happened = c.step_from.ensures.did;
      kept = λ passed h. moved v.ends c.step_from.new.ends c.step_from.ensures.same v.work (with_deed passed (deed_of e c.step_from.new.got))
          (still v.ends.input.queue.0 v.ends.output.queue.0 (from_queues v.ends) (to_queues v.ends) v.work v.work passed _ _ _ h
          (λ n. c.step_from.ensures.takes n ∙ (ap (λ (o : Option Cargo). if_there (e.queue.0 == n) (option_to_list o)) c.in_default.is ∙ none_if (e.queue.0 == n))) c.step_from.ensures.puts
          (order_still (from_queues v.ends) passed.calls e (not_taken (from_queues v.ends) e (λ take. let some = c.step_from.ensures.taken.1 take in let no : false ≡ true = ap (λ (o : Option Cargo). is_some o) (sym c.in_default.is) ∙ some in cc))));
    }

pub returns-in-Some-clause-stepped : goal.returns-in-Some-clause-stepped
returns-in-Some-clause-stepped g c =
    let v = c.args.self.now in
    let e = c.step_from.new.event in
    let k = c.args.place in
    let fit = c.requires.fits.ends_fit in
    let some = ap (λ (o : Option Cargo). is_some o) c.in-Some.is in
    let wants : wants_at v.work k ≡ true = sym c.wants-wants.ensures ∙ c.step_from.ensures.needed some in
    let free = free_from v.work.stray _ wants in
    let at = c.step_from.ensures.on in
    let there = c.requires.there in
    let many = c.requires.fits.from_each in
    record {
      body = option_map (λ x. x.1) c.step_from.new.got;
      happened = c.step_from.ensures.did;
      kept = λ passed h. moved v.ends c.step_from.new.ends c.step_from.ensures.same c.request.new.self (with_deed passed (deed_of e c.step_from.new.got))
          (request_in v.ends.input.queue.0 v.ends.output.queue.0 (from_queues v.ends) (to_queues v.ends) v.work c.request.new.self passed _ _ _ h free c.request.ensures.work k e.queue c.in-Some.entry at fit.from_clients.apart (fit.inputs_apart k e.queue at) many (omega (arith, there, many)) (open_there v.work k wants)
          (λ n. c.step_from.ensures.takes n ∙ ap (λ (o : Option Cargo). if_there (e.queue.0 == n) (option_to_list o)) c.in-Some.is) c.step_from.ensures.puts
          (order_longer (from_queues v.ends) passed.calls e _ (taken_from (from_queues v.ends) e k fit.from_clients.apart at (c.step_from.ensures.taken.0 some)))
          c.request.ensures.same c.request.ensures.asked);
    }
