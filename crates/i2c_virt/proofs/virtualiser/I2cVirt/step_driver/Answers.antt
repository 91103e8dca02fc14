use Rattle.std.proofs.Common.{◌≡◌, ◌==◌, true, is_some, None, Option, refl, sym, ap, ◌∙◌, subst}
use Rattle.std.specs.Option.{option_map, option_to_list}
use Rattle.wire_core.specs.Deeds.{Cargo, deed_of, put_of}
use Rattle.wire_core.specs.Lists.{if_there, with_deed}
use Rattle.turn_kit.specs.Turns.{PostedAt}
use Rattle.buffer_kit.specs.Virtualising.{from_queues, to_queues, virt_posts}
use Rattle.i2c_virt.specs.declared.desk.Desk.{Desk}
use Rattle.buffer_kit.proofs.ManyClients.{none_if}
use Rattle.i2c_virt.proofs.Ordering.{order_still, put_takes_none}
use Rattle.i2c_virt.proofs.Working.{leaving_there, leaving_kind, sent_work, sent_log, as_many}
use Rattle.i2c_virt.proofs.Stepping.{still, moved, nothing_put, driver_out, free_from, fits_same}
use Rattle.i2c_virt.proofs.virtualiser.I2cVirt.step_driver.Goals as goal

pub returns-in-None-clause-stepped : goal.returns-in-None-clause-stepped
returns-in-None-clause-stepped g c =
    let v = c.args.self.now in
    let e = c.step_output.new.event in
    record {
      body = option_map (λ x. x.1) (put_of e None);
      happened = c.step_output.ensures.did;
      kept = λ passed h. moved v.ends c.step_output.new.ends c.step_output.ensures.same v.work (with_deed passed (deed_of e (put_of e None)))
          (still v.ends.input.queue.0 v.ends.output.queue.0 (from_queues v.ends) (to_queues v.ends) v.work v.work passed _ _ _ h c.step_output.ensures.takes
          (λ n. c.step_output.ensures.puts n ∙ (ap (λ (o : Option Cargo). if_there (v.ends.output.queue.0 == n) (option_to_list o)) (nothing_put e) ∙ none_if (v.ends.output.queue.0 == n)))
          (order_still (from_queues v.ends) passed.calls e (put_takes_none (from_queues v.ends) e c.step_output.ensures.role)));
    }

pub step_output-requires-in-Some-clause-kind : goal.step_output-requires-in-Some-clause-kind
step_output-requires-in-Some-clause-kind g c =
    let v = c.args.self.now in
    let x = c.index_mut-desk.result.now in
    leaving_kind v.work c.in-Some.place x c.requires.work (leaving_there v.work c.in-Some.place x c.in-Some.ensures.1 c.index_mut-desk.ensures.value).0

pub returns-in-Some-clause-fits : goal.returns-in-Some-clause-fits
returns-in-Some-clause-fits g c =
    let v = c.args.self.now in
    let x = c.index_mut-desk.result.now in
    let e = c.step_output-in-Some.ensures in
    let t = leaving_there v.work c.in-Some.place x c.in-Some.ensures.1 c.index_mut-desk.ensures.value in
    let now : Desk = record x { leaving = c.step_output-in-Some.new.load } in
    fits_same _ _ v _ c.requires e.fits e.same
    (sent_work v.work _ c.in-Some.place x now t.0 refl c.requires.work c.step_output-in-Some.new.load _ refl e.load refl)
    (as_many v.work.desks.items _ c.in-Some.place x now t.0 refl)

pub returns-in-Some-clause-posted : goal.returns-in-Some-clause-posted
returns-in-Some-clause-posted g c =
    let v = c.args.self.now in
    let x = c.index_mut-desk.result.now in
    let t = leaving_there v.work c.in-Some.place x c.in-Some.ensures.1 c.index_mut-desk.ensures.value in
    subst (λ b. PostedAt (virt_posts v.ends) 1 b c.step_output-in-Some.new.event (virt_posts c.step_output-in-Some.new.ends)) (t.1 ∙ sym c.in-Some.ensures.0) c.step_output-in-Some.ensures.posted

pub returns-in-Some-clause-stepped : goal.returns-in-Some-clause-stepped
returns-in-Some-clause-stepped g c =
    let v = c.args.self.now in
    let x = c.index_mut-desk.result.now in
    let e = c.step_output-in-Some.new.event in
    let n = c.step_output-in-Some.ensures in
    let fit = c.requires.ends_fit in
    let t = leaving_there v.work c.in-Some.place x c.in-Some.ensures.1 c.index_mut-desk.ensures.value in
    let now : Desk = record x { leaving = c.step_output-in-Some.new.load } in
    let p = put_of e x.leaving in
    record {
      body = option_map (λ y. y.1) p;
      happened = n.did;
      kept = λ passed h. moved v.ends c.step_output-in-Some.new.ends n.same _ (with_deed passed (deed_of e p))
          (driver_out v.ends.input.queue.0 v.ends.output.queue.0 (from_queues v.ends) (to_queues v.ends) v.work _ passed _ _ _ h (free_from v.work.stray _ c.in-Some.ensures.0)
          (sent_work v.work _ c.in-Some.place x now t.0 refl c.requires.work c.step_output-in-Some.new.load (option_to_list p) refl n.load refl) (option_to_list p) refl n.takes
          (order_still (from_queues v.ends) passed.calls e (put_takes_none (from_queues v.ends) e n.role)) (as_many v.work.desks.items _ c.in-Some.place x now t.0 refl) fit.outputs_apart c.requires.to_each n.puts
          (sent_log v.work _ c.in-Some.place x now t.0 refl c.requires.work c.step_output-in-Some.new.load (option_to_list p) refl n.load refl));
    }
