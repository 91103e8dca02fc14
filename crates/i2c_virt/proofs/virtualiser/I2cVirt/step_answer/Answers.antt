use Rattle.std.proofs.Common.{◌≡◌, ◌==◌, ◌+◌, length, true, is_some, None, Option, refl, sym, ap, ◌∙◌, subst}
use Rattle.std.specs.Option.{option_map, option_to_list}
use Rattle.wire_core.specs.Deeds.{Cargo, deed_of, put_of}
use Rattle.wire_core.specs.Lists.{if_there, with_deed}
use Rattle.turn_kit.specs.Turns.{PostedAt}
use Rattle.buffer_kit.specs.Virtualising.{from_queues, to_queues, virt_posts}
use Rattle.i2c_virt.specs.declared.desk.Desk.{Desk}
use Rattle.buffer_kit.proofs.ManyClients.{none_if}
use Rattle.i2c_virt.proofs.Ordering.{order_still, put_takes_none}
use Rattle.i2c_virt.proofs.Working.{gives_there, held_kind, gave_work, gave_log, as_many}
use Rattle.i2c_virt.proofs.Stepping.{still, moved, nothing_put, client_out, free_from, fits_same}
use Rattle.i2c_virt.proofs.virtualiser.I2cVirt.step_answer.Goals as goal

pub returns-then-not-gives-clause-stepped : goal.returns-then-not-gives-clause-stepped
returns-then-not-gives-clause-stepped g c =
    let v = c.args.self.now in
    let e = c.step_to.new.event in
    record {
      body = option_map (λ x. x.1) (put_of e None);
      happened = c.step_to.ensures.did;
      kept = λ passed h. moved v.ends c.step_to.new.ends c.step_to.ensures.same v.work (with_deed passed (deed_of e (put_of e None)))
          (still v.ends.input.queue.0 v.ends.output.queue.0 (from_queues v.ends) (to_queues v.ends) v.work v.work passed _ _ _ h c.step_to.ensures.takes
          (λ n. c.step_to.ensures.puts n ∙ (ap (λ (o : Option Cargo). if_there (e.queue.0 == n) (option_to_list o)) (nothing_put e) ∙ none_if (e.queue.0 == n)))
          (order_still (from_queues v.ends) passed.calls e (put_takes_none (from_queues v.ends) e c.step_to.ensures.role)));
    }

pub step_to-requires-2-clause-kind : goal.step_to-requires-2-clause-kind
step_to-requires-2-clause-kind g c =
    let v = c.args.self.now in
    let x = c.index_mut-desk.result.now in
    held_kind v.work c.args.place x c.requires.fits.work (gives_there v.work c.args.place x (sym c.gives.ensures ∙ c.if-not-gives.false) c.index_mut-desk.ensures.value).0

pub returns-clause-fits : goal.returns-clause-fits
returns-clause-fits g c =
    let v = c.args.self.now in
    let x = c.index_mut-desk.result.now in
    let e = c.step_to-2.ensures in
    let t = gives_there v.work c.args.place x (sym c.gives.ensures ∙ c.if-not-gives.false) c.index_mut-desk.ensures.value in
    let now : Desk = record x { held = c.step_to-2.new.load } in
    fits_same _ _ v _ c.requires.fits e.fits e.same
    (gave_work v.work _ c.args.place x now t.0 refl c.requires.fits.work c.step_to-2.new.load _ refl e.load refl)
    (as_many v.work.desks.items _ c.args.place x now t.0 refl)

pub returns-clause-posted : goal.returns-clause-posted
returns-clause-posted g c =
    let v = c.args.self.now in
    let x = c.index_mut-desk.result.now in
    let gives = sym c.gives.ensures ∙ c.if-not-gives.false in
    let t = gives_there v.work c.args.place x gives c.index_mut-desk.ensures.value in
    subst (λ b. PostedAt (virt_posts v.ends) (2 + length (from_queues v.ends) + c.args.place) b c.step_to-2.new.event (virt_posts c.step_to-2.new.ends)) (t.1 ∙ sym gives) c.step_to-2.ensures.posted

pub returns-clause-stepped : goal.returns-clause-stepped
returns-clause-stepped g c =
    let v = c.args.self.now in
    let x = c.index_mut-desk.result.now in
    let k = c.args.place in
    let e = c.step_to-2.new.event in
    let n = c.step_to-2.ensures in
    let fit = c.requires.fits.ends_fit in
    let gives = sym c.gives.ensures ∙ c.if-not-gives.false in
    let t = gives_there v.work k x gives c.index_mut-desk.ensures.value in
    let now : Desk = record x { held = c.step_to-2.new.load } in
    let p = put_of e x.held in
    record {
      body = option_map (λ y. y.1) p;
      happened = n.did;
      kept = λ passed h. moved v.ends c.step_to-2.new.ends n.same _ (with_deed passed (deed_of e p))
          (client_out v.ends.input.queue.0 v.ends.output.queue.0 (from_queues v.ends) (to_queues v.ends) v.work _ passed _ _ _ h (free_from v.work.stray _ gives)
          (gave_work v.work _ k x now t.0 refl c.requires.fits.work c.step_to-2.new.load (option_to_list p) refl n.load refl) (option_to_list p) refl n.takes
          (order_still (from_queues v.ends) passed.calls e (put_takes_none (from_queues v.ends) e n.role)) (as_many v.work.desks.items _ k x now t.0 refl) k e.queue n.on fit.to_clients.apart (fit.outputs_apart k e.queue n.on) c.requires.fits.to_each n.puts
          (gave_log v.work _ k x now t.0 refl c.requires.fits.work c.step_to-2.new.load (option_to_list p) refl n.load refl));
    }
