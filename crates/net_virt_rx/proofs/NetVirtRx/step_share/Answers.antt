use Rattle.std.proofs.Common.{◌≡◌, ◌+◌, ◌==◌, ◌++◌, Bool, Option, None, List, [], ◌∷◌, is_some, true, false, length, slice_set, slice_index_or, sym, ap, ◌∙◌, subst, refl}
use Rattle.std.specs.Option.{option_map, option_to_list}
use Rattle.std.proofs.lemmas.Bool.{cases_eq}
use Rattle.cargo_core.specs.Bodies.{buffers_of}
use Rattle.wire_core.specs.Deeds.{put_of, deed_of, Cargo}
use Rattle.wire_core.specs.Lists.{if_there, with_deed}
use Rattle.turn_kit.specs.Turns.{PostedAt}
use Rattle.buffer_kit.specs.Virtualising.{from_queues, to_queues, virt_posts}
use Rattle.net_virt_rx.specs.declared.sharer.Sharer.{Sharer}
use Rattle.net_virt_rx.specs.Sharing.{IsSharer, owed_lease, sharer_hand}
use Rattle.net_virt_rx.proofs.Steps.{still, moved, none_if, puts_none, is_nothing, is_something, load_stays, load_gone, shared_work, owes_some, owed_after, ready_list, lease_hand, lease_out}
use Rattle.net_virt_rx.proofs.NetVirtRx.step_share.Goals as goal

pub returns-then-not-has-clause-stepped : goal.returns-then-not-has-clause-stepped
returns-then-not-has-clause-stepped g c = record {
  body = option_map (λ x. x.1) (put_of c.step_to_client.result None);
  happened = c.step_to_client.ensures.did;
  kept = λ passed h. still c.args.self.now.ends c.step_to_client.new.self c.step_to_client.ensures.same c.args.self.now.work c.args.self.now.work refl passed _ _ _ c.step_to_client.ensures.takes (λ n. c.step_to_client.ensures.puts n ∙ puts_none c.step_to_client.result c.step_to_client.result.queue.0 n) h;
}

work : (g : _) (c : goal.After-remove g) → IsSharer (record c.args.self.now.work { ready = c.step_to_client-event.new.load; owed = c.remove.new.self })
work g c = subst (λ o. IsSharer (record c.args.self.now.work { ready = c.step_to_client-event.new.load; owed = o })) (sym c.remove.ensures) (shared_work c.args.self.now.work c.requires.fits.work c.args.client (sym c.has.ensures ∙ c.if-not-has.false) c.step_to_client-event.new.load (is_nothing c.step_to_client-event.new.load c.is_none.result c.is_none.ensures c.if-is_none.true))

pub returns-then-is_none-clause-fits : goal.returns-then-is_none-clause-fits
returns-then-is_none-clause-fits g c = record {
  ends_fit = c.step_to_client-event.ensures.fits;
  work = work g c;
  from_each = rw c.step_to_client-event.ensures.same.from_clients c.requires.fits.from_each;
  to_each = rw c.step_to_client-event.ensures.same.to_clients c.requires.fits.to_each;
}

pub returns-then-is_none-clause-posted : goal.returns-then-is_none-clause-posted
returns-then-is_none-clause-posted g c =
    let mine : slice_index_or c.args.self.now.work.owed c.args.client false ≡ true = sym c.has.ensures ∙ c.if-not-has.false in
    let loaded : is_some c.args.self.now.work.ready ≡ true = c.requires.ready (owes_some c.args.self.now.work c.args.client mine) in
    subst (λ b. PostedAt (virt_posts c.args.self.now.ends) (2 + length (from_queues c.args.self.now.ends) + c.args.client) b c.step_to_client-event.result (virt_posts c.step_to_client-event.new.self)) (loaded ∙ sym mine) c.step_to_client-event.ensures.posted

pub returns-then-is_none-clause-still : goal.returns-then-is_none-clause-still
returns-then-is_none-clause-still g c = λ m.
    let mine : slice_index_or c.args.self.now.work.owed c.args.client false ≡ true = sym c.has.ensures ∙ c.if-not-has.false in
    let loaded : is_some c.args.self.now.work.ready ≡ true = c.requires.ready (owes_some c.args.self.now.work c.args.client mine) in
    let gone = is_nothing c.step_to_client-event.new.load c.is_none.result c.is_none.ensures c.if-is_none.true in
    let same : c.step_to_client-event.new.load ≡ c.args.self.now.work.ready = c.step_to_client-event.ensures.still m in
    let no_such : is_some {T = Cargo} None ≡ true = ap is_some (sym gone ∙ same) ∙ loaded in
    absurd cc

pub returns-then-is_none-clause-stepped : goal.returns-then-is_none-clause-stepped
returns-then-is_none-clause-stepped g c =
    let w = c.args.self.now.work in
    let mine : slice_index_or c.args.self.now.work.owed c.args.client false ≡ true = sym c.has.ensures ∙ c.if-not-has.false in
    let owes = owes_some w c.args.client mine in
    let gone = is_nothing c.step_to_client-event.new.load c.is_none.result c.is_none.ensures c.if-is_none.true in
    let p = put_of c.step_to_client-event.result c.args.self.now.work.ready in
    let list : option_to_list p ≡ owed_lease w ∷ [] = load_gone w.ready p c.step_to_client-event.new.load c.step_to_client-event.ensures.load gone ∙ ready_list w.ready (owed_lease w) (c.requires.ready owes) (λ y at. (c.requires.fits.work.ready y at).1) in
    let w' : Sharer = record c.args.self.now.work { ready = c.step_to_client-event.new.load; owed = slice_set c.args.self.now.work.owed c.args.client false } in
    record {
      body = option_map (λ x. x.1) p;
      happened = c.step_to_client-event.ensures.did;
      kept = λ passed h. moved c.args.self.now.ends c.step_to_client-event.new.self c.step_to_client-event.ensures.same (record c.args.self.now.work { ready = c.step_to_client-event.new.load; owed = c.remove.new.self }) (with_deed passed (deed_of c.step_to_client-event.result p))
          (lease_out c.args.self.now.ends.input.queue.0 c.args.self.now.ends.output.queue.0 (from_queues c.args.self.now.ends) (to_queues c.args.self.now.ends) w (record c.args.self.now.work { ready = c.step_to_client-event.new.load; owed = c.remove.new.self }) (record { stock = record { same_pool = refl; buffers = refl; base = refl; size = refl }; macs = refl }) (work g c) passed _ _ _ h (owed_lease w ∷ []) c.requires.fits.to_each c.step_to_client-event.ensures.takes
          (c.requires.fits.work.owing owes).stray refl refl (λ pool. lease_hand pool w (buffers_of pool (sharer_hand w))) (λ b j. refl)
          c.args.client c.step_to_client-event.result.queue c.step_to_client-event.ensures.on c.requires.fits.ends_fit.to_clients.apart (c.requires.fits.ends_fit.outputs_apart c.args.client c.step_to_client-event.result.queue c.step_to_client-event.ensures.on)
          (λ j. ap (λ (o : List Bool). if_there (c.args.client == j) (owed_lease w ∷ []) ++ if_there (slice_index_or o j false) (owed_lease w ∷ [])) c.remove.ensures ∙ owed_after w c.step_to_client-event.new.load c.args.client mine j (cases_eq c.args.client j)) refl
          (λ n. c.step_to_client-event.ensures.puts n ∙ ap (λ l. if_there (c.step_to_client-event.result.queue.0 == n) l) list));
    }

pub returns-else-is_none-clause-stepped : goal.returns-else-is_none-clause-stepped
returns-else-is_none-clause-stepped g c =
    let some = is_something c.step_to_client-event.new.load c.is_none.result c.is_none.ensures c.if-is_none.false in
    let s = load_stays c.args.self.now.work.ready (put_of c.step_to_client-event.result c.args.self.now.work.ready) c.step_to_client-event.new.load c.step_to_client-event.ensures.load some in
    record {
      body = option_map (λ x. x.1) (put_of c.step_to_client-event.result c.args.self.now.work.ready);
      happened = c.step_to_client-event.ensures.did;
      kept = λ passed h. still c.args.self.now.ends c.step_to_client-event.new.self c.step_to_client-event.ensures.same c.args.self.now.work (record c.args.self.now.work { ready = c.step_to_client-event.new.load })
          (ap (λ (n : Option Cargo). record c.args.self.now.work { ready = n }) s.0) passed _ _ _ c.step_to_client-event.ensures.takes (λ n. c.step_to_client-event.ensures.puts n ∙ (ap (λ l. if_there (c.step_to_client-event.result.queue.0 == n) l) s.1 ∙ none_if (c.step_to_client-event.result.queue.0 == n))) h;
    }
