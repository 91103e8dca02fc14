use Rattle.std.proofs.Common.{◌≡◌, ◌==◌, ◌&&◌, ℕ, zero, suc, Bool, true, false, Some, slice_get, refl, sym, ap, ◌∙◌}
use Rattle.wire_core.specs.declared.names.Event.{Event}
use Rattle.wire_core.specs.Ends.{Consumer, Producer, role_of, waiting_role}
use Rattle.wire_core.specs.Marks.{is_vain_look, is_role}
use Rattle.wire_core.specs.Fates.{is_vain_at}
use Rattle.wire_core.proofs.Readings.{and_no_right, at_here, vain_out, vain_other}
use Rattle.turn_kit.specs.Turns.{Post, Turned, Posted, is_drop, is_mark_at, choice_of, chosen_place, last_after}
use Rattle.turn_kit.specs.Posts.{intake_post, outlet_post}
use Rattle.turn_kit.proofs.Roles.{role_posted}
use Rattle.turn_kit.proofs.Dropped.{some_same}
use Rattle.device_model.specs.declared.ethernet.EthDevice.{EthDevice}
use Rattle.device_model.specs.Ethernet.Devices.{free_post, device_round, is_filling}

-- a call where free buffers come is a turn
pub free_turned : (d m n : EthDevice) (e : Event) → m ≡ record d { turn = record { last = last_after (choice_of (device_round d)) } } → 0 ≡ chosen_place (choice_of (device_round d))
    → Posted (free_post m) (is_filling m) e (free_post n) → (is_mark_at (free_post m) e ≡ false → n.load ≡ m.load) → (is_mark_at (free_post m) e ≡ false → n.next ≡ m.next)
    → n ≡ record m { free = n.free; load = n.load; next = n.next } → Turned (device_round d) e (device_round n)
free_turned d m n e after chosen posted still stays others =
    let l1 = ap (λ x. x.active) others ∙ ap (λ x. x.active) after in
    let l2 = ap (λ x. x.wire) others ∙ ap (λ x. x.wire) after in
    let l3 = ap (λ x. x.frames) others ∙ ap (λ x. x.frames) after in
    let lt = ap (λ x. x.turn.last) others ∙ ap (λ x. x.turn.last) after in
    let pm = ap free_post after in
    let wm = ap is_filling after in
    record {
      place = 0;
      need = is_filling d;
      is_chosen = chosen;
      needed = refl;
      posted = record { post = free_post d; moved = free_post n; there = refl; posted = moved posted pm wm; after = rw (l1, l2) refl };
      needs = λ no. let f = ap (λ p. is_mark_at p e) pm ∙ no in
          rw (still f ∙ ap (λ x. x.load) after, stays f ∙ ap (λ x. x.next) after, l2, l3) refl;
      size = refl;
      last = lt;
    }
  where
    moved : Posted (free_post m) (is_filling m) e (free_post n) → free_post m ≡ free_post d → is_filling m ≡ is_filling d → Posted (free_post d) (is_filling d) e (free_post n)
    moved p pm wm = rw (sym pm, sym wm) p

whole : (v r q : Bool) → r ≡ true → q ≡ true → v ≡ (v && (r && q))
whole true true true er eq = refl
whole false true true er eq = refl
whole v false q er eq = cc
whole v true false er eq = cc

drop_at : (d : EthDevice) (e : Event) (place : ℕ) (need : Bool) (p q : Post) → (d.free.queue.0 ≡ d.wire.pipe.input.queue.0 → ⊥) → slice_get (device_round d).posts place ≡ Some p → Posted p need e q → is_drop p e ≡ (d.drops && is_vain_at Consumer d.free.queue.0 e)
drop_at d e zero need p q apart there h =
    let is : free_post d ≡ p = some_same there in
    let on : e.queue.0 ≡ d.free.queue.0 = h.queue ∙ ap (λ (x : Post). x.queue) (sym is) in
    let role : role_of e.op ≡ Consumer = role_posted p q need e h ∙ ap (λ (x : Post). waiting_role x.side) (sym is) in
    ap (λ x. is_drop x e) (sym is) ∙ ap (λ v. d.drops && v) (whole (is_vain_look e.op e.answer) (is_role (role_of e.op) Consumer) (e.queue.0 == d.free.queue.0) (rw role refl) (at_here e.queue.0 d.free.queue.0 on))
drop_at d e (suc zero) need p q apart there h =
    let is : outlet_post d.active ≡ p = some_same there in
    let role : role_of e.op ≡ Producer = role_posted p q need e h ∙ ap (λ (x : Post). waiting_role x.side) (sym is) in
    ap (λ x. is_drop x e) (sym is) ∙ sym (and_no_right d.drops (is_vain_at Consumer d.free.queue.0 e) (vain_out d.free.queue.0 e role))
drop_at d e (suc (suc zero)) need p q apart there h =
    let is : intake_post d.wire.pipe.input ≡ p = some_same there in
    let none : is_drop p e ≡ false = ap (λ x. is_drop x e) (sym is) in
    let on : e.queue.0 ≡ d.wire.pipe.input.queue.0 = h.queue ∙ ap (λ (x : Post). x.queue) (sym is) in
    none ∙ sym (and_no_right d.drops (is_vain_at Consumer d.free.queue.0 e) (vain_other d.free.queue.0 e (λ r. apart (sym r ∙ on))))
drop_at d e (suc (suc (suc zero))) need p q apart there h =
    let is : outlet_post d.wire.pipe.output ≡ p = some_same there in
    let role : role_of e.op ≡ Producer = role_posted p q need e h ∙ ap (λ (x : Post). waiting_role x.side) (sym is) in
    ap (λ x. is_drop x e) (sym is) ∙ sym (and_no_right d.drops (is_vain_at Consumer d.free.queue.0 e) (vain_out d.free.queue.0 e role))
drop_at d e (suc (suc (suc (suc k)))) need p q apart there h = cc

-- a turn is a drop where a look for a free buffer was in vain
pub drop_turn : (d n : EthDevice) (e : Event) → (d.free.queue.0 ≡ d.wire.pipe.input.queue.0 → ⊥) → (t : Turned (device_round d) e (device_round n)) → is_drop t.posted.post e ≡ (d.drops && is_vain_at Consumer d.free.queue.0 e)
drop_turn d n e apart t = drop_at d e t.place t.need t.posted.post t.posted.moved apart t.posted.there t.posted.posted
