use Rattle.std.proofs.Common.{◌≡◌, ◌==◌, ◌&&◌, ℕ, zero, suc, Bool, true, false, Some, slice_get, refl, sym, ap, ◌∙◌}
use Rattle.wire_core.specs.Ends.{Consumer, Producer, role_of, waiting_role}
use Rattle.wire_core.specs.Marks.{is_vain_look, is_role}
use Rattle.turn_kit.proofs.Roles.{role_posted}
use Rattle.wire_core.specs.Fates.{is_vain_at}
use Rattle.wire_core.proofs.Readings.{and_no_right, at_here, vain_out, vain_other}
use Rattle.wire_core.specs.declared.names.Event.{Event}
use Rattle.turn_kit.specs.Turns.{Post, Turned, Posted, is_drop, is_mark_at, choice_of, chosen_place, last_after}
use Rattle.turn_kit.specs.Posts.{intake_post, outlet_post}
use Rattle.net_copier.specs.declared.NetCopier.{NetCopier}
use Rattle.net_copier.specs.Copying.{SameWork, buffer_post, copier_round, is_wanting}

-- a call where buffers come is a turn
pub buffer_turned : (c m n : NetCopier) (e : Event) → m ≡ record c { turn = record { last = last_after (choice_of (copier_round c)) } } → 1 ≡ chosen_place (choice_of (copier_round c))
    → Posted (buffer_post m) (is_wanting m) e (buffer_post n) → (is_mark_at (buffer_post m) e ≡ false → SameWork m n)
    → n ≡ record m { buffer_input = n.buffer_input; buffer = n.buffer; stage = n.stage } → Turned (copier_round c) e (copier_round n)
buffer_turned c m n e after chosen posted still others =
    let l1 = ap (λ x. x.lease_input) others ∙ ap (λ x. x.lease_input) after in
    let l2 = ap (λ x. x.buffer_output) others ∙ ap (λ x. x.buffer_output) after in
    let l3 = ap (λ x. x.lease_output) others ∙ ap (λ x. x.lease_output) after in
    let lt = ap (λ x. x.turn.last) others ∙ ap (λ x. x.turn.last) after in
    let pm = ap buffer_post after in
    let wm = ap is_wanting after in
    record {
      place = 1;
      need = is_wanting c;
      is_chosen = chosen;
      needed = refl;
      posted = record {
        post = buffer_post c;
        moved = buffer_post n;
        there = refl;
        posted = subst2 posted pm wm;
        after = rw (l1, l2, l3) refl;
      };
      needs = λ no. let w = still (ap (λ p. is_mark_at p e) pm ∙ no) in
          rw (w.lease ∙ ap (λ x. x.lease) after, w.stage ∙ ap (λ x. x.stage) after, w.buffer ∙ ap (λ x. x.buffer) after) refl;
      size = refl;
      last = lt;
    }
  where
    subst2 : Posted (buffer_post m) (is_wanting m) e (buffer_post n) → buffer_post m ≡ buffer_post c → is_wanting m ≡ is_wanting c → Posted (buffer_post c) (is_wanting c) e (buffer_post n)
    subst2 p pm wm = rw (sym pm, sym wm) p

some_eq : {X : Type 0} {a b : X} → Some a ≡ Some b → a ≡ b
some_eq h = cc

whole : (v r q : Bool) → r ≡ true → q ≡ true → v ≡ (v && (r && q))
whole true true true er eq = refl
whole false true true er eq = refl
whole v false q er eq = cc
whole v true false er eq = cc

drop_at : (c : NetCopier) (e : Event) (place : ℕ) (need : Bool) (p q : Post) → (c.lease_input.queue.0 ≡ c.buffer_input.queue.0 → ⊥) → slice_get (copier_round c).posts place ≡ Some p → Posted p need e q → is_drop p e ≡ (c.drops && is_vain_at Consumer c.buffer_input.queue.0 e)
drop_at c e zero need p q apart there h =
    let is : intake_post c.lease_input ≡ p = some_eq there in
    let none : is_drop p e ≡ false = ap (λ x. is_drop x e) (sym is) in
    let on : e.queue.0 ≡ c.lease_input.queue.0 = h.queue ∙ ap (λ (x : Post). x.queue) (sym is) in
    none ∙ sym (and_no_right c.drops (is_vain_at Consumer c.buffer_input.queue.0 e) (vain_other c.buffer_input.queue.0 e (λ r. apart (sym on ∙ r))))
drop_at c e (suc zero) need p q apart there h =
    let is : buffer_post c ≡ p = some_eq there in
    let on : e.queue.0 ≡ c.buffer_input.queue.0 = h.queue ∙ ap (λ (x : Post). x.queue) (sym is) in
    let role : role_of e.op ≡ Consumer = role_posted p q need e h ∙ ap (λ (x : Post). waiting_role x.side) (sym is) in
    ap (λ x. is_drop x e) (sym is) ∙ ap (λ v. c.drops && v) (whole (is_vain_look e.op e.answer) (is_role (role_of e.op) Consumer) (e.queue.0 == c.buffer_input.queue.0) (rw role refl) (at_here e.queue.0 c.buffer_input.queue.0 on))
drop_at c e (suc (suc zero)) need p q apart there h =
    let is : outlet_post c.buffer_output ≡ p = some_eq there in
    let role : role_of e.op ≡ Producer = role_posted p q need e h ∙ ap (λ (x : Post). waiting_role x.side) (sym is) in
    ap (λ x. is_drop x e) (sym is) ∙ sym (and_no_right c.drops (is_vain_at Consumer c.buffer_input.queue.0 e) (vain_out c.buffer_input.queue.0 e role))
drop_at c e (suc (suc (suc zero))) need p q apart there h =
    let is : outlet_post c.lease_output ≡ p = some_eq there in
    let role : role_of e.op ≡ Producer = role_posted p q need e h ∙ ap (λ (x : Post). waiting_role x.side) (sym is) in
    ap (λ x. is_drop x e) (sym is) ∙ sym (and_no_right c.drops (is_vain_at Consumer c.buffer_input.queue.0 e) (vain_out c.buffer_input.queue.0 e role))
drop_at c e (suc (suc (suc (suc k)))) need p q apart there h = cc

-- a turn is a drop where a look for a buffer was in vain
pub drop_turn : (c n : NetCopier) (e : Event) → (c.lease_input.queue.0 ≡ c.buffer_input.queue.0 → ⊥) → (t : Turned (copier_round c) e (copier_round n)) → is_drop t.posted.post e ≡ (c.drops && is_vain_at Consumer c.buffer_input.queue.0 e)
drop_turn c n e apart t = drop_at c e t.place t.need t.posted.post t.posted.moved apart t.posted.there t.posted.posted
