use Rattle.std.proofs.Common.{◌≡◌, ◌==◌, ◌&&◌, ◌||◌, ℕ, zero, suc, Bool, true, false, Some, List, [], ◌∷◌, map, slice_get, refl, sym, ap, ◌∙◌}
use Rattle.std.proofs.lemmas.Bool.{ne_eqb}
use Rattle.wire_core.specs.declared.names.QueueId.{QueueId}
use Rattle.wire_core.specs.declared.names.Event.{Event}
use Rattle.wire_core.specs.Ends.{Consumer, Producer, role_of, waiting_role}
use Rattle.wire_core.specs.Marks.{is_vain_look, is_role}
use Rattle.wire_core.specs.Fates.{is_vain_at}
use Rattle.wire_core.proofs.Readings.{and_no_right, at_here}
use Rattle.turn_kit.specs.declared.ends.Outlet.{Outlet}
use Rattle.turn_kit.specs.Turns.{Post, Turned, Posted, is_drop}
use Rattle.turn_kit.specs.Posts.{intake_post, outlet_post}
use Rattle.turn_kit.specs.Dropping.{dropping, with_drops}
use Rattle.turn_kit.specs.ManyEnds.{AreApart, outlet_queues}
use Rattle.turn_kit.proofs.Roles.{role_posted}
use Rattle.serial_virt.specs.declared.rx.SerialVirtRx.{SerialVirtRx}
use Rattle.serial_virt.specs.Receiving.{rx_round}
use Rattle.serial_virt.specs.Shares.{is_byte_drop}

some_eq : {X : Type 0} {a b : X} → Some a ≡ Some b → a ≡ b
some_eq h = cc

abbrev queue_of : Outlet → QueueId
queue_of o = o.queue

-- a look in vain at one end is none at another queue's, nor at a consumer's
vain_beside : (n : ℕ) (e : Event) → (e.queue.0 ≡ n → ⊥) → is_vain_at Producer n e ≡ false
vain_beside n e other = and_no_right (is_vain_look e.op e.answer) (is_role (role_of e.op) Producer && (e.queue.0 == n)) (and_no_right (is_role (role_of e.op) Producer) (e.queue.0 == n) (ne_eqb e.queue.0 n other))

vain_intake : (n : ℕ) (e : Event) → role_of e.op ≡ Consumer → is_vain_at Producer n e ≡ false
vain_intake n e role = and_no_right (is_vain_look e.op e.answer) (is_role (role_of e.op) Producer && (e.queue.0 == n)) (rw role refl)

-- no drop among queues at each of which the look wasn't in vain
none_among : (qs : List QueueId) (ds : List Bool) (e : Event) → ((j : ℕ) (q : QueueId) → slice_get qs j ≡ Some q → is_vain_at Producer q.0 e ≡ false) → is_byte_drop qs ds e ≡ false
none_among [] ds e none = refl
none_among (q ∷ qs) [] e none = refl
none_among (q ∷ qs) (d ∷ ds) e none =
    let here = and_no_right d (is_vain_at Producer q.0 e) (none 0 q refl) in
    let rest = none_among qs ds e (λ j p at. none (suc j) p at) in
    rw (here, rest) refl

-- an end without a policy waits
waits_there : (os : List Outlet) (k : ℕ) (p : Post) (e : Event) → slice_get (map outlet_post os) k ≡ Some p → is_drop p e ≡ false
waits_there [] k p e at = cc
waits_there (o ∷ os) zero p e at = ap (λ x. is_drop x e) (sym (some_eq at))
waits_there (o ∷ os) (suc k) p e at = waits_there os k p e at

-- the queue of an end, whatever its policy
queue_there : (ds : List Bool) (os : List Outlet) (k : ℕ) (p : Post) → slice_get (with_drops ds (map outlet_post os)) k ≡ Some p → (q : QueueId) × (slice_get (map queue_of os) k ≡ Some q) × (p.queue ≡ q.0)
queue_there [] [] k p at = cc
queue_there (d ∷ ds) [] k p at = cc
queue_there [] (o ∷ os) zero p at = (o.queue, refl, ap (λ (x : Post). x.queue) (sym (some_eq at)))
queue_there [] (o ∷ os) (suc k) p at = queue_there [] os k p at
queue_there (d ∷ ds) (o ∷ os) zero p at = (o.queue, refl, ap (λ (x : Post). x.queue) (sym (some_eq at)))
queue_there (d ∷ ds) (o ∷ os) (suc k) p at = queue_there ds os k p at

producing : (ds : List Bool) (os : List Outlet) (k : ℕ) (p : Post) → slice_get (with_drops ds (map outlet_post os)) k ≡ Some p → waiting_role p.side ≡ Producer
producing [] [] k p at = cc
producing (d ∷ ds) [] k p at = cc
producing [] (o ∷ os) zero p at = ap (λ (x : Post). waiting_role x.side) (sym (some_eq at))
producing [] (o ∷ os) (suc k) p at = producing [] os k p at
producing (d ∷ ds) (o ∷ os) zero p at = ap (λ (x : Post). waiting_role x.side) (sym (some_eq at))
producing (d ∷ ds) (o ∷ os) (suc k) p at = producing ds os k p at

or_none : (b : Bool) → (b || false) ≡ b
or_none true = refl
or_none false = refl

and_none : (b : Bool) → (b && false) ≡ false
and_none true = refl
and_none false = refl

looks_so : (v r q : Bool) → r ≡ true → q ≡ true → (v && (r && q)) ≡ v
looks_so true true true er eq = refl
looks_so false r q er eq = refl
looks_so true false q er eq = cc
looks_so true true false er eq = cc

-- a call at a client's end is a drop where its look was in vain and its policy drops
drop_there : (ds : List Bool) (os : List Outlet) (k : ℕ) (p : Post) (e : Event) → AreApart (map queue_of os) → slice_get (with_drops ds (map outlet_post os)) k ≡ Some p → e.queue.0 ≡ p.queue → role_of e.op ≡ Producer → is_drop p e ≡ is_byte_drop (map queue_of os) ds e
drop_there [] [] k p e apart at on role = cc
drop_there (d ∷ ds) [] k p e apart at on role = cc
drop_there [] (o ∷ os) k p e apart at on role = waits_there (o ∷ os) k p e at
drop_there (d ∷ ds) (o ∷ os) zero p e apart at on role =
    let is : dropping d (outlet_post o) ≡ p = some_eq at in
    let here : e.queue.0 ≡ o.queue.0 = on ∙ ap (λ (x : Post). x.queue) (sym is) in
    let vain : is_vain_at Producer o.queue.0 e ≡ is_vain_look e.op e.answer = looks_so (is_vain_look e.op e.answer) (is_role (role_of e.op) Producer) (e.queue.0 == o.queue.0) (rw role refl) (at_here e.queue.0 o.queue.0 here) in
    let rest : is_byte_drop (map queue_of os) ds e ≡ false = none_among (map queue_of os) ds e (λ j q there. vain_beside q.0 e (λ same. differ (apart 0 (suc j) o.queue q refl there (sym here ∙ same)))) in
    ap (λ x. is_drop x e) (sym is) ∙ sym (rw (vain, rest) (or_none (d && is_vain_look e.op e.answer)))
  where
    differ : {j : ℕ} → 0 ≡ suc j → ⊥
    differ h = cc
drop_there (d ∷ ds) (o ∷ os) (suc k) p e apart at on role =
    let t = queue_there ds os k p at in
    let other : is_vain_at Producer o.queue.0 e ≡ false = vain_beside o.queue.0 e (λ same. differ (apart 0 (suc k) o.queue t.0 refl t.1 (sym same ∙ (on ∙ t.2)))) in
    let rest = drop_there ds os k p e (λ i j q r a b same. less (apart (suc i) (suc j) q r a b same)) at on role in
    rest ∙ sym (rw (other, and_none d) refl)
  where
    differ : {j : ℕ} → 0 ≡ suc j → ⊥
    differ h = cc

    less : {i j : ℕ} → suc i ≡ suc j → i ≡ j
    less h = cc

rx_drop : (v : SerialVirtRx) (e : Event) (place : ℕ) (need : Bool) (p q : Post) → AreApart (outlet_queues v.outputs) → slice_get (rx_round v).posts place ≡ Some p → Posted p need e q → is_drop p e ≡ is_byte_drop (outlet_queues v.outputs) v.drops.items e
rx_drop v e zero need p q apart there h =
    let is : intake_post v.input ≡ p = some_eq there in
    let role : role_of e.op ≡ Consumer = role_posted p q need e h ∙ ap (λ (x : Post). waiting_role x.side) (sym is) in
    ap (λ x. is_drop x e) (sym is) ∙ sym (none_among (outlet_queues v.outputs) v.drops.items e (λ j c at. vain_intake c.0 e role))
rx_drop v e (suc k) need p q apart there h =
    drop_there v.drops.items v.outputs.ends.items k p e apart there h.queue (role_posted p q need e h ∙ producing v.drops.items v.outputs.ends.items k p there)

-- a turn is a drop where a look for room was in vain and that client's policy drops
pub drop_turn : (v n : SerialVirtRx) (e : Event) → AreApart (outlet_queues v.outputs) → (t : Turned (rx_round v) e (rx_round n)) → is_drop t.posted.post e ≡ is_byte_drop (outlet_queues v.outputs) v.drops.items e
drop_turn v n e apart t = rx_drop v e t.place t.need t.posted.post t.posted.moved apart t.posted.there t.posted.posted
