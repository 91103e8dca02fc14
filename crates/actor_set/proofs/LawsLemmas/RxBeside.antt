-- What the calls of others are to a receiving virtualiser of the serial class: nothing.
use Rattle.std.proofs.Common.{◌≡◌, ◌==◌, ◌&&◌, ◌+◌, nat_lt, ℕ, Bool, true, false, cond, Some, List, [], ◌∷◌, ◌++◌, length, map, slice_get, refl, sym, ap, ◌∙◌, subst, arith}
use Rattle.std.specs.List.{filter}
use Rattle.std.proofs.lemmas.Bool.{and_parts, eqb-true}
use Rattle.std.proofs.lemmas.List.Concat.{flat_map-append}
use Rattle.wire_core.specs.declared.names.Event.{Event}
use Rattle.wire_core.specs.declared.names.Op.{Op}
use Rattle.wire_core.specs.declared.names.Op.TheVariants as Do
use Rattle.wire_core.specs.declared.names.QueueId.{QueueId}
use Rattle.wire_core.specs.Deeds.{Cargo}
use Rattle.wire_core.specs.Ends.{Role, Consumer, Producer, role_of}
use Rattle.wire_core.specs.Fates.{Word, Came, Served, Refused, Other, Fate, is_take_at, is_vain_at, noes_at, without}
use Rattle.wire_core.specs.Lists.{Passed, nothing_passed}
use Rattle.wire_core.specs.Queues.{is_store}
use Rattle.wire_core.proofs.Reasons.{fate_own}
use Rattle.turn_kit.specs.ManyEnds.{outlet_queues}
use Rattle.class_expect.specs.SerialSwitch.Carried.{byte_cargo, bytes_carried}
use Rattle.class_expect.specs.SerialSwitch.Standing.{StandsAfter}
use Rattle.class_expect.specs.SerialSwitch.Switching.{input_of}
use Rattle.serial_virt.specs.Shares.{Taker, is_put, is_put_at, byte_told, heard, serial_word, byte_fate, ClientStands}
use Rattle.serial_virt.specs.Receiving.{RxStandsFor, RxEnd, clients_of, policy_of, taker_of, owed_to}
use Rattle.serial_virt.specs.declared.rx.SerialVirtRx.{SerialVirtRx}
use Rattle.actor_set.specs.Actors.{ActsAlike}
use Rattle.actor_set.specs.declared.actor.Actor.TheVariants as Kinds
use Rattle.actor_set.proofs.LawsLemmas.OthersCalls.{false_unless, and_no, not_other, other_take, other_look, looks_own}

put_role : (o : Op) → is_put o ≡ true → (role_of o ≡ Producer) × (is_store o ≡ false)
put_role Do.Put h = (refl, refl)
put_role Do.Take h = cc
put_role Do.See h = cc
put_role Do.Room h = cc
put_role (Do.Ask s) h = cc
put_role (Do.Waive s) h = cc
put_role (Do.Wake s) h = cc
put_role (Do.Wanted s) h = cc
put_role (Do.Settle s) h = cc
put_role (Do.Ring s) h = cc
put_role (Do.Store w v) h = cc

-- a client stands as before where what its calls tell, what came and what went stay
same_client : (drops : Bool) (f g : Fate) (n m : ℕ) (xs ys : List ℕ) (s t owed : List Cargo) → g ≡ f → m ≡ n → ys ≡ xs → t ≡ s → ClientStands drops f n xs s owed → ClientStands drops g m ys t owed
same_client drops f g n m xs ys s t owed fates noes came went c =
    subst (λ (z : Fate). ClientStands drops z m ys t owed) (sym fates)
    (subst (λ (z : ℕ). ClientStands drops f z ys t owed) (sym noes)
    (subst (λ (z : List ℕ). ClientStands drops f n z t owed) (sym came)
    (subst (λ (z : List Cargo). ClientStands drops f n xs z owed) (sym went) c)))

module _ (v : SerialVirtRx) (own : Event → Bool) (others : (e : Event) → own e ≡ false → RxEnd v (role_of e.op) e.queue.0 → is_store e.op ≡ true) where
  abbrev rx : ℕ
  rx = v.input.queue.0

  no_take : (e : Event) → own e ≡ false → is_take_at rx e ≡ false
  no_take = other_take (RxEnd v) own others rx refl

  heard_own : (es : List Event) → heard rx es ≡ heard rx (filter own es)
  heard_own [] = refl
  heard_own (e ∷ es) = by (own e) refl (heard_own es)
    where
      by : (b : Bool) → own e ≡ b → heard rx es ≡ heard rx (filter own es) → heard rx (e ∷ es) ≡ heard rx (filter own (e ∷ es))
      by true o h = ap (λ bs. cond (is_take_at rx e) (byte_told e.item) [] ++ bs) h ∙ ap (λ b. heard rx (cond b (e ∷ filter own es) (filter own es))) (sym o)
      by false o h = ap (λ b. cond b (byte_told e.item) [] ++ heard rx es) (no_take e o) ∙ (h ∙ ap (λ b. heard rx (cond b (e ∷ filter own es) (filter own es))) (sym o))

  module _ (k : ℕ) (q : QueueId) (at : slice_get (outlet_queues v.outputs) k ≡ Some q) where
    no_put : (e : Event) → own e ≡ false → is_put_at q.0 e ≡ false
    no_put e not_own = false_unless (is_put_at q.0 e) (λ h.
        let p = and_parts (is_put e.op) (e.queue.0 == q.0) h in
        let r = put_role e.op p.0 in
        not_other (RxEnd v) own others Producer q.0 (k, q, at, refl) e not_own r.0 (eqb-true e.queue.0 q.0 p.1) r.1)

    no_vain : (e : Event) → own e ≡ false → is_vain_at Producer q.0 e ≡ false
    no_vain = other_look (RxEnd v) own others Producer q.0 (k, q, at, refl)

    noes_own : (es : List Event) → noes_at Producer q.0 es ≡ noes_at Producer q.0 (filter own es)
    noes_own = looks_own (RxEnd v) own others Producer q.0 (k, q, at, refl)

    abbrev t : Taker
    t = taker_of v k q

    -- what a call is by the bytes that were heard before
    abbrev word_by : List ℕ → Event → Word
    word_by bs e =
        cond (is_take_at rx e)
        (cond (nat_lt (length (input_of t.clients t.client bs)) (length (input_of t.clients t.client (bs ++ heard rx (e ∷ []))))) Came Other)
        (cond (is_put_at t.queue e) Served (cond (t.drops && is_vain_at Producer t.queue e) Refused Other))

    word_is : (before : List Event) (e : Event) → serial_word rx t before e ≡ word_by (heard rx before) e
    word_is before e = ap (λ bs.
        cond (is_take_at rx e)
        (cond (nat_lt (length (input_of t.clients t.client (heard rx before))) (length (input_of t.clients t.client bs))) Came Other)
        (cond (is_put_at t.queue e) Served (cond (t.drops && is_vain_at Producer t.queue e) Refused Other)))
        (flat_map-append (λ (f : Event). cond (is_take_at rx f) (byte_told f.item) []) before (e ∷ []))

    word_own : (before : List Event) (e : Event) → serial_word rx t before e ≡ serial_word rx t (filter own before) e
    word_own before e = word_is before e ∙ (ap (λ bs. word_by bs e) (heard_own before) ∙ sym (word_is (filter own before) e))

    silent : (before : List Event) (e : Event) → own e ≡ false → serial_word rx t before e ≡ Other
    silent before e not_own = rw (no_take e not_own, no_put e not_own, no_vain e not_own, and_no t.drops) refl

    fate_is : (es : List Event) → byte_fate rx t es ≡ byte_fate rx t (filter own es)
    fate_is es = fate_own (serial_word rx t) own silent word_own es

-- where its ends have the same lists, and it did the same by its calls, it stands for them
module _ (passed passed' : Passed) where
  pub stands_rx : (v : SerialVirtRx) → ActsAlike (Kinds.SerialVirtRx v) passed.calls passed'.calls → ((n : ℕ) → RxEnd v Consumer n → passed'.taken n ≡ passed.taken n) → ((n : ℕ) → RxEnd v Producer n → passed'.sent n ≡ passed.sent n) → RxStandsFor v passed → RxStandsFor v passed'
  stands_rx v same ins outs f = record {
    switched = rw (ins v.input.queue.0 refl) f.switched;
    to = f.to;
    told = λ k drops. rw (ins v.input.queue.0 refl) (sounds ∙ f.told k drops);
    clients = λ k q at. same_client (policy_of v k)
        (byte_fate v.input.queue.0 (taker_of v k q) passed.calls) (byte_fate v.input.queue.0 (taker_of v k q) passed'.calls)
        (noes_at Producer q.0 passed.calls) (noes_at Producer q.0 passed'.calls)
        (input_of (clients_of v) k (bytes_carried (passed.taken v.input.queue.0))) (input_of (clients_of v) k (bytes_carried (passed'.taken v.input.queue.0)))
        (passed.sent q.0) (passed'.sent q.0) (owed_to v.load v.to k)
        (fate_is v same.own same.others k q at passed'.calls ∙ (ap (byte_fate v.input.queue.0 (taker_of v k q)) same.same ∙ sym (fate_is v same.own same.others k q at passed.calls)))
        (noes_own v same.own same.others k q at passed'.calls ∙ (ap (noes_at Producer q.0) same.same ∙ sym (noes_own v same.own same.others k q at passed.calls)))
        (ap (λ cs. input_of (clients_of v) k (bytes_carried cs)) (ins v.input.queue.0 refl))
        (outs q.0 (k, q, at, refl))
        (f.clients k q at);
  }
    where
      sounds : heard v.input.queue.0 passed'.calls ≡ heard v.input.queue.0 passed.calls
      sounds = heard_own v same.own same.others passed'.calls ∙ (ap (heard v.input.queue.0) same.same ∙ sym (heard_own v same.own same.others passed.calls))

-- nothing is left of nothing
none_left : (bs : List Bool) → without {X = ℕ} bs [] ≡ []
none_left [] = refl
none_left (b ∷ bs) = refl

-- where nothing passed at its ends, nothing is owed, by whichever calls
pub rx_anew : (passed : Passed) (v : SerialVirtRx) → ((n : ℕ) → RxEnd v Consumer n → passed.taken n ≡ []) → ((n : ℕ) → RxEnd v Producer n → passed.sent n ≡ []) → RxStandsFor v passed → RxStandsFor v nothing_passed
rx_anew passed v ins outs f = record {
  switched = subst (λ cs. StandsAfter (clients_of v) (bytes_carried cs) v.switch) (ins v.input.queue.0 refl) f.switched;
  to = f.to;
  told = λ k drops. refl;
  clients = λ k q at.
      let gone = (byte_fate v.input.queue.0 (taker_of v k q) passed.calls).dropped in
      let given = (f.clients k q at).given in
      let none : passed.sent q.0 ++ owed_to v.load v.to k ≡ [] = given ∙ (ap (λ cs. map byte_cargo (without gone (input_of (clients_of v) k (bytes_carried cs)))) (ins v.input.queue.0 refl) ∙ ap (map byte_cargo) (none_left gone)) in
      let owed : owed_to v.load v.to k ≡ [] = sym (ap (λ cs. cs ++ owed_to v.load v.to k) (outs q.0 (k, q, at, refl))) ∙ none in
      record { given = owed; tells = λ drops. record { came = refl; waits = sym (ap length owed); each = refl } };
}
