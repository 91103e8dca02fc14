-- The order in which requests are taken goes on with each call.
use Rattle.std.proofs.Common.{◌≡◌, ◌↔◌, ◌+◌, ◌<◌, ◌==◌, ℕ, zero, suc, Bool, true, false, cond, Option, Some, None, is_some, IsSome, List, [], ◌∷◌, ◌++◌, length, flat_map, slice_get, refl, sym, ap, ◌∙◌, subst, arith, append-nil}
use Rattle.std.specs.Option.{option_to_list}
use Rattle.std.proofs.lemmas.Bool.{eq-eqb}
use Rattle.std.proofs.lemmas.Grind.{flat_map-append}
use Rattle.wire_core.specs.declared.names.Event.{Event}
use Rattle.wire_core.specs.declared.names.Op.{Op}
use Rattle.wire_core.specs.declared.names.Op.TheVariants as Do
use Rattle.wire_core.specs.declared.names.QueueId.{QueueId}
use Rattle.wire_core.specs.Ends.{Consumer, Producer, role_of}
use Rattle.wire_core.proofs.Sinces.{eqb_apart}
use Rattle.turn_kit.specs.ManyEnds.{AreApart}
use Rattle.i2c_virt.specs.Virtualising.{client_at, if_take, took_from, order_of}

order_more : (qs : List QueueId) (calls : List Event) (e : Event) → order_of qs (calls ++ e ∷ []) ≡ order_of qs calls ++ took_from qs e
order_more qs calls e = flat_map-append (took_from qs) calls (e ∷ []) ∙ ap (λ xs. order_of qs calls ++ xs) (append-nil (took_from qs e))

pub order_longer : (qs : List QueueId) (calls : List Event) (e : Event) (xs : List ℕ) → took_from qs e ≡ xs → order_of qs (calls ++ e ∷ []) ≡ order_of qs calls ++ xs
order_longer qs calls e xs is = order_more qs calls e ∙ ap (λ ys. order_of qs calls ++ ys) is

pub order_still : (qs : List QueueId) (calls : List Event) (e : Event) → took_from qs e ≡ [] → order_of qs (calls ++ e ∷ []) ≡ order_of qs calls
order_still qs calls e none = order_longer qs calls e [] none ∙ append-nil (order_of qs calls)

-- a call that isn't a take
no_take : (o : Op) (c : Option ℕ) → (o ≡ Do.Take → ⊥) → if_take o c ≡ []
no_take Do.Take c off = absurd (off refl)
no_take Do.Put c off = refl
no_take Do.See c off = refl
no_take Do.Room c off = refl
no_take (Do.Ask s) c off = refl
no_take (Do.Waive s) c off = refl
no_take (Do.Wake s) c off = refl
no_take (Do.Wanted s) c off = refl
no_take (Do.Settle s) c off = refl
no_take (Do.Ring s) c off = refl
no_take (Do.Store w v) c off = refl

pub not_taken : (qs : List QueueId) (e : Event) → (e.op ≡ Do.Take → ⊥) → took_from qs e ≡ []
not_taken qs e off = no_take e.op (client_at 0 qs e.queue.0) off

producing : (o : Op) → role_of o ≡ Producer → o ≡ Do.Take → ⊥
producing o role is = let no : Consumer ≡ Producer = sym (ap role_of is) ∙ role in cc

pub put_takes_none : (qs : List QueueId) (e : Event) → role_of e.op ≡ Producer → took_from qs e ≡ []
put_takes_none qs e role = not_taken qs e (producing e.op role)

-- a call at another queue
if_none : (o : Op) → if_take o None ≡ []
if_none Do.Take = refl
if_none Do.Put = refl
if_none Do.See = refl
if_none Do.Room = refl
if_none (Do.Ask s) = refl
if_none (Do.Waive s) = refl
if_none (Do.Wake s) = refl
if_none (Do.Wanted s) = refl
if_none (Do.Settle s) = refl
if_none (Do.Ring s) = refl
if_none (Do.Store w v) = refl

nobody : (n : ℕ) (qs : List QueueId) (queue : ℕ) → ((k : ℕ) (q : QueueId) → slice_get qs k ≡ Some q → q.0 ≡ queue → ⊥) → client_at n qs queue ≡ None
nobody n [] queue off = refl
nobody n (q ∷ qs) queue off = rw (eqb_apart q.0 queue (off 0 q refl)) (nobody (n + 1) qs queue (λ k r at. off (suc k) r at))

pub beside_takes_none : (qs : List QueueId) (e : Event) → ((k : ℕ) (q : QueueId) → slice_get qs k ≡ Some q → q.0 ≡ e.queue.0 → ⊥) → took_from qs e ≡ []
beside_takes_none qs e off = ap (if_take e.op) (nobody 0 qs e.queue.0 off) ∙ if_none e.op

-- a take at the queue of client k
somebody : (n : ℕ) (qs : List QueueId) (k : ℕ) (q : QueueId) → AreApart qs → slice_get qs k ≡ Some q → client_at n qs q.0 ≡ Some (n + k)
somebody n [] k q apart at = cc
somebody n (r ∷ qs) zero q apart at =
    let same : r.0 ≡ q.0 = ap (λ (o : Option QueueId). cond (is_some o) r.0 r.0) at ∙ same_queue r q at in
    let e : n + 0 ≡ n = omega arith in
    rw (eq-eqb r.0 q.0 same, e) refl
  where
    same_queue : (r q : QueueId) → Some r ≡ Some q → r.0 ≡ q.0
    same_queue r q h = cc
somebody n (r ∷ qs) (suc k) q apart at =
    let e : n + suc k ≡ (n + 1) + k = omega arith in
    rw (eqb_apart r.0 q.0 (λ same. let no : 0 ≡ suc k = apart 0 (suc k) r q refl at same in cc), e)
    (somebody (n + 1) qs k q (λ i j x y a b same. let h : suc i ≡ suc j = apart (suc i) (suc j) x y a b same in omega (arith, h)) at)

pub taken_from : (qs : List QueueId) (e : Event) (k : ℕ) → AreApart qs → slice_get qs k ≡ Some e.queue → e.op ≡ Do.Take → took_from qs e ≡ k ∷ []
taken_from qs e k apart at take =
    let z : 0 + k ≡ k = omega arith in
    ap (λ o. if_take o (client_at 0 qs e.queue.0)) take ∙ ap option_to_list (somebody 0 qs k e.queue apart at ∙ ap Some z)

-- a call at none of these queues
pub off_takes_none : (qs : List QueueId) (o : Op) (n : ℕ) → (role_of o ≡ Consumer → (k : ℕ) (q : QueueId) → slice_get qs k ≡ Some q → q.0 ≡ n → ⊥) → if_take o (client_at 0 qs n) ≡ []
off_takes_none qs Do.Take n off = ap option_to_list (nobody 0 qs n (off refl))
off_takes_none qs Do.Put n off = refl
off_takes_none qs Do.See n off = refl
off_takes_none qs Do.Room n off = refl
off_takes_none qs (Do.Ask s) n off = refl
off_takes_none qs (Do.Waive s) n off = refl
off_takes_none qs (Do.Wake s) n off = refl
off_takes_none qs (Do.Wanted s) n off = refl
off_takes_none qs (Do.Settle s) n off = refl
off_takes_none qs (Do.Ring s) n off = refl
off_takes_none qs (Do.Store w v) n off = refl
