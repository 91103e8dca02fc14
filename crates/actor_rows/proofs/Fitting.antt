use Rattle.std.proofs.Common.{◌≡◌, ◌<◌, ◌+◌, ℕ, zero, suc, Bool, Some, List, [], ◌∷◌, length, length-set, drop, map, slice_get, refl, sym, ap, ◌∙◌, subst, arith}
use Rattle.std.proofs.lemmas.List.{length-map}
use Rattle.wire_core.specs.declared.names.QueueId.{QueueId}
use Rattle.wire_core.specs.Ends.{Role, Consumer, Producer}
use Rattle.wire_core.specs.declared.names.Event.{Event}
use Rattle.wire_core.specs.Lists.{Stepped}
use Rattle.wire_core.specs.Queues.{Queue, Happens, end_at}
use Rattle.wire_core.proofs.Moving.{moves}
use Rattle.turn_kit.specs.Table.{Agrees}
use Rattle.turn_kit.specs.ManyEnds.{AreApart, outlet_queues}
use Rattle.turn_kit.specs.declared.ends.Outlet.{Outlet}
use Rattle.serial_virt.specs.Receiving.{FitsRx, RxStandsFor, RxEnd, IsNewRx, new_outlet, rx_queues}
use Rattle.serial_virt.specs.declared.rx.SerialVirtRx.{SerialVirtRx}
use Rattle.base_rows.specs.Hands.{OnlyAt, AreByteQueues}
use Rattle.actor_rows.specs.Standings.{RxStands, IsNewSharer, queue, eight}

pub some_is : {X : Type 0} {a b : X} → Some a ≡ Some b → a ≡ b
some_is h = cc

pub map_get : {T U : Type 0} (f : T → U) (xs : List T) (k : ℕ) (x : T) → slice_get xs k ≡ Some x → slice_get (map f xs) k ≡ Some (f x)
map_get f [] k x h = cc
map_get f (a ∷ xs) zero x h = ap (λ y. Some (f y)) (some_is h)
map_get f (a ∷ xs) (suc k) x h = map_get f xs k x h

-- an outlet in its start state is one of these queues
from_queue : (qs : List QueueId) (k : ℕ) (o : Outlet) → slice_get (map new_outlet qs) k ≡ Some o → (q : QueueId) × (slice_get qs k ≡ Some q) × (new_outlet q ≡ o)
from_queue [] k o h = cc
from_queue (q ∷ qs) zero o h = (q, refl, some_is h)
from_queue (q ∷ qs) (suc k) o h = from_queue qs k o h

queues_are : (qs : List QueueId) → map (λ (o : Outlet). o.queue) (map new_outlet qs) ≡ qs
queues_are [] = refl
queues_are (q ∷ qs) = ap (λ xs. q ∷ xs) (queues_are qs)

-- the eight queues stand at the places 1 to 8
pub eight_at : (k : ℕ) (q : QueueId) → slice_get eight k ≡ Some q → (q.0 ≡ k + 1) × (k < 8)
eight_at zero q h = (ap (λ (x : QueueId). x.0) (sym (some_is h)), omega arith)
eight_at (suc zero) q h = (ap (λ (x : QueueId). x.0) (sym (some_is h)), omega arith)
eight_at (suc (suc zero)) q h = (ap (λ (x : QueueId). x.0) (sym (some_is h)), omega arith)
eight_at (suc (suc (suc zero))) q h = (ap (λ (x : QueueId). x.0) (sym (some_is h)), omega arith)
eight_at (suc (suc (suc (suc zero)))) q h = (ap (λ (x : QueueId). x.0) (sym (some_is h)), omega arith)
eight_at (suc (suc (suc (suc (suc zero))))) q h = (ap (λ (x : QueueId). x.0) (sym (some_is h)), omega arith)
eight_at (suc (suc (suc (suc (suc (suc zero)))))) q h = (ap (λ (x : QueueId). x.0) (sym (some_is h)), omega arith)
eight_at (suc (suc (suc (suc (suc (suc (suc zero))))))) q h = (ap (λ (x : QueueId). x.0) (sym (some_is h)), omega arith)
eight_at (suc (suc (suc (suc (suc (suc (suc (suc k)))))))) q h = cc

pub eight_apart : AreApart eight
eight_apart k j q r at there same = let a = eight_at k q at in let b = eight_at j r there in let x : q.0 ≡ k + 1 = a.0 in let y : r.0 ≡ j + 1 = b.0 in omega (arith, same, x, y)

-- a virtualiser in its start state fits queues in their start state
pub new_stands : (w : List Queue) (v : SerialVirtRx) → AreByteQueues 9 w → IsNewSharer v → RxStands w v
new_stands w v b sharer = record {
  fits = record {
    input = rw (new.input, new.input_state, b.start Consumer 0 (omega arith)) (record { owned = refl; waiter = refl; ringer = refl; looked = λ h. cc });
    outputs = record { agrees = agrees; apart = subst AreApart (sym queues) eight_apart };
    hears = rw new.input (ap (λ e. e.kind) (b.start Consumer 0 (omega arith)));
    says = λ k q at. let e = eight_at k q (ap (λ qs. slice_get qs k) (sym queues) ∙ at) in ap (λ e. e.kind) (b.start Producer q.0 (let x : q.0 ≡ k + 1 = e.0 in let y : k < 8 = e.1 in omega (arith, x, y)));
    load = rw new.load (λ x h. cc);
    policies = sharer.policies ∙ sym (ap length queues);
  };
  long = b.long;
  kind = ap (λ e. e.kind) (b.start Producer 0 (omega arith));
  input = ap (λ (x : QueueId). x.0) new.input;
  outputs = queues;
}
  where
    new : IsNewRx (queue 0) eight v.drops.items v
    new = sharer.new

    queues : outlet_queues v.outputs ≡ eight
    queues = ap (map (λ (o : Outlet). o.queue)) new.outputs ∙ queues_are eight

    agrees : (k : ℕ) (o : Outlet) → slice_get v.outputs.ends.items k ≡ Some o → Agrees (end_at w Producer o.queue.0) o.state
    agrees k o at =
        let from = from_queue eight k o (ap (λ os. slice_get os k) (sym new.outputs) ∙ at) in
        let e = eight_at k from.0 from.1 in
        let lt : from.0.0 < 9 = (let x : from.0.0 ≡ k + 1 = e.0 in let y : k < 8 = e.1 in omega (arith, x, y)) in
        subst (λ (x : Outlet). Agrees (end_at w Producer x.queue.0) x.state) from.2 (rw (b.start Producer from.0.0 lt) (record { owned = refl; waiter = refl; ringer = refl; looked = λ h. cc }))

-- a virtualiser that is made for these clients
pub new_sharer : (ts : List (QueueId × Bool)) (v : SerialVirtRx) → map (λ c. c.0) ts ≡ eight → length ts ≡ 8 → IsNewRx (queue 0) (map (λ c. c.0) ts) (map (λ c. c.1) ts) v → IsNewSharer v
new_sharer ts v are many new = record {
  new = subst (λ ds. IsNewRx (queue 0) eight ds v) (sym new.policies) (subst (λ qs. IsNewRx (queue 0) qs (map (λ (c : QueueId × Bool). c.1) ts) v) are new);
  policies = ap length new.policies ∙ (length-map ts (λ (c : QueueId × Bool). c.1) ∙ many);
}

-- what the hand does at an end that isn't the virtualiser's leaves it
fits_beside : (w u : List Queue) (v : SerialVirtRx) (role : Role) (place : ℕ) → OnlyAt role place w u → ((r : Role) (n : ℕ) → RxEnd v r n → r ≡ role → n ≡ place → ⊥) → FitsRx (end_at w) v → FitsRx (end_at u) v
fits_beside w u v role place only away f = record {
  input = subst (λ e. Agrees e v.input.state) (sym (only.rest Consumer v.input.queue.0 (away Consumer v.input.queue.0 refl))) f.input;
  outputs = record {
    agrees = λ k o at. subst (λ e. Agrees e o.state) (sym (only.rest Producer o.queue.0 (away Producer o.queue.0 (k, o.queue, map_get (λ (x : Outlet). x.queue) v.outputs.ends.items k o at, refl)))) (f.outputs.agrees k o at);
    apart = f.outputs.apart;
  };
  hears = only.kinds Consumer v.input.queue.0 ∙ f.hears;
  says = λ k q at. only.kinds Producer q.0 ∙ f.says k q at;
  load = f.load;
  policies = f.policies;
}

pub after_give : (w u : List Queue) (v : SerialVirtRx) → RxStands w v → OnlyAt Producer 0 w u → RxStands u v
after_give w u v s only = record {
  fits = fits_beside w u v Producer 0 only away s.fits;
  long = only.long ∙ s.long;
  kind = only.kinds Producer 0 ∙ s.kind;
  input = s.input;
  outputs = s.outputs;
}
  where
    away : (r : Role) (n : ℕ) → RxEnd v r n → r ≡ Producer → n ≡ 0 → ⊥
    away Consumer n e role place = cc
    away Producer n e role place = let a = eight_at e.0 e.1 (ap (λ qs. slice_get qs e.0) (sym s.outputs) ∙ e.2) in let x : e.1.0 ≡ e.0 + 1 = a.0 in let y : n ≡ e.1.0 = e.3 in omega (arith, x, y, place)

pub after_get : (w u : List Queue) (v : SerialVirtRx) (client : ℕ) → RxStands w v → OnlyAt Consumer (1 + client) w u → RxStands u v
after_get w u v client s only = record {
  fits = fits_beside w u v Consumer (1 + client) only away s.fits;
  long = only.long ∙ s.long;
  kind = only.kinds Producer 0 ∙ s.kind;
  input = s.input;
  outputs = s.outputs;
}
  where
    away : (r : Role) (n : ℕ) → RxEnd v r n → r ≡ Consumer → n ≡ 1 + client → ⊥
    away Producer n e role place = cc
    away Consumer n e role place = let x : n ≡ v.input.queue.0 = e in let y = s.input in omega (arith, x, y, place)

-- a step of the virtualiser
pub after_step : (w u : List Queue) (v v' : SerialVirtRx) (e : Event) → RxStands w v → FitsRx (end_at u) v' → Stepped RxStandsFor (λ old d new. Happens old d new) w u v v' e → rx_queues v' ≡ rx_queues v → RxStands u v'
after_step w u v v' e s fits st queues = record {
  fits = fits;
  long = ap length st.happened.after_is ∙ (length-set w e.queue.0 _ ∙ s.long);
  kind = (moves w _ u st.happened).kinds Producer 0 ∙ s.kind;
  input = ap (λ (x : QueueId). x.0) (some_is (ap (λ qs. slice_get qs 0) queues)) ∙ s.input;
  outputs = ap (drop 1) queues ∙ s.outputs;
}
