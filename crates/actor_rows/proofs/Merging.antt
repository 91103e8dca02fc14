use Rattle.std.proofs.Common.{◌≡◌, ◌<◌, ◌+◌, ℕ, zero, suc, Some, List, [], ◌∷◌, length, length-set, drop, map, slice_get, refl, sym, ap, ◌∙◌, subst, arith}
use Rattle.wire_core.specs.declared.names.QueueId.{QueueId}
use Rattle.wire_core.specs.declared.names.Event.{Event}
use Rattle.wire_core.specs.Ends.{Role, Consumer, Producer}
use Rattle.wire_core.specs.Lists.{Stepped}
use Rattle.wire_core.specs.Queues.{Queue, Happens, end_at}
use Rattle.wire_core.proofs.Moving.{moves}
use Rattle.turn_kit.specs.Table.{Agrees}
use Rattle.turn_kit.specs.ManyEnds.{AreApart, intake_queues}
use Rattle.turn_kit.specs.declared.ends.Intake.{Intake}
use Rattle.serial_virt.specs.Sending.{FitsTx, TxStandsFor, TxEnd, IsNewTx, new_intake, tx_queues}
use Rattle.serial_virt.specs.declared.tx.SerialVirtTx.{SerialVirtTx}
use Rattle.base_rows.specs.Hands.{OnlyAt, AreByteQueues}
use Rattle.actor_rows.specs.Standings.{TxStands, queue, eight}
use Rattle.actor_rows.proofs.Fitting.{some_is, map_get, eight_at, eight_apart}

-- an intake in its start state is one of these queues
from_queue : (qs : List QueueId) (k : ℕ) (i : Intake) → slice_get (map new_intake qs) k ≡ Some i → (q : QueueId) × (slice_get qs k ≡ Some q) × (new_intake q ≡ i)
from_queue [] k i h = cc
from_queue (q ∷ qs) zero i h = (q, refl, some_is h)
from_queue (q ∷ qs) (suc k) i h = from_queue qs k i h

queues_are : (qs : List QueueId) → map (λ (i : Intake). i.queue) (map new_intake qs) ≡ qs
queues_are [] = refl
queues_are (q ∷ qs) = ap (λ xs. q ∷ xs) (queues_are qs)

-- a virtualiser in its start state fits queues in their start state
pub new_merger : (w : List Queue) (v : SerialVirtTx) → AreByteQueues 9 w → IsNewTx (queue 0) eight v → TxStands w v
new_merger w v b new = record {
  fits = record {
    inputs = record { agrees = agrees; apart = subst AreApart (sym queues) eight_apart };
    output = rw (new.output, new.output_state, b.start Producer 0 (omega arith)) (record { owned = refl; waiter = refl; ringer = refl; looked = λ h. cc });
    hears = λ k q at. let e = eight_at k q (ap (λ qs. slice_get qs k) (sym queues) ∙ at) in ap (λ e. e.kind) (b.start Consumer q.0 (let x : q.0 ≡ k + 1 = e.0 in let y : k < 8 = e.1 in omega (arith, x, y)));
    says = rw new.output (ap (λ e. e.kind) (b.start Producer 0 (omega arith)));
    load = rw new.load (λ x h. cc);
  };
  long = b.long;
  kinds = λ n lt. ap (λ e. e.kind) (b.start Producer n lt);
  output = ap (λ (x : QueueId). x.0) new.output;
  inputs = queues;
}
  where
    queues : intake_queues v.inputs ≡ eight
    queues = ap (map (λ (i : Intake). i.queue)) new.inputs ∙ queues_are eight

    agrees : (k : ℕ) (i : Intake) → slice_get v.inputs.ends.items k ≡ Some i → Agrees (end_at w Consumer i.queue.0) i.state
    agrees k i at =
        let from = from_queue eight k i (ap (λ is. slice_get is k) (sym new.inputs) ∙ at) in
        let e = eight_at k from.0 from.1 in
        let lt : from.0.0 < 9 = (let x : from.0.0 ≡ k + 1 = e.0 in let y : k < 8 = e.1 in omega (arith, x, y)) in
        subst (λ (x : Intake). Agrees (end_at w Consumer x.queue.0) x.state) from.2 (rw (b.start Consumer from.0.0 lt) (record { owned = refl; waiter = refl; ringer = refl; looked = λ h. cc }))

-- what the hand does at an end that isn't the virtualiser's leaves it
beside : (w u : List Queue) (v : SerialVirtTx) (role : Role) (place : ℕ) → OnlyAt role place w u → ((r : Role) (n : ℕ) → TxEnd v r n → r ≡ role → n ≡ place → ⊥) → TxStands w v → TxStands u v
beside w u v role place only away s = record {
  fits = record {
    inputs = record {
      agrees = λ k i at. subst (λ e. Agrees e i.state) (sym (only.rest Consumer i.queue.0 (away Consumer i.queue.0 (k, i.queue, map_get (λ (x : Intake). x.queue) v.inputs.ends.items k i at, refl)))) (s.fits.inputs.agrees k i at);
      apart = s.fits.inputs.apart;
    };
    output = subst (λ e. Agrees e v.output.state) (sym (only.rest Producer v.output.queue.0 (away Producer v.output.queue.0 refl))) s.fits.output;
    hears = λ k q at. only.kinds Consumer q.0 ∙ s.fits.hears k q at;
    says = only.kinds Producer v.output.queue.0 ∙ s.fits.says;
    load = s.fits.load;
  };
  long = only.long ∙ s.long;
  kinds = λ n lt. only.kinds Producer n ∙ s.kinds n lt;
  output = s.output;
  inputs = s.inputs;
}

pub after_offer : (w u : List Queue) (v : SerialVirtTx) (client : ℕ) → TxStands w v → OnlyAt Producer (1 + client) w u → TxStands u v
after_offer w u v client s only = beside w u v Producer (1 + client) only away s
  where
    away : (r : Role) (n : ℕ) → TxEnd v r n → r ≡ Producer → n ≡ 1 + client → ⊥
    away Consumer n e role place = cc
    away Producer n e role place = let x : n ≡ v.output.queue.0 = e in let y = s.output in omega (arith, x, y, place)

pub after_collect : (w u : List Queue) (v : SerialVirtTx) → TxStands w v → OnlyAt Consumer 0 w u → TxStands u v
after_collect w u v s only = beside w u v Consumer 0 only away s
  where
    away : (r : Role) (n : ℕ) → TxEnd v r n → r ≡ Consumer → n ≡ 0 → ⊥
    away Producer n e role place = cc
    away Consumer n e role place = let a = eight_at e.0 e.1 (ap (λ qs. slice_get qs e.0) (sym s.inputs) ∙ e.2) in let x : e.1.0 ≡ e.0 + 1 = a.0 in let y : n ≡ e.1.0 = e.3 in omega (arith, x, y, place)

-- a step of the virtualiser
pub after_merge : (w u : List Queue) (v v' : SerialVirtTx) (e : Event) → TxStands w v → FitsTx (end_at u) v' → Stepped TxStandsFor (λ old d new. Happens old d new) w u v v' e → tx_queues v' ≡ tx_queues v → TxStands u v'
after_merge w u v v' e s fits st queues = record {
  fits = fits;
  long = ap length st.happened.after_is ∙ (length-set w e.queue.0 _ ∙ s.long);
  kinds = λ n lt. (moves w _ u st.happened).kinds Producer n ∙ s.kinds n lt;
  output = ap (λ (x : QueueId). x.0) (some_is (ap (λ qs. slice_get qs 0) queues)) ∙ s.output;
  inputs = ap (drop 1) queues ∙ s.inputs;
}
