-- Virtualisers of the serial class that are so made are in their start state, and have these parts.
use Rattle.std.proofs.Common.{◌≡◌, ◌<◌, ◌+◌, ◌*◌, ℕ, suc, Bool, List, [], ◌∷◌, ◌++◌, length, map, take, get_or, refl, sym, ap, ◌∙◌, subst, arith}
use Rattle.std.proofs.lemmas.List.{length-map, map-append}
use Rattle.std.proofs.Math.Seq.{take-suc}
use Rattle.wire_core.specs.declared.names.QueueId.{QueueId}
use Rattle.turn_kit.specs.ManyEnds.{intake_queues, outlet_queues}
use Rattle.serial_virt.specs.Receiving.{IsNewRx, new_outlet}
use Rattle.serial_virt.specs.declared.rx.SerialVirtRx.{SerialVirtRx}
use Rattle.serial_virt.specs.Sending.{IsNewTx, new_intake}
use Rattle.serial_virt.specs.declared.tx.SerialVirtTx.{SerialVirtTx}
use Rattle.actor_set.specs.Actors.{numbers}
use Rattle.actor_set.specs.Parts.{RxPart, TxPart}
use Rattle.actor_set.specs.StartStates.{IsNewSharer}
use Rattle.sdf_plan.specs.declared.plan.SerialClient.{SerialClient}
use Rattle.cast_core.specs.Sources.{every_second, is_dropping, drops_of}
use Rattle.cast_core.proofs.Seconds.{second_length, second_more}

outlet_list : (qs : List QueueId) → map (λ o. o.queue) (map new_outlet qs) ≡ qs
outlet_list [] = refl
outlet_list (q ∷ qs) = ap (λ z. q ∷ z) (outlet_list qs)

intake_list : (qs : List QueueId) → map (λ o. o.queue) (map new_intake qs) ≡ qs
intake_list [] = refl
intake_list (q ∷ qs) = ap (λ z. q ∷ z) (intake_list qs)

-- the queues of a virtualiser are those that it was made with
rx_queues : (rx : QueueId) (clients : List QueueId) (drops : List Bool) (v : SerialVirtRx) → IsNewRx rx clients drops v → outlet_queues v.outputs ≡ clients
rx_queues rx clients drops v new = ap (map (λ o. o.queue)) new.outputs ∙ outlet_list clients

tx_queues : (tx : QueueId) (clients : List QueueId) (v : SerialVirtTx) → IsNewTx tx clients v → intake_queues v.inputs ≡ clients
tx_queues tx clients v new = ap (map (λ o. o.queue)) new.inputs ∙ intake_list clients

-- a virtualiser that is so made is one of its own queues, and each client has its policy
pub rx_new : (rx : QueueId) (ts : List (QueueId × Bool)) (v : SerialVirtRx) → IsNewRx rx (map (λ c. c.0) ts) (map (λ c. c.1) ts) v → IsNewSharer v
rx_new rx ts v n =
    let queues = rx_queues rx (map (λ (c : QueueId × Bool). c.0) ts) (map (λ (c : QueueId × Bool). c.1) ts) v n in
    record {
      new = subst (λ ds. IsNewRx v.input.queue (outlet_queues v.outputs) ds v) (sym n.policies)
          (subst (λ q. IsNewRx q (outlet_queues v.outputs) (map (λ (c : QueueId × Bool). c.1) ts) v) (sym n.input)
          (subst (λ qs. IsNewRx rx qs (map (λ (c : QueueId × Bool). c.1) ts) v) (sym queues) n));
      policies = ap length n.policies ∙ (length-map ts (λ (c : QueueId × Bool). c.1) ∙ (sym (length-map ts (λ (c : QueueId × Bool). c.0)) ∙ sym (ap length queues)));
    }

pub tx_new : (tx : QueueId) (clients : List QueueId) (v : SerialVirtTx) → IsNewTx tx clients v → IsNewTx v.output.queue (intake_queues v.inputs) v
tx_new tx clients v new = subst (λ q. IsNewTx q (intake_queues v.inputs) v) (sym new.output) (subst (λ qs. IsNewTx tx qs v) (sym (tx_queues tx clients v new)) new)

pub queue_count : (qs : List QueueId) (first count : ℕ) → numbers qs ≡ every_second first count → length qs ≡ count
queue_count qs first count is = sym (length-map qs (λ (q : QueueId). q.0)) ∙ (ap length is ∙ second_length first count)

pub rx_part : (rx : QueueId) (ts : List (QueueId × Bool)) (v : SerialVirtRx) (qs : List ℕ) (drops : List Bool) → IsNewRx rx (map (λ c. c.0) ts) (map (λ c. c.1) ts) v → numbers (map (λ c. c.0) ts) ≡ qs → map (λ c. c.1) ts ≡ drops → RxPart v.input.queue.0 (numbers (outlet_queues v.outputs)) v.drops.items ≡ RxPart rx.0 qs drops
rx_part rx ts v qs drops n are policies =
    let queues = rx_queues rx (map (λ (c : QueueId × Bool). c.0) ts) (map (λ (c : QueueId × Bool). c.1) ts) v n in
    ap (λ (q : QueueId). RxPart q.0 (numbers (outlet_queues v.outputs)) v.drops.items) n.input
    ∙ (ap (λ ns. RxPart rx.0 ns v.drops.items) (ap numbers queues ∙ are)
    ∙ ap (RxPart rx.0 qs) (n.policies ∙ policies))

pub taker_count : (ts : List (QueueId × Bool)) (first count : ℕ) → numbers (map (λ c. c.0) ts) ≡ every_second first count → length ts ≡ count
taker_count ts first count is = sym (length-map ts (λ (c : QueueId × Bool). c.0)) ∙ queue_count (map (λ (c : QueueId × Bool). c.0) ts) first count is

-- one client more
pub takers_more : (first k : ℕ) (clients : List SerialClient) (ts new : List (QueueId × Bool)) (t : QueueId × Bool) (client : SerialClient) → k < length clients → client ≡ get_or clients k client → new ≡ ts ++ t ∷ [] → t.0.0 ≡ first + 2 * k → t.1 ≡ is_dropping client.policy
    → numbers (map (λ c. c.0) ts) ≡ every_second first k → map (λ c. c.1) ts ≡ drops_of (take k clients)
    → (numbers (map (λ c. c.0) new) ≡ every_second first (k + 1)) × (map (λ c. c.1) new ≡ drops_of (take (k + 1) clients))
takers_more first k clients ts new t client below at more number policy queues drops =
    let places : map (λ (c : QueueId × Bool). c.0) new ≡ map (λ (c : QueueId × Bool). c.0) ts ++ t.0 ∷ [] = ap (map (λ (c : QueueId × Bool). c.0)) more ∙ map-append (λ (c : QueueId × Bool). c.0) ts (t ∷ []) in
    let flags : map (λ (c : QueueId × Bool). c.1) new ≡ map (λ (c : QueueId × Bool). c.1) ts ++ t.1 ∷ [] = ap (map (λ (c : QueueId × Bool). c.1)) more ∙ map-append (λ (c : QueueId × Bool). c.1) ts (t ∷ []) in
    let one : k + 1 ≡ suc k = omega arith in
    let taken : take (k + 1) clients ≡ take k clients ++ client ∷ [] = ap (λ n. take n clients) one ∙ (take-suc clients k client below ∙ ap (λ x. take k clients ++ x ∷ []) (sym at)) in
    let all : drops_of (take (k + 1) clients) ≡ drops_of (take k clients) ++ is_dropping client.policy ∷ [] = ap drops_of taken ∙ map-append (λ (c : SerialClient). is_dropping c.policy) (take k clients) (client ∷ []) in (
      second_more first k (map (λ (c : QueueId × Bool). c.0) ts) (map (λ (c : QueueId × Bool). c.0) new) t.0 places number queues,
      flags ∙ (ap (λ bs. bs ++ t.1 ∷ []) drops ∙ (ap (λ b. drops_of (take k clients) ++ b ∷ []) policy ∙ sym all)),
    )

pub tx_part : (tx : QueueId) (clients : List QueueId) (v : SerialVirtTx) (qs : List ℕ) → IsNewTx tx clients v → numbers clients ≡ qs → TxPart v.output.queue.0 (numbers (intake_queues v.inputs)) ≡ TxPart tx.0 qs
tx_part tx clients v qs new is = ap (λ (q : QueueId). TxPart q.0 (numbers (intake_queues v.inputs))) new.output ∙ ap (TxPart tx.0) (ap numbers (tx_queues tx clients v new) ∙ is)
