-- The network's sending virtualiser in its start state: it fits the ends that rows give it, and has
-- nothing in its hand.
use Rattle.std.proofs.Common.{◌≡◌, ◌+◌, ◌≤◌, ℕ, List, [], ◌∷◌, length, map, refl, arith}
use Rattle.std.specs.List.{sum_by}
use Rattle.std.proofs.lemmas.List.{length-map}
use Rattle.std.proofs.lemmas.List.Sums.{sum_by-cons}
use Rattle.cargo_core.specs.declared.item.PoolId.{PoolId}
use Rattle.cargo_core.specs.Bodies.{buffers_of}
use Rattle.wire_core.specs.Ends.{Role, End}
use Rattle.turn_kit.specs.Hands.{bodies_at}
use Rattle.buffer_kit.specs.Virtualising.{VirtOwns, virt_came, virt_went}
use Rattle.net_virt_tx.specs.declared.client.Client.{Client}
use Rattle.net_virt_tx.specs.declared.descriptors.Sender.{Sender}
use Rattle.net_virt_tx.specs.declared.NetVirtTx.{NetVirtTx}
use Rattle.net_virt_tx.specs.declared.TxEnds.{TxEnds}
use Rattle.net_virt_tx.specs.Sending.{FitsTx}
use Rattle.net_virt_tx.specs.Traffics.{senders, traffic_hand}
use Rattle.actor_set.specs.Actors.{IsWholeSender}
use Rattle.actor_set.specs.StartStates.{IsNewSender, HasApartQueues}
use Rattle.actor_set.proofs.LawsLemmas.NetStarts.{Seated, new_virt_fits}

-- it has one queue each way for each client
pub new_sender_whole : (v : NetVirtTx) → IsNewSender v → IsWholeSender v
new_sender_whole v new = record { work = new.stands.work; from_each = new.stands.from_each; to_each = new.stands.to_each }

-- as many clients as places for them, at most
few_senders : (ss : List Sender) → length ss ≤ sum_by (λ (s : Sender). s.buffers + 2) ss
few_senders [] = omega arith
few_senders (s ∷ ss) =
    let sum = sum_by-cons (λ (x : Sender). x.buffers + 2) s ss in
    let rest = few_senders ss in
    omega (arith, sum, rest)

pub new_sender_fits : (ends : Role → ℕ → End) (v : NetVirtTx) → IsNewSender v → IsWholeSender v → HasApartQueues v.ends → Seated ends (VirtOwns v.ends) → FitsTx ends v
new_sender_fits ends v new whole apart s =
    let few = few_senders (senders v.work) in
    let many = length-map v.work.clients.items (λ (c : Client). c.sender) in
    record {
      ends_fit = new_virt_fits ends v.ends v.ends.input.queue v.ends.output.queue (map (λ (c : TxEnds). c.active) new.clients) (map (λ (c : TxEnds). c.free) new.clients) new.new.ends apart (omega (arith, whole.from_each, whole.work.few, few, many)) (omega (arith, whole.to_each, whole.work.few, few, many)) s;
      work = whole.work;
      from_each = whole.from_each;
      to_each = whole.to_each;
    }

-- nothing passed, so no buffer did
nothing_at : (pool : PoolId) (ns : List ℕ) → buffers_of pool (bodies_at (λ n. []) ns) ≡ 0
nothing_at pool [] = refl
nothing_at pool (n ∷ ns) = nothing_at pool ns

pub new_sender_hand : (v : NetVirtTx) → IsNewSender v → (pool : PoolId) → buffers_of pool (traffic_hand v.work) ≡ 0
new_sender_hand v new pool =
    let all = new.stands.balances pool in
    let came = nothing_at pool (virt_came v.ends) in
    let went = nothing_at pool (virt_went v.ends) in
    omega (arith, all, came, went)
