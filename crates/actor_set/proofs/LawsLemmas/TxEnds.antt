-- The ends of the network's sending virtualiser as its sheet has them.
use Rattle.std.proofs.Common.{◌≡◌, ℕ, zero, suc, Some, List, [], ◌∷◌, length, flat_map, slice_get, refl, sym, ap, ◌∙◌, arith, inl, inr}
use Rattle.std.proofs.lemmas.List.{length-map}
use Rattle.wire_core.specs.declared.names.QueueId.{QueueId}
use Rattle.wire_core.specs.Ends.{Role, Consumer, Producer}
use Rattle.play_core.specs.Wants.{intake, outlet}
use Rattle.play_core.proofs.Lists.{some_is, there_is, there_below}
use Rattle.buffer_kit.specs.Virtualising.{VirtOwns, from_queues, to_queues}
use Rattle.net_virt_tx.specs.declared.client.Client.{Client}
use Rattle.net_virt_tx.specs.declared.descriptors.Sender.{Sender}
use Rattle.net_virt_tx.specs.declared.NetVirtTx.{NetVirtTx}
use Rattle.net_virt_tx.specs.Traffics.{senders}
use Rattle.net_law.proofs.PartsLemmas.Pairs.{twice, pair_first, pair_second}
use Rattle.net_law.specs.TxParts.Parts.{Shipper}
use Rattle.net_law.specs.TxParts.Table.{send_sheet, shipper_ends}
use Rattle.net_law.specs.TxParts.Playing.{send_part, sender_pool, shippers}
use Rattle.net_law.proofs.TxParts.Items.{shipped}
use Rattle.actor_set.proofs.LawsLemmas.NetEnds.{IsThere, Either, seat, queue_of, not_out, not_in, either_one}

client_there : (cs : List Shipper) (r : Role) (n i : ℕ) → slice_get (flat_map shipper_ends cs) i ≡ Some (seat r n) → (k : ℕ) × (c : Shipper) × (slice_get cs k ≡ Some c) × Either c.active c.active c.free c.free r n
client_there [] r n i at = cc
client_there (c ∷ cs) Consumer n zero at = (0, c, refl, inl (queue_of (intake c.active) Consumer n at))
client_there (c ∷ cs) Producer n zero at = absurd (not_out c.active n at)
client_there (c ∷ cs) Consumer n (suc zero) at = absurd (not_in c.free n at)
client_there (c ∷ cs) Producer n (suc zero) at = (0, c, refl, inl (queue_of (outlet c.free) Producer n at))
client_there (c ∷ cs) r n (suc (suc i)) at = let rest = client_there cs r n i at in (suc rest.0, rest.1, rest.2, rest.3)

-- the sheet's client at a place has the sender and the queues at that place
there_at : (ss : List Sender) (from to : List QueueId) (k : ℕ) (s : Sender) (q r : QueueId) → slice_get ss k ≡ Some s → slice_get from k ≡ Some q → slice_get to k ≡ Some r → slice_get (shippers ss from to) k ≡ Some (record { active = q.0; free = r.0; pool = sender_pool s; most = s.most })
there_at [] from to k s q r at at' at'' = absurd cc
there_at (x ∷ ss) [] to k s q r at at' at'' = absurd cc
there_at (x ∷ ss) (y ∷ from) [] k s q r at at' at'' = absurd cc
there_at (x ∷ ss) (y ∷ from) (z ∷ to) zero s q r at at' at'' = rw (← some_is at, ← some_is at', ← some_is at'') refl
there_at (x ∷ ss) (y ∷ from) (z ∷ to) (suc k) s q r at at' at'' = there_at ss from to k s q r at at' at''

module _ (v : NetVirtTx) where
  abbrev ss : List Sender
  ss = senders v.work

  abbrev from : List QueueId
  from = from_queues v.ends

  abbrev to : List QueueId
  to = to_queues v.ends

  abbrev clients : List Shipper
  clients = shippers ss from to

  pub sender_from : (r : Role) (n i : ℕ) → slice_get (send_sheet (send_part v)).ends i ≡ Some (seat r n) → VirtOwns v.ends r n
  sender_from Consumer n zero at = inl (queue_of (intake v.ends.input.queue.0) Consumer n at)
  sender_from Producer n zero at = absurd (not_out v.ends.input.queue.0 n at)
  sender_from Consumer n (suc zero) at = absurd (not_in v.ends.output.queue.0 n at)
  sender_from Producer n (suc zero) at = inl (queue_of (outlet v.ends.output.queue.0) Producer n at)
  sender_from Consumer n (suc (suc i)) at =
      let c = client_there clients Consumer n i at in
      let own = shipped ss from to c.0 c.1 c.2 in
      inr (c.0, own.active, own.comes, either_one c.3 ∙ own.active_is)
  sender_from Producer n (suc (suc i)) at =
      let c = client_there clients Producer n i at in
      let own = shipped ss from to c.0 c.1 c.2 in
      inr (c.0, own.free, own.goes, either_one c.3 ∙ own.free_is)

  module _ (from_each : length from ≡ length v.work.clients.items) (to_each : length to ≡ length v.work.clients.items) where
    many : length ss ≡ length v.work.clients.items
    many = length-map v.work.clients.items (λ (c : Client). c.sender)

    -- the end from the client at a place, and the one to it
    pub sender_in : (k : ℕ) (q : QueueId) → slice_get from k ≡ Some q → slice_get (send_sheet (send_part v)).ends (suc (suc (twice k))) ≡ Some (intake q.0)
    sender_in k q at =
        let below = there_below from k q at in
        let all = many in
        let s = there_is ss k (omega (arith, below, from_each, all)) in
        let r = there_is to k (omega (arith, below, from_each, to_each)) in
        pair_first (λ (d : Shipper). intake d.active) (λ d. outlet d.free) clients k _ (there_at ss from to k s.0 q r.0 s.1 at r.1)

    pub sender_out : (k : ℕ) (q : QueueId) → slice_get to k ≡ Some q → slice_get (send_sheet (send_part v)).ends (suc (suc (suc (twice k)))) ≡ Some (outlet q.0)
    sender_out k q at =
        let below = there_below to k q at in
        let all = many in
        let s = there_is ss k (omega (arith, below, to_each, all)) in
        let f = there_is from k (omega (arith, below, from_each, to_each)) in
        pair_second (λ (d : Shipper). intake d.active) (λ d. outlet d.free) clients k _ (there_at ss from to k s.0 f.0 q s.1 f.1 at)

    pub sender_to : (r : Role) (n : ℕ) → VirtOwns v.ends r n → IsThere (send_sheet (send_part v)).ends r n
    sender_to Consumer n (inl h) = (0, ap (λ k. Some (intake k)) (sym h))
    sender_to Producer n (inl h) = (1, ap (λ k. Some (outlet k)) (sym h))
    sender_to Consumer n (inr h) = (suc (suc (twice h.0)), sender_in h.0 h.1 h.2 ∙ ap (λ k. Some (intake k)) (sym h.3))
    sender_to Producer n (inr h) = (suc (suc (suc (twice h.0))), sender_out h.0 h.1 h.2 ∙ ap (λ k. Some (outlet k)) (sym h.3))
