-- Where nothing changes at the ends of the network's sending virtualiser, it fits them and stands
-- for the same lists.
use Rattle.std.proofs.Common.{ap, ◌≡◌, ◌⊎◌, ◌==◌, ◌++◌, ◌<◌, ℕ, zero, suc, Bool, true, false, if◌then◌else◌, Option, Some, None, List, [], length, slice_get, refl, sym, ap, ◌∙◌, subst, arith, inl, inr}
use Rattle.std.specs.Option.{option_to_list}
use Rattle.std.proofs.Math.Dec.{eqb}
use Rattle.std.proofs.lemmas.Bool.Decides.{eqb_tells}
use Rattle.std.proofs.lemmas.List.{append-nil, length-map}
use Rattle.cargo_core.specs.Bodies.{buffers_of}
use Rattle.wire_core.specs.declared.names.QueueId.{QueueId}
use Rattle.wire_core.specs.Deeds.{Cargo}
use Rattle.wire_core.specs.Ends.{Role, Consumer, Producer, End}
use Rattle.wire_core.specs.Lists.{Lists, Passed, if_there}
use Rattle.turn_kit.specs.Hands.{Balances, bodies_at}
use Rattle.play_core.proofs.Lists.{map_from, some_is, there_is, there_below}
use Rattle.buffer_kit.specs.Virtualising.{VirtOwns, from_queues, to_queues, virt_came, virt_went}
use Rattle.net_virt_tx.specs.declared.client.Client.{Client}
use Rattle.net_virt_tx.specs.declared.NetVirtTx.{NetVirtTx}
use Rattle.net_virt_tx.specs.Sending.{FitsTx, TxStandsFor, IsOutOfTurn, IsBackInTurn, IsDescriptorInTurn, queue_at}
use Rattle.net_virt_tx.specs.Traffics.{TrafficStands, senders, traffic_hand}
use Rattle.net_virt_tx.proofs.Serving.{as_lists}
use Rattle.buffer_kit.proofs.ManyClients.{none_if, queue_is}
use Rattle.actor_set.proofs.LawsLemmas.NetBeside.{fits_virt, bodies_same, turned}

module _ (ends ends' : Role → ℕ → End) where
  pub fits_sender : (v : NetVirtTx) → ((r : Role) (n : ℕ) → VirtOwns v.ends r n → ends' r n ≡ ends r n) → FitsTx ends v → FitsTx ends' v
  fits_sender v same f = record { ends_fit = fits_virt ends ends' v.ends same f.ends_fit; work = f.work; from_each = f.from_each; to_each = f.to_each }

-- what it took in turn is now what was taken, but where its stray came
module _ (passed passed' : Passed) (v : NetVirtTx) (from_each : length (from_queues v.ends) ≡ length v.work.clients.items) (to_each : length (to_queues v.ends) ≡ length v.work.clients.items)
    (ins : (n : ℕ) → VirtOwns v.ends Consumer n → passed'.taken n ≡ passed.taken n) (outs : (n : ℕ) → VirtOwns v.ends Producer n → passed'.sent n ≡ passed.sent n) where
  abbrev i : ℕ
  i = v.ends.input.queue.0

  abbrev o : ℕ
  o = v.ends.output.queue.0

  abbrev from : List QueueId
  from = from_queues v.ends

  abbrev to : List QueueId
  to = to_queues v.ends

  from_owned : (k : ℕ) → k < length v.work.clients.items → VirtOwns v.ends Consumer (queue_at from k)
  from_owned k lt = let q = there_is from k (omega (arith, lt, from_each)) in inr (k, q.0, q.1, queue_is from k q.0 q.1)

  to_owned : (k : ℕ) → k < length v.work.clients.items → VirtOwns v.ends Producer (queue_at to k)
  to_owned k lt = let q = there_is to k (omega (arith, lt, to_each)) in inr (k, q.0, q.1, queue_is to k q.0 q.1)

  all_came : (k n : ℕ) → slice_get (virt_came v.ends) k ≡ Some n → VirtOwns v.ends Consumer n
  all_came zero n at = inl (sym (some_is at))
  all_came (suc k) n at = let f = map_from (λ (q : QueueId). q.0) from k n at in inr (k, f.0, f.1, sym f.2)

  all_went : (k n : ℕ) → slice_get (virt_went v.ends) k ≡ Some n → VirtOwns v.ends Producer n
  all_went zero n at = inl (sym (some_is at))
  all_went (suc k) n at = let f = map_from (λ (q : QueueId). q.0) to k n at in inr (k, f.0, f.1, sym f.2)

  sender_below : (k : ℕ) → k < length (senders v.work) → k < length v.work.clients.items
  sender_below k lt = let many = length-map v.work.clients.items (λ (c : Client). c.sender) in omega (arith, lt, many)

  -- what came out of turn came at one of its own queues
  stray_place : (f : TxStandsFor v passed) (c : Cargo) → v.work.stray ≡ Some c → VirtOwns v.ends Consumer f.place
  stray_place f c is = by (f.stray c is)
    where
      by : IsOutOfTurn i o from to (senders v.work) f.turn passed.sent f.place c → VirtOwns v.ends Consumer f.place
      by (inl h) = inl h.0
      by (inr h) = subst (VirtOwns v.ends Consumer) (sym h.3) (from_owned h.0 (sender_below h.0 (there_below (senders v.work) h.0 h.1 h.2)))

  -- with other lists of what was taken in turn, which are the same at its own queues
  module _ (f : TxStandsFor v passed) (turn : Lists) (same : (n : ℕ) → VirtOwns v.ends Consumer n → turn n ≡ f.turn n)
      (taken : (n : ℕ) → passed'.taken n ≡ turn n ++ if_there (f.place == n) (option_to_list v.work.stray)) where
    stray_so : (c : Cargo) → v.work.stray ≡ Some c → IsOutOfTurn i o from to (senders v.work) turn passed'.sent f.place c
    stray_so c is = by (f.stray c is)
      where
        ti : turn i ≡ f.turn i
        ti = same i (inl refl)

        so : passed'.sent o ≡ passed.sent o
        so = outs o (inl refl)

        tp : turn f.place ≡ f.turn f.place
        tp = same f.place (stray_place f c is)

        by : IsOutOfTurn i o from to (senders v.work) f.turn passed.sent f.place c → IsOutOfTurn i o from to (senders v.work) turn passed'.sent f.place c
        by (inl h) = inl (h.0, λ x. h.1 (subst (λ l. IsBackInTurn l (f.turn i) c) so (subst (λ l. IsBackInTurn (passed'.sent o) l c) ti x)))
        by (inr h) =
            let out : passed'.sent (queue_at to h.0) ≡ passed.sent (queue_at to h.0) = outs (queue_at to h.0) (to_owned h.0 (sender_below h.0 (there_below (senders v.work) h.0 h.1 h.2))) in
            inr (h.0, h.1, h.2, h.3, λ x. h.4 (subst (λ l. IsDescriptorInTurn h.1 (f.turn f.place) l c) out (subst (λ l. IsDescriptorInTurn h.1 l (passed'.sent (queue_at to h.0)) c) tp x)))

    stands_so : TrafficStands v.work (λ k. turn (queue_at from k)) (passed'.sent o) (turn i) (λ k. passed'.sent (queue_at to k))
    stands_so = as_lists v.work (λ k. f.turn (queue_at from k)) (passed.sent o) (f.turn i) (λ k. passed.sent (queue_at to k)) (λ k. turn (queue_at from k)) (λ k. passed'.sent (queue_at to k)) (passed'.sent o) (turn i)
        (λ k lt. same (queue_at from k) (from_owned k lt)) (outs o (inl refl)) (same i (inl refl)) (λ k lt. outs (queue_at to k) (to_owned k lt)) f.stands

    balances_so : Balances [] (bodies_at passed'.taken (virt_came v.ends)) (bodies_at passed'.sent (virt_went v.ends)) (traffic_hand v.work) []
    balances_so pool =
        let was = f.balances pool in
        let came = ap (buffers_of pool) (bodies_same passed.taken passed'.taken (virt_came v.ends) (λ k n at. ins n (all_came k n at))) in
        let went = ap (buffers_of pool) (bodies_same passed.sent passed'.sent (virt_went v.ends) (λ k n at. outs n (all_went k n at))) in
        omega (arith, was, came, went)

    with_turn : TxStandsFor v passed'
    with_turn = record {
      work = f.work;
      from_each = f.from_each;
      to_each = f.to_each;
      turn = turn;
      place = f.place;
      taken = taken;
      stands = stands_so;
      stray = stray_so;
      alone = f.alone;
      balances = balances_so;
    }

  pub stands_sender : TxStandsFor v passed → TxStandsFor v passed'
  stands_sender f = by v.work.stray refl
    where
      by : (x : Option Cargo) → v.work.stray ≡ x → TxStandsFor v passed'
      by None is =
          let none : (l : List Cargo) (b : Bool) → l ++ if_there b (option_to_list v.work.stray) ≡ l = λ l b. ap (λ y. l ++ if_there b (option_to_list y)) is ∙ (ap (λ y. l ++ y) (none_if b) ∙ append-nil l) in
          with_turn f passed'.taken (λ n own. ins n own ∙ (f.taken n ∙ none (f.turn n) (f.place == n))) (λ n. sym (none (passed'.taken n) (f.place == n)))
      by (Some c) is =
          with_turn f (turned f.place f.turn passed'.taken) (λ n own. same n own (eqb_tells f.place n)) (λ n. taken n (eqb_tells f.place n))
        where
          same : (n : ℕ) → VirtOwns v.ends Consumer n → ((eqb f.place n ≡ true) × (f.place ≡ n)) ⊎ ((eqb f.place n ≡ false) × (f.place ≡ n → ⊥)) → turned f.place f.turn passed'.taken n ≡ f.turn n
          same n own (inl h) = ap (λ b. if b then f.turn n else passed'.taken n) h.0
          same n own (inr h) = ap (λ b. if b then f.turn n else passed'.taken n) h.0 ∙ (ins n own ∙ (f.taken n ∙ (ap (λ b. f.turn n ++ if_there b (option_to_list v.work.stray)) h.0 ∙ append-nil (f.turn n))))

          taken : (n : ℕ) → ((eqb f.place n ≡ true) × (f.place ≡ n)) ⊎ ((eqb f.place n ≡ false) × (f.place ≡ n → ⊥)) → passed'.taken n ≡ turned f.place f.turn passed'.taken n ++ if_there (f.place == n) (option_to_list v.work.stray)
          taken n (inl h) = ins n (subst (VirtOwns v.ends Consumer) h.1 (stray_place f c is)) ∙ (f.taken n ∙ ap (λ b. (if b then f.turn n else passed'.taken n) ++ if_there (f.place == n) (option_to_list v.work.stray)) (sym h.0))
          taken n (inr h) = sym (ap (λ b. (if b then f.turn n else passed'.taken n) ++ if_there b (option_to_list v.work.stray)) h.0 ∙ append-nil (passed'.taken n))
