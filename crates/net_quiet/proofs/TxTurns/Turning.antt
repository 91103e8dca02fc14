-- On its way round nothing comes out of turn.
use Rattle.std.proofs.Common.{◌≡◌, ◌+◌, ◌++◌, ◌<◌, ◌≤◌, ℕ, zero, suc, Bool, true, false, Some, List, [], ◌∷◌, All, slice_get, refl, ap, ◌∙◌, subst, inl, inr, eq-eqb, arith}
use Rattle.std.proofs.lemmas.List.Elements.{All-cons}
use Rattle.std.proofs.lemmas.Option.{get_or_from_slice_get}
use Rattle.cargo_core.specs.Lists.{IsPrefix}
use Rattle.wire_core.specs.declared.names.QueueId.{QueueId}
use Rattle.wire_core.specs.Deeds.{Cargo}
use Rattle.wire_core.specs.Lists.{Passed, if_there}
use Rattle.turn_kit.specs.declared.pipe.Pipe.{Pipe}
use Rattle.pipe_driver.specs.declared.pipes.Pipes.{Pipes}
use Rattle.play_core.proofs.Lists.{prefix_trans, there_below, there_is}
use Rattle.device_model.specs.Ethernet.Devices.{tx_active, tx_free}
use Rattle.device_model.specs.declared.ethernet.EthDevice.{EthDevice}
use Rattle.buffer_kit.specs.Entries.{addr_of}
use Rattle.buffer_kit.specs.Virtualising.{from_queues, to_queues}
use Rattle.net_virt_tx.specs.declared.NetVirtTx.{NetVirtTx}
use Rattle.net_virt_tx.specs.declared.descriptors.Sender.{Sender}
use Rattle.net_virt_tx.specs.Serving.{is_good_of}
use Rattle.net_virt_tx.specs.Clients.{at_address, number_of}
use Rattle.net_virt_tx.specs.Traffics.{senders}
use Rattle.net_virt_tx.specs.Sending.{IsOutOfTurn, TxRow, queue_at}
use Rattle.net_virt_tx.proofs.Counting.{at_append, bit_same, good_is}
use Rattle.play_core.specs.Names.{Wild}
use Rattle.net_law.specs.TxScene.Playing.{CalmGood}
use Rattle.net_quiet.specs.TxTurns.Turning.{IsSendHalf, StraysWild}

pub at_few : (a : ℕ) (xs ys : List Cargo) → IsPrefix xs ys → at_address a xs ≤ at_address a ys
at_few a xs ys h =
    let all = ap (at_address a) h.1 in
    let parts = at_append a xs h.0 in
    omega (arith, all, parts)

heads : (x y : Cargo) (xs ys : List Cargo) → (x ∷ xs) ≡ (y ∷ ys) → (y ≡ x) × (xs ≡ ys)
heads x y xs ys e = (cc, cc)

pub front : (P : Cargo → Type 0) (xs ys : List Cargo) → IsPrefix xs ys → All P ys → All P xs
front P [] ys h all = λ k d l. absurd (omega (arith, l))
front P (x ∷ xs) [] h all = let no : x ∷ (xs ++ h.0) ≡ [] = h.1 in absurd cc
front P (x ∷ xs) (y ∷ ys) h all =
    let e = heads x y (xs ++ h.0) ys h.1 in
    All-cons P x xs (subst P e.0 (all zero y (omega arith))) (front P xs ys (h.0, e.1) (λ j d m. all (suc j) d (omega (arith, m))))

module _ (wild : Wild) (d : EthDevice) (p : Pipes (Pipes (Pipes Pipe))) (v : NetVirtTx) (passed : Passed) (h : IsSendHalf wild d p v passed) where
  abbrev row : TxRow v passed
  row = h.sending.virtualiser

  abbrev input : ℕ
  input = v.ends.input.queue.0

  abbrev output : ℕ
  output = v.ends.output.queue.0

  -- what comes back is a beginning of what went to the driver
  pub comes_back : IsPrefix (passed.taken input) (passed.sent output)
  comes_back =
      let s = h.sending in
      let i = p.rest.rest.first.input.queue.0 in
      let o = p.rest.rest.first.output.queue.0 in
      let bi = p.rest.rest.rest.input.queue.0 in
      let bo = p.rest.rest.rest.output.queue.0 in
      let one : IsPrefix (passed.taken input) (passed.sent bo) = subst (λ n. IsPrefix (passed.taken input) (passed.sent n)) h.from_driver (s.hands_over input) in
      let two = prefix_trans (passed.taken input) (passed.sent bo) (passed.taken bi) one s.driver.1.1.1.0 in
      let three = prefix_trans (passed.taken input) (passed.taken bi) (passed.sent (tx_free d)) two (subst (λ n. IsPrefix (passed.taken bi) (passed.sent n)) h.from_device (s.hands_over bi)) in
      let four = prefix_trans (passed.taken input) (passed.sent (tx_free d)) (passed.taken (tx_active d)) three s.device.returns in
      let five = prefix_trans (passed.taken input) (passed.taken (tx_active d)) (passed.sent o) four (subst (λ n. IsPrefix (passed.taken (tx_active d)) (passed.sent n)) s.to_device (s.hands_over (tx_active d))) in
      let six = prefix_trans (passed.taken input) (passed.sent o) (passed.taken i) five s.driver.1.1.0 in
      prefix_trans (passed.taken input) (passed.taken i) (passed.sent output) six (subst (λ n. IsPrefix (passed.taken i) (passed.sent n)) s.to_driver (s.hands_over i))

  pub takes_good : CalmGood wild v passed
  takes_good k s q at atq calm =
      let to_each = row.to_each in
      let there = there_below (senders v.work) k s at in
      let r = there_is (to_queues v.ends) k (omega (arith, to_each, there)) in
      front (λ (c : Cargo). is_good_of s c ≡ true) (passed.taken q.0) (passed.sent q.0) (h.sending.hands_over q.0) (h.clients k s q r.0 at atq r.1 calm).good

  -- no entry is out of turn but at a queue with a hostile end
  module _ (x : Cargo) (xs : List Cargo) (is : row.stray ≡ x ∷ xs) where
    -- it came at its queue beside what came in turn
    more : (n : ℕ) → row.place ≡ n → at_address (addr_of x.0) (row.turn n) + 1 ≤ at_address (addr_of x.0) (passed.taken n)
    more n e =
        let whole : passed.taken n ≡ row.turn n ++ x ∷ xs = row.taken n ∙ (ap (λ b. row.turn n ++ if_there b row.stray) (eq-eqb row.place n e) ∙ ap (λ l. row.turn n ++ l) is) in
        let count = ap (at_address (addr_of x.0)) whole in
        let parts = at_append (addr_of x.0) (row.turn n) (x ∷ xs) in
        let one = bit_same (addr_of x.0) (addr_of x.0) refl in
        omega (arith, count, parts, one)

    back_in_turn : row.place ≡ input → at_address (addr_of x.0) (row.turn input) < at_address (addr_of x.0) (passed.sent output)
    back_in_turn e =
        let a = more input e in
        let b = at_few (addr_of x.0) (passed.taken input) (passed.sent output) comes_back in
        omega (arith, a, b)

    -- the queue of a client
    client_queue : (k : ℕ) (s : Sender) → slice_get (senders v.work) k ≡ Some s → (q : QueueId) × (slice_get (from_queues v.ends) k ≡ Some q) × (queue_at (from_queues v.ends) k ≡ q.0)
    client_queue k s at =
        let from_each = row.from_each in
        let there = there_below (senders v.work) k s at in
        let q = there_is (from_queues v.ends) k (omega (arith, from_each, there)) in
        (q.0, q.1, ap (λ (y : QueueId). y.0) (get_or_from_slice_get (from_queues v.ends) k q.0 (record { 0 = 0 }) q.1))

    client_in_turn : (k : ℕ) (s : Sender) (at : slice_get (senders v.work) k ≡ Some s) → wild (client_queue k s at).0.0 ≡ false → row.place ≡ queue_at (from_queues v.ends) k → is_good_of s x ≡ true → at_address (addr_of x.0) (row.turn row.place) ≤ at_address (addr_of x.0) (passed.sent (queue_at (to_queues v.ends) k))
    client_in_turn k s at calm e good =
        let to_each = row.to_each in
        let there = there_below (senders v.work) k s at in
        let q = client_queue k s at in
        let r = there_is (to_queues v.ends) k (omega (arith, to_each, there)) in
        let qn : queue_at (from_queues v.ends) k ≡ q.0.0 = q.2 in
        let rn : queue_at (to_queues v.ends) k ≡ r.0.0 = ap (λ (y : QueueId). y.0) (get_or_from_slice_get (to_queues v.ends) k r.0 (record { 0 = 0 }) r.1) in
        let g = good_is s x good in
        let hand = (h.clients k s q.0 r.0 at q.1 r.1 calm).in_hand (number_of x.1) g.0 in
        let put = ap (λ a. at_address a (passed.sent q.0.0)) g.1 in
        let back = ap (λ a. at_address a (passed.taken r.0.0)) g.1 in
        let came = more q.0.0 (e ∙ qn) in
        let here = ap (λ n. at_address (addr_of x.0) (row.turn n)) (e ∙ qn) in
        let goes = ap (λ n. at_address (addr_of x.0) (passed.sent n)) rn in
        let first = at_few (addr_of x.0) (passed.taken q.0.0) (passed.sent q.0.0) (h.sending.hands_over q.0.0) in
        let second = at_few (addr_of x.0) (passed.taken r.0.0) (passed.sent r.0.0) (h.sending.hands_over r.0.0) in
        omega (arith, hand, put, back, came, here, goes, first, second)

    wild_such : IsOutOfTurn input output (from_queues v.ends) (to_queues v.ends) (senders v.work) row.turn passed.sent row.place x → StraysWild wild v row.place row.stray
    wild_such (inl (e, out)) = absurd (out (back_in_turn e))
    wild_such (inr (k, s, at, e, out)) = by (wild (client_queue k s at).0.0) refl
      where
        by : (b : Bool) → wild (client_queue k s at).0.0 ≡ b → StraysWild wild v row.place row.stray
        by true is_wild = let q = client_queue k s at in inr (k, q.0, q.1, e ∙ q.2, is_wild)
        by false calm = absurd (out (λ good. client_in_turn k s at calm e good))

  pub none_stray : StraysWild wild v row.place row.stray
  none_stray = by_stray row.stray refl row.out_of_turn
    where
      by_stray : (l : List Cargo) → row.stray ≡ l → All (IsOutOfTurn input output (from_queues v.ends) (to_queues v.ends) (senders v.work) row.turn passed.sent row.place) row.stray → StraysWild wild v row.place row.stray
      by_stray [] is all = inl is
      by_stray (x ∷ xs) is all = wild_such x xs is (subst (λ l. All (IsOutOfTurn input output (from_queues v.ends) (to_queues v.ends) (senders v.work) row.turn passed.sent row.place) l) is all zero x (omega arith))
