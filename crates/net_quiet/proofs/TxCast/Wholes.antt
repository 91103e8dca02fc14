-- The actors of a whole cast are a sending half, so nothing comes out of turn at the sending
-- virtualiser.
use Rattle.std.proofs.Common.{◌≡◌, ◌==◌, ◌+◌, ◌*◌, ◌++◌, ◌<◌, ◌≤◌, ℕ, zero, suc, Bool, true, false, Some, List, [], ◌∷◌, All, length, map, slice_get, refl, sym, ap, ap₂, ◌∙◌, subst, arith}
use Rattle.std.specs.List.{filter}
use Rattle.std.proofs.lemmas.List.{append-nil}
use Rattle.std.proofs.lemmas.List.Elements.{All-cons}
use Rattle.cargo_core.specs.Lists.{IsPrefix, PrefixMerge}
use Rattle.frame_core.specs.declared.mac.Mac.{Mac}
use Rattle.wire_core.specs.declared.names.QueueId.{QueueId}
use Rattle.wire_core.specs.Deeds.{Cargo}
use Rattle.wire_core.specs.Lists.{Passed, if_there}
use Rattle.wire_core.specs.Queues.{items_of}
use Rattle.play_core.proofs.Lists.{prefix_trans, some_is, there_is, there_below}
use Rattle.play_core.specs.Names.{Wild, by_sort}
use Rattle.client_programs.specs.Net.Clients as client
use Rattle.class_expect.specs.NetExpect.Expecting.{Program, Source}
use Rattle.buffer_kit.specs.Entries.{frame_of}
use Rattle.buffer_kit.specs.Virtualising.{from_queues, to_queues}
use Rattle.client_programs.specs.declared.net.NetClient.{NetClient}
use Rattle.net_virt_tx.specs.declared.NetVirtTx.{NetVirtTx}
use Rattle.net_virt_tx.specs.declared.descriptors.Sender.{Sender}
use Rattle.net_virt_tx.specs.Descriptors.{is_good, to_client}
use Rattle.net_virt_tx.specs.Clients.{at_address}
use Rattle.net_virt_tx.specs.Serving.{IsServed, bad_ones, is_good_of, is_own, own_of}
use Rattle.net_virt_tx.specs.Sending.{TxRow}
use Rattle.net_virt_tx.specs.Traffics.{senders}
use Rattle.net_law.proofs.Beginnings.{begins_map, begins_filter}
use Rattle.net_law.specs.Dropped.{Marks, left_for, sends_upon}
use Rattle.net_law.proofs.DropsLemmas.Leaving.{accepted_there}
use Rattle.net_law.specs.Wire.Sending.{AllBegin}
use Rattle.net_law.specs.Wire.Telling.{told_frames}
use Rattle.net_law.proofs.WireLemmas.Wires.{wire_sends}
use Rattle.net_law.proofs.WireLemmas.Telling.{wire_told}
use Rattle.net_law.specs.Owners.Names.{ClientPools}
use Rattle.owner_law.specs.Pools.Places.{PoolAt}
use Rattle.net_law.specs.Parts.Numbers.{client_first}
use Rattle.net_law.proofs.PartsLemmas.Leasing.{prefix_get}
use Rattle.owner_law.proofs.PoolsLemmas.Merging.{Each, each_begun, kept_is}
use Rattle.net_law.specs.TxParts.Numbers.{NetPlace, shippers_from}
use Rattle.net_law.specs.TxParts.Playing.{sender_pool, shippers}
use Rattle.net_law.specs.TxScene.Playing.{CalmGood}
use Rattle.net_law.proofs.TxParts.Items.{all_same, none_bad}
use Rattle.net_quiet.specs.Cast.Casting.{IsClientAt}
use Rattle.net_quiet.proofs.CastLemmas.Casting.{cast_records}
use Rattle.net_quiet.specs.TxTurns.Turning.{IsSendHalf, SendsFromHand, StraysWild}
use Rattle.net_quiet.proofs.TxTurns.Turning.{comes_back, front, none_stray, takes_good}
use Rattle.net_quiet.specs.TxCast.Casting.{AreClients, AreSends, AreFrames, CalmSend, IsSend, IsClientOf, IsSendingClient, IsWholeCast, NoneHostile, good_frames, net_kept, net_marks, net_used, sends_at, sends_beside, sends_from, wire_at, wire_beside}
use Rattle.net_quiet.proofs.TxCast.Numbers.{Ships, device_sends, driver_sends, client_queues, sender_queues, shippers_are, client_rx}
use Rattle.net_quiet.proofs.TxCast.Entries.{send_good}
use Rattle.net_quiet.proofs.TxCast.Sends as one

all_from : {X : Type 0} (P : X → Type 0) (xs : List X) → ((k : ℕ) (x : X) → slice_get xs k ≡ Some x → P x) → All P xs
all_from P [] each = λ k d l. absurd (omega (arith, l))
all_from P (x ∷ xs) each = All-cons P x xs (each 0 x refl) (all_from P xs (λ k y at. each (suc k) y at))

-- what these are mapped to, where they agree one by one
same_maps : {S T U : Type 0} (f : S → U) (g : T → U) (xs : List S) (ys : List T) → length xs ≡ length ys → ((k : ℕ) (x : S) (y : T) → slice_get xs k ≡ Some x → slice_get ys k ≡ Some y → f x ≡ g y) → map f xs ≡ map g ys
same_maps f g [] [] n same = refl
same_maps f g [] (y ∷ ys) n same = absurd (omega (arith, n))
same_maps f g (x ∷ xs) [] n same = absurd (omega (arith, n))
same_maps f g (x ∷ xs) (y ∷ ys) n same = ap₂ (λ z zs. z ∷ zs) (same 0 x y refl refl) (same_maps f g xs ys (omega (arith, n)) (λ k a b at there. same (suc k) a b at there))

-- what the client of a number sends, where clients may be hostile
module _ (wild : Wild) (first most : ℕ) (marks : Marks) (frames : List (List ℕ)) (passed : Passed) where
  record Sends (n : ℕ) (k : ℕ) (programs : List Program) (macs : List Mac) (pools : List ClientPools) (l : List (List ℕ)) : Type 0 where
    program : Program
    mac : Mac
    q : ClientPools
    plays : slice_get programs k ≡ Some program
    address : slice_get macs k ≡ Some mac
    pooled : slice_get pools k ≡ Some q
    is : by_sort (wild (client_first first n + 4)) (good_frames first most passed n q.tx) (sends_upon program mac (left_for (marks n) mac frames)) ≡ l

  next_sends : (j k : ℕ) (p : Program) (m : Mac) (q : ClientPools) (ps : List Program) (ms : List Mac) (qs : List ClientPools) (l : List (List ℕ)) → Sends (j + 1 + k) k ps ms qs l → Sends (j + suc k) (suc k) (p ∷ ps) (m ∷ ms) (q ∷ qs) l
  next_sends j k p m q ps ms qs l h =
      let shift : j + 1 + k ≡ j + suc k = omega arith in
      record { program = h.program; mac = h.mac; q = h.q; plays = h.plays; address = h.address; pooled = h.pooled; is = subst (λ n. by_sort (wild (client_first first n + 4)) (good_frames first most passed n h.q.tx) (sends_upon h.program h.mac (left_for (marks n) h.mac frames)) ≡ l) shift h.is }

  sends_there : (j : ℕ) (programs : List Program) (macs : List Mac) (pools : List ClientPools) (k : ℕ) (l : List (List ℕ)) → slice_get (sends_from wild first most marks frames passed j programs macs pools) k ≡ Some l → Sends (j + k) k programs macs pools l
  sends_there j [] macs pools k l at = absurd cc
  sends_there j (p ∷ ps) [] pools k l at = absurd cc
  sends_there j (p ∷ ps) (m ∷ ms) [] k l at = absurd cc
  sends_there j (p ∷ ps) (m ∷ ms) (q ∷ qs) zero l at =
      let plus : j ≡ j + 0 = omega arith in
      record { program = p; mac = m; q = q; plays = refl; address = refl; pooled = refl; is = subst (λ n. by_sort (wild (client_first first n + 4)) (good_frames first most passed n q.tx) (sends_upon p m (left_for (marks n) m frames)) ≡ l) plus (some_is at) }
  sends_there j (p ∷ ps) (m ∷ ms) (q ∷ qs) (suc k) l at = next_sends j k p m q ps ms qs l (sends_there (j + 1) ps ms qs k l at)

  sends_many : (j : ℕ) (programs : List Program) (macs : List Mac) (pools : List ClientPools) → length programs ≡ length macs → length pools ≡ length macs → length (sends_from wild first most marks frames passed j programs macs pools) ≡ length macs
  sends_many j [] [] pools e f = refl
  sends_many j [] (m ∷ ms) pools e f = absurd (omega (arith, e))
  sends_many j (p ∷ ps) [] pools e f = absurd (omega (arith, e))
  sends_many j (p ∷ ps) (m ∷ ms) [] e f = absurd (omega (arith, f))
  sends_many j (p ∷ ps) (m ∷ ms) (q ∷ qs) e f = let rest = sends_many (j + 1) ps ms qs (omega (arith, e)) (omega (arith, f)) in omega (arith, rest)

  -- where no client is hostile each sends by its program
  all_calm : (j : ℕ) (programs : List Program) (macs : List Mac) (pools : List ClientPools) → length programs ≡ length macs → length pools ≡ length macs → ((k : ℕ) → k < length pools → wild (client_first first (j + k) + 4) ≡ false) → sends_from wild first most marks frames passed j programs macs pools ≡ sends_at marks j programs macs frames
  all_calm j [] macs pools e f none = refl
  all_calm j (p ∷ ps) [] pools e f none = refl
  all_calm j (p ∷ ps) (m ∷ ms) [] e f none = absurd (omega (arith, f))
  all_calm j (p ∷ ps) (m ∷ ms) (q ∷ qs) e f none =
      let plus : j + 0 ≡ j = omega arith in
      let here : wild (client_first first j + 4) ≡ false = subst (λ n. wild (client_first first n + 4) ≡ false) plus (none 0 (omega arith)) in
      let rest = all_calm (j + 1) ps ms qs (omega (arith, e)) (omega (arith, f)) (λ k lt. let shift : j + suc k ≡ j + 1 + k = omega arith in subst (λ n. wild (client_first first n + 4) ≡ false) shift (none (suc k) (omega (arith, lt)))) in
      ap₂ (λ (b : Bool) (ls : List (List (List ℕ))). by_sort b (good_frames first most passed j q.tx) (sends_upon p m (left_for (marks j) m frames)) ∷ ls) here rest

module _ (net : NetPlace) (frames : List (List ℕ)) (passed : Passed) (h : IsWholeCast net frames passed) where
  -- no frame is longer than a buffer of a client's
  pub client_long : (k : ℕ) (q : ClientPools) → slice_get net.pools k ≡ Some q → {size : ℕ} → size ≡ q.rx.size → (j : ℕ) (f : List ℕ) → slice_get frames j ≡ Some f → length f ≤ size
  client_long k q at is j f f_at = let high = (h.received j f f_at).1 in let fits = (h.fits_client k q at).0 in omega (arith, high, fits, is)

  -- the frames that the device accepted, what copiers dropped, and what a client is sent
  abbrev kept : List (List ℕ)
  kept = net_kept net frames passed.calls

  abbrev marks : Marks
  marks = net_marks net passed.calls

  abbrev sends : ℕ → Program → Mac → List (List ℕ)
  sends k program mac = sends_upon program mac (left_for (marks k) mac kept)

  kept_received : AreFrames net.most kept
  kept_received j f at =
      let there = accepted_there net.device_drops (net_used net passed.calls) frames j f at in
      h.received there.0 f there.1

  -- what the client of a number recorded
  recorded : (k : ℕ) (program : Program) (mac : Mac) (q : ClientPools) → IsClientOf net k program mac q → (c : NetClient) → IsSendingClient net k program mac q c passed → IsPrefix c.frames.tape.shown (left_for (marks k) mac kept)
  recorded k program mac q of c is =
      let own = client_queues net.first k program mac q c is.part in
      let at : IsClientAt net.first k frames c passed = record { active = own.0; free = own.1; long = λ j f f_at. client_long k q of.pools (client_rx net.first k program mac q c is.part) j f f_at; some = is.some; row = is.row } in
      cast_records net.first net.device_drops frames net.pool net.macs net.drops passed h.half k mac of.address c at

  scripts_of : (k : ℕ) (program : Program) (mac : Mac) (q : ClientPools) → IsClientOf net k program mac q → (script : List (List ℕ)) → program ≡ Source script → AreFrames net.most script
  scripts_of k program mac q of script is = h.scripts k script (of.plays ∙ ap (λ (p : Program). Some p) is)

  module _ (k : ℕ) (program : Program) (mac : Mac) (q : ClientPools) (of : IsClientOf net k program mac q) (c : NetClient) (is : IsSendingClient net k program mac q c passed) where
    own : (client.rx_active c ≡ client_first net.first k + 2) × (client.rx_free c ≡ client_first net.first k + 3) × (client.tx_active c ≡ client_first net.first k + 4) × (client.tx_free c ≡ client_first net.first k + 5)
    own = client_queues net.first k program mac q c is.part

    pub client_puts : AreSends net.most q.tx (passed.taken (client_first net.first k + 5)) → AreSends net.most q.tx (passed.sent (client_first net.first k + 4))
    client_puts back =
        subst (λ n. AreSends net.most q.tx (passed.sent n)) own.2
        (one.puts net k program mac q kept c passed is (marks k) (h.addresses k mac of.address) kept_received (scripts_of k program mac q of) (recorded k program mac q of c is) (h.fits_client k q of.pools).1 (subst (λ n. AreSends net.most q.tx (passed.taken n)) (sym own.3) back))

    client_hand : (b : ℕ) → at_address (b * q.tx.size) (passed.sent (client_first net.first k + 4)) ≤ at_address (b * q.tx.size) (passed.taken (client_first net.first k + 5)) + 1
    client_hand b =
        let hand = one.in_hand net k program mac q kept c passed is (marks k) (h.addresses k mac of.address) kept_received (scripts_of k program mac q of) (recorded k program mac q of c is) (h.fits_client k q of.pools).1 b in
        let put = ap (λ n. at_address (b * q.tx.size) (passed.sent n)) own.2 in
        let back = ap (λ n. at_address (b * q.tx.size) (passed.taken n)) own.3 in
        omega (arith, hand, put, back)

    pub client_begins : AreSends net.most q.tx (passed.taken (client_first net.first k + 5)) → IsPrefix (map frame_of (passed.sent (client_first net.first k + 4))) (sends k program mac)
    client_begins back =
        subst (λ n. IsPrefix (map frame_of (passed.sent n)) (sends k program mac)) own.2
        (one.begins net k program mac q kept c passed is (marks k) (h.addresses k mac of.address) kept_received (scripts_of k program mac q of) (recorded k program mac q of c is) (h.fits_client k q of.pools).1 (subst (λ n. AreSends net.most q.tx (passed.taken n)) (sym own.3) back))

  -- the client of a number is there
  client_there : (k : ℕ) (q : ClientPools) → slice_get net.pools k ≡ Some q → (program : Program) × (mac : Mac) × IsClientOf net k program mac q
  client_there k q at =
      let below = there_below net.pools k q at in
      let pools_many = h.pools_many in
      let programs_many = h.programs_many in
      let mac = there_is net.macs k (omega (arith, below, pools_many)) in
      let program = there_is net.programs k (omega (arith, below, pools_many, programs_many)) in
      (program.0, mac.0, record { address = mac.1; pools = at; plays = program.1 })

  -- with a row of the sending virtualiser
  module _ (row : TxRow h.sender passed) where
    abbrev v : NetVirtTx
    v = h.sender

    -- what came in turn is a beginning of what came
    in_turn : (n : ℕ) → IsPrefix (row.turn n) (passed.taken n)
    in_turn n = (if_there (row.place == n) row.stray, sym (row.taken n))

    virtualised : (v.ends.output.queue.0 ≡ net.first + 6) × (v.ends.input.queue.0 ≡ net.first + 7) × (shippers (senders v.work) (from_queues v.ends) (to_queues v.ends) ≡ shippers_from net.first net.most 0 net.pools)
    virtualised = sender_queues net.first net.most net.pools v h.sender_at.part

    shipped : (length (senders v.work) ≡ length net.pools) × ((k : ℕ) (s : Sender) (q r : QueueId) → slice_get (senders v.work) k ≡ Some s → slice_get (from_queues v.ends) k ≡ Some q → slice_get (to_queues v.ends) k ≡ Some r → (p : ClientPools) × (slice_get net.pools k ≡ Some p) × Ships net.first net.most (0 + k) s q r p)
    shipped = shippers_are net.first net.most 0 (senders v.work) net.pools (from_queues v.ends) (to_queues v.ends) row.from_each row.to_each virtualised.2

    -- a client's place among the virtualiser's
    ships_at : (k : ℕ) (s : Sender) (q r : QueueId) → slice_get (senders v.work) k ≡ Some s → slice_get (from_queues v.ends) k ≡ Some q → slice_get (to_queues v.ends) k ≡ Some r → (p : ClientPools) × (slice_get net.pools k ≡ Some p) × Ships net.first net.most k s q r p
    ships_at k s q r at fat tat =
        let x = shipped.1 k s q r at fat tat in
        let plus : 0 + k ≡ k = omega arith in
        (x.0, x.1, subst (λ n. Ships net.first net.most n s q r x.0) plus x.2)

    -- the virtualiser's client of a number
    place_of : (k : ℕ) (p : ClientPools) → slice_get net.pools k ≡ Some p → (s : Sender) × (q : QueueId) × (r : QueueId) × (slice_get (senders v.work) k ≡ Some s) × (slice_get (from_queues v.ends) k ≡ Some q) × (slice_get (to_queues v.ends) k ≡ Some r) × Ships net.first net.most k s q r p
    place_of k p at =
        let below = there_below net.pools k p at in
        let many = shipped.0 in
        let from_each = row.from_each in
        let to_each = row.to_each in
        let s = there_is (senders v.work) k (omega (arith, below, many)) in
        let q = there_is (from_queues v.ends) k (omega (arith, below, many, from_each)) in
        let r = there_is (to_queues v.ends) k (omega (arith, below, many, to_each)) in
        let x = ships_at k s.0 q.0 r.0 s.1 q.1 r.1 in
        let same : x.0 ≡ p = some_is (sym x.1 ∙ at) in
        (s.0, q.0, r.0, s.1, q.1, r.1, subst (Ships net.first net.most k s.0 q.0 r.0) same x.2)

    -- the virtualiser's way round, whoever is hostile
    half_by : (wild : Wild) → ((k : ℕ) (s : Sender) (q r : QueueId) → slice_get (senders v.work) k ≡ Some s → slice_get (from_queues v.ends) k ≡ Some q → slice_get (to_queues v.ends) k ≡ Some r → wild q.0 ≡ false → SendsFromHand s (passed.sent q.0) (passed.taken r.0)) → IsSendHalf wild h.half.device h.half.driver v passed
    half_by wild clients =
        let wire = device_sends net.first frames net.device_drops h.half.device h.device_at in
        let driven = driver_sends net.first h.half.driver h.half.driver_at.part in
        record {
          sending = record {
            hands_over = h.half.hands_over;
            virtualiser = row;
            driver = h.half.driver_at.row;
            device = h.half.device_at.row;
            to_driver = driven.0 ∙ sym virtualised.0;
            to_device = wire.0 ∙ sym driven.1;
          };
          from_device = driven.2 ∙ sym wire.1;
          from_driver = virtualised.1 ∙ sym driven.3;
          clients = clients;
        }

    -- what came back is a beginning of what went to the driver
    returned : IsPrefix (row.turn v.ends.input.queue.0) (passed.sent v.ends.output.queue.0)
    returned =
        let input = v.ends.input.queue.0 in
        let all = half_by (λ n. true) (λ k s q r at fat tat calm. absurd cc) in
        prefix_trans (row.turn input) (passed.taken input) (passed.sent v.ends.output.queue.0) (in_turn input) (comes_back (λ n. true) h.half.device h.half.driver v passed all)

    -- a client that put good descriptors alone
    module _ (k : ℕ) (p : ClientPools) (sends : AreSends net.most p.tx (passed.sent (client_first net.first k + 4))) (s : Sender) (q r : QueueId) (ships : Ships net.first net.most k s q r p) where
      goods : All (λ (c : Cargo). is_good_of s c ≡ true) (passed.sent q.0)
      goods = all_from (λ (c : Cargo). is_good_of s c ≡ true) (passed.sent q.0) (λ j c c_at. send_good s p.tx c ships.0 (subst (λ m. IsSend m p.tx c) (sym ships.3) (sends j c (ap (λ n. slice_get (passed.sent n) j) (sym ships.1) ∙ c_at))))

      -- what went back to it it had put before
      went_back : slice_get (senders v.work) k ≡ Some s → slice_get (from_queues v.ends) k ≡ Some q → slice_get (to_queues v.ends) k ≡ Some r → Each (IsSend net.most p.tx) (passed.sent r.0)
      went_back s_at q_at r_at = each_begun (IsSend net.most p.tx) (bad_ones s (row.turn q.0) ∷ own_of s (row.turn v.ends.input.queue.0) ∷ []) (passed.sent r.0) served.gives_back both
        where
          input : ℕ
          input = v.ends.input.queue.0

          output : ℕ
          output = v.ends.output.queue.0

          served : IsServed s (row.turn q.0) (passed.sent output) (row.turn input) (passed.sent r.0)
          served = row.serves k s q r s_at q_at r_at

          put : IsPrefix (row.turn q.0) (passed.sent q.0)
          put = prefix_trans (row.turn q.0) (passed.taken q.0) (passed.sent q.0) (in_turn q.0) (h.half.hands_over q.0)

          bads : bad_ones s (row.turn q.0) ≡ []
          bads = none_bad s (row.turn q.0) (front (λ (c : Cargo). is_good_of s c ≡ true) (row.turn q.0) (passed.sent q.0) put goods)

          begun : IsPrefix (own_of s (row.turn input)) (own_of s (passed.sent output))
          begun = begins_map (to_client s.base) (filter (is_own s) (row.turn input)) (filter (is_own s) (passed.sent output)) (begins_filter (is_own s) (row.turn input) (passed.sent output) returned)

          owned : Each (IsSend net.most p.tx) (own_of s (row.turn input))
          owned j c c_at =
              let went = prefix_get (own_of s (row.turn input)) (own_of s (passed.sent output)) begun j c c_at in
              let came = prefix_get (own_of s (passed.sent output)) (filter (is_good_of s) (row.turn q.0)) served.sends j c went in
              let kept = (kept_is (is_good_of s) (row.turn q.0) j c came).1 in
              let sent = prefix_get (row.turn q.0) (passed.sent q.0) put kept.0 c kept.1 in
              sends kept.0 c (ap (λ n. slice_get (passed.sent n) kept.0) (sym ships.1) ∙ sent)

          both : Each (Each (IsSend net.most p.tx)) (bad_ones s (row.turn q.0) ∷ own_of s (row.turn input) ∷ [])
          both zero l l_at = subst (Each (IsSend net.most p.tx)) (sym bads ∙ some_is l_at) (λ j c c_at. cc)
          both (suc zero) l l_at = subst (Each (IsSend net.most p.tx)) (some_is l_at) owned
          both (suc (suc j)) l l_at = cc

    pub back_is : (k : ℕ) (program : Program) (mac : Mac) (q : ClientPools) → IsClientOf net k program mac q → AreSends net.most q.tx (passed.sent (client_first net.first k + 4)) → AreSends net.most q.tx (passed.taken (client_first net.first k + 5))
    back_is k program mac q of sends j c at =
        let x = place_of k q of.pools in
        let n = client_first net.first k + 5 in
        let put = prefix_get (passed.taken n) (passed.sent n) (h.half.hands_over n) j c at in
        went_back k q sends x.0 x.1 x.2 x.6 x.3 x.4 x.5 j c (ap (λ i. slice_get (passed.sent i) j) x.6.2 ∙ put)

    module _ (wild : Wild) (clients : AreClients wild net passed) (send : CalmSend wild net passed) where
      -- whether the client of a number is hostile, by the virtualiser's queue
      calm_at : (k : ℕ) (s : Sender) (q r : QueueId) (p : ClientPools) → Ships net.first net.most k s q r p → wild q.0 ≡ false → wild (client_first net.first k + 4) ≡ false
      calm_at k s q r p ships calm = ap wild (sym ships.1) ∙ calm

      from_hand : (k : ℕ) (s : Sender) (q r : QueueId) → slice_get (senders v.work) k ≡ Some s → slice_get (from_queues v.ends) k ≡ Some q → slice_get (to_queues v.ends) k ≡ Some r → wild q.0 ≡ false → SendsFromHand s (passed.sent q.0) (passed.taken r.0)
      from_hand k s q r at fat tat calm =
          let x = ships_at k s q r at fat tat in
          let of = client_there k x.0 x.1 in
          let calm_k = calm_at k s q r x.0 x.2 calm in
          let c = clients k of.0 of.1 x.0 of.2 calm_k in
          record {
            good = goods k x.0 (send k x.0 x.1 calm_k) s q r x.2;
            in_hand = λ b lt.
                let hand = client_hand k of.0 of.1 x.0 of.2 c.0 c.1 b in
                let long : x.0.tx.size ≡ s.size = sym (ap (λ (p : PoolAt). p.size) x.2.0) in
                let put = ap₂ (λ z n. at_address (b * z) (passed.sent n)) (sym long) x.2.1 in
                let back = ap₂ (λ z n. at_address (b * z) (passed.taken n)) (sym long) x.2.2 in
                omega (arith, hand, put, back);
          }

      half_with : IsSendHalf wild h.half.device h.half.driver v passed
      half_with = half_by wild from_hand

      pub none_out : StraysWild wild v row.place row.stray
      unfolding half_with half_by
      none_out = none_stray wild h.half.device h.half.driver v passed half_with

      pub good_taken : CalmGood wild v passed
      good_taken = takes_good wild h.half.device h.half.driver v passed half_with

      begun_is : (k : ℕ) (program : Program) (mac : Mac) (q : ClientPools) → IsClientOf net k program mac q → wild (client_first net.first k + 4) ≡ false → IsPrefix (map frame_of (passed.sent (client_first net.first k + 4))) (sends k program mac)
      begun_is k program mac q of calm =
          let c = clients k program mac q of calm in
          client_begins k program mac q of c.0 c.1 (back_is k program mac q of (send k q of.pools calm))

      -- the frames of the good descriptors that came from a client are a beginning of what it sends
      good_begin : (k : ℕ) (s : Sender) (q r : QueueId) (p : ClientPools) → Ships net.first net.most k s q r p → (program : Program) (mac : Mac) → IsClientOf net k program mac p → (b : Bool) → wild (client_first net.first k + 4) ≡ b
          → IsPrefix (map frame_of (filter (is_good_of s) (passed.taken q.0))) (by_sort b (good_frames net.first net.most passed k p.tx) (sends k program mac))
      good_begin k s q r p ships program mac of true is_wild =
          let same : map frame_of (filter (is_good_of s) (passed.taken q.0)) ≡ good_frames net.first net.most passed k p.tx = good_same s q.0 p.tx ships.0 ships.3 ∙ ap (λ n. map frame_of (filter (is_good (record { 0 = p.tx.number }) p.tx.buffers p.tx.size net.most) (passed.taken n))) ships.1 in
          ([], append-nil (map frame_of (filter (is_good_of s) (passed.taken q.0))) ∙ same)
        where
          good_same : (s : Sender) (n : ℕ) (pool : PoolAt) → sender_pool s ≡ pool → s.most ≡ net.most → map frame_of (filter (is_good_of s) (passed.taken n)) ≡ map frame_of (filter (is_good (record { 0 = pool.number }) pool.buffers pool.size net.most) (passed.taken n))
          good_same s n pool own most = ap₂ (λ (x : PoolAt) (m : ℕ). map frame_of (filter (is_good (record { 0 = x.number }) x.buffers x.size m) (passed.taken n))) own most
      good_begin k s q r p ships program mac of false calm =
          let taken = passed.taken q.0 in
          let sent = passed.sent q.0 in
          let good = goods k p (send k p of.pools calm) s q r ships in
          let begun = begins_map frame_of (filter (is_good_of s) taken) (filter (is_good_of s) sent) (begins_filter (is_good_of s) taken sent (h.half.hands_over q.0)) in
          let all = subst (λ x. IsPrefix (map frame_of (filter (is_good_of s) taken)) (map frame_of x)) (all_same s sent good) begun in
          let sent_begin = subst (λ n. IsPrefix (map frame_of (passed.sent n)) (sends k program mac)) (sym ships.1) (begun_is k program mac p of calm) in
          prefix_trans (map frame_of (filter (is_good_of s) taken)) (map frame_of sent) (sends k program mac) all sent_begin

      all_begin : AllBegin v passed (sends_beside wild net frames passed)
      all_begin = record {
        as_many =
            let a = shipped.0 in
            let b = sends_many wild net.first net.most marks kept passed 0 net.programs net.macs net.pools h.programs_many h.pools_many in
            let c = h.pools_many in
            omega (arith, a, b, c);
        each = λ k s q l at fat lat.
            let to_each = row.to_each in
            let below = there_below (senders v.work) k s at in
            let r = there_is (to_queues v.ends) k (omega (arith, below, to_each)) in
            let x = ships_at k s q r.0 at fat r.1 in
            let f = sends_there wild net.first net.most marks kept passed 0 net.programs net.macs net.pools k l lat in
            let plus : 0 + k ≡ k = omega arith in
            let same : f.q ≡ x.0 = some_is (sym f.pooled ∙ x.1) in
            let of : IsClientOf net k f.program f.mac x.0 = record { address = f.address; pools = x.1; plays = f.plays } in
            let is : by_sort (wild (client_first net.first k + 4)) (good_frames net.first net.most passed k x.0.tx) (sends k f.program f.mac) ≡ l = subst (λ (p : ClientPools). by_sort (wild (client_first net.first k + 4)) (good_frames net.first net.most passed k p.tx) (sends k f.program f.mac) ≡ l) same (subst (λ n. by_sort (wild (client_first net.first n + 4)) (good_frames net.first net.most passed n f.q.tx) (sends n f.program f.mac) ≡ l) plus f.is) in
            subst (IsPrefix (map frame_of (filter (is_good_of s) (passed.taken q.0)))) is (good_begin k s q r.0 x.0 x.2 f.program f.mac of (wild (client_first net.first k + 4)) refl);
      }

      pub wire_is : PrefixMerge (sends_beside wild net frames passed) h.half.device.wire.tape.shown
      wire_is = wire_sends h.half.device h.half.driver v passed half_with.sending (sends_beside wild net frames passed) all_begin

      -- the virtualiser's clients have these pools
      pools_are : map sender_pool (senders v.work) ≡ map (λ (q : ClientPools). q.tx) net.pools
      pools_are = same_maps sender_pool (λ (q : ClientPools). q.tx) (senders v.work) net.pools shipped.0 (λ k s q at there.
          let x = place_of k q there in
          let same : x.0 ≡ s = some_is (sym x.3 ∙ at) in
          ap sender_pool (sym same) ∙ x.6.0)

      pub wire_by : h.half.device.wire.tape.shown ≡ wire_beside wild net frames passed
      wire_by = wire_told h.half.device h.half.driver v passed half_with.sending (sends_beside wild net frames passed) all_begin ∙ ap₂ (λ ps n. told_frames ps (sends_beside wild net frames passed) (items_of (passed.taken n))) pools_are (device_sends net.first frames net.device_drops h.half.device h.device_at).0

-- where no client is hostile
module _ (wild : Wild) (net : NetPlace) (frames : List (List ℕ)) (passed : Passed) (h : IsWholeCast net frames passed) (none : NoneHostile wild net) where
  pub sends_calm : sends_beside wild net frames passed ≡ sends_at (net_marks net passed.calls) 0 net.programs net.macs (net_kept net frames passed.calls)
  sends_calm = all_calm wild net.first net.most (net_marks net passed.calls) (net_kept net frames passed.calls) passed 0 net.programs net.macs net.pools h.programs_many h.pools_many (λ k lt. let plus : k ≡ 0 + k = omega arith in subst (λ n. wild (client_first net.first n + 4) ≡ false) plus (none k lt))

  pub wire_calm : wire_beside wild net frames passed ≡ wire_at net (net_marks net passed.calls) (net_kept net frames passed.calls) (items_of (passed.taken (net.first + 2)))
  wire_calm = ap (λ l. told_frames (map (λ (q : ClientPools). q.tx) net.pools) l (items_of (passed.taken (net.first + 2)))) sends_calm
