use Rattle.std.proofs.Common.{◌≡◌, ◌<◌, ◌≤◌, ◌+◌, ◌*◌, ◌++◌, ℕ, Some, List, length, length-append, map, slice_get, sum_by, filter, refl, sym, ap, ◌∙◌, arith}
use Rattle.std.proofs.lemmas.List.{length-map}
use Rattle.cargo_core.specs.Lists.{IsPrefix}
use Rattle.wire_core.specs.declared.names.QueueRow.{QueueRow}
use Rattle.wire_core.specs.declared.names.Entry.{Entry}
use Rattle.wire_core.specs.Journal.{History, Hostiles, QueuesFlow}
use Rattle.wire_core.specs.Marks.{sum_below}
use Rattle.wire_core.specs.Ends.{Consumer}
use Rattle.play_core.specs.Moved.{Moved, moved, gone_at}
use Rattle.play_core.specs.Sheets.{Scene}
use Rattle.play_core.proofs.Lists.{there_is, there_below}
use Rattle.frame_core.specs.declared.mac.Mac.{Mac}
use Rattle.class_expect.specs.NetExpect.Expecting.{Program}
use Rattle.net_law.specs.Owners.Names.{ClientPools}
use Rattle.owner_law.specs.Pools.Places.{by_offset, numbers_from}
use Rattle.owner_law.proofs.Sums.{sum_none}
use Rattle.owner_law.proofs.Counting.{below_plus}
use Rattle.net_law.specs.Parts.Rows.{FillsSome, CopiesSome, ServesClient, SharesFrames, given_item, given_items}
use Rattle.net_law.proofs.PartsLemmas.Plain.{numbers_length, fill_hops, few_hops}
use Rattle.net_law.specs.Parts.Numbers.{client_first, lessees_from, policy_at}
use Rattle.net_law.proofs.PartsLemmas.Counting.{below_few}
use Rattle.net_law.specs.TxParts.Rows.{MergesSends, all_sends, in_range}
use Rattle.net_law.specs.TxParts.Numbers.{NetPlace, own_pools, sender_at}
use Rattle.play_core.proofs.Walks.{begins_few}
use Rattle.net_law.specs.Hops.Hops.{net_put, net_gone, net_moves, script_frames, IsNetwork}
use Rattle.net_law.proofs.HopsLemmas.Sums.{sum_parts, sum_sixes, times_each, below_list, each_is}
use Rattle.net_law.proofs.HopsLemmas.Queues.{sends_few, leases_few, frees_few, lessee_there, shipper_there, came_from, sends_total, merge_few, ranges_few, home_few}

module _ (scene : Scene) (fs : List (List ℕ)) (hostile : Hostiles) (history : History) (rows : List QueueRow) (j : List Entry) (net : NetPlace) (flows : QueuesFlow history rows j) (w : IsNetwork scene fs hostile rows (moved history j) net) where
  abbrev m : Moved
  m = moved history j

  -- what was put to a queue of the class, and what was taken there
  abbrev put : ℕ → ℕ
  put i = length (m.sent (net.first + i))

  abbrev got : ℕ → ℕ
  got i = length (m.taken (net.first + i))

  abbrev count : ℕ
  count = length net.macs

  abbrev frames : ℕ
  frames = length fs

  flow : (i : ℕ) → i < 8 + 6 * count → got i ≤ put i
  flow i there = let h = w.holds i there in begins_few (m.taken (net.first + i)) (m.sent (net.first + i)) (flows (net.first + i) h.row h.there).begins

  -- how many frames the device dropped, and the copier of a client
  abbrev lost : ℕ
  lost = gone_at net.device_drops m Consumer net.first

  abbrev lost_for : ℕ → ℕ
  lost_for k = gone_at (policy_at net.drops k) m Consumer (client_first net.first k + 3)

  device_row : FillsSome net.device_drops lost fs (m.taken net.first) (m.sent (net.first + 1)) (m.taken (net.first + 2)) (m.sent (net.first + 3))
  device_row = w.device

  driver_copies : (a b : ℕ) → IsPrefix (m.sent (net.first + a)) (m.taken (net.first + b)) → put a ≤ got b
  driver_copies a b h = begins_few (m.sent (net.first + a)) (m.taken (net.first + b)) h

  -- the device fills and drops no more than there are frames
  filled : put 1 + lost ≤ frames
  filled = fill_hops device_row.marks net.device_drops lost fs (m.taken net.first) (m.sent (net.first + 1)) (m.taken (net.first + 2)) (m.sent (net.first + 3)) device_row.out

  returned : put 3 ≤ got 2
  returned = begins_few _ _ device_row.out.returns

  received : put 4 ≤ got 1
  received = driver_copies 4 1 (w.driver 1 _ refl)

  freed : put 0 ≤ got 5
  freed = let a = begins_few _ _ (w.driver 0 _ refl) in let e : put 0 ≡ length (m.sent net.first) = ap (λ n. length (m.sent n)) (omega arith) in omega (arith, a, e)

  shipped : put 2 ≤ got 6
  shipped = driver_copies 2 6 (w.driver 2 _ refl)

  back : put 7 ≤ got 3
  back = driver_copies 7 3 (w.driver 3 _ refl)

  receiver_row : SharesFrames scene.frames (net.first + 4) (net.first + 5) net.pool (lessees_from net.first 0 net.macs) m
  receiver_row = w.receiver

  frees : put 5 ≤ net.pool.buffers + got 4
  frees = frees_few scene.frames (net.first + 4) (net.first + 5) net.pool (lessees_from net.first 0 net.macs) m receiver_row

  -- the queue at a place of a client
  abbrev at : (i k : ℕ) → ℕ
  at i k = 8 + (i + 6 * k)

  at_is : (i k : ℕ) → client_first net.first k + i ≡ net.first + at i k
  at_is i k = omega arith

  put_at : (i k : ℕ) → length (m.sent (client_first net.first k + i)) ≡ put (at i k)
  put_at i k = ap (λ n. length (m.sent n)) (at_is i k)

  got_at : (i k : ℕ) → length (m.taken (client_first net.first k + i)) ≡ got (at i k)
  got_at i k = ap (λ n. length (m.taken n)) (at_is i k)

  client_flow : (i k : ℕ) → i < 6 → k < count → got (at i k) ≤ put (at i k)
  client_flow i k few there = flow (at i k) (omega (arith, few, there))

  -- a client is lent no more leases than frames came
  lent : (k : ℕ) (mac : Mac) → slice_get net.macs k ≡ Some mac → put (at 0 k) ≤ frames
  lent k mac there =
      let c = lessee_there net.first 0 net.macs k mac there in
      let lends = begins_few _ _ (receiver_row.lends k c.0 c.1) in
      let few = leases_few scene.frames net.pool.base c.0.mac 0 (m.taken (net.first + 4)) in
      let is : length (m.sent c.0.active) ≡ put (at 0 k) = ap (λ n. length (m.sent n)) (c.2 ∙ omega arith) in
      let a = flow 4 (omega arith) in
      let b = flow 1 (omega arith) in
      omega (arith, lends, few, is, a, b, received, filled)

  module _ (k : ℕ) (mac : Mac) (there : slice_get net.macs k ≡ Some mac) where
    below : k < count
    below = there_below net.macs k mac there

    copies : CopiesSome (lost_for k) (m.taken (client_first net.first k)) (m.taken (client_first net.first k + 3)) (m.sent (client_first net.first k + 2)) (m.sent (client_first net.first k + 1))
    copies = w.copier k below

    leased : length (m.taken (client_first net.first k)) ≤ frames
    leased =
        let is : length (m.taken (client_first net.first k)) ≡ got (at 0 k) = ap (λ n. length (m.taken n)) (omega arith) in
        let a = client_flow 0 k (omega arith) below in
        let b = lent k mac there in
        omega (arith, is, a, b)

    given_back : put (at 1 k) ≤ frames
    given_back = let a = begins_few _ _ copies.out.gives_back in let e = put_at 1 k in omega (arith, a, e, leased)

    copied : put (at 2 k) + lost_for k ≤ frames
    copied =
        let a = few_hops copies.marks (lost_for k) (m.taken (client_first net.first k)) (m.taken (client_first net.first k + 3)) (m.sent (client_first net.first k + 2)) (m.sent (client_first net.first k + 1)) copies.out in
        let e = put_at 2 k in
        omega (arith, a, e, leased)

    came : length (m.taken (client_first net.first k + 2)) ≤ frames
    came = let e = got_at 2 k in let a = client_flow 2 k (omega arith) below in omega (arith, e, a, copied)

  module _ (k : ℕ) (mac : Mac) (q : ClientPools) (program : Program) (there : slice_get net.macs k ≡ Some mac) (pooled : slice_get net.pools k ≡ Some q) (runs : slice_get net.programs k ≡ Some program) where
    serves : ServesClient program mac (by_offset (own_pools q).rx) (by_offset (own_pools q).tx) (m.taken (client_first net.first k + 2)) (m.sent (client_first net.first k + 3)) (m.taken (client_first net.first k + 5)) (m.sent (client_first net.first k + 4))
    serves = w.client k program mac q runs there pooled

    freed_by : put (at 3 k) ≤ q.rx.buffers + frames
    freed_by =
        let own = by_offset (own_pools q).rx in
        let a = begins_few _ _ serves.given in
        let b = length-append (given_items own) (m.taken (client_first net.first k + 2)) in
        let c = length-map (numbers_from 0 q.rx.buffers) (given_item own) in
        let d = numbers_length 0 q.rx.buffers in
        let e = put_at 3 k in
        let f = came k mac there in
        omega (arith, a, b, c, d, e, f)

    sent_by : put (at 4 k) ≤ script_frames program + frames
    sent_by =
        let a = begins_few _ _ serves.sends.filled in
        let b = sends_few program mac (m.taken (client_first net.first k + 2)) (given_items (by_offset (own_pools q).tx) ++ m.taken (client_first net.first k + 5)) in
        let e = put_at 4 k in
        let f = came k mac there in
        omega (arith, a, b, e, f)

  sends_row : MergesSends (sender_at net.first net.most net.pools) m
  sends_row = w.sender

  mac_of : (k : ℕ) → k < count → (mac : Mac) × (slice_get net.macs k ≡ Some mac)
  mac_of k there = there_is net.macs k there

  pools_of : (k : ℕ) → k < count → (q : ClientPools) × (slice_get net.pools k ≡ Some q)
  pools_of k there = there_is net.pools k (let e = w.pools_many in omega (arith, e, there))

  program_of : (k : ℕ) → k < count → (p : Program) × (slice_get net.programs k ≡ Some p)
  program_of k there = there_is net.programs k (let e = w.programs_many in omega (arith, e, there))

  -- the sums over the clients
  abbrev all : ℕ → ℕ
  all i = sum_below (λ k. put (at i k)) count

  no_more : sum_by (λ (mac : Mac). 0) net.macs ≡ 0
  no_more = sum_none (λ (mac : Mac). 0) net.macs (λ i x a. refl)

  by_macs : (i : ℕ) → ((k : ℕ) (mac : Mac) → slice_get net.macs k ≡ Some mac → put (at i k) ≤ frames) → all i ≤ times_each net.macs frames
  by_macs i h =
      let each : (k : ℕ) (mac : Mac) → slice_get net.macs k ≡ Some mac → put (at i (0 + k)) ≤ 0 + frames = λ k mac there. let one = h k mac there in let same : put (at i (0 + k)) ≡ put (at i k) = ap (λ n. put (at i n)) (let z : 0 + k ≡ k = omega arith in z) in omega (arith, one, same) in
      let a = below_list (λ k. put (at i k)) (λ (mac : Mac). 0) frames 0 net.macs each in
      let size : all i ≡ sum_below (λ k. put (at i k)) (0 + count) = ap (sum_below (λ k. put (at i k))) (let z : count ≡ 0 + count = omega arith in z) in
      omega (arith, a, no_more, size)

  all_lent : all 0 ≤ times_each net.macs frames
  all_lent = by_macs 0 lent

  all_given : all 1 ≤ times_each net.macs frames
  all_given = by_macs 1 given_back

  all_copied : all 2 + sum_below lost_for count ≤ times_each net.macs frames
  all_copied =
      let each : (k : ℕ) (mac : Mac) → slice_get net.macs k ≡ Some mac → put (at 2 (0 + k)) + lost_for (0 + k) ≤ 0 + frames = λ k mac there. let one = copied k mac there in let same : put (at 2 (0 + k)) + lost_for (0 + k) ≡ put (at 2 k) + lost_for k = ap (λ n. put (at 2 n) + lost_for n) (let z : 0 + k ≡ k = omega arith in z) in omega (arith, one, same) in
      let a = below_list (λ k. put (at 2 k) + lost_for k) (λ (mac : Mac). 0) frames 0 net.macs each in
      let size : sum_below (λ k. put (at 2 k) + lost_for k) count ≡ sum_below (λ k. put (at 2 k) + lost_for k) (0 + count) = ap (sum_below (λ k. put (at 2 k) + lost_for k)) (let z : count ≡ 0 + count = omega arith in z) in
      let both = below_plus (λ k. put (at 2 k)) lost_for count in
      omega (arith, a, no_more, size, both)

  all_freed : all 3 ≤ sum_by (λ (q : ClientPools). q.rx.buffers) net.pools + times_each net.pools frames
  all_freed =
      let a = below_list (λ k. put (at 3 k)) (λ (q : ClientPools). q.rx.buffers) frames 0 net.pools
      (λ k q pooled. by_pool k q pooled) in
      let size : all 3 ≡ sum_below (λ k. put (at 3 k)) (0 + length net.pools) = ap (sum_below (λ k. put (at 3 k))) (let e = w.pools_many in omega (arith, e)) in
      omega (arith, a, size)
    where
      by_pool : (k : ℕ) (q : ClientPools) → slice_get net.pools k ≡ Some q → put (at 3 (0 + k)) ≤ q.rx.buffers + frames
      by_pool k q pooled =
          let lt = there_below net.pools k q pooled in
          let b : k < count = (let e = w.pools_many in omega (arith, e, lt)) in
          let mac = mac_of k b in
          let p = program_of k b in
          let one = freed_by k mac.0 q p.0 mac.1 pooled p.1 in
          let same : put (at 3 (0 + k)) ≡ put (at 3 k) = ap (λ n. put (at 3 n)) (let z : 0 + k ≡ k = omega arith in z) in
          omega (arith, one, same)

  all_sent_by : all 4 ≤ sum_by script_frames net.programs + times_each net.programs frames
  all_sent_by =
      let a = below_list (λ k. put (at 4 k)) script_frames frames 0 net.programs
      (λ k p runs. by_program k p runs) in
      let size : all 4 ≡ sum_below (λ k. put (at 4 k)) (0 + length net.programs) = ap (sum_below (λ k. put (at 4 k))) (let e = w.programs_many in omega (arith, e)) in
      omega (arith, a, size)
    where
      by_program : (k : ℕ) (p : Program) → slice_get net.programs k ≡ Some p → put (at 4 (0 + k)) ≤ script_frames p + frames
      by_program k p runs =
          let lt = there_below net.programs k p runs in
          let b : k < count = (let e = w.programs_many in omega (arith, e, lt)) in
          let mac = mac_of k b in
          let q = pools_of k b in
          let one = sent_by k mac.0 q.0 p mac.1 q.1 runs in
          let same : put (at 4 (0 + k)) ≡ put (at 4 k) = ap (λ n. put (at 4 n)) (let z : 0 + k ≡ k = omega arith in z) in
          omega (arith, one, same)

  -- the sending virtualiser passes on what came from the clients
  merged : put 6 ≤ all 4
  merged =
      let a = merge_few (all_sends (sender_at net.first net.most net.pools).clients m) (m.sent (net.first + 6)) sends_row.merges in
      let b = sends_total net.first net.most m 0 net.pools in
      let size : sum_below (came_from net.first m) (0 + length net.pools) ≡ sum_below (came_from net.first m) count = ap (sum_below (came_from net.first m)) (let e = w.pools_many in omega (arith, e)) in
      let c : sum_below (came_from net.first m) count ≤ all 4 = below_few (came_from net.first m) (λ k. put (at 4 k)) count (λ k there. let e = got_at 4 k in let f = client_flow 4 k (omega arith) there in omega (arith, e, f)) in
      omega (arith, a, b, size, c)

  all_back : all 5 ≤ got 7
  all_back =
      let a = below_list (λ k. put (at 5 k)) (λ (q : ClientPools). length (filter (in_range q.tx) (m.taken (net.first + 7)))) 0 0 net.pools
      (λ k q pooled. back_to k q pooled) in
      let size : all 5 ≡ sum_below (λ k. put (at 5 k)) (0 + length net.pools) = ap (sum_below (λ k. put (at 5 k))) (let e = w.pools_many in omega (arith, e)) in
      let none = sum_none (λ (q : ClientPools). 0) net.pools (λ i x a. refl) in
      let few = ranges_few net.pools w.apart (m.taken (net.first + 7)) in
      omega (arith, a, size, none, few)
    where
      back_to : (k : ℕ) (q : ClientPools) → slice_get net.pools k ≡ Some q → put (at 5 (0 + k)) ≤ length (filter (in_range q.tx) (m.taken (net.first + 7))) + 0
      back_to k q pooled =
          let c = shipper_there net.first net.most 0 net.pools k q pooled in
          let a = begins_few _ _ (sends_row.returns k c.0 c.1) in
          let b = home_few c.0.pool (m.taken (net.first + 7)) in
          let pool : length (filter (in_range c.0.pool) (m.taken (net.first + 7))) ≡ length (filter (in_range q.tx) (m.taken (net.first + 7))) = ap (λ p. length (filter (in_range p) (m.taken (net.first + 7)))) c.3 in
          let is : length (m.sent c.0.free) ≡ put (at 5 (0 + k)) = ap (λ n. length (m.sent n)) (c.2 ∙ omega arith) in
          omega (arith, a, b, pool, is)

  -- what was put, by the queues
  parts : net_put net.first count m ≡ put 0 + put 1 + put 2 + put 3 + put 4 + put 5 + put 6 + put 7 + (all 0 + all 1 + all 2 + all 3 + all 4 + all 5)
  parts =
      let a = sum_parts put 8 (6 * count) in
      let b = sum_sixes (λ n. put (8 + n)) count in
      omega (arith, a, b)

  product : (4 + 10 * count) * frames ≡ 4 * frames + 10 * times_each net.macs frames
  product = let e = each_is net.macs frames in omega (arith, e)

  pub net_moved : net_put net.first count m + net_gone net m ≤ net_moves net fs
  net_moved =
      let p = parts in
      let f1 = flow 1 (omega arith) in
      let f2 = flow 2 (omega arith) in
      let f3 = flow 3 (omega arith) in
      let f4 = flow 4 (omega arith) in
      let f5 = flow 5 (omega arith) in
      let f6 = flow 6 (omega arith) in
      let f7 = flow 7 (omega arith) in
      let pools : times_each net.pools frames ≡ times_each net.macs frames = each_is net.pools frames ∙ (ap (λ n. n * frames) w.pools_many ∙ sym (each_is net.macs frames)) in
      let programs : times_each net.programs frames ≡ times_each net.macs frames = each_is net.programs frames ∙ (ap (λ n. n * frames) w.programs_many ∙ sym (each_is net.macs frames)) in
      omega (arith, p, f1, f2, f3, f4, f5, f6, f7, filled, returned, received, freed, shipped, back, frees, all_lent, all_given, all_copied, all_freed, all_sent_by, merged, all_back, pools, programs, product)
