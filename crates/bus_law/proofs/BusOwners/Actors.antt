-- Each actor of a bus puts no buffer more often than it had it and took it.
use Rattle.std.proofs.Common.{◌≡◌, ◌+◌, ◌*◌, ◌<◌, ◌≤◌, ◌⊎◌, inl, inr, ℕ, zero, suc, Some, List, [], ◌∷◌, length, sum_by, slice_get, refl, sym, ap, ◌∙◌, subst, arith}
use Rattle.std.proofs.lemmas.Bool.{cases_lt}
use Rattle.std.proofs.lemmas.List.Sums.{sum_by-cons}
use Rattle.std.proofs.lemmas.Option.{get_or_from_slice_get}
use Rattle.cargo_core.specs.Lists.{IsPrefix}
use Rattle.cargo_core.specs.declared.item.Body.TheVariants as Bodies
use Rattle.wire_core.specs.declared.names.QueueId.{QueueId}
use Rattle.wire_core.specs.Deeds.{Cargo}
use Rattle.wire_core.specs.Lists.{Passed}
use Rattle.wire_core.specs.Queues.{items_of}
use Rattle.play_core.specs.Moved.{Moved}
use Rattle.play_core.specs.Wants.{intake, outlet}
use Rattle.play_core.specs.Rests.Showing.{HaveItems}
use Rattle.play_core.proofs.Lists.{there_below}
use Rattle.buffer_kit.specs.Clients.{queue_at}
use Rattle.owner_law.specs.Things.{Buffer, names_in, times, as_buffer}
use Rattle.owner_law.specs.Keeping.{Keeps, at_start, all_taken, all_put}
use Rattle.owner_law.specs.Pools.Spread.{share_of}
use Rattle.i2c_text.specs.declared.bus.BusAsk.{BusAsk}
use Rattle.i2c_text.specs.declared.report.BusReply.{BusReply}
use Rattle.i2c_virt.specs.declared.i2c_kit.device.Device.{Device}
use Rattle.i2c_virt.specs.I2cKit.Devices.{new_devices}
use Rattle.i2c_virt.specs.I2cKit.Serving.{answer_to, answers_to, done}
use Rattle.i2c_virt.specs.I2cClient.Clients.{ClientRow}
use Rattle.i2c_virt.specs.Desks.{forwarded}
use Rattle.i2c_virt.specs.Works.{IsSomeones, judged_of, entries_of, of_client}
use Rattle.i2c_virt.specs.Virtualising.{VirtRow, strays_back, strays_of}
use Rattle.i2c_virt.specs.BusDevices.{BusRow}
use Rattle.bus_law.specs.I2cActors.Casting.{AreEverySecond}
use Rattle.bus_law.specs.BusOwners.Naming.{bus_naming, own_window, shared_windows}
use Rattle.bus_law.specs.BusOwners.Keepers.{pool_size, pool_owner, client_ends, served_ends, virt_ends, driver_ends, device_ends}
use Rattle.bus_law.proofs.BusOwners.Names.{request_names, reply_names, shared_names}
use Rattle.bus_law.proofs.BusOwners.Clients.{asked_times, answered_times, asks_few}
use Rattle.bus_law.proofs.BusOwners.Plainly.{plainly_keeps, took_at, put_at, took_sum, put_sum, took_times, put_times, sum_two, sum_four}
use Rattle.bus_law.proofs.BusOwners.Serving.{AllBuffers, IsSent, judged_all, own_times, in_two, taken_times, on_times, given_times, others_none, fewer_times, sent_times, sent_none, first_times, all_sent}

module _ (clients : ℕ) (m : Moved) (passed : Passed) (items : HaveItems passed m) where
  abbrev share : ℕ → ℕ → List ℕ
  share k = share_of (pool_size clients) pool_owner k

  -- what is put at a consuming end, and taken at a producing one
  none_put : (b : Buffer) (n : ℕ) → put_at clients m b (intake n) ≡ 0
  none_put b n = refl

  none_took : (b : Buffer) (n : ℕ) → took_at clients m b (outlet n) ≡ 0
  none_took b n = refl

  -- a client
  pub client_keeps : (c : ℕ) → c < clients → (script : List BusAsk) (replies : List BusReply) → ClientRow (record { 0 = c }) script (2 * c) (2 * c + 1) replies passed → Keeps (share c) (all_taken (bus_naming clients) m (client_ends c)) (all_put (bus_naming clients) m (client_ends c))
  client_keeps c lt script replies row = plainly_keeps clients m (share c) (client_ends c) few
    where
      few : (b : Buffer) → sum_by (as_buffer b) (all_put (bus_naming clients) m (client_ends c)) ≤ at_start (share c) b + sum_by (as_buffer b) (all_taken (bus_naming clients) m (client_ends c))
      few b =
          let ps = put_sum clients m b (client_ends c) in
          let ts = took_sum clients m b (client_ends c) in
          let p2 = sum_two (put_at clients m b) (intake (2 * c + 1)) (outlet (2 * c)) in
          let t2 = sum_two (took_at clients m b) (intake (2 * c + 1)) (outlet (2 * c)) in
          let pz = none_put b (2 * c + 1) in
          let tz = none_took b (2 * c) in
          let put = put_times clients m passed items b (2 * c) (own_window c ∷ []) (request_names clients c lt) in
          let took = took_times clients m passed items b (2 * c + 1) (own_window c ∷ []) (reply_names clients c lt) in
          let asked = asked_times c b 0 script (passed.sent (2 * c)) row.asks in
          let answered = answered_times c b 0 script row.came replies row.replied in
          let first = first_times clients b (own_window c ∷ []) row.came (passed.taken (2 * c + 1)) (row.stray, sym row.taken) in
          let turns = asks_few clients c lt b (length (passed.sent (2 * c))) (length row.came) row.in_hand in
          omega (arith, ps, ts, p2, t2, pz, tz, put, took, asked, answered, first, turns)

  -- entries that are copied from one shared queue to another
  copied : (b : Buffer) (from to : ℕ) → 2 * clients ≤ from → from < 2 * clients + 4 → 2 * clients ≤ to → to < 2 * clients + 4 → IsPrefix (passed.sent to) (passed.taken from) → put_at clients m b (outlet to) ≤ took_at clients m b (intake from)
  copied b from to fl fu tl tu pre =
      let ws = shared_windows 0 clients in
      let put = put_times clients m passed items b to ws (shared_names clients to tl tu) in
      let took = took_times clients m passed items b from ws (shared_names clients from fl fu) in
      let first = first_times clients b ws (passed.sent to) (passed.taken from) pre in
      omega (arith, put, took, first)

  -- the driver
  pub driver_keeps : (k : ℕ) → IsPrefix (passed.sent (2 * clients + 2)) (passed.taken (2 * clients)) → IsPrefix (passed.sent (2 * clients + 1)) (passed.taken (2 * clients + 3)) → Keeps (share k) (all_taken (bus_naming clients) m (driver_ends clients)) (all_put (bus_naming clients) m (driver_ends clients))
  driver_keeps k there back = plainly_keeps clients m (share k) (driver_ends clients) few
    where
      few : (b : Buffer) → sum_by (as_buffer b) (all_put (bus_naming clients) m (driver_ends clients)) ≤ at_start (share k) b + sum_by (as_buffer b) (all_taken (bus_naming clients) m (driver_ends clients))
      few b =
          let ps = put_sum clients m b (driver_ends clients) in
          let ts = took_sum clients m b (driver_ends clients) in
          let p4 = sum_four (put_at clients m b) (intake (2 * clients)) (outlet (2 * clients + 2)) (intake (2 * clients + 3)) (outlet (2 * clients + 1)) in
          let t4 = sum_four (took_at clients m b) (intake (2 * clients)) (outlet (2 * clients + 2)) (intake (2 * clients + 3)) (outlet (2 * clients + 1)) in
          let pa = none_put b (2 * clients) in
          let pb = none_put b (2 * clients + 3) in
          let ta = none_took b (2 * clients + 2) in
          let tb = none_took b (2 * clients + 1) in
          let one = copied b (2 * clients) (2 * clients + 2) (omega arith) (omega arith) (omega arith) (omega arith) there in
          let two = copied b (2 * clients + 3) (2 * clients + 1) (omega arith) (omega arith) (omega arith) (omega arith) back in
          omega (arith, ps, ts, p4, t4, pa, pb, ta, tb, one, two)

  -- an answer has its request's item
  answer_item : (devices : List Device) (x : Cargo) → (answer_to devices x).0 ≡ x.0
  unfolding answer_to
  answer_item devices (item, Bodies.Page p) = refl
  answer_item devices (item, Bodies.Empty) = refl
  answer_item devices (item, Bodies.Lease l) = refl

  answer_items : (devices : List Device) (xs : List Cargo) → items_of (answers_to devices xs) ≡ items_of xs
  answer_items devices [] = refl
  answer_items devices (x ∷ xs) = ap (λ i. i ∷ items_of (answers_to (done devices x) xs)) (answer_item devices x) ∙ ap (λ l. x.0 ∷ l) (answer_items (done devices x) xs)

  -- the bus itself
  pub device_keeps : (k : ℕ) (addresses : List ℕ) → BusRow addresses (2 * clients + 2) (2 * clients + 3) passed → Keeps (share k) (all_taken (bus_naming clients) m (device_ends clients)) (all_put (bus_naming clients) m (device_ends clients))
  device_keeps k addresses row = plainly_keeps clients m (share k) (device_ends clients) few
    where
      few : (b : Buffer) → sum_by (as_buffer b) (all_put (bus_naming clients) m (device_ends clients)) ≤ at_start (share k) b + sum_by (as_buffer b) (all_taken (bus_naming clients) m (device_ends clients))
      few b =
          let ws = shared_windows 0 clients in
          let ps = put_sum clients m b (device_ends clients) in
          let ts = took_sum clients m b (device_ends clients) in
          let p2 = sum_two (put_at clients m b) (intake (2 * clients + 2)) (outlet (2 * clients + 3)) in
          let t2 = sum_two (took_at clients m b) (intake (2 * clients + 2)) (outlet (2 * clients + 3)) in
          let pz = none_put b (2 * clients + 2) in
          let tz = none_took b (2 * clients + 3) in
          let put = put_times clients m passed items b (2 * clients + 3) ws (shared_names clients (2 * clients + 3) (omega arith) (omega arith)) in
          let took = took_times clients m passed items b (2 * clients + 2) ws (shared_names clients (2 * clients + 2) (omega arith) (omega arith)) in
          let some = first_times clients b ws (passed.sent (2 * clients + 3)) (answers_to (new_devices addresses) row.requests) row.answers in
          let same = ap (λ l. times b (names_in ws l)) (answer_items (new_devices addresses) row.requests) in
          let all = first_times clients b ws row.requests (passed.taken (2 * clients + 2)) (row.stray, sym row.taken) in
          omega (arith, ps, ts, p2, t2, pz, tz, put, took, some, same, all)

  -- the virtualiser

  -- what it puts to clients that have no such buffer
  beyond : (b : Buffer) (first count : ℕ) → first + count ≡ clients → ((c : ℕ) → first ≤ c → c < clients → c ≡ b.pool → ⊥) → sum_by (put_at clients m b) (served_ends first count) ≡ 0
  beyond b first zero e off = refl
  beyond b first (suc n) e off =
      let h = beyond b (first + 1) n (omega (arith, e)) (λ c le lt same. off c (omega (arith, le)) lt same) in
      let lt : first < clients = omega (arith, e) in
      let one = sum_by-cons (put_at clients m b) (intake (2 * first)) (outlet (2 * first + 1) ∷ served_ends (first + 1) n) in
      let two = sum_by-cons (put_at clients m b) (outlet (2 * first + 1)) (served_ends (first + 1) n) in
      let z = none_put b (2 * first) in
      let put = put_times clients m passed items b (2 * first + 1) (own_window first ∷ []) (reply_names clients first lt) in
      let none = others_none clients b first (λ same. off first (omega arith) lt same) (passed.sent (2 * first + 1)) in
      omega (arith, h, one, two, z, put, none)

  -- and to the one that has it
  put_first : (b : Buffer) (first n : ℕ) → sum_by (put_at clients m b) (served_ends first (suc n)) ≡ put_at clients m b (outlet (2 * first + 1)) + sum_by (put_at clients m b) (served_ends (first + 1) n)
  put_first b first n =
      let one = sum_by-cons (put_at clients m b) (intake (2 * first)) (outlet (2 * first + 1) ∷ served_ends (first + 1) n) in
      let two = sum_by-cons (put_at clients m b) (outlet (2 * first + 1)) (served_ends (first + 1) n) in
      let z = none_put b (2 * first) in
      omega (arith, one, two, z)

  put_step : (b : Buffer) (first n : ℕ) → first + suc n ≡ clients → first ≤ b.pool → b.pool < clients → (first < b.pool → sum_by (put_at clients m b) (served_ends (first + 1) n) ≤ put_at clients m b (outlet (2 * b.pool + 1))) → (first < b.pool) ⊎ (b.pool ≤ first) → sum_by (put_at clients m b) (served_ends first (suc n)) ≤ put_at clients m b (outlet (2 * b.pool + 1))
  put_step b first n e le lt rest (inl before) =
      let h = rest before in
      let all = put_first b first n in
      let f : first < clients = omega (arith, before, lt) in
      let put = put_times clients m passed items b (2 * first + 1) (own_window first ∷ []) (reply_names clients first f) in
      let none = others_none clients b first (λ same. absurd (omega (arith, same, before))) (passed.sent (2 * first + 1)) in
      omega (arith, h, all, put, none)
  put_step b first n e le lt rest (inr past) =
      let same : first ≡ b.pool = omega (arith, past, le) in
      let h = beyond b (first + 1) n (omega (arith, e)) (λ c l u s. absurd (omega (arith, l, s, same))) in
      let all = put_first b first n in
      let here : put_at clients m b (outlet (2 * first + 1)) ≡ put_at clients m b (outlet (2 * b.pool + 1)) = ap (λ c. put_at clients m b (outlet (2 * c + 1))) same in
      omega (arith, h, all, here)

  served_put : (b : Buffer) (first count : ℕ) → first + count ≡ clients → first ≤ b.pool → b.pool < clients → sum_by (put_at clients m b) (served_ends first count) ≤ put_at clients m b (outlet (2 * b.pool + 1))
  served_put b first zero e le lt = absurd (omega (arith, e, le, lt))
  served_put b first (suc n) e le lt = put_step b first n e le lt (λ before. served_put b (first + 1) n (omega (arith, e)) (omega (arith, before)) lt) (cases_lt first b.pool)

  -- what it took from that one is among all
  took_step : (b : Buffer) (first n : ℕ) → first ≤ b.pool → (first < b.pool → took_at clients m b (intake (2 * b.pool)) ≤ sum_by (took_at clients m b) (served_ends (first + 1) n)) → (first < b.pool) ⊎ (b.pool ≤ first) → took_at clients m b (intake (2 * b.pool)) ≤ sum_by (took_at clients m b) (served_ends first (suc n))
  took_step b first n le rest (inl before) =
      let h = rest before in
      let one = sum_by-cons (took_at clients m b) (intake (2 * first)) (outlet (2 * first + 1) ∷ served_ends (first + 1) n) in
      let two = sum_by-cons (took_at clients m b) (outlet (2 * first + 1)) (served_ends (first + 1) n) in
      omega (arith, h, one, two)
  took_step b first n le rest (inr past) =
      let same : first ≡ b.pool = omega (arith, past, le) in
      let one = sum_by-cons (took_at clients m b) (intake (2 * first)) (outlet (2 * first + 1) ∷ served_ends (first + 1) n) in
      let here : took_at clients m b (intake (2 * first)) ≡ took_at clients m b (intake (2 * b.pool)) = ap (λ c. took_at clients m b (intake (2 * c))) same in
      omega (arith, one, here)

  served_took : (b : Buffer) (first count : ℕ) → first + count ≡ clients → first ≤ b.pool → b.pool < clients → took_at clients m b (intake (2 * b.pool)) ≤ sum_by (took_at clients m b) (served_ends first count)
  served_took b first zero e le lt = absurd (omega (arith, e, le, lt))
  served_took b first (suc n) e le lt = took_step b first n le (λ before. served_took b (first + 1) n (omega (arith, e)) (omega (arith, before)) lt) (cases_lt first b.pool)

  -- its queues at a client
  queue_is : (first : ℕ) (qs : List QueueId) → AreEverySecond first clients qs → (k : ℕ) → k < clients → queue_at qs k ≡ 2 * k + first
  queue_is first qs are k lt = ap (λ (q : QueueId). q.0) (get_or_from_slice_get qs k (record { 0 = 2 * k + first }) (record { 0 = 0 }) (are.each k lt))

  module _ (reqs resps : List QueueId) (reqs_are : AreEverySecond 0 clients reqs) (resps_are : AreEverySecond 1 clients resps) (row : VirtRow clients (2 * clients) (2 * clients + 1) reqs resps passed) where
    req_at : (k : ℕ) → k < clients → queue_at reqs k ≡ 2 * k
    req_at k lt = let e : queue_at reqs k ≡ 2 * k + 0 = queue_is 0 reqs reqs_are k lt in omega (arith, e)

    resp_at : (k : ℕ) → k < clients → queue_at resps k ≡ 2 * k + 1
    resp_at k lt = queue_is 1 resps resps_are k lt

    someones_at : (i : ℕ) (x : Cargo) → slice_get (passed.sent (2 * clients)) i ≡ Some x → IsSomeones clients x
    someones_at i x at = subst (IsSomeones clients) (get_or_from_slice_get (passed.sent (2 * clients)) i x x at) (row.someones i x (there_below (passed.sent (2 * clients)) i x at))

    on_its_way : (b : Buffer) (i : ℕ) (x : Cargo) → slice_get (passed.sent (2 * clients)) i ≡ Some x → IsSent clients b x
    on_its_way b = all_sent clients b row.log (passed.sent (2 * clients)) row.took someones_at row.sends

    virt_few : (b : Buffer) → (b.pool < clients) ⊎ (clients ≤ b.pool) → sum_by (put_at clients m b) (virt_ends clients) ≤ sum_by (took_at clients m b) (virt_ends clients)
    virt_few b (inr past) =
        let ws = shared_windows 0 clients in
        let one = sum_by-cons (put_at clients m b) (intake (2 * clients + 1)) (outlet (2 * clients) ∷ served_ends 0 clients) in
        let two = sum_by-cons (put_at clients m b) (outlet (2 * clients)) (served_ends 0 clients) in
        let z = none_put b (2 * clients + 1) in
        let put = put_times clients m passed items b (2 * clients) ws (shared_names clients (2 * clients) (omega arith) (omega arith)) in
        let none = sent_none clients b (passed.sent (2 * clients)) (on_its_way b) past in
        let rest = beyond b 0 clients (omega arith) (λ c le lt same. absurd (omega (arith, lt, same, past))) in
        omega (arith, one, two, z, put, none, rest)
    virt_few b (inl lt) =
        let ws = shared_windows 0 clients in
        let p = b.pool in
        let js = judged_of p row.log in
        let all : AllBuffers p js = judged_all clients p [] row.log row.took in
        let one = sum_by-cons (put_at clients m b) (intake (2 * clients + 1)) (outlet (2 * clients) ∷ served_ends 0 clients) in
        let two = sum_by-cons (put_at clients m b) (outlet (2 * clients)) (served_ends 0 clients) in
        let z = none_put b (2 * clients + 1) in
        let three = sum_by-cons (took_at clients m b) (intake (2 * clients + 1)) (outlet (2 * clients) ∷ served_ends 0 clients) in
        let four = sum_by-cons (took_at clients m b) (outlet (2 * clients)) (served_ends 0 clients) in
        let put = put_times clients m passed items b (2 * clients) ws (shared_names clients (2 * clients) (omega arith) (omega arith)) in
        let sent = sent_times clients b (passed.sent (2 * clients)) (on_its_way b) in
        let first = first_times clients b ws (of_client p (passed.sent (2 * clients))) (forwarded js) (row.sends p lt) in
        let on = on_times clients b p lt js all in
        let back = took_times clients m passed items b (2 * clients + 1) ws (shared_names clients (2 * clients + 1) (omega arith) (omega arith)) in
        let came = first_times clients b ws row.back (passed.taken (2 * clients + 1)) (strays_back row.stray, sym row.responses) in
        let mine = fewer_times clients b p row.back in
        let out = served_put b 0 clients (omega arith) (omega arith) lt in
        let into = served_took b 0 clients (omega arith) (omega arith) lt in
        let gave = put_times clients m passed items b (2 * p + 1) (own_window p ∷ []) (reply_names clients p lt) in
        let given = given_times clients b p lt js (of_client p row.back) (passed.sent (queue_at resps p)) all (row.answers p lt) in
        let given_here : own_times clients b p (passed.sent (queue_at resps p)) ≡ own_times clients b p (passed.sent (2 * p + 1)) = ap (λ q. own_times clients b p (passed.sent q)) (resp_at p lt) in
        let took = took_times clients m passed items b (2 * p) (own_window p ∷ []) (request_names clients p lt) in
        let taken = first_times clients b (own_window p ∷ []) (entries_of p row.log) (passed.taken (2 * p)) (strays_of p row.stray, sym (ap passed.taken (sym (req_at p lt)) ∙ row.requests p lt)) in
        let pages = taken_times clients b p js all in
        let parts = in_two clients b p js in
        omega (arith, one, two, z, three, four, put, sent, first, on, back, came, mine, out, into, gave, given, given_here, took, taken, pages, parts)

    pub virt_keeps : (k : ℕ) → Keeps (share k) (all_taken (bus_naming clients) m (virt_ends clients)) (all_put (bus_naming clients) m (virt_ends clients))
    virt_keeps k = plainly_keeps clients m (share k) (virt_ends clients) (λ b. let f = virt_few b (cases_lt b.pool clients) in let ps = put_sum clients m b (virt_ends clients) in let ts = took_sum clients m b (virt_ends clients) in omega (arith, f, ps, ts))
