use Rattle.std.proofs.Common.{◌≡◌, ◌<◌, ◌≤◌, ◌+◌, ◌*◌, ◌%◌, ℕ, zero, suc, Bool, true, false, nat_lt, if◌then◌else◌, cond, Option, Some, List, [], ◌∷◌, length, map, drop, take, slice_get, sum_by, filter, refl, sym, ap, ◌∙◌, subst, arith}
use Rattle.std.proofs.lemmas.List.{length-map}
use Rattle.std.proofs.lemmas.List.Sums.{sum_by-cons}
use Rattle.cargo_core.specs.declared.item.Ask.{Ask}
use Rattle.cargo_core.specs.declared.item.Item.{Item}
use Rattle.wire_core.specs.declared.names.QueueRow.{QueueRow}
use Rattle.wire_core.specs.declared.names.Entry.{Entry}
use Rattle.wire_core.specs.Journal.{History, Hostiles, QueuesFlow}
use Rattle.wire_core.specs.Marks.{sum_below}
use Rattle.play_core.specs.Moved.{Moved, moved}
use Rattle.play_core.specs.Sheets.{Scene}
use Rattle.play_core.specs.Totals.{total}
use Rattle.play_core.proofs.Lists.{there_is, there_below}
use Rattle.play_core.proofs.Walks.{begins_few}
use Rattle.blk_mbr.specs.declared.part.Part.{Part}
use Rattle.class_expect.specs.BlkExpect.Replies.{partition_in}
use Rattle.client_programs.specs.Blk.Asking.{needs_buffer, request_for}
use Rattle.blk_virt.specs.Requests.{request_of}
use Rattle.owner_law.specs.Pools.Places.{own_pool}
use Rattle.net_law.proofs.HopsLemmas.Sums.{sum_parts, below_list}
use Rattle.net_law.proofs.HopsLemmas.Queues.{merge_few}
use Rattle.blk_law.specs.Sheets.Parts.{Sharer}
use Rattle.blk_law.specs.Sheets.Numbers.{BlkPlace}
use Rattle.blk_law.specs.Sheets.Rows.{asked_items, buffers_for, AsksInOrder, item_for_disk, goes_on_item, refusal_item, passed_item, numbered_item, answer_item, answer_items, items_back, requests_on, all_requests, ServesRequests}
use Rattle.blk_law.specs.Hops.Hops.{blk_put, blk_moves, IsBlock}
use Rattle.blk_law.proofs.HopsLemmas.Sharers.{clients_of, sharer, sharer_is, sharer_there, sharers_long}

-- no more is requested than is asked
asked_few : (id used hand buffers size : ℕ) (asks : List Ask) → length (asked_items id used hand buffers size asks) ≤ length asks
asked_few id used hand buffers size [] = omega arith
asked_few id used hand buffers size (a ∷ asks) = by (needs_buffer a.code) (nat_lt used hand) (asked_few (id + 1) (used + 1) hand buffers size asks) (asked_few (id + 1) used hand buffers size asks)
  where
    by : (needs there : Bool) → length (asked_items (id + 1) (used + 1) hand buffers size asks) ≤ length asks → length (asked_items (id + 1) used hand buffers size asks) ≤ length asks
        → length (if needs then (if there then (request_for a id ((used % buffers) * size) ∷ asked_items (id + 1) (used + 1) hand buffers size asks) else []) else (request_for a id 0 ∷ asked_items (id + 1) used hand buffers size asks)) ≤ suc (length asks)
    by true true h k = omega (arith, h)
    by true false h k = omega arith
    by false there h k = omega (arith, k)

-- no more answers than requests
answers_few : (part : Option Part) (xs back : List Item) → length (answer_items part xs back) ≤ length xs
answers_few part [] back = omega arith
answers_few part (x ∷ xs) [] = by (goes_on_item part x) (answers_few part xs [])
  where
    by : (b : Bool) → length (answer_items part xs []) ≤ length xs → length (if b then [] else (refusal_item part x ∷ answer_items part xs [])) ≤ suc (length xs)
    by true h = omega arith
    by false h = omega (arith, h)
answers_few part (x ∷ xs) (y ∷ back) = by (goes_on_item part x) (answers_few part xs back) (answers_few part xs (y ∷ back))
  where
    by : (b : Bool) → length (answer_items part xs back) ≤ length xs → length (answer_items part xs (y ∷ back)) ≤ length xs
        → length (if b then (passed_item (request_of x).id y ∷ answer_items part xs back) else (refusal_item part x ∷ answer_items part xs (y ∷ back))) ≤ suc (length xs)
    by true h k = omega (arith, h)
    by false h k = omega (arith, k)

filter_few : (p : Item → Bool) (xs : List Item) → length (filter p xs) ≤ length xs
filter_few p [] = omega arith
filter_few p (x ∷ xs) = by (p x) (filter_few p xs)
  where
    by : (b : Bool) → length (filter p xs) ≤ length xs → length (cond b (x ∷ filter p xs) (filter p xs)) ≤ suc (length xs)
    by true h = omega (arith, h)
    by false h = omega (arith, h)

on_few : (image : List ℕ) (m : Moved) (c : Sharer) → length (requests_on image m c) ≤ length (m.taken c.req)
on_few image m c =
    let a = length-map (filter (goes_on_item (partition_in image c.entry)) (m.taken c.req)) (item_for_disk c.pool.base (partition_in image c.entry)) in
    let b = filter_few (goes_on_item (partition_in image c.entry)) (m.taken c.req) in
    omega (arith, a, b)

-- of all clients no more goes on than a number for each place
all_few : (image : List ℕ) (m : Moved) (f : ℕ → ℕ) (n : ℕ) (clients : List Sharer) → ((k : ℕ) (c : Sharer) → slice_get clients k ≡ Some c → length (m.taken c.req) ≤ f (n + k)) → total (all_requests image clients m) + sum_below f n ≤ sum_below f (n + length clients)
all_few image m f n [] h = let e : sum_below f n ≡ sum_below f (n + 0) = ap (sum_below f) (let z : n ≡ n + 0 = omega arith in z) in omega (arith, e)
all_few image m f n (c ∷ clients) h =
    let here = on_few image m c in
    let one : length (m.taken c.req) ≤ f n = subst (λ k. length (m.taken c.req) ≤ f k) (let z : n + 0 ≡ n = omega arith in z) (h 0 c refl) in
    let rest = all_few image m f (suc n) clients (λ k d at. subst (λ i. length (m.taken d.req) ≤ f i) (let z : n + suc k ≡ suc n + k = omega arith in z) (h (suc k) d at)) in
    let size : sum_below f (suc n + length clients) ≡ sum_below f (n + suc (length clients)) = ap (sum_below f) (let z : suc n + length clients ≡ n + suc (length clients) = omega arith in z) in
    omega (arith, here, one, rest, size)

drop_one : (xs : List Item) → length xs ≤ 1 + length (drop 1 xs)
drop_one [] = omega arith
drop_one (x ∷ xs) = omega arith

-- a sum by pairs
abbrev second : (f : ℕ → ℕ) (j k : ℕ) → ℕ
second f j k = sum_below (λ n. f (j + 2 * n)) k

sum_pairs : (f : ℕ → ℕ) (k : ℕ) → sum_below f (2 * k) ≡ second f 0 k + second f 1 k
sum_pairs f zero = refl
sum_pairs f (suc k) =
    let e : sum_below f (2 * suc k) ≡ sum_below f (2 * k + 2) = ap (sum_below f) (let z : 2 * suc k ≡ 2 * k + 2 = omega arith in z) in
    let parts = sum_parts f (2 * k) 2 in
    let h = sum_pairs f k in
    let a : f (2 * k + 0) ≡ f (0 + 2 * k) = ap f (let z : 2 * k + 0 ≡ 0 + 2 * k = omega arith in z) in
    let b : f (2 * k + 1) ≡ f (1 + 2 * k) = ap f (let z : 2 * k + 1 ≡ 1 + 2 * k = omega arith in z) in
    omega (arith, e, parts, h, a, b)

module _ (scene : Scene) (hostile : Hostiles) (history : History) (rows : List QueueRow) (j : List Entry) (place : BlkPlace) (flows : QueuesFlow history rows j) (w : IsBlock scene hostile rows (moved history j) place) where
  abbrev first : ℕ
  first = place.first

  abbrev clients : List Sharer
  clients = clients_of place

  abbrev asks : List (List Ask)
  asks = place.asks

  abbrev m : Moved
  m = moved history j

  abbrev put : ℕ → ℕ
  put i = length (m.sent (first + i))

  abbrev got : ℕ → ℕ
  got i = length (m.taken (first + i))

  abbrev count : ℕ
  count = length place.entries

  flow : (i : ℕ) → i < 4 + 2 * count → got i ≤ put i
  flow i there = let h = w.holds i there in begins_few (m.taken (first + i)) (m.sent (first + i)) (flows (first + i) h.row h.there).begins

  -- the disk answers what it took, and the driver copies
  disk_puts : put 1 ≤ got 0
  disk_puts =
      let a = begins_few (m.sent (first + 1)) (map answer_item (m.taken first)) w.disk in
      let b = length-map (m.taken first) answer_item in
      let e : length (m.taken first) ≡ got 0 = ap (λ n. length (m.taken n)) (let z : first ≡ first + 0 = omega arith in z) in
      omega (arith, a, b, e)

  asked : put 0 ≤ got 2
  asked =
      let a = begins_few _ _ (w.driver 0 _ refl) in
      let e : put 0 ≡ length (m.sent first) = ap (λ n. length (m.sent n)) (let z : first + 0 ≡ first = omega arith in z) in
      omega (arith, a, e)

  answered : put 3 ≤ got 1
  answered = begins_few _ _ (w.driver 1 _ refl)

  serves : ServesRequests scene.image (first + 2) (first + 3) place.pool clients m
  serves = w.virt

  -- the queues of a client
  abbrev at : (i k : ℕ) → ℕ
  at i k = 4 + (i + 2 * k)

  req_is : (k : ℕ) → first + 4 + 2 * k ≡ first + at 0 k
  req_is k = omega arith

  resp_is : (k : ℕ) → first + 5 + 2 * k ≡ first + at 1 k
  resp_is k = omega arith

  client_asks : (k : ℕ) (said : List Ask) → slice_get asks k ≡ Some said → put (at 0 k) ≤ length said
  client_asks k said there =
      let lt = there_below asks k said there in
      let asks_many = w.asks_many in
      let pools_many = w.pools_many in
      let entry = there_is place.entries k (omega (arith, lt, asks_many)) in
      let pool = there_is place.pools k (omega (arith, lt, asks_many, pools_many)) in
      let row : AsksInOrder said (own_pool pool.0) (m.taken (first + 5 + 2 * k)) (m.sent (first + 4 + 2 * k)) =
      w.client k entry.0 said pool.0 (record { has_entry = entry.1; has_asks = there; has_pool = pool.1 }) in
      let a = begins_few _ _ row.begins in
      let b = asked_few 0 0 (pool.0.buffers + buffers_for (take (length (m.taken (first + 5 + 2 * k))) said)) pool.0.buffers pool.0.size said in
      let e : length (m.sent (first + 4 + 2 * k)) ≡ put (at 0 k) = ap (λ n. length (m.sent n)) (req_is k) in
      omega (arith, a, b, e)

  taken_at : (k : ℕ) (c : Sharer) → slice_get clients k ≡ Some c → length (m.taken c.req) ≤ put (at 0 k)
  taken_at k c there =
      let s = sharer_is place k c there in
      let is : length (m.taken c.req) ≡ got (at 0 k) = ap (λ n. length (m.taken n)) (sym (ap (λ (x : Sharer). x.req) s.4) ∙ req_is k) in
      let lt = there_below place.entries k s.0 s.2 in
      let a = flow (at 0 k) (omega (arith, lt)) in
      omega (arith, is, a)

  client_answered : (k : ℕ) (said : List Ask) → slice_get asks k ≡ Some said → put (at 1 k) ≤ length said
  client_answered k said there =
      let lt = there_below asks k said there in
      let asks_many = w.asks_many in
      let pools_many = w.pools_many in
      let entry = there_is place.entries k (omega (arith, lt, asks_many)) in
      let pool = there_is place.pools k (omega (arith, lt, asks_many, pools_many)) in
      let c = sharer first k entry.0 pool.0 in
      let c_at : slice_get clients k ≡ Some c = sharer_there place k entry.0 pool.0 entry.1 pool.1 in
      let a = begins_few _ _ (serves.gives k c c_at) in
      let b = answers_few (partition_in scene.image c.entry) (m.taken c.req) (items_back c.pool (drop 1 (m.sent (first + 2))) (drop 1 (m.taken (first + 3)))) in
      let d = taken_at k c c_at in
      let e : length (m.sent c.resp) ≡ put (at 1 k) = ap (λ n. length (m.sent n)) (resp_is k) in
      let f = client_asks k said there in
      omega (arith, a, b, d, e, f)

  -- the sums over the clients
  abbrev all : ℕ → ℕ
  all i = sum_below (λ k. put (at i k)) count

  abbrev many_asks : ℕ
  many_asks = sum_by length asks

  by_asks : (i : ℕ) → ((k : ℕ) (said : List Ask) → slice_get asks k ≡ Some said → put (at i k) ≤ length said) → all i ≤ many_asks
  by_asks i h =
      let each : (k : ℕ) (said : List Ask) → slice_get asks k ≡ Some said → put (at i (0 + k)) ≤ length said + 0 = λ k said there. let one = h k said there in let same : put (at i (0 + k)) ≡ put (at i k) = ap (λ n. put (at i n)) (let z : 0 + k ≡ k = omega arith in z) in omega (arith, one, same) in
      let a = below_list (λ k. put (at i k)) (λ (said : List Ask). length said) 0 0 asks each in
      let size : all i ≡ sum_below (λ k. put (at i k)) (0 + length asks) = ap (sum_below (λ k. put (at i k))) (let many = w.asks_many in let z : count ≡ 0 + length asks = omega (arith, many) in z) in
      let none = no_more asks in
      omega (arith, a, size, none)
    where
      no_more : (xs : List (List Ask)) → sum_by (λ (x : List Ask). 0) xs ≡ 0
      no_more [] = refl
      no_more (x ∷ xs) = let h = no_more xs in let c = sum_by-cons (λ (y : List Ask). 0) x xs in omega (arith, h, c)

  -- the virtualiser asks for the first block, and passes on what came from the clients
  passed : put 2 ≤ 1 + all 0
  passed =
      let a = merge_few (all_requests scene.image clients m) (map (numbered_item 0) (drop 1 (m.sent (first + 2)))) serves.merges in
      let b = length-map (drop 1 (m.sent (first + 2))) (numbered_item 0) in
      let d = drop_one (m.sent (first + 2)) in
      let e = all_few scene.image m (λ k. put (at 0 k)) 0 clients (λ k c there. let one = taken_at k c there in let same : put (at 0 (0 + k)) ≡ put (at 0 k) = ap (λ n. put (at 0 n)) (let z : 0 + k ≡ k = omega arith in z) in omega (arith, one, same)) in
      let size : sum_below (λ k. put (at 0 k)) (0 + length clients) ≡ all 0 = ap (sum_below (λ k. put (at 0 k))) (let many = sharers_long first 0 place.entries place.pools w.pools_many in omega (arith, many)) in
      omega (arith, a, b, d, e, size)

  parts : blk_put first count m ≡ put 0 + put 1 + put 2 + put 3 + (all 0 + all 1)
  parts =
      let a = sum_parts put 4 (2 * count) in
      let b = sum_pairs (λ n. put (4 + n)) count in
      omega (arith, a, b)

  pub blk_moved : blk_put first count m ≤ blk_moves asks
  blk_moved =
      let p = parts in
      let f0 = flow 0 (omega arith) in
      let f1 = flow 1 (omega arith) in
      let f2 = flow 2 (omega arith) in
      let x = by_asks 0 client_asks in
      let y = by_asks 1 client_answered in
      omega (arith, p, f0, f1, f2, disk_puts, asked, answered, passed, x, y)
