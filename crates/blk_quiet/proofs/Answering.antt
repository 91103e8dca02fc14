-- From the responses up to the requests: where nobody is runnable, all that went to the disk came
-- back, so all answers are given; and a client all of whose requests are answered has all its
-- buffers in hand, so it has nothing left to ask.
use Rattle.std.proofs.Common.{◌≡◌, ◌+◌, ◌*◌, ◌<◌, ◌≤◌, ◌⊎◌, ◌&&◌, ℕ, suc, Bool, true, false, not, nat_lt, Some, List, [], ◌∷◌, length, map, drop, take, slice_get, refl, ap, ◌∙◌, subst, arith, inl, inr}
use Rattle.std.specs.List.{filter}
use Rattle.std.proofs.lemmas.List.{length-map}
use Rattle.std.proofs.lemmas.Bool.{cases_lt, lt-ltb, le-ltb}
use Rattle.cargo_core.specs.Lists.{IsPrefix, Merge}
use Rattle.cargo_core.specs.declared.item.Ask.{Ask}
use Rattle.cargo_core.specs.declared.item.Item.{Item}
use Rattle.wire_core.specs.declared.names.QueueRow.{QueueRow}
use Rattle.wire_core.specs.declared.names.Entry.{Entry}
use Rattle.wire_core.specs.Journal.{History, Hostiles}
use Rattle.play_core.specs.Moved.{Moved, moved, sent, taken}
use Rattle.play_core.specs.Sheets.{Scene, Sheet}
use Rattle.play_core.specs.Still.{IsStill, HasWant, Plays, Needs, Owes, Holds}
use Rattle.play_core.specs.Totals.{total}
use Rattle.play_core.specs.Wants.{Want, Needful, intake_want, outlet_want}
use Rattle.play_core.proofs.Lists.{map_get, map_from, there_is, there_below}
use Rattle.play_core.proofs.Merges.{merge_total, prefix_merge_whole}
use Rattle.play_core.proofs.Walks.{begins_few, needs_as, drained, paid}
use Rattle.class_expect.specs.BlkExpect.Replies.{partition_in}
use Rattle.blk_virt.specs.Requests.{request_of}
use Rattle.owner_law.specs.Pools.Places.{PoolAt, own_pool}
use Rattle.net_law.specs.Parts.Parts.{Way}
use Rattle.net_law.specs.Parts.Rows.{AllCopy}
use Rattle.net_law.specs.Parts.Table.{is_short}
use Rattle.net_law.proofs.PartsLemmas.Pairs.{twice, pair_first, pair_second}
use Rattle.owner_law.proofs.PoolsLemmas.Merging.{kept_is}
use Rattle.net_quiet.proofs.Listing.{keeps}
use Rattle.blk_law.specs.Sheets.Parts.{Sharer}
use Rattle.blk_law.specs.Sheets.Numbers.{BlkPlace, IsBlkClientOf, disk_at, blk_driver_at, virt_at, blk_client_at}
use Rattle.blk_law.specs.Sheets.Rows.{AsksInOrder, ServesRequests, all_requests, answer_item, answers_due, buffers_for, client_requests, goes_on_item, is_item_at, item_for_disk, items_back, numbered_item, requests_due, requests_on}
use Rattle.blk_law.specs.Owners.Answering.{TakesBlocks}
use Rattle.blk_law.specs.Sheets.Table.{blk_sheet}
use Rattle.blk_law.proofs.HopsLemmas.Sharers.{clients_of, sharer, sharer_is, sharer_there, sharers_long}
use Rattle.blk_quiet.specs.Still.{IsBlock, AnswersAll}
use Rattle.blk_quiet.proofs.Counting.{drop_same, drop_most, drop_less, back_long, answers_long, request_at, numbered_long, asked_few, asked_more}

module _ (hostile : Hostiles) (h : History) (rows : List QueueRow) (actors : Needful) (j : List Entry) (scene : Scene) (place : BlkPlace) (still : IsStill hostile h rows actors j) (w : IsBlock hostile scene rows actors place (moved h j)) where
  -- the class's queues at the disk and at the driver's other side, and its clients
  abbrev to_disk : ℕ
  to_disk = place.first

  abbrev from_disk : ℕ
  from_disk = place.first + 1

  abbrev to_driver : ℕ
  to_driver = place.first + 2

  abbrev from_driver : ℕ
  from_driver = place.first + 3

  abbrev clients : List Sharer
  clients = clients_of place

  many : length clients ≡ length place.entries
  many = sharers_long place.first 0 place.entries place.pools w.pools.pools_many

  abbrev m : Moved
  m = moved h j

  abbrev put : ℕ → List Item
  put n = sent h n j

  abbrev got : ℕ → List Item
  got n = taken h n j

  -- an actor has the ends of its sheet
  want_at : (s : Sheet) → Plays hostile actors m s → (n : ℕ) (x : Want) → slice_get (s.wants m) n ≡ Some x → HasWant hostile actors x
  want_at s plays n x is = record { ends = s.wants m; acts = plays.acts; place = n; is = is }

  paid_one : (n due : ℕ) → Holds hostile rows n 1 → Needs hostile actors n true → Owes hostile actors n (nat_lt (length (put n)) due) → due ≤ length (put n)
  paid_one n due holds needs owes = paid hostile h rows actors j still n 1 due holds (omega arith) needs owes

  same_one : (n : ℕ) (owed : Bool) → Holds hostile rows n 1 → Needs hostile actors n true → Owes hostile actors n owed → length (put n) ≡ length (got n)
  same_one n owed holds needs owes = ap length (drained hostile h rows actors j still n 1 owed holds needs owes)

  needs_now : (n out due : ℕ) → due ≤ length (put out) → Needs hostile actors n (not (nat_lt (length (put out)) due)) → Needs hostile actors n true
  needs_now n out due le needs = needs_as hostile h rows actors j still n _ true (ap not (le-ltb (length (put out)) due le)) needs

  abbrev ways : List Way
  ways = record { input = to_driver; output = to_disk } ∷ record { input = from_disk; output = from_driver } ∷ []

  driver_row : AllCopy ways m
  driver_row = w.driver.row

  disk_row : IsPrefix (put from_disk) (map answer_item (got to_disk))
  disk_row = w.disk.row

  virt_row : ServesRequests scene.image to_driver from_driver place.pool clients m
  virt_row = w.virt.row

  want_driver : (n : ℕ) (x : Want) → slice_get ((blk_sheet scene (blk_driver_at place.first)).wants m) n ≡ Some x → HasWant hostile actors x
  want_driver = want_at (blk_sheet scene (blk_driver_at place.first)) w.driver

  want_disk : (n : ℕ) (x : Want) → slice_get ((blk_sheet scene (disk_at place)).wants m) n ≡ Some x → HasWant hostile actors x
  want_disk = want_at (blk_sheet scene (disk_at place)) w.disk

  want_virt : (n : ℕ) (x : Want) → slice_get ((blk_sheet scene (virt_at place)).wants m) n ≡ Some x → HasWant hostile actors x
  want_virt = want_at (blk_sheet scene (virt_at place)) w.virt

  disk_room : Holds hostile rows to_disk 1
  disk_room = let e : place.first + 0 ≡ place.first = omega arith in subst (λ n. Holds hostile rows n 1) e (w.rooms 0 (omega arith))

  -- from the responses up to the requests

  resp_needs : Needs hostile actors from_driver true
  resp_needs = want_virt 0 _ refl

  resp_owes : Owes hostile actors from_driver (nat_lt (length (put from_driver)) (length (got from_disk)))
  resp_owes = want_driver 3 _ refl

  resp_paid : length (got from_disk) ≤ length (put from_driver)
  resp_paid = paid_one from_driver (length (got from_disk)) (w.rooms 3 (omega arith)) resp_needs resp_owes

  resp_same : length (put from_driver) ≡ length (got from_driver)
  resp_same = same_one from_driver _ (w.rooms 3 (omega arith)) resp_needs resp_owes

  came_needs : Needs hostile actors from_disk true
  came_needs = needs_now from_disk from_driver (length (got from_disk)) resp_paid (want_driver 2 _ refl)

  came_owes : Owes hostile actors from_disk (nat_lt (length (put from_disk)) (length (got to_disk)))
  came_owes = want_disk 1 _ refl

  came_paid : length (got to_disk) ≤ length (put from_disk)
  came_paid = paid_one from_disk (length (got to_disk)) (w.rooms 1 (omega arith)) came_needs came_owes

  came_same : length (put from_disk) ≡ length (got from_disk)
  came_same = same_one from_disk _ (w.rooms 1 (omega arith)) came_needs came_owes

  disk_needs : Needs hostile actors to_disk true
  disk_needs = needs_now to_disk from_disk (length (got to_disk)) came_paid (want_disk 0 _ refl)

  disk_owes : Owes hostile actors to_disk (nat_lt (length (put to_disk)) (length (got to_driver)))
  disk_owes = want_driver 1 _ refl

  disk_paid : length (got to_driver) ≤ length (put to_disk)
  disk_paid = paid_one to_disk (length (got to_driver)) disk_room disk_needs disk_owes

  disk_same : length (put to_disk) ≡ length (got to_disk)
  disk_same = same_one to_disk _ disk_room disk_needs disk_owes

  req_needs : Needs hostile actors to_driver true
  req_needs = needs_now to_driver to_disk (length (got to_driver)) disk_paid (want_driver 0 _ refl)

  req_owes : Owes hostile actors to_driver (nat_lt (length (put to_driver)) (requests_due scene.image clients m))
  req_owes = want_virt 1 _ refl

  req_paid : requests_due scene.image clients m ≤ length (put to_driver)
  req_paid = paid_one to_driver (requests_due scene.image clients m) (w.rooms 2 (omega arith)) req_needs req_owes

  req_same : length (put to_driver) ≡ length (got to_driver)
  req_same = same_one to_driver _ (w.rooms 2 (omega arith)) req_needs req_owes

  -- all that went to the disk came back
  all_back : length (put to_driver) ≡ length (got from_driver)
  all_back = let few = virt_row.answered in omega (arith, few, resp_same, resp_paid, came_same, came_paid, disk_same, disk_paid, req_same)

  -- behind the virtualiser's own request stands all that goes to the disk
  abbrev others : List Item
  others = map (numbered_item 0) (drop 1 (put to_driver))

  others_long : length others ≡ length (drop 1 (put to_driver))
  others_long = length-map (drop 1 (put to_driver)) (numbered_item 0)

  merged : Merge (all_requests scene.image clients m) others
  merged = prefix_merge_whole (all_requests scene.image clients m) others virt_row.merges (let most = drop_most (put to_driver) in omega (arith, most, others_long, req_paid))

  -- a client has the pool of its number
  pool_of : (k : ℕ) (c : Sharer) → slice_get clients k ≡ Some c → slice_get place.pools k ≡ Some c.pool
  pool_of k c at = let s = sharer_is place k c at in s.3 ∙ ap (λ (x : Sharer). Some x.pool) s.4

  pool_some : (k : ℕ) (c : Sharer) → slice_get clients k ≡ Some c → TakesBlocks c.pool
  pool_some k c at = w.pools.some k c.pool (pool_of k c at)

  -- what goes to the disk of a client's requests is at the client's buffers
  own_at : (k : ℕ) (c : Sharer) → slice_get clients k ≡ Some c → (i : ℕ) (x : Item) → slice_get (requests_on scene.image m c) i ≡ Some x → is_item_at c.pool x ≡ true
  own_at k c at i x x_at =
      let from = map_from (item_for_disk c.pool.base (partition_in scene.image c.entry)) (filter (goes_on_item (partition_in scene.image c.entry)) (got c.req)) i x x_at in
      let kept = (kept_is (goes_on_item (partition_in scene.image c.entry)) (got c.req) i from.0 from.1).1 in
      subst (λ y. is_item_at c.pool y ≡ true) from.2 (request_at c.pool (partition_in scene.image c.entry) from.0 (pool_some k c at) (virt_row.came k c at kept.0 from.0 kept.1))

  others_fail : (k : ℕ) (c : Sharer) → slice_get clients k ≡ Some c → (i : ℕ) (l : List Item) → slice_get (all_requests scene.image clients m) i ≡ Some l → (i ≡ k → ⊥) → (p : ℕ) (x : Item) → slice_get l p ≡ Some x → is_item_at c.pool x ≡ false
  others_fail k c at i l l_at away p x x_at =
      let d = map_from (requests_on scene.image m) clients i l l_at in
      w.pools.apart i k d.0.pool c.pool (pool_of i d.0 d.1) (pool_of k c at) away (request_of x).addr (own_at i d.0 d.1 p x (ap (λ z. slice_get z p) d.2 ∙ x_at))

  -- as many responses came for a client as of its requests went to the disk
  came_long : (k : ℕ) (c : Sharer) → slice_get clients k ≡ Some c → length (items_back c.pool (drop 1 (put to_driver)) (drop 1 (got from_driver))) ≡ length (filter (goes_on_item (partition_in scene.image c.entry)) (got c.req))
  came_long k c at =
      let there = map_get (requests_on scene.image m) clients k c at in
      let kept = ap length (keeps (is_item_at c.pool) (all_requests scene.image clients m) others merged k (requests_on scene.image m c) there (own_at k c at) (others_fail k c at)) in
      let back = back_long c.pool (drop 1 (put to_driver)) (drop 1 (got from_driver)) (drop_same (put to_driver) (got from_driver) all_back) in
      let numbers = numbered_long c.pool (drop 1 (put to_driver)) in
      let long = length-map (filter (goes_on_item (partition_in scene.image c.entry)) (got c.req)) (item_for_disk c.pool.base (partition_in scene.image c.entry)) in
      omega (arith, kept, back, numbers, long)

  abbrev req_want : Sharer → Want
  req_want c = intake_want c.req (nat_lt 0 (length (got from_driver)) && not (is_short (put c.resp) (got c.req)))

  abbrev resp_want : Sharer → Want
  resp_want c = outlet_want c.resp (is_short (put c.resp) (answers_due scene.image to_driver from_driver m c))

  -- one client
  module _ (k entry : ℕ) (asks : List Ask) (pool : PoolAt) (of : IsBlkClientOf place k entry asks pool) where
    abbrev c : Sharer
    c = sharer place.first k entry pool

    at : slice_get clients k ≡ Some c
    at = sharer_there place k entry pool of.has_entry of.has_pool

    room : (i : ℕ) → i < 2 → Holds hostile rows (place.first + 4 + i + 2 * k) 1
    room i lt =
        let below = there_below place.entries k entry of.has_entry in
        let e : place.first + (4 + i + 2 * k) ≡ place.first + 4 + i + 2 * k = omega arith in
        subst (λ n. Holds hostile rows n 1) e (w.rooms (4 + i + 2 * k) (omega (arith, lt, below)))

    abbrev due : List Item
    due = client_requests asks (own_pool pool) (length (got c.resp))

    client : Plays hostile actors m (blk_sheet scene (blk_client_at place.first k asks pool))
    client = w.client k entry asks pool of

    client_row : AsksInOrder asks (own_pool pool) (got c.resp) (put c.req)
    client_row = client.row

    want_client : (n : ℕ) (x : Want) → slice_get ((blk_sheet scene (blk_client_at place.first k asks pool)).wants m) n ≡ Some x → HasWant hostile actors x
    want_client = want_at (blk_sheet scene (blk_client_at place.first k asks pool)) client

    answers_are : length (answers_due scene.image to_driver from_driver m c) ≡ length (got c.req)
    answers_are = answers_long (partition_in scene.image entry) (got c.req) (items_back pool (drop 1 (put to_driver)) (drop 1 (got from_driver))) (came_long k c at)

    resp_wanted : Needs hostile actors c.resp true
    resp_wanted = want_client 0 _ refl

    resp_owed : Owes hostile actors c.resp (nat_lt (length (put c.resp)) (length (answers_due scene.image to_driver from_driver m c)))
    resp_owed = want_virt (suc (suc (suc (twice k)))) _ (pair_second req_want resp_want clients k c at)

    at_resp : Holds hostile rows c.resp 1
    at_resp = let e : place.first + 4 + 1 + 2 * k ≡ c.resp = omega arith in subst (λ n. Holds hostile rows n 1) e (room 1 (omega arith))

    answered_all : length (answers_due scene.image to_driver from_driver m c) ≤ length (put c.resp)
    answered_all = paid_one c.resp (length (answers_due scene.image to_driver from_driver m c)) at_resp resp_wanted resp_owed

    answers_same : length (put c.resp) ≡ length (got c.resp)
    answers_same = same_one c.resp _ at_resp resp_wanted resp_owed

    req_wanted : Needs hostile actors c.req true
    req_wanted =
        let begun : nat_lt 0 (length (got from_driver)) ≡ true = lt-ltb 0 (length (got from_driver)) (omega (arith, all_back, req_paid)) in
        let none : is_short (put c.resp) (got c.req) ≡ false = le-ltb (length (put c.resp)) (length (got c.req)) (omega (arith, answers_are, answered_all)) in
        let both : (nat_lt 0 (length (got from_driver)) && not (is_short (put c.resp) (got c.req))) ≡ true = rw (begun, none) refl in
        needs_as hostile h rows actors j still c.req _ true both (want_virt (suc (suc (twice k))) _ (pair_first req_want resp_want clients k c at))

    req_owed : Owes hostile actors c.req (nat_lt (length (put c.req)) (length due))
    req_owed = want_client 1 _ refl

    at_req : Holds hostile rows c.req 1
    at_req = let e : place.first + 4 + 0 + 2 * k ≡ c.req = omega arith in subst (λ n. Holds hostile rows n 1) e (room 0 (omega arith))

    asked_all : length due ≤ length (put c.req)
    asked_all = paid_one c.req (length due) at_req req_wanted req_owed

    asked_same : length (put c.req) ≡ length (got c.req)
    asked_same = same_one c.req _ at_req req_wanted req_owed

    level : length (got c.resp) ≡ length (put c.req)
    level = let few = client_row.answered in omega (arith, few, answers_are, answered_all, answers_same, asked_same)

    -- all buffers are in the client's hand, so nothing is left to ask
    pub all_asked : length (put c.req) ≡ length asks
    all_asked = by (cases_lt (length (got c.resp)) (length asks))
      where
        few : length due ≤ length asks
        few = asked_few 0 0 (pool.buffers + buffers_for (take (length (got c.resp)) asks)) pool.buffers pool.size asks

        put_few : length (put c.req) ≤ length due
        put_few = begins_few (put c.req) due client_row.begins

        by : (length (got c.resp) < length asks) ⊎ (length asks ≤ length (got c.resp)) → length (put c.req) ≡ length asks
        by (inl less) =
            let some = (w.pools.some k pool of.has_pool).0 in
            let more : length (got c.resp) < length due = asked_more 0 0 (pool.buffers + buffers_for (take (length (got c.resp)) asks)) pool.buffers pool.size (length (got c.resp)) asks less (omega (arith, some)) in
            absurd (omega (arith, more, asked_all, level))
        by (inr all) = omega (arith, few, put_few, all, level)

    pub all_answered : length (got c.resp) ≡ length asks
    all_answered = level ∙ all_asked

  -- the client of a number
  client_at : (k : ℕ) (asks : List Ask) → slice_get place.asks k ≡ Some asks → (entry : ℕ) × (pool : PoolAt) × IsBlkClientOf place k entry asks pool
  client_at k asks asks_at =
      let lt = there_below place.asks k asks asks_at in
      let asks_many = w.pools.asks_many in
      let pools_many = w.pools.pools_many in
      let entry = there_is place.entries k (omega (arith, lt, asks_many)) in
      let pool = there_is place.pools k (omega (arith, lt, asks_many, pools_many)) in
      (entry.0, pool.0, record { has_entry = entry.1; has_asks = asks_at; has_pool = pool.1 })

  -- the disk took all
  wire_is : length (got to_disk) ≡ 1 + total (all_requests scene.image clients m)
  wire_is =
      let whole = merge_total (all_requests scene.image clients m) others merged in
      let most = drop_most (put to_driver) in
      let copied = begins_few (put to_disk) (got to_driver) (driver_row 0 _ refl) in
      let less = drop_less (put to_driver) (omega (arith, req_paid)) in
      omega (arith, whole, others_long, req_same, disk_same, disk_paid, copied, most, less)

  pub answers_all : AnswersAll scene place m
  answers_all = record {
    asked = λ k asks asks_at. let c = client_at k asks asks_at in all_asked k c.0 asks c.1 c.2;
    answered = λ k asks asks_at. let c = client_at k asks asks_at in all_answered k c.0 asks c.1 c.2;
    on_disk = wire_is;
  }
