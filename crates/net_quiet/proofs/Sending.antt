-- From the buffers that come back up to the frames that go out: where nobody is runnable, each
-- client put all that it has to send, and all of it is on the wire.
use Rattle.std.proofs.Common.{◌≡◌, ◌⊎◌, ◌+◌, ◌-◌, ◌*◌, ◌++◌, ◌<◌, ◌≤◌, ◌&&◌, ℕ, suc, Bool, true, false, not, nat_le, nat_lt, Some, List, [], ◌∷◌, length, map, slice_get, length-append, refl, sym, ap, ◌∙◌, subst, arith, inl, inr}
use Rattle.std.specs.List.{filter}
use Rattle.std.proofs.lemmas.List.{length-map}
use Rattle.std.proofs.lemmas.Bool.{ltb-false, le-ltb, le-leb, lt-ltb}
use Rattle.cargo_core.specs.Lists.{Merge}
use Rattle.cargo_core.specs.declared.item.Item.{Item}
use Rattle.cargo_core.specs.declared.item.Item.TheVariants as ItemOf
use Rattle.frame_core.specs.declared.mac.Mac.{Mac}
use Rattle.wire_core.specs.declared.names.QueueRow.{QueueRow}
use Rattle.wire_core.specs.declared.names.Entry.{Entry}
use Rattle.wire_core.specs.Journal.{History, Hostiles}
use Rattle.play_core.specs.Moved.{Moved, moved, sent, taken}
use Rattle.play_core.specs.Sheets.{Scene, Sheet}
use Rattle.play_core.specs.Wants.{Want, Needful, intake_want, outlet_want}
use Rattle.play_core.specs.Still.{IsStill, HasWant, Plays, Needs, Owes, Holds}
use Rattle.play_core.proofs.OneQueue.{whole_prefix}
use Rattle.play_core.proofs.Lists.{map_get, map_from, there_below}
use Rattle.play_core.proofs.Merges.{prefix_merge_whole}
use Rattle.play_core.proofs.Walks.{needs_as, drained, paid, roomy}
use Rattle.class_expect.specs.NetExpect.Expecting.{Program}
use Rattle.buffer_kit.specs.Entries.{addr_of}
use Rattle.net_virt_tx.specs.Descriptors.{with_addr}
use Rattle.net_law.specs.Owners.Names.{ClientPools}
use Rattle.owner_law.specs.Pools.Places.{PoolAt, by_offset, numbers_from}
use Rattle.net_law.specs.Parts.Parts.{Way}
use Rattle.net_law.specs.Parts.Numbers.{client_first, device_at, driver_at, client_at}
use Rattle.net_law.specs.Parts.Rows.{AllCopy, ServesClient, given_item, given_items, sent_lens}
use Rattle.net_law.specs.Parts.Table.{net_sheet, is_short, client_items}
use Rattle.net_law.proofs.PartsLemmas.Pairs.{twice, pair_first, pair_second}
use Rattle.net_law.proofs.PartsLemmas.Plain.{numbers_length}
use Rattle.net_virt_tx.proofs.Counting.{ends_within}
use Rattle.net_law.specs.TxParts.Parts.{Shipper}
use Rattle.net_law.specs.TxParts.Numbers.{NetPlace, own_pools, sender_at, shippers_from}
use Rattle.net_law.specs.TxParts.Rows.{MergesSends, IsOffset, all_sends, sends_due, at_device, at_home, in_range}
use Rattle.net_law.specs.TxParts.Table.{send_sheet}
use Rattle.net_quiet.specs.TxCast.Casting.{IsClientOf}
use Rattle.net_quiet.specs.Still.{IsNetwork}
use Rattle.net_quiet.proofs.Listing.{keeps, sized_as, sized_few, ship_of, shipper_at, shipper_from}

-- an item at a buffer of a pool is in the pool's range by its device address
in_own : (p : PoolAt) → 0 < p.size → (x : Item) → IsOffset p x → in_range p (with_addr (p.base + addr_of x) x) ≡ true
in_own p some (ItemOf.Net d) at = within (at.begins)
  where
    within : d.addr ≡ at.number * p.size → (nat_le p.base (p.base + d.addr) && nat_lt (p.base + d.addr) (p.base + p.buffers * p.size)) ≡ true
    within e =
        let few = at.few in
        let low : nat_le p.base (p.base + d.addr) ≡ true = le-leb p.base (p.base + d.addr) (omega arith) in
        let high : nat_lt (p.base + d.addr) (p.base + p.buffers * p.size) ≡ true = lt-ltb (p.base + d.addr) (p.base + p.buffers * p.size) (let inside = ends_within p.size at.number p.buffers few in omega (arith, e, some, inside)) in
        rw (low, high) refl
in_own p some (ItemOf.Byte b) at = let e = at.net in cc
in_own p some (ItemOf.Req r) at = let e = at.net in cc
in_own p some (ItemOf.Resp r) at = let e = at.net in cc

all_in_own : (p : PoolAt) → 0 < p.size → (items : List Item) → ((j : ℕ) (x : Item) → slice_get items j ≡ Some x → IsOffset p x) → (j : ℕ) (x : Item) → slice_get (at_device p items) j ≡ Some x → in_range p x ≡ true
all_in_own p some items at j x x_at =
    let from = map_from (λ i. with_addr (p.base + addr_of i) i) items j x x_at in
    subst (λ y. in_range p y ≡ true) from.2 (in_own p some from.0 (at j from.0 from.1))

given_long : (tx : PoolAt) (back : List Item) → length (given_items (by_offset tx) ++ back) ≡ tx.buffers + length back
given_long tx back =
    let made : length (given_items (by_offset tx)) ≡ length (numbers_from 0 tx.buffers) = length-map (numbers_from 0 tx.buffers) (given_item (by_offset tx)) in
    omega (arith, length-append (given_items (by_offset tx)) back, made, numbers_length 0 tx.buffers)

-- the driver's ways
abbrev pub ways_at : (first : ℕ) → List Way
ways_at first = record { input = first + 5; output = first } ∷ record { input = first + 1; output = first + 4 } ∷ record { input = first + 6; output = first + 2 } ∷ record { input = first + 3; output = first + 7 } ∷ []

module _ (hostile : Hostiles) (h : History) (rows : List QueueRow) (actors : Needful) (j : List Entry) (scene : Scene) (frames : List (List ℕ)) (used : List Bool) (net : NetPlace) (still : IsStill hostile h rows actors j) (w : IsNetwork hostile scene frames used rows actors net (moved h j)) where
  abbrev pub m : Moved
  m = moved h j

  abbrev pub put : ℕ → List Item
  put n = sent h n j

  abbrev pub got : ℕ → List Item
  got n = taken h n j

  -- an actor has the ends of its sheet
  pub want_at : (s : Sheet) → Plays hostile actors m s → (place : ℕ) (x : Want) → slice_get (s.wants m) place ≡ Some x → HasWant hostile actors x
  want_at s plays place x is = record { ends = s.wants m; acts = plays.acts; place = place; is = is }

  -- one entry has room
  pub paid_one : (n due : ℕ) → Holds hostile rows n 1 → Needs hostile actors n true → Owes hostile actors n (nat_lt (length (put n)) due) → due ≤ length (put n)
  paid_one n due holds needs owes = paid hostile h rows actors j still n 1 due holds (omega arith) needs owes

  pub drained_one : (n : ℕ) (owed : Bool) → Holds hostile rows n 1 → Needs hostile actors n true → Owes hostile actors n owed → put n ≡ got n
  drained_one n owed holds needs owes = drained hostile h rows actors j still n 1 owed holds needs owes

  -- where all that is due was put, the next is needed
  pub needs_now : (n out due : ℕ) → due ≤ length (put out) → Needs hostile actors n (not (nat_lt (length (put out)) due)) → Needs hostile actors n true
  needs_now n out due le needs = needs_as hostile h rows actors j still n _ true (ap not (le-ltb (length (put out)) due le)) needs

  -- the class's queues can hold an entry
  pub queue_at : (n i : ℕ) → net.first + i ≡ n → i < 8 + 6 * length net.macs → Holds hostile rows n 1
  queue_at n i e lt = subst (λ x. Holds hostile rows x 1) e (w.rooms.each i lt)

  pub driver_row : AllCopy (ways_at net.first) m
  driver_row = w.driver.row

  sender_row : MergesSends (sender_at net.first net.most net.pools) m
  sender_row = w.sender.row

  abbrev clients : List Shipper
  clients = shippers_from net.first net.most 0 net.pools

  want_driver : (place : ℕ) (x : Want) → slice_get ((net_sheet scene (driver_at net.first)).wants m) place ≡ Some x → HasWant hostile actors x
  want_driver = want_at (net_sheet scene (driver_at net.first)) w.driver

  want_device : (place : ℕ) (x : Want) → slice_get ((net_sheet scene (device_at net.first frames net.device_drops)).wants m) place ≡ Some x → HasWant hostile actors x
  want_device = want_at (net_sheet scene (device_at net.first frames net.device_drops)) w.device

  want_sender : (place : ℕ) (x : Want) → slice_get ((send_sheet (sender_at net.first net.most net.pools)).wants m) place ≡ Some x → HasWant hostile actors x
  want_sender = want_at (send_sheet (sender_at net.first net.most net.pools)) w.sender

  -- from the virtualiser's free buffers to the device's frames

  free_needs : Needs hostile actors (net.first + 7) true
  free_needs = want_sender 0 _ refl

  free_owes : Owes hostile actors (net.first + 7) (nat_lt (length (put (net.first + 7))) (length (got (net.first + 3))))
  free_owes = want_driver 7 _ refl

  at_free : Holds hostile rows (net.first + 7) 1
  at_free = queue_at (net.first + 7) 7 refl (omega arith)

  free_paid : length (got (net.first + 3)) ≤ length (put (net.first + 7))
  free_paid = paid_one (net.first + 7) (length (got (net.first + 3))) at_free free_needs free_owes

  free_drained : put (net.first + 7) ≡ got (net.first + 7)
  free_drained = drained_one (net.first + 7) _ at_free free_needs free_owes

  back_needs : Needs hostile actors (net.first + 3) true
  back_needs = needs_now (net.first + 3) (net.first + 7) (length (got (net.first + 3))) free_paid (want_driver 6 _ refl)

  back_owes : Owes hostile actors (net.first + 3) (nat_lt (length (put (net.first + 3))) (length (got (net.first + 2))))
  back_owes = want_device 3 _ refl

  at_back : Holds hostile rows (net.first + 3) 1
  at_back = queue_at (net.first + 3) 3 refl (omega arith)

  back_paid : length (got (net.first + 2)) ≤ length (put (net.first + 3))
  back_paid = paid_one (net.first + 3) (length (got (net.first + 2))) at_back back_needs back_owes

  back_drained : put (net.first + 3) ≡ got (net.first + 3)
  back_drained = drained_one (net.first + 3) _ at_back back_needs back_owes

  wire_needs : Needs hostile actors (net.first + 2) true
  wire_needs = needs_now (net.first + 2) (net.first + 3) (length (got (net.first + 2))) back_paid (want_device 2 _ refl)

  wire_owes : Owes hostile actors (net.first + 2) (nat_lt (length (put (net.first + 2))) (length (got (net.first + 6))))
  wire_owes = want_driver 5 _ refl

  at_wire : Holds hostile rows (net.first + 2) 1
  at_wire = queue_at (net.first + 2) 2 refl (omega arith)

  wire_paid : length (got (net.first + 6)) ≤ length (put (net.first + 2))
  wire_paid = paid_one (net.first + 2) (length (got (net.first + 6))) at_wire wire_needs wire_owes

  wire_drained : put (net.first + 2) ≡ got (net.first + 2)
  wire_drained = drained_one (net.first + 2) _ at_wire wire_needs wire_owes

  out_needs : Needs hostile actors (net.first + 6) true
  out_needs = needs_now (net.first + 6) (net.first + 2) (length (got (net.first + 6))) wire_paid (want_driver 4 _ refl)

  out_owes : Owes hostile actors (net.first + 6) (nat_lt (length (put (net.first + 6))) (sends_due clients m))
  out_owes = want_sender 1 _ refl

  at_out : Holds hostile rows (net.first + 6) 1
  at_out = queue_at (net.first + 6) 6 refl (omega arith)

  out_paid : sends_due clients m ≤ length (put (net.first + 6))
  out_paid = paid_one (net.first + 6) (sends_due clients m) at_out out_needs out_owes

  out_drained : put (net.first + 6) ≡ got (net.first + 6)
  out_drained = drained_one (net.first + 6) _ at_out out_needs out_owes

  -- what the virtualiser put is on the wire, and came back
  wire_is : got (net.first + 2) ≡ put (net.first + 6)
  wire_is =
      let copied : put (net.first + 2) ≡ got (net.first + 6) = whole_prefix (put (net.first + 2)) (got (net.first + 6)) (driver_row 2 _ refl) wire_paid in
      sym wire_drained ∙ (copied ∙ sym out_drained)

  came_back : got (net.first + 7) ≡ put (net.first + 6)
  came_back =
      let copied : put (net.first + 7) ≡ got (net.first + 3) = whole_prefix (put (net.first + 7)) (got (net.first + 3)) (driver_row 3 _ refl) free_paid in
      let returned : put (net.first + 3) ≡ got (net.first + 2) = whole_prefix (put (net.first + 3)) (got (net.first + 2)) w.fills.returns back_paid in
      sym free_drained ∙ (copied ∙ (sym back_drained ∙ (returned ∙ wire_is)))

  -- all that came from the clients
  merged : Merge (all_sends clients m) (put (net.first + 6))
  merged = prefix_merge_whole (all_sends clients m) (put (net.first + 6)) sender_row.merges out_paid

  pub wire_merge : Merge (all_sends clients m) (got (net.first + 2))
  wire_merge = subst (Merge (all_sends clients m)) (sym wire_is) merged

  abbrev in_want : Shipper → Want
  in_want c = intake_want c.active (not (is_short (at_home c.pool (put (net.first + 6))) (got c.active)))

  abbrev out_want : Shipper → Want
  out_want c = outlet_want c.free (is_short (put c.free) (at_home c.pool (got (net.first + 7))))

  ship_at : (k : ℕ) (q : ClientPools) → slice_get net.pools k ≡ Some q → slice_get clients k ≡ Some (ship_of net.first net.most k q)
  ship_at k q at = shipper_at net.first net.most 0 net.pools k k q (omega arith) at

  others_fail : (k : ℕ) (q : ClientPools) → slice_get net.pools k ≡ Some q → (i : ℕ) (l : List Item) → slice_get (all_sends clients m) i ≡ Some l → (i ≡ k → ⊥) → (p : ℕ) (x : Item) → slice_get l p ≡ Some x → in_range q.tx x ≡ false
  others_fail k q at i l l_at away p x x_at =
      let c = map_from (λ (c : Shipper). at_device c.pool (got c.active)) clients i l l_at in
      let of = shipper_from net.first net.most 0 net.pools i c.0 c.1 in
      let pool_is : of.0.tx ≡ c.0.pool = ap (λ (s : Shipper). s.pool) of.2 in
      let own : in_range c.0.pool x ≡ true = all_in_own c.0.pool (sender_row.sized i c.0 c.1) (got c.0.active) (sender_row.came i c.0 c.1) p x (ap (λ z. slice_get z p) c.2 ∙ x_at) in
      w.pools.apart i k of.0 q of.1 at away (addr_of x) (ap (λ pool. in_range pool x) pool_is ∙ own)

  -- what is in a client's range is what came from the client
  home_long : (k : ℕ) (q : ClientPools) → slice_get net.pools k ≡ Some q → length (at_home q.tx (put (net.first + 6))) ≡ length (got (client_first net.first k + 4))
  home_long k q at =
      let ship = ship_at k q at in
      let there = map_get (λ (c : Shipper). at_device c.pool (got c.active)) clients k (ship_of net.first net.most k q) ship in
      let kept = keeps (in_range q.tx) (all_sends clients m) (put (net.first + 6)) merged k (at_device q.tx (got (client_first net.first k + 4))) there (all_in_own q.tx (sender_row.sized k (ship_of net.first net.most k q) ship) (got (client_first net.first k + 4)) (sender_row.came k (ship_of net.first net.most k q) ship)) (others_fail k q at) in
      let long = length-map (filter (in_range q.tx) (put (net.first + 6))) (λ i. with_addr (addr_of i - q.tx.base) i) in
      let own = length-map (got (client_first net.first k + 4)) (λ i. with_addr (q.tx.base + addr_of i) i) in
      let same = ap length kept in
      omega (arith, long, own, same)

  home_back : (k : ℕ) (q : ClientPools) → slice_get net.pools k ≡ Some q → length (at_home q.tx (got (net.first + 7))) ≡ length (got (client_first net.first k + 4))
  home_back k q at = ap (λ l. length (at_home q.tx l)) came_back ∙ home_long k q at

  -- one client
  module _ (k : ℕ) (program : Program) (mac : Mac) (q : ClientPools) (of : IsClientOf net k program mac q) where
    abbrev ra : ℕ
    ra = client_first net.first k + 2

    abbrev ta : ℕ
    ta = client_first net.first k + 4

    abbrev tf : ℕ
    tf = client_first net.first k + 5

    abbrev lens : List ℕ
    lens = sent_lens program mac (got ra)

    abbrev items : List Item
    items = client_items program mac (got ra) (own_pools q).tx (got tf)

    below : k < length net.macs
    below = there_below net.macs k mac of.address

    client : Plays hostile actors m (net_sheet scene (client_at net.first k program mac (own_pools q)))
    client = w.client k program mac q of

    client_row : ServesClient program mac (by_offset (own_pools q).rx) (by_offset (own_pools q).tx) (got ra) (put (client_first net.first k + 3)) (got tf) (put ta)
    client_row = client.row

    want_client : (place : ℕ) (x : Want) → slice_get ((net_sheet scene (client_at net.first k program mac (own_pools q))).wants m) place ≡ Some x → HasWant hostile actors x
    want_client = want_at (net_sheet scene (client_at net.first k program mac (own_pools q))) client

    at_ta : Holds hostile rows ta 1
    at_ta = queue_at ta (12 + 6 * k) (omega arith) (omega (arith, below))

    ta_needs : Needs hostile actors ta true
    ta_needs =
        let long = home_long k q of.pools in
        let none : is_short (at_home q.tx (put (net.first + 6))) (got ta) ≡ false = le-ltb (length (at_home q.tx (put (net.first + 6)))) (length (got ta)) (omega (arith, long)) in
        let place = pair_first in_want out_want clients k (ship_of net.first net.most k q) (ship_at k q of.pools) in
        needs_as hostile h rows actors j still ta _ true (ap not none) (want_sender (suc (suc (twice k))) _ place)

    ta_owes : Owes hostile actors ta (nat_lt (length (put ta)) (length items))
    ta_owes = want_client 3 _ refl

    ta_paid : length items ≤ length (put ta)
    ta_paid = paid_one ta (length items) at_ta ta_needs ta_owes

    pub ta_drained : put ta ≡ got ta
    ta_drained = drained_one ta _ at_ta ta_needs ta_owes

    put_few : (length (put ta) ≤ length lens) × (length (put ta) ≤ q.tx.buffers + length (got tf))
    put_few =
        let few = sized_few lens (given_items (by_offset (own_pools q).tx) ++ got tf) (put ta) client_row.sends.filled in
        let given = given_long (own_pools q).tx (got tf) in
        (few.0, omega (arith, few.1, given))

    tf_needs : Needs hostile actors tf (nat_lt (length (put ta)) (length lens) && not (nat_lt (length (put ta)) (q.tx.buffers + length (got tf))))
    tf_needs = want_client 2 _ refl

    tf_owes : Owes hostile actors tf (nat_lt (length (put tf)) (length (at_home q.tx (got (net.first + 7)))))
    tf_owes =
        let place = pair_second in_want out_want clients k (ship_of net.first net.most k q) (ship_at k q of.pools) in
        want_sender (suc (suc (suc (twice k)))) _ place

    at_tf : Holds hostile rows tf q.tx.buffers
    at_tf = w.rooms.tx_free k q of.pools

    tf_paid : length (at_home q.tx (got (net.first + 7))) ≤ length (put tf)
    tf_paid =
        let back = home_back k q of.pools in
        let same : length (put ta) ≡ length (got ta) = ap length ta_drained in
        roomy hostile h rows actors j still tf q.tx.buffers (length (at_home q.tx (got (net.first + 7)))) _ at_tf tf_needs tf_owes (omega (arith, back, same, put_few.1))

    -- a frame that is left would have a buffer
    no_frame : (b : Bool) → nat_lt (length (put ta)) (length lens) ≡ b → length lens ≤ length (put ta)
    no_frame false e = ltb-false (length (put ta)) (length lens) e
    no_frame true e = by (sized_as lens (given_items (by_offset (own_pools q).tx) ++ got tf)).2
      where
        by : (length items ≡ length lens) ⊎ (length items ≡ length (given_items (by_offset (own_pools q).tx) ++ got tf)) → length lens ≤ length (put ta)
        by (inl all) = omega (arith, all, ta_paid)
        by (inr all) =
            let given = given_long (own_pools q).tx (got tf) in
            let none : nat_lt (length (put ta)) (q.tx.buffers + length (got tf)) ≡ false = le-ltb (length (put ta)) (q.tx.buffers + length (got tf)) (omega (arith, all, given, ta_paid)) in
            let wanted : (nat_lt (length (put ta)) (length lens) && not (nat_lt (length (put ta)) (q.tx.buffers + length (got tf)))) ≡ true = rw (e, none) refl in
            let needs : Needs hostile actors tf true = needs_as hostile h rows actors j still tf _ true wanted tf_needs in
            let same : length (put tf) ≡ length (got tf) = ap length (drained hostile h rows actors j still tf q.tx.buffers _ at_tf needs tf_owes) in
            let back = home_back k q of.pools in
            let drained_ta : length (put ta) ≡ length (got ta) = ap length ta_drained in
            let some = (w.pools.each k q of.pools).1 in
            absurd (omega (arith, all, given, ta_paid, same, back, drained_ta, tf_paid, some))

    pub all_sent : length (put ta) ≡ length lens
    all_sent = let all = no_frame _ refl in let few = put_few.0 in omega (arith, all, few)
