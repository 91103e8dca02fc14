-- What the sending virtualiser needs and owes, of the items that passed and the names that are told,
-- whoever its clients are.
use Rattle.std.proofs.Common.{◌≡◌, ◌+◌, ◌++◌, ◌==◌, ◌&&◌, ℕ, suc, Bool, true, false, not, nat_lt, Option, Some, None, is_some, is_none, List, [], ◌∷◌, All, length, map, slice_get, length-append, refl, sym, ap, ap₂, ◌∙◌, subst, arith}
use Rattle.std.specs.List.{filter, list_any}
use Rattle.std.specs.Option.{option_to_list}
use Rattle.std.proofs.lemmas.Bool.{lt-ltb}
use Rattle.std.proofs.lemmas.List.{append-nil, length-map}
use Rattle.std.proofs.lemmas.List.Sums.{sum_by-cons}
use Rattle.cargo_core.specs.Ranges.{AreRanges}
use Rattle.cargo_core.specs.declared.item.Item.{Item}
use Rattle.wire_core.specs.declared.names.QueueId.{QueueId}
use Rattle.wire_core.specs.Deeds.{Cargo}
use Rattle.wire_core.specs.Lists.{Passed, if_there}
use Rattle.wire_core.specs.Queues.{items_of}
use Rattle.play_core.specs.Moved.{Moved}
use Rattle.play_core.specs.Names.{Names, Wild, by_sort, items_in, named}
use Rattle.play_core.specs.Rests.Showing.{HaveItems}
use Rattle.play_core.specs.Totals.{total}
use Rattle.play_core.proofs.Lists.{map_from, map_get}
use Rattle.play_core.proofs.Merges.{merge_total}
use Rattle.play_core.proofs.Naming.{told_is}
use Rattle.play_core.proofs.RestsLemmas.Settling.{put}
use Rattle.buffer_kit.specs.Entries.{addr_of}
use Rattle.buffer_kit.specs.Virtualising.{from_queues, to_queues}
use Rattle.net_virt_tx.specs.declared.NetVirtTx.{NetVirtTx}
use Rattle.net_virt_tx.specs.declared.client.Client.{Client}
use Rattle.net_virt_tx.specs.declared.descriptors.Sender.{Sender}
use Rattle.net_virt_tx.specs.declared.returns.Returns.{Returns}
use Rattle.net_virt_tx.specs.Descriptors.{to_client, with_addr}
use Rattle.net_virt_tx.specs.Queued.{returns_list, IsReady}
use Rattle.net_virt_tx.specs.Serving.{bad_ones, is_good_of, own_of}
use Rattle.net_virt_tx.specs.Clients.{ClientStands, first_of, is_idle, is_leaving, is_loaded, range_of}
use Rattle.net_virt_tx.specs.Traffics.{senders, is_free, owes, needs_at, loaded_at, is_so}
use Rattle.net_virt_tx.specs.Sending.{TxStandsFor, TxRow, IsAnyones, queue_at}
use Rattle.net_virt_tx.proofs.Rounds.{row_of}
use Rattle.net_virt_tx.proofs.Splitting.{owned, split}
use Rattle.net_law.specs.TxParts.Parts.{SendPart, Shipper}
use Rattle.net_law.specs.TxParts.Rows.{at_device, at_home}
use Rattle.net_law.specs.TxParts.Playing.{send_part, sender_pool, shippers}
use Rattle.net_law.specs.TxScene.Rows.{back_due, bad_in, bads, bads_back, goods, goods_due}
use Rattle.net_law.specs.TxScene.Table.{is_served}
use Rattle.net_law.specs.TxScene.Playing.{CalmGood, ReturnsGood, TellsBack, TellsOf}
use Rattle.net_law.proofs.TxParts.Items.{home_items, none_bad}
use Rattle.net_law.proofs.TxRests.Sending.{any_is, empty, leaving_sum, less_by, none_of, queue_is, ready_is}
use Rattle.net_law.proofs.TxScene.Counting.{back_bad, bad_length}
use Rattle.net_law.proofs.TxScene.Sorting.{bads_are, goods_are}
use Rattle.net_law.proofs.TxScene.Telling.{Ships, bads_told, ship_of, ship_there, ships}

shorter : (n : ℕ) (o : Option Cargo) (m k : ℕ) → m ≡ n → k ≡ n + length (option_to_list o) → not (nat_lt m k) ≡ is_none o
shorter n None m k a b = rw (a, b ∙ (let e : n + 0 ≡ n = omega arith in e)) (same n)
  where
    same : (x : ℕ) → not (nat_lt x x) ≡ true
    same x = grind (arith)
shorter n (Some c) m k a b = rw (a, b) (less n)
  where
    less : (x : ℕ) → not (nat_lt x (x + 1)) ≡ false
    less x = grind (arith)

-- an entry is to go to a client where more are due than went
load_is : (bad : Option Cargo) (r : Returns) → IsReady r → (n m : ℕ) → n + (length (option_to_list bad) + length (returns_list r)) ≡ m → is_some (first_of bad r.next) ≡ nat_lt n m
load_is None r ready n m e = ready_is r ready n m (omega (arith, e))
load_is (Some x) r ready n m e = sym (lt-ltb n m (omega (arith, e)))

items_long : (xs : List Cargo) → length (items_of xs) ≡ length xs
items_long xs = length-map xs (λ (x : Cargo). x.0)

-- what came from all clients is what went to the driver and what leaves
due_sum : (wild : Wild) (names : Names) (sent : List Cargo) (m : Moved) (cs : List Client) (from to : List QueueId) → length from ≡ length cs → length to ≡ length cs → ((k : ℕ) (c : Client) (q r : QueueId) → slice_get cs k ≡ Some c → slice_get from k ≡ Some q → slice_get to k ≡ Some r → length (own_of c.sender sent) + length (option_to_list c.leaving) ≡ length (goods wild names m (ship_of c.sender q r))) → total (map (owned sent) (map (λ (c : Client). c.sender) cs)) + leaving_sum cs ≡ goods_due wild names (shippers (map (λ (c : Client). c.sender) cs) from to) m
due_sum wild names sent m [] from to a b each = refl
due_sum wild names sent m (c ∷ cs) [] to a b each = absurd (omega (arith, a))
due_sum wild names sent m (c ∷ cs) (q ∷ from) [] a b each = absurd (omega (arith, b))
due_sum wild names sent m (c ∷ cs) (q ∷ from) (r ∷ to) a b each =
    let first = each 0 c q r refl refl refl in
    let long = length-map (owned sent c.sender) (to_client c.sender.base) in
    let rest = due_sum wild names sent m cs from to (omega (arith, a)) (omega (arith, b)) (λ k d p o at at' at''. each (suc k) d p o at at' at'') in
    let more = sum_by-cons (λ (d : Client). length (option_to_list d.leaving)) c cs in
    let mine = goods wild names m (ship_of c.sender q r) in
    let due : length (at_device (sender_pool c.sender) mine) ≡ length mine = length-map mine (λ i. with_addr (c.sender.base + addr_of i) i) in
    let all : total (map (owned sent) (map (λ (d : Client). d.sender) (c ∷ cs))) + leaving_sum (c ∷ cs) ≡ length (at_device (sender_pool c.sender) mine) + goods_due wild names (shippers (map (λ (d : Client). d.sender) cs) from to) m = omega (arith, first, long, rest, more, due) in
    all

module _ (wild : Wild) (names : Names) (passed : Passed) (m : Moved) (h : HaveItems passed m) (v : NetVirtTx) (tells : TellsOf wild names (send_part v).clients passed) (backs : TellsBack wild names (send_part v).clients passed) (calm : CalmGood wild v passed) (good : ReturnsGood wild v passed) (in_turn : (row : TxRow v passed) → row.stray ≡ [])
    (from_each : length (from_queues v.ends) ≡ length v.work.clients.items) (to_each : length (to_queues v.ends) ≡ length v.work.clients.items) (st : TxStandsFor v passed) where
  abbrev p : SendPart
  p = send_part v

  abbrev cs : List Client
  cs = v.work.clients.items

  abbrev from : List QueueId
  from = from_queues v.ends

  abbrev to : List QueueId
  to = to_queues v.ends

  abbrev sent : List Cargo
  sent = passed.sent v.ends.output.queue.0

  abbrev returned : List Cargo
  returned = passed.taken v.ends.input.queue.0

  stray_none : v.work.stray ≡ None
  stray_none = let row = row_of v passed st in none_of v.work.stray (sym row.strayed ∙ in_turn row)

  turn_is : (n : ℕ) → st.turn n ≡ passed.taken n
  turn_is n = sym (st.taken n ∙ (ap (λ x. st.turn n ++ if_there (st.place == n) (option_to_list x)) stray_none ∙ (ap (λ x. st.turn n ++ x) (empty (st.place == n)) ∙ append-nil (st.turn n))))

  pub free_is : is_free v.work ≡ true
  free_is = ap is_none stray_none

  module _ (k : ℕ) (c : Client) (at : slice_get cs k ≡ Some c) (q r : QueueId) (comes : slice_get from k ≡ Some q) (goes : slice_get to k ≡ Some r) where
    abbrev s : Sender
    s = c.sender

    abbrev d : Shipper
    d = ship_of s q r

    sender_there : slice_get (senders v.work) k ≡ Some s
    sender_there = map_get (λ (x : Client). x.sender) cs k c at

    there : slice_get p.clients k ≡ Some d
    there = ship_there (senders v.work) from to k s q r sender_there comes goes

    all_good : wild q.0 ≡ false → All (λ (x : Cargo). is_good_of s x ≡ true) (passed.taken q.0)
    all_good w = calm k s q sender_there comes w

    stands : ClientStands c (passed.taken q.0) (own_of s sent) (own_of s returned) (passed.sent r.0)
    stands =
        let a = st.stands.clients k c at in
        let b = subst (λ n. ClientStands c (st.turn n) (own_of s sent) (own_of s (st.turn v.ends.input.queue.0)) (passed.sent (queue_at to k))) (queue_is from k q comes) a in
        let x = subst (λ n. ClientStands c (st.turn q.0) (own_of s sent) (own_of s (st.turn v.ends.input.queue.0)) (passed.sent n)) (queue_is to k r goes) b in
        let e = subst (λ l. ClientStands c l (own_of s sent) (own_of s (st.turn v.ends.input.queue.0)) (passed.sent r.0)) (turn_is q.0) x in
        subst (λ l. ClientStands c (passed.taken q.0) (own_of s sent) (own_of s l) (passed.sent r.0)) (turn_is v.ends.input.queue.0) e

    -- its good descriptors went to the driver, but for one that leaves
    goods_long : length (own_of s sent) + length (option_to_list c.leaving) ≡ length (goods wild names m d)
    goods_long =
        let a = ap (λ (l : List Item). length l) (goods_are wild names m s q r (passed.taken q.0) (sym (h.taken q.0)) (λ w. tells k d there w) all_good) in
        let b = items_long (filter (is_good_of s) (passed.taken q.0)) in
        let all = ap (λ l. length l) stands.sends in
        let parts = length-append (own_of s sent) (map (to_client s.base) (option_to_list c.leaving)) in
        let leaves = length-map (option_to_list c.leaving) (to_client s.base) in
        omega (arith, a, b, all, parts, leaves)

    -- its bad ones went back, but for one that waits
    bads_long : length (bads wild names m d) ≡ length stands.bads + length (option_to_list c.bad)
    bads_long =
        let a = ap (λ (l : List Item). length l) (bads_are wild names m s q r (passed.taken q.0) (sym (h.taken q.0)) (λ w. tells k d there w) all_good) in
        let b = items_long (bad_ones s (passed.taken q.0)) in
        let all = ap (λ l. length l) stands.bads_are in
        let parts = length-append stands.bads (option_to_list c.bad) in
        omega (arith, a, b, all, parts)

    back_by : (w : Bool) → wild q.0 ≡ w → length (by_sort w (items_in (bad_in d (named (m.sent r.0) (names r.0)))) []) ≡ length stands.bads
    back_by true w =
        let told = ap (λ xs. named xs (names r.0)) (sym (h.sent r.0)) ∙ told_is (passed.sent r.0) names r.0 (backs k d there w) in
        let a = ap (λ xs. length (items_in (bad_in d xs))) told ∙ (ap (λ (l : List Item). length l) (bads_told s q r (passed.sent r.0)) ∙ items_long (bad_ones s (passed.sent r.0))) in
        let b = bad_length s (passed.sent r.0) in
        let e = back_bad c (passed.taken q.0) (own_of s sent) (own_of s returned) (passed.sent r.0) stands (good k s q sender_there comes w) in
        omega (arith, a, b, e)
    back_by false w =
        let none = ap (λ (xs : List Cargo). length xs) (stands.bads_are ∙ none_bad s (passed.taken q.0) (all_good w)) in
        let e = length-append stands.bads (option_to_list c.bad) in
        omega (arith, none, e)

    back_long : length (bads_back wild names m d) ≡ length stands.bads
    back_long = back_by (wild q.0) refl

    home_long : (xs : List Cargo) → length (at_home (sender_pool s) (items_of xs)) ≡ length (own_of s xs)
    home_long xs = sym (ap (λ l. length l) (home_items s xs)) ∙ items_long (own_of s xs)

    sent_home : length (at_home (sender_pool s) (m.sent v.ends.output.queue.0)) ≡ length (own_of s sent)
    sent_home = ap (λ l. length (at_home (sender_pool s) l)) (sym (h.sent v.ends.output.queue.0)) ∙ home_long sent

    idle_is : is_idle c ≡ is_served wild names p m d
    idle_is = sym (ap₂ (λ (x y : Bool). x && y)
        (shorter (length (own_of s sent)) c.leaving (length (at_home (sender_pool s) (m.sent v.ends.output.queue.0))) (length (goods wild names m d)) sent_home (sym goods_long))
        (shorter (length stands.bads) c.bad (length (bads_back wild names m d)) (length (bads wild names m d)) back_long bads_long))

    -- what came back for it is put, but for what waits
    loaded_is : is_loaded c ≡ nat_lt (length (m.sent r.0)) (back_due wild names p m d)
    loaded_is =
        let home = ap (λ l. length (at_home (sender_pool s) l)) (sym (h.taken v.ends.input.queue.0)) ∙ home_long returned in
        let back = merge_total (stands.bads ∷ stands.rets ∷ []) (passed.sent r.0) stands.merged in
        let all = ap (λ l. length l) stands.rets_are in
        let parts = length-append stands.rets (returns_list c.returns) in
        load_is c.bad c.returns (st.work.each k c at).ready (length (m.sent r.0)) (back_due wild names p m d) (omega (arith, home, back, all, parts, bads_long, put passed m h r.0))

    needs_is : needs_at v.work k ≡ is_served wild names p m d
    needs_is = ap (λ o. is_none o && is_so is_idle (slice_get cs k)) stray_none ∙ (ap (is_so is_idle) at ∙ idle_is)

    loads_is : loaded_at v.work k ≡ nat_lt (length (m.sent r.0)) (back_due wild names p m d)
    loads_is = ap (λ o. is_none o && is_so is_loaded (slice_get cs k)) stray_none ∙ (ap (is_so is_loaded) at ∙ loaded_is)

  anyones : All (IsAnyones (senders v.work)) sent
  anyones k d lt = let x = st.stands.within k d lt in (x.0, x.1.sender, map_get (λ (c : Client). c.sender) cs x.0 x.1 x.2, x.3)

  ranges : AreRanges (map range_of (senders v.work))
  ranges = subst AreRanges st.work.ranges_are st.work.apart

  pub owes_is : owes v.work ≡ nat_lt (length (m.sent p.active)) (goods_due wild names p.clients m)
  owes_is =
      let all = merge_total (map (owned sent) (senders v.work)) sent (split (senders v.work) (row_of v passed st).sized ranges sent anyones) in
      let due = due_sum wild names sent m cs from to from_each to_each (λ k c q r at comes goes. goods_long k c at q r comes goes) in
      ap (λ o. is_none o && list_any is_leaving cs) stray_none ∙ (any_is cs ∙ less_by (length (m.sent p.active)) (leaving_sum cs) (goods_due wild names p.clients m) (omega (arith, all, due, put passed m h v.ends.output.queue.0)))

  -- of a client as the table has it
  module _ (k : ℕ) (x : Shipper) (at : slice_get p.clients k ≡ Some x) where
    own : Ships (senders v.work) from to k x
    own = ships (senders v.work) from to k x at

    client : (c : Client) × (slice_get cs k ≡ Some c) × (c.sender ≡ own.sender)
    client = map_from (λ (c : Client). c.sender) cs k own.sender own.there

    is_ship : ship_of client.0.sender own.active own.free ≡ x
    is_ship = ap (λ (s : Sender). ship_of s own.active own.free) client.2 ∙ sym own.is

    pub ship_needs : needs_at v.work k ≡ is_served wild names p m x
    ship_needs = needs_is k client.0 client.1 own.active own.free own.comes own.goes ∙ ap (is_served wild names p m) is_ship

    pub ship_loads : loaded_at v.work k ≡ nat_lt (length (m.sent x.free)) (back_due wild names p m x)
    ship_loads = loads_is k client.0 client.1 own.active own.free own.comes own.goes ∙ ap (λ (y : Shipper). nat_lt (length (m.sent y.free)) (back_due wild names p m y)) is_ship
