-- What the sending virtualiser needs and owes, of the items that passed.
use Rattle.std.proofs.Common.{◌≡◌, ◌+◌, ◌++◌, ◌==◌, ◌&&◌, ◌||◌, ℕ, zero, suc, Bool, true, false, not, nat_lt, Option, Some, None, is_some, is_none, List, [], ◌∷◌, All, length, map, slice_get, length-append, refl, sym, ap, ◌∙◌, subst, arith}
use Rattle.std.specs.List.{list_any, sum_by}
use Rattle.std.specs.Option.{option_to_list}
use Rattle.std.proofs.lemmas.Bool.{lt-ltb, le-ltb}
use Rattle.std.proofs.lemmas.List.{append-nil, length-map}
use Rattle.std.proofs.lemmas.List.Sums.{sum_by-cons}
use Rattle.cargo_core.specs.Ranges.{AreRanges}
use Rattle.wire_core.specs.declared.names.QueueId.{QueueId}
use Rattle.wire_core.specs.Deeds.{Cargo}
use Rattle.wire_core.specs.Lists.{Passed, if_there}
use Rattle.wire_core.specs.Queues.{items_of}
use Rattle.play_core.specs.Moved.{Moved}
use Rattle.play_core.specs.Totals.{total}
use Rattle.play_core.proofs.Lists.{map_get, some_is, there_is, there_below}
use Rattle.play_core.proofs.Merges.{merge_total}
use Rattle.buffer_kit.specs.Entries.{addr_of}
use Rattle.buffer_kit.specs.Virtualising.{from_queues, to_queues}
use Rattle.net_virt_tx.specs.declared.NetVirtTx.{NetVirtTx}
use Rattle.net_virt_tx.specs.declared.client.Client.{Client}
use Rattle.net_virt_tx.specs.declared.descriptors.Sender.{Sender}
use Rattle.net_virt_tx.specs.declared.returns.Returns.{Returns}
use Rattle.net_virt_tx.specs.Descriptors.{to_client, with_addr}
use Rattle.net_virt_tx.specs.Queued.{returns_list, IsReady}
use Rattle.net_virt_tx.specs.Serving.{is_good_of, own_of}
use Rattle.net_virt_tx.specs.Clients.{ClientStands, is_idle, is_leaving, is_loaded, first_of, range_of}
use Rattle.net_virt_tx.specs.Traffics.{senders, is_free, owes, needs_at, loaded_at, is_so}
use Rattle.net_virt_tx.specs.Sending.{TxStandsFor, TxRow, IsAnyones, queue_at}
use Rattle.net_virt_tx.proofs.Rounds.{row_of}
use Rattle.net_virt_tx.proofs.Splitting.{owned, split}
use Rattle.net_law.specs.Parts.Table.{is_short}
use Rattle.net_law.specs.TxParts.Parts.{SendPart, Shipper}
use Rattle.net_law.specs.TxParts.Rows.{at_device, at_home, sends_due}
use Rattle.net_law.specs.TxParts.Playing.{TakesGood, send_part, sender_pool, shippers}
use Rattle.net_law.proofs.TxParts.Items.{all_same, none_bad, home_items, Shipped, shipped}
use Rattle.play_core.specs.Rests.Showing.{HaveItems}
use Rattle.play_core.proofs.RestsLemmas.Settling.{took, put, none_is, held_is}

pub none_of : (o : Option Cargo) → option_to_list o ≡ [] → o ≡ None
none_of None e = refl
none_of (Some x) e = cc

-- two lists that are empty together
none_behind : (xs : List Cargo) (o : Option Cargo) → xs ++ option_to_list o ≡ [] → (xs ≡ []) × (o ≡ None)
none_behind [] o e = (refl, none_of o e)
none_behind (x ∷ xs) o e = absurd cc

pub empty : (b : Bool) → if_there b [] ≡ []
empty true = refl
empty false = refl

pub queue_is : (qs : List QueueId) (k : ℕ) (q : QueueId) → slice_get qs k ≡ Some q → queue_at qs k ≡ q.0
queue_is [] k q at = cc
queue_is (r ∷ qs) zero q at = ap (λ (x : QueueId). x.0) (some_is at)
queue_is (r ∷ qs) (suc k) q at = queue_is qs k q at

-- an entry waits where the list of those that wait isn't empty
pub ready_is : (r : Returns) → IsReady r → (n m : ℕ) → n + length (returns_list r) ≡ m → is_some r.next ≡ nat_lt n m
ready_is r ready n m e = by r.next refl
  where
    by : (o : Option Cargo) → r.next ≡ o → is_some r.next ≡ nat_lt n m
    by None is =
        let none : returns_list r ≡ [] = ap (λ o. option_to_list o ++ r.later.shown) is ∙ ready is in
        let long = ap (λ l. length l) none in
        ap is_some is ∙ sym (le-ltb n m (omega (arith, e, long)))
    by (Some x) is =
        let some = ap (λ o. length (option_to_list o ++ r.later.shown)) is in
        let parts = length-append (option_to_list (Some x)) r.later.shown in
        ap is_some is ∙ sym (lt-ltb n m (omega (arith, e, some, parts)))

-- some client has an entry to the driver where they have any together
abbrev pub leaving_sum : List Client → ℕ
leaving_sum cs = sum_by (λ (c : Client). length (option_to_list c.leaving)) cs

pub any_is : (cs : List Client) → list_any is_leaving cs ≡ nat_lt 0 (leaving_sum cs)
any_is [] = refl
any_is (c ∷ cs) = by (any_is cs) c.leaving refl
  where
    more : leaving_sum (c ∷ cs) ≡ length (option_to_list c.leaving) + leaving_sum cs
    more = sum_by-cons (λ (d : Client). length (option_to_list d.leaving)) c cs

    by : list_any is_leaving cs ≡ nat_lt 0 (leaving_sum cs) → (o : Option Cargo) → c.leaving ≡ o → (is_some c.leaving || list_any is_leaving cs) ≡ nat_lt 0 (leaving_sum (c ∷ cs))
    by rest None is =
        let none = ap (λ x. length (option_to_list x)) is in
        let same : leaving_sum (c ∷ cs) ≡ leaving_sum cs = omega (arith, more, none) in
        ap (λ x. is_some x || list_any is_leaving cs) is ∙ (rest ∙ ap (nat_lt 0) (sym same))
    by rest (Some x) is =
        let one = ap (λ y. length (option_to_list y)) is in
        ap (λ y. is_some y || list_any is_leaving cs) is ∙ sym (lt-ltb 0 (leaving_sum (c ∷ cs)) (omega (arith, more, one)))

pub less_by : (a r b : ℕ) → b ≡ a + r → nat_lt 0 r ≡ nat_lt a b
less_by a zero b e = sym (le-ltb a b (omega (arith, e)))
less_by a (suc r) b e = lt-ltb 0 (suc r) (omega arith) ∙ sym (lt-ltb a b (omega (arith, e)))

-- what came from all clients is what went to the driver and what leaves
due_sum : (sent : List Cargo) (m : Moved) (cs : List Client) (from to : List QueueId) → length from ≡ length cs → length to ≡ length cs → ((k : ℕ) (c : Client) (q : QueueId) → slice_get cs k ≡ Some c → slice_get from k ≡ Some q → length (own_of c.sender sent) + length (option_to_list c.leaving) ≡ length (m.taken q.0)) → total (map (owned sent) (map (λ (c : Client). c.sender) cs)) + leaving_sum cs ≡ sends_due (shippers (map (λ (c : Client). c.sender) cs) from to) m
due_sum sent m [] from to a b each = refl
due_sum sent m (c ∷ cs) [] to a b each = absurd (omega (arith, a))
due_sum sent m (c ∷ cs) (q ∷ from) [] a b each = absurd (omega (arith, b))
due_sum sent m (c ∷ cs) (q ∷ from) (r ∷ to) a b each =
    let first = each 0 c q refl refl in
    let long = length-map (owned sent c.sender) (to_client c.sender.base) in
    let rest = due_sum sent m cs from to (omega (arith, a)) (omega (arith, b)) (λ k d p at at'. each (suc k) d p at at') in
    let more = sum_by-cons (λ (d : Client). length (option_to_list d.leaving)) c cs in
    let due : length (at_device (sender_pool c.sender) (m.taken q.0)) ≡ length (m.taken q.0) = length-map (m.taken q.0) (λ i. with_addr (c.sender.base + addr_of i) i) in
    let all : total (map (owned sent) (map (λ (d : Client). d.sender) (c ∷ cs))) + leaving_sum (c ∷ cs) ≡ length (at_device (sender_pool c.sender) (m.taken q.0)) + sends_due (shippers (map (λ (d : Client). d.sender) cs) from to) m = omega (arith, first, long, rest, more, due) in
    all

module _ (passed : Passed) (m : Moved) (h : HaveItems passed m) (v : NetVirtTx) (good : TakesGood v passed) (in_turn : (row : TxRow v passed) → row.stray ≡ []) (from_each : length (from_queues v.ends) ≡ length v.work.clients.items) (to_each : length (to_queues v.ends) ≡ length v.work.clients.items) (st : TxStandsFor v passed) where
  abbrev p : SendPart
  p = send_part v

  abbrev cs : List Client
  cs = v.work.clients.items

  abbrev from : List QueueId
  from = from_queues v.ends

  abbrev to : List QueueId
  to = to_queues v.ends

  abbrev sent : List Cargo
  sent = passed.sent v.ends.output.queue.0

  abbrev returned : List Cargo
  returned = passed.taken v.ends.input.queue.0

  stray_none : v.work.stray ≡ None
  stray_none = let row = row_of v passed st in none_of v.work.stray (sym row.strayed ∙ in_turn row)

  turn_is : (n : ℕ) → st.turn n ≡ passed.taken n
  turn_is n = sym (st.taken n ∙ (ap (λ x. st.turn n ++ if_there (st.place == n) (option_to_list x)) stray_none ∙ (ap (λ x. st.turn n ++ x) (empty (st.place == n)) ∙ append-nil (st.turn n))))

  pub free_is : is_free v.work ≡ true
  free_is = ap is_none stray_none

  module _ (k : ℕ) (c : Client) (at : slice_get cs k ≡ Some c) (q r : QueueId) (comes : slice_get from k ≡ Some q) (goes : slice_get to k ≡ Some r) where
    all_good : All (λ (x : Cargo). is_good_of c.sender x ≡ true) (passed.taken q.0)
    all_good = good k c.sender q (map_get (λ (d : Client). d.sender) cs k c at) comes

    stands : ClientStands c (passed.taken q.0) (own_of c.sender sent) (own_of c.sender returned) (passed.sent r.0)
    stands =
        let a = st.stands.clients k c at in
        let b = subst (λ n. ClientStands c (st.turn n) (own_of c.sender sent) (own_of c.sender (st.turn v.ends.input.queue.0)) (passed.sent (queue_at to k))) (queue_is from k q comes) a in
        let d = subst (λ n. ClientStands c (st.turn q.0) (own_of c.sender sent) (own_of c.sender (st.turn v.ends.input.queue.0)) (passed.sent n)) (queue_is to k r goes) b in
        let e = subst (λ l. ClientStands c l (own_of c.sender sent) (own_of c.sender (st.turn v.ends.input.queue.0)) (passed.sent r.0)) (turn_is q.0) d in
        subst (λ l. ClientStands c (passed.taken q.0) (own_of c.sender sent) (own_of c.sender l) (passed.sent r.0)) (turn_is v.ends.input.queue.0) e

    no_bad : (stands.bads ≡ []) × (c.bad ≡ None)
    no_bad = none_behind stands.bads c.bad (stands.bads_are ∙ none_bad c.sender (passed.taken q.0) all_good)

    -- its good descriptors went to the driver, but for one that leaves
    went_is : length (own_of c.sender sent) + length (option_to_list c.leaving) ≡ length (m.taken q.0)
    went_is =
        let all = ap (λ l. length l) (stands.sends ∙ all_same c.sender (passed.taken q.0) all_good) in
        let parts = length-append (own_of c.sender sent) (map (to_client c.sender.base) (option_to_list c.leaving)) in
        let leaves = length-map (option_to_list c.leaving) (to_client c.sender.base) in
        omega (arith, all, parts, leaves, took passed m h q.0)

    home_long : (xs : List Cargo) (n : ℕ) → length (items_of xs) ≡ n → length (at_home (sender_pool c.sender) (items_of xs)) ≡ length (own_of c.sender xs)
    home_long xs n e = sym (ap (λ l. length l) (home_items c.sender xs)) ∙ length-map (own_of c.sender xs) (λ (x : Cargo). x.0)

    idle_is : is_idle c ≡ not (is_short (at_home (sender_pool c.sender) (m.sent v.ends.output.queue.0)) (m.taken q.0))
    idle_is =
        let home = ap (λ l. length (at_home (sender_pool c.sender) l)) (sym (h.sent v.ends.output.queue.0)) ∙ home_long sent (length (items_of sent)) refl in
        let leaves = held_is c.leaving (length (at_home (sender_pool c.sender) (m.sent v.ends.output.queue.0))) (length (m.taken q.0)) (omega (arith, home, went_is)) in
        ap (λ o. is_none c.leaving && is_none o) no_bad.1 ∙ (and_true (is_none c.leaving) ∙ (none_is c.leaving ∙ ap not leaves))
      where
        and_true : (b : Bool) → (b && true) ≡ b
        and_true true = refl
        and_true false = refl

    -- what came back for it is put, but for what waits
    loaded_is : is_loaded c ≡ is_short (m.sent r.0) (at_home (sender_pool c.sender) (m.taken v.ends.input.queue.0))
    loaded_is =
        let home = ap (λ l. length (at_home (sender_pool c.sender) l)) (sym (h.taken v.ends.input.queue.0)) ∙ home_long returned (length (items_of returned)) refl in
        let back = merge_total (stands.bads ∷ stands.rets ∷ []) (passed.sent r.0) stands.merged in
        let none = ap (λ l. length l) no_bad.0 in
        let all = ap (λ l. length l) stands.rets_are in
        let parts = length-append stands.rets (returns_list c.returns) in
        let each = st.work.each k c at in
        ap (λ o. is_some (first_of o c.returns.next)) no_bad.1 ∙ ready_is c.returns each.ready (length (m.sent r.0)) (length (at_home (sender_pool c.sender) (m.taken v.ends.input.queue.0))) (omega (arith, home, back, none, all, parts, put passed m h r.0))

    needs_is : needs_at v.work k ≡ not (is_short (at_home (sender_pool c.sender) (m.sent v.ends.output.queue.0)) (m.taken q.0))
    needs_is = ap (λ o. is_none o && is_so is_idle (slice_get cs k)) stray_none ∙ (ap (is_so is_idle) at ∙ idle_is)

    loads_is : loaded_at v.work k ≡ is_short (m.sent r.0) (at_home (sender_pool c.sender) (m.taken v.ends.input.queue.0))
    loads_is = ap (λ o. is_none o && is_so is_loaded (slice_get cs k)) stray_none ∙ (ap (is_so is_loaded) at ∙ loaded_is)

  anyones : All (IsAnyones (senders v.work)) sent
  anyones k d lt = let x = st.stands.within k d lt in (x.0, x.1.sender, map_get (λ (c : Client). c.sender) cs x.0 x.1 x.2, x.3)

  ranges : AreRanges (map range_of (senders v.work))
  ranges = subst AreRanges st.work.ranges_are st.work.apart

  pub owes_is : owes v.work ≡ nat_lt (length (m.sent p.active)) (sends_due p.clients m)
  owes_is =
      let all = merge_total (map (owned sent) (senders v.work)) sent (split (senders v.work) (row_of v passed st).sized ranges sent anyones) in
      let due = due_sum sent m cs from to from_each to_each (λ k c q at comes. let r = there_is to k (let lt = there_below cs k c at in omega (arith, lt, to_each)) in went_is k c at q r.0 comes r.1) in
      ap (λ o. is_none o && list_any is_leaving cs) stray_none ∙ (any_is cs ∙ less_by (length (m.sent p.active)) (leaving_sum cs) (sends_due p.clients m) (omega (arith, all, due, put passed m h v.ends.output.queue.0)))

  -- of a client as the table has it
  module _ (k : ℕ) (x : Shipper) (at : slice_get p.clients k ≡ Some x) where
    own : Shipped (senders v.work) from to k x
    own = shipped (senders v.work) from to k x at

    client : (c : Client) × (slice_get cs k ≡ Some c) × (c.sender ≡ own.sender)
    client = Rattle.play_core.proofs.Lists.map_from (λ (c : Client). c.sender) cs k own.sender own.there

    pub ship_needs : needs_at v.work k ≡ not (is_short (at_home x.pool (m.sent p.active)) (m.taken x.active))
    ship_needs =
        needs_is k client.0 client.1 own.active own.free own.comes own.goes
        ∙ (ap (λ (s : Sender). not (is_short (at_home (sender_pool s) (m.sent p.active)) (m.taken own.active.0))) client.2
        ∙ (ap (λ n. not (is_short (at_home (sender_pool own.sender) (m.sent p.active)) (m.taken n))) (sym own.active_is)
        ∙ ap (λ w. not (is_short (at_home w (m.sent p.active)) (m.taken x.active))) (sym own.pool_is)))

    pub ship_loads : loaded_at v.work k ≡ is_short (m.sent x.free) (at_home x.pool (m.taken p.free))
    ship_loads =
        loads_is k client.0 client.1 own.active own.free own.comes own.goes
        ∙ (ap (λ (s : Sender). is_short (m.sent own.free.0) (at_home (sender_pool s) (m.taken p.free))) client.2
        ∙ (ap (λ n. is_short (m.sent n) (at_home (sender_pool own.sender) (m.taken p.free))) (sym own.free_is)
        ∙ ap (λ w. is_short (m.sent x.free) (at_home w (m.taken p.free))) (sym own.pool_is)))
