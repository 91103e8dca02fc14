-- The virtualiser's row, of items.
use Rattle.std.proofs.Common.{◌<◌, ◌≡◌, ◌==◌, ◌+◌, ◌-◌, ◌*◌, ◌++◌, ℕ, zero, suc, Bool, true, false, nat_le, not, cond, Some, List, [], ◌∷◌, All, length, map, slice_get, refl, sym, ap, ◌∙◌, subst, arith}
use Rattle.std.specs.List.{filter}
use Rattle.std.proofs.lemmas.Bool.{and_parts, eqb-true, leb-true, ltb-true}
use Rattle.std.proofs.lemmas.List.{append-nil}
use Rattle.cargo_core.specs.Items.{kind_of}
use Rattle.cargo_core.specs.Lists.{IsPrefix, PrefixMerge}
use Rattle.cargo_core.specs.declared.item.Item.{Item}
use Rattle.cargo_core.specs.declared.item.Item.TheVariants as ItemOf
use Rattle.cargo_core.specs.declared.item.Body.TheVariants as Carried
use Rattle.cargo_core.specs.declared.item.QueueKind.TheVariants as Kind
use Rattle.wire_core.specs.declared.names.QueueId.{QueueId}
use Rattle.wire_core.specs.Deeds.{Cargo}
use Rattle.wire_core.specs.Lists.{Lists, Passed, if_there}
use Rattle.wire_core.specs.Queues.{items_of}
use Rattle.play_core.specs.Moved.{Moved}
use Rattle.play_core.specs.Wants.{intake, outlet}
use Rattle.play_core.proofs.Lists.{map_from, some_is}
use Rattle.buffer_kit.specs.Entries.{addr_of, len_of}
use Rattle.buffer_kit.specs.Virtualising.{from_queues, to_queues}
use Rattle.net_virt_tx.specs.declared.NetVirtTx.{NetVirtTx}
use Rattle.net_virt_tx.specs.declared.descriptors.Sender.{Sender}
use Rattle.net_virt_tx.specs.Descriptors.{to_client, to_device, with_addr}
use Rattle.net_virt_tx.specs.Serving.{bad_ones, is_good_of, is_own, own_of}
use Rattle.net_virt_tx.specs.Traffics.{senders}
use Rattle.net_virt_tx.specs.Sending.{TxRow, all_good}
use Rattle.owner_law.specs.Pools.Places.{PoolAt}
use Rattle.net_law.specs.Owners.Ends.{AreItemsOf}
use Rattle.net_law.proofs.Beginnings.{begins_map}
use Rattle.net_law.proofs.PartsLemmas.Items.{all_at}
use Rattle.net_law.proofs.PartsLemmas.Pairs.{twice, pair_first, pair_second}
use Rattle.net_law.specs.TxParts.Parts.{Shipper}
use Rattle.net_law.specs.TxParts.Rows.{IsOffset, all_sends, at_device, at_home, in_range}
use Rattle.net_law.specs.TxParts.Table.{send_sheet}
use Rattle.net_law.specs.TxParts.Playing.{TakesGood, send_part, sender_pool, shippers}
use Rattle.net_law.proofs.TxParts.Growing.{maps_merge, merge_alone}

-- only an item of the network has a length
net_of : (item : Item) → nat_le 14 (len_of item) ≡ true → kind_of item ≡ Kind.Net
net_of (ItemOf.Net d) h = refl
net_of (ItemOf.Byte b) h = let l = leb-true 14 0 h in absurd (omega (arith, l))
net_of (ItemOf.Req r) h = let l = leb-true 14 0 h in absurd (omega (arith, l))
net_of (ItemOf.Resp r) h = let l = leb-true 14 0 h in absurd (omega (arith, l))

-- a good descriptor is at a buffer of its client
pub good_offset : (s : Sender) (c : Cargo) → is_good_of s c ≡ true → IsOffset (sender_pool s) c.0
good_offset s (item, Carried.Page page) h =
    let one = and_parts _ _ h in
    let two = and_parts _ _ one.1 in
    let three = and_parts _ _ two.1 in
    let four = and_parts _ _ three.1 in
    record {
      number = page.no;
      few = ltb-true page.no s.buffers two.0;
      net = net_of item four.0;
      begins = eqb-true (addr_of item) (page.no * s.size) three.0;
    }
good_offset s (item, Carried.Lease lease) h = absurd cc
good_offset s (item, Carried.Empty) h = absurd cc

pub all_same : (s : Sender) (xs : List Cargo) → All (λ (c : Cargo). is_good_of s c ≡ true) xs → filter (is_good_of s) xs ≡ xs
all_same s [] h = refl
all_same s (x ∷ xs) h = ap (λ b. cond b (x ∷ filter (is_good_of s) xs) (filter (is_good_of s) xs)) (h zero x (omega arith)) ∙ ap (λ l. x ∷ l) (all_same s xs (λ k d l. h (suc k) d (omega (arith, l))))

pub none_bad : (s : Sender) (xs : List Cargo) → All (λ (c : Cargo). is_good_of s c ≡ true) xs → bad_ones s xs ≡ []
none_bad s [] h = refl
none_bad s (x ∷ xs) h = ap (λ b. cond (not b) (x ∷ bad_ones s xs) (bad_ones s xs)) (h zero x (omega arith)) ∙ none_bad s xs (λ k d l. h (suc k) d (omega (arith, l)))

pub device_items : (s : Sender) (xs : List Cargo) → items_of (map (to_device s.base) xs) ≡ at_device (sender_pool s) (items_of xs)
device_items s [] = refl
device_items s (x ∷ xs) = ap (λ l. with_addr (s.base + addr_of x.0) x.0 ∷ l) (device_items s xs)

pub home_items : (s : Sender) (xs : List Cargo) → items_of (own_of s xs) ≡ at_home (sender_pool s) (items_of xs)
home_items s [] = refl
home_items s (x ∷ xs) = by_own (is_own s x) (home_items s xs)
  where
    by_own : (t : Bool) → items_of (own_of s xs) ≡ at_home (sender_pool s) (items_of xs) → items_of (map (to_client s.base) (cond t (x ∷ filter (is_own s) xs) (filter (is_own s) xs))) ≡ map (λ i. with_addr (addr_of i - s.base) i) (cond t (x.0 ∷ filter (in_range (sender_pool s)) (items_of xs)) (filter (in_range (sender_pool s)) (items_of xs)))
    by_own true rest = ap (λ l. with_addr (addr_of x.0 - s.base) x.0 ∷ l) rest
    by_own false rest = rest

-- a client as the table has it
pub record Shipped (ss : List Sender) (from to : List QueueId) (k : ℕ) (c : Shipper) : Type 0 where
  pub sender : Sender
  pub active : QueueId
  pub free : QueueId
  pub there : slice_get ss k ≡ Some sender
  pub comes : slice_get from k ≡ Some active
  pub goes : slice_get to k ≡ Some free
  pub active_is : c.active ≡ active.0
  pub free_is : c.free ≡ free.0
  pub pool_is : c.pool ≡ sender_pool sender

pub shipped : (ss : List Sender) (from to : List QueueId) (k : ℕ) (c : Shipper) → slice_get (shippers ss from to) k ≡ Some c → Shipped ss from to k c
shipped [] from to k c at = absurd cc
shipped (s ∷ ss) [] to k c at = absurd cc
shipped (s ∷ ss) (q ∷ from) [] k c at = absurd cc
shipped (s ∷ ss) (q ∷ from) (r ∷ to) zero c at = record {
  sender = s;
  active = q;
  free = r;
  there = refl;
  comes = refl;
  goes = refl;
  active_is = ap (λ (x : Shipper). x.active) (sym (some_is at));
  free_is = ap (λ (x : Shipper). x.free) (sym (some_is at));
  pool_is = ap (λ (x : Shipper). x.pool) (sym (some_is at));
}
shipped (s ∷ ss) (q ∷ from) (r ∷ to) (suc k) c at =
    let h = shipped ss from to k c at in
    record { sender = h.sender; active = h.active; free = h.free; there = h.there; comes = h.comes; goes = h.goes; active_is = h.active_is; free_is = h.free_is; pool_is = h.pool_is }

sends_are : (ss : List Sender) (from to : List QueueId) (lists : Lists) (m : Moved) → length from ≡ length ss → length to ≡ length ss
    → ((k : ℕ) (s : Sender) (q r : QueueId) → slice_get ss k ≡ Some s → slice_get from k ≡ Some q → slice_get to k ≡ Some r → items_of (map (to_device s.base) (filter (is_good_of s) (lists q.0))) ≡ at_device (sender_pool s) (m.taken q.0))
    → map (map (λ (c : Cargo). c.0)) (all_good ss from lists) ≡ all_sends (shippers ss from to) m
sends_are [] from to lists m one two h = refl
sends_are (s ∷ ss) [] to lists m one two h = absurd (omega (arith, one))
sends_are (s ∷ ss) (q ∷ from) [] lists m one two h = absurd (omega (arith, two))
sends_are (s ∷ ss) (q ∷ from) (r ∷ to) lists m one two h =
    ap (λ l. l ∷ map (map (λ (c : Cargo). c.0)) (all_good ss from lists)) (h zero s q r refl refl refl) ∙ ap (λ ls. at_device (sender_pool s) (m.taken q.0) ∷ ls) (sends_are ss from to lists m (omega (arith, one)) (omega (arith, two)) (λ k t u v at at' at''. h (suc k) t u v at at' at''))

module _ (v : NetVirtTx) (passed : Passed) (m : Moved) (items : AreItemsOf (send_sheet (send_part v)).ends passed m) (good : TakesGood v passed) (row : TxRow v passed) (none : row.stray ≡ []) where
  abbrev ss : List Sender
  ss = senders v.work

  abbrev f : List QueueId
  f = from_queues v.ends

  abbrev t : List QueueId
  t = to_queues v.ends

  turn_is : (n : ℕ) → row.turn n ≡ passed.taken n
  turn_is n = sym (row.taken n ∙ (ap (λ l. row.turn n ++ if_there (row.place == n) l) none ∙ (ap (λ l. row.turn n ++ l) (none_if (row.place == n)) ∙ append-nil (row.turn n))))
    where
      none_if : (b : Bool) → if_there b [] ≡ []
      none_if true = refl
      none_if false = refl

  came_back : m.taken v.ends.input.queue.0 ≡ items_of (passed.taken v.ends.input.queue.0)
  came_back = items 0 _ refl

  gave : m.sent v.ends.output.queue.0 ≡ items_of (passed.sent v.ends.output.queue.0)
  gave = items 1 _ refl

  module _ (k : ℕ) (c : Shipper) (at : slice_get (shippers ss f t) k ≡ Some c) where
    abbrev h : Shipped ss f t k c
    h = shipped ss f t k c at

    came : m.taken c.active ≡ items_of (passed.taken c.active)
    came = items (suc (suc (twice k))) _ (pair_first (λ (d : Shipper). intake d.active) (λ d. outlet d.free) (shippers ss f t) k c at)

    went : m.sent c.free ≡ items_of (passed.sent c.free)
    went = items (suc (suc (suc (twice k)))) _ (pair_second (λ (d : Shipper). intake d.active) (λ d. outlet d.free) (shippers ss f t) k c at)

    all_good_here : All (λ (x : Cargo). is_good_of h.sender x ≡ true) (passed.taken h.active.0)
    all_good_here = good k h.sender h.active h.there h.comes

    sized : 0 < c.pool.size
    sized = subst (λ (p : PoolAt). 0 < p.size) (sym h.pool_is) (row.sized k h.sender h.there)

    offsets : (j : ℕ) (item : Item) → slice_get (m.taken c.active) j ≡ Some item → IsOffset c.pool item
    offsets j item is =
        let x = map_from (λ (y : Cargo). y.0) (passed.taken h.active.0) j item (ap (λ n. slice_get (items_of (passed.taken n)) j) (sym h.active_is) ∙ (ap (λ l. slice_get l j) (sym came) ∙ is)) in
        let off = good_offset h.sender x.0 (all_at (λ (y : Cargo). is_good_of h.sender y ≡ true) (passed.taken h.active.0) all_good_here j x.0 x.1) in
        subst (λ (p : PoolAt). IsOffset p item) (sym h.pool_is) (subst (IsOffset (sender_pool h.sender)) x.2 off)

    returns : IsPrefix (m.sent c.free) (at_home c.pool (m.taken v.ends.input.queue.0))
    returns =
        let i = v.ends.input.queue.0 in
        let serves = row.serves k h.sender h.active h.free h.there h.comes h.goes in
        let bads : bad_ones h.sender (row.turn h.active.0) ≡ [] = ap (bad_ones h.sender) (turn_is h.active.0) ∙ none_bad h.sender (passed.taken h.active.0) all_good_here in
        let back = merge_alone (bad_ones h.sender (row.turn h.active.0)) (own_of h.sender (row.turn i)) (passed.sent h.free.0) bads serves.gives_back in
        let of_items = begins_map (λ (y : Cargo). y.0) (passed.sent h.free.0) (own_of h.sender (row.turn i)) back in
        let homes : items_of (own_of h.sender (row.turn i)) ≡ at_home c.pool (m.taken i) = home_items h.sender (row.turn i) ∙ (ap (λ l. at_home (sender_pool h.sender) (items_of l)) (turn_is i) ∙ (ap (at_home (sender_pool h.sender)) (sym came_back) ∙ ap (λ (p : PoolAt). at_home p (m.taken i)) (sym h.pool_is))) in
        let gone : items_of (passed.sent h.free.0) ≡ m.sent c.free = ap (λ n. items_of (passed.sent n)) (sym h.free_is) ∙ sym went in
        subst (λ l. IsPrefix l (at_home c.pool (m.taken i))) gone (subst (IsPrefix (items_of (passed.sent h.free.0))) homes of_items)

  sends_here : (k : ℕ) (s : Sender) (q r : QueueId) → slice_get ss k ≡ Some s → slice_get f k ≡ Some q → slice_get t k ≡ Some r → items_of (map (to_device s.base) (filter (is_good_of s) (row.turn q.0))) ≡ at_device (sender_pool s) (m.taken q.0)
  sends_here k s q r at at' at'' =
      let c : Shipper = record { active = q.0; free = r.0; pool = sender_pool s; most = s.most } in
      let there = there_at ss f t k s q r at at' at'' in
      device_items s (filter (is_good_of s) (row.turn q.0)) ∙ ap (at_device (sender_pool s)) (ap (λ l. items_of (filter (is_good_of s) l)) (turn_is q.0) ∙ (ap items_of (all_same s (passed.taken q.0) (good k s q at at')) ∙ sym (came k c there)))
    where
      there_at : (xs : List Sender) (from to : List QueueId) (j : ℕ) (s : Sender) (q r : QueueId) → slice_get xs j ≡ Some s → slice_get from j ≡ Some q → slice_get to j ≡ Some r → slice_get (shippers xs from to) j ≡ Some (record { active = q.0; free = r.0; pool = sender_pool s; most = s.most })
      there_at [] from to j s q r at at' at'' = absurd cc
      there_at (x ∷ xs) [] to j s q r at at' at'' = absurd cc
      there_at (x ∷ xs) (y ∷ from) [] j s q r at at' at'' = absurd cc
      there_at (x ∷ xs) (y ∷ from) (z ∷ to) zero s q r at at' at'' = rw (← some_is at, ← some_is at', ← some_is at'') refl
      there_at (x ∷ xs) (y ∷ from) (z ∷ to) (suc j) s q r at at' at'' = there_at xs from to j s q r at at' at''

  pub send_row : (send_sheet (send_part v)).row m
  send_row = record {
    sized = λ k c at. sized k c at;
    came = λ k c at j item is. offsets k c at j item is;
    merges = subst (λ xs. PrefixMerge (all_sends (shippers ss f t) m) xs) (sym gave) (subst (λ ls. PrefixMerge ls (items_of (passed.sent v.ends.output.queue.0))) (sends_are ss f t row.turn m row.from_each row.to_each sends_here) (maps_merge (λ (c : Cargo). c.0) (all_good ss f row.turn) (passed.sent v.ends.output.queue.0) row.merges));
    returns = λ k c at. returns k c at;
  }
