-- The sending virtualiser hands on what its clients sent, and what came back to each client that
-- isn't hostile; of a hostile one it sends on what is in its own buffers alone.
use Rattle.std.proofs.Common.{◌≡◌, ◌==◌, ◌&&◌, ◌+◌, ◌-◌, ◌*◌, ◌<◌, ◌≤◌, ℕ, zero, suc, true, not, nat_le, nat_lt, Some, List, [], ◌∷◌, slice_get, refl, sym, ap, ◌∙◌, subst, arith, ltb-true, lt-ltb, eqb-true, inl}
use Rattle.std.specs.List.{filter}
use Rattle.std.proofs.lemmas.Bool.{le-leb}
use Rattle.std.proofs.lemmas.Option.{get_or_from_slice_get}
use Rattle.cargo_core.specs.Items.{kind_of}
use Rattle.cargo_core.specs.declared.item.QueueKind.TheVariants as Kind
use Rattle.cargo_core.specs.declared.item.Item.{Item}
use Rattle.cargo_core.specs.declared.item.Item.TheVariants as ItemOf
use Rattle.cargo_core.specs.declared.item.Body.{Body}
use Rattle.cargo_core.specs.declared.item.Body.TheVariants as Carried
use Rattle.wire_core.specs.declared.names.QueueId.{QueueId}
use Rattle.wire_core.specs.Bells.{bit}
use Rattle.wire_core.specs.Deeds.{Cargo}
use Rattle.wire_core.specs.Lists.{Passed, if_there}
use Rattle.play_core.specs.Moved.{Moved}
use Rattle.play_core.proofs.Lists.{some_is, map_get, map_from, there_is, there_below}
use Rattle.owner_law.specs.Things.{Buffers, Window, Naming, buffer_at, is_named}
use Rattle.owner_law.proofs.Carrying.{get_first}
use Rattle.owner_law.proofs.Sums.{both}
use Rattle.buffer_kit.specs.Entries.{addr_of, len_of}
use Rattle.buffer_kit.specs.Virtualising.{from_queues, to_queues}
use Rattle.net_virt_tx.specs.declared.NetVirtTx.{NetVirtTx}
use Rattle.net_virt_tx.specs.declared.descriptors.Sender.{Sender}
use Rattle.net_virt_tx.specs.Descriptors.{with_addr, to_client}
use Rattle.net_virt_tx.proofs.Counting.{ends_within}
use Rattle.net_virt_tx.specs.Serving.{is_good_of, is_own, own_of, bad_ones}
use Rattle.net_virt_tx.specs.Sending.{TxRow, IsAnyones}
use Rattle.net_virt_tx.specs.Traffics.{senders}
use Rattle.owner_law.specs.Pools.Places.{by_offset}
use Rattle.net_law.proofs.OwnersLemmas.Clients.{at_address}
use Rattle.net_law.specs.RxOwners.Virtualiser.{AreNet}
use Rattle.net_law.specs.TxParts.Parts.{Shipper}
use Rattle.net_law.specs.TxParts.Playing.{sender_pool, shippers, send_part}
use Rattle.owner_law.specs.Pools.Handing.{AllCarry}
use Rattle.owner_law.proofs.PoolsLemmas.Merging.{Each, each_begun, kept_at, kept_is}
use Rattle.net_quiet.proofs.PoolsLemmas.Carrying.{HasPage, page_carries, carries_page}
use Rattle.net_quiet.proofs.TxOwners.Carrying.{pools_apart}
use Rattle.net_quiet.specs.TxOwners.Shipping.{device_windows, is_at}
use Rattle.net_quiet.proofs.TxOwners.Windows.{pick_home}

-- a client at a place
abbrev Shipping : List Sender → (from to : List QueueId) → ℕ → Shipper → Type 0
Shipping ss from to k c = (s : Sender) × (q : QueueId) × (r : QueueId) × (slice_get ss k ≡ Some s) × (slice_get from k ≡ Some q) × (slice_get to k ≡ Some r) × (c ≡ record { active = q.0; free = r.0; pool = sender_pool s; most = s.most })

shipper_at : (ss : List Sender) (from to : List QueueId) (k : ℕ) (c : Shipper) → slice_get (shippers ss from to) k ≡ Some c → Shipping ss from to k c
shipper_at [] from to k c at = cc
shipper_at (s ∷ ss) [] to k c at = cc
shipper_at (s ∷ ss) (q ∷ from) [] k c at = cc
shipper_at (s ∷ ss) (q ∷ from) (r ∷ to) zero c at = (s, q, r, refl, refl, refl, sym (some_is at))
shipper_at (s ∷ ss) (q ∷ from) (r ∷ to) (suc k) c at = shipper_at ss from to k c at

shipper_of : (ss : List Sender) (from to : List QueueId) (k : ℕ) (s : Sender) (q r : QueueId) → slice_get ss k ≡ Some s → slice_get from k ≡ Some q → slice_get to k ≡ Some r → slice_get (shippers ss from to) k ≡ Some (record { active = q.0; free = r.0; pool = sender_pool s; most = s.most })
shipper_of [] from to k s q r at q_at r_at = cc
shipper_of (t ∷ ss) [] to k s q r at q_at r_at = cc
shipper_of (t ∷ ss) (x ∷ from) [] k s q r at q_at r_at = cc
shipper_of (t ∷ ss) (x ∷ from) (y ∷ to) zero s q r at q_at r_at =
    let first = some_is at in
    let second = some_is q_at in
    let third = some_is r_at in
    ap (λ (z : Shipper). Some z) (Rattle.std.proofs.Common.ap₂ (λ (a : ℕ) (b : ℕ). let z : Shipper = record { active = a; free = b; pool = sender_pool t; most = t.most } in z) (ap (λ (z : QueueId). z.0) second) (ap (λ (z : QueueId). z.0) third) ∙ ap (λ (u : Sender). let z : Shipper = record { active = q.0; free = r.0; pool = sender_pool u; most = u.most } in z) first)
shipper_of (t ∷ ss) (x ∷ from) (y ∷ to) (suc k) s q r at q_at r_at = shipper_of ss from to k s q r at q_at r_at

module _ (naming : Naming) (passed : Passed) (m : Moved) (v : NetVirtTx) (active : naming v.ends.output.queue.0 ≡ Buffers (device_windows (send_part v).clients)) (free : naming v.ends.input.queue.0 ≡ Buffers (device_windows (send_part v).clients)) (net : AreNet (passed.taken v.ends.input.queue.0)) (row : TxRow v passed) where
  abbrev i : ℕ
  i = v.ends.input.queue.0

  abbrev o : ℕ
  o = v.ends.output.queue.0

  abbrev clients : List Shipper
  clients = (send_part v).clients

  abbrev ws : List Window
  ws = device_windows clients

  in_turn : (n : ℕ) → Each (λ (c : Cargo). (k : ℕ) × (slice_get (passed.taken n) k ≡ Some c)) (row.turn n)
  in_turn n k c at = (k, ap (λ cs. slice_get cs k) (row.taken n) ∙ get_first (row.turn n) (if_there (row.place == n) row.stray) k c at)

  -- a good descriptor at its device address
  good_page : (k : ℕ) (c : Shipper) → slice_get clients k ≡ Some c → (s : Sender) → 1 ≤ s.size → c.pool ≡ sender_pool s → (item : Item) (body : Body) (b : ℕ) → b < s.buffers → addr_of item ≡ s.base + b * s.size → is_good_of s (to_client s.base (item, body)) ≡ true → HasPage ws (item, body)
  good_page k c at s some pool item Carried.Empty b lt address good = cc
  good_page k c at s some pool item (Carried.Lease lease) b lt address good = cc
  good_page k c at s some pool item (Carried.Page page) b lt address good =
      let one = both (page.pool.0 == s.pool.0) (nat_lt page.no s.buffers && ((addr_of (with_addr (addr_of item - s.base) item) == page.no * s.size) && (nat_le 14 (len_of (with_addr (addr_of item - s.base) item)) && nat_le (len_of (with_addr (addr_of item - s.base) item)) s.most))) good in
      let two = both (nat_lt page.no s.buffers) ((addr_of (with_addr (addr_of item - s.base) item) == page.no * s.size) && (nat_le 14 (len_of (with_addr (addr_of item - s.base) item)) && nat_le (len_of (with_addr (addr_of item - s.base) item)) s.most)) one.1 in
      let three = both (addr_of (with_addr (addr_of item - s.base) item) == page.no * s.size) (nat_le 14 (len_of (with_addr (addr_of item - s.base) item)) && nat_le (len_of (with_addr (addr_of item - s.base) item)) s.most) two.1 in
      let four = both (nat_le 14 (len_of (with_addr (addr_of item - s.base) item))) (nat_le (len_of (with_addr (addr_of item - s.base) item)) s.most) three.1 in
      by item address (eqb-true page.pool.0 s.pool.0 one.0) (ltb-true page.no s.buffers two.0) (eqb-true (addr_of (with_addr (addr_of item - s.base) item)) (page.no * s.size) three.0) four.0
    where
      by : (it : Item) → addr_of it ≡ s.base + b * s.size → page.pool.0 ≡ s.pool.0 → page.no < s.buffers → addr_of (with_addr (addr_of it - s.base) it) ≡ page.no * s.size → nat_le 14 (len_of (with_addr (addr_of it - s.base) it)) ≡ true → HasPage ws (it, Carried.Page page)
      by (ItemOf.Net d) place same few offset long buffer =
          let a : ℕ = d.addr in
          let there : is_at c.pool a ≡ true =
          ap (λ p. is_at p a) pool ∙ rw (le-leb s.base a (omega (arith, place)), lt-ltb a (s.base + s.buffers * s.size) (let within = ends_within s.size b s.buffers lt in omega (arith, place, some, within))) refl in
          let base : c.pool.base ≡ s.base = ap (λ (p : Rattle.owner_law.specs.Pools.Places.PoolAt). p.base) pool in
          let home : buffer_at ws a ≡ buffer_at (by_offset c.pool ∷ []) (a - c.pool.base) = pick_home clients (pools_apart v passed row) k c a at there in
          let at_home : a - c.pool.base ≡ 0 + page.no * s.size = omega (arith, offset, base) in
          let own : buffer_at (by_offset (sender_pool s) ∷ []) (0 + page.no * s.size) ≡ Some (record { pool = s.pool.0; no = page.no }) = at_address (by_offset (sender_pool s)) page.no some few in
          let name : buffer_at ws a ≡ Some (record { pool = s.pool.0; no = page.no }) = home ∙ (ap (buffer_at (by_offset c.pool ∷ [])) at_home ∙ (ap (λ p. buffer_at (by_offset p ∷ []) (0 + page.no * s.size)) pool ∙ own)) in
          ap (λ p. bit ((p == buffer.pool) && (page.no == buffer.no))) same ∙ sym (ap (is_named buffer) name)
      by (ItemOf.Byte x) place same few offset long buffer = cc
      by (ItemOf.Req x) place same few offset long buffer = cc
      by (ItemOf.Resp x) place same few offset long buffer = cc

  sent_page : Each (HasPage ws) (passed.sent o)
  sent_page k x at =
      let is : IsAnyones (senders v.work) x = subst (IsAnyones (senders v.work)) (get_or_from_slice_get (passed.sent o) k x x at) (row.within k x (there_below (passed.sent o) k x at)) in
      let s = is.1 in
      let below = there_below (senders v.work) is.0 s is.2 in
      let q = there_is (from_queues v.ends) is.0 (omega (arith, below, row.from_each)) in
      let r = there_is (to_queues v.ends) is.0 (omega (arith, below, row.to_each)) in
      let served = row.serves is.0 s q.0 r.0 is.2 q.1 r.1 in
      let own : is_own s x ≡ true = rw (le-leb s.base (addr_of x.0) (omega (arith, is.3.2)), lt-ltb (addr_of x.0) (s.base + s.buffers * s.size) (let within = ends_within s.size is.3.0 s.buffers is.3.1 in let some = row.sized is.0 s is.2 in let at = is.3.2 in omega (arith, at, some, within))) refl in
      let kept = kept_at (is_own s) (passed.sent o) k x at own in
      let there : slice_get (own_of s (passed.sent o)) kept.0 ≡ Some (to_client s.base x) = map_get (to_client s.base) (filter (is_own s) (passed.sent o)) kept.0 x kept.1 in
      let came : slice_get (filter (is_good_of s) (row.turn q.0.0)) kept.0 ≡ Some (to_client s.base x) = ap (λ cs. slice_get cs kept.0) (sym served.sends.1) ∙ get_first (own_of s (passed.sent o)) served.sends.0 kept.0 (to_client s.base x) there in
      let good = (kept_is (is_good_of s) (row.turn q.0.0) kept.0 (to_client s.base x) came).0 in
      let c : Shipper = record { active = q.0.0; free = r.0.0; pool = sender_pool s; most = s.most } in
      let c_at = shipper_of (senders v.work) (from_queues v.ends) (to_queues v.ends) is.0 s q.0 r.0 is.2 q.1 r.1 in
      good_page is.0 c c_at s (row.sized is.0 s is.2) refl x.0 x.1 is.3.0 is.3.1 is.3.2 good

  -- what came back for a client, with its offset
  home_page : (k : ℕ) (c : Shipper) → slice_get clients k ≡ Some c → (s : Sender) → c.pool ≡ sender_pool s → (z : Cargo) → kind_of z.0 ≡ Kind.Net → is_own s z ≡ true → HasPage ws z → HasPage (by_offset c.pool ∷ []) (to_client s.base z)
  home_page k c at s pool (ItemOf.Net d, body) kind own has b =
      let there : is_at c.pool d.addr ≡ true = ap (λ p. is_at p d.addr) pool ∙ own in
      let base : c.pool.base ≡ s.base = ap (λ (p : Rattle.owner_law.specs.Pools.Places.PoolAt). p.base) pool in
      has b ∙ ap (is_named b) (pick_home clients (pools_apart v passed row) k c d.addr at there ∙ ap (λ n. buffer_at (by_offset c.pool ∷ []) (d.addr - n)) base)
  home_page k c at s pool (ItemOf.Byte x, body) kind own has b = cc
  home_page k c at s pool (ItemOf.Req x, body) kind own has b = cc
  home_page k c at s pool (ItemOf.Resp x, body) kind own has b = cc

  module _ (back : AllCarry naming m i (passed.taken i)) where
    back_page : Each (HasPage ws) (passed.taken i)
    back_page k z at = carries_page naming m ws i (inl free) k z (back k z at)

    given_page : (k : ℕ) (c : Shipper) → slice_get clients k ≡ Some c → Each (HasPage (by_offset c.pool ∷ [])) (passed.taken c.active) → Each (HasPage (by_offset c.pool ∷ [])) (passed.sent c.free)
    given_page k c at came =
        let y = shipper_at (senders v.work) (from_queues v.ends) (to_queues v.ends) k c at in
        let s = y.0 in
        let served = row.serves k s y.1 y.2 y.3 y.4 y.5 in
        let pool : c.pool ≡ sender_pool s = ap (λ (z : Shipper). z.pool) y.6 in
        let free : y.2.0 ≡ c.free = sym (ap (λ (z : Shipper). z.free) y.6) in
        let active : c.active ≡ y.1.0 = ap (λ (z : Shipper). z.active) y.6 in
        subst (λ n. Each (HasPage (by_offset c.pool ∷ [])) (passed.sent n)) free (each_begun (HasPage (by_offset c.pool ∷ [])) (bad_ones s (row.turn y.1.0) ∷ own_of s (row.turn i) ∷ []) (passed.sent y.2.0) served.gives_back (lists s pool y.1.0 active))
      where
        bad_page : (s : Sender) (n : ℕ) → c.active ≡ n → Each (HasPage (by_offset c.pool ∷ [])) (bad_ones s (row.turn n))
        bad_page s n active j z z_at =
            let there = (kept_is (λ d. not (is_good_of s d)) (row.turn n) j z z_at).1 in
            let taken = in_turn n there.0 z there.1 in
            came taken.0 z (ap (λ q. slice_get (passed.taken q) taken.0) active ∙ taken.1)

        own_page : (s : Sender) → c.pool ≡ sender_pool s → Each (HasPage (by_offset c.pool ∷ [])) (own_of s (row.turn i))
        own_page s pool j z z_at =
            let x = map_from (to_client s.base) (filter (is_own s) (row.turn i)) j z z_at in
            let kept = kept_is (is_own s) (row.turn i) j x.0 x.1 in
            let taken = in_turn i kept.1.0 x.0 kept.1.1 in
            subst (HasPage (by_offset c.pool ∷ [])) x.2 (home_page k c at s pool x.0 (net taken.0 x.0 taken.1) kept.0 (back_page taken.0 x.0 taken.1))

        lists : (s : Sender) → c.pool ≡ sender_pool s → (n : ℕ) → c.active ≡ n → Each (Each (HasPage (by_offset c.pool ∷ []))) (bad_ones s (row.turn n) ∷ own_of s (row.turn i) ∷ [])
        lists s pool n active zero l l_at = subst (Each (HasPage (by_offset c.pool ∷ []))) (some_is l_at) (bad_page s n active)
        lists s pool n active (suc zero) l l_at = subst (Each (HasPage (by_offset c.pool ∷ []))) (some_is l_at) (own_page s pool)
        lists s pool n active (suc (suc j)) l l_at = cc

    -- what a client is given that isn't hostile
    pub given_on : (k : ℕ) (c : Shipper) → slice_get clients k ≡ Some c → naming c.active ≡ Buffers (by_offset c.pool ∷ []) → naming c.free ≡ Buffers (by_offset c.pool ∷ []) → AllCarry naming m c.active (passed.taken c.active) → AllCarry naming m c.free (passed.sent c.free)
    given_on k c at sends returns came j x x_at =
        page_carries naming m (by_offset c.pool ∷ []) c.free (inl returns) j x (given_page k c at (λ h z z_at. carries_page naming m (by_offset c.pool ∷ []) c.active (inl sends) h z (came h z z_at)) j x x_at)

  -- all that it put to the driver carries what is named
  pub sends_on : AllCarry naming m o (passed.sent o)
  sends_on k x at = page_carries naming m ws o (inl active) k x (sent_page k x at)
