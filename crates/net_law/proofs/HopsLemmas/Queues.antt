-- What the rows of the actors say of the numbers of entries.
use Rattle.std.proofs.Common.{◌≡◌, ◌≢◌, ◌≤◌, ◌+◌, ℕ, zero, suc, Bool, true, false, cond, if◌then◌else◌, Some, List, [], ◌∷◌, length, map, take, slice_get, sum_by, filter, refl, ap, ◌∙◌, arith}
use Rattle.std.proofs.lemmas.List.{length-map}
use Rattle.std.proofs.lemmas.List.Sums.{sum_by-cons}
use Rattle.cargo_core.specs.Lists.{IsPrefix, PrefixMerge}
use Rattle.cargo_core.specs.declared.item.Item.{Item}
use Rattle.frame_core.specs.declared.mac.Mac.{Mac}
use Rattle.wire_core.specs.Bells.{bit}
use Rattle.wire_core.specs.Marks.{sum_below}
use Rattle.play_core.specs.Moved.{Moved}
use Rattle.play_core.specs.Totals.{total}
use Rattle.play_core.proofs.Lists.{some_is}
use Rattle.play_core.proofs.Merges.{merge_total}
use Rattle.owner_law.specs.Things.{names_in, times}
use Rattle.owner_law.proofs.Sums.{sum_both, sum_none}
use Rattle.class_expect.specs.NetExpect.Expecting.{Program, Sink, Source, Echo, is_for_client}
use Rattle.net_law.specs.Owners.Names.{ClientPools}
use Rattle.owner_law.specs.Pools.Places.{PoolAt, by_address}
use Rattle.net_law.specs.Parts.Parts.{Lessee}
use Rattle.net_law.specs.Parts.Rows.{sized_items, sent_lens, answer_len, leases_from, lease_item, frame_at, SharesFrames}
use Rattle.net_law.specs.Parts.Numbers.{client_first, lessees_from}
use Rattle.net_law.proofs.PartsLemmas.Counting.{below_few, below_more, numbered, count_in, start_few}
use Rattle.buffer_kit.specs.Entries.{addr_of, len_of}
use Rattle.net_virt_tx.specs.Descriptors.{with_addr}
use Rattle.net_law.specs.TxParts.Parts.{Shipper}
use Rattle.net_law.specs.TxParts.Rows.{all_sends, at_device, at_home, in_range}
use Rattle.net_law.specs.TxParts.Numbers.{shippers_from}
use Rattle.play_core.proofs.Walks.{begins_few}
use Rattle.net_law.specs.Hops.Hops.{script_frames, AreApart}

-- items with lengths are no more than the lengths
pub sized_lengths : (ns : List ℕ) (items : List Item) → length (sized_items ns items) ≤ length ns
sized_lengths [] items = omega arith
sized_lengths (n ∷ ns) [] = omega arith
sized_lengths (n ∷ ns) (item ∷ items) = let h = sized_lengths ns items in omega (arith, h)

-- a client sends the frames of its script, or one for each that came
sent_few : (program : Program) (mac : Mac) (came : List Item) → length (sent_lens program mac came) ≤ script_frames program + length came
sent_few Sink mac came = omega arith
sent_few (Source script) mac came = let h = length-map script (λ (frame : List ℕ). length frame) in omega (arith, h)
sent_few Echo mac came = let h = length-map came (λ (item : Item). answer_len mac (len_of item)) in omega (arith, h)

pub sends_few : (program : Program) (mac : Mac) (came items : List Item) → length (sized_items (sent_lens program mac came) items) ≤ script_frames program + length came
sends_few program mac came items =
    let a = sized_lengths (sent_lens program mac came) items in
    let d = sent_few program mac came in
    omega (arith, a, d)

-- leases are no more than frames
pub leases_few : (frames : List (List ℕ)) (base : ℕ) (mac : Mac) (place : ℕ) (items : List Item) → length (leases_from frames base mac place items) ≤ length items
leases_few frames base mac place [] = omega arith
leases_few frames base mac place (item ∷ items) = by (is_for_client mac (frame_at frames place)) (leases_few frames base mac (place + 1) items)
  where
    by : (b : Bool) → length (leases_from frames base mac (place + 1) items) ≤ length items → length (if b then lease_item base (frame_at frames place) item ∷ leases_from frames base mac (place + 1) items else leases_from frames base mac (place + 1) items) ≤ suc (length items)
    by true h = omega (arith, h)
    by false h = omega (arith, h)

-- the receiving virtualiser gives back no more buffers than it had and took
pub frees_few : (frames : List (List ℕ)) (active free : ℕ) (pool : PoolAt) (clients : List Lessee) (m : Moved) → SharesFrames frames active free pool clients m → length (m.sent free) ≤ pool.buffers + length (m.taken active)
frees_few frames active free pool clients m row =
    let w = by_address pool in
    let gave = count_in w (omega arith) (m.sent free) row.gives in
    let got = count_in w (omega arith) (m.taken active) row.within in
    let each = below_few (λ n. times (numbered pool.number n) (names_in (w ∷ []) (m.sent free))) (λ n. 1 + times (numbered pool.number n) (names_in (w ∷ []) (m.taken active))) pool.buffers
    (λ n lt. let a = row.in_hand (numbered pool.number n) in let b = start_few pool n in omega (arith, a, b)) in
    let more = below_more (λ n. times (numbered pool.number n) (names_in (w ∷ []) (m.taken active))) pool.buffers in
    omega (arith, gave, got, each, more)

-- a client of the receiving virtualiser has the queues of its number
pub lessee_there : (first j : ℕ) (macs : List Mac) (k : ℕ) (mac : Mac) → slice_get macs k ≡ Some mac → (c : Lessee) × (slice_get (lessees_from first j macs) k ≡ Some c) × (c.active ≡ client_first first (j + k)) × (c.mac ≡ mac)
lessee_there first j [] k mac at = cc
lessee_there first j (x ∷ macs) zero mac at =
    (record { active = client_first first j; free = client_first first j + 1; mac = x }, refl, omega arith, some_is at)
lessee_there first j (x ∷ macs) (suc k) mac at =
    let h = lessee_there first (j + 1) macs k mac at in
    let shift : client_first first (j + 1 + k) ≡ client_first first (j + suc k) = omega arith in
    (h.0, h.1, h.2 ∙ shift, h.3)

-- a client of the sending virtualiser has the queues of its number, and its pool
pub shipper_there : (first most j : ℕ) (pools : List ClientPools) (k : ℕ) (q : ClientPools) → slice_get pools k ≡ Some q → (c : Shipper) × (slice_get (shippers_from first most j pools) k ≡ Some c) × (c.free ≡ client_first first (j + k) + 5) × (c.pool ≡ q.tx)
shipper_there first most j [] k q at = cc
shipper_there first most j (x ∷ pools) zero q at =
    (record { active = client_first first j + 4; free = client_first first j + 5; pool = x.tx; most = most }, refl, omega arith, ap (λ (z : ClientPools). z.tx) (some_is at))
shipper_there first most j (x ∷ pools) (suc k) q at =
    let h = shipper_there first most (j + 1) pools k q at in
    let shift : client_first first (j + 1 + k) + 5 ≡ client_first first (j + suc k) + 5 = omega arith in
    (h.0, h.1, h.2 ∙ shift, h.3)

-- how many descriptors came from a client
abbrev pub came_from : (first : ℕ) → Moved → ℕ → ℕ
came_from first m k = length (m.taken (client_first first k + 4))

-- how many came from all
pub sends_total : (first most : ℕ) (m : Moved) (j : ℕ) (pools : List ClientPools) → total (all_sends (shippers_from first most j pools) m) + sum_below (came_from first m) j ≡ sum_below (came_from first m) (j + length pools)
sends_total first most m j [] = let e : sum_below (came_from first m) j ≡ sum_below (came_from first m) (j + 0) = ap (sum_below (came_from first m)) (let z : j ≡ j + 0 = omega arith in z) in omega (arith, e)
sends_total first most m j (q ∷ pools) =
    let h = sends_total first most m (j + 1) pools in
    let one : length (at_device q.tx (m.taken (client_first first j + 4))) ≡ came_from first m j = length-map (m.taken (client_first first j + 4)) (λ i. with_addr (q.tx.base + addr_of i) i) in
    let step : sum_below (came_from first m) (j + 1) ≡ sum_below (came_from first m) (suc j) = ap (sum_below (came_from first m)) (let z : j + 1 ≡ suc j = omega arith in z) in
    let size : sum_below (came_from first m) (j + 1 + length pools) ≡ sum_below (came_from first m) (j + suc (length pools)) = ap (sum_below (came_from first m)) (let z : j + 1 + length pools ≡ j + suc (length pools) = omega arith in z) in
    omega (arith, h, one, step, size)

-- merged beginnings are no longer than the lists together
merged_few : {T : Type 0} (parts lists : List (List T)) → length parts ≡ length lists → ((k : ℕ) (part whole : List T) → slice_get parts k ≡ Some part → slice_get lists k ≡ Some whole → IsPrefix part whole) → total parts ≤ total lists
merged_few [] lists n begins = omega arith
merged_few (p ∷ parts) [] n begins = absurd (omega (arith, n))
merged_few (p ∷ parts) (l ∷ lists) n begins =
    let here = begins_few p l (begins 0 p l refl refl) in
    let rest = merged_few parts lists (omega (arith, n)) (λ k a b at there. begins (suc k) a b at there) in
    omega (arith, here, rest)

pub merge_few : {T : Type 0} (lists : List (List T)) (all : List T) → PrefixMerge lists all → length all ≤ total lists
merge_few lists all r =
    let a = merge_total r.parts all r.merged in
    let b = merged_few r.parts lists r.as_many r.begins in
    omega (arith, a, b)

filter_more : (p : Item → Bool) (x : Item) (xs : List Item) → length (filter p (x ∷ xs)) ≡ bit (p x) + length (filter p xs)
filter_more p x xs = by (p x)
  where
    by : (b : Bool) → length (cond b (x ∷ filter p xs) (filter p xs)) ≡ bit b + length (filter p xs)
    by true = omega arith
    by false = omega arith

-- no two of these pools share a buffer
abbrev pub AllApart : List ClientPools → Type 0
AllApart pools = (j k : ℕ) (p q : ClientPools) → slice_get pools j ≡ Some p → slice_get pools k ≡ Some q → j ≢ k → AreApart p.tx q.tx

-- an item is in the range of one of them at most
one_range : (item : Item) (pools : List ClientPools) → AllApart pools → sum_by (λ (q : ClientPools). bit (in_range q.tx item)) pools ≤ 1
one_range item [] apart = omega arith
one_range item (p ∷ pools) apart = by (in_range p.tx item) refl (one_range item pools (λ j k q r a b off. apart (suc j) (suc k) q r a b (λ e. off (omega (arith, e)))))
  where
    no_more : in_range p.tx item ≡ true → (i : ℕ) (q : ClientPools) → slice_get pools i ≡ Some q → bit (in_range q.tx item) ≡ 0
    no_more here i q at = none (in_range q.tx item) refl
      where
        none : (b : Bool) → in_range q.tx item ≡ b → bit b ≡ 0
        none true there = absurd (apart 0 (suc i) p q refl at (λ e. absurd (omega (arith, e))) item here there)
        none false there = refl

    by : (b : Bool) → in_range p.tx item ≡ b → sum_by (λ (q : ClientPools). bit (in_range q.tx item)) pools ≤ 1 → sum_by (λ (q : ClientPools). bit (in_range q.tx item)) (p ∷ pools) ≤ 1
    by true here rest =
        let a = sum_by-cons (λ (q : ClientPools). bit (in_range q.tx item)) p pools in
        let b = sum_none (λ (q : ClientPools). bit (in_range q.tx item)) pools (no_more here) in
        let c : bit (in_range p.tx item) ≡ 1 = ap bit here in
        omega (arith, a, b, c)
    by false here rest =
        let a = sum_by-cons (λ (q : ClientPools). bit (in_range q.tx item)) p pools in
        let c : bit (in_range p.tx item) ≡ 0 = ap bit here in
        omega (arith, a, rest, c)

no_items : (pools : List ClientPools) → sum_by (λ (q : ClientPools). 0) pools ≡ 0
no_items pools = sum_none (λ (q : ClientPools). 0) pools (λ i q at. refl)

-- the items in their ranges are together no more than all
pub ranges_few : (pools : List ClientPools) → AllApart pools → (items : List Item) → sum_by (λ (q : ClientPools). length (filter (in_range q.tx) items)) pools ≤ length items
ranges_few pools apart [] = let e = no_items pools in omega (arith, e)
ranges_few pools apart (x ∷ items) =
    let rest = ranges_few pools apart items in
    let one = one_range x pools apart in
    let parts = sum_both (λ (q : ClientPools). bit (in_range q.tx x)) (λ (q : ClientPools). length (filter (in_range q.tx) (x ∷ items))) (λ (q : ClientPools). length (filter (in_range q.tx) items)) (λ q. filter_more (in_range q.tx) x items) pools in
    omega (arith, rest, one, parts)

pub home_few : (p : PoolAt) (items : List Item) → length (at_home p items) ≡ length (filter (in_range p) items)
home_few p items = length-map (filter (in_range p) items) _
