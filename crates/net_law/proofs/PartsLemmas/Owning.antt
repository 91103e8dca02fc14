use Rattle.std.proofs.Common.{◌≡◌, ◌==◌, ◌+◌, ◌-◌, ◌*◌, ◌++◌, ◌<◌, ◌≤◌, ℕ, zero, suc, Bool, true, false, cond, if◌then◌else◌, Some, List, [], ◌∷◌, length, map, flat_map, slice_get, sum_by, count_by, refl, sym, ap, ap₂, ◌∙◌, subst, arith}
use Rattle.std.proofs.Math.Nat.{add-sub_cancel_left}
use Rattle.std.proofs.lemmas.List.Sums.{sum_by-cons, sum_by-append}
use Rattle.cargo_core.specs.Lists.{IsPrefix}
use Rattle.cargo_core.specs.declared.item.Item.{Item}
use Rattle.frame_core.specs.declared.mac.Mac.{Mac}
use Rattle.play_core.specs.Moved.{Moved, Seat}
use Rattle.play_core.specs.Sheets.{Scene, Sheet}
use Rattle.play_core.proofs.Lists.{map_from}
use Rattle.owner_law.specs.Things.{Buffer, Window, Naming, Thing, Nothing, Whole, Frame, buffer_at, buffer_of, names_in, is_named, times, things_sent, things_taken, as_buffer, as_lease, lends, brings_leases}
use Rattle.owner_law.specs.Keeping.{Keeps, PutsItsOwn, at_start, all_taken, all_put, things_in, things_out}
use Rattle.owner_law.proofs.Sums.{sum_flat}
use Rattle.owner_law.proofs.Named.{carried, buffers_are, buffers_none, leases_are, leases_none, returns_are, returns_none, keeps_plain, times_few}
use Rattle.class_expect.specs.NetExpect.Expecting.{Program, is_for_client}
use Rattle.buffer_kit.specs.Entries.{addr_of, with_len}
use Rattle.net_law.proofs.Beginnings.{begins_map}
use Rattle.owner_law.specs.Pools.Places.{PoolAt, by_address, by_offset, numbers_from, pool_hand}
use Rattle.net_law.specs.Owners.Lending.{Borrower, Lender, LenderRow, lender_ends, names_where}
use Rattle.net_law.proofs.OwnersLemmas.Clients.{at_address, here_or_not}
use Rattle.net_law.proofs.OwnersLemmas.Few.{address_still, either_are, either_none}
use Rattle.net_law.proofs.OwnersLemmas.Lenders.{lender_keeps}
use Rattle.net_law.specs.Parts.Parts.{NetPart, NetDevice, NetDriver, NetReceiver, NetCopier, NetClient, Way, Lessee}
use Rattle.net_law.specs.Parts.Rows.{sent_lens, accepted_by, AllCopy, IsIn, AreIn, sized_items, given_item, given_items, frame_at, lease_item, leases_from, borrower_of, lender_of}
use Rattle.net_law.specs.Parts.Table.{net_sheet, way_ends}
use Rattle.net_law.specs.Parts.Naming.{NamesPart, NameWay}
use Rattle.net_law.proofs.PartsLemmas.Counting.{numbered, buffer_is}
use Rattle.net_law.proofs.PartsLemmas.Leasing.{ends_are}

few_of : (b : Buffer) (ws : List Window) (xs ys : List Item) → IsPrefix xs ys → times b (names_in ws xs) ≤ times b (names_in ws ys)
few_of b ws xs ys h = times_few b (names_in ws xs) (names_in ws ys) (begins_map (buffer_of ws) xs ys h)

-- a length says nothing of the buffer
sized_begin : (ws : List Window) (ns : List ℕ) (items : List Item) → IsPrefix (names_in ws (sized_items ns items)) (names_in ws items)
sized_begin ws [] items = (names_in ws items, refl)
sized_begin ws (n ∷ ns) [] = ([], refl)
sized_begin ws (n ∷ ns) (x ∷ items) =
    let rest = sized_begin ws ns items in
    let head : buffer_of ws (with_len n x) ≡ buffer_of ws x = ap (λ a. Rattle.std.specs.Option.option_and_then (buffer_at ws) a) (address_still n x) in
    (rest.0, ap₂ (λ y ys. y ∷ ys) head rest.1)

sized_few : (b : Buffer) (ws : List Window) (ns : List ℕ) (xs items : List Item) → IsPrefix xs (sized_items ns items) → times b (names_in ws xs) ≤ times b (names_in ws items)
sized_few b ws ns xs items h = omega (arith, few_of b ws xs (sized_items ns items) h, times_few b (names_in ws (sized_items ns items)) (names_in ws items) (sized_begin ws ns items))

-- a device
module _ (naming : Naming) (scene : Scene) (rx_free rx_active tx_active tx_free : ℕ) (frames : List (List ℕ)) (drops : Bool) (m : Moved) (names : NamesPart naming scene (NetDevice rx_free rx_active tx_active tx_free frames drops)) (row : (net_sheet scene (NetDevice rx_free rx_active tx_active tx_free frames drops)).row m) where
  abbrev device_seats : List Seat
  device_seats = (net_sheet scene (NetDevice rx_free rx_active tx_active tx_free frames drops)).ends

  device_came : (f : Thing → ℕ) → sum_by f (all_taken naming m device_seats) ≡ carried naming m rx_free (m.taken rx_free) f + carried naming m tx_active (m.taken tx_active) f
  device_came f =
      let parts : sum_by f (all_taken naming m device_seats) ≡ 0 + carried naming m rx_free (m.taken rx_free) f + 0 + carried naming m tx_active (m.taken tx_active) f + 0 = sum_flat f (things_in naming m) device_seats in
      omega (arith, parts)

  device_went : (f : Thing → ℕ) → sum_by f (all_put naming m device_seats) ≡ carried naming m rx_active (m.sent rx_active) f + carried naming m tx_free (m.sent tx_free) f
  device_went f =
      let parts : sum_by f (all_put naming m device_seats) ≡ 0 + 0 + carried naming m rx_active (m.sent rx_active) f + 0 + carried naming m tx_free (m.sent tx_free) f = sum_flat f (things_out naming m) device_seats in
      omega (arith, parts)

  pub device_keeps : Keeps (λ pool. []) (all_taken naming m device_seats) (all_put naming m device_seats)
  device_keeps =
      let rx = names.0.0 in
      let tx = names.1.0 in
      keeps_plain (λ pool. []) (all_taken naming m device_seats) (all_put naming m device_seats)
      (λ b. omega (arith, device_came (lends b), buffers_none naming m rx_free (m.taken rx_free) rx (lends b) names.0.1.0 refl (λ c. refl), buffers_none naming m tx_active (m.taken tx_active) tx (lends b) names.1.1.0 refl (λ c. refl)))
      (λ b. omega (arith, device_came (as_buffer b), device_went (as_buffer b), buffers_are naming m rx_free (m.taken rx_free) rx (as_buffer b) b names.0.1.0 refl (λ c. refl), buffers_are naming m rx_active (m.sent rx_active) rx (as_buffer b) b names.0.1.1 refl (λ c. refl), buffers_are naming m tx_active (m.taken tx_active) tx (as_buffer b) b names.1.1.0 refl (λ c. refl), buffers_are naming m tx_free (m.sent tx_free) tx (as_buffer b) b names.1.1.1 refl (λ c. refl), sized_few b rx (map (λ frame. length frame) (accepted_by drops row.marks frames)) (m.sent rx_active) (m.taken rx_free) row.out.filled, few_of b tx (m.sent tx_free) (m.taken tx_active) row.out.returns))
      (λ b. omega (arith, device_went (as_lease b), buffers_none naming m rx_active (m.sent rx_active) rx (as_lease b) names.0.1.1 refl (λ c. refl), buffers_none naming m tx_free (m.sent tx_free) tx (as_lease b) names.1.1.1 refl (λ c. refl)))

-- a driver
module _ (naming : Naming) (m : Moved) where
  abbrev AllNamed : List Way → Type 0
  AllNamed ways = (k : ℕ) (w : Way) → slice_get ways k ≡ Some w → NameWay naming w

  way_came : (f : Thing → ℕ) (w : Way) (ways : List Way) → sum_by f (all_taken naming m (flat_map way_ends (w ∷ ways))) ≡ carried naming m w.input (m.taken w.input) f + sum_by f (all_taken naming m (flat_map way_ends ways))
  way_came f w ways = sum_by-append f (things_taken naming m w.input) (all_taken naming m (flat_map way_ends ways))

  way_went : (f : Thing → ℕ) (w : Way) (ways : List Way) → sum_by f (all_put naming m (flat_map way_ends (w ∷ ways))) ≡ carried naming m w.output (m.sent w.output) f + sum_by f (all_put naming m (flat_map way_ends ways))
  way_went f w ways = sum_by-append f (things_sent naming m w.output) (all_put naming m (flat_map way_ends ways))

  ways_buffers : (ways : List Way) → AllNamed ways → AllCopy ways m → (b : Buffer) → sum_by (as_buffer b) (all_put naming m (flat_map way_ends ways)) ≤ sum_by (as_buffer b) (all_taken naming m (flat_map way_ends ways))
  ways_buffers [] names row b = omega arith
  ways_buffers (w ∷ ways) names row b =
      let n = names 0 w refl in
      let into = buffers_are naming m w.input (m.taken w.input) n.0 (as_buffer b) b n.1 refl (λ c. refl) in
      let out = either_are naming m w.output (m.sent w.output) n.0 (as_buffer b) b n.2 refl (λ c. refl) (λ c r. refl) in
      omega (arith, way_came (as_buffer b) w ways, way_went (as_buffer b) w ways, into, out, few_of b n.0 (m.sent w.output) (m.taken w.input) (row zero w refl), ways_buffers ways (λ k x at. names (suc k) x at) (λ k x at. row (suc k) x at) b)

  ways_came_none : (ways : List Way) → AllNamed ways → (f : Thing → ℕ) → f Nothing ≡ 0 → ((c : Buffer) → f (Whole c) ≡ 0) → sum_by f (all_taken naming m (flat_map way_ends ways)) ≡ 0
  ways_came_none [] names f none whole = refl
  ways_came_none (w ∷ ways) names f none whole = let n = names 0 w refl in omega (arith, way_came f w ways, buffers_none naming m w.input (m.taken w.input) n.0 f n.1 none whole, ways_came_none ways (λ k x at. names (suc k) x at) f none whole)

  ways_went_none : (ways : List Way) → AllNamed ways → (f : Thing → ℕ) → f Nothing ≡ 0 → ((c : Buffer) → f (Whole c) ≡ 0) → ((c : Buffer) (r : ℕ) → f (Frame c r) ≡ 0) → sum_by f (all_put naming m (flat_map way_ends ways)) ≡ 0
  ways_went_none [] names f none whole frame = refl
  ways_went_none (w ∷ ways) names f none whole frame = let n = names 0 w refl in omega (arith, way_went f w ways, either_none naming m w.output (m.sent w.output) n.0 f n.2 none whole frame, ways_went_none ways (λ k x at. names (suc k) x at) f none whole frame)

  pub driver_keeps : (ways : List Way) → AllNamed ways → AllCopy ways m → Keeps (λ pool. []) (all_taken naming m (flat_map way_ends ways)) (all_put naming m (flat_map way_ends ways))
  driver_keeps ways names row = keeps_plain (λ pool. []) (all_taken naming m (flat_map way_ends ways)) (all_put naming m (flat_map way_ends ways))
      (λ b. ways_came_none ways names (lends b) refl (λ c. refl))
      (λ b. omega (arith, ways_buffers ways names row b))
      (λ b. omega (arith, ways_went_none ways names (as_lease b) refl (λ c. refl) (λ c r. refl)))

-- a copier
module _ (naming : Naming) (scene : Scene) (lease_active lease_free rx_active rx_free : ℕ) (drops : Bool) (m : Moved) (names : NamesPart naming scene (NetCopier lease_active lease_free rx_active rx_free drops)) (row : (net_sheet scene (NetCopier lease_active lease_free rx_active rx_free drops)).row m) where
  abbrev copier_seats : List Seat
  copier_seats = (net_sheet scene (NetCopier lease_active lease_free rx_active rx_free drops)).ends

  copier_came : (f : Thing → ℕ) → sum_by f (all_taken naming m copier_seats) ≡ carried naming m lease_active (m.taken lease_active) f + carried naming m rx_free (m.taken rx_free) f
  copier_came f =
      let parts : sum_by f (all_taken naming m copier_seats) ≡ 0 + carried naming m lease_active (m.taken lease_active) f + carried naming m rx_free (m.taken rx_free) f + 0 + 0 = sum_flat f (things_in naming m) copier_seats in
      omega (arith, parts)

  copier_went : (f : Thing → ℕ) → sum_by f (all_put naming m copier_seats) ≡ carried naming m rx_active (m.sent rx_active) f + carried naming m lease_free (m.sent lease_free) f
  copier_went f =
      let parts : sum_by f (all_put naming m copier_seats) ≡ 0 + 0 + 0 + carried naming m rx_active (m.sent rx_active) f + carried naming m lease_free (m.sent lease_free) f = sum_flat f (things_out naming m) copier_seats in
      omega (arith, parts)

  pub copier_keeps : Keeps (λ pool. []) (all_taken naming m copier_seats) (all_put naming m copier_seats)
  copier_keeps =
      let leased = names.0.0 in
      let buffers = names.1.0 in
      keeps_plain (λ pool. []) (all_taken naming m copier_seats) (all_put naming m copier_seats)
      (λ b. omega (arith, copier_came (lends b), leases_none naming m lease_active (m.taken lease_active) leased (lends b) names.0.1 refl (λ d. refl), buffers_none naming m rx_free (m.taken rx_free) buffers (lends b) names.1.1.0 refl (λ d. refl)))
      (λ b. omega (arith, copier_came (as_buffer b), copier_went (as_buffer b), buffers_are naming m rx_free (m.taken rx_free) buffers (as_buffer b) b names.1.1.0 refl (λ d. refl), buffers_are naming m rx_active (m.sent rx_active) buffers (as_buffer b) b names.1.1.1 refl (λ d. refl), returns_none naming m lease_free (m.sent lease_free) leased (as_buffer b) names.0.2 refl (λ d. refl), sized_few b buffers (map Rattle.buffer_kit.specs.Entries.len_of (Rattle.wire_core.specs.Fates.without row.marks (m.taken lease_active))) (m.sent rx_active) (m.taken rx_free) row.out.copies))
      (λ b. omega (arith, copier_came (brings_leases b), copier_went (as_lease b), leases_are naming m lease_active (m.taken lease_active) leased (brings_leases b) b names.0.1 refl (λ d. refl), returns_are naming m lease_free (m.sent lease_free) leased (as_lease b) b names.0.2 refl (λ d. refl), buffers_none naming m rx_active (m.sent rx_active) buffers (as_lease b) names.1.1.1 refl (λ d. refl), few_of b leased (m.sent lease_free) (m.taken lease_active) row.out.gives_back))

-- a window's buffers, from one on, are named by their numbers
given_few : (w : Window) (b : Buffer) (k count : ℕ) → 0 < w.size → k + count ≤ w.buffers → times b (names_in (w ∷ []) (map (given_item w) (numbers_from k count))) ≤ count_by (λ x. x == b.no) (if w.pool == b.pool then numbers_from k count else [])
given_few w b k zero some le = omega arith
given_few w b k (suc count) some le =
    let head : is_named b (buffer_of (w ∷ []) (given_item w k)) ≡ is_named b (Some (numbered w.pool k)) = ap (is_named b) (at_address w k some (omega (arith, le))) in
    omega (arith, sum_by-cons (is_named b) (buffer_of (w ∷ []) (given_item w k)) (names_in (w ∷ []) (map (given_item w) (numbers_from (k + 1) count))), head, here_or_not (w.pool == b.pool) b.no k (numbers_from (k + 1) count) (times b (names_in (w ∷ []) (map (given_item w) (numbers_from (k + 1) count)))) (given_few w b (k + 1) count some (omega (arith, le))))

-- names of two lists
split : (b : Buffer) (ws : List Window) (xs ys : List Item) → times b (names_in ws (xs ++ ys)) ≡ times b (names_in ws xs) + times b (names_in ws ys)
split b ws [] ys = omega arith
split b ws (x ∷ xs) ys = omega (arith, split b ws xs ys, sum_by-cons (is_named b) (buffer_of ws x) (names_in ws (xs ++ ys)), sum_by-cons (is_named b) (buffer_of ws x) (names_in ws xs))

-- a client
module _ (naming : Naming) (scene : Scene) (program : Program) (mac : Mac) (rx_active rx_free tx_active tx_free : ℕ) (rx tx : PoolAt) (m : Moved) (names : NamesPart naming scene (NetClient program mac rx_active rx_free tx_active tx_free rx tx)) (row : (net_sheet scene (NetClient program mac rx_active rx_free tx_active tx_free rx tx)).row m) where
  abbrev Client : Sheet
  Client = net_sheet scene (NetClient program mac rx_active rx_free tx_active tx_free rx tx)

  abbrev own : Window
  own = by_offset rx

  abbrev spare : Window
  spare = by_offset tx

  client_came : (f : Thing → ℕ) → sum_by f (all_taken naming m Client.ends) ≡ carried naming m rx_active (m.taken rx_active) f + carried naming m tx_free (m.taken tx_free) f
  client_came f =
      let parts : sum_by f (all_taken naming m Client.ends) ≡ 0 + carried naming m rx_active (m.taken rx_active) f + 0 + carried naming m tx_free (m.taken tx_free) f + 0 = sum_flat f (things_in naming m) Client.ends in
      omega (arith, parts)

  client_went : (f : Thing → ℕ) → sum_by f (all_put naming m Client.ends) ≡ carried naming m rx_free (m.sent rx_free) f + carried naming m tx_active (m.sent tx_active) f
  client_went f =
      let parts : sum_by f (all_put naming m Client.ends) ≡ 0 + 0 + carried naming m rx_free (m.sent rx_free) f + 0 + carried naming m tx_active (m.sent tx_active) f = sum_flat f (things_out naming m) Client.ends in
      omega (arith, parts)

  client_buffers : (b : Buffer) → sum_by (as_buffer b) (all_put naming m Client.ends) ≤ at_start Client.hand b + sum_by (as_buffer b) (all_taken naming m Client.ends)
  client_buffers b =
      omega (
        arith,
        client_came (as_buffer b),
        client_went (as_buffer b),
        buffers_are naming m rx_active (m.taken rx_active) (own ∷ []) (as_buffer b) b names.0.0 refl (λ d. refl),
        buffers_are naming m rx_free (m.sent rx_free) (own ∷ []) (as_buffer b) b names.0.1 refl (λ d. refl),
        buffers_are naming m tx_active (m.sent tx_active) (spare ∷ []) (as_buffer b) b names.1.0 refl (λ d. refl),
        buffers_are naming m tx_free (m.taken tx_free) (spare ∷ []) (as_buffer b) b names.1.1 refl (λ d. refl),
        few_of b (own ∷ []) (m.sent rx_free) (given_items own ++ m.taken rx_active) row.given,
        sized_few b (spare ∷ []) (sent_lens program mac (m.taken rx_active)) (m.sent tx_active) (given_items spare ++ m.taken tx_free) row.sends.filled,
        split b (own ∷ []) (given_items own) (m.taken rx_active),
        split b (spare ∷ []) (given_items spare) (m.taken tx_free),
        given_few own b 0 rx.buffers row.sized (omega arith),
        given_few spare b 0 tx.buffers row.spare_sized (omega arith),
        sum_by-append (λ x. cond {A = ℕ} (x == b.no) 1 0) (pool_hand rx b.pool) (pool_hand tx b.pool),
      )

  pub client_keeps : Keeps Client.hand (all_taken naming m Client.ends) (all_put naming m Client.ends)
  client_keeps =
      keeps_plain Client.hand (all_taken naming m Client.ends) (all_put naming m Client.ends)
      (λ b. omega (arith, client_came (lends b), buffers_none naming m rx_active (m.taken rx_active) (own ∷ []) (lends b) names.0.0 refl (λ d. refl), buffers_none naming m tx_free (m.taken tx_free) (spare ∷ []) (lends b) names.1.1 refl (λ d. refl)))
      client_buffers
      (λ b. omega (arith, client_went (as_lease b), buffers_none naming m rx_free (m.sent rx_free) (own ∷ []) (as_lease b) names.0.1 refl (λ d. refl), buffers_none naming m tx_active (m.sent tx_active) (spare ∷ []) (as_lease b) names.1.0 refl (λ d. refl)))

-- a lease names the buffer of its frame
lease_name : (pool : PoolAt) → 0 < pool.size → (frame : List ℕ) (x : Item) → IsIn (by_address pool) x → buffer_of (by_offset pool ∷ []) (lease_item pool.base frame x) ≡ buffer_of (by_address pool ∷ []) x
lease_name pool some frame x at =
    let offset : addr_of x - pool.base ≡ 0 + at.number * pool.size = ap (λ a. a - pool.base) at.begins ∙ (add-sub_cancel_left pool.base (at.number * pool.size) ∙ zero_first (at.number * pool.size)) in
    ap (buffer_at (by_offset pool ∷ [])) offset ∙ (at_address (by_offset pool) at.number some at.few ∙ sym (buffer_is (by_address pool) some x at.number at refl))
  where
    zero_first : (n : ℕ) → n ≡ 0 + n
    zero_first n = omega arith

-- and so do a client's
lease_names : (pool : PoolAt) → 0 < pool.size → (frames : List (List ℕ)) (mac : Mac) (place : ℕ) (items : List Item) → AreIn (by_address pool) items → names_in (by_offset pool ∷ []) (leases_from frames pool.base mac place items) ≡ names_where (λ n. is_for_client mac (frame_at frames n)) place (names_in (by_address pool ∷ []) items)
lease_names pool some frames mac place [] within = refl
lease_names pool some frames mac place (x ∷ items) within = by (is_for_client mac (frame_at frames place)) (lease_name pool some (frame_at frames place) x (within 0 x refl)) (lease_names pool some frames mac (place + 1) items (λ k y at. within (suc k) y at))
  where
    by : (t : Bool) → buffer_of (by_offset pool ∷ []) (lease_item pool.base (frame_at frames place) x) ≡ buffer_of (by_address pool ∷ []) x → names_in (by_offset pool ∷ []) (leases_from frames pool.base mac (place + 1) items) ≡ names_where (λ n. is_for_client mac (frame_at frames n)) (place + 1) (names_in (by_address pool ∷ []) items) → names_in (by_offset pool ∷ []) (cond t (lease_item pool.base (frame_at frames place) x ∷ leases_from frames pool.base mac (place + 1) items) (leases_from frames pool.base mac (place + 1) items)) ≡ cond t (buffer_of (by_address pool ∷ []) x ∷ names_where (λ n. is_for_client mac (frame_at frames n)) (place + 1) (names_in (by_address pool ∷ []) items)) (names_where (λ n. is_for_client mac (frame_at frames n)) (place + 1) (names_in (by_address pool ∷ []) items))
    by true h rest = ap₂ (λ y ys. y ∷ ys) h rest
    by false h rest = rest

-- the receiving virtualiser
module _ (naming : Naming) (scene : Scene) (active free : ℕ) (pool : PoolAt) (clients : List Lessee) (m : Moved) (names : NamesPart naming scene (NetReceiver active free pool clients)) (row : (net_sheet scene (NetReceiver active free pool clients)).row m) where
  abbrev l : Lender
  l = lender_of scene.frames active free pool clients

  lends_named : (k : ℕ) (c : Borrower) → slice_get l.clients k ≡ Some c → IsPrefix (names_in (by_offset pool ∷ []) (m.sent c.active)) (names_where c.is_for 0 (names_in (by_address pool ∷ []) (m.taken active)))
  lends_named k c at =
      let f = map_from (borrower_of scene.frames) clients k c at in
      let due = leases_from scene.frames pool.base f.0.mac 0 (m.taken active) in
      let one = begins_map (buffer_of (by_offset pool ∷ [])) (m.sent f.0.active) due (row.lends k f.0 f.1) in
      let two = subst (IsPrefix (names_in (by_offset pool ∷ []) (m.sent f.0.active))) (lease_names pool row.sized scene.frames f.0.mac 0 (m.taken active) row.within) one in
      subst (λ (d : Borrower). IsPrefix (names_in (by_offset pool ∷ []) (m.sent d.active)) (names_where d.is_for 0 (names_in (by_address pool ∷ []) (m.taken active)))) f.2 two

  lends_row : LenderRow (by_address pool ∷ []) (by_offset pool ∷ []) l m
  lends_row = record { shares = lends_named; in_hand = row.in_hand }

  pub receiver_keeps : Keeps (pool_hand pool) (all_taken naming m (net_sheet scene (NetReceiver active free pool clients)).ends) (all_put naming m (net_sheet scene (NetReceiver active free pool clients)).ends)
  receiver_keeps =
      let ends : lender_ends l ≡ (net_sheet scene (NetReceiver active free pool clients)).ends = ap (λ s. Rattle.play_core.specs.Wants.intake active ∷ Rattle.play_core.specs.Wants.outlet free ∷ s) (ends_are scene.frames clients) in
      subst (λ s. Keeps (pool_hand pool) (all_taken naming m s) (all_put naming m s)) ends (lender_keeps naming (by_address pool ∷ []) (by_offset pool ∷ []) l m names lends_row)

pub net_puts : (naming : Naming) (scene : Scene) (p : NetPart) → NamesPart naming scene p → PutsItsOwn naming (net_sheet scene p)
net_puts naming scene (NetDevice rx_free rx_active tx_active tx_free frames drops) names m apart row = device_keeps naming scene rx_free rx_active tx_active tx_free frames drops m names row
net_puts naming scene (NetDriver ways) names m apart row = driver_keeps naming m ways names row
net_puts naming scene (NetReceiver active free pool clients) names m apart row = receiver_keeps naming scene active free pool clients m names row
net_puts naming scene (NetCopier lease_active lease_free rx_active rx_free drops) names m apart row = copier_keeps naming scene lease_active lease_free rx_active rx_free drops m names row
net_puts naming scene (NetClient program mac rx_active rx_free tx_active tx_free rx tx) names m apart row = client_keeps naming scene program mac rx_active rx_free tx_active tx_free rx tx m names row
