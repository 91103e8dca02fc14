use Rattle.std.proofs.Common.{◌≡◌, ◌≢◌, ◌⊎◌, ◌==◌, ◌+◌, ◌-◌, ◌*◌, ◌++◌, ◌<◌, ◌≤◌, ℕ, zero, suc, Bool, true, false, cond, Some, List, [], ◌∷◌, All, length, length-append, map, flat_map, drop, slice_get, refl, sym, ap, ap₂, ◌∙◌, subst, arith, inl, inr}
use Rattle.std.specs.List.{filter}
use Rattle.std.proofs.Math.Dec.{eqb}
use Rattle.std.proofs.Math.Nat.{add-sub_cancel_left}
use Rattle.std.proofs.lemmas.Bool.{cases_lt}
use Rattle.std.proofs.lemmas.Bool.Decides.{eqb_tells}
use Rattle.std.proofs.lemmas.List.{append-nil, map-append, take-append-le, take-append-drop}
use Rattle.cargo_core.specs.Items.{kind_of}
use Rattle.cargo_core.specs.Lists.{IsPrefix}
use Rattle.cargo_core.specs.declared.item.Item.{Item}
use Rattle.cargo_core.specs.declared.item.Item.TheVariants as ItemOf
use Rattle.cargo_core.specs.declared.item.Body.TheVariants as Carried
use Rattle.cargo_core.specs.declared.item.QueueKind.TheVariants as Kind
use Rattle.frame_core.specs.declared.mac.Mac.{Mac}
use Rattle.wire_core.specs.declared.names.QueueId.{QueueId}
use Rattle.wire_core.specs.Deeds.{Cargo}
use Rattle.wire_core.specs.Lists.{Passed, if_there}
use Rattle.wire_core.specs.Queues.{items_of}
use Rattle.play_core.specs.Moved.{Moved}
use Rattle.play_core.specs.Sheets.{Scene}
use Rattle.play_core.proofs.Lists.{some_is, map_from, prefix_trans}
use Rattle.owner_law.specs.Things.{Buffer, Window, names_in, times}
use Rattle.class_expect.specs.NetExpect.Expecting.{is_for_client}
use Rattle.buffer_kit.specs.Entries.{addr_of, frame_of}
use Rattle.buffer_kit.specs.Pools.{given_entry}
use Rattle.buffer_kit.specs.Virtualising.{from_queues, to_queues}
use Rattle.buffer_kit.specs.declared.stock.Stock.{Stock}
use Rattle.buffer_kit.proofs.TwoLists.{get_front}
use Rattle.net_virt_rx.specs.Sharing.{IsBuffer, lease_of, leases_for}
use Rattle.net_virt_rx.specs.Receiving.{RxRow, IsServed}
use Rattle.net_virt_rx.specs.declared.NetVirtRx.{NetVirtRx}
use Rattle.owner_law.specs.Pools.Places.{by_address, by_offset}
use Rattle.net_law.specs.Owners.Ends.{AreItemsOf, stock_window}
use Rattle.net_law.specs.Owners.Lending.{Lender, LenderRow, borrower_ends, lender_ends, names_where}
use Rattle.net_law.specs.RxOwners.Virtualiser.{offset_window, rx_lender, borrowers, AreNet, TakesFrames}
use Rattle.net_law.proofs.RxOwners.Receivers.{rx_lends, leases_net}
use Rattle.net_law.proofs.RxOwners.Virtualisers.{names_of, times_named, times_outside, leases_names}
use Rattle.net_law.specs.Parts.Parts.{Lessee}
use Rattle.net_law.specs.Parts.Rows.{IsIn, AreIn, frame_at, lease_item, but_last, leases_from, borrower_of, lender_of}
use Rattle.net_law.specs.Parts.Table.{net_sheet, lessee_ends}
use Rattle.net_law.specs.Parts.Playing.{receiver_part, stock_pool, lessees, lessees_of}
use Rattle.net_law.proofs.PartsLemmas.Pairs.{twice, pair_first, pair_second}
use Rattle.net_law.proofs.PartsLemmas.Items.{all_at, items_begin, items_long}

pub prefix_get : {X : Type 0} (xs ys : List X) → IsPrefix xs ys → (k : ℕ) (x : X) → slice_get xs k ≡ Some x → slice_get ys k ≡ Some x
prefix_get xs ys h k x at = subst (λ l. slice_get l k ≡ Some x) h.1 (get_front xs h.0 k x at)

-- a page in one of a stock's buffers is named so by its item
in_of : (s : Stock) (w : Window) → w.base ≡ s.base → w.size ≡ s.size → w.buffers ≡ s.buffers → (c : Cargo) → IsBuffer s c → kind_of c.0 ≡ Kind.Net → IsIn w c.0
in_of s w base size many (item, Carried.Page page) is net = record { number = page.no; few = subst (λ n. page.no < n) (sym many) is.1; net = net; begins = is.2 ∙ ap₂ (λ b n. b + page.no * n) (sym base) (sym size) }
in_of s w base size many (item, Carried.Empty) is net = absurd is
in_of s w base size many (item, Carried.Lease lease) is net = absurd is

-- the lease of a frame that came in a buffer has this item
lease_is : (s : Stock) (frame : List ℕ) (c : Cargo) → IsBuffer s c → frame_of c ≡ frame → (lease_of s.size c).0 ≡ lease_item s.base frame c.0
lease_is s frame (item, Carried.Page page) is same =
    let offset : page.no * s.size ≡ addr_of item - s.base = sym (ap (λ a. a - s.base) is.2 ∙ add-sub_cancel_left s.base (page.no * s.size)) in
    ap₂ (λ a n. ItemOf.Net (record { addr = a; len = n })) offset (ap (λ l. length l) same)
lease_is s frame (item, Carried.Empty) is same = absurd is
lease_is s frame (item, Carried.Lease lease) is same = absurd is

-- and so have a client's leases
pub leases_items : (s : Stock) (frames : List (List ℕ)) (mac : Mac) (place : ℕ) (cs : List Cargo) → ((k : ℕ) (c : Cargo) → slice_get cs k ≡ Some c → IsBuffer s c) → ((k : ℕ) (c : Cargo) → slice_get cs k ≡ Some c → frame_of c ≡ frame_at frames (place + k)) → items_of (leases_for s.size mac cs) ≡ leases_from frames s.base mac place (items_of cs)
leases_items s frames mac place [] within same = refl
leases_items s frames mac place (c ∷ cs) within same =
    let frame : frame_of c ≡ frame_at frames place = same 0 c refl ∙ ap (frame_at frames) plus in
    let own : is_for_client mac (frame_of c) ≡ is_for_client mac (frame_at frames place) = ap (is_for_client mac) frame in
    let head : (lease_of s.size c).0 ≡ lease_item s.base (frame_at frames place) c.0 = lease_is s (frame_at frames place) c (within 0 c refl) frame in
    let tail = leases_items s frames mac (place + 1) cs (λ k d at. within (suc k) d at) (λ k d at. same (suc k) d at ∙ ap (frame_at frames) (shift k)) in
    ap (λ t. items_of (map (lease_of s.size) (cond t (c ∷ filter (λ d. is_for_client mac (frame_of d)) cs) (filter (λ d. is_for_client mac (frame_of d)) cs)))) own ∙ by (is_for_client mac (frame_at frames place)) head tail
  where
    plus : place + 0 ≡ place
    plus = omega arith

    shift : (k : ℕ) → place + suc k ≡ place + 1 + k
    shift k = omega arith

    by : (t : Bool) → (lease_of s.size c).0 ≡ lease_item s.base (frame_at frames place) c.0 → items_of (leases_for s.size mac cs) ≡ leases_from frames s.base mac (place + 1) (items_of cs) → items_of (map (lease_of s.size) (cond t (c ∷ filter (λ d. is_for_client mac (frame_of d)) cs) (filter (λ d. is_for_client mac (frame_of d)) cs))) ≡ cond t (lease_item s.base (frame_at frames place) c.0 ∷ leases_from frames s.base mac (place + 1) (items_of cs)) (leases_from frames s.base mac (place + 1) (items_of cs))
    by true head tail = ap₂ (λ x xs. x ∷ xs) head tail
    by false head tail = tail

-- the leases of some of the first frames are the first leases
leases_more : (frames : List (List ℕ)) (base : ℕ) (mac : Mac) (place : ℕ) (xs rest : List Item) → IsPrefix (leases_from frames base mac place xs) (leases_from frames base mac place (xs ++ rest))
leases_more frames base mac place [] rest = (leases_from frames base mac place rest, refl)
leases_more frames base mac place (x ∷ xs) rest = by (is_for_client mac (frame_at frames place)) (leases_more frames base mac (place + 1) xs rest)
  where
    by : (t : Bool) → IsPrefix (leases_from frames base mac (place + 1) xs) (leases_from frames base mac (place + 1) (xs ++ rest)) → IsPrefix (cond t (lease_item base (frame_at frames place) x ∷ leases_from frames base mac (place + 1) xs) (leases_from frames base mac (place + 1) xs)) (cond t (lease_item base (frame_at frames place) x ∷ leases_from frames base mac (place + 1) (xs ++ rest)) (leases_from frames base mac (place + 1) (xs ++ rest)))
    by true h = (h.0, ap (λ l. lease_item base (frame_at frames place) x ∷ l) h.1)
    by false h = h

leases_begin : (frames : List (List ℕ)) (base : ℕ) (mac : Mac) (xs ys : List Item) → IsPrefix xs ys → IsPrefix (leases_from frames base mac 0 xs) (leases_from frames base mac 0 ys)
leases_begin frames base mac xs ys h = subst (λ l. IsPrefix (leases_from frames base mac 0 xs) (leases_from frames base mac 0 l)) h.1 (leases_more frames base mac 0 xs h.0)

-- all but the last are among the first, where at most one follows these
but_last_first : (xs ys : List Item) → length ys ≤ 1 → IsPrefix (but_last (xs ++ ys)) xs
but_last_first xs ys few =
    let n = length (xs ++ ys) - 1 in
    let many = length-append xs ys in
    (drop n xs, ap (λ l. l ++ drop n xs) (take-append-le n xs ys (omega (arith, few, many))) ∙ take-append-drop n xs)

-- the clients as those to whom buffers are lent
pub borrowers_are : (frames : List (List ℕ)) (macs : List Mac) (to from : List QueueId) → borrowers (frame_at frames) macs to from ≡ map (borrower_of frames) (lessees macs to from)
borrowers_are frames [] to from = refl
borrowers_are frames (mac ∷ macs) [] from = refl
borrowers_are frames (mac ∷ macs) (q ∷ to) [] = refl
borrowers_are frames (mac ∷ macs) (q ∷ to) (r ∷ from) = ap (λ l. borrower_of frames (record { active = q.0; free = r.0; mac = mac }) ∷ l) (borrowers_are frames macs to from)

pub ends_are : (frames : List (List ℕ)) (cs : List Lessee) → flat_map borrower_ends (map (borrower_of frames) cs) ≡ flat_map lessee_ends cs
ends_are frames [] = refl
ends_are frames (c ∷ cs) = ap (λ l. Rattle.play_core.specs.Wants.outlet c.active ∷ Rattle.play_core.specs.Wants.intake c.free ∷ l) (ends_are frames cs)

-- a client at a place
abbrev pub Served : List Mac → List QueueId → List QueueId → ℕ → Lessee → Type 0
Served macs to from k c = (q : QueueId) × (r : QueueId) × (slice_get macs k ≡ Some c.mac) × (slice_get to k ≡ Some q) × (slice_get from k ≡ Some r) × (q.0 ≡ c.active) × (r.0 ≡ c.free)

pub served_at : (macs : List Mac) (to from : List QueueId) (k : ℕ) (c : Lessee) → slice_get (lessees macs to from) k ≡ Some c → Served macs to from k c
served_at [] to from k c at = cc
served_at (mac ∷ macs) [] from k c at = cc
served_at (mac ∷ macs) (q ∷ to) [] k c at = cc
served_at (mac ∷ macs) (q ∷ to) (r ∷ from) zero c at =
    let e = some_is at in
    (q, r, ap (λ (d : Lessee). Some d.mac) e, refl, refl, ap (λ (d : Lessee). d.active) e, ap (λ (d : Lessee). d.free) e)
served_at (mac ∷ macs) (q ∷ to) (r ∷ from) (suc k) c at = served_at macs to from k c at

module _ (scene : Scene) (v : NetVirtRx) (passed : Passed) (m : Moved) (items : AreItemsOf (net_sheet scene (receiver_part v)).ends passed m) (takes : TakesFrames (frame_at scene.frames) v passed) (row : RxRow v passed) (none : row.stray ≡ []) where
  abbrev s : Stock
  s = v.work.stock

  abbrev w : Window
  w = by_address (stock_pool s)

  abbrev o : Window
  o = by_offset (stock_pool s)

  abbrev came : List Cargo
  came = passed.taken v.ends.input.queue.0

  abbrev gave : List Cargo
  gave = passed.sent v.ends.output.queue.0

  -- all that it took is in turn
  turn_is : (n : ℕ) → row.turn n ≡ passed.taken n
  turn_is n = sym (row.taken n ∙ (ap (λ l. row.turn n ++ if_there (row.place == n) l) none ∙ (ap (λ l. row.turn n ++ l) (empty (row.place == n)) ∙ append-nil (row.turn n))))
    where
      empty : (b : Bool) → if_there b [] ≡ []
      empty true = refl
      empty false = refl

  window_is : stock_window s ≡ w
  window_is = refl

  offset_is : offset_window s ≡ o
  offset_is = refl

  lender_is : rx_lender (frame_at scene.frames) v ≡ lender_of scene.frames v.ends.input.queue.0 v.ends.output.queue.0 (stock_pool s) (lessees_of v)
  lender_is = ap (λ cs. let x : Lender = record { frames = v.ends.input.queue.0; free = v.ends.output.queue.0; clients = cs; hand = Rattle.owner_law.specs.Pools.Places.pool_hand (stock_pool s) } in x) (borrowers_are scene.frames v.work.macs.items (to_queues v.ends) (from_queues v.ends))

  all_ends : (net_sheet scene (receiver_part v)).ends ≡ lender_ends (rx_lender (frame_at scene.frames) v)
  all_ends = sym (ap lender_ends lender_is ∙ ap (λ l. Rattle.play_core.specs.Wants.intake v.ends.input.queue.0 ∷ Rattle.play_core.specs.Wants.outlet v.ends.output.queue.0 ∷ l) (ends_are scene.frames (lessees_of v)))

  lender_row : LenderRow (w ∷ []) (o ∷ []) (lender_of scene.frames v.ends.input.queue.0 v.ends.output.queue.0 (stock_pool s) (lessees_of v)) m
  lender_row =
      let own = rx_lends (frame_at scene.frames) v passed m (subst (λ ss. AreItemsOf ss passed m) all_ends items) takes row in
      subst (λ (x : Window). LenderRow (x ∷ []) (o ∷ []) (lender_of scene.frames v.ends.input.queue.0 v.ends.output.queue.0 (stock_pool s) (lessees_of v)) m) window_is
      (subst (λ (x : Window). LenderRow (stock_window s ∷ []) (x ∷ []) (lender_of scene.frames v.ends.input.queue.0 v.ends.output.queue.0 (stock_pool s) (lessees_of v)) m) offset_is
      (subst (λ l. LenderRow (stock_window s ∷ []) (offset_window s ∷ []) l m) lender_is own))

  came_is : m.taken v.ends.input.queue.0 ≡ items_of came
  came_is = items 0 _ refl

  gave_is : m.sent v.ends.output.queue.0 ≡ items_of gave
  gave_is = items 1 _ refl

  buffers_in : (cs : List Cargo) → ((k : ℕ) (c : Cargo) → slice_get cs k ≡ Some c → IsBuffer s c) → AreNet cs → AreIn w (items_of cs)
  buffers_in cs within net k item at =
      let f = map_from (λ (c : Cargo). c.0) cs k item at in
      subst (IsIn w) f.2 (in_of s w refl refl refl f.0 (within k f.0 f.1) (net k f.0 f.1))

  came_within : (k : ℕ) (c : Cargo) → slice_get came k ≡ Some c → IsBuffer s c
  came_within k c at = all_at (IsBuffer s) (row.turn v.ends.input.queue.0) row.within k c (ap (λ l. slice_get l k) (turn_is v.ends.input.queue.0) ∙ at)

  gave_within : (k : ℕ) (c : Cargo) → slice_get gave k ≡ Some c → IsBuffer s c
  gave_within k c at = all_at (IsBuffer s) gave row.given_within k c at

  -- the first buffers that it gave are in rising number
  rises : (k : ℕ) (item : Item) → k < s.buffers → slice_get (items_of gave) k ≡ Some item → addr_of item ≡ s.base + k * s.size
  rises k item lt at =
      let f = map_from (λ (c : Cargo). c.0) gave k item at in
      let whole = prefix_get gave (map (given_entry s.base s.size) row.start ++ row.later) row.gives k f.0 f.1 in
      let page = Rattle.play_core.proofs.Lists.there_is row.start k (omega (arith, lt, row.is_start.many)) in
      let given = get_front (map (given_entry s.base s.size) row.start) row.later k (given_entry s.base s.size page.0) (Rattle.play_core.proofs.Lists.map_get (given_entry s.base s.size) row.start k page.0 page.1) in
      let same : given_entry s.base s.size page.0 ≡ f.0 = some_is (sym given ∙ whole) in
      let number : page.0.no ≡ k = row.is_start.are_pool.numbered k page.0 page.1 in
      ap addr_of (sym f.2) ∙ (ap (λ (c : Cargo). addr_of c.0) (sym same) ∙ ap (λ n. s.base + n * s.size) number)

  frames_at : (k : ℕ) (c : Cargo) → slice_get came k ≡ Some c → frame_of c ≡ frame_at scene.frames (0 + k)
  frames_at k c at = takes.frames k c at ∙ ap (frame_at scene.frames) (plus k)
    where
      plus : (j : ℕ) → j ≡ 0 + j
      plus j = omega arith

  module _ (k : ℕ) (c : Lessee) (at : slice_get (lessees_of v) k ≡ Some c) where
    abbrev own : Served v.work.macs.items (to_queues v.ends) (from_queues v.ends) k c
    own = served_at v.work.macs.items (to_queues v.ends) (from_queues v.ends) k c at

    served : IsServed s c.mac came row.earlier gave (passed.sent c.active) (passed.taken c.free)
    served =
        let x = row.serves k c.mac own.0 own.1 own.2 own.3 own.4 in
        let a = subst (λ l. IsServed s c.mac l row.earlier gave (passed.sent own.0.0) (row.turn own.1.0)) (turn_is v.ends.input.queue.0) x in
        let b = subst (λ l. IsServed s c.mac came row.earlier gave (passed.sent own.0.0) l) (turn_is own.1.0) a in
        subst (λ n. IsServed s c.mac came row.earlier gave (passed.sent n) (passed.taken c.free)) own.5 (subst (λ n. IsServed s c.mac came row.earlier gave (passed.sent own.0.0) (passed.taken n)) own.6 b)

    lent_is : m.sent c.active ≡ items_of (passed.sent c.active)
    lent_is = items (suc (suc (twice k))) _ (pair_first (λ (d : Lessee). Rattle.play_core.specs.Wants.outlet d.active) (λ d. Rattle.play_core.specs.Wants.intake d.free) (lessees_of v) k c at)

    back_is : m.taken c.free ≡ items_of (passed.taken c.free)
    back_is = items (suc (suc (suc (twice k)))) _ (pair_second (λ (d : Lessee). Rattle.play_core.specs.Wants.outlet d.active) (λ d. Rattle.play_core.specs.Wants.intake d.free) (lessees_of v) k c at)

    lends_items : IsPrefix (m.sent c.active) (leases_from scene.frames s.base c.mac 0 (m.taken v.ends.input.queue.0))
    lends_items =
        let due = leases_items s scene.frames c.mac 0 came came_within frames_at in
        let said = subst (IsPrefix (items_of (passed.sent c.active))) due (items_begin (passed.sent c.active) (leases_for s.size c.mac came) served.lends) in
        subst (λ l. IsPrefix l (leases_from scene.frames s.base c.mac 0 (m.taken v.ends.input.queue.0))) (sym lent_is) (subst (λ l. IsPrefix (items_of (passed.sent c.active)) (leases_from scene.frames s.base c.mac 0 l)) (sym came_is) said)

    -- those of all frames but the last are given
    prompt_items : IsPrefix (leases_from scene.frames s.base c.mac 0 (but_last (m.taken v.ends.input.queue.0))) (m.sent c.active)
    prompt_items =
        let split : row.earlier ++ row.latest ≡ came = sym row.split ∙ turn_is v.ends.input.queue.0 in
        let there : (j : ℕ) (x : Cargo) → slice_get row.earlier j ≡ Some x → slice_get came j ≡ Some x = prefix_get row.earlier came (row.latest, split) in
        let due = leases_items s scene.frames c.mac 0 row.earlier (λ j x is. came_within j x (there j x is)) (λ j x is. frames_at j x (there j x is)) in
        let said = subst (λ l. IsPrefix l (items_of (passed.sent c.active))) due (items_begin (leases_for s.size c.mac row.earlier) (passed.sent c.active) served.prompt) in
        let first : IsPrefix (but_last (items_of came)) (items_of row.earlier) = subst (λ l. IsPrefix (but_last l) (items_of row.earlier)) (sym (map-append (λ (x : Cargo). x.0) row.earlier row.latest) ∙ ap items_of split) (but_last_first (items_of row.earlier) (items_of row.latest) (omega (arith, items_long row.latest, row.few))) in
        let leases = leases_begin scene.frames s.base c.mac (but_last (items_of came)) (items_of row.earlier) first in
        let given = prefix_trans (leases_from scene.frames s.base c.mac 0 (but_last (items_of came))) (leases_from scene.frames s.base c.mac 0 (items_of row.earlier)) (items_of (passed.sent c.active)) leases said in
        subst (IsPrefix (leases_from scene.frames s.base c.mac 0 (but_last (m.taken v.ends.input.queue.0)))) (sym lent_is) (subst (λ l. IsPrefix (leases_from scene.frames s.base c.mac 0 (but_last l)) (items_of (passed.sent c.active))) (sym came_is) given)

    abbrev test : ℕ → Bool
    test n = is_for_client c.mac (frame_at scene.frames n)

    single_items : (b : Buffer) → times b (names_where test 0 (names_in (w ∷ []) (m.taken v.ends.input.queue.0))) ≤ times b (names_in (o ∷ []) (m.taken c.free)) + 1
    single_items b = by (eqb_tells s.pool.0 b.pool) (cases_lt b.no s.buffers)
      where
        some : 0 < s.size
        some = row.is_start.are_pool.some

        due_is : times b (names_where test 0 (names_in (w ∷ []) (m.taken v.ends.input.queue.0))) ≡ times b (names_of (offset_window s) (leases_for s.size c.mac came))
        due_is = ap (λ l. times b (names_where test 0 (names_in (w ∷ []) l))) came_is ∙ (ap (λ (x : Window). times b (names_where test 0 (names_in (x ∷ []) (items_of came)))) (sym window_is) ∙ ap (times b) (sym (leases_names s some c.mac (frame_at scene.frames) 0 came within takes.net frames_at)))
          where
            within : All (IsBuffer s) came
            within = subst (All (IsBuffer s)) (turn_is v.ends.input.queue.0) row.within

        by : ((eqb s.pool.0 b.pool ≡ true) × (s.pool.0 ≡ b.pool)) ⊎ ((eqb s.pool.0 b.pool ≡ false) × (s.pool.0 ≢ b.pool)) → (b.no < s.buffers) ⊎ (s.buffers ≤ b.no) → times b (names_where test 0 (names_in (w ∷ []) (m.taken v.ends.input.queue.0))) ≤ times b (names_in (o ∷ []) (m.taken c.free)) + 1
        by (inl h) (inl lt) =
            let one = times_named (offset_window s) b some h.1 lt (leases_for s.size c.mac came) (leases_net s.size c.mac came) in
            let two = times_named (offset_window s) b some h.1 lt (passed.taken c.free) (subst (λ n. AreNet (passed.taken n)) own.6 (takes.back_net k own.1 own.4)) in
            let three : times b (names_in (o ∷ []) (m.taken c.free)) ≡ times b (names_of (offset_window s) (passed.taken c.free)) = ap (λ l. times b (names_in (o ∷ []) l)) back_is ∙ ap (λ (x : Window). times b (names_in (x ∷ []) (items_of (passed.taken c.free)))) (sym offset_is) in
            omega (arith, due_is, one, two, three, served.single b.no lt)
        by (inl h) (inr le) = omega (arith, due_is, times_outside (offset_window s) b (λ both. omega (arith, both.1, le)) (leases_for s.size c.mac came) (leases_net s.size c.mac came))
        by (inr h) e = omega (arith, due_is, times_outside (offset_window s) b (λ both. h.1 both.0) (leases_for s.size c.mac came) (leases_net s.size c.mac came))

  pub receiver_row : (net_sheet scene (receiver_part v)).row m
  receiver_row = record {
    sized = row.is_start.are_pool.some;
    within = subst (AreIn w) (sym came_is) (buffers_in came came_within takes.net);
    lends = lends_items;
    prompt = prompt_items;
    gives = subst (AreIn w) (sym gave_is) (buffers_in gave gave_within takes.given_net);
    rising = λ k item lt at. rises k item lt (ap (λ l. slice_get l k) (sym gave_is) ∙ at);
    in_hand = lender_row.in_hand;
    single = single_items;
  }
