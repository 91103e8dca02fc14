use Rattle.std.proofs.Common.{◌≡◌, ◌+◌, ◌++◌, ◌==◌, ◌<◌, ◌&&◌, ◌||◌, ℕ, suc, Bool, true, false, not, nat_lt, Option, Some, None, is_some, is_none, List, [], ◌∷◌, All, length, map, flat_map, slice_get, slice_index_or, length-append, refl, sym, ap, ◌∙◌, subst, arith}
use Rattle.std.specs.Option.{option_to_list}
use Rattle.std.proofs.lemmas.List.{append-nil, length-map}
use Rattle.cargo_core.specs.Loans.{receivers_at}
use Rattle.frame_core.specs.declared.mac.Mac.{Mac}
use Rattle.wire_core.specs.declared.names.Entry.{Entry}
use Rattle.wire_core.specs.declared.names.QueueId.{QueueId}
use Rattle.wire_core.specs.Bells.{bit}
use Rattle.wire_core.specs.Deeds.{Cargo}
use Rattle.wire_core.specs.Ends.{Consumer, Producer}
use Rattle.wire_core.specs.Lists.{Passed, if_there}
use Rattle.wire_core.specs.Journal.{History}
use Rattle.wire_core.specs.Queues.{Queue, items_of, end_at}
use Rattle.turn_kit.specs.Table.{Agrees, is_settled}
use Rattle.turn_kit.specs.Turns.{settled_all, is_at_rest}
use Rattle.turn_kit.specs.Posts.{intake_post, outlet_post}
use Rattle.turn_kit.specs.ManyEnds.{intake_posts, outlet_posts, needs_from}
use Rattle.turn_kit.specs.declared.ends.Intake.{Intake}
use Rattle.turn_kit.specs.declared.ends.Outlet.{Outlet}
use Rattle.play_core.specs.Moved.{Moved}
use Rattle.play_core.specs.Wants.{intake_want, outlet_want, all_settled}
use Rattle.play_core.specs.Sheets.{Scene}
use Rattle.owner_law.specs.Things.{Window, names_in, times}
use Rattle.owner_law.proofs.Counting.{below_plus, below_same}
use Rattle.class_expect.specs.NetExpect.Expecting.{is_for_client}
use Rattle.buffer_kit.specs.Entries.{frame_of}
use Rattle.buffer_kit.specs.Stocks.{stock_list}
use Rattle.buffer_kit.specs.Virtualising.{from_queues, to_queues}
use Rattle.buffer_kit.specs.declared.stock.Stock.{Stock}
use Rattle.buffer_kit.proofs.TwoLists.{settled_append}
use Rattle.net_virt_rx.specs.Receiving.{FitsRx, RxStandsFor, rx_round, queue_at}
use Rattle.net_virt_rx.specs.Sharing.{ClientStands, IsBuffer, named, leases_for, owed_to, owed_lease, is_idle, is_owing, is_out}
use Rattle.net_virt_rx.specs.declared.NetVirtRx.{NetVirtRx}
use Rattle.net_virt_rx.proofs.Rounds.{row_of}
use Rattle.net_virt_rx.proofs.Steps.{queue_is}
use Rattle.owner_law.specs.Pools.Places.{PoolAt, by_address, by_offset}
use Rattle.net_law.specs.Owners.Ends.{stock_window}
use Rattle.net_law.specs.Owners.Lending.{Borrower, Lender, leases_due, leases_back, names_where}
use Rattle.net_law.specs.RxOwners.Virtualiser.{offset_window, AreNet}
use Rattle.net_law.proofs.RxOwners.Receivers.{leases_net}
use Rattle.net_law.proofs.RxOwners.Virtualisers.{times_named, leases_names}
use Rattle.net_law.specs.Parts.Parts.{Lessee}
use Rattle.net_law.specs.Parts.Rows.{frame_at, leases_from, borrower_of, lender_of, is_lent}
use Rattle.net_law.specs.Parts.Table.{net_sheet, is_short, frees_due, leases_of, is_busy, lessee_wants}
use Rattle.net_law.specs.Parts.Playing.{receiver_part, stock_pool, lessees, lessees_of, ReceivesInTurn}
use Rattle.net_law.proofs.PartsLemmas.Items.{all_at}
use Rattle.net_law.proofs.PartsLemmas.Leasing.{Served, served_at, leases_items}
use Rattle.net_law.proofs.PartsLemmas.Counting.{numbered, below_more, below_rest}
use Rattle.play_core.specs.Rests.Showing.{HaveItems, HaveBells}
use Rattle.play_core.proofs.RestsLemmas.Settling.{both, settled_here, took, put, bit_is}
use Rattle.net_law.proofs.RestsLemmas.Plain.{next_left}
use Rattle.net_law.proofs.RestsLemmas.Counting.{less_is, named_total, out_sum, owed_some, lessees_long, there_one}

none_of : (o : Option Cargo) → option_to_list o ≡ [] → o ≡ None
none_of None e = refl
none_of (Some x) e = cc

empty : (b : Bool) → if_there b [] ≡ []
empty true = refl
empty false = refl

plus : (j : ℕ) → j ≡ 0 + j
plus j = omega arith

-- what a receiving virtualiser needs and owes is what its sheet says of its items
module _ (scene : Scene) (passed : Passed) (m : Moved) (h : HaveItems passed m) (v : NetVirtRx) (turn : ReceivesInTurn scene.frames v passed) (from_each : length (from_queues v.ends) ≡ length v.work.macs.items) (to_each : length (to_queues v.ends) ≡ length v.work.macs.items) (st : RxStandsFor v passed) where
  abbrev s : Stock
  s = v.work.stock

  abbrev pool : PoolAt
  pool = stock_pool s

  abbrev w : Window
  w = by_address pool

  abbrev o : Window
  o = by_offset pool

  abbrev input : ℕ
  input = v.ends.input.queue.0

  abbrev output : ℕ
  output = v.ends.output.queue.0

  abbrev came : List Cargo
  came = passed.taken input

  abbrev gave : List Cargo
  gave = passed.sent output

  abbrev l : Lender
  l = lender_of scene.frames input output pool (lessees_of v)

  stray_none : v.work.stray ≡ None
  stray_none = none_of v.work.stray (sym (row_of v passed st).strayed ∙ turn.in_turn (row_of v passed st))

  turn_is : (n : ℕ) → st.turn n ≡ passed.taken n
  turn_is n = sym (st.taken n ∙ (ap (λ x. st.turn n ++ if_there (st.place == n) (option_to_list x)) stray_none ∙ (ap (λ x. st.turn n ++ x) (empty (st.place == n)) ∙ append-nil (st.turn n))))

  some : 0 < s.size
  some = st.is_start.are_pool.some

  came_within : All (IsBuffer s) came
  came_within = subst (All (IsBuffer s)) (turn_is input) st.stands.within

  frames_at : (k : ℕ) (c : Cargo) → slice_get came k ≡ Some c → frame_of c ≡ frame_at scene.frames (0 + k)
  frames_at k c at = turn.takes.frames k c at ∙ ap (frame_at scene.frames) (plus k)

  window_is : stock_window s ≡ w
  window_is = refl

  offset_is : offset_window s ≡ o
  offset_is = refl

  -- of one client
  module _ (k : ℕ) (c : Lessee) (at : slice_get (lessees_of v) k ≡ Some c) where
    own : Served v.work.macs.items (to_queues v.ends) (from_queues v.ends) k c
    own = served_at v.work.macs.items (to_queues v.ends) (from_queues v.ends) k c at

    stands : ClientStands v.work k c.mac came st.stands.earlier (passed.sent c.active) (passed.taken c.free)
    stands =
        let a = st.stands.clients k c.mac own.2 in
        let b = subst (λ x. ClientStands v.work k c.mac x st.stands.earlier (passed.sent (queue_at (to_queues v.ends) k)) (st.turn (queue_at (from_queues v.ends) k))) (turn_is input) a in
        let d = subst (λ n. ClientStands v.work k c.mac came st.stands.earlier (passed.sent n) (st.turn (queue_at (from_queues v.ends) k))) (queue_is (to_queues v.ends) k own.0 own.3 ∙ own.5) b in
        let e = subst (λ n. ClientStands v.work k c.mac came st.stands.earlier (passed.sent c.active) (st.turn n)) (queue_is (from_queues v.ends) k own.1 own.4 ∙ own.6) d in
        subst (ClientStands v.work k c.mac came st.stands.earlier (passed.sent c.active)) (turn_is c.free) e

    -- a lease is owed to it where fewer went than are due
    owed_is : slice_index_or v.work.owed k false ≡ is_short (m.sent c.active) (leases_of scene.frames pool input m c)
    owed_is =
        let due : items_of (leases_for s.size c.mac came) ≡ leases_from scene.frames s.base c.mac 0 (m.taken input) = leases_items s scene.frames c.mac 0 came (λ j d is. all_at (IsBuffer s) came came_within j d is) frames_at ∙ ap (leases_from scene.frames s.base c.mac 0) (h.taken input) in
        let long = sym (length-map (leases_for s.size c.mac came) (λ (x : Cargo). x.0)) ∙ ap (λ x. length x) due in
        let all = ap (λ x. length x) stands.lends in
        let parts = length-append (passed.sent c.active) (owed_to v.work k) in
        let one = there_one (slice_index_or v.work.owed k false) (owed_lease v.work) in
        bit_is (slice_index_or v.work.owed k false) (length (m.sent c.active)) (length (leases_of scene.frames pool input m c)) (omega (arith, long, all, parts, one, put passed m h c.active))

    module _ (b : ℕ) (lt : b < s.buffers) where
      due_named : times (numbered s.pool.0 b) (names_where (λ n. is_for_client c.mac (frame_at scene.frames n)) 0 (names_in (w ∷ []) (m.taken input))) ≡ named 0 s.size b (leases_for s.size c.mac came)
      due_named =
          let test : ℕ → Bool = λ n. is_for_client c.mac (frame_at scene.frames n) in
          ap (λ x. times (numbered s.pool.0 b) (names_where test 0 (names_in (w ∷ []) x))) (sym (h.taken input))
          ∙ (ap (λ (x : Window). times (numbered s.pool.0 b) (names_where test 0 (names_in (x ∷ []) (items_of came)))) (sym window_is)
          ∙ (ap (times (numbered s.pool.0 b)) (sym (leases_names s some c.mac (frame_at scene.frames) 0 came came_within turn.takes.net frames_at))
          ∙ times_named (offset_window s) (numbered s.pool.0 b) some refl lt (leases_for s.size c.mac came) (leases_net s.size c.mac came)))

      back_named : times (numbered s.pool.0 b) (names_in (o ∷ []) (m.taken c.free)) ≡ named 0 s.size b (passed.taken c.free)
      back_named =
          ap (λ x. times (numbered s.pool.0 b) (names_in (o ∷ []) x)) (sym (h.taken c.free))
          ∙ (ap (λ (x : Window). times (numbered s.pool.0 b) (names_in (x ∷ []) (items_of (passed.taken c.free)))) (sym offset_is)
          ∙ times_named (offset_window s) (numbered s.pool.0 b) some refl lt (passed.taken c.free) (subst (λ n. AreNet (passed.taken n)) own.6 (turn.takes.back_net k own.1 own.4)))

      out_is : times (numbered s.pool.0 b) (names_in (o ∷ []) (m.taken c.free)) + bit (is_out v.work b k) ≡ times (numbered s.pool.0 b) (names_where (λ n. is_for_client c.mac (frame_at scene.frames n)) 0 (names_in (w ∷ []) (m.taken input)))
      out_is = ap (λ n. n + bit (is_out v.work b k)) back_named ∙ (stands.backs b lt ∙ sym due_named)

  clients_long : length (lessees_of v) ≡ length v.work.macs.items
  clients_long = lessees_long v.work.macs.items (to_queues v.ends) (from_queues v.ends) to_each from_each

  -- a buffer is lent where it has receivers
  lent_is : (b : ℕ) → b < s.buffers → is_lent pool l m (numbered s.pool.0 b) ≡ nat_lt 0 (receivers_at v.work.lent b)
  lent_is b lt =
      let outs : List Bool = slice_index_or v.work.out.items b [] in
      let sum = out_sum (borrower_of scene.frames) (λ (c : Borrower). times (numbered s.pool.0 b) (names_in (o ∷ []) (m.taken c.free))) (λ (c : Borrower). times (numbered s.pool.0 b) (names_where c.is_for 0 (names_in (w ∷ []) (m.taken input)))) (lessees_of v) outs (clients_long ∙ sym (st.work.outs_long b lt)) (λ k c at. out_is k c at b lt) in
      less_is (leases_back (o ∷ []) l m (numbered s.pool.0 b)) (receivers_at v.work.lent b) (leases_due (w ∷ []) l m (numbered s.pool.0 b)) (sym sum ∙ ap (λ n. leases_back (o ∷ []) l m (numbered s.pool.0 b) + n) (st.work.counts b lt))

  -- as many buffers are still to be given as are due and weren't put
  due_is : length (m.sent output) + length (stock_list s) ≡ frees_due pool l m
  due_is =
      let lent : ℕ → Bool = λ b. nat_lt 0 (receivers_at v.work.lent b) in
      let home = below_same (λ b. bit (not (is_lent pool l m (numbered s.pool.0 b)))) (λ b. bit (not (lent b))) s.buffers (λ b lt. ap (λ t. bit (not t)) (lent_is b lt)) in
      let all = named_total s (gave ++ stock_list s) some st.stands.given_within in
      let come = named_total s (st.turn input) some st.stands.within in
      let both_sides = below_same (λ b. named s.base s.size b (gave ++ stock_list s) + bit (lent b)) (λ b. 1 + named s.base s.size b (st.turn input)) s.buffers (λ b lt. let e = st.stands.counts b lt in omega (arith, e)) in
      let left = below_plus (λ b. named s.base s.size b (gave ++ stock_list s)) (λ b. bit (lent b)) s.buffers in
      let right = below_more (λ b. named s.base s.size b (st.turn input)) s.buffers in
      let rest = below_rest lent s.buffers in
      let parts = length-append gave (stock_list s) in
      let same = ap (λ x. length x) (turn_is input) in
      omega (arith, home, all, come, both_sides, left, right, rest, parts, same, took passed m h input, put passed m h output)

  next_is : is_some s.next ≡ nat_lt (length (m.sent output)) (frees_due pool l m)
  next_is = next_left s st.work.stock ∙ sym (less_is (length (m.sent output)) (length (stock_list s)) (frees_due pool l m) (sym due_is))

  busy_is : is_busy scene.frames input output pool (lessees_of v) m ≡ (is_owing v.work || is_some s.next)
  busy_is =
      let some_is = owed_some scene.frames pool input m (lessees_of v) v.work.owed (clients_long ∙ sym st.work.owed_long) (λ k c at. owed_is k c at) in
      ap (λ t. t || nat_lt (length (m.sent output)) (frees_due pool l m)) some_is ∙ ap (λ t. is_owing v.work || t) (sym next_is)

  idle_is : is_idle v.work ≡ not (is_busy scene.frames input output pool (lessees_of v) m)
  idle_is = ap (λ x. is_none s.next && (is_none x && not (is_owing v.work))) stray_none ∙ (by s.next (is_owing v.work) ∙ sym (ap not busy_is))
    where
      by : (x : Option Cargo) (t : Bool) → (is_none x && (true && not t)) ≡ not (t || is_some x)
      by None true = refl
      by None false = refl
      by (Some x) true = refl
      by (Some x) false = refl

pub needs_long : {X : Type 0} (need : ℕ → Bool) (c : ℕ) (queue : X → QueueId) (xs : List X) → length (needs_from need c (map queue xs)) ≡ length xs
needs_long need c queue [] = refl
needs_long need c queue (x ∷ xs) = ap suc (needs_long need (c + 1) queue xs)

shuffle : (a x b y : Bool) → ((a && x) && (b && y)) ≡ (b && (a && (x && y)))
shuffle true true true y = refl
shuffle true true false y = refl
shuffle true false true y = refl
shuffle true false false y = refl
shuffle false x true y = refl
shuffle false x false y = refl

pub index_moves : (c k : ℕ) → c + suc k ≡ (c + 1) + k
index_moves c k = omega arith

module _ (history : History) (journal : List Entry) (world : List Queue) (bells : HaveBells world history journal) where
  -- the ends at all clients are settled where those are that are wanted
  clients_settle : (frames : List (List ℕ)) (pool : PoolAt) (active : ℕ) (busy idle : Bool) (m : Moved) → idle ≡ not busy → (loads : ℕ → Bool) (c : ℕ) (macs : List Mac) (is : List Intake) (os : List Outlet) → length is ≡ length macs → length os ≡ length macs → ((k : ℕ) (i : Intake) → slice_get is k ≡ Some i → Agrees (end_at world Consumer i.queue.0) i.state) → ((k : ℕ) (x : Outlet) → slice_get os k ≡ Some x → Agrees (end_at world Producer x.queue.0) x.state) → ((k : ℕ) (x : Lessee) → slice_get (lessees macs (map (λ (y : Outlet). y.queue) os) (map (λ (i : Intake). i.queue) is)) k ≡ Some x → loads (c + k) ≡ is_short (m.sent x.active) (leases_of frames pool active m x))
      → (settled_all (map intake_post is) (needs_from (λ k. idle) c (map (λ (i : Intake). i.queue) is)) && settled_all (map outlet_post os) (needs_from loads c (map (λ (y : Outlet). y.queue) os))) ≡ all_settled history journal (flat_map (lessee_wants frames pool active busy m) (lessees macs (map (λ (y : Outlet). y.queue) os) (map (λ (i : Intake). i.queue) is)))
  clients_settle frames pool active busy idle m same loads c [] [] [] a b ins outs each = refl
  clients_settle frames pool active busy idle m same loads c [] (i ∷ is) os a b ins outs each = absurd (omega (arith, a))
  clients_settle frames pool active busy idle m same loads c [] [] (x ∷ os) a b ins outs each = absurd (omega (arith, b))
  clients_settle frames pool active busy idle m same loads c (mac ∷ macs) [] os a b ins outs each = absurd (omega (arith, a))
  clients_settle frames pool active busy idle m same loads c (mac ∷ macs) (i ∷ is) [] a b ins outs each = absurd (omega (arith, b))
  clients_settle frames pool active busy idle m same loads c (mac ∷ macs) (i ∷ is) (x ∷ os) a b ins outs each =
      let client : Lessee = record { active = x.queue.0; free = i.queue.0; mac = mac } in
      let z : c + 0 ≡ c = omega arith in
      let owed : loads c ≡ is_short (m.sent client.active) (leases_of frames pool active m client) = ap loads (sym z) ∙ each 0 client refl in
      let back = settled_here history journal world bells (intake_post i) idle (intake_want i.queue.0 (not busy)) (record { needs = same; agrees = ins 0 i refl }) in
      let lent = settled_here history journal world bells (outlet_post x) (loads c) (outlet_want x.queue.0 (is_short (m.sent client.active) (leases_of frames pool active m client))) (record { needs = owed; agrees = outs 0 x refl }) in
      let rest = clients_settle frames pool active busy idle m same loads (c + 1) macs is os (omega (arith, a)) (omega (arith, b)) (λ k y at. ins (suc k) y at) (λ k y at. outs (suc k) y at) (λ k y at. ap loads (sym (index_moves c k)) ∙ each (suc k) y at) in
      shuffle (is_settled i.state idle) (settled_all (map intake_post is) (needs_from (λ k. idle) (c + 1) (map (λ (j : Intake). j.queue) is))) (is_settled x.state (loads c)) (settled_all (map outlet_post os) (needs_from loads (c + 1) (map (λ (y : Outlet). y.queue) os))) ∙ both lent (both back rest)

  -- a receiving virtualiser is at rest where its sheet's wants are settled
  pub receiver_rests : (scene : Scene) (v : NetVirtRx) (passed : Passed) (m : Moved) → HaveItems passed m → ReceivesInTurn scene.frames v passed → FitsRx (end_at world) v → RxStandsFor v passed → is_at_rest (rx_round v) ≡ all_settled history journal ((net_sheet scene (receiver_part v)).wants m)
  receiver_rests scene v passed m h turn f st =
      let idle = idle_is scene passed m h v turn f.from_each f.to_each st in
      let next = next_is scene passed m h v turn f.from_each f.to_each st in
      let busy : Bool = is_busy scene.frames v.ends.input.queue.0 v.ends.output.queue.0 (stock_pool v.work.stock) (lessees_of v) m in
      let loads : ℕ → Bool = λ k. slice_index_or v.work.owed k false in
      let is : List Intake = v.ends.from_clients.ends.items in
      let os : List Outlet = v.ends.to_clients.ends.items in
      let froms : length is ≡ length v.work.macs.items = sym (length-map is (λ (i : Intake). i.queue)) ∙ f.from_each in
      let tos : length os ≡ length v.work.macs.items = sym (length-map os (λ (x : Outlet). x.queue)) ∙ f.to_each in
      let clients = clients_settle scene.frames (stock_pool v.work.stock) v.ends.input.queue.0 busy (is_idle v.work) m idle loads 0 v.work.macs.items is os froms tos f.ends_fit.from_clients.agrees f.ends_fit.to_clients.agrees (λ k x at. ap loads (sym (plus k)) ∙ owed_is scene passed m h v turn f.from_each f.to_each st k x at) in
      let long = needs_long (λ k. is_idle v.work) 0 (λ (i : Intake). i.queue) is ∙ sym (length-map is intake_post) in
      both (settled_here history journal world bells (intake_post v.ends.input) (is_idle v.work) (intake_want v.ends.input.queue.0 (not busy)) (record { needs = idle; agrees = f.ends_fit.input }))
      (both (settled_here history journal world bells (outlet_post v.ends.output) (is_some v.work.stock.next) (outlet_want v.ends.output.queue.0 (nat_lt (length (m.sent v.ends.output.queue.0)) (frees_due (stock_pool v.work.stock) (lender_of scene.frames v.ends.input.queue.0 v.ends.output.queue.0 (stock_pool v.work.stock) (lessees_of v)) m))) (record { needs = next; agrees = f.ends_fit.output }))
      (settled_append (intake_posts v.ends.from_clients) (outlet_posts v.ends.to_clients) (needs_from (λ k. is_idle v.work) 0 (from_queues v.ends)) (needs_from loads 0 (to_queues v.ends)) long ∙ clients))
