use Rattle.std.proofs.Common.{◌≡◌, ◌≢◌, ◌⊎◌, ◌==◌, ◌+◌, ◌≤◌, ℕ, zero, suc, Bool, true, false, cond, nat_lt, Option, None, Some, List, [], ◌∷◌, ◌++◌, length, map, flat_map, slice_get, refl, sym, ap, ◌∙◌, subst, arith, lt-ltb, inl, inr}
use Rattle.std.proofs.Math.Dec.{eqb}
use Rattle.std.proofs.lemmas.Bool.Decides.{eqb_tells}
use Rattle.cargo_core.specs.declared.item.PoolId.{PoolId}
use Rattle.cargo_core.specs.declared.item.Body.TheVariants as Carried
use Rattle.cargo_core.specs.Bodies.{buffers_of, buffers_in}
use Rattle.cargo_core.specs.Loans.{Loan, receivers_at}
use Rattle.cargo_core.specs.Pages.{Paged}
use Rattle.frame_core.specs.declared.mac.Mac.{Mac}
use Rattle.wire_core.specs.declared.names.QueueId.{QueueId}
use Rattle.wire_core.specs.Bells.{bit}
use Rattle.wire_core.specs.Lists.{Passed}
use Rattle.wire_core.specs.Marks.{sum_below}
use Rattle.turn_kit.specs.Hands.{bodies_of, bodies_at}
use Rattle.turn_kit.proofs.Holding.{buffers-cons}
use Rattle.play_core.specs.Moved.{Moved, Seat}
use Rattle.play_core.specs.Sheets.{Scene}
use Rattle.play_core.specs.Wants.{intake, outlet}
use Rattle.owner_law.specs.Things.{Naming, Window}
use Rattle.owner_law.specs.Keeping.{is_out, all_taken}
use Rattle.owner_law.proofs.Counting.{below_same, below_none}
use Rattle.buffer_kit.specs.Pools.{page_bodies}
use Rattle.buffer_kit.specs.Virtualising.{from_queues, to_queues}
use Rattle.buffer_kit.specs.declared.stock.Stock.{Stock}
use Rattle.net_virt_rx.specs.Sharing.{lent_many, lent_bodies, sharer_hand}
use Rattle.net_virt_rx.specs.Receiving.{RxStandsFor}
use Rattle.net_virt_rx.specs.declared.NetVirtRx.{NetVirtRx}
use Rattle.owner_law.specs.Pools.Places.{by_address, by_offset, numbers_from}
use Rattle.net_law.specs.Owners.Ends.{AreItemsOf, stock_window}
use Rattle.net_law.specs.Owners.Lending.{Lender, lender_ends, LenderNames}
use Rattle.net_law.specs.RxOwners.Virtualiser.{rx_lender, offset_window, TakesFrames, lent_now}
use Rattle.net_law.proofs.RxOwners.Lending.{rx_out}
use Rattle.net_law.specs.Parts.Naming.{NamesPart}
use Rattle.net_law.specs.Parts.Playing.{receiver_part, stock_pool, lessees, lessees_of}
use Rattle.net_law.specs.Parts.Rows.{lender_of, frame_at}
use Rattle.net_law.specs.Parts.Table.{net_sheet, lessee_ends}
use Rattle.net_law.proofs.PartsLemmas.Leasing.{borrowers_are, ends_are}
use Rattle.owner_law.specs.Pools.Lines.{HoldsIts, came, went, lent_by}
use Rattle.net_quiet.specs.Pools.Holders.{holder_of, rx_lent}

pub numbers_many : (first count : ℕ) → length (numbers_from first count) ≡ count
numbers_many first zero = refl
numbers_many first (suc count) = ap suc (numbers_many (first + 1) count)

-- pages of one pool
pub pages_many : (pool own : PoolId) (pages : List Paged) → ((k : ℕ) (p : Paged) → slice_get pages k ≡ Some p → p.pool ≡ own) → buffers_of pool (page_bodies pages) ≡ cond (own.0 == pool.0) (length pages) 0
pages_many pool own [] same = by (own.0 == pool.0)
  where
    by : (t : Bool) → 0 ≡ cond {A = ℕ} t 0 0
    by true = refl
    by false = refl
pages_many pool own (p ∷ pages) same =
    let head : buffers_in pool (Carried.Page p) ≡ cond (own.0 == pool.0) 1 0 = ap (λ (x : PoolId). cond {A = ℕ} (x.0 == pool.0) 1 0) (same 0 p refl) in
    by (own.0 == pool.0) (buffers-cons pool (Carried.Page p) (page_bodies pages)) head (pages_many pool own pages (λ k q at. same (suc k) q at))
  where
    by : (t : Bool) → buffers_of pool (page_bodies (p ∷ pages)) ≡ buffers_in pool (Carried.Page p) + buffers_of pool (page_bodies pages) → buffers_in pool (Carried.Page p) ≡ cond {A = ℕ} t 1 0 → buffers_of pool (page_bodies pages) ≡ cond {A = ℕ} t (length pages) 0 → buffers_of pool (page_bodies (p ∷ pages)) ≡ cond {A = ℕ} t (length (p ∷ pages)) 0
    by true parts head rest = omega (arith, parts, head, rest)
    by false parts head rest = omega (arith, parts, head, rest)

-- the buffers of a pool that one has at the start
pub hand_many : (own : PoolId) (buffers : ℕ) (pool : PoolId) → length (cond (own.0 == pool.0) (numbers_from 0 buffers) []) ≡ cond (own.0 == pool.0) buffers 0
hand_many own buffers pool = by (own.0 == pool.0)
  where
    by : (t : Bool) → length (cond t (numbers_from 0 buffers) []) ≡ cond t buffers 0
    by true = numbers_many 0 buffers
    by false = refl

-- loans, each of a page of the pool to someone
lent_below : (n : ℕ) (lent : List (Option Loan)) → lent_many n lent ≡ sum_below (λ k. bit (nat_lt 0 (receivers_at lent k))) n
lent_below zero lent = refl
lent_below (suc n) lent = ap (λ x. x + bit (nat_lt 0 (receivers_at lent n))) (lent_below n lent)

below_first : (f : ℕ → ℕ) (k : ℕ) → sum_below f (suc k) ≡ f 0 + sum_below (λ n. f (suc n)) k
below_first f zero = omega arith
below_first f (suc k) = omega (arith, below_first f k)

lent_first : (o : Option Loan) (lent : List (Option Loan)) → lent_many (length (o ∷ lent)) (o ∷ lent) ≡ bit (nat_lt 0 (receivers_at (o ∷ lent) 0)) + lent_many (length lent) lent
lent_first o lent = lent_below (suc (length lent)) (o ∷ lent) ∙ (below_first (λ k. bit (nat_lt 0 (receivers_at (o ∷ lent) k))) (length lent) ∙ ap (λ n. bit (nat_lt 0 (receivers_at (o ∷ lent) 0)) + n) (sym (lent_below (length lent) lent)))

pub loans_many : (pool own : PoolId) (lent : List (Option Loan)) → ((b : ℕ) (loan : Loan) → slice_get lent b ≡ Some (Some loan) → (loan.0.pool ≡ own) × (1 ≤ loan.1)) → buffers_of pool (lent_bodies lent) ≡ cond (own.0 == pool.0) (lent_many (length lent) lent) 0
loans_many pool own [] each = by (own.0 == pool.0)
  where
    by : (t : Bool) → 0 ≡ cond {A = ℕ} t 0 0
    by true = refl
    by false = refl
loans_many pool own (None ∷ lent) each =
    let skip : lent_many (length lent) lent ≡ lent_many (length (None ∷ lent)) (None ∷ lent) = omega (arith, lent_first None lent) in
    loans_many pool own lent (λ b loan at. each (suc b) loan at) ∙ ap (λ n. cond {A = ℕ} (own.0 == pool.0) n 0) skip
loans_many pool own (Some loan ∷ lent) each =
    let is = each 0 loan refl in
    let one : bit (nat_lt 0 loan.1) ≡ 1 = ap bit (lt-ltb 0 loan.1 (omega (arith, is.1))) in
    let head : buffers_in pool (Carried.Page loan.0) ≡ cond (own.0 == pool.0) 1 0 = ap (λ (x : PoolId). cond {A = ℕ} (x.0 == pool.0) 1 0) is.0 in
    by (own.0 == pool.0) (buffers-cons pool (Carried.Page loan.0) (lent_bodies lent)) head (loans_many pool own lent (λ b x at. each (suc b) x at)) (lent_first (Some loan) lent) one
  where
    by : (t : Bool) → buffers_of pool (lent_bodies (Some loan ∷ lent)) ≡ buffers_in pool (Carried.Page loan.0) + buffers_of pool (lent_bodies lent) → buffers_in pool (Carried.Page loan.0) ≡ cond {A = ℕ} t 1 0 → buffers_of pool (lent_bodies lent) ≡ cond {A = ℕ} t (lent_many (length lent) lent) 0 → lent_many (length (Some loan ∷ lent)) (Some loan ∷ lent) ≡ bit (nat_lt 0 loan.1) + lent_many (length lent) lent → bit (nat_lt 0 loan.1) ≡ 1 → buffers_of pool (lent_bodies (Some loan ∷ lent)) ≡ cond {A = ℕ} t (lent_many (length (Some loan ∷ lent)) (Some loan ∷ lent)) 0
    by true parts head rest first one = omega (arith, parts, head, rest, first, one)
    by false parts head rest first one = omega (arith, parts, head, rest)

-- what came from all clients, and went to them
pub lessees_came : (passed : Passed) (macs : List Mac) (to from : List QueueId) → length to ≡ length macs → length from ≡ length macs → came passed (flat_map lessee_ends (lessees macs to from)) ≡ bodies_at passed.taken (map (λ (q : QueueId). q.0) from)
lessees_came passed [] to [] t f = refl
lessees_came passed [] to (r ∷ from) t f = absurd (omega (arith, f))
lessees_came passed (mac ∷ macs) [] from t f = absurd (omega (arith, t))
lessees_came passed (mac ∷ macs) (q ∷ to) [] t f = absurd (omega (arith, f))
lessees_came passed (mac ∷ macs) (q ∷ to) (r ∷ from) t f = ap (λ xs. bodies_of (passed.taken r.0) ++ xs) (lessees_came passed macs to from (omega (arith, t)) (omega (arith, f)))

pub lessees_went : (passed : Passed) (macs : List Mac) (to from : List QueueId) → length to ≡ length macs → length from ≡ length macs → went passed (flat_map lessee_ends (lessees macs to from)) ≡ bodies_at passed.sent (map (λ (q : QueueId). q.0) to)
lessees_went passed [] [] from t f = refl
lessees_went passed [] (q ∷ to) from t f = absurd (omega (arith, t))
lessees_went passed (mac ∷ macs) [] from t f = absurd (omega (arith, t))
lessees_went passed (mac ∷ macs) (q ∷ to) [] t f = absurd (omega (arith, f))
lessees_went passed (mac ∷ macs) (q ∷ to) (r ∷ from) t f = ap (λ xs. bodies_of (passed.sent q.0) ++ xs) (lessees_went passed macs to from (omega (arith, t)) (omega (arith, f)))

module _ (naming : Naming) (sizes : ℕ → ℕ) (scene : Scene) (v : NetVirtRx) (passed : Passed) (m : Moved) (names : NamesPart naming scene (receiver_part v)) (items : AreItemsOf (net_sheet scene (receiver_part v)).ends passed m) (takes : TakesFrames (frame_at scene.frames) v passed) (x : RxStandsFor v passed) (none : v.work.stray ≡ None) (to_each : length (to_queues v.ends) ≡ length v.work.macs.items) (from_each : length (from_queues v.ends) ≡ length v.work.macs.items) (sized : sizes v.work.stock.pool.0 ≡ v.work.stock.buffers) where
  abbrev s : Stock
  s = v.work.stock

  abbrev frame : ℕ → List ℕ
  frame = frame_at scene.frames

  abbrev ends : List Seat
  ends = (net_sheet scene (receiver_part v)).ends

  window_is : by_address (stock_pool s) ≡ stock_window s
  window_is = refl

  offset_is : by_offset (stock_pool s) ≡ offset_window s
  offset_is = refl

  lender_is : lender_of scene.frames v.ends.input.queue.0 v.ends.output.queue.0 (stock_pool s) (lessees_of v) ≡ rx_lender frame v
  lender_is = ap (λ cs. let y : Lender = record { frames = v.ends.input.queue.0; free = v.ends.output.queue.0; clients = cs; hand = Rattle.owner_law.specs.Pools.Places.pool_hand (stock_pool s) } in y) (sym (borrowers_are scene.frames v.work.macs.items (to_queues v.ends) (from_queues v.ends)))

  all_ends : ends ≡ lender_ends (rx_lender frame v)
  all_ends = sym (ap (λ l. intake v.ends.input.queue.0 ∷ outlet v.ends.output.queue.0 ∷ l) (ends_are scene.frames (lessees_of v))) ∙ ap lender_ends lender_is

  lender_names : LenderNames naming (stock_window s ∷ []) (offset_window s ∷ []) (rx_lender frame v)
  lender_names =
      subst (λ l. LenderNames naming (stock_window s ∷ []) (offset_window s ∷ []) l) lender_is
      (subst (λ (w : Window). LenderNames naming (stock_window s ∷ []) (w ∷ []) (lender_of scene.frames v.ends.input.queue.0 v.ends.output.queue.0 (stock_pool s) (lessees_of v))) offset_is
      (subst (λ (w : Window). LenderNames naming (w ∷ []) (by_offset (stock_pool s) ∷ []) (lender_of scene.frames v.ends.input.queue.0 v.ends.output.queue.0 (stock_pool s) (lessees_of v))) window_is names))

  out_is : (pool i : ℕ) → bit (is_out (record { pool = pool; no = i }) (all_taken naming m ends)) ≡ lent_now v (record { pool = pool; no = i })
  out_is pool i =
      ap (λ ss. bit (is_out (record { pool = pool; no = i }) (all_taken naming m ss))) all_ends
      ∙ rx_out frame v passed m (subst (λ ss. AreItemsOf ss passed m) all_ends items) takes x none to_each from_each naming lender_names (record { pool = pool; no = i })

  lent_is : (pool : ℕ) → rx_lent v pool ≡ lent_by naming m ends pool (sizes pool)
  lent_is pool = by (eqb_tells s.pool.0 pool)
    where
      each : (n : ℕ) → lent_by naming m ends pool n ≡ sum_below (λ i. lent_now v (record { pool = pool; no = i })) n
      each n = below_same (λ i. bit (is_out (record { pool = pool; no = i }) (all_taken naming m ends))) (λ i. lent_now v (record { pool = pool; no = i })) n (λ i lt. out_is pool i)

      by : ((eqb s.pool.0 pool ≡ true) × (s.pool.0 ≡ pool)) ⊎ ((eqb s.pool.0 pool ≡ false) × (s.pool.0 ≢ pool)) → rx_lent v pool ≡ lent_by naming m ends pool (sizes pool)
      by (inl h) =
          let count : sizes pool ≡ s.buffers = ap sizes (sym h.1) ∙ sized in
          let mine : rx_lent v pool ≡ lent_many s.buffers v.work.lent = ap (λ t. cond t (lent_many s.buffers v.work.lent) 0) h.0 in
          let now = below_same (λ i. lent_now v (record { pool = pool; no = i })) (λ i. bit (nat_lt 0 (receivers_at v.work.lent i))) s.buffers (λ i lt. rw (h.0, lt-ltb i s.buffers lt) refl) in
          mine ∙ (lent_below s.buffers v.work.lent ∙ (sym now ∙ (sym (each s.buffers) ∙ ap (lent_by naming m ends pool) (sym count))))
      by (inr h) =
          let mine : rx_lent v pool ≡ 0 = ap (λ t. cond t (lent_many s.buffers v.work.lent) 0) h.0 in
          mine ∙ sym (each (sizes pool) ∙ below_none (λ i. lent_now v (record { pool = pool; no = i })) (sizes pool) (λ i lt. rw h.0 refl))

  balance_is : (pool : PoolId) → length ((net_sheet scene (receiver_part v)).hand pool.0) + buffers_of pool (came passed ends) ≡ buffers_of pool (went passed ends) + (buffers_of pool (sharer_hand v.work) + rx_lent v pool.0)
  balance_is pool =
      let own = x.balances pool in
      let start = pages_many pool s.pool x.start x.is_start.are_pool.same_pool ∙ ap (λ n. cond {A = ℕ} (s.pool.0 == pool.0) n 0) x.is_start.many in
      let hand = hand_many s.pool s.buffers pool in
      let took = ap (λ xs. buffers_of pool (bodies_of (passed.taken v.ends.input.queue.0) ++ xs)) (lessees_came passed v.work.macs.items (to_queues v.ends) (from_queues v.ends) to_each from_each) in
      let gave = ap (λ xs. buffers_of pool (bodies_of (passed.sent v.ends.output.queue.0) ++ xs)) (lessees_went passed v.work.macs.items (to_queues v.ends) (from_queues v.ends) to_each from_each) in
      let loans = loans_many pool s.pool v.work.lent (λ b loan at. ((x.work.loans b loan at).same_pool, (x.work.loans b loan at).some)) ∙ ap (λ n. cond {A = ℕ} (s.pool.0 == pool.0) (lent_many n v.work.lent) 0) x.work.lent_long in
      omega (arith, own, start, hand, took, gave, loans)

  pub receiver_holds : HoldsIts naming sizes m passed (holder_of (net_sheet scene (receiver_part v)) (sharer_hand v.work) (rx_lent v))
  receiver_holds = record { balances = balance_is; lends = lent_is }
