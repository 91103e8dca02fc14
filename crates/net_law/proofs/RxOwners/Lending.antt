use Rattle.std.proofs.Common.{◌≡◌, ◌⊎◌, ◌==◌, ◌+◌, ◌<◌, ◌≤◌, ◌≢◌, ℕ, zero, suc, Bool, true, false, nat_lt, None, Some, List, [], ◌∷◌, ◌++◌, length, slice_get, sum_by, refl, sym, ap, ◌∙◌, subst, arith, lt-ltb, le-ltb, inl, inr}
use Rattle.std.specs.Prelude.{slice_index_or}
use Rattle.std.specs.Option.{option_to_list}
use Rattle.std.proofs.Math.Dec.{eqb}
use Rattle.std.proofs.lemmas.Bool.{cases_lt}
use Rattle.std.proofs.lemmas.Bool.Decides.{eqb_tells}
use Rattle.std.proofs.lemmas.List.{append-nil}
use Rattle.std.proofs.lemmas.List.Sums.{sum_by-cons}
use Rattle.std.proofs.lemmas.Option.{get_or_from_slice_get}
use Rattle.cargo_core.specs.Loans.{receivers_at}
use Rattle.frame_core.specs.declared.mac.Mac.{Mac}
use Rattle.wire_core.specs.declared.names.QueueId.{QueueId}
use Rattle.wire_core.specs.Bells.{bit}
use Rattle.wire_core.specs.Deeds.{Cargo}
use Rattle.wire_core.specs.Lists.{Passed, if_there}
use Rattle.wire_core.specs.Queues.{items_of}
use Rattle.play_core.specs.Moved.{Moved, went}
use Rattle.owner_law.specs.Things.{Buffer, Window, Naming, names_in, times}
use Rattle.owner_law.specs.Keeping.{is_out, all_taken}
use Rattle.class_expect.specs.NetExpect.Expecting.{is_for_client}
use Rattle.buffer_kit.specs.declared.stock.Stock.{Stock}
use Rattle.buffer_kit.specs.Virtualising.{from_queues, to_queues}
use Rattle.net_virt_rx.specs.Sharing.{how_many, named, leases_for, is_out as is_out_to}
use Rattle.net_virt_rx.specs.Receiving.{queue_at, RxStandsFor}
use Rattle.net_virt_rx.specs.declared.NetVirtRx.{NetVirtRx}
use Rattle.net_law.specs.Owners.Ends.{AreItemsOf, passed_at, stock_window}
use Rattle.net_law.specs.Owners.Lending.{Borrower, Lender, lender_ends, LenderNames, names_where, frames_taken, leases_due, leases_back}
use Rattle.net_law.proofs.OwnersLemmas.Lenders.{lender_out}
use Rattle.net_law.specs.RxOwners.Virtualiser.{offset_window, borrowers, rx_lender, TakesFrames, lent_now}
use Rattle.net_law.proofs.RxOwners.Virtualisers.{names_of, times_named, times_outside, leases_names, where_few}
use Rattle.net_law.proofs.RxOwners.Serving.{Client, client_at, same_sums, ends_at}
use Rattle.net_law.proofs.RxOwners.Receivers.{leases_net, no_sum}

-- as many clients as addresses and queues
borrowers_many : (frame : ℕ → List ℕ) (macs : List Mac) (to from : List QueueId) → length to ≡ length macs → length from ≡ length macs → length (borrowers frame macs to from) ≡ length macs
borrowers_many frame [] to from t f = refl
borrowers_many frame (mac ∷ macs) [] from t f = absurd (omega (arith, t))
borrowers_many frame (mac ∷ macs) (q ∷ to) [] t f = absurd (omega (arith, f))
borrowers_many frame (mac ∷ macs) (q ∷ to) (r ∷ from) t f = ap suc (borrowers_many frame macs to from (omega (arith, t)) (omega (arith, f)))

-- two sums over clients that differ where it is marked
sums_marked : (f g : Borrower → ℕ) (cs : List Borrower) (marks : List Bool) → length marks ≡ length cs → ((k : ℕ) (c : Borrower) → slice_get cs k ≡ Some c → f c + bit (slice_index_or marks k false) ≡ g c) → sum_by g cs ≡ sum_by f cs + how_many marks
sums_marked f g [] [] same each = refl
sums_marked f g [] (b ∷ marks) same each = absurd (omega (arith, same))
sums_marked f g (c ∷ cs) [] same each = absurd (omega (arith, same))
sums_marked f g (c ∷ cs) (b ∷ marks) same each = omega (arith, sum_by-cons f c cs, sum_by-cons g c cs, each 0 c refl, sums_marked f g cs marks (omega (arith, same)) (λ k d at. each (suc k) d at))

more_or_not : (r back out : ℕ) → out ≡ back + r → bit (nat_lt back out) ≡ bit (nat_lt 0 r)
more_or_not zero back out same = ap bit (le-ltb back out (omega (arith, same)))
more_or_not (suc r) back out same = ap bit (lt-ltb back out (omega (arith, same)) ∙ sym (lt-ltb 0 (suc r) (omega arith)))

module _ (frame : ℕ → List ℕ) (v : NetVirtRx) (passed : Passed) (m : Moved) (items : AreItemsOf (lender_ends (rx_lender frame v)) passed m) (takes : TakesFrames frame v passed) (x : RxStandsFor v passed) (none : v.work.stray ≡ None) (to_each : length (to_queues v.ends) ≡ length v.work.macs.items) (from_each : length (from_queues v.ends) ≡ length v.work.macs.items) where
  abbrev s : Stock
  s = v.work.stock

  abbrev w : Window
  w = stock_window s

  abbrev o : Window
  o = offset_window s

  abbrev l : Lender
  l = rx_lender frame v

  abbrev came : List Cargo
  came = passed.taken v.ends.input.queue.0

  some : 0 < s.size
  some = x.is_start.are_pool.some

  -- all that it took is in turn
  turn_is : (n : ℕ) → x.turn n ≡ passed.taken n
  turn_is n = sym (x.taken n ∙ (ap (λ c. x.turn n ++ if_there (x.place == n) (option_to_list c)) none ∙ (ap (λ c. x.turn n ++ c) (empty (x.place == n)) ∙ append-nil (x.turn n))))
    where
      empty : (b : Bool) → if_there b [] ≡ []
      empty true = refl
      empty false = refl

  due_is : (mac : Mac) → names_of o (leases_for s.size mac came) ≡ names_where (λ n. is_for_client mac (frame n)) 0 (names_of w came)
  due_is mac = leases_names s some mac frame 0 came (subst (λ cs. Rattle.std.proofs.Common.All (Rattle.net_virt_rx.specs.Sharing.IsBuffer s) cs) (turn_is v.ends.input.queue.0) x.stands.within) takes.net (λ i c at. takes.frames i c at ∙ ap frame (plus i))
    where
      plus : (j : ℕ) → j ≡ 0 + j
      plus j = omega arith

  module _ (b : Buffer) where
    abbrev due : Borrower → ℕ
    due c = times b (names_where c.is_for 0 (frames_taken (w ∷ []) l m))

    abbrev back : Borrower → ℕ
    back c = times b (names_in (o ∷ []) (m.taken c.free))

    came_is : frames_taken (w ∷ []) l m ≡ names_of w came
    came_is = ap (names_in (w ∷ [])) (items 0 _ refl)

    -- nothing is due of a buffer that isn't the stock's
    none_due : ((w.pool ≡ b.pool) × (b.no < w.buffers) → ⊥) → sum_by due l.clients ≡ 0
    none_due off =
        let none_came : times b (frames_taken (w ∷ []) l m) ≡ 0 = ap (times b) came_is ∙ times_outside w b off came takes.net in
        same_sums due (λ c. 0) l.clients (λ k c at. zero_of (due c) (omega (arith, where_few b c.is_for 0 (frames_taken (w ∷ []) l m), none_came))) ∙ no_sum l.clients
      where
        zero_of : (n : ℕ) → n ≤ 0 → n ≡ 0
        zero_of n le = omega (arith, le)

    module _ (pool : w.pool ≡ b.pool) (lt : b.no < w.buffers) where
      abbrev marks : List Bool
      marks = slice_index_or v.work.out.items b.no []

      -- of a client as many leases are due as came back, and one more where one is out
      one_client : (k : ℕ) (c : Borrower) → slice_get l.clients k ≡ Some c → back c + bit (slice_index_or marks k false) ≡ due c
      one_client k c at = by (client_at frame v.work.macs.items (to_queues v.ends) (from_queues v.ends) k c at)
        where
          by : Client frame v.work.macs.items (to_queues v.ends) (from_queues v.ends) k c → back c + bit (slice_index_or marks k false) ≡ due c
          by y =
              let mac = y.0 in
              let r = y.2 in
              let test : ℕ → Bool = λ n. is_for_client mac (frame n) in
              let at_queue : queue_at (from_queues v.ends) k ≡ r.0 = ap (λ (q : QueueId). q.0) (get_or_from_slice_get (from_queues v.ends) k r (record { 0 = 0 }) y.5) in
              let stands = (x.stands.clients k mac y.3).backs b.no lt in
              let returned : x.turn (queue_at (from_queues v.ends) k) ≡ passed.taken r.0 = ap x.turn at_queue ∙ turn_is r.0 in
              let few = ap (named 0 s.size b.no) returned in
              let due_for = ap (λ cs. named 0 s.size b.no (leases_for s.size mac cs)) (turn_is v.ends.input.queue.0) in
              let free : c.free ≡ r.0 = ap (λ (d : Borrower). d.free) y.6 in
              let ends = ends_at (λ e. went m e.role e.queue ≡ items_of (passed_at passed e.role e.queue)) l.clients (λ i e is. items (suc (suc i)) e is) k c at in
              let back_is : back c ≡ named 0 s.size b.no (passed.taken r.0) = ap (λ is. times b (names_in (o ∷ []) is)) (ends.1 ∙ ap (λ n. items_of (passed.taken n)) free) ∙ times_named o b some pool lt (passed.taken r.0) (takes.back_net k r y.5) in
              let due_named : due c ≡ named 0 s.size b.no (leases_for s.size mac came) =
              ap (λ (d : Borrower). times b (names_where d.is_for 0 (frames_taken (w ∷ []) l m))) y.6 ∙ (ap (λ ys. times b (names_where test 0 ys)) came_is ∙ (ap (times b) (sym (due_is mac)) ∙ times_named o b some pool lt (leases_for s.size mac came) (leases_net s.size mac came))) in
              omega (arith, stands, few, due_for, back_is, due_named)

      all_due : sum_by due l.clients ≡ sum_by back l.clients + receivers_at v.work.lent b.no
      all_due =
          let many : length marks ≡ length l.clients = x.work.outs_long b.no lt ∙ sym (borrowers_many frame v.work.macs.items (to_queues v.ends) (from_queues v.ends) to_each from_each) in
          sums_marked back due l.clients marks many one_client ∙ ap (λ n. sum_by back l.clients + n) (x.work.counts b.no lt)

      out_inside : bit (nat_lt (sum_by back l.clients) (sum_by due l.clients)) ≡ bit (nat_lt 0 (receivers_at v.work.lent b.no))
      out_inside = more_or_not (receivers_at v.work.lent b.no) (sum_by back l.clients) (sum_by due l.clients) all_due

    out_outside : ((w.pool ≡ b.pool) × (b.no < w.buffers) → ⊥) → bit (nat_lt (sum_by back l.clients) (sum_by due l.clients)) ≡ 0
    out_outside off = ap bit (le-ltb (sum_by back l.clients) (sum_by due l.clients) (omega (arith, none_due off)))

    out_so : bit (nat_lt (leases_back (o ∷ []) l m b) (leases_due (w ∷ []) l m b)) ≡ lent_now v b
    out_so = by (eqb_tells s.pool.0 b.pool) (cases_lt b.no s.buffers)
      where
        by : ((eqb s.pool.0 b.pool ≡ true) × (s.pool.0 ≡ b.pool)) ⊎ ((eqb s.pool.0 b.pool ≡ false) × (s.pool.0 ≢ b.pool)) → (b.no < s.buffers) ⊎ (s.buffers ≤ b.no) → bit (nat_lt (leases_back (o ∷ []) l m b) (leases_due (w ∷ []) l m b)) ≡ lent_now v b
        by (inl h) (inl lt) = out_inside h.1 lt ∙ sym (rw (h.0, lt-ltb b.no s.buffers lt) refl)
        by (inl h) (inr le) = out_outside (λ both. omega (arith, both.1, le)) ∙ sym (rw (h.0, le-ltb b.no s.buffers le) refl)
        by (inr h) e = out_outside (λ both. h.1 both.0) ∙ sym (rw h.0 refl)

  pub rx_out : (naming : Naming) → LenderNames naming (w ∷ []) (o ∷ []) l → (b : Buffer) → bit (is_out b (all_taken naming m (lender_ends l))) ≡ lent_now v b
  rx_out naming names b = ap bit (lender_out naming (w ∷ []) (o ∷ []) l m names b) ∙ out_so b
