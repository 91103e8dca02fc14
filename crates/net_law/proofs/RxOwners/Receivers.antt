use Rattle.std.proofs.Common.{◌≡◌, ◌⊎◌, ◌==◌, ◌+◌, ◌<◌, ◌≤◌, ◌≢◌, ℕ, zero, suc, Bool, true, false, cond, nat_lt, Some, List, [], ◌∷◌, ◌++◌, length, map, slice_get, sum_by, refl, sym, ap, ◌∙◌, subst, arith, eq-eqb, ltb-true, inl, inr}
use Rattle.std.specs.List.{filter}
use Rattle.std.proofs.Math.Dec.{eqb}
use Rattle.std.proofs.lemmas.Bool.{cases_lt, le-ltb}
use Rattle.std.proofs.lemmas.Bool.Decides.{eqb_tells}
use Rattle.std.proofs.lemmas.List.Sums.{sum_by-cons, sum_by-append}
use Rattle.cargo_core.specs.Lists.{IsPrefix}
use Rattle.cargo_core.specs.Items.{kind_of}
use Rattle.cargo_core.specs.declared.item.QueueKind.TheVariants as Kind
use Rattle.frame_core.specs.declared.mac.Mac.{Mac}
use Rattle.wire_core.specs.Bells.{bit}
use Rattle.wire_core.specs.Deeds.{Cargo}
use Rattle.wire_core.specs.Lists.{Passed, if_there}
use Rattle.wire_core.specs.Queues.{items_of}
use Rattle.play_core.specs.Moved.{Moved, went}
use Rattle.play_core.proofs.Lists.{prefix_trans}
use Rattle.owner_law.specs.Things.{Buffer, Window, names_in, is_named, times}
use Rattle.owner_law.specs.Keeping.{at_start}
use Rattle.class_expect.specs.NetExpect.Expecting.{is_for_client}
use Rattle.buffer_kit.specs.Entries.{frame_of}
use Rattle.buffer_kit.specs.declared.stock.Stock.{Stock}
use Rattle.buffer_kit.specs.Virtualising.{from_queues, to_queues}
use Rattle.net_virt_rx.specs.Sharing.{named, lease_of, leases_for}
use Rattle.net_virt_rx.specs.Receiving.{RxRow}
use Rattle.net_virt_rx.specs.declared.NetVirtRx.{NetVirtRx}
use Rattle.net_law.specs.Owners.Ends.{AreItemsOf, passed_at, stock_window}
use Rattle.net_law.specs.Owners.Lending.{Borrower, Lender, lender_ends, names_where, frames_taken, LenderRow}
use Rattle.net_law.specs.RxOwners.Virtualiser.{offset_window, rx_lender, AreNet, TakesFrames}
use Rattle.net_law.proofs.OwnersLemmas.Few.{named_begins}
use Rattle.net_law.proofs.RxOwners.Virtualisers.{names_of, times_named, times_outside, leases_names, where_begins, where_few}
use Rattle.net_law.proofs.RxOwners.Serving.{where_split, names_parts, Client, client_at, some_less, same_sums, ends_at}
use Rattle.owner_law.proofs.PoolsLemmas.Sizing.{number_there}

get_first : {T : Type 0} (xs ys : List T) (k : ℕ) (x : T) → slice_get xs k ≡ Some x → slice_get (xs ++ ys) k ≡ Some x
get_first [] ys k x at = cc
get_first (y ∷ xs) ys zero x at = at
get_first (y ∷ xs) ys (suc k) x at = get_first xs ys k x at

pub named_more : (base size b : ℕ) (xs ys : List Cargo) → named base size b xs ≤ named base size b (xs ++ ys)
named_more base size b [] ys = omega arith
named_more base size b (x ∷ xs) ys = let rest = named_more base size b xs ys in omega (arith, rest)

pub leases_net : (size : ℕ) (mac : Mac) (cs : List Cargo) → AreNet (leases_for size mac cs)
leases_net size mac [] k c at = cc
leases_net size mac (x ∷ cs) k c at = by (is_for_client mac (frame_of x)) k at (λ j is. leases_net size mac cs j c is)
  where
    by : (t : Bool) (j : ℕ) → slice_get (map (lease_of size) (cond t (x ∷ filter (λ d. is_for_client mac (frame_of d)) cs) (filter (λ d. is_for_client mac (frame_of d)) cs))) j ≡ Some c → ((i : ℕ) → slice_get (leases_for size mac cs) i ≡ Some c → kind_of c.0 ≡ Kind.Net) → kind_of c.0 ≡ Kind.Net
    by true zero is rest = let e : lease_of size x ≡ c = Rattle.play_core.proofs.Lists.some_is is in subst (λ (d : Cargo). kind_of d.0 ≡ Kind.Net) e refl
    by true (suc j) is rest = rest j is
    by false j is rest = rest j is

pub no_sum : (cs : List Borrower) → sum_by (λ c. 0) cs ≡ 0
no_sum [] = refl
no_sum (c ∷ cs) = omega (arith, sum_by-cons (λ d. 0) c cs, no_sum cs)

module _ (frame : ℕ → List ℕ) (v : NetVirtRx) (passed : Passed) (m : Moved) (items : AreItemsOf (lender_ends (rx_lender frame v)) passed m) (takes : TakesFrames frame v passed) (row : RxRow v passed) where
  abbrev s : Stock
  s = v.work.stock

  abbrev w : Window
  w = stock_window s

  abbrev o : Window
  o = offset_window s

  abbrev l : Lender
  l = rx_lender frame v

  abbrev came : List Cargo
  came = passed.taken v.ends.input.queue.0

  abbrev turn : List Cargo
  turn = row.turn v.ends.input.queue.0

  abbrev extra : List Cargo
  extra = if_there (row.place == v.ends.input.queue.0) row.stray

  abbrev gave : List Cargo
  gave = passed.sent v.ends.output.queue.0

  some : 0 < s.size
  some = row.is_start.are_pool.some

  came_is : came ≡ turn ++ extra
  came_is = row.taken v.ends.input.queue.0

  in_turn : (k : ℕ) (c : Cargo) → slice_get turn k ≡ Some c → slice_get came k ≡ Some c
  in_turn k c at = ap (λ xs. slice_get xs k) came_is ∙ get_first turn extra k c at

  turn_net : AreNet turn
  turn_net k c at = takes.net k c (in_turn k c at)

  turn_frames : (i : ℕ) (c : Cargo) → slice_get turn i ≡ Some c → frame_of c ≡ frame (0 + i)
  turn_frames i c at = takes.frames i c (in_turn i c at) ∙ ap frame (plus i)
    where
      plus : (j : ℕ) → j ≡ 0 + j
      plus j = omega arith

  names_came : frames_taken (w ∷ []) l m ≡ names_of w turn ++ names_of w extra
  names_came = ap (names_in (w ∷ [])) (items 0 _ refl) ∙ (ap (names_of w) came_is ∙ names_parts w turn extra)

  leases_are : (mac : Mac) → names_of o (leases_for s.size mac turn) ≡ names_where (λ n. is_for_client mac (frame n)) 0 (names_of w turn)
  leases_are mac = leases_names s some mac frame 0 turn row.within turn_net turn_frames

  -- what passed at a client's ends
  ends_so : (k : ℕ) (c : Borrower) → slice_get l.clients k ≡ Some c → (m.sent c.active ≡ items_of (passed.sent c.active)) × (m.taken c.free ≡ items_of (passed.taken c.free))
  ends_so k c at = ends_at (λ e. went m e.role e.queue ≡ items_of (passed_at passed e.role e.queue)) l.clients (λ i e is. items (suc (suc i)) e is) k c at

  shares_so : (k : ℕ) (c : Borrower) → slice_get l.clients k ≡ Some c → IsPrefix (names_in (o ∷ []) (m.sent c.active)) (names_where c.is_for 0 (frames_taken (w ∷ []) l m))
  shares_so k c at = by (client_at frame v.work.macs.items (to_queues v.ends) (from_queues v.ends) k c at)
    where
      by : Client frame v.work.macs.items (to_queues v.ends) (from_queues v.ends) k c → IsPrefix (names_in (o ∷ []) (m.sent c.active)) (names_where c.is_for 0 (frames_taken (w ∷ []) l m))
      by x =
          let mac = x.0 in
          let q = x.1 in
          let served = row.serves k mac q x.2 x.3 x.4 x.5 in
          let test : ℕ → Bool = λ n. is_for_client mac (frame n) in
          let active : c.active ≡ q.0 = ap (λ (d : Borrower). d.active) x.6 in
          let sent_is : m.sent c.active ≡ items_of (passed.sent q.0) = (ends_so k c at).0 ∙ ap (λ n. items_of (passed.sent n)) active in
          let one : IsPrefix (names_of o (passed.sent q.0)) (names_of o (leases_for s.size mac turn)) = named_begins (o ∷ []) (passed.sent q.0) (leases_for s.size mac turn) served.lends in
          let two : IsPrefix (names_where test 0 (names_of w turn)) (names_where test 0 (names_of w turn ++ names_of w extra)) = where_begins test 0 (names_of w turn) (names_of w extra) in
          let whole : IsPrefix (names_of o (passed.sent q.0)) (names_where test 0 (names_of w turn ++ names_of w extra)) = prefix_trans (names_of o (passed.sent q.0)) (names_where test 0 (names_of w turn)) (names_where test 0 (names_of w turn ++ names_of w extra)) (subst (λ ys. IsPrefix (names_of o (passed.sent q.0)) ys) (leases_are mac) one) two in
          let to_frames : IsPrefix (names_of o (passed.sent q.0)) (names_where test 0 (frames_taken (w ∷ []) l m)) = subst (λ ys. IsPrefix (names_of o (passed.sent q.0)) (names_where test 0 ys)) (sym names_came) whole in
          let to_test : IsPrefix (names_of o (passed.sent q.0)) (names_where c.is_for 0 (frames_taken (w ∷ []) l m)) = subst (λ (d : Borrower). IsPrefix (names_of o (passed.sent q.0)) (names_where d.is_for 0 (frames_taken (w ∷ []) l m))) (sym x.6) to_frames in
          subst (λ is. IsPrefix (names_in (o ∷ []) is) (names_where c.is_for 0 (frames_taken (w ∷ []) l m))) (sym sent_is) to_test

  module _ (b : Buffer) where
    abbrev gave_b : ℕ
    gave_b = times b (names_in (w ∷ []) (m.sent v.ends.output.queue.0))

    abbrev came_b : ℕ
    came_b = times b (frames_taken (w ∷ []) l m)

    abbrev due : Borrower → ℕ
    due c = times b (names_where c.is_for 0 (frames_taken (w ∷ []) l m))

    abbrev back : Borrower → ℕ
    back c = times b (names_in (o ∷ []) (m.taken c.free))

    gave_is : gave_b ≡ times b (names_of w gave)
    gave_is = ap (λ is. times b (names_in (w ∷ []) is)) (items 1 _ refl)

    came_parts : came_b ≡ times b (names_of w turn) + times b (names_of w extra)
    came_parts = ap (times b) names_came ∙ sum_by-append (is_named b) (names_of w turn) (names_of w extra)

    -- a buffer that isn't the stock's
    hand_outside : ((w.pool ≡ b.pool) × (b.no < w.buffers) → ⊥) → gave_b + bit (nat_lt (sum_by back l.clients) (sum_by due l.clients)) ≤ at_start l.hand b + came_b
    hand_outside off =
        let none_came : came_b ≡ 0 = ap (λ is. times b (names_in (w ∷ []) is)) (items 0 _ refl) ∙ times_outside w b off came takes.net in
        let none_gave : times b (names_of w gave) ≡ 0 = times_outside w b off gave takes.given_net in
        let none_due : sum_by due l.clients ≡ 0 = same_sums due (λ c. 0) l.clients (λ k c at. zero_of (due c) (omega (arith, where_few b c.is_for 0 (frames_taken (w ∷ []) l m), none_came))) ∙ no_sum l.clients in
        let not_less : bit (nat_lt (sum_by back l.clients) (sum_by due l.clients)) ≡ 0 = ap bit (le-ltb (sum_by back l.clients) (sum_by due l.clients) (omega (arith, none_due))) in
        omega (arith, gave_is, none_gave, not_less)
      where
        zero_of : (n : ℕ) → n ≤ 0 → n ≡ 0
        zero_of n le = omega (arith, le)

    -- a buffer that is
    module _ (pool : w.pool ≡ b.pool) (lt : b.no < w.buffers) where
      started : 1 ≤ at_start l.hand b
      started = rw (eq-eqb s.pool.0 b.pool pool) (number_there 0 s.buffers b.no (omega arith) (omega (arith, lt)))

      gave_few : gave_b ≡ named s.base s.size b.no gave
      gave_few = gave_is ∙ times_named w b some pool lt gave takes.given_net

      turn_is : times b (names_of w turn) ≡ named s.base s.size b.no turn
      turn_is = times_named w b some pool lt turn turn_net

      -- where a lease of it is due that isn't back, it wasn't put again
      kept_back : (k : ℕ) (c : Borrower) → slice_get l.clients k ≡ Some c → back c < due c → times b (names_of w extra) ≡ 0 → gave_b ≤ times b (names_of w turn)
      kept_back k c at less none = by (client_at frame v.work.macs.items (to_queues v.ends) (from_queues v.ends) k c at)
        where
          by : Client frame v.work.macs.items (to_queues v.ends) (from_queues v.ends) k c → gave_b ≤ times b (names_of w turn)
          by x =
              let mac = x.0 in
              let r = x.2 in
              let served = row.serves k mac x.1 r x.3 x.4 x.5 in
              let test : ℕ → Bool = λ n. is_for_client mac (frame n) in
              let due_is : due c ≡ times b (names_where test 0 (names_of w turn ++ names_of w extra)) = ap (λ (d : Borrower). times b (names_where d.is_for 0 (frames_taken (w ∷ []) l m))) x.6 ∙ ap (λ ys. times b (names_where test 0 ys)) names_came in
              let split : times b (names_where test 0 (names_of w turn ++ names_of w extra)) ≡ times b (names_where test 0 (names_of w turn)) + times b (names_where test (0 + length (names_of w turn)) (names_of w extra)) = ap (times b) (where_split test 0 (names_of w turn) (names_of w extra)) ∙ sum_by-append (is_named b) (names_where test 0 (names_of w turn)) (names_where test (0 + length (names_of w turn)) (names_of w extra)) in
              let due_few : times b (names_where test 0 (names_of w turn)) ≡ named 0 s.size b.no (leases_for s.size mac turn) = ap (times b) (sym (leases_are mac)) ∙ times_named o b some pool lt (leases_for s.size mac turn) (leases_net s.size mac turn) in
              let free : c.free ≡ r.0 = ap (λ (d : Borrower). d.free) x.6 in
              let back_is : back c ≡ times b (names_of o (passed.taken r.0)) = ap (λ is. times b (names_in (o ∷ []) is)) ((ends_so k c at).1 ∙ ap (λ n. items_of (passed.taken n)) free) in
              let back_named : times b (names_of o (passed.taken r.0)) ≡ named 0 s.size b.no (passed.taken r.0) = times_named o b some pool lt (passed.taken r.0) (takes.back_net k r x.5) in
              let back_more : named 0 s.size b.no (row.turn r.0) ≤ named 0 s.size b.no (passed.taken r.0) = subst (λ xs. named 0 s.size b.no (row.turn r.0) ≤ named 0 s.size b.no xs) (sym (row.taken r.0)) (named_more 0 s.size b.no (row.turn r.0) (if_there (row.place == r.0) row.stray)) in
              let out : named 0 s.size b.no (row.turn r.0) < named 0 s.size b.no (leases_for s.size mac turn) = omega (arith, less, due_is, split, due_few, back_is, back_named, back_more, where_few b test (0 + length (names_of w turn)) (names_of w extra), none) in
              omega (arith, served.not_lent b.no lt out, gave_few, turn_is)

      hand_by : (t : Bool) → nat_lt (sum_by back l.clients) (sum_by due l.clients) ≡ t → (0 < times b (names_of w extra)) ⊎ (times b (names_of w extra) ≤ 0) → gave_b + bit t ≤ at_start l.hand b + came_b
      hand_by false is e = omega (arith, started, gave_few, turn_is, row.in_hand b.no lt, came_parts)
      hand_by true is (inl more) = omega (arith, started, gave_few, turn_is, row.in_hand b.no lt, came_parts, more)
      hand_by true is (inr none) =
          let x = some_less back due l.clients (ltb-true (sum_by back l.clients) (sum_by due l.clients) is) in
          let kept = kept_back x.0 x.1 x.2 x.3 (omega (arith, none)) in
          omega (arith, started, kept, came_parts)

      hand_inside : gave_b + bit (nat_lt (sum_by back l.clients) (sum_by due l.clients)) ≤ at_start l.hand b + came_b
      hand_inside = hand_by (nat_lt (sum_by back l.clients) (sum_by due l.clients)) refl (cases_lt 0 (times b (names_of w extra)))

    hand_so : gave_b + bit (nat_lt (sum_by back l.clients) (sum_by due l.clients)) ≤ at_start l.hand b + came_b
    hand_so = by (eqb_tells w.pool b.pool) (cases_lt b.no w.buffers)
      where
        by : ((eqb w.pool b.pool ≡ true) × (w.pool ≡ b.pool)) ⊎ ((eqb w.pool b.pool ≡ false) × (w.pool ≢ b.pool)) → (b.no < w.buffers) ⊎ (w.buffers ≤ b.no) → gave_b + bit (nat_lt (sum_by back l.clients) (sum_by due l.clients)) ≤ at_start l.hand b + came_b
        by (inl h) (inl lt) = hand_inside h.1 lt
        by (inl h) (inr le) = hand_outside (λ both. omega (arith, both.1, le))
        by (inr h) e = hand_outside (λ both. h.1 both.0)

  pub rx_lends : LenderRow (w ∷ []) (o ∷ []) l m
  rx_lends = record { shares = shares_so; in_hand = hand_so }
