-- What the receiving virtualiser stands for conserves buffers one by one: all its pages are of one
-- pool, by their numbers.
use Rattle.std.proofs.Common.{◌≡◌, ◌⊎◌, ◌+◌, ◌*◌, ◌==◌, ◌<◌, ℕ, zero, suc, Bool, true, nat_lt, Option, Some, None, List, [], ◌∷◌, ◌++◌, All, length, map, slice_get, refl, sym, ap, ◌∙◌, subst, arith, inl, inr, eq-eqb, ne_eqb}
use Rattle.std.specs.List.{filter}
use Rattle.std.specs.Option.{option_to_list}
use Rattle.std.proofs.lemmas.Bool.{cases_eq}
use Rattle.cargo_core.specs.declared.item.Body.{Body}
use Rattle.cargo_core.specs.declared.item.Body.TheVariants as Carried
use Rattle.cargo_core.specs.Loans.{Loan, receivers_at}
use Rattle.cargo_core.specs.Pages.{Paged}
use Rattle.wire_core.specs.declared.names.QueueId.{QueueId}
use Rattle.wire_core.specs.Bells.{bit}
use Rattle.wire_core.specs.Deeds.{Cargo}
use Rattle.wire_core.specs.Lists.{Lists, Passed}
use Rattle.wire_core.specs.Marks.{sum_below}
use Rattle.turn_kit.specs.Hands.{bodies_of, bodies_at}
use Rattle.buffer_kit.specs.Entries.{addr_of, frame_of}
use Rattle.buffer_kit.specs.Pools.{page_bodies}
use Rattle.buffer_kit.specs.Stocks.{stock_list, stock_hand}
use Rattle.buffer_kit.specs.declared.stock.Stock.{Stock}
use Rattle.frame_core.specs.declared.mac.Mac.{Mac}
use Rattle.class_expect.specs.NetExpect.Expecting.{is_for_client}
use Rattle.net_virt_rx.specs.declared.sharer.Sharer.{Sharer}
use Rattle.net_virt_rx.specs.Sharing.{IsBuffer, IsLoan, lease_of, lent_bodies, loan_bodies, named, owed_to, sharer_hand}
use Rattle.net_virt_rx.specs.Receiving.{RxStands, IsOutOfTurn, queue_at}
use Rattle.buffer_kit.specs.Conserving.{Count, weight, counted, Conserves, weighed}
use Rattle.buffer_kit.proofs.Conserving.{weighed-append, counted-append, counted-at, conserved}
use Rattle.wired_law.proofs.PageLaw.ActorsLemmas.Filling.{stock_count}
use Rattle.wired_law.proofs.PageLaw.ActorsLemmas.Pages.{plus, same_sum, none_sum, first_sum, pages_weight}
use Rattle.wired_law.proofs.PageLaw.ActorsLemmas.Sending.{IsAmong, beside, none_strayed, strays, taken_parts}

-- so often
abbrev times : ℕ → ℕ → ℕ
times zero x = 0
times (suc n) x = x + times n x

times_plus : (m n x : ℕ) → times (m + n) x ≡ times m x + times n x
times_plus zero n x = refl_plus (times n x) (ap (λ k. times k x) (zero_plus n))
  where
    zero_plus : (k : ℕ) → 0 + k ≡ k
    zero_plus k = omega arith

    refl_plus : {a : ℕ} (b : ℕ) → a ≡ b → a ≡ 0 + b
    refl_plus b e = omega (arith, e)
times_plus (suc m) n x = ap (λ k. times k x) (moved m n) ∙ omega (arith, times_plus m n x)
  where
    moved : (a b : ℕ) → suc a + b ≡ suc (a + b)
    moved a b = omega arith

abbrev once : Bool → ℕ → ℕ
once b x = times (bit b) x

module _ (f : Count) (s : Stock) (some : 0 < s.size) where
  -- what the buffer of a number weighs
  abbrev one : ℕ → ℕ
  one b = f s.pool b s.size

  abbrev all_of : List Cargo → ℕ
  all_of xs = sum_below (λ b. times (named s.base s.size b xs) (one b)) s.buffers

  one_sum : (n k : ℕ) → n < k → (a : ℕ) → a ≡ s.base + n * s.size → sum_below (λ b. once (a == s.base + b * s.size) (one b)) k ≡ one n
  one_sum n zero lt a at = absurd (omega (arith, lt))
  one_sum n (suc k) lt a at = by (cases_eq n k) (one_sum n k)
    where
      apart : (x y : ℕ) → (x ≡ y → ⊥) → s.base + x * s.size ≡ s.base + y * s.size → ⊥
      apart x y ne e = ne (cancel x y (omega (arith, e)))
        where
          cancel : (i j : ℕ) → i * s.size ≡ j * s.size → i ≡ j
          cancel i j h = grind (arith, h, some)

      below : (m : ℕ) → ((b : ℕ) → b < m → n ≡ b → ⊥) → sum_below (λ b. once (a == s.base + b * s.size) (one b)) m ≡ 0
      below m off = same_sum (λ b. once (a == s.base + b * s.size) (one b)) (λ b. 0) m (λ b l. ap (λ t. once t (one b)) (ne_eqb a (s.base + b * s.size) (λ e. apart n b (off b l) (sym at ∙ e)))) ∙ none_sum m

      by : (n ≡ k) ⊎ (n ≡ k → ⊥) → (n < k → (c : ℕ) → c ≡ s.base + n * s.size → sum_below (λ b. once (c == s.base + b * s.size) (one b)) k ≡ one n) → sum_below (λ b. once (a == s.base + b * s.size) (one b)) (suc k) ≡ one n
      by (inl e) rest =
          let none = below k (λ b l same. omega (arith, l, same, e)) in
          let here : once (a == s.base + k * s.size) (one k) ≡ one k + 0 = ap (λ t. once t (one k)) (eq-eqb a (s.base + k * s.size) (at ∙ ap (λ x. s.base + x * s.size) e)) in
          omega (arith, none, here, ap one e)
      by (inr ne) rest =
          let less : n < k = grind (arith, lt, ne) in
          let here : once (a == s.base + k * s.size) (one k) ≡ 0 = ap (λ t. once t (one k)) (ne_eqb a (s.base + k * s.size) (λ e. apart n k ne (sym at ∙ e))) in
          omega (arith, rest less a at, here)

  -- entries that name buffers with their pages
  named_weight : (xs : List Cargo) → All (IsBuffer s) xs → weighed f xs ≡ all_of xs
  named_weight [] h = sym (none_sum s.buffers)
  named_weight (x ∷ xs) h =
      let rest = named_weight xs (λ k d l. h (suc k) d (omega (arith, l))) in
      let parts = same_sum (λ b. times (named s.base s.size b (x ∷ xs)) (one b)) (λ b. once (addr_of x.0 == s.base + b * s.size) (one b) + times (named s.base s.size b xs) (one b)) s.buffers (λ b l. times_plus (bit (addr_of x.0 == s.base + b * s.size)) (named s.base s.size b xs) (one b)) in
      let sums = plus (λ b. once (addr_of x.0 == s.base + b * s.size) (one b)) (λ b. times (named s.base s.size b xs) (one b)) s.buffers in
      let here = this x (h zero x (omega arith)) in
      omega (arith, rest, parts, sums, here)
    where
      this : (x : Cargo) → IsBuffer s x → weight f x.1 ≡ sum_below (λ b. once (addr_of x.0 == s.base + b * s.size) (one b)) s.buffers
      this (item, Carried.Page page) (pool, few, at, long) =
          rw (pool, long) refl ∙ sym (one_sum page.no s.buffers few (addr_of item) at)
      this (item, Carried.Lease lease) is = elim is [ ]
      this (item, Carried.Empty) is = elim is [ ]

  -- the pages that are lent, from a number on
  lent_weight : (lent : List (Option Loan)) (from : ℕ) → ((k : ℕ) (loan : Loan) → slice_get lent k ≡ Some (Some loan) → IsLoan s (from + k) loan) → counted f (lent_bodies lent) ≡ sum_below (λ b. once (nat_lt 0 (receivers_at lent b)) (one (from + b))) (length lent)
  lent_weight [] from h = refl
  lent_weight (o ∷ lent) from h =
      let rest = lent_weight lent (suc from) (λ k loan at. subst (λ n. IsLoan s n loan) (shifted from k) (h (suc k) loan at)) in
      let first = first_sum (λ b. once (nat_lt 0 (receivers_at (o ∷ lent) b)) (one (from + b))) (length lent) in
      let shift = same_sum (λ b. once (nat_lt 0 (receivers_at lent b)) (one (suc from + b))) (λ b. once (nat_lt 0 (receivers_at (o ∷ lent) (suc b))) (one (from + suc b))) (length lent) (λ b l. ap (λ n. once (nat_lt 0 (receivers_at lent b)) (one n)) (omega arith)) in
      let parts = counted-append f (loan_bodies o) (lent_bodies lent) in
      let here = this o (λ loan is. subst (λ n. IsLoan s n loan) (plus_zero from) (h zero loan (ap (λ (x : Option Loan). Some x) is))) in
      omega (arith, rest, first, shift, parts, here)
    where
      shifted : (a b : ℕ) → a + suc b ≡ suc a + b
      shifted a b = omega arith

      plus_zero : (a : ℕ) → a + 0 ≡ a
      plus_zero a = omega arith

      this : (x : Option Loan) → ((loan : Loan) → x ≡ Some loan → IsLoan s from loan) → counted f (loan_bodies x) ≡ once (nat_lt 0 (receivers_at (x ∷ lent) 0)) (one (from + 0))
      this None is = refl
      this (Some loan) is =
          let l = is loan refl in
          let yes : nat_lt 0 loan.1 ≡ true = let some_ = l.some in grind (arith, some_) in
          let same : f loan.0.pool loan.0.no (length loan.0.bytes) ≡ one (from + 0) = rw (l.same_pool, l.number, l.sized) (ap one (sym (plus_zero from))) in
          let once_ : once (nat_lt 0 loan.1) (one (from + 0)) ≡ one (from + 0) + 0 = ap (λ t. once t (one (from + 0))) yes in
          omega (arith, same, once_)

-- leases are no buffers
leases_none : (f : Count) (size : ℕ) (frames : List Cargo) → weighed f (map (lease_of size) frames) ≡ 0
leases_none f size [] = refl
leases_none f size (x ∷ xs) = omega (arith, leases_none f size xs)

no_shared : (f : Count) (sent : Lists) (ts : List QueueId) (macs : List Mac) → length ts ≡ length macs → ((k : ℕ) (mac : Mac) → slice_get macs k ≡ Some mac → weighed f (sent (queue_at ts k)) ≡ 0) → counted f (bodies_at sent (map (λ (q : QueueId). q.0) ts)) ≡ 0
no_shared f sent [] macs long h = refl
no_shared f sent (t ∷ ts) [] long h = absurd (omega (arith, long))
no_shared f sent (t ∷ ts) (m ∷ macs) long h =
    let here = h zero m refl in
    let rest = no_shared f sent ts macs (omega (arith, long)) (λ k mac at. h (suc k) mac at) in
    let parts = counted-at f sent t.0 (map (λ (q : QueueId). q.0) ts) in
    omega (arith, here, rest, parts)

among_queue : (qs : List QueueId) (k : ℕ) → k < length qs → IsAmong (queue_at qs k) (map (λ (q : QueueId). q.0) qs)
among_queue [] k there = absurd (omega (arith, there))
among_queue (q ∷ qs) zero there = inl refl
among_queue (q ∷ qs) (suc k) there = inr (among_queue qs k (omega (arith, there)))

within_list : {X : Type 0} (xs : List X) (k : ℕ) (x : X) → slice_get xs k ≡ Some x → k < length xs
within_list [] k x at = cc
within_list (y ∷ xs) zero x at = omega arith
within_list (y ∷ xs) (suc k) x at = let r = within_list xs k x at in omega (arith, r)

module _ (i o : ℕ) (fs ts : List QueueId) (w : Sharer) (passed : Passed) (h : RxStands i o fs ts w passed) (from_each : length fs ≡ length w.macs.items) (to_each : length ts ≡ length w.macs.items) where
  abbrev s : Stock
  s = w.stock

  abbrev queues : List ℕ
  queues = i ∷ map (λ (q : QueueId). q.0) fs

  module _ (f : Count) where
    abbrev each : ℕ → ℕ
    each b = f s.pool b s.size

    started : counted f (page_bodies h.start) ≡ sum_below each s.buffers
    started =
        let p = h.is_start.are_pool in
        let sum = pages_weight f s.pool s.size h.start 0 (λ k q at. (p.same_pool k q at, (let e = p.numbered k q at in omega (arith, e)), p.sized k q at)) in
        let moved = same_sum (λ b. each (0 + b)) each (length h.start) (λ b l. ap each (omega arith)) in
        sum ∙ (moved ∙ ap (sum_below each) h.is_start.many)

    lent : counted f (lent_bodies w.lent) ≡ sum_below (λ b. once (nat_lt 0 (receivers_at w.lent b)) (each b)) s.buffers
    lent =
        let sum = lent_weight f s h.is_start.are_pool.some w.lent 0 (λ k loan at. subst (λ n. IsLoan s n loan) (zero_plus k) (h.work.loans k loan at)) in
        let moved = same_sum (λ b. once (nat_lt 0 (receivers_at w.lent b)) (each (0 + b))) (λ b. once (nat_lt 0 (receivers_at w.lent b)) (each b)) (length w.lent) (λ b l. ap (λ n. once (nat_lt 0 (receivers_at w.lent b)) (each n)) (omega arith)) in
        sum ∙ (moved ∙ ap (sum_below (λ b. once (nat_lt 0 (receivers_at w.lent b)) (each b))) h.work.lent_long)
      where
        zero_plus : (k : ℕ) → k ≡ 0 + k
        zero_plus k = omega arith

    -- by number, what was given and what is lent is what came and what it had
    numbers : sum_below (λ b. times (named s.base s.size b (passed.sent o ++ stock_list s)) (each b)) s.buffers + sum_below (λ b. once (nat_lt 0 (receivers_at w.lent b)) (each b)) s.buffers ≡ sum_below (λ b. times (named s.base s.size b (h.turn i)) (each b)) s.buffers + sum_below each s.buffers
    numbers =
        sym (plus (λ b. times (named s.base s.size b (passed.sent o ++ stock_list s)) (each b)) (λ b. once (nat_lt 0 (receivers_at w.lent b)) (each b)) s.buffers)
        ∙ (same_sum (λ b. times (named s.base s.size b (passed.sent o ++ stock_list s)) (each b) + once (nat_lt 0 (receivers_at w.lent b)) (each b)) (λ b. times (named s.base s.size b (h.turn i)) (each b) + each b) s.buffers one_number
        ∙ plus (λ b. times (named s.base s.size b (h.turn i)) (each b)) each s.buffers)
      where
        one_number : (b : ℕ) → b < s.buffers → times (named s.base s.size b (passed.sent o ++ stock_list s)) (each b) + once (nat_lt 0 (receivers_at w.lent b)) (each b) ≡ times (named s.base s.size b (h.turn i)) (each b) + each b
        one_number b lt =
            let left = times_plus (named s.base s.size b (passed.sent o ++ stock_list s)) (bit (nat_lt 0 (receivers_at w.lent b))) (each b) in
            let right = times_plus (named s.base s.size b (h.turn i)) 1 (each b) in
            let same = ap (λ n. times n (each b)) (h.stands.counts b lt) in
            let single : times 1 (each b) ≡ each b + 0 = refl in
            omega (arith, left, right, same, single)

    flow : counted f (page_bodies h.start) + weighed f (h.turn i) ≡ weighed f (passed.sent o) + (counted f (stock_hand s) + counted f (lent_bodies w.lent))
    flow =
        let frames = named_weight f s h.is_start.are_pool.some (h.turn i) h.stands.within in
        let gave = named_weight f s h.is_start.are_pool.some (passed.sent o ++ stock_list s) h.stands.given_within in
        let parts = weighed-append f (passed.sent o) (stock_list s) in
        omega (arith, started, lent, numbers, frames, gave, parts, stock_count f s)

    shared : counted f (bodies_at passed.sent (map (λ (q : QueueId). q.0) ts)) ≡ 0
    shared = no_shared f passed.sent ts w.macs.items to_each one_client
      where
        one_client : (k : ℕ) (mac : Mac) → slice_get w.macs.items k ≡ Some mac → weighed f (passed.sent (queue_at ts k)) ≡ 0
        one_client k mac at =
            let c = h.stands.clients k mac at in
            let whole = ap (weighed f) c.lends in
            let parts = weighed-append f (passed.sent (queue_at ts k)) (owed_to w k) in
            let none = leases_none f s.size (filter (λ (x : Cargo). is_for_client mac (frame_of x)) (h.turn i)) in
            omega (arith, whole, parts, none)

  pub record Stray : Type 0 where
    pub more : List Body
    pub is : (f : Count) → counted f (bodies_at (strays h.place (option_to_list w.stray)) queues) ≡ weighed f (option_to_list w.stray) + counted f more

  stray_there : (c : Cargo) → w.stray ≡ Some c → IsAmong h.place queues
  stray_there c is = by (h.stray c is)
    where
      by : IsOutOfTurn i o fs w h.turn passed.sent h.place c → IsAmong h.place queues
      by (inl e) = inl e.0
      by (inr (k, mac, at, place, out)) =
          let there = within_list w.macs.items k mac at in
          inr (subst (λ n. IsAmong n (map (λ (q : QueueId). q.0) fs)) (sym place) (among_queue fs k (omega (arith, there, from_each))))

  strayed : (x : Option Cargo) → w.stray ≡ x → Stray
  strayed None is = record {
    more = [];
    is = λ f. ap (λ (x : Option Cargo). counted f (bodies_at (strays h.place (option_to_list x)) queues)) is ∙ (none_strayed h.place queues f ∙ ap (λ (x : Option Cargo). weighed f (option_to_list x) + 0) (sym is));
  }
  strayed (Some c) is = let b = beside h.place (option_to_list w.stray) queues (stray_there c is) in record { more = b.more; is = b.is }

  pub receiver_conserves : Conserves (page_bodies h.start) (bodies_at passed.taken queues) (bodies_at passed.sent (o ∷ map (λ (q : QueueId). q.0) ts)) (sharer_hand w) (lent_bodies w.lent)
  receiver_conserves =
      let x = strayed w.stray refl in
      conserved (page_bodies h.start) (bodies_at passed.taken queues) (bodies_at passed.sent (o ∷ map (λ (q : QueueId). q.0) ts)) (sharer_hand w) (lent_bodies w.lent) (bodies_at h.turn (map (λ (q : QueueId). q.0) fs) ++ x.more) h.balances (λ f.
      let taken = taken_parts f h.turn passed.taken h.place (option_to_list w.stray) h.taken queues in
      let came = counted-at f h.turn i (map (λ (q : QueueId). q.0) fs) in
      let went = counted-at f passed.sent o (map (λ (q : QueueId). q.0) ts) in
      let hand = counted-append f (stock_hand s) (bodies_of (option_to_list w.stray)) in
      let more = counted-append f (bodies_at h.turn (map (λ (q : QueueId). q.0) fs)) x.more in
      omega (arith, flow f, shared f, taken, came, went, hand, more, x.is f))
