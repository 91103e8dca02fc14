-- What the switch does with the buffers of its ports: it puts those that came, and has the others
-- in its hand.
use Rattle.std.proofs.Common.{◌≡◌, ◌+◌, ◌*◌, ◌<◌, ◌≤◌, ◌++◌, ℕ, zero, suc, List, [], ◌∷◌, length, sum_by, refl, sym, ap, ◌∙◌, arith, inl}
use Rattle.std.proofs.lemmas.List.Sums.{sum_by-append}
use Rattle.cargo_core.specs.declared.item.PoolId.{PoolId}
use Rattle.cargo_core.specs.declared.item.Body.{Body}
use Rattle.cargo_core.specs.Bodies.{buffers_of}
use Rattle.wire_core.specs.Deeds.{Cargo}
use Rattle.wire_core.specs.Lists.{Passed}
use Rattle.turn_kit.specs.Hands.{bodies_of}
use Rattle.turn_kit.proofs.Holding.{buffers-append, cargo-append}
use Rattle.play_core.specs.Moved.{Moved, Seat}
use Rattle.play_core.specs.Wants.{intake, outlet}
use Rattle.play_core.specs.Rests.Showing.{HaveItems}
use Rattle.owner_law.specs.Things.{times, names_in, Buffer, Window, Naming, Thing, Nothing, Whole, things_sent, things_taken, as_buffer, as_lease, lends}
use Rattle.owner_law.specs.Keeping.{Keeps, all_taken, all_put, is_lending}
use Rattle.owner_law.specs.Pools.Places.{by_offset}
use Rattle.owner_law.specs.Pools.Handing.{TakesPages, PutsPages, HandsOn}
use Rattle.owner_law.specs.Pools.Lines.{HoldsIts, came, went}
use Rattle.owner_law.proofs.Named.{carried, buffers_are, buffers_none, keeps_plain}
use Rattle.owner_law.proofs.PoolsLemmas.Lining.{LendsNone, lent_away}
use Rattle.buffer_kit.specs.Entries.{all_filled}
use Rattle.buffer_kit.proofs.Counts.{all_filled_in}
use Rattle.net_law.proofs.OwnersLemmas.Few.{few, filled_few}
use Rattle.net_quiet.proofs.PoolsLemmas.Carrying.{takes_here, takes_rest, puts_none, puts_in, puts_out, passed_on, filled_on}
use Rattle.net_quiet.proofs.PoolsLemmas.Holding.{lends_none, lends_in, lends_out}
use Rattle.switched_law.specs.SwitchClass.Casting.{rx_pool, tx_pool}
use Rattle.switched_law.proofs.SwitchClass.Lanes.{TxFree, RxActive, RxFree}
use Rattle.switched_law.specs.SwitchOwners.Owning.{switch_naming, ends_from}
use Rattle.switched_law.proofs.SwitchOwners.Naming.{name_tx, name_at}

-- of what came from a port it put the first, and has the rest in its hand; and it filled the
-- buffers that the port gave, put the first of them, and has the rest
pub record PortWay (passed : Passed) (k : ℕ) (held copy : List Cargo) : Type 0 where
  pub frames : List (List ℕ)
  pub held_is : passed.sent (4 * k + 1) ++ held ≡ passed.taken (4 * k)
  pub copy_is : passed.sent (4 * k + 2) ++ copy ≡ all_filled frames (passed.taken (4 * k + 3))
  pub many : length (passed.taken (4 * k + 3)) ≡ length (passed.sent (4 * k + 2) ++ copy)

-- what it has in hand of ports, from one on
abbrev pub hand_from : (held copy : ℕ → List Cargo) → (port ports : ℕ) → List Body
hand_from held copy port zero = []
hand_from held copy port (suc ports) = bodies_of (held port) ++ (bodies_of (copy port) ++ hand_from held copy (port + 1) ports)

filled_most : (fs : List (List ℕ)) (cs : List Cargo) → length (all_filled fs cs) ≤ length fs
filled_most [] cs = omega arith
filled_most (f ∷ fs) [] = omega arith
filled_most (f ∷ fs) (c ∷ cs) = let r = filled_most fs cs in omega (arith, r)

module _ (n : ℕ) (passed : Passed) (m : Moved) (held copy : ℕ → List Cargo) (ways : (k : ℕ) → k < n → PortWay passed k (held k) (copy k)) where
  abbrev naming : Naming
  naming = switch_naming n

  abbrev tx : ℕ → List Window
  tx k = by_offset (tx_pool k) ∷ []

  abbrev rx : ℕ → List Window
  rx k = by_offset (rx_pool k) ∷ []

  came_sum : (f : Thing → ℕ) (k j : ℕ) → sum_by f (all_taken naming m (ends_from k (suc j))) ≡ carried naming m (4 * k) (m.taken (4 * k)) f + (carried naming m (4 * k + 3) (m.taken (4 * k + 3)) f + sum_by f (all_taken naming m (ends_from (k + 1) j)))
  came_sum f k j =
      sum_by-append f (things_taken naming m (4 * k)) (things_taken naming m (4 * k + 3) ++ all_taken naming m (ends_from (k + 1) j))
      ∙ ap (λ s. carried naming m (4 * k) (m.taken (4 * k)) f + s) (sum_by-append f (things_taken naming m (4 * k + 3)) (all_taken naming m (ends_from (k + 1) j)))

  went_sum : (f : Thing → ℕ) (k j : ℕ) → sum_by f (all_put naming m (ends_from k (suc j))) ≡ carried naming m (4 * k + 1) (m.sent (4 * k + 1)) f + (carried naming m (4 * k + 2) (m.sent (4 * k + 2)) f + sum_by f (all_put naming m (ends_from (k + 1) j)))
  went_sum f k j =
      sum_by-append f (things_sent naming m (4 * k + 1)) (things_sent naming m (4 * k + 2) ++ all_put naming m (ends_from (k + 1) j))
      ∙ ap (λ s. carried naming m (4 * k + 1) (m.sent (4 * k + 1)) f + s) (sum_by-append f (things_sent naming m (4 * k + 2)) (all_put naming m (ends_from (k + 1) j)))

  module _ (items : HaveItems passed m) where
    buffers_from : (b : Buffer) (j k : ℕ) → k + j ≤ n → sum_by (as_buffer b) (all_put naming m (ends_from k j)) ≤ sum_by (as_buffer b) (all_taken naming m (ends_from k j))
    buffers_from b zero k le = omega arith
    buffers_from b (suc j) k le =
        let lt : k < n = omega (arith, le) in
        let way = ways k lt in
        let a = buffers_are naming m (4 * k) (m.taken (4 * k)) (tx k) (as_buffer b) b (name_tx n k lt) refl (λ c. refl) ∙ ap (λ xs. times b (names_in (tx k) xs)) (sym (items.taken (4 * k))) in
        let c = buffers_are naming m (4 * k + 1) (m.sent (4 * k + 1)) (tx k) (as_buffer b) b (name_at n k TxFree lt) refl (λ c. refl) ∙ ap (λ xs. times b (names_in (tx k) xs)) (sym (items.sent (4 * k + 1))) in
        let d = buffers_are naming m (4 * k + 3) (m.taken (4 * k + 3)) (rx k) (as_buffer b) b (name_at n k RxFree lt) refl (λ c. refl) ∙ ap (λ xs. times b (names_in (rx k) xs)) (sym (items.taken (4 * k + 3))) in
        let e = buffers_are naming m (4 * k + 2) (m.sent (4 * k + 2)) (rx k) (as_buffer b) b (name_at n k RxActive lt) refl (λ c. refl) ∙ ap (λ xs. times b (names_in (rx k) xs)) (sym (items.sent (4 * k + 2))) in
        let back = few b (tx k) (passed.sent (4 * k + 1)) (passed.taken (4 * k)) (held k, way.held_is) in
        let copied = filled_few b (rx k) way.frames (passed.sent (4 * k + 2)) (passed.taken (4 * k + 3)) (copy k, way.copy_is) in
        let rest = buffers_from b j (k + 1) (omega (arith, le)) in
        omega (arith, came_sum (as_buffer b) k j, went_sum (as_buffer b) k j, a, c, d, e, back, copied, rest)

    came_none : (f : Thing → ℕ) → f Nothing ≡ 0 → ((c : Buffer) → f (Whole c) ≡ 0) → (j k : ℕ) → k + j ≤ n → sum_by f (all_taken naming m (ends_from k j)) ≡ 0
    came_none f none whole zero k le = refl
    came_none f none whole (suc j) k le =
        let lt : k < n = omega (arith, le) in
        omega (arith, came_sum f k j, buffers_none naming m (4 * k) (m.taken (4 * k)) (tx k) f (name_tx n k lt) none whole, buffers_none naming m (4 * k + 3) (m.taken (4 * k + 3)) (rx k) f (name_at n k RxFree lt) none whole, came_none f none whole j (k + 1) (omega (arith, le)))

    went_none : (f : Thing → ℕ) → f Nothing ≡ 0 → ((c : Buffer) → f (Whole c) ≡ 0) → (j k : ℕ) → k + j ≤ n → sum_by f (all_put naming m (ends_from k j)) ≡ 0
    went_none f none whole zero k le = refl
    went_none f none whole (suc j) k le =
        let lt : k < n = omega (arith, le) in
        omega (arith, went_sum f k j, buffers_none naming m (4 * k + 1) (m.sent (4 * k + 1)) (tx k) f (name_at n k TxFree lt) none whole, buffers_none naming m (4 * k + 2) (m.sent (4 * k + 2)) (rx k) f (name_at n k RxActive lt) none whole, went_none f none whole j (k + 1) (omega (arith, le)))

    pub ways_keep : Keeps (λ pool. []) (all_taken naming m (ends_from 0 n)) (all_put naming m (ends_from 0 n))
    ways_keep = keeps_plain (λ pool. []) (all_taken naming m (ends_from 0 n)) (all_put naming m (ends_from 0 n))
        (λ b. came_none (lends b) refl (λ c. refl) n 0 (omega arith))
        (λ b. let most = buffers_from b n 0 (omega arith) in omega (arith, most))
        (λ b. let none = went_none (as_lease b) refl (λ c. refl) n 0 (omega arith) in omega (arith, none))

  on_from : (j k : ℕ) → k + j ≤ n → TakesPages naming m passed (ends_from k j) → PutsPages naming m passed (ends_from k j)
  on_from zero k le takes = puts_none naming m passed
  on_from (suc j) k le takes =
      let lt : k < n = omega (arith, le) in
      let way = ways k lt in
      let fourth : List Seat = ends_from (k + 1) j in
      let third : List Seat = intake (4 * k + 3) ∷ fourth in
      let second : List Seat = outlet (4 * k + 2) ∷ third in
      let first : List Seat = outlet (4 * k + 1) ∷ second in
      let came_here = takes_here naming m passed (4 * k) first takes in
      let rest = takes_rest naming m passed (outlet (4 * k + 2)) third (takes_rest naming m passed (outlet (4 * k + 1)) second (takes_rest naming m passed (intake (4 * k)) first takes)) in
      let given_here = takes_here naming m passed (4 * k + 3) fourth rest in
      let more = on_from j (k + 1) (omega (arith, le)) (takes_rest naming m passed (intake (4 * k + 3)) fourth rest) in
      puts_in naming m passed (4 * k) first
      (puts_out naming m passed (4 * k + 1) second (passed_on naming m (tx k) (4 * k) (4 * k + 1) (inl (name_tx n k lt)) (inl (name_at n k TxFree lt)) (passed.taken (4 * k)) (passed.sent (4 * k + 1)) (held k, way.held_is) came_here)
      (puts_out naming m passed (4 * k + 2) third (filled_on naming m (rx k) way.frames (4 * k + 3) (4 * k + 2) (inl (name_at n k RxFree lt)) (inl (name_at n k RxActive lt)) (passed.taken (4 * k + 3)) (passed.sent (4 * k + 2)) (copy k, way.copy_is) given_here)
      (puts_in naming m passed (4 * k + 3) fourth more)))

  pub ways_hand_on : HandsOn naming m passed (ends_from 0 n)
  ways_hand_on takes = on_from n 0 (omega arith) takes

  -- of each pool what came is what went, and what is in hand
  port_balance : (pool : PoolId) (k : ℕ) → k < n
      → buffers_of pool (bodies_of (passed.taken (4 * k))) + buffers_of pool (bodies_of (passed.taken (4 * k + 3)))
      ≡ buffers_of pool (bodies_of (passed.sent (4 * k + 1))) + buffers_of pool (bodies_of (passed.sent (4 * k + 2))) + (buffers_of pool (bodies_of (held k)) + buffers_of pool (bodies_of (copy k)))
  port_balance pool k lt =
      let way = ways k lt in
      let back = ap (λ cs. buffers_of pool (bodies_of cs)) way.held_is in
      let parts = cargo-append pool (passed.sent (4 * k + 1)) (held k) in
      let most = filled_most way.frames (passed.taken (4 * k + 3)) in
      let long : length (passed.taken (4 * k + 3)) ≤ length way.frames = let same = ap (λ cs. length cs) way.copy_is in let many = way.many in omega (arith, most, same, many) in
      let copied = ap (λ cs. buffers_of pool (bodies_of cs)) way.copy_is ∙ all_filled_in pool way.frames (passed.taken (4 * k + 3)) long in
      let halves = cargo-append pool (passed.sent (4 * k + 2)) (copy k) in
      omega (arith, back, parts, copied, halves)

  balance_from : (pool : PoolId) (j k : ℕ) → k + j ≤ n → buffers_of pool (came passed (ends_from k j)) ≡ buffers_of pool (went passed (ends_from k j)) + buffers_of pool (hand_from held copy k j)
  balance_from pool zero k le = refl
  balance_from pool (suc j) k le =
      let here = port_balance pool k (omega (arith, le)) in
      let rest = balance_from pool j (k + 1) (omega (arith, le)) in
      let a = buffers-append pool (bodies_of (passed.taken (4 * k))) (bodies_of (passed.taken (4 * k + 3)) ++ came passed (ends_from (k + 1) j)) in
      let b = buffers-append pool (bodies_of (passed.taken (4 * k + 3))) (came passed (ends_from (k + 1) j)) in
      let c = buffers-append pool (bodies_of (passed.sent (4 * k + 1))) (bodies_of (passed.sent (4 * k + 2)) ++ went passed (ends_from (k + 1) j)) in
      let d = buffers-append pool (bodies_of (passed.sent (4 * k + 2))) (went passed (ends_from (k + 1) j)) in
      let e = buffers-append pool (bodies_of (held k)) (bodies_of (copy k) ++ hand_from held copy (k + 1) j) in
      let f = buffers-append pool (bodies_of (copy k)) (hand_from held copy (k + 1) j) in
      omega (arith, here, rest, a, b, c, d, e, f)

  lends_from : (j k : ℕ) → k + j ≤ n → LendsNone naming (ends_from k j)
  lends_from zero k le = lends_none naming
  lends_from (suc j) k le =
      let lt : k < n = omega (arith, le) in
      let fourth : List Seat = ends_from (k + 1) j in
      let third : List Seat = intake (4 * k + 3) ∷ fourth in
      let second : List Seat = outlet (4 * k + 2) ∷ third in
      let first : List Seat = outlet (4 * k + 1) ∷ second in
      lends_in naming (4 * k) first (ap is_lending (name_tx n k lt)) (lends_out naming (4 * k + 1) second (lends_out naming (4 * k + 2) third (lends_in naming (4 * k + 3) fourth (ap is_lending (name_at n k RxFree lt)) (lends_from j (k + 1) (omega (arith, le))))))

  pub ways_hold : (sizes : ℕ → ℕ) → HoldsIts naming sizes m passed (record { keeper = record { ends = ends_from 0 n; hand = λ pool. [] }; hand = hand_from held copy 0 n; lent = λ pool. 0 })
  ways_hold sizes = record {
    balances = λ pool. let all = balance_from pool n 0 (omega arith) in omega (arith, all);
    lends = λ pool. sym (lent_away naming m (ends_from 0 n) (lends_from n 0 (omega arith)) pool (sizes pool));
  }
