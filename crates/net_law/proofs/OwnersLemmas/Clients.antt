use Rattle.std.proofs.Common.{◌≡◌, ◌==◌, ◌&&◌, ◌+◌, ◌*◌, ◌/◌, ◌<◌, ◌≤◌, ℕ, suc, Bool, true, false, cond, if◌then◌else◌, Some, List, [], ◌∷◌, ◌++◌, length, map, slice_get, sum_by, count_by, refl, ap, ◌∙◌, arith, mul-div_cancel, eq-eqb, lt-ltb}
use Rattle.std.proofs.Math.Nat.{add-sub_cancel_left}
use Rattle.std.proofs.lemmas.List.Sums.{sum_by-cons, sum_by-append}
use Rattle.cargo_core.specs.Pages.{Paged}
use Rattle.wire_core.specs.Bells.{bit}
use Rattle.wire_core.specs.Deeds.{Cargo}
use Rattle.wire_core.specs.Lists.{Passed}
use Rattle.play_core.specs.Moved.{Moved}
use Rattle.owner_law.specs.Things.{is_named, times, names_in, Buffer, is_same, Window, Naming, Thing, Nothing, Whole, number_at, begins_at, buffer_at, as_buffer, as_lease, lends, gives_back, brings_leases}
use Rattle.owner_law.specs.Keeping.{Keeps, at_start, all_taken, all_put, things_in, things_out}
use Rattle.owner_law.proofs.Sums.{sum_flat}
use Rattle.owner_law.proofs.Named.{carried, buffers_are, buffers_none, keeps_plain}
use Rattle.buffer_kit.specs.Entries.{frame_of}
use Rattle.buffer_kit.specs.Pools.{given_entry}
use Rattle.buffer_kit.specs.Stocks.{IsStart}
use Rattle.buffer_kit.specs.declared.stock.Stock.{Stock}
use Rattle.client_programs.specs.Net.Programs.{frames_out}
use Rattle.client_programs.specs.Net.Clients.{ClientRow, rx_active, rx_free, tx_active, tx_free}
use Rattle.client_programs.specs.declared.net.NetClient.{NetClient}
use Rattle.net_law.specs.Owners.Ends.{AreItemsOf, client_ends, ClientNames, stock_window, stock_numbers, client_start}
use Rattle.owner_law.specs.Pools.Places.{numbers_from}
use Rattle.net_law.proofs.OwnersLemmas.Few.{few, filled_few, named}

-- a buffer is named by the address at which it begins
number_is : (w : Window) (k : ℕ) → 0 < w.size → number_at w (w.base + k * w.size) ≡ k
number_is w k some = ap (λ a. a / w.size) (add-sub_cancel_left w.base (k * w.size)) ∙ mul-div_cancel k some

pub at_address : (w : Window) (k : ℕ) → 0 < w.size → k < w.buffers → buffer_at (w ∷ []) (w.base + k * w.size) ≡ Some (record { pool = w.pool; no = k })
at_address w k some lt =
    let begins : begins_at w (w.base + k * w.size) ≡ true = rw (number_is w k some, lt-ltb k w.buffers lt, eq-eqb (w.base + k * w.size) (w.base + k * w.size) refl) refl in
    rw (begins, number_is w k some) refl

-- numbers of another pool, or of this one
pub here_or_not : (s : Bool) (n k : ℕ) (rest : List ℕ) (more : ℕ) → more ≤ count_by (λ x. x == n) (cond s rest []) → bit (s && (k == n)) + more ≤ count_by (λ x. x == n) (cond s (k ∷ rest) [])
here_or_not true n k rest more le =
    let one : bit (k == n) ≡ cond {A = ℕ} (k == n) 1 0 = by (k == n) in
    omega (arith, le, one, sum_by-cons (λ x. cond {A = ℕ} (x == n) 1 0) k rest)
  where
    by : (b : Bool) → bit b ≡ cond {A = ℕ} b 1 0
    by true = refl
    by false = refl
here_or_not false n k rest more le = omega (arith, le)

-- the buffers of a stock, from one on, are named by their numbers
given_few : (s : Stock) (b : Buffer) (pages : List Paged) (k : ℕ) → 0 < s.size → ((i : ℕ) (p : Paged) → slice_get pages i ≡ Some p → p.no ≡ k + i) → k + length pages ≤ s.buffers → times b (named (stock_window s ∷ []) (map (given_entry s.base s.size) pages)) ≤ count_by (λ x. x == b.no) (if s.pool.0 == b.pool then numbers_from k (length pages) else [])
given_few s b [] k some numbered le = omega arith
given_few s b (p ∷ pages) k some numbered le =
    let no_is : p.no ≡ k = numbered 0 p refl ∙ plus in
    let address : s.base + p.no * s.size ≡ s.base + k * s.size = ap (λ n. s.base + n * s.size) no_is in
    let head : is_named b (buffer_at (stock_window s ∷ []) (s.base + p.no * s.size)) ≡ bit ((s.pool.0 == b.pool) && (k == b.no)) =
    ap (λ a. is_named b (buffer_at (stock_window s ∷ []) a)) address ∙ ap (is_named b) (at_address (stock_window s) k some (omega (arith, le))) in
    let tail : times b (named (stock_window s ∷ []) (map (given_entry s.base s.size) pages)) ≤ count_by (λ x. x == b.no) (if s.pool.0 == b.pool then numbers_from (k + 1) (length pages) else []) =
    given_few s b pages (k + 1) some (λ i q at. numbered (suc i) q at ∙ shift i) (omega (arith, le)) in
    omega (arith, sum_by-cons (is_named b) (buffer_at (stock_window s ∷ []) (s.base + p.no * s.size)) (named (stock_window s ∷ []) (map (given_entry s.base s.size) pages)), head, here_or_not (s.pool.0 == b.pool) b.no k (numbers_from (k + 1) (length pages)) (times b (named (stock_window s ∷ []) (map (given_entry s.base s.size) pages))) tail)
  where
    plus : k + 0 ≡ k
    plus = omega arith

    shift : (i : ℕ) → k + suc i ≡ k + 1 + i
    shift i = omega arith

-- names of two lists
split : (b : Buffer) (ws : List Window) (xs ys : List Cargo) → times b (named ws (xs ++ ys)) ≡ times b (named ws xs) + times b (named ws ys)
split b ws [] ys = omega arith
split b ws (x ∷ xs) ys = omega (arith, split b ws xs ys, sum_by-cons (is_named b) (Rattle.owner_law.specs.Things.buffer_of ws x.0) (named ws (xs ++ ys)), sum_by-cons (is_named b) (Rattle.owner_law.specs.Things.buffer_of ws x.0) (named ws xs))

-- the buffers by which a stock began are named by its numbers
start_few : (s : Stock) (b : Buffer) (pages : List Paged) → IsStart s pages → times b (named (stock_window s ∷ []) (map (given_entry s.base s.size) pages)) ≤ count_by (λ x. x == b.no) (stock_numbers s b.pool)
start_few s b pages is =
    let stock = given_few s b pages 0 is.are_pool.some (λ i p at. is.are_pool.numbered i p at ∙ first i) (omega (arith, is.many)) in
    let many : count_by (λ x. x == b.no) (if s.pool.0 == b.pool then numbers_from 0 (length pages) else []) ≡ count_by (λ x. x == b.no) (if s.pool.0 == b.pool then numbers_from 0 s.buffers else []) = ap (λ n. count_by (λ x. x == b.no) (if s.pool.0 == b.pool then numbers_from 0 n else [])) is.many in
    omega (arith, stock, many)
  where
    first : (i : ℕ) → i ≡ 0 + i
    first i = omega arith

module _ (naming : Naming) (c : NetClient) (passed : Passed) (m : Moved) (names : ClientNames naming c) (items : AreItemsOf (client_ends c) passed m) (row : ClientRow c passed) where
  abbrev ws : List Window
  ws = stock_window c.stock ∷ []

  abbrev sending : List Window
  sending = stock_window c.outbox.stock ∷ []

  client_came : (f : Thing → ℕ) → sum_by f (all_taken naming m (client_ends c)) ≡ carried naming m (rx_active c) (m.taken (rx_active c)) f + carried naming m (tx_free c) (m.taken (tx_free c)) f
  client_came f =
      let parts : sum_by f (all_taken naming m (client_ends c)) ≡ 0 + carried naming m (rx_active c) (m.taken (rx_active c)) f + 0 + carried naming m (tx_free c) (m.taken (tx_free c)) f + 0 = sum_flat f (things_in naming m) (client_ends c) in
      omega (arith, parts)

  client_went : (f : Thing → ℕ) → sum_by f (all_put naming m (client_ends c)) ≡ carried naming m (rx_free c) (m.sent (rx_free c)) f + carried naming m (tx_active c) (m.sent (tx_active c)) f
  client_went f =
      let parts : sum_by f (all_put naming m (client_ends c)) ≡ 0 + 0 + carried naming m (rx_free c) (m.sent (rx_free c)) f + 0 + carried naming m (tx_active c) (m.sent (tx_active c)) f = sum_flat f (things_out naming m) (client_ends c) in
      omega (arith, parts)

  client_came_none : (f : Thing → ℕ) → f Nothing ≡ 0 → ((d : Buffer) → f (Whole d) ≡ 0) → sum_by f (all_taken naming m (client_ends c)) ≡ 0
  client_came_none f none whole = omega (arith, client_came f, buffers_none naming m (rx_active c) (m.taken (rx_active c)) ws f names.active none whole, buffers_none naming m (tx_free c) (m.taken (tx_free c)) sending f names.sent none whole)

  client_went_none : (f : Thing → ℕ) → f Nothing ≡ 0 → ((d : Buffer) → f (Whole d) ≡ 0) → sum_by f (all_put naming m (client_ends c)) ≡ 0
  client_went_none f none whole = omega (arith, client_went f, buffers_none naming m (rx_free c) (m.sent (rx_free c)) ws f names.free none whole, buffers_none naming m (tx_active c) (m.sent (tx_active c)) sending f names.sends none whole)

  client_buffers : (b : Buffer) → sum_by (as_buffer b) (all_put naming m (client_ends c)) ≤ at_start (client_start c) b + sum_by (as_buffer b) (all_taken naming m (client_ends c))
  client_buffers b =
      let into = buffers_are naming m (rx_active c) (m.taken (rx_active c)) ws (as_buffer b) b names.active refl (λ d. refl) ∙ ap (λ xs. times b (names_in ws xs)) (items 0 _ refl) in
      let out = buffers_are naming m (rx_free c) (m.sent (rx_free c)) ws (as_buffer b) b names.free refl (λ d. refl) ∙ ap (λ xs. times b (names_in ws xs)) (items 1 _ refl) in
      let back = buffers_are naming m (tx_free c) (m.taken (tx_free c)) sending (as_buffer b) b names.sent refl (λ d. refl) ∙ ap (λ xs. times b (names_in sending xs)) (items 2 _ refl) in
      let sends = buffers_are naming m (tx_active c) (m.sent (tx_active c)) sending (as_buffer b) b names.sends refl (λ d. refl) ∙ ap (λ xs. times b (names_in sending xs)) (items 3 _ refl) in
      let given = map (given_entry c.stock.base c.stock.size) row.start in
      let spare = map (given_entry c.outbox.stock.base c.outbox.stock.size) row.spare in
      omega (
        arith,
        client_came (as_buffer b),
        client_went (as_buffer b),
        into,
        out,
        back,
        sends,
        few b ws (passed.sent (rx_free c)) (given ++ passed.taken (rx_active c)) row.given,
        filled_few b sending (frames_out c.program (map frame_of (passed.taken (rx_active c)))) (passed.sent (tx_active c)) (spare ++ passed.taken (tx_free c)) row.sends.filled,
        split b ws given (passed.taken (rx_active c)),
        split b sending spare (passed.taken (tx_free c)),
        start_few c.stock b row.start row.is_start,
        start_few c.outbox.stock b row.spare row.is_spare,
        sum_by-append (λ x. cond {A = ℕ} (x == b.no) 1 0) (stock_numbers c.stock b.pool) (stock_numbers c.outbox.stock b.pool),
      )

  pub client_keeps : Keeps (client_start c) (all_taken naming m (client_ends c)) (all_put naming m (client_ends c))
  client_keeps = keeps_plain (client_start c) (all_taken naming m (client_ends c)) (all_put naming m (client_ends c))
      (λ b. client_came_none (lends b) refl (λ d. refl)) client_buffers
      (λ b. omega (arith, client_went_none (as_lease b) refl (λ d. refl)))
