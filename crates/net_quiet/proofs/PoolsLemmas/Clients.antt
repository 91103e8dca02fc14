use Rattle.std.proofs.Common.{◌≡◌, ◌==◌, cond, ◌<◌, ℕ, zero, suc, List, [], ◌∷◌, ◌++◌, map, refl, sym, ap, ◌∙◌, subst, arith, inl, length-append}
use Rattle.cargo_core.specs.declared.item.PoolId.{PoolId}
use Rattle.cargo_core.specs.Pages.{Paged}
use Rattle.wire_core.specs.Deeds.{Cargo}
use Rattle.wire_core.specs.Lists.{Passed}
use Rattle.play_core.specs.Moved.{Moved, Seat}
use Rattle.play_core.specs.Sheets.{Scene}
use Rattle.play_core.specs.Wants.{intake, outlet}
use Rattle.play_core.proofs.Lists.{map_from, there_below}
use Rattle.owner_law.specs.Things.{Naming, Window, Buffers}
use Rattle.turn_kit.proofs.Holding.{buffers-append}
use Rattle.buffer_kit.specs.Entries.{all_filled, frame_of}
use Rattle.buffer_kit.specs.Pools.{given_entry, page_bodies}
use Rattle.buffer_kit.specs.Stocks.{IsStart}
use Rattle.buffer_kit.specs.declared.stock.Stock.{Stock}
use Rattle.client_programs.specs.Net.Programs.{frames_out}
use Rattle.client_programs.specs.Net.Clients.{rx_active, rx_free, tx_active, tx_free, ClientRow, ClientBalances, client_hand}
use Rattle.client_programs.specs.declared.net.NetClient.{NetClient}
use Rattle.owner_law.specs.Pools.Places.{by_offset, pool_hand}
use Rattle.net_law.specs.Owners.Ends.{stock_window}
use Rattle.net_law.specs.Parts.Naming.{NamesPart}
use Rattle.net_law.specs.Parts.Playing.{client_part, stock_pool, HasBuffers}
use Rattle.net_law.specs.Parts.Table.{net_sheet}
use Rattle.owner_law.specs.Pools.Handing.{AllCarry, HandsOn}
use Rattle.owner_law.specs.Pools.Lines.{HoldsIts}
use Rattle.owner_law.proofs.PoolsLemmas.Lining.{LendsNone, lent_away}
use Rattle.owner_law.proofs.PoolsLemmas.Merging.{Each, each_first}
use Rattle.net_quiet.specs.Pools.Holders.{holder_of, no_lent}
use Rattle.net_quiet.proofs.PoolsLemmas.Carrying.{HasPage, page_carries, carries_page, filled_at, filled_page, takes_here, takes_rest, puts_none, puts_in, puts_out}
use Rattle.net_quiet.proofs.PoolsLemmas.Holding.{lends_none, lends_in, lends_out, buffers_stay}
use Rattle.net_quiet.proofs.PoolsLemmas.Lending.{pages_many, hand_many}
use Rattle.net_quiet.proofs.PoolsLemmas.Receiving.{page_named}

-- the entries by which a stock's buffers are first given have the pages that they name
start_page : (s : Stock) (start : List Paged) → IsStart s start → Each (HasPage (stock_window s ∷ [])) (map (given_entry s.base s.size) start)
start_page s start is k c at =
    let x = map_from (given_entry s.base s.size) start k c at in
    let lt : x.0.no < s.buffers = omega (arith, is.are_pool.numbered k x.0 x.1, there_below start k x.0 x.1, is.many) in
    subst (HasPage (stock_window s ∷ [])) x.2 (page_named (stock_window s) (given_entry s.base s.size x.0).0 x.0 is.are_pool.some refl (ap (λ (p : PoolId). p.0) (is.are_pool.same_pool k x.0 x.1)) lt refl)

each_joined : (P : Cargo → Type 0) (xs ys : List Cargo) → Each P xs → Each P ys → Each P (xs ++ ys)
each_joined P [] ys all more k c at = more k c at
each_joined P (x ∷ xs) ys all more zero c at = all 0 c at
each_joined P (x ∷ xs) ys all more (suc k) c at = each_joined P xs ys (λ j d d_at. all (suc j) d d_at) more k c at

each_filled : (ws : List Window) (fs : List (List ℕ)) (cs : List Cargo) → Each (HasPage ws) cs → Each (HasPage ws) (all_filled fs cs)
each_filled ws fs cs all k c at =
    let x = filled_at fs cs k c at in
    subst (HasPage ws) x.3 (filled_page ws x.0 x.1 (all k x.1 x.2))

-- a stock whose buffers begin at offset 0
window_is : (s : Stock) → s.base ≡ 0 → stock_window s ≡ by_offset (stock_pool s)
window_is s base = ap (λ n. let y : Window = record { pool = s.pool.0; base = n; size = s.size; buffers = s.buffers } in y) base

module _ (naming : Naming) (scene : Scene) (passed : Passed) (m : Moved) (c : NetClient) (names : NamesPart naming scene (client_part c)) where
  abbrev rx : List Window
  rx = by_offset (stock_pool c.stock) ∷ []

  abbrev tx : List Window
  tx = by_offset (stock_pool c.outbox.stock) ∷ []

  carry_all : (ws : List Window) (n : ℕ) → naming n ≡ Buffers ws → (cs : List Cargo) → Each (HasPage ws) cs → AllCarry naming m n cs
  carry_all ws n named cs all k x at = page_carries naming m ws n (inl named) k x (all k x at)

  all_carried : (ws : List Window) (n : ℕ) → naming n ≡ Buffers ws → (cs : List Cargo) → AllCarry naming m n cs → Each (HasPage ws) cs
  all_carried ws n named cs carry k x at = carries_page naming m ws n (inl named) k x (carry k x at)

  -- what it gives are its own buffers, and then those that came
  gives_on : HasBuffers c → ClientRow c passed → AllCarry naming m (rx_active c) (passed.taken (rx_active c)) → AllCarry naming m (rx_free c) (passed.sent (rx_free c))
  gives_on has row came =
      let own : Each (HasPage rx) (map (given_entry c.stock.base c.stock.size) row.start) = subst (λ (w : Window). Each (HasPage (w ∷ [])) (map (given_entry c.stock.base c.stock.size) row.start)) (window_is c.stock has.base) (start_page c.stock row.start row.is_start) in
      let all = each_joined (HasPage rx) (map (given_entry c.stock.base c.stock.size) row.start) (passed.taken (rx_active c)) own (all_carried rx (rx_active c) names.0.0 (passed.taken (rx_active c)) came) in
      carry_all rx (rx_free c) names.0.1 (passed.sent (rx_free c)) (each_first (HasPage rx) (passed.sent (rx_free c)) (map (given_entry c.stock.base c.stock.size) row.start ++ passed.taken (rx_active c)) row.given all)

  -- it sends in buffers of its own, and in those that came back
  sends_on : HasBuffers c → ClientRow c passed → AllCarry naming m (tx_free c) (passed.taken (tx_free c)) → AllCarry naming m (tx_active c) (passed.sent (tx_active c))
  sends_on has row back =
      let spare = map (given_entry c.outbox.stock.base c.outbox.stock.size) row.spare in
      let frames : List (List ℕ) = frames_out c.program (map frame_of (passed.taken (rx_active c))) in
      let own : Each (HasPage tx) spare = subst (λ (w : Window). Each (HasPage (w ∷ [])) spare) (window_is c.outbox.stock has.spare_base) (start_page c.outbox.stock row.spare row.is_spare) in
      let all = each_joined (HasPage tx) spare (passed.taken (tx_free c)) own (all_carried tx (tx_free c) names.1.1 (passed.taken (tx_free c)) back) in
      carry_all tx (tx_active c) names.1.0 (passed.sent (tx_active c)) (each_first (HasPage tx) (passed.sent (tx_active c)) (all_filled frames (spare ++ passed.taken (tx_free c))) row.sends.filled (each_filled tx frames (spare ++ passed.taken (tx_free c)) all))

  pub client_on : HasBuffers c → ClientRow c passed → HandsOn naming m passed (net_sheet scene (client_part c)).ends
  client_on has row takes =
      let third : List Seat = outlet (tx_active c) ∷ [] in
      let second : List Seat = intake (tx_free c) ∷ third in
      let first : List Seat = outlet (rx_free c) ∷ second in
      let came = takes_here naming m passed (rx_active c) first takes in
      let back = takes_here naming m passed (tx_free c) third (takes_rest naming m passed (outlet (rx_free c)) second (takes_rest naming m passed (intake (rx_active c)) first takes)) in
      puts_in naming m passed (rx_active c) first (puts_out naming m passed (rx_free c) second (gives_on has row came)
      (puts_in naming m passed (tx_free c) third (puts_out naming m passed (tx_active c) [] (sends_on has row back) (puts_none naming m passed))))

  pub client_holds : (sizes : ℕ → ℕ) → ClientBalances c passed → HoldsIts naming sizes m passed (holder_of (net_sheet scene (client_part c)) (client_hand c) no_lent)
  client_holds sizes balance =
      let third : List Seat = outlet (tx_active c) ∷ [] in
      let second : List Seat = intake (tx_free c) ∷ third in
      let first : List Seat = outlet (rx_free c) ∷ second in
      let lends : LendsNone naming (net_sheet scene (client_part c)).ends =
      lends_in naming (rx_active c) first (buffers_stay naming (rx_active c) rx names.0.0) (lends_out naming (rx_free c) second (lends_in naming (tx_free c) third (buffers_stay naming (tx_free c) tx names.1.1) (lends_out naming (tx_active c) [] (lends_none naming)))) in
      record {
        balances = λ pool.
            let start = pages_many pool c.stock.pool balance.start balance.is_start.are_pool.same_pool ∙ ap (λ n. cond (c.stock.pool.0 == pool.0) n 0) balance.is_start.many in
            let spare = pages_many pool c.outbox.stock.pool balance.spare balance.is_spare.are_pool.same_pool ∙ ap (λ n. cond (c.outbox.stock.pool.0 == pool.0) n 0) balance.is_spare.many in
            let both = buffers-append pool (page_bodies balance.start) (page_bodies balance.spare) in
            let hands = length-append (pool_hand (stock_pool c.stock) pool.0) (pool_hand (stock_pool c.outbox.stock) pool.0) in
            omega (arith, balance.balances pool, start, spare, both, hands, hand_many c.stock.pool c.stock.buffers pool, hand_many c.outbox.stock.pool c.outbox.stock.buffers pool);
        lends = λ pool. sym (lent_away naming m (net_sheet scene (client_part c)).ends lends pool (sizes pool));
      }
