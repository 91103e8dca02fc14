use Rattle.std.proofs.Common.{◌≡◌, ◌+◌, ◌≤◌, ℕ, [], ◌∷◌, List, length, map, ap, ◌∙◌, arith}
use Rattle.std.specs.Option.{option_to_list}
use Rattle.cargo_core.specs.declared.item.PoolId.{PoolId}
use Rattle.cargo_core.specs.Bodies.{buffers_of}
use Rattle.wire_core.specs.Deeds.{Cargo}
use Rattle.wire_core.specs.Lists.{Passed}
use Rattle.turn_kit.specs.Hands.{bodies_of}
use Rattle.turn_kit.proofs.Holding.{at_one, at_more, buffers-append, cargo-append}
use Rattle.buffer_kit.specs.Pools.{given_entry, page_bodies}
use Rattle.buffer_kit.specs.Stocks.{stock_list, stock_hand}
use Rattle.buffer_kit.proofs.Counts.{stock_count, given_count, all_filled_in}
use Rattle.client_programs.specs.declared.net.NetClient.{NetClient}
use Rattle.client_programs.specs.declared.net.outbox.Outbox.{Outbox}
use Rattle.client_programs.specs.Net.Sending.{OutboxStandsFor, outbox_hand}
use Rattle.client_programs.specs.Net.Clients.{ClientStandsFor, ClientBalances, client_hand, client_owes, client_frames, rx_active, rx_free, tx_active, tx_free}

-- what a sending side has, part by part
pub outbox_count : (pool : PoolId) (o : Outbox) → buffers_of pool (outbox_hand o) ≡ buffers_of pool (bodies_of (option_to_list o.load)) + buffers_of pool (stock_hand o.stock)
outbox_count pool o = buffers-append pool (bodies_of (option_to_list o.load)) (stock_hand o.stock)

-- what a client has, part by part
pub hand_count : (pool : PoolId) (c : NetClient) → buffers_of pool (client_hand c) ≡ (buffers_of pool (stock_hand c.stock) + buffers_of pool (bodies_of (option_to_list c.frames.pipe.load))) + buffers_of pool (outbox_hand c.outbox)
hand_count pool c =
    let all = buffers-append pool (bodies_of (client_owes c)) (outbox_hand c.outbox) in
    let owes = cargo-append pool (stock_list c.stock) (option_to_list c.frames.pipe.load) in
    let stock = stock_count pool c.stock in
    omega (arith, all, owes, stock)

-- what a sending side had and what came back is what was put and what it has
outbox_balance : (pool : PoolId) (o : Outbox) (fs : List (List ℕ)) (back put : List Cargo) (h : OutboxStandsFor o fs back put) → buffers_of pool (page_bodies h.start) + buffers_of pool (bodies_of back) ≡ buffers_of pool (bodies_of put) + buffers_of pool (outbox_hand o)
outbox_balance pool o fs back put h =
    let few : length h.used ≤ length fs = omega (arith, h.many, h.few) in
    let had = ap (λ cs. buffers_of pool (bodies_of cs)) h.had in
    let came = cargo-append pool (map (given_entry o.stock.base o.stock.size) h.start) back in
    let start = given_count pool o.stock.base o.stock.size h.start in
    let parts = cargo-append pool h.used (stock_list o.stock) in
    let filled = ap (λ cs. buffers_of pool (bodies_of cs)) h.filled ∙ all_filled_in pool fs h.used few in
    let went = cargo-append pool put (option_to_list o.load) in
    omega (arith, had, came, start, parts, filled, went, stock_count pool o.stock, outbox_count pool o)

pub balance_of : (c : NetClient) (passed : Passed) → ClientStandsFor c passed → ClientBalances c passed
balance_of c passed h = record {
  start = h.start;
  is_start = h.is_start;
  spare = h.sends.start;
  is_spare = h.sends.is_start;
  balances = λ pool.
      let came = at_more pool passed.taken (rx_active c) (tx_free c ∷ []) in
      let came' = at_one pool passed.taken (tx_free c) in
      let went = at_more pool passed.sent (rx_free c) (tx_active c ∷ []) in
      let went' = at_one pool passed.sent (tx_active c) in
      let all = ap (λ cs. buffers_of pool (bodies_of cs)) h.given in
      let put = cargo-append pool (passed.sent (rx_free c)) (client_owes c) in
      let got = cargo-append pool (map (given_entry c.stock.base c.stock.size) h.start) (passed.taken (rx_active c)) in
      let start = given_count pool c.stock.base c.stock.size h.start in
      let had = buffers-append pool (page_bodies h.start) (page_bodies h.sends.start) in
      let sends = outbox_balance pool c.outbox (client_frames c) (passed.taken (tx_free c)) (passed.sent (tx_active c)) h.sends in
      let hand = buffers-append pool (bodies_of (client_owes c)) (outbox_hand c.outbox) in
      omega (arith, came, came', went, went', all, put, got, start, had, sends, hand);
}
