use Rattle.std.proofs.Common.{◌≡◌, ◌≤◌, ◌+◌, ◌*◌, ◌++◌, ℕ, None, Some, Option, List, [], ◌∷◌, length, length-append, slice_get, sum_by, refl, sym, ap, ◌∙◌, arith}
use Rattle.std.specs.Option.{option_map, option_map_or}
use Rattle.std.proofs.lemmas.List.Sums.{sum_by-append}
use Rattle.wire_core.specs.declared.names.Entry.{Entry}
use Rattle.wire_core.specs.Journal.{History}
use Rattle.wire_core.specs.Marks.{sum_below, all_sent}
use Rattle.play_core.specs.Moved.{Moved, moved}
use Rattle.play_core.specs.Totals.{total}
use Rattle.sdf_plan.specs.declared.plan.Plan.{Plan}
use Rattle.sdf_plan.specs.declared.plan.Net.{Net}
use Rattle.sdf_plan.specs.declared.plan.NetClient.{NetClient}
use Rattle.sdf_plan.specs.declared.plan.Serial.{Serial}
use Rattle.sdf_plan.specs.declared.plan.SerialClient.{SerialClient}
use Rattle.sdf_plan.specs.declared.plan.Blk.{Blk}
use Rattle.sdf_plan.specs.declared.plan.BlkClient.{BlkClient}
use Rattle.trace_text.specs.declared.trace.Trace.{Trace}
use Rattle.trace_text.specs.Events.{net_clients}
use Rattle.region_layout.specs.Rows.{queues_of, net_queues, eth_rx_queues, eth_tx_queues, net_rx_queues, net_tx_queues, net_client_queues, lease_queues, client_rx_queues, client_tx_queues, queue_pair, serial_queues, blk_queues, uart_queues, shared_serial_queues, serial_client_queues, disk_queues, shared_blk_queues, blk_client_queues, each_client}
use Rattle.region_layout.proofs.SameLemmas.{queues_same}
use Rattle.expect_core.specs.Budgets.{counts_of, hops_of, clients_or_none, first_read_hops}
use Rattle.serial_law.specs.Serial.{SerialClass}
use Rattle.serial_law.specs.Hops.Hops.{put_to, serial_put}
use Rattle.net_law.specs.Hops.Hops.{net_put}
use Rattle.cast_bound.specs.PlayBound.Standing.{StandsFrom, serial_first, serial_many, blk_first, NetMoves, without_net, with_net, SerialMoves, without_serial, with_serial, BlkMoves, without_blk, with_blk}
use Rattle.cast_bound.proofs.PlayBound.Sums.{sum_pairs, put_sum}
use Rattle.net_law.proofs.HopsLemmas.Sums.{sum_parts}

clients_rows : (plan : Plan) (serial : Serial) (n : ℕ) (clients : List SerialClient) → length (each_client (serial_client_queues plan serial) n clients) ≡ 2 * length clients
unfolding serial_client_queues
clients_rows plan serial n [] = refl
clients_rows plan serial n (c ∷ cs) = let h = clients_rows plan serial (n + 1) cs in omega (arith, h)

serial_rows : (plan : Plan) (serial : Serial) → length (serial_queues plan serial) ≡ 4 + 2 * length serial.client
unfolding serial_queues uart_queues shared_serial_queues
serial_rows plan serial = let h = clients_rows plan serial 0 serial.client in omega (arith, h)

-- each client of the network has six queues
six_each : (plan : Plan) (net : Net) (n : ℕ) (clients : List NetClient) → length (each_client (net_client_queues plan net) n clients) ≡ 6 * length clients
unfolding net_client_queues lease_queues client_rx_queues client_tx_queues queue_pair
six_each plan net n [] = refl
six_each plan net n (c ∷ cs) = let h = six_each plan net (n + 1) cs in omega (arith, h)

net_rows : (plan : Plan) (net : Net) → length (net_queues plan net) ≡ 8 + 6 * length net.client
unfolding net_queues eth_rx_queues eth_tx_queues net_rx_queues net_tx_queues queue_pair
net_rows plan net = let h = six_each plan net 0 net.client in omega (arith, h)

rows_of_net : (plan : Plan) (net : Option Net) → length (option_map_or (net_queues plan) net []) ≡ serial_first net
rows_of_net plan None = refl
rows_of_net plan (Some net) = net_rows plan net

rows_of_serial : (plan : Plan) (serial : Option Serial) → length (option_map_or (serial_queues plan) serial []) ≡ serial_many serial
rows_of_serial plan None = refl
rows_of_serial plan (Some serial) = serial_rows plan serial

-- each client of the block class has two queues
two_each : (plan : Plan) (blk : Blk) (n : ℕ) (clients : List BlkClient) → length (each_client (blk_client_queues plan blk) n clients) ≡ 2 * length clients
unfolding blk_client_queues queue_pair
two_each plan blk n [] = refl
two_each plan blk n (c ∷ cs) = let h = two_each plan blk (n + 1) cs in omega (arith, h)

blk_rows : (plan : Plan) (blk : Blk) → length (blk_queues plan blk) ≡ 4 + 2 * length blk.client
unfolding blk_queues disk_queues shared_blk_queues queue_pair
blk_rows plan blk = let h = two_each plan blk 0 blk.client in omega (arith, h)

-- the rows of a plan
rows_count : (plan : Plan) → length (queues_of plan) ≡ blk_first plan + length (option_map_or (blk_queues plan) plan.blk [])
rows_count plan =
    let same = ap length (queues_same plan) in
    let front = option_map_or (net_queues plan) plan.net [] in
    let serial = option_map_or (serial_queues plan) plan.serial [] in
    let a = length-append (front ++ serial) (option_map_or (blk_queues plan) plan.blk []) in
    let b = length-append front serial in
    let c = rows_of_net plan plan.net in
    let d = rows_of_serial plan plan.serial in
    omega (arith, same, a, b, c, d)

total_sum : {T : Type 0} (lists : List (List T)) → total lists ≡ sum_by length lists
total_sum [] = refl
total_sum (l ∷ ls) = let a = sum_by-append length (l ∷ []) ls in let h = total_sum ls in omega (arith, a, h)

module _ (m : Moved) (first count : ℕ) (c : SerialClass) (stands : StandsFrom first count c) where
  abbrev put : ℕ → ℕ
  put n = length (m.sent (first + n))

  abbrev rest : ℕ → ℕ
  rest n = put (4 + n)

  given : sum_below (λ n. rest (2 * n)) count ≤ put_to c.client_rx m
  given =
      let each = λ (k q : ℕ) (at : slice_get c.client_rx k ≡ Some q). same k q at in
      let a = put_sum m (λ n. rest (2 * n)) 0 c.client_rx each in
      let size : sum_below (λ n. rest (2 * n)) (0 + length c.client_rx) ≡ sum_below (λ n. rest (2 * n)) count = ap (sum_below (λ n. rest (2 * n))) (let e = stands.rx_count in omega (arith, e)) in
      omega (arith, a, size)
    where
      same : (k q : ℕ) → slice_get c.client_rx k ≡ Some q → rest (2 * (0 + k)) ≤ length (m.sent q)
      same k q at = let e = stands.client_rx k q at in let f : rest (2 * (0 + k)) ≡ length (m.sent q) = ap (λ n. length (m.sent n)) (omega (arith, e)) in omega (arith, f)

  said : sum_below (λ n. rest (1 + 2 * n)) count ≤ put_to c.client_tx m
  said =
      let each = λ (k q : ℕ) (at : slice_get c.client_tx k ≡ Some q). same k q at in
      let a = put_sum m (λ n. rest (1 + 2 * n)) 0 c.client_tx each in
      let size : sum_below (λ n. rest (1 + 2 * n)) (0 + length c.client_tx) ≡ sum_below (λ n. rest (1 + 2 * n)) count = ap (sum_below (λ n. rest (1 + 2 * n))) (let e = stands.tx_count in omega (arith, e)) in
      omega (arith, a, size)
    where
      same : (k q : ℕ) → slice_get c.client_tx k ≡ Some q → rest (1 + 2 * (0 + k)) ≤ length (m.sent q)
      same k q at = let e = stands.client_tx k q at in let f : rest (1 + 2 * (0 + k)) ≡ length (m.sent q) = ap (λ n. length (m.sent n)) (omega (arith, e)) in omega (arith, f)

  -- what was put to the queues of the class, by their numbers
  pub put_all : sum_below put (4 + 2 * count) ≤ serial_put c m
  put_all =
      let parts = sum_parts put 4 (2 * count) in
      let pairs = sum_pairs rest count in
      let a : put 0 ≡ length (m.sent c.device_rx) = ap (λ n. length (m.sent n)) (let z = stands.device_rx in omega (arith, z)) in
      let b : put 1 ≡ length (m.sent c.device_tx) = ap (λ n. length (m.sent n)) (sym stands.device_tx) in
      let d : put 2 ≡ length (m.sent c.rx) = ap (λ n. length (m.sent n)) (sym stands.rx) in
      let e : put 3 ≡ length (m.sent c.tx) = ap (λ n. length (m.sent n)) (sym stands.tx) in
      omega (arith, parts, pairs, a, b, d, e, given, said)

-- how many entries were put to queues by their numbers
abbrev put_at : Moved → ℕ → ℕ
put_at m n = length (m.sent n)

-- the moves that the budget counts for the network, and for the serial class
abbrev net_hops : Plan → Trace → ℕ
net_hops plan trace =
    let c = counts_of plan trace in
    (4 + 10 * clients_or_none c.net) * c.frames + 6 * c.sends + 2 * c.device_buffers + c.client_buffers

from_none : (n : ℕ) → n ≡ 0 + n
from_none n = omega arith

-- no more is put to the network's queues than is counted, with what is dropped there
net_within : (plan : Plan) (trace : Trace) (gone : ℕ) (m : Moved) → NetMoves plan trace gone m → sum_below (put_at m) (serial_first plan.net) + gone ≤ net_hops plan trace
net_within plan trace gone m (without_net none nothing) =
    let e : sum_below (put_at m) (serial_first plan.net) ≡ 0 = ap (λ n. sum_below (put_at m) (serial_first n)) none in
    omega (arith, e, nothing)
net_within plan trace gone m (with_net net place is stands few) =
    let size : sum_below (put_at m) (serial_first plan.net) ≡ sum_below (put_at m) (8 + 6 * length net.client) = ap (λ n. sum_below (put_at m) (serial_first n)) is in
    let many : sum_below (put_at m) (8 + 6 * length net.client) ≡ net_put place.first (length place.macs) m =
    (λ i. sum_below (λ n. length (m.sent (from_none n i))) (8 + 6 * length net.client)) ∙ (λ i. sum_below (λ n. length (m.sent (sym stands.first i + n))) (8 + 6 * sym stands.clients i)) in
    let clients : clients_or_none (option_map (λ (n : Net). length n.client) plan.net) ≡ length place.macs = ap (λ n. clients_or_none (option_map (λ (x : Net). length x.client) n)) is ∙ sym stands.clients in
    let product : (4 + 10 * clients_or_none (option_map (λ (n : Net). length n.client) plan.net)) * length trace.frames ≡ (4 + 10 * length place.macs) * length trace.frames = ap (λ n. (4 + 10 * n) * length trace.frames) clients in
    let pool : option_map_or (λ (n : Net). n.rx_buffers) plan.net 0 ≡ net.rx_buffers = ap (λ n. option_map_or (λ (x : Net). x.rx_buffers) n 0) is in
    let buffers : sum_by (λ (c : NetClient). c.rx_buffers) (net_clients plan) ≡ sum_by (λ (c : NetClient). c.rx_buffers) net.client = ap (λ n. sum_by (λ (c : NetClient). c.rx_buffers) (option_map_or (λ (x : Net). x.client) n [])) is in
    let s = stands.scripts in
    let p = stands.pool in
    let b = stands.buffers in
    omega (arith, size, many, few, product, pool, buffers, s, p, b)

-- nor to the serial class's, with what is dropped there
serial_within : (plan : Plan) (trace : Trace) (gone : ℕ) (m : Moved) → SerialMoves plan trace gone m → sum_below (λ n. put_at m (serial_first plan.net + n)) (serial_many plan.serial) + gone ≤ 3 * (length trace.input + sum_by length trace.says)
serial_within plan trace gone m (without_serial none nothing) =
    let e : sum_below (λ n. put_at m (serial_first plan.net + n)) (serial_many plan.serial) ≡ 0 = ap (λ s. sum_below (λ n. put_at m (serial_first plan.net + n)) (serial_many s)) none in
    omega (arith, e, nothing)
serial_within plan trace gone m (with_serial serial class is stands has few) =
    let size : sum_below (λ n. put_at m (serial_first plan.net + n)) (serial_many plan.serial) ≡ sum_below (λ n. put_at m (serial_first plan.net + n)) (4 + 2 * length serial.client) = ap (λ s. sum_below (λ n. put_at m (serial_first plan.net + n)) (serial_many s)) is in
    let all = put_all m (serial_first plan.net) (length serial.client) class stands in
    let i : length class.input ≡ length trace.input = ap length has.input in
    let s : total class.scripts ≡ total trace.says = ap total has.scripts in
    let t = total_sum trace.says in
    omega (arith, size, all, few, i, s, t)

-- nor to the block class's
blk_within : (plan : Plan) (trace : Trace) (m : Moved) → BlkMoves plan trace m → sum_below (λ n. put_at m (blk_first plan + n)) (length (option_map_or (blk_queues plan) plan.blk [])) ≤ 6 * sum_by length trace.asks + first_read_hops (option_map (λ (blk : Blk). length blk.client) plan.blk)
blk_within plan trace m (without_blk none) =
    let e : sum_below (λ n. put_at m (blk_first plan + n)) (length (option_map_or (blk_queues plan) plan.blk [])) ≡ 0 = ap (λ b. sum_below (λ n. put_at m (blk_first plan + n)) (length (option_map_or (blk_queues plan) b []))) none in
    omega (arith, e)
blk_within plan trace m (with_blk blk is few) =
    let rows : length (option_map_or (blk_queues plan) plan.blk []) ≡ 4 + 2 * length blk.client = ap (λ b. length (option_map_or (blk_queues plan) b [])) is ∙ blk_rows plan blk in
    let size : sum_below (λ n. put_at m (blk_first plan + n)) (length (option_map_or (blk_queues plan) plan.blk [])) ≡ sum_below (λ n. put_at m (blk_first plan + n)) (4 + 2 * length blk.client) = ap (sum_below (λ n. put_at m (blk_first plan + n))) rows in
    let read : first_read_hops (option_map (λ (b : Blk). length b.client) plan.blk) ≡ 4 = ap (λ b. first_read_hops (option_map (λ (x : Blk). length x.client) b)) is in
    omega (arith, size, few, read)

pub classes_within : (plan : Plan) (trace : Trace) (history : History) (journal : List Entry) (frames bytes : ℕ) → NetMoves plan trace frames (moved history journal) → SerialMoves plan trace bytes (moved history journal) → BlkMoves plan trace (moved history journal) → all_sent history (queues_of plan) journal + (frames + bytes) ≤ hops_of (counts_of plan trace)
classes_within plan trace history journal frames bytes net serial blk =
    let f = put_at (moved history journal) in
    let many = length (option_map_or (blk_queues plan) plan.blk []) in
    let size : all_sent history (queues_of plan) journal ≡ sum_below f (blk_first plan + many) = ap (sum_below f) (rows_count plan) in
    let parts = sum_parts f (blk_first plan) many in
    let fronts = sum_parts f (serial_first plan.net) (serial_many plan.serial) in
    let a = net_within plan trace frames (moved history journal) net in
    let b = serial_within plan trace bytes (moved history journal) serial in
    let c = blk_within plan trace (moved history journal) blk in
    omega (arith, size, parts, fronts, a, b, c)
