use Rattle.std.proofs.Common.{◌≡◌, ◌==◌, ◌+◌, ◌*◌, ◌++◌, ℕ, Some, None, Option, List, [], ◌∷◌, length, flat_map, ap, arith}
use Rattle.sdf_plan.specs.declared.plan.Plan.{Plan}
use Rattle.sdf_plan.specs.declared.plan.Net.{Net}
use Rattle.sdf_plan.specs.declared.plan.NetClient.{NetClient}
use Rattle.sdf_plan.specs.declared.plan.Serial.{Serial}
use Rattle.sdf_plan.specs.declared.plan.SerialClient.{SerialClient}
use Rattle.sdf_plan.specs.declared.plan.Blk.{Blk}
use Rattle.sdf_plan.specs.declared.plan.BlkClient.{BlkClient}
use Rattle.region_layout.specs.Rows.{actor_named, eth_number, uart_number, disk_number, queue_in, queue_pair, each_client, eth_rx_queues, eth_tx_queues, net_rx_queues, net_tx_queues, lease_queues, client_rx_queues, client_tx_queues, net_client_queues, net_queues, uart_queues, shared_serial_queues, serial_client_queues, serial_queues, disk_queues, shared_blk_queues, blk_client_queues, blk_queues}
use Rattle.layout_laws.specs.RegionLaws.Budgets.Ends.{ends_of}
use Rattle.layout_laws.proofs.RegionLaws.BudgetsLemmas.Weights.{many, Weights, weight, many_bits, many_one, many_none, many_2, many_4, many_8, ends_both, weight_both}

module _ (plan : Plan) where
  abbrev pub num : List ℕ → ℕ
  num name = (actor_named plan name).0

  -- how many ends each actor of the network class has, by the domain that it is
  abbrev pub net_client_weights : NetClient → Weights
  net_client_weights x = (num x.pd, 4) ∷ (num x.copier, 4) ∷ []

  abbrev pub net_weights : Net → Weights
  net_weights x = ((num x.driver, 8) ∷ (num x.rx_virt, 2 + 2 * length x.client) ∷ (num x.tx_virt, 2 + 2 * length x.client) ∷ []) ++ flat_map net_client_weights x.client

  abbrev pub serial_client_weights : SerialClient → Weights
  serial_client_weights x = (num x.pd, 2) ∷ []

  abbrev pub serial_weights : Serial → Weights
  serial_weights x = ((num x.driver, 4) ∷ (num x.rx_virt, 1 + length x.client) ∷ (num x.tx_virt, 1 + length x.client) ∷ []) ++ flat_map serial_client_weights x.client

  abbrev pub blk_client_weights : BlkClient → Weights
  blk_client_weights x = (num x.pd, 2) ∷ []

  abbrev pub blk_weights : Blk → Weights
  blk_weights x = ((num x.driver, 4) ∷ (num x.virt, 2 + 2 * length x.client) ∷ []) ++ flat_map blk_client_weights x.client

  -- and each device
  abbrev pub net_devices : Option Net → Weights
  net_devices None = []
  net_devices (Some x) = ((eth_number plan).0, 4) ∷ []

  abbrev pub serial_devices : Option Serial → Weights
  serial_devices None = []
  serial_devices (Some x) = ((uart_number plan).0, 2) ∷ []

  abbrev pub blk_devices : Option Blk → Weights
  blk_devices None = []
  blk_devices (Some x) = ((disk_number plan).0, 2) ∷ []

  module _ (k : ℕ) where
    net_client_ends : (net : Net) (c : ℕ) (x : NetClient) → ends_of k (net_client_queues plan net c x) ≡ many (num net.rx_virt == k) 2 + many (num net.tx_virt == k) 2 + weight k (net_client_weights x)
    unfolding net_client_queues lease_queues client_rx_queues client_tx_queues queue_pair queue_in
    net_client_ends net c x =
        let r = many_2 (num net.rx_virt == k) in
        let t = many_2 (num net.tx_virt == k) in
        let p = many_4 (num x.pd == k) in
        let q = many_4 (num x.copier == k) in
        omega (arith, r, t, p, q)

    net_clients_ends : (net : Net) (from : ℕ) (clients : List NetClient) → ends_of k (each_client (net_client_queues plan net) from clients) ≡ many (num net.rx_virt == k) (2 * length clients) + many (num net.tx_virt == k) (2 * length clients) + weight k (flat_map net_client_weights clients)
    net_clients_ends net from [] = let r = many_none (num net.rx_virt == k) in let t = many_none (num net.tx_virt == k) in omega (arith, r, t)
    net_clients_ends net from (x ∷ rest) =
        let two : 2 * length (x ∷ rest) ≡ 2 + 2 * length rest = omega arith in
        let r = many_bits (num net.rx_virt == k) 2 (2 * length rest) in
        let t = many_bits (num net.tx_virt == k) 2 (2 * length rest) in
        let r' : many (num net.rx_virt == k) (2 * length (x ∷ rest)) ≡ many (num net.rx_virt == k) (2 + 2 * length rest) = ap (λ n. many (num net.rx_virt == k) n) two in
        let t' : many (num net.tx_virt == k) (2 * length (x ∷ rest)) ≡ many (num net.tx_virt == k) (2 + 2 * length rest) = ap (λ n. many (num net.tx_virt == k) n) two in
        let one = net_client_ends net from x in
        let later = net_clients_ends net (from + 1) rest in
        let all = ends_both k (net_client_queues plan net from x) (each_client (net_client_queues plan net) (from + 1) rest) in
        let ws = weight_both k (net_client_weights x) (flat_map net_client_weights rest) in
        omega (arith, r, t, r', t', one, later, all, ws)

    pub net_ends : (net : Net) → ends_of k (net_queues plan net) ≡ many ((eth_number plan).0 == k) 4 + weight k (net_weights net)
    unfolding net_queues eth_rx_queues eth_tx_queues net_rx_queues net_tx_queues queue_pair queue_in
    net_ends net =
        let e = many_4 ((eth_number plan).0 == k) in
        let d = many_8 (num net.driver == k) in
        let r = many_bits (num net.rx_virt == k) 2 (2 * length net.client) in
        let t = many_bits (num net.tx_virt == k) 2 (2 * length net.client) in
        let r2 = many_2 (num net.rx_virt == k) in
        let t2 = many_2 (num net.tx_virt == k) in
        let later = net_clients_ends net 0 net.client in
        omega (arith, e, d, r, t, r2, t2, later)

    serial_client_ends : (serial : Serial) (c : ℕ) (x : SerialClient) → ends_of k (serial_client_queues plan serial c x) ≡ many (num serial.rx_virt == k) 1 + many (num serial.tx_virt == k) 1 + weight k (serial_client_weights x)
    unfolding serial_client_queues queue_in
    serial_client_ends serial c x =
        let r = many_one (num serial.rx_virt == k) in
        let t = many_one (num serial.tx_virt == k) in
        let p = many_2 (num x.pd == k) in
        omega (arith, r, t, p)

    serial_clients_ends : (serial : Serial) (from : ℕ) (clients : List SerialClient) → ends_of k (each_client (serial_client_queues plan serial) from clients) ≡ many (num serial.rx_virt == k) (length clients) + many (num serial.tx_virt == k) (length clients) + weight k (flat_map serial_client_weights clients)
    serial_clients_ends serial from [] = let r = many_none (num serial.rx_virt == k) in let t = many_none (num serial.tx_virt == k) in omega (arith, r, t)
    serial_clients_ends serial from (x ∷ rest) =
        let two : length (x ∷ rest) ≡ 1 + length rest = omega arith in
        let r = many_bits (num serial.rx_virt == k) 1 (length rest) in
        let t = many_bits (num serial.tx_virt == k) 1 (length rest) in
        let r' : many (num serial.rx_virt == k) (length (x ∷ rest)) ≡ many (num serial.rx_virt == k) (1 + length rest) = ap (λ n. many (num serial.rx_virt == k) n) two in
        let t' : many (num serial.tx_virt == k) (length (x ∷ rest)) ≡ many (num serial.tx_virt == k) (1 + length rest) = ap (λ n. many (num serial.tx_virt == k) n) two in
        let one = serial_client_ends serial from x in
        let later = serial_clients_ends serial (from + 1) rest in
        let all = ends_both k (serial_client_queues plan serial from x) (each_client (serial_client_queues plan serial) (from + 1) rest) in
        let ws = weight_both k (serial_client_weights x) (flat_map serial_client_weights rest) in
        omega (arith, r, t, r', t', one, later, all, ws)

    pub serial_ends : (serial : Serial) → ends_of k (serial_queues plan serial) ≡ many ((uart_number plan).0 == k) 2 + weight k (serial_weights serial)
    unfolding serial_queues uart_queues shared_serial_queues queue_in
    serial_ends serial =
        let u = many_2 ((uart_number plan).0 == k) in
        let d = many_4 (num serial.driver == k) in
        let r = many_bits (num serial.rx_virt == k) 1 (length serial.client) in
        let t = many_bits (num serial.tx_virt == k) 1 (length serial.client) in
        let r1 = many_one (num serial.rx_virt == k) in
        let t1 = many_one (num serial.tx_virt == k) in
        let later = serial_clients_ends serial 0 serial.client in
        omega (arith, u, d, r, t, r1, t1, later)

    blk_client_ends : (blk : Blk) (c : ℕ) (x : BlkClient) → ends_of k (blk_client_queues plan blk c x) ≡ many (num blk.virt == k) 2 + weight k (blk_client_weights x)
    unfolding blk_client_queues queue_pair queue_in
    blk_client_ends blk c x =
        let v = many_2 (num blk.virt == k) in
        let p = many_2 (num x.pd == k) in
        omega (arith, v, p)

    blk_clients_ends : (blk : Blk) (from : ℕ) (clients : List BlkClient) → ends_of k (each_client (blk_client_queues plan blk) from clients) ≡ many (num blk.virt == k) (2 * length clients) + weight k (flat_map blk_client_weights clients)
    blk_clients_ends blk from [] = let v = many_none (num blk.virt == k) in omega (arith, v)
    blk_clients_ends blk from (x ∷ rest) =
        let two : 2 * length (x ∷ rest) ≡ 2 + 2 * length rest = omega arith in
        let v = many_bits (num blk.virt == k) 2 (2 * length rest) in
        let v' : many (num blk.virt == k) (2 * length (x ∷ rest)) ≡ many (num blk.virt == k) (2 + 2 * length rest) = ap (λ n. many (num blk.virt == k) n) two in
        let one = blk_client_ends blk from x in
        let later = blk_clients_ends blk (from + 1) rest in
        let all = ends_both k (blk_client_queues plan blk from x) (each_client (blk_client_queues plan blk) (from + 1) rest) in
        let ws = weight_both k (blk_client_weights x) (flat_map blk_client_weights rest) in
        omega (arith, v, v', one, later, all, ws)

    pub blk_ends : (blk : Blk) → ends_of k (blk_queues plan blk) ≡ many ((disk_number plan).0 == k) 2 + weight k (blk_weights blk)
    unfolding blk_queues disk_queues shared_blk_queues queue_pair queue_in
    blk_ends blk =
        let k2 = many_2 ((disk_number plan).0 == k) in
        let d = many_4 (num blk.driver == k) in
        let v = many_bits (num blk.virt == k) 2 (2 * length blk.client) in
        let v2 = many_2 (num blk.virt == k) in
        let later = blk_clients_ends blk 0 blk.client in
        omega (arith, k2, d, v, v2, later)
