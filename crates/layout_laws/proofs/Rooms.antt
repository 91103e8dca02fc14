use Rattle.std.proofs.Common.{◌≡◌, ⊎_elim, ◌<◌, ◌≤◌, ◌+◌, ◌*◌, ◌++◌, ℕ, List, [], ◌∷◌, length, Option, Some, slice_get, codes, refl, sym, ap, ◌∙◌, subst, arith}
use Rattle.std.specs.Option.{option_map_or}
use Rattle.std.proofs.lemmas.Bool.{cases_lt}
use Rattle.wire_core.specs.declared.names.QueueRow.{QueueRow}
use Rattle.wire_core.specs.declared.names.PoolRow.{PoolRow}
use Rattle.sdf_plan.specs.declared.plan.Plan.{Plan}
use Rattle.sdf_plan.specs.declared.plan.Net.{Net}
use Rattle.sdf_plan.specs.declared.plan.NetClient.{NetClient}
use Rattle.sdf_check.specs.Valid.{Valid}
use Rattle.sdf_check.proofs.ListLemmas.{get-left, get-right}
use Rattle.region_layout.specs.Rows.{queue_in, queue_pair, each_client, eth_rx_queues, eth_tx_queues, net_rx_queues, net_tx_queues, lease_queues, client_rx_queues, client_tx_queues, net_client_queues, net_queues, serial_queues, blk_queues, queues_of, pool_in, net_client_pools, net_pools, blk_pools, pools_of}
use Rattle.region_layout.proofs.SameLemmas.{queues_same, pools_same}
use Rattle.region_layout.proofs.KeptLemmas.{net_keeps, net_client_keeps}
use Rattle.layout_laws.specs.Sound.{HoldsPool, HasRooms}
use Rattle.layout_laws.proofs.Lists.{there_is, each-at}

not_below : (n m : ℕ) → (n < m → ⊥) → m ≤ n
not_below n m h = ⊎_elim (λ (less : n < m). absurd (h less)) (λ (more : m ≤ n). more) (cases_lt n m)

client_count : (plan : Plan) (net : Net) (c : ℕ) (x : NetClient) → length (net_client_queues plan net c x) ≡ 6
unfolding net_client_queues lease_queues client_rx_queues client_tx_queues queue_pair
client_count plan net c x = refl

pool_count : (plan : Plan) (c : ℕ) (x : NetClient) → length (net_client_pools plan c x) ≡ 2
unfolding net_client_pools
pool_count plan c x = refl

module _ (plan : Plan) (valid : Valid plan) (net : Net) (is : plan.net ≡ Some net) where
  -- what the rule on buffers gives
  device_room : net.rx_buffers ≤ net.rx_capacity
  device_room =
      let fine = net_keeps plan 26 valid (omega arith) (omega arith) net is in
      not_below net.rx_capacity net.rx_buffers (λ less. fine (0, less))

  client_rooms : (c : ℕ) (x : NetClient) → slice_get net.client c ≡ Some x → (x.rx_buffers ≤ x.rx_capacity) × (x.tx_buffers ≤ x.tx_capacity)
  client_rooms c x there =
      let fine = net_client_keeps plan 26 valid (omega arith) (omega arith) net c x is there in
      (not_below x.rx_capacity x.rx_buffers (λ less. fine (2, less)), not_below x.tx_capacity x.tx_buffers (λ less. fine (4, less)))

  -- the queues and pools of the network class come first
  queue_at : (n : ℕ) (row : QueueRow) → slice_get (net_queues plan net) n ≡ Some row → slice_get (queues_of plan) n ≡ Some row
  queue_at n row at =
      let here : slice_get (option_map_or (net_queues plan) plan.net []) n ≡ Some row = subst (λ (o : Option Net). slice_get (option_map_or (net_queues plan) o []) n ≡ Some row) (sym is) at in
      subst (λ (rows : List QueueRow). slice_get rows n ≡ Some row) (sym (queues_same plan))
      (get-left (option_map_or (net_queues plan) plan.net [] ++ option_map_or (serial_queues plan) plan.serial []) (option_map_or (blk_queues plan) plan.blk []) n row
      (get-left (option_map_or (net_queues plan) plan.net []) (option_map_or (serial_queues plan) plan.serial []) n row here))

  pool_at : (n : ℕ) (row : PoolRow) → slice_get (net_pools plan net) n ≡ Some row → slice_get (pools_of plan) n ≡ Some row
  pool_at n row at =
      let here : slice_get (option_map_or (net_pools plan) plan.net []) n ≡ Some row = subst (λ (o : Option Net). slice_get (option_map_or (net_pools plan) o []) n ≡ Some row) (sym is) at in
      subst (λ (rows : List PoolRow). slice_get rows n ≡ Some row) (sym (pools_same plan))
      (get-left (option_map_or (net_pools plan) plan.net []) (option_map_or (blk_pools plan) plan.blk []) n row here)

  abbrev head : List QueueRow
  head = eth_rx_queues plan net ++ eth_tx_queues plan net ++ net_rx_queues plan net ++ net_tx_queues plan net

  head_count : length head ≡ 8
  unfolding eth_rx_queues eth_tx_queues net_rx_queues net_tx_queues queue_pair
  head_count = refl

  shared_at : (n : ℕ) (row : QueueRow) → slice_get head n ≡ Some row → slice_get (queues_of plan) n ≡ Some row
  unfolding net_queues
  shared_at n row at = queue_at n row (get-left head (each_client (net_client_queues plan net) 0 net.client) n row at)

  client_at : (c i n : ℕ) (x : NetClient) (row : QueueRow) → n ≡ 8 + (6 * c + i) → slice_get net.client c ≡ Some x → slice_get (net_client_queues plan net c x) i ≡ Some row → slice_get (queues_of plan) n ≡ Some row
  unfolding net_queues
  client_at c i n x row e there at =
      let z : c ≡ 0 + c = omega arith in
      let flat = each-at (net_client_queues plan net) 6 (λ k. 6 * k) 0 net.client c i x row (client_count plan net) (omega arith) (λ k. omega arith) there (ap (λ k. slice_get (net_client_queues plan net k x) i) (sym z) ∙ at) in
      let all = get-right head (each_client (net_client_queues plan net) 0 net.client) (6 * c + i) row flat in
      let place : length head + (6 * c + i) ≡ n = omega (arith, head_count, e) in
      queue_at n row (subst (λ k. slice_get (head ++ each_client (net_client_queues plan net) 0 net.client) k ≡ Some row) place all)

  client_pool_at : (c i n : ℕ) (x : NetClient) (row : PoolRow) → n ≡ 1 + (2 * c + i) → slice_get net.client c ≡ Some x → slice_get (net_client_pools plan c x) i ≡ Some row → slice_get (pools_of plan) n ≡ Some row
  unfolding net_pools
  client_pool_at c i n x row e there at =
      let z : c ≡ 0 + c = omega arith in
      let flat = each-at (net_client_pools plan) 2 (λ k. 2 * k) 0 net.client c i x row (pool_count plan) (omega arith) (λ k. omega arith) there (ap (λ k. slice_get (net_client_pools plan k x) i) (sym z) ∙ at) in
      let all = get-right (pool_in plan net.rx_region (codes "net.rx") net.rx_buffers net.rx_buffer_size ∷ []) (each_client (net_client_pools plan) 0 net.client) (2 * c + i) row flat in
      let place : 1 + (2 * c + i) ≡ n = sym e in
      pool_at n row (subst (λ k. slice_get (pool_in plan net.rx_region (codes "net.rx") net.rx_buffers net.rx_buffer_size ∷ each_client (net_client_pools plan) 0 net.client) k ≡ Some row) place all)

  first_pool : (row : PoolRow) × (slice_get (pools_of plan) 0 ≡ Some row) × (row.buffers ≡ net.rx_buffers)
  unfolding net_pools pool_in
  first_pool = (pool_in plan net.rx_region (codes "net.rx") net.rx_buffers net.rx_buffer_size, pool_at 0 _ refl, refl)

  free_row : (row : QueueRow) × (slice_get (queues_of plan) 5 ≡ Some row) × (row.capacity ≡ net.rx_capacity)
  unfolding eth_rx_queues eth_tx_queues net_rx_queues net_tx_queues queue_pair queue_in
  free_row = (_, shared_at 5 _ refl, refl)

  free_holds : HoldsPool plan 5 0
  free_holds =
      let q = free_row in
      let p = first_pool in
      (q.0, p.0, q.1, p.1, let le : p.0.buffers ≤ q.0.capacity = omega (arith, q.2, p.2, device_room) in le)

  module _ (c : ℕ) (x : NetClient) (there : slice_get net.client c ≡ Some x) where
    lease_row : (row : QueueRow) × (slice_get (queues_of plan) (9 + 6 * c) ≡ Some row) × (row.capacity ≡ net.rx_capacity)
    unfolding net_client_queues lease_queues client_rx_queues client_tx_queues queue_pair queue_in
    lease_row = (_, client_at c 1 (9 + 6 * c) x _ (omega arith) there refl, refl)

    rx_row : (row : QueueRow) × (slice_get (queues_of plan) (11 + 6 * c) ≡ Some row) × (row.capacity ≡ x.rx_capacity)
    unfolding net_client_queues lease_queues client_rx_queues client_tx_queues queue_pair queue_in
    rx_row = (_, client_at c 3 (11 + 6 * c) x _ (omega arith) there refl, refl)

    tx_row : (row : QueueRow) × (slice_get (queues_of plan) (13 + 6 * c) ≡ Some row) × (row.capacity ≡ x.tx_capacity)
    unfolding net_client_queues lease_queues client_rx_queues client_tx_queues queue_pair queue_in
    tx_row = (_, client_at c 5 (13 + 6 * c) x _ (omega arith) there refl, refl)

    rx_pool : (row : PoolRow) × (slice_get (pools_of plan) (1 + 2 * c) ≡ Some row) × (row.buffers ≡ x.rx_buffers)
    unfolding net_client_pools pool_in
    rx_pool = (_, client_pool_at c 0 (1 + 2 * c) x _ (omega arith) there refl, refl)

    tx_pool : (row : PoolRow) × (slice_get (pools_of plan) (2 + 2 * c) ≡ Some row) × (row.buffers ≡ x.tx_buffers)
    unfolding net_client_pools pool_in
    tx_pool = (_, client_pool_at c 1 (2 + 2 * c) x _ (omega arith) there refl, refl)

    lease_holds : HoldsPool plan (9 + 6 * c) 0
    lease_holds =
        let q = lease_row in
        let p = first_pool in
        (q.0, p.0, q.1, p.1, let le : p.0.buffers ≤ q.0.capacity = omega (arith, q.2, p.2, device_room) in le)

    rx_holds : HoldsPool plan (11 + 6 * c) (1 + 2 * c)
    rx_holds =
        let q = rx_row in
        let p = rx_pool in
        let room = (client_rooms c x there).0 in
        (q.0, p.0, q.1, p.1, let le : p.0.buffers ≤ q.0.capacity = omega (arith, q.2, p.2, room) in le)

    tx_holds : HoldsPool plan (13 + 6 * c) (2 + 2 * c)
    tx_holds =
        let q = tx_row in
        let p = tx_pool in
        let room = (client_rooms c x there).1 in
        (q.0, p.0, q.1, p.1, let le : p.0.buffers ≤ q.0.capacity = omega (arith, q.2, p.2, room) in le)

  -- the queues of the network class of a valid plan against its pools
  pub has_rooms : HasRooms plan net
  has_rooms = record {
    free = free_holds;
    lease_free = λ c lt. let x = there_is net.client c lt in lease_holds c x.0 x.1;
    rx_free = λ c lt. let x = there_is net.client c lt in rx_holds c x.0 x.1;
    tx_free = λ c lt. let x = there_is net.client c lt in tx_holds c x.0 x.1;
  }
