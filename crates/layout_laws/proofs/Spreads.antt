use Rattle.std.proofs.Common.{◌≡◌, ℕ, zero, suc, ◌+◌, ◌-◌, ◌*◌, ◌<◌, ◌≤◌, inl, inr, ⊎_elim, List, [], ◌∷◌, ◌++◌, length, map, flat_map, Option, Some, None, unwrap_or, slice_get, codes, refl, ap, sym, ◌∙◌, subst, arith, add-zero, zero-add}
use Rattle.std.specs.Option.{option_map_or}
use Rattle.std.proofs.lemmas.Bool.{cases_lt, cases_eq}
use Rattle.std.proofs.lemmas.Option.{slice_get_within}
use Rattle.cargo_core.specs.declared.item.QueueKind.{QueueKind}
use Rattle.cargo_core.specs.declared.item.QueueKind.TheVariants as Kind
use Rattle.wire_core.specs.declared.names.QueueRow.{QueueRow}
use Rattle.wire_core.specs.declared.names.PoolRow.{PoolRow}
use Rattle.sdf_plan.specs.declared.plan.Plan.{Plan}
use Rattle.sdf_plan.specs.declared.plan.Net.{Net}
use Rattle.sdf_plan.specs.declared.plan.NetClient.{NetClient}
use Rattle.sdf_plan.specs.declared.plan.Serial.{Serial}
use Rattle.sdf_plan.specs.declared.plan.SerialClient.{SerialClient}
use Rattle.sdf_plan.specs.declared.plan.Blk.{Blk}
use Rattle.sdf_plan.specs.declared.plan.BlkClient.{BlkClient}
use Rattle.sdf_check.specs.Names.{region_named, net_regions, net_client_regions, serial_regions, serial_client_regions, blk_regions, blk_client_regions}
use Rattle.sdf_check.specs.Rules.{Range, Meets, MeetsEarlier}
use Rattle.sdf_check.specs.ClassRules.{IsSmaller, class_regions, serial_names, blk_names}
use Rattle.sdf_plan.specs.ClassTable.Sizes.{entry_size, second_offset}
use Rattle.sdf_check.specs.Valid.{Valid}
use Rattle.sdf_check.proofs.ListLemmas.{get-either}
use Rattle.sdf_check.proofs.SweepLemmas.{some-inj, none-is-some}
use Rattle.wire_core.specs.declared.names.ActorId.{ActorId}
use Rattle.sdf_plan.specs.ClassTable.Rows.{blk_buffer}
use Rattle.region_layout.specs.Rows.{actor_named, eth_number, uart_number, disk_number, queue_span, queue_in, queue_pair, eth_rx_queues, eth_tx_queues, net_rx_queues, net_tx_queues, lease_queues, client_rx_queues, client_tx_queues, net_client_queues, net_queues, uart_queues, shared_serial_queues, serial_client_queues, serial_queues, disk_queues, shared_blk_queues, blk_client_queues, blk_queues, queues_of, pool_in, net_client_pools, net_pools, blk_client_pools, blk_pools, pools_of, each_client, client_name}
use Rattle.region_layout.proofs.SameLemmas.{queues_same, pools_same}
use Rattle.layout_laws.specs.Sound.{queue_range, pool_range, ranges_of}
use Rattle.layout_laws.proofs.Queues.{net_fine, net_client_fine, serial_fine, serial_client_fine, blk_fine, blk_client_fine}
use Rattle.layout_laws.proofs.Pools.{not-missed, net_named, net_client_named, blk_named, blk_client_named}
use Rattle.layout_laws.proofs.Ranges.{base, Held, held-apart, Spread, spread-both, spread-clients, spread-class, spread-one, spread-two, spread-free, part_of, part-held, parts-apart}
use Rattle.layout_laws.proofs.Keys.{serial_at, blk_at, net-count, serial-count, blk-count, serial-begins, net-key, net-client-key, serial-key, serial-client-key, blk-key, blk-client-key, IsPool, net-queue, net-client-queue, serial-queue, blk-queue}

abbrev NotPool : Plan → ℕ → Type 0
NotPool plan key = IsPool plan key → ⊥

abbrev QueueSpread : Plan → ℕ → ℕ → List QueueRow → Type 0
QueueSpread plan low high rows = Spread plan (queue_range plan) (NotPool plan) low high rows

abbrev PoolSpread : Plan → ℕ → ℕ → List PoolRow → Type 0
PoolSpread plan low high rows = Spread plan pool_range (IsPool plan) low high rows

device : (plan : Plan) (low high : ℕ) (first second : List ℕ) (from to other back : ActorId) (kind more : QueueKind) (capacity : ℕ)
    → QueueSpread plan low high (queue_in plan None 0 first kind from to capacity ∷ queue_in plan None 0 second more other back capacity ∷ [])
unfolding queue_range queue_in
device plan low high first second from to other back kind more capacity =
    spread-free plan (queue_range plan) (NotPool plan) low high (queue_in plan None 0 first kind from to capacity) (queue_in plan None 0 second more other back capacity) refl refl

two-devices : (plan : Plan) (low high : ℕ) (first second : List ℕ) (from to other back : ActorId) (capacity more : ℕ)
    → QueueSpread plan low high (queue_in plan None 0 first Kind.Byte from to capacity ∷ queue_in plan None 0 second Kind.Byte other back more ∷ [])
unfolding queue_range queue_in
two-devices plan low high first second from to other back capacity more =
    spread-free plan (queue_range plan) (NotPool plan) low high (queue_in plan None 0 first Kind.Byte from to capacity) (queue_in plan None 0 second Kind.Byte other back more) refl refl

only : (plan : Plan) (key : ℕ) (region name : List ℕ) (from to : ActorId) (capacity : ℕ) → NotPool plan key → slice_get (class_regions plan) key ≡ Some region → (IsSmaller plan (region, 0 + (64 + 1 * capacity)) → ⊥)
    → QueueSpread plan key (key + 1) (queue_in plan (region_named plan region) 0 name Kind.Byte from to capacity ∷ [])
unfolding queue_range queue_in
only plan key region name from to capacity queue at large =
    spread-one plan (queue_range plan) (NotPool plan) key (queue_in plan (region_named plan region) 0 name Kind.Byte from to capacity) queue
    (λ a is. part-held plan key region (0 + (64 + 1 * capacity)) 0 (64 + 1 * capacity) a at large (omega arith) is)

pair : (plan : Plan) (key : ℕ) (region first second : List ℕ) (from to : ActorId) (kind back : QueueKind) (capacity : ℕ) → NotPool plan key → slice_get (class_regions plan) key ≡ Some region
    → (IsSmaller plan (region, second_offset (64 + entry_size kind * capacity) + (64 + entry_size back * capacity)) → ⊥)
    → QueueSpread plan key (key + 1) (queue_pair plan region first kind second back from to capacity)
unfolding queue_range queue_in queue_pair queue_span
pair plan key region first second from to kind back capacity queue at large =
    let size = 64 + entry_size kind * capacity in
    let more = 64 + entry_size back * capacity in
    spread-two plan (queue_range plan) (NotPool plan) key (queue_in plan (region_named plan region) 0 first kind from to capacity)
    (queue_in plan (region_named plan region) (queue_span kind capacity) second back to from capacity) queue
    (λ a is. part-held plan key region (second_offset size + more) 0 size a at large (first-fits size more) is)
    (λ b is. part-held plan key region (second_offset size + more) (second_offset size) more b at large (omega arith) is)
    (λ a b f g m. parts-apart plan (region_named plan region) size (second_offset size) more a b (behind size) f g m)
  where
    first-fits : (size more : ℕ) → 0 + size ≤ second_offset size + more
    first-fits size more = omega arith

    behind : (size : ℕ) → size ≤ second_offset size
    behind size = omega arith

both : (plan : Plan) (low mid high : ℕ) (xs ys : List QueueRow) → Valid plan → low ≤ mid → mid ≤ high → QueueSpread plan low mid xs → QueueSpread plan mid high ys → QueueSpread plan low high (xs ++ ys)
both plan low mid high xs ys valid up down one other = spread-both plan (queue_range plan) (NotPool plan) low mid high xs ys valid up down one other

widen : (plan : Plan) (low mid high : ℕ) (xs : List QueueRow) → mid ≤ high → QueueSpread plan low mid xs → QueueSpread plan low high xs
widen plan low mid high xs less s = (λ i x a there is. let w = s.0 i x a there is in let most : w.0 < high = omega (arith, w.2, less) in (w.0, w.1, most, w.3, w.4), s.1)

net-client-queues : (plan : Plan) (net : Net) → Valid plan → plan.net ≡ Some net → (c : ℕ) (client : NetClient) → slice_get net.client c ≡ Some client
    → QueueSpread plan (3 + 5 * c) (3 + 5 * suc c) (net_client_queues plan net c client)
unfolding net_client_queues lease_queues client_rx_queues client_tx_queues
net-client-queues plan net valid is c client there =
    let fine = net_client_fine plan net c client valid is there in
    let inside : c < length net.client = slice_get_within net.client c client there in
    let begins = serial-begins plan net is in
    let start = 3 + 5 * c in
    let first : start < serial_at plan = omega (arith, begins, inside) in
    let second : start + 1 < serial_at plan = omega (arith, begins, inside) in
    let third : start + 2 < serial_at plan = omega (arith, begins, inside) in
    let zeroth : start + 0 ≡ start = add-zero start in
    let lease = pair plan start client.lease_queues (client_name (codes "net.") c (codes ".lease.active")) (client_name (codes "net.") c (codes ".lease.free")) (actor_named plan net.rx_virt) (actor_named plan client.copier) Kind.Net Kind.Net net.rx_capacity
    (net-client-queue plan start c first (inl refl)) (subst (λ n. slice_get (class_regions plan) n ≡ Some client.lease_queues) zeroth (net-client-key plan net c 0 client client.lease_queues is there refl))
    (λ small. fine (inl (1, small))) in
    let rx = pair plan (start + 1) client.rx_queues (client_name (codes "net.") c (codes ".rx.active")) (client_name (codes "net.") c (codes ".rx.free")) (actor_named plan client.copier) (actor_named plan client.pd) Kind.Net Kind.Net client.rx_capacity
    (net-client-queue plan (start + 1) c second (inr (inl refl))) (net-client-key plan net c 1 client client.rx_queues is there refl)
    (λ small. fine (inl (3, small))) in
    let tx = pair plan (start + 2) client.tx_queues (client_name (codes "net.") c (codes ".tx.active")) (client_name (codes "net.") c (codes ".tx.free")) (actor_named plan client.pd) (actor_named plan net.tx_virt) Kind.Net Kind.Net client.tx_capacity
    (net-client-queue plan (start + 2) c third (inr (inr refl))) (net-client-key plan net c 2 client client.tx_queues is there refl)
    (λ small. fine (inl (5, small))) in
    let joined = both plan start (start + 2) (start + 2 + 1) (lease_queues plan net c client ++ client_rx_queues plan c client) (client_tx_queues plan net c client) valid (omega arith) (omega arith)
    (widen plan start (start + 1 + 1) (start + 2) (lease_queues plan net c client ++ client_rx_queues plan c client) (omega arith)
    (both plan start (start + 1) (start + 1 + 1) (lease_queues plan net c client) (client_rx_queues plan c client) valid (omega arith) (omega arith) lease rx)) tx in
    widen plan start (start + 2 + 1) (3 + 5 * suc c) (net_client_queues plan net c client) (omega arith) joined

net-spread : (plan : Plan) → Valid plan → (net : Net) → plan.net ≡ Some net → QueueSpread plan 0 (0 + length (net_regions net ++ flat_map net_client_regions net.client)) (net_queues plan net)
unfolding net_queues eth_rx_queues eth_tx_queues net_rx_queues net_tx_queues
net-spread plan valid net is =
    let fine = net_fine plan net valid is in
    let begins = serial-begins plan net is in
    let zero : 0 < serial_at plan = omega (arith, begins) in
    let one : 1 < serial_at plan = omega (arith, begins) in
    let eth_rx = device plan 0 0 (codes "eth.rx.free") (codes "eth.rx.active") (actor_named plan net.driver) (eth_number plan) (eth_number plan) (actor_named plan net.driver) Kind.Net Kind.Net net.rx_capacity in
    let eth_tx = device plan 0 0 (codes "eth.tx.active") (codes "eth.tx.free") (actor_named plan net.driver) (eth_number plan) (eth_number plan) (actor_named plan net.driver) Kind.Net Kind.Net net.tx_capacity in
    let rx = pair plan 0 net.rx_queues (codes "net.rx.active") (codes "net.rx.free") (actor_named plan net.driver) (actor_named plan net.rx_virt) Kind.Net Kind.Net net.rx_capacity (net-queue plan 0 zero (inl refl)) (net-key plan net 0 net.rx_queues is refl)
    (λ small. fine (inl (5, small))) in
    let tx = pair plan 1 net.tx_queues (codes "net.tx.active") (codes "net.tx.free") (actor_named plan net.tx_virt) (actor_named plan net.driver) Kind.Net Kind.Net net.tx_capacity (net-queue plan 1 one (inr refl)) (net-key plan net 1 net.tx_queues is refl)
    (λ small. fine (inl (7, small))) in
    let clients = spread-clients plan (queue_range plan) (NotPool plan) (net_client_queues plan net) (λ k. 3 + 5 * k) 0 net.client valid (λ k. omega arith)
    (λ k (client : NetClient) there. subst (λ n. QueueSpread plan (3 + 5 * k) (3 + 5 * suc k) (net_client_queues plan net n client)) (sym (zero-add k)) (net-client-queues plan net valid is k client there)) in
    subst (λ n. QueueSpread plan 0 n (net_queues plan net)) (sym (net-count net) ∙ sym (zero-add (length (net_regions net ++ flat_map net_client_regions net.client))))
    (both plan 0 3 (3 + 5 * length net.client) (eth_rx_queues plan net ++ eth_tx_queues plan net ++ net_rx_queues plan net ++ net_tx_queues plan net) (each_client (net_client_queues plan net) 0 net.client) valid (omega arith) (omega arith)
    (both plan 0 1 3 (eth_rx_queues plan net ++ eth_tx_queues plan net ++ net_rx_queues plan net) (net_tx_queues plan net) valid (omega arith) (omega arith)
    (both plan 0 0 1 (eth_rx_queues plan net ++ eth_tx_queues plan net) (net_rx_queues plan net) valid (omega arith) (omega arith)
    (both plan 0 0 0 (eth_rx_queues plan net) (eth_tx_queues plan net) valid (omega arith) (omega arith) eth_rx eth_tx) rx)
    (widen plan 1 (1 + 1) 3 (net_tx_queues plan net) (omega arith) tx)) clients)

serial-client-queues : (plan : Plan) (serial : Serial) → Valid plan → plan.serial ≡ Some serial → (c : ℕ) (client : SerialClient) → slice_get serial.client c ≡ Some client
    → QueueSpread plan (serial_at plan + 2 + 2 * c) (serial_at plan + 2 + 2 * suc c) (serial_client_queues plan serial c client)
unfolding serial_client_queues
serial-client-queues plan serial valid is c client there =
    let fine = serial_client_fine plan serial c client valid is there in
    let inside : c < length serial.client = slice_get_within serial.client c client there in
    let ends = blk-begins plan serial is in
    let start = serial_at plan + 2 + 2 * c in
    let low : serial_at plan ≤ start = omega arith in
    let low' : serial_at plan ≤ start + 1 = omega arith in
    let high : start < blk_at plan = omega (arith, ends, inside) in
    let high' : start + 1 < blk_at plan = omega (arith, ends, inside) in
    let first = queue_in plan (region_named plan client.rx_queues) 0 (client_name (codes "serial.") c (codes ".rx")) Kind.Byte (actor_named plan serial.rx_virt) (actor_named plan client.pd) client.rx_capacity in
    let second = queue_in plan (region_named plan client.tx_queues) 0 (client_name (codes "serial.") c (codes ".tx")) Kind.Byte (actor_named plan client.pd) (actor_named plan serial.tx_virt) client.tx_capacity in
    let rx = only plan start client.rx_queues (client_name (codes "serial.") c (codes ".rx")) (actor_named plan serial.rx_virt) (actor_named plan client.pd) client.rx_capacity (serial-queue plan start low high)
    (subst (λ n. slice_get (class_regions plan) n ≡ Some client.rx_queues) (add-zero start) (serial-client-key plan serial c 0 client client.rx_queues is there refl))
    (λ small. fine (inl (0, small))) in
    let tx = only plan (start + 1) client.tx_queues (client_name (codes "serial.") c (codes ".tx")) (actor_named plan client.pd) (actor_named plan serial.tx_virt) client.tx_capacity (serial-queue plan (start + 1) low' high')
    (serial-client-key plan serial c 1 client client.tx_queues is there refl) (λ small. fine (inl (1, small))) in
    let same : start + 1 + 1 ≡ serial_at plan + 2 + 2 * suc c = omega arith in
    subst (λ n. QueueSpread plan start n (first ∷ second ∷ [])) same
    (both plan start (start + 1) (start + 1 + 1) (first ∷ []) (second ∷ []) valid (omega arith) (omega arith) rx tx)
  where
    blk-begins : (plan : Plan) (serial : Serial) → plan.serial ≡ Some serial → blk_at plan ≡ serial_at plan + (2 + 2 * length serial.client)
    blk-begins plan serial is = ap (λ n. serial_at plan + n) (counted plan serial is ∙ serial-count serial)
      where
        counted : (plan : Plan) (serial : Serial) → plan.serial ≡ Some serial → length (serial_names serial_regions serial_client_regions plan) ≡ length (serial_regions serial ++ flat_map serial_client_regions serial.client)
        counted plan serial is = rw is refl

serial-spread : (plan : Plan) → Valid plan → (serial : Serial) → plan.serial ≡ Some serial
    → QueueSpread plan (serial_at plan) (serial_at plan + length (serial_regions serial ++ flat_map serial_client_regions serial.client)) (serial_queues plan serial)
unfolding serial_queues uart_queues shared_serial_queues
serial-spread plan valid serial is =
    let fine = serial_fine plan serial valid is in
    let from = serial_at plan in
    let ends : blk_at plan ≡ from + (2 + 2 * length serial.client) = ap (λ n. from + n) (counted plan serial is ∙ serial-count serial) in
    let low : from ≤ from = omega arith in
    let low' : from ≤ from + 1 = omega arith in
    let high : from < blk_at plan = omega (arith, ends) in
    let high' : from + 1 < blk_at plan = omega (arith, ends) in
    let uart = two-devices plan from from (codes "uart.rx") (codes "uart.tx") (uart_number plan) (actor_named plan serial.driver) (actor_named plan serial.driver) (uart_number plan) serial.rx_capacity serial.tx_capacity in
    let first = queue_in plan (region_named plan serial.rx_queues) 0 (codes "serial.rx") Kind.Byte (actor_named plan serial.driver) (actor_named plan serial.rx_virt) serial.rx_capacity in
    let second = queue_in plan (region_named plan serial.tx_queues) 0 (codes "serial.tx") Kind.Byte (actor_named plan serial.tx_virt) (actor_named plan serial.driver) serial.tx_capacity in
    let rx = only plan from serial.rx_queues (codes "serial.rx") (actor_named plan serial.driver) (actor_named plan serial.rx_virt) serial.rx_capacity (serial-queue plan from low high)
    (subst (λ n. slice_get (class_regions plan) n ≡ Some serial.rx_queues) (add-zero from) (serial-key plan serial 0 serial.rx_queues is refl))
    (λ small. fine (inl (2, small))) in
    let tx = only plan (from + 1) serial.tx_queues (codes "serial.tx") (actor_named plan serial.tx_virt) (actor_named plan serial.driver) serial.tx_capacity (serial-queue plan (from + 1) low' high')
    (serial-key plan serial 1 serial.tx_queues is refl) (λ small. fine (inl (3, small))) in
    let shared : QueueSpread plan from (from + 1 + 1) (first ∷ second ∷ []) = both plan from (from + 1) (from + 1 + 1) (first ∷ []) (second ∷ []) valid (omega arith) (omega arith) rx tx in
    let middle : from + 1 + 1 ≡ from + 2 + 2 * 0 = omega arith in
    let shared' : QueueSpread plan from (from + 2 + 2 * 0) (first ∷ second ∷ []) = subst (λ n. QueueSpread plan from n (first ∷ second ∷ [])) middle shared in
    let clients = spread-clients plan (queue_range plan) (NotPool plan) (serial_client_queues plan serial) (λ k. from + 2 + 2 * k) 0 serial.client valid (λ k. omega arith)
    (λ k (client : SerialClient) there. subst (λ n. QueueSpread plan (from + 2 + 2 * k) (from + 2 + 2 * suc k) (serial_client_queues plan serial n client)) (sym (zero-add k)) (serial-client-queues plan serial valid is k client there)) in
    let last : from + 2 + 2 * length serial.client ≡ from + length (serial_regions serial ++ flat_map serial_client_regions serial.client) =
    (let e : from + 2 + 2 * length serial.client ≡ from + (2 + 2 * length serial.client) = omega arith in e ∙ ap (λ n. from + n) (sym (serial-count serial))) in
    subst (λ n. QueueSpread plan from n (serial_queues plan serial)) last
    (both plan from (from + 2 + 2 * 0) (from + 2 + 2 * length serial.client) (uart_queues plan serial ++ shared_serial_queues plan serial) (each_client (serial_client_queues plan serial) 0 serial.client) valid (omega arith) (omega arith)
    (both plan from from (from + 2 + 2 * 0) (uart_queues plan serial) (shared_serial_queues plan serial) valid (omega arith) (omega arith) uart shared') clients)
  where
    counted : (plan : Plan) (serial : Serial) → plan.serial ≡ Some serial → length (serial_names serial_regions serial_client_regions plan) ≡ length (serial_regions serial ++ flat_map serial_client_regions serial.client)
    counted plan serial is = rw is refl

blk-client-queues : (plan : Plan) (blk : Blk) → Valid plan → plan.blk ≡ Some blk → (c : ℕ) (client : BlkClient) → slice_get blk.client c ≡ Some client
    → QueueSpread plan (blk_at plan + 2 + 2 * c) (blk_at plan + 2 + 2 * suc c) (blk_client_queues plan blk c client)
unfolding blk_client_queues
blk-client-queues plan blk valid is c client there =
    let start = blk_at plan + 2 + 2 * c in
    let s = pair plan start client.queues (client_name (codes "blk.") c (codes ".req")) (client_name (codes "blk.") c (codes ".resp")) (actor_named plan client.pd) (actor_named plan blk.virt) Kind.Req Kind.Resp client.capacity
    (blk-queue plan start c (inr refl)) (subst (λ n. slice_get (class_regions plan) n ≡ Some client.queues) (add-zero start) (blk-client-key plan blk c 0 client client.queues is there refl))
    (λ small. (blk_client_fine plan blk c client valid is there) (inl (1, small))) in (
      λ i x a at e.
          let w = s.0 i x a at e in
          let least : start ≤ w.0 = omega (arith, w.1) in
          let most : w.0 < blk_at plan + 2 + 2 * suc c = omega (arith, w.2) in
          (w.0, least, most, w.3, w.4),
      s.1,
    )

blk-spread : (plan : Plan) → Valid plan → (blk : Blk) → plan.blk ≡ Some blk
    → QueueSpread plan (blk_at plan) (blk_at plan + length (blk_regions blk ++ flat_map blk_client_regions blk.client)) (blk_queues plan blk)
unfolding blk_queues disk_queues shared_blk_queues
blk-spread plan valid blk is =
    let from = blk_at plan in
    let disk = device plan from from (codes "disk.req") (codes "disk.resp") (actor_named plan blk.driver) (disk_number plan) (disk_number plan) (actor_named plan blk.driver) Kind.Req Kind.Resp blk.capacity in
    let s = pair plan from blk.queues (codes "blk.req") (codes "blk.resp") (actor_named plan blk.virt) (actor_named plan blk.driver) Kind.Req Kind.Resp blk.capacity (blk-queue plan from 0 (inl refl))
    (subst (λ n. slice_get (class_regions plan) n ≡ Some blk.queues) (add-zero from) (blk-key plan blk 0 blk.queues is refl))
    (λ small. (blk_fine plan blk valid is) (inl (3, small))) in
    let shared : QueueSpread plan from (from + 2 + 2 * 0) (shared_blk_queues plan blk) =
    (λ i x a at e. let w = s.0 i x a at e in let most : w.0 < from + 2 + 2 * 0 = omega (arith, w.2) in (w.0, w.1, most, w.3, w.4), s.1) in
    let clients = spread-clients plan (queue_range plan) (NotPool plan) (blk_client_queues plan blk) (λ k. from + 2 + 2 * k) 0 blk.client valid (λ k. omega arith)
    (λ k (client : BlkClient) there. subst (λ n. QueueSpread plan (from + 2 + 2 * k) (from + 2 + 2 * suc k) (blk_client_queues plan blk n client)) (sym (zero-add k)) (blk-client-queues plan blk valid is k client there)) in
    let last : from + 2 + 2 * length blk.client ≡ from + length (blk_regions blk ++ flat_map blk_client_regions blk.client) =
    (let e : from + 2 + 2 * length blk.client ≡ from + (2 + 2 * length blk.client) = omega arith in e ∙ ap (λ n. from + n) (sym (blk-count blk))) in
    subst (λ n. QueueSpread plan from n (blk_queues plan blk)) last
    (both plan from (from + 2 + 2 * 0) (from + 2 + 2 * length blk.client) (disk_queues plan blk ++ shared_blk_queues plan blk) (each_client (blk_client_queues plan blk) 0 blk.client) valid (omega arith) (omega arith)
    (both plan from from (from + 2 + 2 * 0) (disk_queues plan blk) (shared_blk_queues plan blk) valid (omega arith) (omega arith) disk shared) clients)

-- all queues
queues-spread : (plan : Plan) → Valid plan → QueueSpread plan 0 (blk_at plan + length (blk_names blk_regions blk_client_regions plan)) (queues_of plan)
queues-spread plan valid =
    let net = spread-class plan (queue_range plan) (NotPool plan) 0 (λ (x : Net). net_regions x ++ flat_map net_client_regions x.client) (net_queues plan) plan.net (net-spread plan valid) in
    let serial = spread-class plan (queue_range plan) (NotPool plan) (serial_at plan) (λ (x : Serial). serial_regions x ++ flat_map serial_client_regions x.client) (serial_queues plan) plan.serial (serial-spread plan valid) in
    let blk = spread-class plan (queue_range plan) (NotPool plan) (blk_at plan) (λ (x : Blk). blk_regions x ++ flat_map blk_client_regions x.client) (blk_queues plan) plan.blk (blk-spread plan valid) in
    let net' : QueueSpread plan 0 (serial_at plan) (option_map_or (net_queues plan) plan.net []) = subst (λ n. QueueSpread plan 0 n (option_map_or (net_queues plan) plan.net [])) (zero-add (serial_at plan)) net in
    subst (QueueSpread plan 0 (blk_at plan + length (blk_names blk_regions blk_client_regions plan))) (sym (queues_same plan))
    (both plan 0 (blk_at plan) (blk_at plan + length (blk_names blk_regions blk_client_regions plan)) (option_map_or (net_queues plan) plan.net [] ++ option_map_or (serial_queues plan) plan.serial []) (option_map_or (blk_queues plan) plan.blk []) valid (omega arith) (omega arith)
    (both plan 0 (serial_at plan) (blk_at plan) (option_map_or (net_queues plan) plan.net []) (option_map_or (serial_queues plan) plan.serial []) valid (omega arith) (omega arith) net' serial) blk)

-- one pool
pool : (plan : Plan) (key : ℕ) (region name : List ℕ) (buffers size r : ℕ) → IsPool plan key → slice_get (class_regions plan) key ≡ Some region → region_named plan region ≡ Some r
    → (IsSmaller plan (region, size * buffers) → ⊥) → PoolSpread plan key (key + 1) (pool_in plan region name buffers size ∷ [])
unfolding pool_range pool_in
pool plan key region name buffers size r is at named large =
    spread-one plan pool_range (IsPool plan) key (pool_in plan region name buffers size) is
    (λ a range. part-held plan key region (size * buffers) 0 (size * buffers) a at large (omega arith) (shifted a range))
  where
    shifted : (a : Range) → Some (base plan (unwrap_or (region_named plan region) 0), base plan (unwrap_or (region_named plan region) 0) + size * buffers) ≡ Some a
        → part_of plan (region_named plan region) 0 (size * buffers) ≡ Some a
    shifted a range =
        let index : unwrap_or (region_named plan region) 0 ≡ r = ap (λ o. unwrap_or o 0) named in
        let here : part_of plan (region_named plan region) 0 (size * buffers) ≡ Some (base plan r + 0, base plan r + 0 + size * buffers) = ap (λ o. part_of plan o 0 (size * buffers)) named in
        let plain : base plan r + 0 ≡ base plan r = add-zero (base plan r) in
        here ∙ ap (λ (b : ℕ). Some (b, b + size * buffers)) (plain ∙ ap (base plan) (sym index)) ∙ range

pools-both : (plan : Plan) (low mid high : ℕ) (xs ys : List PoolRow) → Valid plan → low ≤ mid → mid ≤ high → PoolSpread plan low mid xs → PoolSpread plan mid high ys → PoolSpread plan low high (xs ++ ys)
pools-both plan low mid high xs ys valid up down one other = spread-both plan pool_range (IsPool plan) low mid high xs ys valid up down one other

net-client-pools : (plan : Plan) (net : Net) → Valid plan → plan.net ≡ Some net → (c : ℕ) (client : NetClient) → slice_get net.client c ≡ Some client
    → PoolSpread plan (3 + 5 * c) (3 + 5 * suc c) (net_client_pools plan c client)
unfolding net_client_pools
net-client-pools plan net valid is c client there =
    let fine = net_client_fine plan net c client valid is there in
    let names = net_client_named plan net c client valid is there in
    let inside : c < length net.client = slice_get_within net.client c client there in
    let begins = serial-begins plan net is in
    let start = 3 + 5 * c in
    let fourth : start + 3 < serial_at plan = omega (arith, begins, inside) in
    let fifth : start + 4 < serial_at plan = omega (arith, begins, inside) in
    let rx_at = not-missed plan client.rx_region (λ none. names (inr (0, none))) in
    let tx_at = not-missed plan client.tx_region (λ none. names (inr (1, none))) in
    let one = pool_in plan client.rx_region (client_name (codes "net.") c (codes ".rx")) client.rx_buffers client.rx_buffer_size in
    let other = pool_in plan client.tx_region (client_name (codes "net.") c (codes ".tx")) client.tx_buffers client.tx_buffer_size in
    let rx = pool plan (start + 3) client.rx_region (client_name (codes "net.") c (codes ".rx")) client.rx_buffers client.rx_buffer_size rx_at.0 (inl (fourth, inr (c, inl refl)))
    (net-client-key plan net c 3 client client.rx_region is there refl) rx_at.1 (λ small. fine (inr (0, small))) in
    let tx = pool plan (start + 4) client.tx_region (client_name (codes "net.") c (codes ".tx")) client.tx_buffers client.tx_buffer_size tx_at.0 (inl (fifth, inr (c, inr refl)))
    (net-client-key plan net c 4 client client.tx_region is there refl) tx_at.1 (λ small. fine (inr (1, small))) in
    let joined : PoolSpread plan (start + 3) (start + 4 + 1) (one ∷ other ∷ []) =
    pools-both plan (start + 3) (start + 4) (start + 4 + 1) (one ∷ []) (other ∷ []) valid (omega arith) (omega arith)
    (λ i x a at e. let w = rx.0 i x a at e in let most : w.0 < start + 4 = omega (arith, w.2) in (w.0, w.1, most, w.3, w.4), rx.1) tx in (
      λ i x a at e.
          let w = joined.0 i x a at e in
          let least : start ≤ w.0 = omega (arith, w.1) in
          let most : w.0 < 3 + 5 * suc c = omega (arith, w.2) in
          (w.0, least, most, w.3, w.4),
      joined.1,
    )

net-pools : (plan : Plan) → Valid plan → (net : Net) → plan.net ≡ Some net → PoolSpread plan 0 (0 + length (net_regions net ++ flat_map net_client_regions net.client)) (net_pools plan net)
unfolding net_pools
net-pools plan valid net is =
    let begins = serial-begins plan net is in
    let two : 2 < serial_at plan = omega (arith, begins) in
    let there = not-missed plan net.rx_region (λ none. (net_named plan net valid is) (inr (0, none))) in
    let one = pool_in plan net.rx_region (codes "net.rx") net.rx_buffers net.rx_buffer_size in
    let s = pool plan 2 net.rx_region (codes "net.rx") net.rx_buffers net.rx_buffer_size there.0 (inl (two, inl refl)) (net-key plan net 2 net.rx_region is refl) there.1
    (λ small. (net_fine plan net valid is) (inr (0, small))) in
    let clients = spread-clients plan pool_range (IsPool plan) (net_client_pools plan) (λ k. 3 + 5 * k) 0 net.client valid (λ k. omega arith)
    (λ k (client : NetClient) there. subst (λ n. PoolSpread plan (3 + 5 * k) (3 + 5 * suc k) (net_client_pools plan n client)) (sym (zero-add k)) (net-client-pools plan net valid is k client there)) in
    subst (λ n. PoolSpread plan 0 n (net_pools plan net)) (sym (net-count net) ∙ sym (zero-add (length (net_regions net ++ flat_map net_client_regions net.client))))
    (pools-both plan 0 3 (3 + 5 * length net.client) (one ∷ []) (each_client (net_client_pools plan) 0 net.client) valid (omega arith) (omega arith)
    (λ i x a at e. let w = s.0 i x a at e in let least : 0 ≤ w.0 = omega arith in let most : w.0 < 3 = omega (arith, w.2) in (w.0, least, most, w.3, w.4), s.1) clients)

blk-client-pools : (plan : Plan) (blk : Blk) → Valid plan → plan.blk ≡ Some blk → (c : ℕ) (client : BlkClient) → slice_get blk.client c ≡ Some client
    → PoolSpread plan (blk_at plan + 2 + 2 * c) (blk_at plan + 2 + 2 * suc c) (blk_client_pools plan c client)
unfolding blk_client_pools
blk-client-pools plan blk valid is c client there =
    let start = blk_at plan + 2 + 2 * c in
    let at_region = not-missed plan client.region (λ none. (blk_client_named plan blk c client valid is there) (inr (0, none))) in
    let s = pool plan (start + 1) client.region (client_name (codes "blk.") c []) client.buffers blk_buffer at_region.0 (inr (omega arith, inr (c, refl)))
    (blk-client-key plan blk c 1 client client.region is there refl) at_region.1 (λ small. (blk_client_fine plan blk c client valid is there) (inr (0, small))) in (
      λ i x a at e.
          let w = s.0 i x a at e in
          let least : start ≤ w.0 = omega (arith, w.1) in
          let most : w.0 < blk_at plan + 2 + 2 * suc c = omega (arith, w.2) in
          (w.0, least, most, w.3, w.4),
      s.1,
    )

blk-pools : (plan : Plan) → Valid plan → (blk : Blk) → plan.blk ≡ Some blk
    → PoolSpread plan (blk_at plan) (blk_at plan + length (blk_regions blk ++ flat_map blk_client_regions blk.client)) (blk_pools plan blk)
unfolding blk_pools
blk-pools plan valid blk is =
    let from = blk_at plan in
    let there = not-missed plan blk.region (λ none. (blk_named plan blk valid is) (inr (0, none))) in
    let one = pool_in plan blk.region (codes "blk") 1 blk_buffer in
    let s = pool plan (from + 1) blk.region (codes "blk") 1 blk_buffer there.0 (inr (omega arith, inl refl)) (blk-key plan blk 1 blk.region is refl) there.1
    (λ small. (blk_fine plan blk valid is) (inr (0, small))) in
    let first : PoolSpread plan from (from + 2 + 2 * 0) (one ∷ []) = (
      λ i x a at e.
          let w = s.0 i x a at e in
          let least : from ≤ w.0 = omega (arith, w.1) in
          let most : w.0 < from + 2 + 2 * 0 = omega (arith, w.2) in
          (w.0, least, most, w.3, w.4),
      s.1,
    ) in
    let clients = spread-clients plan pool_range (IsPool plan) (blk_client_pools plan) (λ k. from + 2 + 2 * k) 0 blk.client valid (λ k. omega arith)
    (λ k (client : BlkClient) there. subst (λ n. PoolSpread plan (from + 2 + 2 * k) (from + 2 + 2 * suc k) (blk_client_pools plan n client)) (sym (zero-add k)) (blk-client-pools plan blk valid is k client there)) in
    let last : from + 2 + 2 * length blk.client ≡ from + length (blk_regions blk ++ flat_map blk_client_regions blk.client) =
    (let e : from + 2 + 2 * length blk.client ≡ from + (2 + 2 * length blk.client) = omega arith in e ∙ ap (λ n. from + n) (sym (blk-count blk))) in
    subst (λ n. PoolSpread plan from n (blk_pools plan blk)) last
    (pools-both plan from (from + 2 + 2 * 0) (from + 2 + 2 * length blk.client) (one ∷ []) (each_client (blk_client_pools plan) 0 blk.client) valid (omega arith) (omega arith) first clients)

-- all pools
pools-spread : (plan : Plan) → Valid plan → PoolSpread plan 0 (blk_at plan + length (blk_names blk_regions blk_client_regions plan)) (pools_of plan)
pools-spread plan valid =
    let net = spread-class plan pool_range (IsPool plan) 0 (λ (x : Net). net_regions x ++ flat_map net_client_regions x.client) (net_pools plan) plan.net (net-pools plan valid) in
    let blk = spread-class plan pool_range (IsPool plan) (blk_at plan) (λ (x : Blk). blk_regions x ++ flat_map blk_client_regions x.client) (blk_pools plan) plan.blk (blk-pools plan valid) in
    subst (PoolSpread plan 0 (blk_at plan + length (blk_names blk_regions blk_client_regions plan))) (sym (pools_same plan))
    (pools-both plan 0 (blk_at plan) (blk_at plan + length (blk_names blk_regions blk_client_regions plan)) (option_map_or (net_pools plan) plan.net []) (option_map_or (blk_pools plan) plan.blk []) valid (omega arith) (omega arith)
    (λ i x a at e. let w = net.0 i x a at e in let most : w.0 < blk_at plan = omega (arith, w.2) in (w.0, w.1, most, w.3, w.4), net.1) blk)

-- a range of a list that a function goes over is that of an element
from-map : {T : Type 0} (range : T → Option Range) (rows : List T) (k : ℕ) (a : Range) → slice_get (map range rows) k ≡ Some (Some a) → (x : T) × (slice_get rows k ≡ Some x) × (range x ≡ Some a)
from-map range [] k a is = absurd (none-is-some is)
from-map range (x ∷ rest) zero a is = (x, refl, some-inj is)
from-map range (x ∷ rest) (suc k) a is = from-map range rest k a is

-- no two queues or pools of a valid plan have an address in common
pub rows_apart : (plan : Plan) → Valid plan → (k : ℕ) → MeetsEarlier (ranges_of plan) k → ⊥
rows_apart plan valid k meets =
    let queues = queues-spread plan valid in
    let pools = pools-spread plan valid in
    let first = map (queue_range plan) (queues_of plan) in
    let second = map pool_range (pools_of plan) in
    ⊎_elim (λ (here : slice_get first k ≡ Some (Some meets.2)).
    let y = from-map (queue_range plan) (queues_of plan) k meets.2 here in
    ⊎_elim (λ (there : slice_get first meets.0 ≡ Some (Some meets.1)).
    let x = from-map (queue_range plan) (queues_of plan) meets.0 meets.1 there in queues.1 meets.0 k x.0 y.0 meets.1 meets.2 meets.3 x.1 y.1 x.2 y.2 meets.6)
    (λ (there : (length first ≤ meets.0) × (slice_get second (meets.0 - length first) ≡ Some (Some meets.1))).
    let inside = slice_get_within first k (Some meets.2) here in let no : ⊥ = omega (arith, there.0, inside, meets.3) in no) (get-either first second meets.0 (Some meets.1) meets.4))
    (λ (here : (length first ≤ k) × (slice_get second (k - length first) ≡ Some (Some meets.2))).
    let y = from-map pool_range (pools_of plan) (k - length first) meets.2 here.1 in
    ⊎_elim (λ (there : slice_get first meets.0 ≡ Some (Some meets.1)).
    let x = from-map (queue_range plan) (queues_of plan) meets.0 meets.1 there in
    let v = queues.0 meets.0 x.0 meets.1 x.1 x.2 in
    let w = pools.0 (k - length first) y.0 meets.2 y.1 y.2 in
    two-keys plan v.0 w.0 meets.1 meets.2 valid v.3 w.3 v.4 w.4 meets.6)
    (λ (there : (length first ≤ meets.0) × (slice_get second (meets.0 - length first) ≡ Some (Some meets.1))).
    let x = from-map pool_range (pools_of plan) (meets.0 - length first) meets.1 there.1 in
    let below : meets.0 - length first < k - length first = omega (arith, there.0, here.0, meets.3) in
    pools.1 (meets.0 - length first) (k - length first) x.0 y.0 meets.1 meets.2 below x.1 y.1 x.2 y.2 meets.6) (get-either first second meets.0 (Some meets.1) meets.4))
    (get-either first second k (Some meets.2) meets.5)
  where
    two-keys : (plan : Plan) (v w : ℕ) (a b : Range) → Valid plan → NotPool plan v → IsPool plan w → Held plan v a → Held plan w b → Meets a b → ⊥
    two-keys plan v w a b valid queue is one other m =
        ⊎_elim (λ (same : v ≡ w). queue (subst (IsPool plan) (sym same) is))
        (λ (differs : v ≡ w → ⊥).
        ⊎_elim (λ (less : v < w). held-apart plan v w a b valid less one other m)
        (λ (more : w ≤ v). let less : w < v = omega (arith, more, differs) in held-apart plan w v b a valid less other one (m.0, m.3, m.4, m.1, m.2)) (cases_lt v w)) (cases_eq v w)
