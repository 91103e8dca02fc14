use Rattle.std.proofs.Common.{◌≡◌, ℕ, ◌+◌, ◌*◌, List, [], ◌∷◌, ◌++◌, length, refl, ap, ◌∙◌, arith}
use Rattle.std.specs.Option.{option_map_or}
use Rattle.std.proofs.lemmas.List.{length-append}
use Rattle.sdf_plan.specs.declared.plan.Plan.{Plan}
use Rattle.sdf_plan.specs.declared.plan.Net.{Net}
use Rattle.sdf_plan.specs.declared.plan.NetClient.{NetClient}
use Rattle.sdf_plan.specs.declared.plan.Serial.{Serial}
use Rattle.sdf_plan.specs.declared.plan.SerialClient.{SerialClient}
use Rattle.sdf_plan.specs.declared.plan.Blk.{Blk}
use Rattle.sdf_plan.specs.declared.plan.BlkClient.{BlkClient}
use Rattle.region_layout.specs.Rows.{each_client, queue_pair, eth_rx_queues, eth_tx_queues, net_rx_queues, net_tx_queues, lease_queues, client_rx_queues, client_tx_queues, net_client_queues, net_queues, uart_queues, shared_serial_queues, serial_client_queues, serial_queues, disk_queues, shared_blk_queues, blk_client_queues, blk_queues, queues_of}
use Rattle.region_layout.proofs.SameLemmas.{queues_same}

-- clients of which each gives as many rows
six_each : {C T : Type 0} (rows : ℕ → C → List T) (c : ℕ) (clients : List C) → ((k : ℕ) (client : C) → length (rows k client) ≡ 6) → length (each_client rows c clients) ≡ 6 * length clients
six_each rows c [] h = refl
six_each rows c (client ∷ clients) h =
    let here = h c client in
    let rest = six_each rows (c + 1) clients h in
    rw (length-append (rows c client) (each_client rows (c + 1) clients)) (omega arith)

two_each : {C T : Type 0} (rows : ℕ → C → List T) (c : ℕ) (clients : List C) → ((k : ℕ) (client : C) → length (rows k client) ≡ 2) → length (each_client rows c clients) ≡ 2 * length clients
two_each rows c [] h = refl
two_each rows c (client ∷ clients) h =
    let here = h c client in
    let rest = two_each rows (c + 1) clients h in
    rw (length-append (rows c client) (each_client rows (c + 1) clients)) (omega arith)

net_client_rows : (plan : Plan) (net : Net) (c : ℕ) (client : NetClient) → length (net_client_queues plan net c client) ≡ 6
unfolding net_client_queues lease_queues client_rx_queues client_tx_queues queue_pair
net_client_rows plan net c client = refl

serial_client_rows : (plan : Plan) (serial : Serial) (c : ℕ) (client : SerialClient) → length (serial_client_queues plan serial c client) ≡ 2
unfolding serial_client_queues
serial_client_rows plan serial c client = refl

blk_client_rows : (plan : Plan) (blk : Blk) (c : ℕ) (client : BlkClient) → length (blk_client_queues plan blk c client) ≡ 2
unfolding blk_client_queues queue_pair
blk_client_rows plan blk c client = refl

pub net_count : (plan : Plan) (net : Net) → length (net_queues plan net) ≡ 8 + 6 * length net.client
unfolding net_queues eth_rx_queues eth_tx_queues net_rx_queues net_tx_queues queue_pair
net_count plan net = let clients = six_each (net_client_queues plan net) 0 net.client (net_client_rows plan net) in omega arith

pub serial_count : (plan : Plan) (serial : Serial) → length (serial_queues plan serial) ≡ 4 + 2 * length serial.client
unfolding serial_queues uart_queues shared_serial_queues
serial_count plan serial = let clients = two_each (serial_client_queues plan serial) 0 serial.client (serial_client_rows plan serial) in omega arith

pub blk_count : (plan : Plan) (blk : Blk) → length (blk_queues plan blk) ≡ 4 + 2 * length blk.client
unfolding blk_queues disk_queues shared_blk_queues queue_pair
blk_count plan blk = let clients = two_each (blk_client_queues plan blk) 0 blk.client (blk_client_rows plan blk) in omega arith

pub all_counts : (plan : Plan)
    → length (queues_of plan) ≡ length (option_map_or (net_queues plan) plan.net []) + length (option_map_or (serial_queues plan) plan.serial []) + length (option_map_or (blk_queues plan) plan.blk [])
all_counts plan =
    ap length (queues_same plan)
    ∙ length-append (option_map_or (net_queues plan) plan.net [] ++ option_map_or (serial_queues plan) plan.serial []) (option_map_or (blk_queues plan) plan.blk [])
    ∙ ap (λ n. n + length (option_map_or (blk_queues plan) plan.blk [])) (length-append (option_map_or (net_queues plan) plan.net []) (option_map_or (serial_queues plan) plan.serial []))
