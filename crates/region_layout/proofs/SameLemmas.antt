-- The rows of the table, told by the names of the queues and pools, class by class.
use Rattle.std.proofs.Common.{◌≡◌, ℕ, List, [], ◌++◌, flat_map, Option, Some, None, refl, sym, ap, ◌∙◌}
use Rattle.std.specs.Option.{option_map_or}
use Rattle.std.proofs.lemmas.List.{append-nil}
use Rattle.sdf_plan.specs.declared.plan.Plan.{Plan}
use Rattle.sdf_plan.specs.declared.plan.Net.{Net}
use Rattle.sdf_plan.specs.declared.plan.NetClient.{NetClient}
use Rattle.sdf_plan.specs.declared.plan.Serial.{Serial}
use Rattle.sdf_plan.specs.declared.plan.SerialClient.{SerialClient}
use Rattle.sdf_plan.specs.declared.plan.Blk.{Blk}
use Rattle.sdf_plan.specs.declared.plan.BlkClient.{BlkClient}
use Rattle.sdf_plan.specs.ClassTable.Table.{Element, table_of, net_element, net_client_element, net_elements, serial_client_element, serial_elements, blk_element, blk_client_element, blk_elements}
use Rattle.region_layout.specs.Rows.{each_client, queue_span, queue_pair, eth_rx_queues, eth_tx_queues, net_rx_queues, net_tx_queues, lease_queues, client_rx_queues, client_tx_queues, net_client_queues, net_queues, uart_queues, shared_serial_queues, serial_client_queues, serial_queues, disk_queues, shared_blk_queues, blk_client_queues, blk_queues, queues_of, queue_rows, class_queues, net_client_pools, net_pools, blk_client_pools, blk_pools, pools_of, pool_rows, class_pools}
use Rattle.sdf_plan.proofs.ClassTable.Flat.{flat-nothing, flat-class, flat-three}
use Rattle.region_layout.proofs.FlatLemmas.{flat-numbered}

-- queues
client-queues : (plan : Plan) (net : Net) (c : ℕ) (client : NetClient) → net_client_queues plan net c client ≡ queue_rows plan (net_client_element net c client)
unfolding net_client_queues lease_queues client_rx_queues client_tx_queues queue_pair queue_span
client-queues plan net c client = refl

own-queues : (plan : Plan) (net : Net) → eth_rx_queues plan net ++ eth_tx_queues plan net ++ net_rx_queues plan net ++ net_tx_queues plan net ≡ queue_rows plan (net_element net)
unfolding eth_rx_queues eth_tx_queues net_rx_queues net_tx_queues queue_pair queue_span
own-queues plan net = refl

net-queues : (plan : Plan) (net : Net) → net_queues plan net ≡ flat_map (queue_rows plan) (net_elements net)
unfolding net_queues
net-queues plan net =
    ap (λ rows. rows ++ each_client (net_client_queues plan net) 0 net.client) (own-queues plan net)
    ∙ ap (λ rows. queue_rows plan (net_element net) ++ rows) (flat-numbered (queue_rows plan) (net_client_element net) (net_client_queues plan net) 0 net.client (client-queues plan net))

serial-client-queues : (plan : Plan) (serial : Serial) (c : ℕ) (client : SerialClient) → serial_client_queues plan serial c client ≡ queue_rows plan (serial_client_element serial c client)
unfolding serial_client_queues
serial-client-queues plan serial c client = refl

serial-queues : (plan : Plan) (serial : Serial) → serial_queues plan serial ≡ flat_map (queue_rows plan) (serial_elements serial)
unfolding serial_queues uart_queues shared_serial_queues
serial-queues plan serial =
    ap (λ rest. (uart_queues plan serial ++ shared_serial_queues plan serial) ++ rest)
    (flat-numbered (queue_rows plan) (serial_client_element serial) (serial_client_queues plan serial) 0 serial.client (serial-client-queues plan serial))

blk-client-queues : (plan : Plan) (blk : Blk) (c : ℕ) (client : BlkClient) → blk_client_queues plan blk c client ≡ queue_rows plan (blk_client_element blk c client)
unfolding blk_client_queues queue_pair queue_span
blk-client-queues plan blk c client = refl

blk-queues : (plan : Plan) (blk : Blk) → blk_queues plan blk ≡ flat_map (queue_rows plan) (blk_elements blk)
unfolding blk_queues disk_queues shared_blk_queues queue_pair queue_span
blk-queues plan blk =
    ap (λ rest. (disk_queues plan blk ++ shared_blk_queues plan blk) ++ rest)
    (flat-numbered (queue_rows plan) (blk_client_element blk) (blk_client_queues plan blk) 0 blk.client (blk-client-queues plan blk))

pub queues_same : (plan : Plan) → queues_of plan ≡ class_queues plan
unfolding queues_of
queues_same plan =
    sym (flat-three (queue_rows plan) plan _ _ _ (flat-class (queue_rows plan) net_elements (net_queues plan) plan.net (net-queues plan))
    (flat-class (queue_rows plan) serial_elements (serial_queues plan) plan.serial (serial-queues plan))
    (flat-class (queue_rows plan) blk_elements (blk_queues plan) plan.blk (blk-queues plan)))

-- pools
net-client-pools : (plan : Plan) (net : Net) (c : ℕ) (client : NetClient) → net_client_pools plan c client ≡ pool_rows plan (net_client_element net c client)
unfolding net_client_pools
net-client-pools plan net c client = refl

net-pools : (plan : Plan) (net : Net) → net_pools plan net ≡ flat_map (pool_rows plan) (net_elements net)
unfolding net_pools
net-pools plan net = ap (λ rows. pool_rows plan (net_element net) ++ rows) (flat-numbered (pool_rows plan) (net_client_element net) (net_client_pools plan) 0 net.client (net-client-pools plan net))

blk-client-pools : (plan : Plan) (blk : Blk) (c : ℕ) (client : BlkClient) → blk_client_pools plan c client ≡ pool_rows plan (blk_client_element blk c client)
unfolding blk_client_pools
blk-client-pools plan blk c client = refl

blk-pools : (plan : Plan) (blk : Blk) → blk_pools plan blk ≡ flat_map (pool_rows plan) (blk_elements blk)
unfolding blk_pools
blk-pools plan blk = ap (λ rows. pool_rows plan (blk_element blk) ++ rows) (flat-numbered (pool_rows plan) (blk_client_element blk) (blk_client_pools plan) 0 blk.client (blk-client-pools plan blk))

no-pools : (plan : Plan) (serial : Serial) → [] ≡ flat_map (pool_rows plan) (serial_elements serial)
no-pools plan serial = sym (flat-nothing (pool_rows plan) (serial_client_element serial) 0 serial.client (λ k client. refl))

none-of : (plan : Plan) (class : Option Serial) → [] ≡ flat_map (pool_rows plan) (option_map_or serial_elements class [])
none-of plan None = refl
none-of plan (Some serial) = no-pools plan serial

pub pools_same : (plan : Plan) → pools_of plan ≡ class_pools plan
unfolding pools_of
pools_same plan =
    sym (ap (λ rows. rows ++ option_map_or (blk_pools plan) plan.blk []) (sym (append-nil (option_map_or (net_pools plan) plan.net [])))
    ∙ flat-three (pool_rows plan) plan (option_map_or (net_pools plan) plan.net []) [] (option_map_or (blk_pools plan) plan.blk [])
    (flat-class (pool_rows plan) net_elements (net_pools plan) plan.net (net-pools plan)) (none-of plan plan.serial)
    (flat-class (pool_rows plan) blk_elements (blk_pools plan) plan.blk (blk-pools plan)))
