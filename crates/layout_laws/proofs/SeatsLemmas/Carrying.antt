-- What each queue carries, by the jobs of its owners.
use Rattle.std.proofs.Common.{◌≡◌, ◌+◌, ◌*◌, ◌<◌, ◌++◌, ℕ, zero, suc, Option, Some, None, List, [], ◌∷◌, length, slice_get, refl, ap, ◌∙◌, subst, arith, sym}
use Rattle.std.specs.Option.{option_map_or}
use Rattle.cargo_core.specs.declared.item.QueueKind.{QueueKind}
use Rattle.cargo_core.specs.declared.item.QueueKind.TheVariants as Kind
use Rattle.wire_core.specs.declared.names.QueueRow.{QueueRow}
use Rattle.sdf_plan.specs.declared.plan.Plan.{Plan}
use Rattle.sdf_plan.specs.declared.plan.Net.{Net}
use Rattle.sdf_plan.specs.declared.plan.Serial.{Serial}
use Rattle.sdf_plan.specs.declared.plan.Blk.{Blk}
use Rattle.region_layout.specs.Rows.{queue_in, queue_pair, each_client, eth_rx_queues, eth_tx_queues, net_rx_queues, net_tx_queues, lease_queues, client_rx_queues, client_tx_queues, net_client_queues, net_queues, uart_queues, shared_serial_queues, serial_client_queues, serial_queues, disk_queues, shared_blk_queues, blk_client_queues, blk_queues, queues_of}
use Rattle.region_layout.proofs.SameLemmas.{queues_same}
use Rattle.sdf_check.proofs.ListLemmas.{get-left}
use Rattle.play_core.proofs.Lists.{some_is, there_is}
use Rattle.layout_laws.specs.Jobs.Jobs.{Job, EthDevice, EthDriver, NetReceiver, NetSender, NetCopier, NetClient, UartDevice, UartDriver, SerialReceiver, SerialSender, SerialClient, DiskDevice, DiskDriver, BlkVirtualiser, BlkClient}
use Rattle.layout_laws.specs.Jobs.Queues.{Owners, one_way, both_ways, net_client_owners, net_owners, serial_client_owners, serial_owners, blk_owners, owners_of}
use Rattle.layout_laws.proofs.SeatsLemmas.Counts.{queue_count}

-- what a disk's driver and a block virtualiser put: requests towards the disk, and responses
abbrev pub from_driver : Job → QueueKind
from_driver EthDevice = Kind.Resp
from_driver EthDriver = Kind.Resp
from_driver NetReceiver = Kind.Resp
from_driver NetSender = Kind.Resp
from_driver (NetCopier c) = Kind.Resp
from_driver (NetClient c) = Kind.Resp
from_driver UartDevice = Kind.Resp
from_driver UartDriver = Kind.Resp
from_driver SerialReceiver = Kind.Resp
from_driver SerialSender = Kind.Resp
from_driver (SerialClient c) = Kind.Resp
from_driver DiskDevice = Kind.Req
from_driver DiskDriver = Kind.Req
from_driver BlkVirtualiser = Kind.Resp
from_driver (BlkClient c) = Kind.Resp

-- what goes from one job to another
abbrev pub between : Job → Job → QueueKind
between EthDevice to = Kind.Net
between EthDriver to = Kind.Net
between NetReceiver to = Kind.Net
between NetSender to = Kind.Net
between (NetCopier c) to = Kind.Net
between (NetClient c) to = Kind.Net
between UartDevice to = Kind.Byte
between UartDriver to = Kind.Byte
between SerialReceiver to = Kind.Byte
between SerialSender to = Kind.Byte
between (SerialClient c) to = Kind.Byte
between DiskDevice to = Kind.Resp
between DiskDriver to = from_driver to
between BlkVirtualiser to = from_driver to
between (BlkClient c) to = Kind.Req

-- a row carries what goes from one of its owners to the other
abbrev pub Carries : QueueRow → Owners → Type 0
Carries row o = row.kind ≡ between o.producer o.consumer

-- so does each, one by one
abbrev Carry : List QueueRow → List Owners → Type 0
Carry [] [] = Unit {0}
Carry [] (o ∷ os) = ⊥
Carry (row ∷ rows) [] = ⊥
Carry (row ∷ rows) (o ∷ os) = Carries row o × Carry rows os

carry_append : (xs ys : List QueueRow) (os ps : List Owners) → Carry xs os → Carry ys ps → Carry (xs ++ ys) (os ++ ps)
carry_append [] ys [] ps f g = g
carry_append [] ys (o ∷ os) ps f g = absurd f
carry_append (x ∷ xs) ys [] ps f g = absurd f
carry_append (x ∷ xs) ys (o ∷ os) ps f g = (f.0, carry_append xs ys os ps f.1 g)

carry_each : {C : Type 0} (rows : ℕ → C → List QueueRow) (owners : ℕ → List Owners) (from : ℕ) (clients : List C) → ((k : ℕ) (x : C) → Carry (rows k x) (owners k)) → Carry (each_client rows from clients) (each_client (λ c client. owners c) from clients)
carry_each rows owners from [] each = tt
carry_each {C} rows owners from (x ∷ clients) each =
    carry_append (rows from x) (each_client rows (from + 1) clients) (owners from) (each_client (λ c (client : C). owners c) (from + 1) clients) (each from x) (carry_each rows owners (from + 1) clients each)

carry_class : {C : Type 0} (rows : C → List QueueRow) (owners : C → List Owners) (class : Option C) → ((x : C) → Carry (rows x) (owners x)) → Carry (option_map_or rows class []) (option_map_or owners class [])
carry_class rows owners None h = tt
carry_class rows owners (Some x) h = h x

carry_get : (rows : List QueueRow) (os : List Owners) → Carry rows os → (n : ℕ) (row : QueueRow) (o : Owners) → slice_get rows n ≡ Some row → slice_get os n ≡ Some o → Carries row o
carry_get [] os f n row o at there = absurd cc
carry_get (x ∷ rows) [] f n row o at there = absurd f
carry_get (x ∷ rows) (p ∷ os) f zero row o at there = subst (λ (r : QueueRow). Carries r o) (some_is at) (subst (Carries x) (some_is there) f.0)
carry_get (x ∷ rows) (p ∷ os) f (suc n) row o at there = carry_get rows os f.1 n row o at there

net_carry : (plan : Plan) (net : Net) → Carry (net_queues plan net) (net_owners net)
unfolding net_queues eth_rx_queues eth_tx_queues net_rx_queues net_tx_queues net_client_queues lease_queues client_rx_queues client_tx_queues queue_pair queue_in
net_carry plan net =
    let ways = both_ways EthDriver EthDevice in
    carry_append (eth_rx_queues plan net ++ eth_tx_queues plan net ++ net_rx_queues plan net ++ net_tx_queues plan net) (each_client (net_client_queues plan net) 0 net.client)
    (ways ++ ways ++ both_ways EthDriver NetReceiver ++ both_ways NetSender EthDriver) (each_client (λ c client. net_client_owners c) 0 net.client)
    (refl, (refl, (refl, (refl, (refl, (refl, (refl, (refl, tt))))))))
    (carry_each (net_client_queues plan net) net_client_owners 0 net.client (λ k x. (refl, (refl, (refl, (refl, (refl, (refl, tt))))))))

serial_carry : (plan : Plan) (serial : Serial) → Carry (serial_queues plan serial) (serial_owners serial)
unfolding serial_queues uart_queues shared_serial_queues serial_client_queues queue_in
serial_carry plan serial =
    carry_append (uart_queues plan serial ++ shared_serial_queues plan serial) (each_client (serial_client_queues plan serial) 0 serial.client)
    (both_ways UartDevice UartDriver ++ (one_way UartDriver SerialReceiver ∷ one_way SerialSender UartDriver ∷ [])) (each_client (λ c client. serial_client_owners c) 0 serial.client)
    (refl, (refl, (refl, (refl, tt))))
    (carry_each (serial_client_queues plan serial) serial_client_owners 0 serial.client (λ k x. (refl, (refl, tt))))

blk_carry : (plan : Plan) (blk : Blk) → Carry (blk_queues plan blk) (blk_owners blk)
unfolding blk_queues disk_queues shared_blk_queues blk_client_queues queue_pair queue_in
blk_carry plan blk =
    carry_append (disk_queues plan blk ++ shared_blk_queues plan blk) (each_client (blk_client_queues plan blk) 0 blk.client)
    (both_ways DiskDriver DiskDevice ++ both_ways BlkVirtualiser DiskDriver) (each_client (λ c client. both_ways (BlkClient c) BlkVirtualiser) 0 blk.client)
    (refl, (refl, (refl, (refl, tt))))
    (carry_each (blk_client_queues plan blk) (λ c. both_ways (BlkClient c) BlkVirtualiser) 0 blk.client (λ k x. (refl, (refl, tt))))

pub all_carry : (plan : Plan) (n : ℕ) (row : QueueRow) (o : Owners) → slice_get (queues_of plan) n ≡ Some row → slice_get (owners_of plan) n ≡ Some o → Carries row o
all_carry plan =
    carry_get (queues_of plan) (owners_of plan)
    (subst (λ (rows : List QueueRow). Carry rows (owners_of plan)) (sym (queues_same plan))
    (carry_append (option_map_or (net_queues plan) plan.net [] ++ option_map_or (serial_queues plan) plan.serial []) (option_map_or (blk_queues plan) plan.blk [])
    (option_map_or net_owners plan.net [] ++ option_map_or serial_owners plan.serial []) (option_map_or blk_owners plan.blk [])
    (carry_append (option_map_or (net_queues plan) plan.net []) (option_map_or (serial_queues plan) plan.serial []) (option_map_or net_owners plan.net []) (option_map_or serial_owners plan.serial [])
    (carry_class (net_queues plan) net_owners plan.net (net_carry plan)) (carry_class (serial_queues plan) serial_owners plan.serial (serial_carry plan)))
    (carry_class (blk_queues plan) blk_owners plan.blk (blk_carry plan))))

-- this holds of each row
abbrev EachRow : (QueueRow → Type 0) → List QueueRow → Type 0
EachRow P [] = Unit {0}
EachRow P (row ∷ rows) = P row × EachRow P rows

each_append : (P : QueueRow → Type 0) (xs ys : List QueueRow) → EachRow P xs → EachRow P ys → EachRow P (xs ++ ys)
each_append P [] ys f g = g
each_append P (x ∷ xs) ys f g = (f.0, each_append P xs ys f.1 g)

each_clients : {C : Type 0} (P : QueueRow → Type 0) (rows : ℕ → C → List QueueRow) (from : ℕ) (clients : List C) → ((k : ℕ) (x : C) → EachRow P (rows k x)) → EachRow P (each_client rows from clients)
each_clients P rows from [] each = tt
each_clients P rows from (x ∷ clients) each = each_append P (rows from x) (each_client rows (from + 1) clients) (each from x) (each_clients P rows (from + 1) clients each)

each_get : (P : QueueRow → Type 0) (rows : List QueueRow) → EachRow P rows → (i : ℕ) (row : QueueRow) → slice_get rows i ≡ Some row → P row
each_get P [] h i row at = absurd cc
each_get P (x ∷ rows) h zero row at = subst P (some_is at) h.0
each_get P (x ∷ rows) h (suc i) row at = each_get P rows h.1 i row at

abbrev IsNet : QueueRow → Type 0
IsNet row = row.kind ≡ Kind.Net

all_net : (plan : Plan) (net : Net) → EachRow IsNet (net_queues plan net)
unfolding net_queues eth_rx_queues eth_tx_queues net_rx_queues net_tx_queues net_client_queues lease_queues client_rx_queues client_tx_queues queue_pair queue_in
all_net plan net =
    each_append IsNet (eth_rx_queues plan net ++ eth_tx_queues plan net ++ net_rx_queues plan net ++ net_tx_queues plan net) (each_client (net_client_queues plan net) 0 net.client)
    (refl, (refl, (refl, (refl, (refl, (refl, (refl, (refl, tt))))))))
    (each_clients IsNet (net_client_queues plan net) 0 net.client (λ k x. (refl, (refl, (refl, (refl, (refl, (refl, tt))))))))

-- the first queues are those of the network
pub net_kinds : (plan : Plan) (net : Net) → plan.net ≡ Some net → (i : ℕ) → i < 8 + 6 * length net.client → (row : QueueRow) × (slice_get (queues_of plan) i ≡ Some row) × (row.kind ≡ Kind.Net)
net_kinds plan net is i lt =
    let many = queue_count plan net in
    let row = there_is (net_queues plan net) i (omega (arith, lt, many)) in
    let first = option_map_or (net_queues plan) plan.net [] in
    let second = option_map_or (serial_queues plan) plan.serial [] in
    let third = option_map_or (blk_queues plan) plan.blk [] in
    let here : slice_get first i ≡ Some row.0 = ap (λ o. slice_get (option_map_or (net_queues plan) o []) i) is ∙ row.1 in
    (row.0, ap (λ rows. slice_get rows i) (queues_same plan) ∙ get-left (first ++ second) third i row.0 (get-left first second i row.0 here), each_get IsNet (net_queues plan net) (all_net plan net) i row.0 row.1)
