use Rattle.std.proofs.Common.{◌≡◌, ◌≢◌, ◌<◌, ◌≤◌, ◌+◌, ◌*◌, ℕ, true, List, [], ◌∷◌, ◌++◌, length, flat_map, Option, Some, is_some, slice_get, refl, sym, ap, ◌∙◌, subst, arith}
use Rattle.std.specs.List.{All}
use Rattle.std.specs.Option.{option_map_or}
use Rattle.std.proofs.lemmas.List.Elements.{All-nil, All-cons, All-append}
use Rattle.cargo_core.specs.declared.item.QueueKind.{QueueKind}
use Rattle.wire_core.specs.declared.names.ActorId.{ActorId}
use Rattle.wire_core.specs.declared.names.QueueRow.{QueueRow}
use Rattle.sdf_plan.specs.declared.plan.Plan.{Plan}
use Rattle.sdf_plan.specs.declared.plan.Net.{Net}
use Rattle.sdf_plan.specs.declared.plan.NetClient.{NetClient}
use Rattle.sdf_plan.specs.declared.plan.Serial.{Serial}
use Rattle.sdf_plan.specs.declared.plan.SerialClient.{SerialClient}
use Rattle.sdf_plan.specs.declared.plan.Blk.{Blk}
use Rattle.sdf_plan.specs.declared.plan.BlkClient.{BlkClient}
use Rattle.sdf_check.specs.Names.{net_domains, net_client_domains, serial_domains, serial_client_domains, blk_domains, blk_client_domains, region_named}
use Rattle.sdf_check.specs.ClassRules.{class_domains, net_names, serial_names, blk_names}
use Rattle.sdf_check.specs.Valid.{Valid}
use Rattle.sdf_check.proofs.ClassLemmas.{domains_same}
use Rattle.sdf_check.proofs.ListLemmas.{get-left, get-right}
use Rattle.region_layout.specs.Rows.{acting_count, actors_of, one_if, actor_named, eth_number, uart_number, disk_number, queue_in, queue_pair, queue_span, each_client, eth_rx_queues, eth_tx_queues, net_rx_queues, net_tx_queues, lease_queues, client_rx_queues, client_tx_queues, net_client_queues, net_queues, uart_queues, shared_serial_queues, serial_client_queues, serial_queues, disk_queues, shared_blk_queues, blk_client_queues, blk_queues, queues_of}
use Rattle.region_layout.proofs.SameLemmas.{queues_same}
use Rattle.region_layout.proofs.NameLemmas.{acting_and_devices}
use Rattle.layout_laws.specs.Sound.{IsOwned, IsActor}
use Rattle.layout_laws.proofs.Lists.{all-at, all-clients, all-class, get-below}
use Rattle.layout_laws.proofs.Keys.{flat-at}
use Rattle.layout_laws.proofs.Acting.{class_acts}
use Rattle.layout_laws.proofs.Once.{domains_once}

-- two actors of a layout that differ
record Joined (plan : Plan) (a b : ActorId) : Type 0 where
  first : a.0 < length (actors_of plan)
  second : b.0 < length (actors_of plan)
  differ : a.0 ≢ b.0

turned : (plan : Plan) (a b : ActorId) → Joined plan a b → Joined plan b a
turned plan a b j = record { first = j.second; second = j.first; differ = λ same. j.differ (sym same) }

owned : (plan : Plan) (region : Option ℕ) (offset : ℕ) (name : List ℕ) (kind : QueueKind) (a b : ActorId) (capacity : ℕ) → Joined plan a b → IsOwned plan (queue_in plan region offset name kind a b capacity)
unfolding queue_in
owned plan region offset name kind a b capacity j = record { producer = j.first; consumer = j.second; differ = j.differ }

both : (plan : Plan) (xs ys : List QueueRow) → All (IsOwned plan) xs → All (IsOwned plan) ys → All (IsOwned plan) (xs ++ ys)
both plan xs ys one other = All-append (IsOwned plan) xs ys one other

two : (plan : Plan) (x y : QueueRow) → IsOwned plan x → IsOwned plan y → All (IsOwned plan) (x ∷ y ∷ [])
two plan x y a b = All-cons (IsOwned plan) x (y ∷ []) a (All-cons (IsOwned plan) y [] b (All-nil (IsOwned plan)))

pair : (plan : Plan) (key first : List ℕ) (kind : QueueKind) (second : List ℕ) (back : QueueKind) (a b : ActorId) (capacity : ℕ) → Joined plan a b → All (IsOwned plan) (queue_pair plan key first kind second back a b capacity)
unfolding queue_pair
pair plan key first kind second back a b capacity j =
    two plan (queue_in plan (region_named plan key) 0 first kind a b capacity) (queue_in plan (region_named plan key) (queue_span kind capacity) second back b a capacity)
    (owned plan (region_named plan key) 0 first kind a b capacity j) (owned plan (region_named plan key) (queue_span kind capacity) second back b a capacity (turned plan a b j))

module _ (plan : Plan) (valid : Valid plan) where
  abbrev names : List (List ℕ)
  names = class_domains plan

  abbrev At : ℕ → List ℕ → Type 0
  At key name = slice_get names key ≡ Some name

  actor : (key : ℕ) (name : List ℕ) → At key name → IsActor plan name
  actor key name at = all-at (IsActor plan) names (class_acts plan valid) key name at

  below_all : (key : ℕ) (name : List ℕ) → At key name → (actor_named plan name).0 < length (actors_of plan)
  below_all key name at = get-below (actors_of plan) (actor_named plan name).0 name (actor key name at).0

  -- domains of two keys
  domains : (i j : ℕ) (a b : List ℕ) → i < j → At i a → At j b → Joined plan (actor_named plan a) (actor_named plan b)
  domains i j a b lt at bt = record {
    first = below_all i a at;
    second = below_all j b bt;
    differ = λ same.
        let one : Some a ≡ Some b = sym (actor i a at).0 ∙ (ap (slice_get (actors_of plan)) same ∙ (actor j b bt).0) in
        let name : a ≡ b = cc in
        domains_once plan valid j b bt (i, lt, at ∙ ap Some name);
  }

  -- a domain and a device
  device : (key : ℕ) (a : List ℕ) (d : ActorId) → At key a → acting_count plan ≤ d.0 → d.0 < length (actors_of plan) → Joined plan (actor_named plan a) d
  device key a d at behind among = record {
    first = below_all key a at;
    second = among;
    differ = λ same. let less = (actor key a at).1 in let no : ⊥ = omega (arith, same, less, behind) in no;
  }

  abbrev net_part : List (List ℕ)
  net_part = net_names net_domains net_client_domains plan

  abbrev serial_part : List (List ℕ)
  serial_part = serial_names serial_domains serial_client_domains plan

  abbrev blk_part : List (List ℕ)
  blk_part = blk_names blk_domains blk_client_domains plan

  to_all : (k : ℕ) (name : List ℕ) → slice_get (net_part ++ serial_part ++ blk_part) k ≡ Some name → At k name
  to_all k name at = ap (λ ns. slice_get ns k) (domains_same plan) ∙ at

  module _ (net : Net) (is : plan.net ≡ Some net) where
    in_net : (k : ℕ) (name : List ℕ) → slice_get (net_domains net ++ flat_map net_client_domains net.client) k ≡ Some name → At k name
    in_net k name at =
        let here : slice_get net_part k ≡ Some name = subst (λ (o : Option Net). slice_get (option_map_or (λ (x : Net). net_domains x ++ flat_map net_client_domains x.client) o []) k ≡ Some name) (sym is) at in
        to_all k name (get-left (net_part ++ serial_part) blk_part k name (get-left net_part serial_part k name here))

    head : (i : ℕ) (name : List ℕ) → slice_get (net_domains net) i ≡ Some name → At i name
    head i name at = in_net i name (get-left (net_domains net) (flat_map net_client_domains net.client) i name at)

    client : (c i : ℕ) (x : NetClient) (name : List ℕ) → slice_get net.client c ≡ Some x → slice_get (net_client_domains x) i ≡ Some name → At (3 + (2 * c + i)) name
    client c i x name there at = in_net (3 + (2 * c + i)) name (get-right (net_domains net) (flat_map net_client_domains net.client) (2 * c + i) name (flat-at net_client_domains 2 (λ k. 2 * k) net.client c i x name (λ x. refl) (omega arith) (λ k. omega arith) there at))

    eth : Joined plan (actor_named plan net.driver) (eth_number plan)
    unfolding eth_number
    eth =
        let there : is_some plan.net ≡ true = ap is_some is in
        let count : length (actors_of plan) ≡ acting_count plan + one_if true + one_if (is_some plan.serial) + one_if (is_some plan.blk) = subst (λ b. length (actors_of plan) ≡ acting_count plan + one_if b + one_if (is_some plan.serial) + one_if (is_some plan.blk)) there (acting_and_devices plan) in
        device 0 net.driver (eth_number plan) (head 0 net.driver refl) (omega arith) (omega (arith, count))

    client_owned : (c : ℕ) (x : NetClient) → slice_get net.client c ≡ Some x → All (IsOwned plan) (net_client_queues plan net c x)
    unfolding net_client_queues lease_queues client_rx_queues client_tx_queues
    client_owned c x there =
        let pd : At (3 + (2 * c + 0)) x.pd = client c 0 x x.pd there refl in
        let copier : At (3 + (2 * c + 1)) x.copier = client c 1 x x.copier there refl in
        both plan (lease_queues plan net c x ++ client_rx_queues plan c x) (client_tx_queues plan net c x)
        (both plan (lease_queues plan net c x) (client_rx_queues plan c x)
        (pair plan _ _ _ _ _ _ _ _ (domains 1 (3 + (2 * c + 1)) net.rx_virt x.copier (omega arith) (head 1 net.rx_virt refl) copier))
        (pair plan _ _ _ _ _ _ _ _ (turned plan _ _ (domains (3 + (2 * c + 0)) (3 + (2 * c + 1)) x.pd x.copier (omega arith) pd copier))))
        (pair plan _ _ _ _ _ _ _ _ (turned plan _ _ (domains 2 (3 + (2 * c + 0)) net.tx_virt x.pd (omega arith) (head 2 net.tx_virt refl) pd)))

    net_owned : All (IsOwned plan) (net_queues plan net)
    unfolding net_queues eth_rx_queues eth_tx_queues net_rx_queues net_tx_queues
    net_owned =
        let clients = all-clients (IsOwned plan) (net_client_queues plan net) 0 net.client (λ k (x : NetClient) there. subst (λ n. All (IsOwned plan) (net_client_queues plan net n x)) (let e : k ≡ 0 + k = omega arith in e) (client_owned k x there)) in
        let rx_virt = domains 0 1 net.driver net.rx_virt (omega arith) (head 0 net.driver refl) (head 1 net.rx_virt refl) in
        let tx_virt = turned plan _ _ (domains 0 2 net.driver net.tx_virt (omega arith) (head 0 net.driver refl) (head 2 net.tx_virt refl)) in
        both plan (eth_rx_queues plan net ++ eth_tx_queues plan net ++ net_rx_queues plan net ++ net_tx_queues plan net) (each_client (net_client_queues plan net) 0 net.client)
        (both plan (eth_rx_queues plan net ++ eth_tx_queues plan net ++ net_rx_queues plan net) (net_tx_queues plan net)
        (both plan (eth_rx_queues plan net ++ eth_tx_queues plan net) (net_rx_queues plan net)
        (both plan (eth_rx_queues plan net) (eth_tx_queues plan net)
        (two plan _ _ (owned plan _ _ _ _ _ _ _ eth) (owned plan _ _ _ _ _ _ _ (turned plan _ _ eth)))
        (two plan _ _ (owned plan _ _ _ _ _ _ _ eth) (owned plan _ _ _ _ _ _ _ (turned plan _ _ eth))))
        (pair plan _ _ _ _ _ _ _ _ rx_virt))
        (pair plan _ _ _ _ _ _ _ _ tx_virt))
        clients

  module _ (serial : Serial) (is : plan.serial ≡ Some serial) where
    abbrev serial_start : ℕ
    serial_start = length net_part

    in_serial : (k : ℕ) (name : List ℕ) → slice_get (serial_domains serial ++ flat_map serial_client_domains serial.client) k ≡ Some name → At (serial_start + k) name
    in_serial k name at =
        let here : slice_get serial_part k ≡ Some name = subst (λ (o : Option Serial). slice_get (option_map_or (λ (x : Serial). serial_domains x ++ flat_map serial_client_domains x.client) o []) k ≡ Some name) (sym is) at in
        to_all (serial_start + k) name (get-left (net_part ++ serial_part) blk_part (serial_start + k) name (get-right net_part serial_part k name here))

    serial_head : (i : ℕ) (name : List ℕ) → slice_get (serial_domains serial) i ≡ Some name → At (serial_start + i) name
    serial_head i name at = in_serial i name (get-left (serial_domains serial) (flat_map serial_client_domains serial.client) i name at)

    serial_client : (c i : ℕ) (x : SerialClient) (name : List ℕ) → slice_get serial.client c ≡ Some x → slice_get (serial_client_domains x) i ≡ Some name → At (serial_start + (3 + (1 * c + i))) name
    serial_client c i x name there at = in_serial (3 + (1 * c + i)) name (get-right (serial_domains serial) (flat_map serial_client_domains serial.client) (1 * c + i) name (flat-at serial_client_domains 1 (λ k. 1 * k) serial.client c i x name (λ x. refl) (omega arith) (λ k. omega arith) there at))

    uart : Joined plan (actor_named plan serial.driver) (uart_number plan)
    unfolding uart_number
    uart =
        let there : is_some plan.serial ≡ true = ap is_some is in
        let count : length (actors_of plan) ≡ acting_count plan + one_if (is_some plan.net) + one_if true + one_if (is_some plan.blk) = subst (λ b. length (actors_of plan) ≡ acting_count plan + one_if (is_some plan.net) + one_if b + one_if (is_some plan.blk)) there (acting_and_devices plan) in
        device (serial_start + 0) serial.driver (uart_number plan) (serial_head 0 serial.driver refl) (omega arith) (omega (arith, count))

    serial_client_owned : (c : ℕ) (x : SerialClient) → slice_get serial.client c ≡ Some x → All (IsOwned plan) (serial_client_queues plan serial c x)
    unfolding serial_client_queues
    serial_client_owned c x there =
        let pd : At (serial_start + (3 + (1 * c + 0))) x.pd = serial_client c 0 x x.pd there refl in
        two plan _ _
        (owned plan _ _ _ _ _ _ _ (domains (serial_start + 1) (serial_start + (3 + (1 * c + 0))) serial.rx_virt x.pd (omega arith) (serial_head 1 serial.rx_virt refl) pd))
        (owned plan _ _ _ _ _ _ _ (turned plan _ _ (domains (serial_start + 2) (serial_start + (3 + (1 * c + 0))) serial.tx_virt x.pd (omega arith) (serial_head 2 serial.tx_virt refl) pd)))

    serial_owned : All (IsOwned plan) (serial_queues plan serial)
    unfolding serial_queues uart_queues shared_serial_queues
    serial_owned =
        let clients = all-clients (IsOwned plan) (serial_client_queues plan serial) 0 serial.client (λ k (x : SerialClient) there. subst (λ n. All (IsOwned plan) (serial_client_queues plan serial n x)) (let e : k ≡ 0 + k = omega arith in e) (serial_client_owned k x there)) in
        let rx_virt = domains (serial_start + 0) (serial_start + 1) serial.driver serial.rx_virt (omega arith) (serial_head 0 serial.driver refl) (serial_head 1 serial.rx_virt refl) in
        let tx_virt = turned plan _ _ (domains (serial_start + 0) (serial_start + 2) serial.driver serial.tx_virt (omega arith) (serial_head 0 serial.driver refl) (serial_head 2 serial.tx_virt refl)) in
        both plan (uart_queues plan serial ++ shared_serial_queues plan serial) (each_client (serial_client_queues plan serial) 0 serial.client)
        (both plan (uart_queues plan serial) (shared_serial_queues plan serial)
        (two plan _ _ (owned plan _ _ _ _ _ _ _ (turned plan _ _ uart)) (owned plan _ _ _ _ _ _ _ uart))
        (two plan _ _ (owned plan _ _ _ _ _ _ _ rx_virt) (owned plan _ _ _ _ _ _ _ tx_virt)))
        clients

  module _ (blk : Blk) (is : plan.blk ≡ Some blk) where
    abbrev blk_start : ℕ
    blk_start = length (net_part ++ serial_part)

    in_blk : (k : ℕ) (name : List ℕ) → slice_get (blk_domains blk ++ flat_map blk_client_domains blk.client) k ≡ Some name → At (blk_start + k) name
    in_blk k name at =
        let here : slice_get blk_part k ≡ Some name = subst (λ (o : Option Blk). slice_get (option_map_or (λ (x : Blk). blk_domains x ++ flat_map blk_client_domains x.client) o []) k ≡ Some name) (sym is) at in
        to_all (blk_start + k) name (get-right (net_part ++ serial_part) blk_part k name here)

    blk_head : (i : ℕ) (name : List ℕ) → slice_get (blk_domains blk) i ≡ Some name → At (blk_start + i) name
    blk_head i name at = in_blk i name (get-left (blk_domains blk) (flat_map blk_client_domains blk.client) i name at)

    blk_client : (c i : ℕ) (x : BlkClient) (name : List ℕ) → slice_get blk.client c ≡ Some x → slice_get (blk_client_domains x) i ≡ Some name → At (blk_start + (2 + (1 * c + i))) name
    blk_client c i x name there at = in_blk (2 + (1 * c + i)) name (get-right (blk_domains blk) (flat_map blk_client_domains blk.client) (1 * c + i) name (flat-at blk_client_domains 1 (λ k. 1 * k) blk.client c i x name (λ x. refl) (omega arith) (λ k. omega arith) there at))

    disk : Joined plan (actor_named plan blk.driver) (disk_number plan)
    unfolding disk_number
    disk =
        let there : is_some plan.blk ≡ true = ap is_some is in
        let count : length (actors_of plan) ≡ acting_count plan + one_if (is_some plan.net) + one_if (is_some plan.serial) + one_if true = subst (λ b. length (actors_of plan) ≡ acting_count plan + one_if (is_some plan.net) + one_if (is_some plan.serial) + one_if b) there (acting_and_devices plan) in
        device (blk_start + 0) blk.driver (disk_number plan) (blk_head 0 blk.driver refl) (omega arith) (omega (arith, count))

    blk_client_owned : (c : ℕ) (x : BlkClient) → slice_get blk.client c ≡ Some x → All (IsOwned plan) (blk_client_queues plan blk c x)
    unfolding blk_client_queues
    blk_client_owned c x there =
        let pd : At (blk_start + (2 + (1 * c + 0))) x.pd = blk_client c 0 x x.pd there refl in
        pair plan _ _ _ _ _ _ _ _ (turned plan _ _ (domains (blk_start + 1) (blk_start + (2 + (1 * c + 0))) blk.virt x.pd (omega arith) (blk_head 1 blk.virt refl) pd))

    blk_owned : All (IsOwned plan) (blk_queues plan blk)
    unfolding blk_queues disk_queues shared_blk_queues
    blk_owned =
        let clients = all-clients (IsOwned plan) (blk_client_queues plan blk) 0 blk.client (λ k (x : BlkClient) there. subst (λ n. All (IsOwned plan) (blk_client_queues plan blk n x)) (let e : k ≡ 0 + k = omega arith in e) (blk_client_owned k x there)) in
        let virt = turned plan _ _ (domains (blk_start + 0) (blk_start + 1) blk.driver blk.virt (omega arith) (blk_head 0 blk.driver refl) (blk_head 1 blk.virt refl)) in
        both plan (disk_queues plan blk ++ shared_blk_queues plan blk) (each_client (blk_client_queues plan blk) 0 blk.client)
        (both plan (disk_queues plan blk) (shared_blk_queues plan blk)
        (two plan _ _ (owned plan _ _ _ _ _ _ _ disk) (owned plan _ _ _ _ _ _ _ (turned plan _ _ disk)))
        (pair plan _ _ _ _ _ _ _ _ virt))
        clients

  -- the two owners of each queue of a valid plan
  pub queues_owned : All (IsOwned plan) (queues_of plan)
  queues_owned =
      let net = all-class (IsOwned plan) (net_queues plan) plan.net net_owned in
      let serial = all-class (IsOwned plan) (serial_queues plan) plan.serial serial_owned in
      let blk = all-class (IsOwned plan) (blk_queues plan) plan.blk blk_owned in
      subst (All (IsOwned plan)) (sym (queues_same plan)) (both plan (option_map_or (net_queues plan) plan.net [] ++ option_map_or (serial_queues plan) plan.serial []) (option_map_or (blk_queues plan) plan.blk [])
      (both plan (option_map_or (net_queues plan) plan.net []) (option_map_or (serial_queues plan) plan.serial []) net serial) blk)
