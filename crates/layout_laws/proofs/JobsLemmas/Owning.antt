-- Whose each queue of a layout is, by the jobs of its owners.
use Rattle.std.proofs.Common.{◌≡◌, ◌+◌, ◌++◌, ℕ, zero, suc, Bool, true, false, Option, Some, None, is_some, inl, inr, List, [], ◌∷◌, length, length-append, slice_get, refl, sym, ap, ◌∙◌, subst, arith, add-zero}
use Rattle.std.specs.Option.{option_map_or}
use Rattle.cargo_core.specs.declared.item.QueueKind.{QueueKind}
use Rattle.wire_core.specs.declared.names.ActorId.{ActorId}
use Rattle.wire_core.specs.declared.names.QueueRow.{QueueRow}
use Rattle.sdf_plan.specs.declared.plan.Plan.{Plan}
use Rattle.sdf_plan.specs.declared.plan.Net.{Net}
use Rattle.sdf_plan.specs.declared.plan.NetClient.{NetClient as NetClientKeys}
use Rattle.sdf_plan.specs.declared.plan.Serial.{Serial}
use Rattle.sdf_plan.specs.declared.plan.SerialClient.{SerialClient as SerialClientKeys}
use Rattle.sdf_plan.specs.declared.plan.Blk.{Blk}
use Rattle.sdf_plan.specs.declared.plan.BlkClient.{BlkClient as BlkClientKeys}
use Rattle.region_layout.specs.Rows.{one_if, acting_count, actor_named, eth_number, uart_number, disk_number, queue_in, queue_pair, each_client, eth_rx_queues, eth_tx_queues, net_rx_queues, net_tx_queues, lease_queues, client_rx_queues, client_tx_queues, net_client_queues, net_queues, uart_queues, shared_serial_queues, serial_client_queues, serial_queues, disk_queues, shared_blk_queues, blk_client_queues, blk_queues, queues_of}
use Rattle.region_layout.proofs.SameLemmas.{queues_same}
use Rattle.play_core.proofs.Lists.{some_is}
use Rattle.layout_laws.specs.Jobs.Jobs.{Job, EthDevice, EthDriver, NetReceiver, NetSender, NetCopier, NetClient, UartDevice, UartDriver, SerialReceiver, SerialSender, SerialClient, DiskDevice, DiskDriver, BlkVirtualiser, BlkClient, Post, post, net_client_posts, net_posts, serial_client_posts, serial_posts, blk_client_posts, blk_posts, posts_of, job_if, device_jobs, HasJob}
use Rattle.layout_laws.specs.Jobs.Queues.{Owners, one_way, both_ways, net_client_owners, net_owners, serial_client_owners, serial_owners, blk_owners, owners_of}
use Rattle.layout_laws.proofs.JobsLemmas.Standing.{Stands, stands_left, stands_right}

-- what stands among the rows of a client stands among those of all
stands_each : {C T : Type 0} (rows : ℕ → C → List T) (row : T) (from : ℕ) (clients : List C) (c : ℕ) (client : C) → slice_get clients c ≡ Some client → Stands row (rows (from + c) client) → Stands row (each_client rows from clients)
stands_each rows row from [] c client there s = absurd cc
stands_each {C} rows row from (x ∷ clients) zero client there s =
    let here : Stands row (rows from x) = subst (λ (y : C). Stands row (rows from y)) (sym (some_is there)) (subst (λ n. Stands row (rows n client)) (add-zero from) s) in
    stands_left row (rows from x) (each_client rows (from + 1) clients) here
stands_each rows row from (x ∷ clients) (suc c) client there s =
    let shift : from + suc c ≡ from + 1 + c = omega arith in
    stands_right row (rows from x) (each_client rows (from + 1) clients) (stands_each rows row (from + 1) clients c client there (subst (λ n. Stands row (rows n client)) shift s))

module _ (plan : Plan) where
  abbrev IsBy : QueueRow → Owners → Type 0
  IsBy row o = HasJob plan o.producer row.producer.0 × HasJob plan o.consumer row.consumer.0

  -- each row has these owners, one by one
  abbrev Fit : List QueueRow → List Owners → Type 0
  Fit [] [] = Unit {0}
  Fit [] (o ∷ os) = ⊥
  Fit (row ∷ rows) [] = ⊥
  Fit (row ∷ rows) (o ∷ os) = IsBy row o × Fit rows os

  fit_append : (xs ys : List QueueRow) (os ps : List Owners) → Fit xs os → Fit ys ps → Fit (xs ++ ys) (os ++ ps)
  fit_append [] ys [] ps f g = g
  fit_append [] ys (o ∷ os) ps f g = absurd f
  fit_append (x ∷ xs) ys [] ps f g = absurd f
  fit_append (x ∷ xs) ys (o ∷ os) ps f g = (f.0, fit_append xs ys os ps f.1 g)

  fit_each : {C : Type 0} (rows : ℕ → C → List QueueRow) (owners : ℕ → C → List Owners) (from : ℕ) (clients : List C) → ((k : ℕ) (x : C) → slice_get clients k ≡ Some x → Fit (rows (from + k) x) (owners (from + k) x)) → Fit (each_client rows from clients) (each_client owners from clients)
  fit_each rows owners from [] each = tt
  fit_each {C} rows owners from (x ∷ clients) each =
      fit_append (rows from x) (each_client rows (from + 1) clients) (owners from x) (each_client owners (from + 1) clients)
      (subst (λ n. Fit (rows n x) (owners n x)) (add-zero from) (each 0 x refl))
      (fit_each rows owners (from + 1) clients (λ k (y : C) there. let shift : from + suc k ≡ from + 1 + k = omega arith in subst (λ n. Fit (rows n y) (owners n y)) shift (each (suc k) y there)))

  fit_class : {C : Type 0} (rows : C → List QueueRow) (owners : C → List Owners) (class : Option C) → ((x : C) → class ≡ Some x → Fit (rows x) (owners x)) → Fit (option_map_or rows class []) (option_map_or owners class [])
  fit_class rows owners None fits = tt
  fit_class rows owners (Some x) fits = fits x refl

  fit_get : (rows : List QueueRow) (os : List Owners) → Fit rows os → (n : ℕ) (row : QueueRow) → slice_get rows n ≡ Some row → (o : Owners) × (slice_get os n ≡ Some o) × HasJob plan o.producer row.producer.0 × HasJob plan o.consumer row.consumer.0
  fit_get [] os f n row at = absurd cc
  fit_get (x ∷ rows) [] f n row at = absurd f
  fit_get (x ∷ rows) (o ∷ os) f zero row at = (o, refl, subst (λ (r : QueueRow). HasJob plan o.producer r.producer.0) (some_is at) f.0.0, subst (λ (r : QueueRow). HasJob plan o.consumer r.consumer.0) (some_is at) f.0.1)
  fit_get (x ∷ rows) (o ∷ os) f (suc n) row at = fit_get rows os f.1 n row at

  fit_long : (rows : List QueueRow) (os : List Owners) → Fit rows os → length os ≡ length rows
  fit_long [] [] f = refl
  fit_long [] (o ∷ os) f = absurd f
  fit_long (row ∷ rows) [] f = absurd f
  fit_long (row ∷ rows) (o ∷ os) f = ap suc (fit_long rows os f.1)

  -- a queue between two who have these jobs, and two queues there and back
  by_one : (region : Option ℕ) (offset : ℕ) (name : List ℕ) (kind : QueueKind) (a b : ActorId) (capacity : ℕ) (p q : Job) → HasJob plan p a.0 → HasJob plan q b.0 → IsBy (queue_in plan region offset name kind a b capacity) (one_way p q)
  unfolding queue_in
  by_one region offset name kind a b capacity p q f g = (f, g)

  fit_pair : (key first : List ℕ) (kind : QueueKind) (second : List ℕ) (back : QueueKind) (a b : ActorId) (capacity : ℕ) (p q : Job) → HasJob plan p a.0 → HasJob plan q b.0 → Fit (queue_pair plan key first kind second back a b capacity) (both_ways p q)
  unfolding queue_pair
  fit_pair key first kind second back a b capacity p q f g = (by_one _ _ first kind a b capacity p q f g, (by_one _ _ second back b a capacity q p g f, tt))

  hired : (p : Post) → Stands p (posts_of plan) → HasJob plan p.job (actor_named plan p.name).0
  hired p s = inl (s.0, p.name, s.1, refl)

  abbrev net_part : List Post
  net_part = option_map_or net_posts plan.net []

  abbrev serial_part : List Post
  serial_part = option_map_or serial_posts plan.serial []

  abbrev blk_part : List Post
  blk_part = option_map_or blk_posts plan.blk []

  -- the devices
  eth_at : (there : is_some plan.net ≡ true) → HasJob plan EthDevice (eth_number plan).0
  unfolding eth_number
  eth_at there =
      let plus : acting_count plan ≡ acting_count plan + 0 = omega arith in
      inr (0, ap (λ b. slice_get (job_if b EthDevice ++ job_if (is_some plan.serial) UartDevice ++ job_if (is_some plan.blk) DiskDevice) 0) there, plus)

  uart_at : (there : is_some plan.serial ≡ true) → HasJob plan UartDevice (uart_number plan).0
  unfolding uart_number
  uart_at there = inr (one_if (is_some plan.net), ap (λ b. slice_get (job_if (is_some plan.net) EthDevice ++ job_if b UartDevice ++ job_if (is_some plan.blk) DiskDevice) (one_if (is_some plan.net))) there ∙ by (is_some plan.net), refl)
    where
      by : (a : Bool) → slice_get (job_if a EthDevice ++ job_if true UartDevice ++ job_if (is_some plan.blk) DiskDevice) (one_if a) ≡ Some UartDevice
      by true = refl
      by false = refl

  disk_at : (there : is_some plan.blk ≡ true) → HasJob plan DiskDevice (disk_number plan).0
  unfolding disk_number
  disk_at there =
      let plus : acting_count plan + one_if (is_some plan.net) + one_if (is_some plan.serial) ≡ acting_count plan + (one_if (is_some plan.net) + one_if (is_some plan.serial)) = omega arith in
      inr (one_if (is_some plan.net) + one_if (is_some plan.serial), ap (λ b. slice_get (job_if (is_some plan.net) EthDevice ++ job_if (is_some plan.serial) UartDevice ++ job_if b DiskDevice) (one_if (is_some plan.net) + one_if (is_some plan.serial))) there ∙ by (is_some plan.net) (is_some plan.serial), plus)
    where
      by : (a b : Bool) → slice_get (job_if a EthDevice ++ job_if b UartDevice ++ job_if true DiskDevice) (one_if a + one_if b) ≡ Some DiskDevice
      by true true = refl
      by true false = refl
      by false true = refl
      by false false = refl

  -- the network
  module _ (net : Net) (is : plan.net ≡ Some net) where
    in_net : (p : Post) → Stands p (net_posts net) → Stands p (posts_of plan)
    unfolding posts_of
    in_net p s = stands_left p (net_part ++ serial_part) blk_part (stands_left p net_part serial_part (subst (λ o. Stands p (option_map_or net_posts o [])) (sym is) s))

    pub net_client : (k : ℕ) (x : NetClientKeys) (p : Post) → slice_get net.client k ≡ Some x → Stands p (net_client_posts (0 + k) x) → HasJob plan p.job (actor_named plan p.name).0
    net_client k x p there s = let e = stands_each net_client_posts p 0 net.client k x there s in hired p (in_net p (suc (suc (suc e.0)), e.1))

    pub eth : HasJob plan EthDevice (eth_number plan).0
    eth = eth_at (ap is_some is)

    pub driver : HasJob plan EthDriver (actor_named plan net.driver).0
    driver = hired (post EthDriver net.driver) (in_net (post EthDriver net.driver) (0, refl))

    pub receiver : HasJob plan NetReceiver (actor_named plan net.rx_virt).0
    receiver = hired (post NetReceiver net.rx_virt) (in_net (post NetReceiver net.rx_virt) (1, refl))

    pub sender : HasJob plan NetSender (actor_named plan net.tx_virt).0
    sender = hired (post NetSender net.tx_virt) (in_net (post NetSender net.tx_virt) (2, refl))

    fit_net_client : (k : ℕ) (x : NetClientKeys) → slice_get net.client k ≡ Some x → Fit (net_client_queues plan net (0 + k) x) (net_client_owners (0 + k))
    unfolding net_client_queues lease_queues client_rx_queues client_tx_queues
    fit_net_client k x there =
        let client = net_client k x (post (NetClient (0 + k)) x.pd) there (0, refl) in
        let copier = net_client k x (post (NetCopier (0 + k)) x.copier) there (1, refl) in
        fit_append (lease_queues plan net (0 + k) x ++ client_rx_queues plan (0 + k) x) (client_tx_queues plan net (0 + k) x) (both_ways NetReceiver (NetCopier (0 + k)) ++ both_ways (NetCopier (0 + k)) (NetClient (0 + k))) (both_ways (NetClient (0 + k)) NetSender)
        (fit_append (lease_queues plan net (0 + k) x) (client_rx_queues plan (0 + k) x) (both_ways NetReceiver (NetCopier (0 + k))) (both_ways (NetCopier (0 + k)) (NetClient (0 + k)))
        (fit_pair _ _ _ _ _ _ _ _ NetReceiver (NetCopier (0 + k)) receiver copier)
        (fit_pair _ _ _ _ _ _ _ _ (NetCopier (0 + k)) (NetClient (0 + k)) copier client))
        (fit_pair _ _ _ _ _ _ _ _ (NetClient (0 + k)) NetSender client sender)

    fit_net : Fit (net_queues plan net) (net_owners net)
    unfolding net_queues eth_rx_queues eth_tx_queues net_rx_queues net_tx_queues
    fit_net =
        let ways = both_ways EthDriver EthDevice in
        fit_append (eth_rx_queues plan net ++ eth_tx_queues plan net ++ net_rx_queues plan net ++ net_tx_queues plan net) (each_client (net_client_queues plan net) 0 net.client) (ways ++ ways ++ both_ways EthDriver NetReceiver ++ both_ways NetSender EthDriver) (each_client (λ c client. net_client_owners c) 0 net.client)
        (fit_append (eth_rx_queues plan net ++ eth_tx_queues plan net ++ net_rx_queues plan net) (net_tx_queues plan net) (ways ++ ways ++ both_ways EthDriver NetReceiver) (both_ways NetSender EthDriver)
        (fit_append (eth_rx_queues plan net ++ eth_tx_queues plan net) (net_rx_queues plan net) (ways ++ ways) (both_ways EthDriver NetReceiver)
        (fit_append (eth_rx_queues plan net) (eth_tx_queues plan net) ways ways
        (by_one _ _ _ _ _ _ _ EthDriver EthDevice driver eth, (by_one _ _ _ _ _ _ _ EthDevice EthDriver eth driver, tt))
        (by_one _ _ _ _ _ _ _ EthDriver EthDevice driver eth, (by_one _ _ _ _ _ _ _ EthDevice EthDriver eth driver, tt)))
        (fit_pair _ _ _ _ _ _ _ _ EthDriver NetReceiver driver receiver))
        (fit_pair _ _ _ _ _ _ _ _ NetSender EthDriver sender driver))
        (fit_each (net_client_queues plan net) (λ c client. net_client_owners c) 0 net.client fit_net_client)

  -- the serial class
  module _ (serial : Serial) (is : plan.serial ≡ Some serial) where
    in_serial : (p : Post) → Stands p (serial_posts serial) → Stands p (posts_of plan)
    unfolding posts_of
    in_serial p s = stands_left p (net_part ++ serial_part) blk_part (stands_right p net_part serial_part (subst (λ o. Stands p (option_map_or serial_posts o [])) (sym is) s))

    pub serial_client : (k : ℕ) (x : SerialClientKeys) → slice_get serial.client k ≡ Some x → HasJob plan (SerialClient (0 + k)) (actor_named plan x.pd).0
    serial_client k x there =
        let p = post (SerialClient (0 + k)) x.pd in
        let e = stands_each serial_client_posts p 0 serial.client k x there (0, refl) in
        hired p (in_serial p (suc (suc (suc e.0)), e.1))

    pub uart : HasJob plan UartDevice (uart_number plan).0
    uart = uart_at (ap is_some is)

    pub uart_driver : HasJob plan UartDriver (actor_named plan serial.driver).0
    uart_driver = hired (post UartDriver serial.driver) (in_serial (post UartDriver serial.driver) (0, refl))

    pub serial_receiver : HasJob plan SerialReceiver (actor_named plan serial.rx_virt).0
    serial_receiver = hired (post SerialReceiver serial.rx_virt) (in_serial (post SerialReceiver serial.rx_virt) (1, refl))

    pub serial_sender : HasJob plan SerialSender (actor_named plan serial.tx_virt).0
    serial_sender = hired (post SerialSender serial.tx_virt) (in_serial (post SerialSender serial.tx_virt) (2, refl))

    fit_serial_client : (k : ℕ) (x : SerialClientKeys) → slice_get serial.client k ≡ Some x → Fit (serial_client_queues plan serial (0 + k) x) (serial_client_owners (0 + k))
    unfolding serial_client_queues
    fit_serial_client k x there =
        let client = serial_client k x there in
        (by_one _ _ _ _ _ _ _ SerialReceiver (SerialClient (0 + k)) serial_receiver client, (by_one _ _ _ _ _ _ _ (SerialClient (0 + k)) SerialSender client serial_sender, tt))

    fit_serial : Fit (serial_queues plan serial) (serial_owners serial)
    unfolding serial_queues uart_queues shared_serial_queues
    fit_serial =
        let shared = one_way UartDriver SerialReceiver ∷ one_way SerialSender UartDriver ∷ [] in
        fit_append (uart_queues plan serial ++ shared_serial_queues plan serial) (each_client (serial_client_queues plan serial) 0 serial.client) (both_ways UartDevice UartDriver ++ shared) (each_client (λ c client. serial_client_owners c) 0 serial.client)
        (fit_append (uart_queues plan serial) (shared_serial_queues plan serial) (both_ways UartDevice UartDriver) shared
        (by_one _ _ _ _ _ _ _ UartDevice UartDriver uart uart_driver, (by_one _ _ _ _ _ _ _ UartDriver UartDevice uart_driver uart, tt))
        (by_one _ _ _ _ _ _ _ UartDriver SerialReceiver uart_driver serial_receiver, (by_one _ _ _ _ _ _ _ SerialSender UartDriver serial_sender uart_driver, tt)))
        (fit_each (serial_client_queues plan serial) (λ c client. serial_client_owners c) 0 serial.client fit_serial_client)

  -- the block class
  module _ (blk : Blk) (is : plan.blk ≡ Some blk) where
    in_blk : (p : Post) → Stands p (blk_posts blk) → Stands p (posts_of plan)
    unfolding posts_of
    in_blk p s = stands_right p (net_part ++ serial_part) blk_part (subst (λ o. Stands p (option_map_or blk_posts o [])) (sym is) s)

    pub blk_client : (k : ℕ) (x : BlkClientKeys) → slice_get blk.client k ≡ Some x → HasJob plan (BlkClient (0 + k)) (actor_named plan x.pd).0
    blk_client k x there =
        let p = post (BlkClient (0 + k)) x.pd in
        let e = stands_each blk_client_posts p 0 blk.client k x there (0, refl) in
        hired p (in_blk p (suc (suc e.0), e.1))

    pub disk : HasJob plan DiskDevice (disk_number plan).0
    disk = disk_at (ap is_some is)

    pub disk_driver : HasJob plan DiskDriver (actor_named plan blk.driver).0
    disk_driver = hired (post DiskDriver blk.driver) (in_blk (post DiskDriver blk.driver) (0, refl))

    pub virtualiser : HasJob plan BlkVirtualiser (actor_named plan blk.virt).0
    virtualiser = hired (post BlkVirtualiser blk.virt) (in_blk (post BlkVirtualiser blk.virt) (1, refl))

    fit_blk_client : (k : ℕ) (x : BlkClientKeys) → slice_get blk.client k ≡ Some x → Fit (blk_client_queues plan blk (0 + k) x) (both_ways (BlkClient (0 + k)) BlkVirtualiser)
    unfolding blk_client_queues
    fit_blk_client k x there = fit_pair _ _ _ _ _ _ _ _ (BlkClient (0 + k)) BlkVirtualiser (blk_client k x there) virtualiser

    fit_blk : Fit (blk_queues plan blk) (blk_owners blk)
    unfolding blk_queues disk_queues shared_blk_queues
    fit_blk =
        fit_append (disk_queues plan blk ++ shared_blk_queues plan blk) (each_client (blk_client_queues plan blk) 0 blk.client) (both_ways DiskDriver DiskDevice ++ both_ways BlkVirtualiser DiskDriver) (each_client (λ c client. both_ways (BlkClient c) BlkVirtualiser) 0 blk.client)
        (fit_append (disk_queues plan blk) (shared_blk_queues plan blk) (both_ways DiskDriver DiskDevice) (both_ways BlkVirtualiser DiskDriver)
        (by_one _ _ _ _ _ _ _ DiskDriver DiskDevice disk_driver disk, (by_one _ _ _ _ _ _ _ DiskDevice DiskDriver disk disk_driver, tt))
        (fit_pair _ _ _ _ _ _ _ _ BlkVirtualiser DiskDriver virtualiser disk_driver))
        (fit_each (blk_client_queues plan blk) (λ c client. both_ways (BlkClient c) BlkVirtualiser) 0 blk.client fit_blk_client)

  all_fit : Fit (queues_of plan) (owners_of plan)
  all_fit =
      let n = option_map_or (net_queues plan) plan.net [] in
      let s = option_map_or (serial_queues plan) plan.serial [] in
      let b = option_map_or (blk_queues plan) plan.blk [] in
      subst (λ (rows : List QueueRow). Fit rows (owners_of plan)) (sym (queues_same plan))
      (fit_append (n ++ s) b (option_map_or net_owners plan.net [] ++ option_map_or serial_owners plan.serial []) (option_map_or blk_owners plan.blk [])
      (fit_append n s (option_map_or net_owners plan.net []) (option_map_or serial_owners plan.serial [])
      (fit_class (net_queues plan) net_owners plan.net fit_net)
      (fit_class (serial_queues plan) serial_owners plan.serial fit_serial))
      (fit_class (blk_queues plan) blk_owners plan.blk fit_blk))

  pub owners_long : length (owners_of plan) ≡ length (queues_of plan)
  owners_long = fit_long (queues_of plan) (owners_of plan) all_fit

  pub owners_there : (n : ℕ) (row : QueueRow) → slice_get (queues_of plan) n ≡ Some row → (o : Owners) × (slice_get (owners_of plan) n ≡ Some o) × HasJob plan o.producer row.producer.0 × HasJob plan o.consumer row.consumer.0
  owners_there n row at = fit_get (queues_of plan) (owners_of plan) all_fit n row at
