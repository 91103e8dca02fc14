-- Who stands at the queues by which jobs are known.
use Rattle.std.proofs.Common.{◌≡◌, ◌+◌, ◌*◌, ◌<◌, ◌≤◌, ◌++◌, ℕ, Option, Some, None, is_some, List, [], ◌∷◌, length, length-append, slice_get, refl, sym, ap, ◌∙◌, subst, arith, inl, inr}
use Rattle.std.specs.List.{All}
use Rattle.std.specs.Option.{option_map_or}
use Rattle.std.proofs.lemmas.List.Elements.{All-nil, All-cons, All-append}
use Rattle.wire_core.specs.Ends.{Role, Consumer, Producer}
use Rattle.sdf_plan.specs.declared.plan.Plan.{Plan}
use Rattle.sdf_plan.specs.declared.plan.Net.{Net}
use Rattle.sdf_plan.specs.declared.plan.NetClient.{NetClient as NetClientKeys}
use Rattle.sdf_plan.specs.declared.plan.Serial.{Serial}
use Rattle.sdf_plan.specs.declared.plan.SerialClient.{SerialClient as SerialClientKeys}
use Rattle.sdf_plan.specs.declared.plan.Blk.{Blk}
use Rattle.sdf_plan.specs.declared.plan.BlkClient.{BlkClient as BlkClientKeys}
use Rattle.sdf_check.specs.Valid.{Valid}
use Rattle.sdf_check.proofs.ListLemmas.{get-left, get-right}
use Rattle.region_layout.specs.Rows.{actors_of, queues_of, each_client}
use Rattle.region_layout.proofs.ValidLemmas.{net_counts, serial_counts, blk_counts}
use Rattle.layout_laws.proofs.Lists.{there_is, get-below, each-at, all-at, all-clients, all-class}
use Rattle.play_core.proofs.Lists.{some_is}
use Rattle.layout_laws.specs.Jobs.Jobs as jobs
use Rattle.layout_laws.specs.Jobs.Jobs.{Post, post, HasJob, net_posts, net_client_posts, serial_posts, serial_client_posts, blk_posts, blk_client_posts, posts_of, job_if, device_jobs}
use Rattle.layout_laws.specs.Jobs.Queues.{Owners, one_way, both_ways, net_client_owners, net_owners, serial_client_owners, serial_owners, blk_owners, owners_of}
use Rattle.layout_laws.proofs.JobsLemmas.Having.{one_actor, some_job}
use Rattle.layout_laws.proofs.JobsLemmas.Owning.{owners_long, owners_there}
use Rattle.cast_core.specs.declared.jobs.NetJob.{NetJob}
use Rattle.cast_core.specs.declared.jobs.NetJob.TheVariants as OfNet
use Rattle.cast_core.specs.declared.jobs.SerialJob.{SerialJob}
use Rattle.cast_core.specs.declared.jobs.SerialJob.TheVariants as OfSerial
use Rattle.cast_core.specs.declared.jobs.BlkJob.{BlkJob}
use Rattle.cast_core.specs.declared.jobs.BlkJob.TheVariants as OfBlk
use Rattle.cast_core.specs.declared.jobs.Job.{Job}
use Rattle.cast_core.specs.declared.jobs.Job.TheVariants as Class
use Rattle.cast_core.specs.Sources.{first_serial, first_blk}
use Rattle.cast_core.proofs.Listing.{each_count}
use Rattle.cast_core.specs.Known.{IsOwner, net_job, net_within, net_queue, net_role, serial_job, serial_within, serial_queue, serial_role, blk_job, blk_within, blk_queue, blk_role, HasRows, IsKnown, any_job}

-- the job of the owner of a queue that has one of its ends
abbrev owner_job : Role → Owners → jobs.Job
owner_job Producer o = o.producer
owner_job Consumer o = o.consumer

net_long : (o : Option Net) → length (option_map_or net_owners o []) ≡ option_map_or (λ (net : Net). 8 + 6 * length net.client) o 0
net_long None = refl
net_long (Some net) =
    let front = both_ways jobs.EthDriver jobs.EthDevice ++ both_ways jobs.EthDriver jobs.EthDevice ++ both_ways jobs.EthDriver jobs.NetReceiver ++ both_ways jobs.NetSender jobs.EthDriver in
    let clients : List Owners = each_client (λ c client. net_client_owners c) 0 net.client in
    let each : length clients ≡ 6 * length net.client = each_count (λ c client. net_client_owners c) 6 (λ k. 6 * k) (omega arith) (λ k. omega arith) (λ k x. refl) 0 net.client in
    let whole : length (front ++ clients) ≡ 8 + length clients = length-append front clients in
    omega (arith, each, whole)

serial_long : (serial : Serial) → length (serial_owners serial) ≡ 4 + 2 * length serial.client
serial_long serial =
    let front = both_ways jobs.UartDevice jobs.UartDriver ++ (one_way jobs.UartDriver jobs.SerialReceiver ∷ one_way jobs.SerialSender jobs.UartDriver ∷ []) in
    let clients : List Owners = each_client (λ c client. serial_client_owners c) 0 serial.client in
    let each : length clients ≡ 2 * length serial.client = each_count (λ c client. serial_client_owners c) 2 (λ k. 2 * k) (omega arith) (λ k. omega arith) (λ k x. refl) 0 serial.client in
    let whole : length (front ++ clients) ≡ 4 + length clients = length-append front clients in
    omega (arith, each, whole)

serial_part_long : (o : Option Serial) → length (option_map_or serial_owners o []) ≡ option_map_or (λ (serial : Serial). 4 + 2 * length serial.client) o 0
serial_part_long None = refl
serial_part_long (Some serial) = serial_long serial

blk_part_long : (o : Option Blk) → length (option_map_or blk_owners o []) ≡ option_map_or (λ (blk : Blk). 4 + 2 * length blk.client) o 0
blk_part_long None = refl
blk_part_long (Some blk) =
    let front = both_ways jobs.DiskDriver jobs.DiskDevice ++ both_ways jobs.BlkVirtualiser jobs.DiskDriver in
    let clients : List Owners = each_client (λ c client. both_ways (jobs.BlkClient c) jobs.BlkVirtualiser) 0 blk.client in
    let each : length clients ≡ 2 * length blk.client = each_count (λ c client. both_ways (jobs.BlkClient c) jobs.BlkVirtualiser) 2 (λ k. 2 * k) (omega arith) (λ k. omega arith) (λ k x. refl) 0 blk.client in
    let whole : length (front ++ clients) ≡ 4 + length clients = length-append front clients in
    omega (arith, each, whole)

module _ (plan : Plan) where
  -- who stands at an end of a queue has the job that the table gives it
  has_of : (n : ℕ) (o : Owners) (r : Role) (k : ℕ) → slice_get (owners_of plan) n ≡ Some o → IsOwner (queues_of plan) n r k → HasJob plan (owner_job r o) k
  has_of n o Consumer k table owner =
      let there = owners_there plan n owner.0 owner.1 in
      let same : there.0 ≡ o = some_is (sym there.1 ∙ table) in
      subst (λ m. HasJob plan o.consumer m) owner.2 (subst (λ (x : Owners). HasJob plan x.consumer owner.0.consumer.0) same there.3)
  has_of n o Producer k table owner =
      let there = owners_there plan n owner.0 owner.1 in
      let same : there.0 ≡ o = some_is (sym there.1 ∙ table) in
      subst (λ m. HasJob plan o.producer m) owner.2 (subst (λ (x : Owners). HasJob plan x.producer owner.0.producer.0) same there.2)

  -- and who has that job stands there
  owner_of_job : (n : ℕ) (o : Owners) (r : Role) (k : ℕ) → slice_get (owners_of plan) n ≡ Some o → HasJob plan (owner_job r o) k → IsOwner (queues_of plan) n r k
  owner_of_job n o Consumer k table has =
      let row = there_is (queues_of plan) n (let below = get-below (owners_of plan) n o table in let long = owners_long plan in omega (arith, below, long)) in
      let there = owners_there plan n row.0 row.1 in
      let same : there.0 ≡ o = some_is (sym there.1 ∙ table) in
      (row.0, row.1, one_actor plan o.consumer row.0.consumer.0 k (subst (λ (x : Owners). HasJob plan x.consumer row.0.consumer.0) same there.3) has)
  owner_of_job n o Producer k table has =
      let row = there_is (queues_of plan) n (let below = get-below (owners_of plan) n o table in let long = owners_long plan in omega (arith, below, long)) in
      let there = owners_there plan n row.0 row.1 in
      let same : there.0 ≡ o = some_is (sym there.1 ∙ table) in
      (row.0, row.1, one_actor plan o.producer row.0.producer.0 k (subst (λ (x : Owners). HasJob plan x.producer row.0.producer.0) same there.2) has)

  -- a job is one of the class
  abbrev IsOf : Job → Type 0
  IsOf (Class.Net job) = (net : Net) × (plan.net ≡ Some net) × net_within (length net.client) job
  IsOf (Class.Serial job) = (serial : Serial) × (plan.serial ≡ Some serial) × serial_within (length serial.client) job
  IsOf (Class.Blk job) = (blk : Blk) × (plan.blk ≡ Some blk) × blk_within (length blk.client) job

  -- the table gives the queue of a job an owner of that job
  abbrev Tells : ℕ → Role → jobs.Job → Type 0
  Tells n r job = (o : Owners) × (slice_get (owners_of plan) n ≡ Some o) × (owner_job r o ≡ job)

  module _ (net : Net) (is : plan.net ≡ Some net) where
    net_at : (n : ℕ) (o : Owners) → slice_get (net_owners net) n ≡ Some o → slice_get (owners_of plan) n ≡ Some o
    net_at n o at =
        let here : slice_get (option_map_or net_owners plan.net []) n ≡ Some o = ap (λ (x : Option Net). slice_get (option_map_or net_owners x []) n) is ∙ at in
        get-left (option_map_or net_owners plan.net [] ++ option_map_or serial_owners plan.serial []) (option_map_or blk_owners plan.blk []) n o
        (get-left (option_map_or net_owners plan.net []) (option_map_or serial_owners plan.serial []) n o here)

    net_client_at : (c i n : ℕ) (o : Owners) → n ≡ 8 + (6 * c + i) → c < length net.client → slice_get (net_client_owners c) i ≡ Some o → slice_get (owners_of plan) n ≡ Some o
    net_client_at c i n o e lt at =
        let client = there_is net.client c lt in
        let front = both_ways jobs.EthDriver jobs.EthDevice ++ both_ways jobs.EthDriver jobs.EthDevice ++ both_ways jobs.EthDriver jobs.NetReceiver ++ both_ways jobs.NetSender jobs.EthDriver in
        let z : c ≡ 0 + c = omega arith in
        let flat = each-at (λ k (x : NetClientKeys). net_client_owners k) 6 (λ k. 6 * k) 0 net.client c i client.0 o (λ k x. refl) (omega arith) (λ k. omega arith) client.1 (ap (λ k. slice_get (net_client_owners k) i) (sym z) ∙ at) in
        let all : slice_get (net_owners net) (8 + (6 * c + i)) ≡ Some o = get-right front (each_client (λ k (x : NetClientKeys). net_client_owners k) 0 net.client) (6 * c + i) o flat in
        net_at n o (ap (slice_get (net_owners net)) e ∙ all)

    net_tells : (job : NetJob) → net_within (length net.client) job → Tells (net_queue job) (net_role job) (net_job job)
    net_tells OfNet.Device w = (one_way jobs.EthDriver jobs.EthDevice, net_at 0 (one_way jobs.EthDriver jobs.EthDevice) refl, refl)
    net_tells OfNet.Driver w = (one_way jobs.EthDriver jobs.EthDevice, net_at 0 (one_way jobs.EthDriver jobs.EthDevice) refl, refl)
    net_tells OfNet.Receiver w = (one_way jobs.EthDriver jobs.NetReceiver, net_at 4 (one_way jobs.EthDriver jobs.NetReceiver) refl, refl)
    net_tells OfNet.Sender w = (one_way jobs.NetSender jobs.EthDriver, net_at 6 (one_way jobs.NetSender jobs.EthDriver) refl, refl)
    net_tells (OfNet.Copier c) w = (one_way jobs.NetReceiver (jobs.NetCopier c), net_client_at c 0 (8 + 6 * c) (one_way jobs.NetReceiver (jobs.NetCopier c)) (omega arith) w refl, refl)
    net_tells (OfNet.Client c) w = (one_way (jobs.NetCopier c) (jobs.NetClient c), net_client_at c 2 (10 + 6 * c) (one_way (jobs.NetCopier c) (jobs.NetClient c)) (omega arith) w refl, refl)

  module _ (serial : Serial) (is : plan.serial ≡ Some serial) where
    serial_at : (n : ℕ) (o : Owners) → slice_get (serial_owners serial) n ≡ Some o → slice_get (owners_of plan) (first_serial plan + n) ≡ Some o
    serial_at n o at =
        let before = option_map_or net_owners plan.net [] in
        let here : slice_get (option_map_or serial_owners plan.serial []) n ≡ Some o = ap (λ (x : Option Serial). slice_get (option_map_or serial_owners x []) n) is ∙ at in
        let long : length before ≡ first_serial plan = net_long plan.net in
        ap (λ m. slice_get (owners_of plan) (m + n)) (sym long) ∙ get-left (before ++ option_map_or serial_owners plan.serial []) (option_map_or blk_owners plan.blk []) (length before + n) o
        (get-right before (option_map_or serial_owners plan.serial []) n o here)

    serial_client_at : (c i n : ℕ) (o : Owners) → n ≡ first_serial plan + (4 + (2 * c + i)) → c < length serial.client → slice_get (serial_client_owners c) i ≡ Some o → slice_get (owners_of plan) n ≡ Some o
    serial_client_at c i n o e lt at =
        let client = there_is serial.client c lt in
        let front = both_ways jobs.UartDevice jobs.UartDriver ++ (one_way jobs.UartDriver jobs.SerialReceiver ∷ one_way jobs.SerialSender jobs.UartDriver ∷ []) in
        let z : c ≡ 0 + c = omega arith in
        let flat = each-at (λ k (x : SerialClientKeys). serial_client_owners k) 2 (λ k. 2 * k) 0 serial.client c i client.0 o (λ k x. refl) (omega arith) (λ k. omega arith) client.1 (ap (λ k. slice_get (serial_client_owners k) i) (sym z) ∙ at) in
        let all : slice_get (serial_owners serial) (4 + (2 * c + i)) ≡ Some o = get-right front (each_client (λ k (x : SerialClientKeys). serial_client_owners k) 0 serial.client) (2 * c + i) o flat in
        ap (slice_get (owners_of plan)) e ∙ serial_at (4 + (2 * c + i)) o all

    serial_tells : (job : SerialJob) → serial_within (length serial.client) job → Tells (serial_queue (first_serial plan) job) (serial_role job) (serial_job job)
    serial_tells OfSerial.Device w = (one_way jobs.UartDevice jobs.UartDriver, ap (slice_get (owners_of plan)) (omega arith) ∙ serial_at 0 (one_way jobs.UartDevice jobs.UartDriver) refl, refl)
    serial_tells OfSerial.Driver w = (one_way jobs.UartDevice jobs.UartDriver, ap (slice_get (owners_of plan)) (omega arith) ∙ serial_at 0 (one_way jobs.UartDevice jobs.UartDriver) refl, refl)
    serial_tells OfSerial.Receiver w = (one_way jobs.UartDriver jobs.SerialReceiver, serial_at 2 (one_way jobs.UartDriver jobs.SerialReceiver) refl, refl)
    serial_tells OfSerial.Sender w = (one_way jobs.SerialSender jobs.UartDriver, serial_at 3 (one_way jobs.SerialSender jobs.UartDriver) refl, refl)
    serial_tells (OfSerial.Client c) w = (one_way jobs.SerialReceiver (jobs.SerialClient c), serial_client_at c 0 (first_serial plan + 4 + 2 * c) (one_way jobs.SerialReceiver (jobs.SerialClient c)) (omega arith) w refl, refl)

  module _ (blk : Blk) (is : plan.blk ≡ Some blk) where
    blk_at : (n : ℕ) (o : Owners) → slice_get (blk_owners blk) n ≡ Some o → slice_get (owners_of plan) (first_blk plan + n) ≡ Some o
    blk_at n o at =
        let before = option_map_or net_owners plan.net [] ++ option_map_or serial_owners plan.serial [] in
        let here : slice_get (option_map_or blk_owners plan.blk []) n ≡ Some o = ap (λ (x : Option Blk). slice_get (option_map_or blk_owners x []) n) is ∙ at in
        let one = net_long plan.net in
        let two = serial_part_long plan.serial in
        let all = length-append (option_map_or net_owners plan.net []) (option_map_or serial_owners plan.serial []) in
        let long : length before ≡ first_blk plan = omega (arith, one, two, all) in
        ap (λ m. slice_get (owners_of plan) (m + n)) (sym long) ∙ get-right before (option_map_or blk_owners plan.blk []) n o here

    blk_client_at : (c i n : ℕ) (o : Owners) → n ≡ first_blk plan + (4 + (2 * c + i)) → c < length blk.client → slice_get (both_ways (jobs.BlkClient c) jobs.BlkVirtualiser) i ≡ Some o → slice_get (owners_of plan) n ≡ Some o
    blk_client_at c i n o e lt at =
        let client = there_is blk.client c lt in
        let front = both_ways jobs.DiskDriver jobs.DiskDevice ++ both_ways jobs.BlkVirtualiser jobs.DiskDriver in
        let z : c ≡ 0 + c = omega arith in
        let flat = each-at (λ k (x : BlkClientKeys). both_ways (jobs.BlkClient k) jobs.BlkVirtualiser) 2 (λ k. 2 * k) 0 blk.client c i client.0 o (λ k x. refl) (omega arith) (λ k. omega arith) client.1 (ap (λ k. slice_get (both_ways (jobs.BlkClient k) jobs.BlkVirtualiser) i) (sym z) ∙ at) in
        let all : slice_get (blk_owners blk) (4 + (2 * c + i)) ≡ Some o = get-right front (each_client (λ k (x : BlkClientKeys). both_ways (jobs.BlkClient k) jobs.BlkVirtualiser) 0 blk.client) (2 * c + i) o flat in
        ap (slice_get (owners_of plan)) e ∙ blk_at (4 + (2 * c + i)) o all

    blk_tells : (job : BlkJob) → blk_within (length blk.client) job → Tells (blk_queue (first_blk plan) job) (blk_role job) (blk_job job)
    blk_tells OfBlk.Device w = (one_way jobs.DiskDriver jobs.DiskDevice, ap (slice_get (owners_of plan)) (omega arith) ∙ blk_at 0 (one_way jobs.DiskDriver jobs.DiskDevice) refl, refl)
    blk_tells OfBlk.Driver w = (one_way jobs.DiskDriver jobs.DiskDevice, ap (slice_get (owners_of plan)) (omega arith) ∙ blk_at 0 (one_way jobs.DiskDriver jobs.DiskDevice) refl, refl)
    blk_tells OfBlk.Virtualiser w = (one_way jobs.BlkVirtualiser jobs.DiskDriver, blk_at 2 (one_way jobs.BlkVirtualiser jobs.DiskDriver) refl, refl)
    blk_tells (OfBlk.Client c) w = (one_way (jobs.BlkClient c) jobs.BlkVirtualiser, blk_client_at c 0 (first_blk plan + 4 + 2 * c) (one_way (jobs.BlkClient c) jobs.BlkVirtualiser) (omega arith) w refl, refl)

  -- an actor that is known by its queue has the job
  pub known_has : (job : Job) (k : ℕ) → IsKnown plan (queues_of plan) k job → HasJob plan (any_job job) k
  known_has (Class.Net job) k known = let t = net_tells known.0 known.1 job known.2.0 in subst (λ j. HasJob plan j k) t.2 (has_of (net_queue job) t.0 (net_role job) k t.1 known.2.1)
  known_has (Class.Serial job) k known = let t = serial_tells known.0 known.1 job known.2.0 in subst (λ j. HasJob plan j k) t.2 (has_of (serial_queue (first_serial plan) job) t.0 (serial_role job) k t.1 known.2.1)
  known_has (Class.Blk job) k known = let t = blk_tells known.0 known.1 job known.2.0 in subst (λ j. HasJob plan j k) t.2 (has_of (blk_queue (first_blk plan) job) t.0 (blk_role job) k t.1 known.2.1)

  has_known : (job : Job) (k : ℕ) → IsOf job → HasJob plan (any_job job) k → IsKnown plan (queues_of plan) k job
  has_known (Class.Net job) k there has = let t = net_tells there.0 there.1 job there.2 in (there.0, there.1, (there.2, owner_of_job (net_queue job) t.0 (net_role job) k t.1 (subst (λ j. HasJob plan j k) (sym t.2) has)))
  has_known (Class.Serial job) k there has = let t = serial_tells there.0 there.1 job there.2 in (there.0, there.1, (there.2, owner_of_job (serial_queue (first_serial plan) job) t.0 (serial_role job) k t.1 (subst (λ j. HasJob plan j k) (sym t.2) has)))
  has_known (Class.Blk job) k there has = let t = blk_tells there.0 there.1 job there.2 in (there.0, there.1, (there.2, owner_of_job (blk_queue (first_blk plan) job) t.0 (blk_role job) k t.1 (subst (λ j. HasJob plan j k) (sym t.2) has)))

  -- each job that the plan gives is one of a class
  abbrev IsGiven : jobs.Job → Type 0
  IsGiven j = (job : Job) × IsOf job × (any_job job ≡ j)

  abbrev Given : Post → Type 0
  Given p = IsGiven p.job

  given_net : (net : Net) → plan.net ≡ Some net → All Given (net_posts net)
  given_net net is =
      All-cons Given (post jobs.EthDriver net.driver) (post jobs.NetReceiver net.rx_virt ∷ post jobs.NetSender net.tx_virt ∷ each_client net_client_posts 0 net.client) (Class.Net OfNet.Driver, (net, is, tt), refl)
      (All-cons Given (post jobs.NetReceiver net.rx_virt) (post jobs.NetSender net.tx_virt ∷ each_client net_client_posts 0 net.client) (Class.Net OfNet.Receiver, (net, is, tt), refl)
      (All-cons Given (post jobs.NetSender net.tx_virt) (each_client net_client_posts 0 net.client) (Class.Net OfNet.Sender, (net, is, tt), refl)
      (all-clients Given net_client_posts 0 net.client (λ k (x : NetClientKeys) there.
      let below : 0 + k < length net.client = (let h = get-below net.client k x there in omega (arith, h)) in
      All-cons Given (post (jobs.NetClient (0 + k)) x.pd) (post (jobs.NetCopier (0 + k)) x.copier ∷ []) (Class.Net (OfNet.Client (0 + k)), (net, is, below), refl)
      (All-cons Given (post (jobs.NetCopier (0 + k)) x.copier) [] (Class.Net (OfNet.Copier (0 + k)), (net, is, below), refl) (All-nil Given))))))

  given_serial : (serial : Serial) → plan.serial ≡ Some serial → All Given (serial_posts serial)
  given_serial serial is =
      All-cons Given (post jobs.UartDriver serial.driver) (post jobs.SerialReceiver serial.rx_virt ∷ post jobs.SerialSender serial.tx_virt ∷ each_client serial_client_posts 0 serial.client) (Class.Serial OfSerial.Driver, (serial, is, tt), refl)
      (All-cons Given (post jobs.SerialReceiver serial.rx_virt) (post jobs.SerialSender serial.tx_virt ∷ each_client serial_client_posts 0 serial.client) (Class.Serial OfSerial.Receiver, (serial, is, tt), refl)
      (All-cons Given (post jobs.SerialSender serial.tx_virt) (each_client serial_client_posts 0 serial.client) (Class.Serial OfSerial.Sender, (serial, is, tt), refl)
      (all-clients Given serial_client_posts 0 serial.client (λ k (x : SerialClientKeys) there.
      let below : 0 + k < length serial.client = (let h = get-below serial.client k x there in omega (arith, h)) in
      All-cons Given (post (jobs.SerialClient (0 + k)) x.pd) [] (Class.Serial (OfSerial.Client (0 + k)), (serial, is, below), refl) (All-nil Given)))))

  given_blk : (blk : Blk) → plan.blk ≡ Some blk → All Given (blk_posts blk)
  given_blk blk is =
      All-cons Given (post jobs.DiskDriver blk.driver) (post jobs.BlkVirtualiser blk.virt ∷ each_client blk_client_posts 0 blk.client) (Class.Blk OfBlk.Driver, (blk, is, tt), refl)
      (All-cons Given (post jobs.BlkVirtualiser blk.virt) (each_client blk_client_posts 0 blk.client) (Class.Blk OfBlk.Virtualiser, (blk, is, tt), refl)
      (all-clients Given blk_client_posts 0 blk.client (λ k (x : BlkClientKeys) there.
      let below : 0 + k < length blk.client = (let h = get-below blk.client k x there in omega (arith, h)) in
      All-cons Given (post (jobs.BlkClient (0 + k)) x.pd) [] (Class.Blk (OfBlk.Client (0 + k)), (blk, is, below), refl) (All-nil Given))))

  given_posts : All Given (posts_of plan)
  unfolding posts_of
  given_posts =
      let n = option_map_or net_posts plan.net [] in
      let s = option_map_or serial_posts plan.serial [] in
      let b = option_map_or blk_posts plan.blk [] in
      All-append Given (n ++ s) b (All-append Given n s (all-class Given net_posts plan.net given_net) (all-class Given serial_posts plan.serial given_serial)) (all-class Given blk_posts plan.blk given_blk)

  given_eth : (o : Option Net) → plan.net ≡ o → All IsGiven (job_if (is_some o) jobs.EthDevice)
  given_eth None is = All-nil IsGiven
  given_eth (Some net) is = All-cons IsGiven jobs.EthDevice [] (Class.Net OfNet.Device, (net, is, tt), refl) (All-nil IsGiven)

  given_uart : (o : Option Serial) → plan.serial ≡ o → All IsGiven (job_if (is_some o) jobs.UartDevice)
  given_uart None is = All-nil IsGiven
  given_uart (Some serial) is = All-cons IsGiven jobs.UartDevice [] (Class.Serial OfSerial.Device, (serial, is, tt), refl) (All-nil IsGiven)

  given_disk : (o : Option Blk) → plan.blk ≡ o → All IsGiven (job_if (is_some o) jobs.DiskDevice)
  given_disk None is = All-nil IsGiven
  given_disk (Some blk) is = All-cons IsGiven jobs.DiskDevice [] (Class.Blk OfBlk.Device, (blk, is, tt), refl) (All-nil IsGiven)

  given_devices : All IsGiven (device_jobs plan)
  given_devices =
      let n = job_if (is_some plan.net) jobs.EthDevice in
      let s = job_if (is_some plan.serial) jobs.UartDevice in
      let b = job_if (is_some plan.blk) jobs.DiskDevice in
      All-append IsGiven (n ++ s) b (All-append IsGiven n s (given_eth plan.net refl) (given_uart plan.serial refl)) (given_disk plan.blk refl)

  is_given : (j : jobs.Job) (k : ℕ) → HasJob plan j k → IsGiven j
  is_given j k (inl h) = all-at Given (posts_of plan) given_posts h.0 (post j h.1) h.2
  is_given j k (inr h) = all-at IsGiven (device_jobs plan) given_devices h.0 j h.1

  -- each actor is known by a queue
  pub some_known : Valid plan → (k : ℕ) → k < length (actors_of plan) → (job : Job) × IsKnown plan (queues_of plan) k job
  some_known valid k lt =
      let one = some_job plan valid k lt in
      let given = is_given one.0 k one.1 in
      (given.0, has_known given.0 k given.1 (subst (λ j. HasJob plan j k) (sym given.2) one.1))

  row_count : length (queues_of plan) ≡ first_blk plan + option_map_or (λ (blk : Blk). 4 + 2 * length blk.client) plan.blk 0
  row_count =
      let n = option_map_or net_owners plan.net [] in
      let s = option_map_or serial_owners plan.serial [] in
      let b = option_map_or blk_owners plan.blk [] in
      let two = length-append n s in
      let all = length-append (n ++ s) b in
      let first = net_long plan.net in
      let second = serial_part_long plan.serial in
      let third = blk_part_long plan.blk in
      let long = owners_long plan in
      omega (arith, two, all, first, second, third, long)

  -- the rows are those of the plan's classes
  pub has_rows : Valid plan → HasRows plan (queues_of plan)
  has_rows valid = record {
    numbered = let n = few_net plan.net refl in let s = few_serial plan.serial refl in let b = few_blk plan.blk refl in let all = row_count in omega (arith, n, s, b, all);
    net = λ net is. let all = row_count in let first : first_serial plan ≡ 8 + 6 * length net.client = ap (λ (o : Option Net). option_map_or (λ (x : Net). 8 + 6 * length x.client) o 0) is in omega (arith, all, first);
    serial = λ serial is. let all = row_count in let last : option_map_or (λ (x : Serial). 4 + 2 * length x.client) plan.serial 0 ≡ 4 + 2 * length serial.client = ap (λ (o : Option Serial). option_map_or (λ (x : Serial). 4 + 2 * length x.client) o 0) is in omega (arith, all, last);
    blk = λ blk is. let all = row_count in let last : option_map_or (λ (x : Blk). 4 + 2 * length x.client) plan.blk 0 ≡ 4 + 2 * length blk.client = ap (λ (o : Option Blk). option_map_or (λ (x : Blk). 4 + 2 * length x.client) o 0) is in omega (arith, all, last);
  }
    where
      few_net : (o : Option Net) → plan.net ≡ o → option_map_or (λ (net : Net). 8 + 6 * length net.client) o 0 ≤ 56
      few_net None is = omega arith
      few_net (Some net) is = let few = (net_counts plan net valid is).0.1 in omega (arith, few)

      few_serial : (o : Option Serial) → plan.serial ≡ o → option_map_or (λ (serial : Serial). 4 + 2 * length serial.client) o 0 ≤ 20
      few_serial None is = omega arith
      few_serial (Some serial) is = let few = (serial_counts plan serial valid is).1 in omega (arith, few)

      few_blk : (o : Option Blk) → plan.blk ≡ o → option_map_or (λ (blk : Blk). 4 + 2 * length blk.client) o 0 ≤ 20
      few_blk None is = omega arith
      few_blk (Some blk) is = let few = (blk_counts plan blk valid is).1 in omega (arith, few)
