-- Who has a job has one of a class of the plan.
use Rattle.std.proofs.Common.{◌≡◌, ◌+◌, ◌<◌, ◌++◌, ℕ, Bool, true, false, Option, Some, None, is_some, inl, inr, [], ◌∷◌, length, refl, arith}
use Rattle.std.specs.List.{All}
use Rattle.std.specs.Option.{option_map_or}
use Rattle.std.proofs.lemmas.List.Elements.{All-nil, All-cons, All-append}
use Rattle.sdf_plan.specs.declared.plan.Plan.{Plan}
use Rattle.sdf_plan.specs.declared.plan.Net.{Net}
use Rattle.sdf_plan.specs.declared.plan.Serial.{Serial}
use Rattle.sdf_plan.specs.declared.plan.Blk.{Blk}
use Rattle.region_layout.specs.Rows.{each_client}
use Rattle.layout_laws.proofs.Lists.{all-at, all-clients, all-class}
use Rattle.play_core.proofs.Lists.{there_below}
use Rattle.layout_laws.specs.Jobs.Jobs.{Job, EthDevice, EthDriver, NetReceiver, NetSender, NetCopier, NetClient, UartDevice, UartDriver, SerialReceiver, SerialSender, SerialClient, DiskDevice, DiskDriver, BlkVirtualiser, BlkClient, Post, post, net_client_posts, net_posts, serial_client_posts, serial_posts, blk_client_posts, blk_posts, posts_of, job_if, device_jobs, HasJob}
use Rattle.layout_laws.specs.Seats.Ends.{net_count, serial_count, blk_count, HasNet, HasSerial, HasBlk, IsOf}

there_or_not : {T : Type 0} (o : Option T) → is_some o ≡ true → (x : T) × (o ≡ Some x)
there_or_not None is = cc
there_or_not (Some x) is = (x, refl)

pub count_is : {T : Type 0} (o : Option T) (count : T → ℕ) (x : T) → o ≡ Some x → option_map_or count o 0 ≡ count x
count_is o count x is = rw is refl

module _ (plan : Plan) where
  abbrev Is : Post → Type 0
  Is p = IsOf plan p.job

  net_is : (net : Net) → plan.net ≡ Some net → All Is (net_posts net)
  net_is net is =
      let has : HasNet plan = (net, is) in
      let clients = each_client net_client_posts 0 net.client in
      All-cons Is (post EthDriver net.driver) (post NetReceiver net.rx_virt ∷ post NetSender net.tx_virt ∷ clients) has
      (All-cons Is (post NetReceiver net.rx_virt) (post NetSender net.tx_virt ∷ clients) has
      (All-cons Is (post NetSender net.tx_virt) clients has
      (all-clients Is net_client_posts 0 net.client (λ k x there.
      let lt : 0 + k < net_count plan = (let below = there_below net.client k x there in let many = count_is plan.net (λ (n : Net). length n.client) net is in omega (arith, below, many)) in
      All-cons Is (post (NetClient (0 + k)) x.pd) (post (NetCopier (0 + k)) x.copier ∷ []) (has, lt)
      (All-cons Is (post (NetCopier (0 + k)) x.copier) [] (has, lt) (All-nil Is))))))

  serial_is : (serial : Serial) → plan.serial ≡ Some serial → All Is (serial_posts serial)
  serial_is serial is =
      let has : HasSerial plan = (serial, is) in
      let clients = each_client serial_client_posts 0 serial.client in
      All-cons Is (post UartDriver serial.driver) (post SerialReceiver serial.rx_virt ∷ post SerialSender serial.tx_virt ∷ clients) has
      (All-cons Is (post SerialReceiver serial.rx_virt) (post SerialSender serial.tx_virt ∷ clients) has
      (All-cons Is (post SerialSender serial.tx_virt) clients has
      (all-clients Is serial_client_posts 0 serial.client (λ k x there.
      let lt : 0 + k < serial_count plan = (let below = there_below serial.client k x there in let many = count_is plan.serial (λ (n : Serial). length n.client) serial is in omega (arith, below, many)) in
      All-cons Is (post (SerialClient (0 + k)) x.pd) [] (has, lt) (All-nil Is)))))

  blk_is : (blk : Blk) → plan.blk ≡ Some blk → All Is (blk_posts blk)
  blk_is blk is =
      let has : HasBlk plan = (blk, is) in
      let clients = each_client blk_client_posts 0 blk.client in
      All-cons Is (post DiskDriver blk.driver) (post BlkVirtualiser blk.virt ∷ clients) has
      (All-cons Is (post BlkVirtualiser blk.virt) clients has
      (all-clients Is blk_client_posts 0 blk.client (λ k x there.
      let lt : 0 + k < blk_count plan = (let below = there_below blk.client k x there in let many = count_is plan.blk (λ (n : Blk). length n.client) blk is in omega (arith, below, many)) in
      All-cons Is (post (BlkClient (0 + k)) x.pd) [] (has, lt) (All-nil Is))))

  posts_are : All Is (posts_of plan)
  unfolding posts_of
  posts_are =
      let n = option_map_or net_posts plan.net [] in
      let s = option_map_or serial_posts plan.serial [] in
      let b = option_map_or blk_posts plan.blk [] in
      All-append Is (n ++ s) b (All-append Is n s (all-class Is net_posts plan.net net_is) (all-class Is serial_posts plan.serial serial_is)) (all-class Is blk_posts plan.blk blk_is)

  device_if : (there : Bool) (job : Job) → (there ≡ true → IsOf plan job) → All (IsOf plan) (job_if there job)
  device_if true job is = All-cons (IsOf plan) job [] (is refl) (All-nil (IsOf plan))
  device_if false job is = All-nil (IsOf plan)

  devices_are : All (IsOf plan) (device_jobs plan)
  devices_are =
      let n = job_if (is_some plan.net) EthDevice in
      let s = job_if (is_some plan.serial) UartDevice in
      let b = job_if (is_some plan.blk) DiskDevice in
      All-append (IsOf plan) (n ++ s) b
      (All-append (IsOf plan) n s (device_if (is_some plan.net) EthDevice (there_or_not plan.net)) (device_if (is_some plan.serial) UartDevice (there_or_not plan.serial)))
      (device_if (is_some plan.blk) DiskDevice (there_or_not plan.blk))

  pub job_is_of : (job : Job) (k : ℕ) → HasJob plan job k → IsOf plan job
  job_is_of job k (inl h) = all-at Is (posts_of plan) posts_are h.0 (post job h.1) h.2
  job_is_of job k (inr h) = all-at (IsOf plan) (device_jobs plan) devices_are h.0 job h.1
