-- Each actor has one job, and each job one actor.
use Rattle.std.proofs.Common.{◌≡◌, ◌⊎◌, ⊎_elim, ◌+◌, ◌-◌, ◌<◌, ◌≤◌, ◌++◌, ℕ, zero, suc, Bool, true, false, not, Option, Some, None, is_some, inl, inr, List, [], ◌∷◌, codes, length, length-append, map, filter, flat_map, slice_get, refl, sym, ap, ap₂, ◌∙◌, subst, arith}
use Rattle.std.specs.List.{All}
use Rattle.std.specs.Option.{option_map, option_map_or, option_and_then}
use Rattle.std.specs.Str.{bytes_eq}
use Rattle.std.proofs.lemmas.Bool.{cases_lt}
use Rattle.std.proofs.lemmas.List.{length-map, map-append}
use Rattle.std.proofs.lemmas.List.Elements.{All-nil, All-cons, All-append}
use Rattle.std.proofs.lemmas.Slice.Eq.{bytes_eq-Decides}
use Rattle.sdf_plan.specs.declared.place.Place.TheVariants as At
use Rattle.sdf_plan.specs.declared.plan.Plan.{Plan}
use Rattle.sdf_plan.specs.declared.plan.Domain.{Domain}
use Rattle.sdf_plan.specs.declared.plan.Net.{Net}
use Rattle.sdf_plan.specs.declared.plan.NetClient.{NetClient as NetClientKeys}
use Rattle.sdf_plan.specs.declared.plan.Serial.{Serial}
use Rattle.sdf_plan.specs.declared.plan.SerialClient.{SerialClient as SerialClientKeys}
use Rattle.sdf_plan.specs.declared.plan.Blk.{Blk}
use Rattle.sdf_plan.specs.declared.plan.BlkClient.{BlkClient as BlkClientKeys}
use Rattle.sdf_check.specs.Names.{StandsBefore, place_of, domain_names, net_domains, net_client_domains, serial_domains, serial_client_domains, blk_domains, blk_client_domains}
use Rattle.sdf_check.specs.ClassRules.{SomeOf, class_domains}
use Rattle.sdf_check.specs.Valid.{Valid}
use Rattle.sdf_check.proofs.ListLemmas.{get-either}
use Rattle.sdf_check.proofs.NamedLemmas.{named-none}
use Rattle.sdf_check.proofs.SoughtLemmas.{here-some}
use Rattle.sdf_check.proofs.ClassLemmas.{domains_same}
use Rattle.region_layout.specs.Rows.{acts, one_if, acting_count, actor_named, actors_of, devices_of, each_client}
use Rattle.region_layout.proofs.NameLemmas.{acting_and_devices}
use Rattle.region_layout.proofs.WalkLemmas.{kept, domain_walked}
use Rattle.layout_laws.specs.Sound.{IsActor}
use Rattle.layout_laws.proofs.Lists.{option_cases, all-at, all-clients, all-class}
use Rattle.layout_laws.proofs.Found.{found-at}
use Rattle.layout_laws.proofs.Acting.{class_acts}
use Rattle.layout_laws.proofs.Once.{domains_once}
use Rattle.play_core.proofs.Lists.{some_is, map_get, map_from, there_is, there_below}
use Rattle.layout_laws.specs.Jobs.Jobs.{Job, EthDevice, EthDriver, NetReceiver, NetSender, NetCopier, NetClient, UartDevice, UartDriver, SerialReceiver, SerialSender, SerialClient, DiskDevice, DiskDriver, BlkVirtualiser, BlkClient, Post, post, net_client_posts, net_posts, serial_client_posts, serial_posts, blk_client_posts, blk_posts, posts_of, job_if, device_jobs, HasJob}
use Rattle.layout_laws.proofs.JobsLemmas.Standing.{Stands, AreApart, one_place, name_of, acting_names, acting_apart, acting_from}

abbrev name_at : Post → List ℕ
name_at p = p.name

-- the names of the jobs' domains are those that class elements name
names_each : {C : Type 0} (rows : ℕ → C → List Post) (names : C → List (List ℕ)) → ((c : ℕ) (x : C) → map name_at (rows c x) ≡ names x) → (from : ℕ) (clients : List C) → map name_at (each_client rows from clients) ≡ flat_map names clients
names_each rows names each from [] = refl
names_each rows names each from (x ∷ clients) = map-append name_at (rows from x) (each_client rows (from + 1) clients) ∙ ap₂ (λ a b. a ++ b) (each from x) (names_each rows names each (from + 1) clients)

net_names : (o : Option Net) → map name_at (option_map_or net_posts o []) ≡ option_map_or (λ (net : Net). net_domains net ++ flat_map net_client_domains net.client) o []
net_names None = refl
net_names (Some net) = ap (λ l. net.driver ∷ net.rx_virt ∷ net.tx_virt ∷ l) (names_each net_client_posts net_client_domains (λ c x. refl) 0 net.client)

serial_names : (o : Option Serial) → map name_at (option_map_or serial_posts o []) ≡ option_map_or (λ (serial : Serial). serial_domains serial ++ flat_map serial_client_domains serial.client) o []
serial_names None = refl
serial_names (Some serial) = ap (λ l. serial.driver ∷ serial.rx_virt ∷ serial.tx_virt ∷ l) (names_each serial_client_posts serial_client_domains (λ c x. refl) 0 serial.client)

blk_names : (o : Option Blk) → map name_at (option_map_or blk_posts o []) ≡ option_map_or (λ (blk : Blk). blk_domains blk ++ flat_map blk_client_domains blk.client) o []
blk_names None = refl
blk_names (Some blk) = ap (λ l. blk.driver ∷ blk.virt ∷ l) (names_each blk_client_posts blk_client_domains (λ c x. refl) 0 blk.client)

-- the domain that a job has by its class
abbrev domain_of : Plan → Job → Option (List ℕ)
domain_of plan EthDevice = None
domain_of plan EthDriver = option_map (λ (n : Net). n.driver) plan.net
domain_of plan NetReceiver = option_map (λ (n : Net). n.rx_virt) plan.net
domain_of plan NetSender = option_map (λ (n : Net). n.tx_virt) plan.net
domain_of plan (NetCopier c) = option_and_then (λ (n : Net). option_map (λ (x : NetClientKeys). x.copier) (slice_get n.client c)) plan.net
domain_of plan (NetClient c) = option_and_then (λ (n : Net). option_map (λ (x : NetClientKeys). x.pd) (slice_get n.client c)) plan.net
domain_of plan UartDevice = None
domain_of plan UartDriver = option_map (λ (n : Serial). n.driver) plan.serial
domain_of plan SerialReceiver = option_map (λ (n : Serial). n.rx_virt) plan.serial
domain_of plan SerialSender = option_map (λ (n : Serial). n.tx_virt) plan.serial
domain_of plan (SerialClient c) = option_and_then (λ (n : Serial). option_map (λ (x : SerialClientKeys). x.pd) (slice_get n.client c)) plan.serial
domain_of plan DiskDevice = None
domain_of plan DiskDriver = option_map (λ (n : Blk). n.driver) plan.blk
domain_of plan BlkVirtualiser = option_map (λ (n : Blk). n.virt) plan.blk
domain_of plan (BlkClient c) = option_and_then (λ (n : Blk). option_map (λ (x : BlkClientKeys). x.pd) (slice_get n.client c)) plan.blk

-- the value of a client of a class
client_value : {C X : Type 0} (class : Option C) (x : C) (clients : C → List X) (k : ℕ) (client : X) (key : X → List ℕ) → class ≡ Some x → slice_get (clients x) k ≡ Some client → option_and_then (λ (n : C). option_map key (slice_get (clients n) (0 + k))) class ≡ Some (key client)
client_value class x clients k client key is there =
    let zero_first : 0 + k ≡ k = omega arith in
    ap (option_and_then (λ n. option_map key (slice_get (clients n) (0 + k)))) is ∙ (ap (λ m. option_map key (slice_get (clients x) m)) zero_first ∙ ap (option_map key) there)

abbrev device_place : Bool → Bool → Job → ℕ
device_place a b EthDevice = 0
device_place a b EthDriver = 0
device_place a b NetReceiver = 0
device_place a b NetSender = 0
device_place a b (NetCopier c) = 0
device_place a b (NetClient c) = 0
device_place a b UartDevice = one_if a
device_place a b UartDriver = 0
device_place a b SerialReceiver = 0
device_place a b SerialSender = 0
device_place a b (SerialClient c) = 0
device_place a b DiskDevice = one_if a + one_if b
device_place a b DiskDriver = 0
device_place a b BlkVirtualiser = 0
device_place a b (BlkClient c) = 0

-- each device has its place among those that are there
device_at : (a b c : Bool) (i : ℕ) (job : Job) → slice_get (job_if a EthDevice ++ job_if b UartDevice ++ job_if c DiskDevice) i ≡ Some job → i ≡ device_place a b job
device_at true b c zero job h = subst (λ j. 0 ≡ device_place true b j) (some_is h) refl
device_at true true c (suc zero) job h = subst (λ j. 1 ≡ device_place true true j) (some_is h) refl
device_at true true true (suc (suc zero)) job h = subst (λ j. 2 ≡ device_place true true j) (some_is h) refl
device_at true true true (suc (suc (suc i))) job h = cc
device_at true true false (suc (suc i)) job h = cc
device_at true false true (suc zero) job h = subst (λ j. 1 ≡ device_place true false j) (some_is h) refl
device_at true false true (suc (suc i)) job h = cc
device_at true false false (suc i) job h = cc
device_at false true c zero job h = subst (λ j. 0 ≡ device_place false true j) (some_is h) refl
device_at false true true (suc zero) job h = subst (λ j. 1 ≡ device_place false true j) (some_is h) refl
device_at false true true (suc (suc i)) job h = cc
device_at false true false (suc i) job h = cc
device_at false false true zero job h = subst (λ j. 0 ≡ device_place false false j) (some_is h) refl
device_at false false true (suc i) job h = cc
device_at false false false i job h = cc

job_count : (there : Bool) (job : Job) → length (job_if there job) ≡ one_if there
job_count true job = refl
job_count false job = refl

module _ (plan : Plan) where
  pub names_are : map name_at (posts_of plan) ≡ class_domains plan
  unfolding posts_of
  names_are =
      let n = option_map_or net_posts plan.net [] in
      let s = option_map_or serial_posts plan.serial [] in
      let b = option_map_or blk_posts plan.blk [] in
      map-append name_at (n ++ s) b ∙ ap₂ (λ x y. x ++ y) (map-append name_at n s ∙ ap₂ (λ x y. x ++ y) (net_names plan.net) (serial_names plan.serial)) (blk_names plan.blk) ∙ sym (domains_same plan)

  abbrev IsDomain : Post → Type 0
  IsDomain p = domain_of plan p.job ≡ Some p.name

  net_domain : (net : Net) → plan.net ≡ Some net → All IsDomain (net_posts net)
  net_domain net is =
      All-cons IsDomain (post EthDriver net.driver) (post NetReceiver net.rx_virt ∷ post NetSender net.tx_virt ∷ each_client net_client_posts 0 net.client) (ap (option_map (λ (n : Net). n.driver)) is)
      (All-cons IsDomain (post NetReceiver net.rx_virt) (post NetSender net.tx_virt ∷ each_client net_client_posts 0 net.client) (ap (option_map (λ (n : Net). n.rx_virt)) is)
      (All-cons IsDomain (post NetSender net.tx_virt) (each_client net_client_posts 0 net.client) (ap (option_map (λ (n : Net). n.tx_virt)) is)
      (all-clients IsDomain net_client_posts 0 net.client (λ k x there.
      All-cons IsDomain (post (NetClient (0 + k)) x.pd) (post (NetCopier (0 + k)) x.copier ∷ []) (client_value plan.net net (λ (n : Net). n.client) k x (λ (y : NetClientKeys). y.pd) is there)
      (All-cons IsDomain (post (NetCopier (0 + k)) x.copier) [] (client_value plan.net net (λ (n : Net). n.client) k x (λ (y : NetClientKeys). y.copier) is there) (All-nil IsDomain))))))

  serial_domain : (serial : Serial) → plan.serial ≡ Some serial → All IsDomain (serial_posts serial)
  serial_domain serial is =
      All-cons IsDomain (post UartDriver serial.driver) (post SerialReceiver serial.rx_virt ∷ post SerialSender serial.tx_virt ∷ each_client serial_client_posts 0 serial.client) (ap (option_map (λ (n : Serial). n.driver)) is)
      (All-cons IsDomain (post SerialReceiver serial.rx_virt) (post SerialSender serial.tx_virt ∷ each_client serial_client_posts 0 serial.client) (ap (option_map (λ (n : Serial). n.rx_virt)) is)
      (All-cons IsDomain (post SerialSender serial.tx_virt) (each_client serial_client_posts 0 serial.client) (ap (option_map (λ (n : Serial). n.tx_virt)) is)
      (all-clients IsDomain serial_client_posts 0 serial.client (λ k x there.
      All-cons IsDomain (post (SerialClient (0 + k)) x.pd) [] (client_value plan.serial serial (λ (n : Serial). n.client) k x (λ (y : SerialClientKeys). y.pd) is there) (All-nil IsDomain)))))

  blk_domain : (blk : Blk) → plan.blk ≡ Some blk → All IsDomain (blk_posts blk)
  blk_domain blk is =
      All-cons IsDomain (post DiskDriver blk.driver) (post BlkVirtualiser blk.virt ∷ each_client blk_client_posts 0 blk.client) (ap (option_map (λ (n : Blk). n.driver)) is)
      (All-cons IsDomain (post BlkVirtualiser blk.virt) (each_client blk_client_posts 0 blk.client) (ap (option_map (λ (n : Blk). n.virt)) is)
      (all-clients IsDomain blk_client_posts 0 blk.client (λ k x there.
      All-cons IsDomain (post (BlkClient (0 + k)) x.pd) [] (client_value plan.blk blk (λ (n : Blk). n.client) k x (λ (y : BlkClientKeys). y.pd) is there) (All-nil IsDomain))))

  domains_are : All IsDomain (posts_of plan)
  unfolding posts_of
  domains_are =
      let n = option_map_or net_posts plan.net [] in
      let s = option_map_or serial_posts plan.serial [] in
      let b = option_map_or blk_posts plan.blk [] in
      All-append IsDomain (n ++ s) b (All-append IsDomain n s (all-class IsDomain net_posts plan.net net_domain) (all-class IsDomain serial_posts plan.serial serial_domain)) (all-class IsDomain blk_posts plan.blk blk_domain)

  domain_at : (i : ℕ) (job : Job) (name : List ℕ) → slice_get (posts_of plan) i ≡ Some (post job name) → domain_of plan job ≡ Some name
  domain_at i job name at = all-at IsDomain (posts_of plan) domains_are i (post job name) at

  abbrev IsDevice : Job → Type 0
  IsDevice job = domain_of plan job ≡ None

  device_if : (there : Bool) (job : Job) → IsDevice job → All IsDevice (job_if there job)
  device_if true job is = All-cons IsDevice job [] is (All-nil IsDevice)
  device_if false job is = All-nil IsDevice

  devices_are : All IsDevice (device_jobs plan)
  devices_are =
      All-append IsDevice (job_if (is_some plan.net) EthDevice ++ job_if (is_some plan.serial) UartDevice) (job_if (is_some plan.blk) DiskDevice)
      (All-append IsDevice (job_if (is_some plan.net) EthDevice) (job_if (is_some plan.serial) UartDevice) (device_if (is_some plan.net) EthDevice refl) (device_if (is_some plan.serial) UartDevice refl))
      (device_if (is_some plan.blk) DiskDevice refl)

  no_device : (i j : ℕ) (job : Job) (name : List ℕ) → slice_get (posts_of plan) i ≡ Some (post job name) → slice_get (device_jobs plan) j ≡ Some job → ⊥
  no_device i j job name at device = let one = domain_at i job name at in let none = all-at IsDevice (device_jobs plan) devices_are j job device in let no : Some name ≡ None = sym one ∙ none in cc

  pub one_actor : (job : Job) (j k : ℕ) → HasJob plan job j → HasJob plan job k → j ≡ k
  one_actor job j k (inl a) (inl b) = let same : a.1 ≡ b.1 = some_is (sym (domain_at a.0 job a.1 a.2) ∙ domain_at b.0 job b.1 b.2) in a.3 ∙ (ap (λ n. (actor_named plan n).0) same ∙ sym b.3)
  one_actor job j k (inl a) (inr b) = absurd (no_device a.0 b.0 job a.1 a.2 b.1)
  one_actor job j k (inr a) (inl b) = absurd (no_device b.0 a.0 job b.1 b.2 a.1)
  one_actor job j k (inr a) (inr b) =
      let p = device_at (is_some plan.net) (is_some plan.serial) (is_some plan.blk) a.0 job a.1 in
      let q = device_at (is_some plan.net) (is_some plan.serial) (is_some plan.blk) b.0 job b.1 in
      a.2 ∙ (ap (λ n. acting_count plan + n) (p ∙ sym q) ∙ sym b.2)

  device_count : length (device_jobs plan) ≡ one_if (is_some plan.net) + one_if (is_some plan.serial) + one_if (is_some plan.blk)
  device_count =
      let n = job_if (is_some plan.net) EthDevice in
      let s = job_if (is_some plan.serial) UartDevice in
      let b = job_if (is_some plan.blk) DiskDevice in
      let all = length-append (n ++ s) b in
      let front = length-append n s in
      let one = job_count (is_some plan.net) EthDevice in
      let two = job_count (is_some plan.serial) UartDevice in
      let three = job_count (is_some plan.blk) DiskDevice in
      omega (arith, all, front, one, two, three)

  acting_long : length (acting_names plan.protection_domain) ≡ acting_count plan
  acting_long = length-map (filter acts plan.protection_domain) name_of

  module _ (valid : Valid plan) where
    named_at : (i : ℕ) (job : Job) (name : List ℕ) → slice_get (posts_of plan) i ≡ Some (post job name) → slice_get (class_domains plan) i ≡ Some name
    named_at i job name at = ap (λ l. slice_get l i) (sym names_are) ∙ map_get name_at (posts_of plan) i (post job name) at

    actor_at : (i : ℕ) (name : List ℕ) → slice_get (class_domains plan) i ≡ Some name → IsActor plan name
    actor_at i name at = all-at (IsActor plan) (class_domains plan) (class_acts plan valid) i name at

    domains_apart : AreApart (class_domains plan)
    domains_apart i j a lt p q = domains_once plan valid j a q (i, lt, p)

    pub same_job : (a b : Job) (k : ℕ) → HasJob plan a k → HasJob plan b k → a ≡ b
    same_job a b k (inl x) (inl y) =
        let at = named_at x.0 a x.1 x.2 in
        let bt = named_at y.0 b y.1 y.2 in
        let numbers : (actor_named plan x.1).0 ≡ (actor_named plan y.1).0 = sym x.3 ∙ y.3 in
        let name : x.1 ≡ y.1 = some_is (sym (actor_at x.0 x.1 at).0 ∙ (ap (slice_get (actors_of plan)) numbers ∙ (actor_at y.0 y.1 bt).0)) in
        let place : x.0 ≡ y.0 = one_place (class_domains plan) x.0 y.0 y.1 domains_apart (at ∙ ap Some name) bt in
        ap (λ (p : Post). p.job) (some_is (sym x.2 ∙ (ap (slice_get (posts_of plan)) place ∙ y.2)))
    same_job a b k (inl x) (inr y) = let below = (actor_at x.0 x.1 (named_at x.0 a x.1 x.2)).1 in let e = x.3 in let f = y.2 in absurd (omega (arith, below, e, f))
    same_job a b k (inr x) (inl y) = let below = (actor_at y.0 y.1 (named_at y.0 b y.1 y.2)).1 in let e = y.3 in let f = x.2 in absurd (omega (arith, below, e, f))
    same_job a b k (inr x) (inr y) =
        let e = x.2 in
        let f = y.2 in
        let place : x.0 ≡ y.0 = omega (arith, e, f) in
        some_is (sym x.1 ∙ (ap (slice_get (device_jobs plan)) place ∙ y.1))

    pub job_below : (job : Job) (k : ℕ) → HasJob plan job k → k < length (actors_of plan)
    job_below job k (inl x) = let below = (actor_at x.0 x.1 (named_at x.0 job x.1 x.2)).1 in let all = acting_and_devices plan in let e = x.3 in omega (arith, below, all, e)
    job_below job k (inr x) = let below = there_below (device_jobs plan) x.0 job x.1 in let all = acting_and_devices plan in let many = device_count in let e = x.2 in omega (arith, below, all, many, e)

    -- no two domains have one name
    all_apart : AreApart (domain_names plan)
    all_apart i j a lt p q =
        let m = map_from name_of plan.protection_domain j a q in
        kept plan 5 (At.Domain j) valid (omega arith) (omega arith) (domain_walked plan j (there_below plan.protection_domain j m.0 m.1))
        (here-some (slice_get plan.protection_domain j) m.0 (λ (x : Domain). StandsBefore x.name (domain_names plan) j) m.1 (i, lt, p ∙ ap Some (sym m.2)))

    -- a domain that acts is named by a class element
    acting_named : (k : ℕ) (a : List ℕ) → slice_get (acting_names plan.protection_domain) k ≡ Some a → Stands a (class_domains plan)
    acting_named k a at = let d = acting_from plan.protection_domain k a at in subst (λ n. Stands n (class_domains plan)) d.4 (by d.0 d.1 d.2 d.3)
      where
        by : (d : ℕ) (domain : Domain) → slice_get plan.protection_domain d ≡ Some domain → acts domain ≡ true → Stands domain.name (class_domains plan)
        by d domain there acting = elim (option_cases (place_of domain.name (class_domains plan))) [
          | inl none ↦
              let runs : domain.program ≡ codes "idle" → ⊥ = λ e. (let yes : bytes_eq domain.program (codes "idle") ≡ true = (bytes_eq-Decides domain.program (codes "idle")).1 e in let no : false ≡ true = ap not (sym yes) ∙ acting in cc) in
              absurd (kept plan 21 (At.Domain d) valid (omega arith) (omega arith) (domain_walked plan d (there_below plan.protection_domain d domain there))
              (here-some (slice_get plan.protection_domain d) domain (λ (x : Domain). (x.program ≡ codes "idle" → ⊥) × (SomeOf (λ name. name ≡ x.name) (class_domains plan) → ⊥)) there (runs, named-none domain.name (class_domains plan) none)))
          | inr some ↦ (some.0, (found-at domain.name (class_domains plan) some.0 some.1).1)
        ]

    -- the number of a domain that acts is its place
    number_is : (k : ℕ) (a : List ℕ) → slice_get (acting_names plan.protection_domain) k ≡ Some a → IsActor plan a → (actor_named plan a).0 ≡ k
    unfolding actors_of
    number_is k a at actor =
        let long = acting_long in
        let below = actor.1 in
        let here : slice_get (acting_names plan.protection_domain) (actor_named plan a).0 ≡ Some a = elim (get-either (acting_names plan.protection_domain) (devices_of plan) (actor_named plan a).0 a actor.0) [
          | inl h ↦ h
          | inr h ↦ absurd (let past = h.0 in omega (arith, long, below, past))
        ] in
        one_place (acting_names plan.protection_domain) (actor_named plan a).0 k a (acting_apart plan.protection_domain all_apart) here at

    pub some_job : (k : ℕ) → k < length (actors_of plan) → (job : Job) × HasJob plan job k
    some_job k lt = ⊎_elim acting device (cases_lt k (acting_count plan))
      where
        acting : k < acting_count plan → (job : Job) × HasJob plan job k
        acting below =
            let a = there_is (acting_names plan.protection_domain) k (let long = acting_long in omega (arith, below, long)) in
            let key = acting_named k a.0 a.1 in
            let p = map_from name_at (posts_of plan) key.0 a.0 (ap (λ l. slice_get l key.0) names_are ∙ key.1) in
            let at : slice_get (posts_of plan) key.0 ≡ Some (post p.0.job a.0) = p.1 ∙ ap (λ n. Some (post p.0.job n)) p.2 in
            (p.0.job, inl (key.0, a.0, at, sym (number_is k a.0 a.1 (actor_at key.0 a.0 key.1))))

        device : acting_count plan ≤ k → (job : Job) × HasJob plan job k
        device past =
            let i = k - acting_count plan in
            let within : i < length (device_jobs plan) = (let all = acting_and_devices plan in let many = device_count in omega (arith, lt, past, all, many)) in
            let job = there_is (device_jobs plan) i within in
            let is : k ≡ acting_count plan + i = omega (arith, past) in
            (job.0, inr (i, job.1, is))
