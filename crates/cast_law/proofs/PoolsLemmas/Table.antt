-- Which of the network's actors has which end of its queues, where these are the first.
use Rattle.std.proofs.Common.{◌≡◌, ◌⊎◌, ◌+◌, ◌-◌, ◌*◌, ◌<◌, ◌≤◌, ℕ, zero, suc, Some, List, [], ◌∷◌, length, slice_get, refl, ap, ◌∙◌, subst, arith, inl, inr}
use Rattle.std.proofs.lemmas.Bool.{cases_lt}
use Rattle.frame_core.specs.declared.mac.Mac.{Mac}
use Rattle.class_expect.specs.NetExpect.Expecting.{Program}
use Rattle.wire_core.specs.declared.names.QueueRow.{QueueRow}
use Rattle.wire_core.specs.Ends.{Role, Consumer, Producer}
use Rattle.play_core.specs.Sheets.{Scene}
use Rattle.play_core.specs.Wants.{intake, outlet}
use Rattle.play_core.proofs.Lists.{there_is, there_below}
use Rattle.net_law.specs.Owners.Names.{ClientPools}
use Rattle.net_law.specs.Parts.Parts.{Lessee}
use Rattle.net_law.specs.Parts.Numbers.{device_at, driver_at, client_first, lessees_from, receiver_at, copier_at, client_at, policy_at}
use Rattle.net_law.specs.Parts.Table.{net_sheet}
use Rattle.net_law.proofs.PartsLemmas.Pairs.{twice, pair_first, pair_second}
use Rattle.net_law.specs.TxParts.Parts.{Shipper}
use Rattle.net_law.specs.TxParts.Numbers.{NetPlace, own_pools, shippers_from, sender_at}
use Rattle.actor_set.specs.Parts.{HostilePart, Part, UartPart, DriverPart, RxPart, TxPart, ClientPart, NetworkPart, SendingPart, BlockPart}
use Rattle.actor_set.specs.Laws.Kinds.{AllCalm, sheet, scene_of}
use Rattle.actor_set.proofs.LawsLemmas.Told.{none_wild}
use Rattle.wired_law.specs.Wiring.{HasPart, HasWhole}

-- the virtualisers' clients by their numbers
pub lessee_there : (from : ℕ) (macs : List Mac) (k : ℕ) (mac : Mac) → slice_get macs k ≡ Some mac → (c : Lessee) × (slice_get (lessees_from 0 from macs) k ≡ Some c) × (c.active ≡ client_first 0 (from + k)) × (c.free ≡ client_first 0 (from + k) + 1)
lessee_there from [] k mac at = cc
lessee_there from (m ∷ macs) zero mac at = (record { active = client_first 0 from; free = client_first 0 from + 1; mac = m }, refl, omega arith, omega arith)
lessee_there from (m ∷ macs) (suc k) mac at =
    let x = lessee_there (from + 1) macs k mac at in
    (x.0, x.1, omega (arith, x.2), omega (arith, x.3))

pub shipper_there : (most from : ℕ) (pools : List ClientPools) (k : ℕ) (p : ClientPools) → slice_get pools k ≡ Some p → (c : Shipper) × (slice_get (shippers_from 0 most from pools) k ≡ Some c) × (c.active ≡ client_first 0 (from + k) + 4) × (c.free ≡ client_first 0 (from + k) + 5)
shipper_there most from [] k p at = cc
shipper_there most from (q ∷ pools) zero p at = (record { active = client_first 0 from + 4; free = client_first 0 from + 5; pool = q.tx; most = most }, refl, omega arith, omega arith)
shipper_there most from (q ∷ pools) (suc k) p at =
    let x = shipper_there most (from + 1) pools k p at in
    (x.0, x.1, omega (arith, x.2), omega (arith, x.3))

-- the client and the place there of one of the clients' queues
place_of : (count m : ℕ) → m < 6 * count → (k : ℕ) × (i : ℕ) × (k < count) × (i < 6) × (m ≡ 6 * k + i)
place_of zero m lt = absurd (omega (arith, lt))
place_of (suc count) m lt = by (cases_lt m 6) (λ j le. place_of count j le)
  where
    by : (m < 6) ⊎ (6 ≤ m) → ((j : ℕ) → j < 6 * count → (k : ℕ) × (i : ℕ) × (k < count) × (i < 6) × (j ≡ 6 * k + i)) → (k : ℕ) × (i : ℕ) × (k < suc count) × (i < 6) × (m ≡ 6 * k + i)
    by (inl few) rest = (0, m, omega arith, few, omega arith)
    by (inr more) rest =
        let less : (j : ℕ) × (m ≡ j + 6) = (m - 6, omega (arith, more)) in
        let x = rest less.0 (omega (arith, lt, less.1)) in
        (suc x.0, x.1, omega (arith, x.2), x.3, omega (arith, less.1, x.4))

-- a part of the network class
abbrev pub IsNetwork : Part → Type 0
IsNetwork (UartPart rx tx input) = ⊥
IsNetwork (DriverPart device_rx device_tx rx tx) = ⊥
IsNetwork (RxPart rx clients drops) = ⊥
IsNetwork (TxPart tx clients) = ⊥
IsNetwork (ClientPart rx tx script) = ⊥
IsNetwork (NetworkPart p) = Unit {0}
IsNetwork (SendingPart p) = Unit {0}
IsNetwork (BlockPart p) = ⊥
IsNetwork (HostilePart p) = ⊥

module _ (rows : List QueueRow) (net : NetPlace) (cast : List Part) (calm : AllCalm cast) (whole : HasWhole rows net cast) (first : net.first ≡ 0) where
  abbrev pub scene : Scene
  scene = scene_of cast

  pub at_device : HasPart cast (NetworkPart (device_at 0 scene.frames net.device_drops))
  at_device = subst (λ n. HasPart cast (NetworkPart (device_at n scene.frames net.device_drops))) first whole.device

  pub at_driver : HasPart cast (NetworkPart (driver_at 0))
  at_driver = subst (λ n. HasPart cast (NetworkPart (driver_at n))) first whole.driver

  pub at_receiver : HasPart cast (NetworkPart (receiver_at 0 net.pool net.macs))
  at_receiver = subst (λ n. HasPart cast (NetworkPart (receiver_at n net.pool net.macs))) first whole.receiver

  pub at_sender : HasPart cast (SendingPart (sender_at 0 net.most net.pools))
  at_sender = subst (λ n. HasPart cast (SendingPart (sender_at n net.most net.pools))) first whole.sender

  pub at_copier : (k : ℕ) → k < length net.macs → HasPart cast (NetworkPart (copier_at 0 k (policy_at net.drops k)))
  at_copier k lt = subst (λ n. HasPart cast (NetworkPart (copier_at n k (policy_at net.drops k)))) first (whole.copier k lt)

  -- each client is there, with its pools
  pub at_client : (k : ℕ) (q : ClientPools) → slice_get net.pools k ≡ Some q → (program : Program) × (mac : Mac) × HasPart cast (NetworkPart (client_at 0 k program mac (own_pools q)))
  at_client k q at =
      let below = there_below net.pools k q at in
      let mac = there_is net.macs k (omega (arith, below, whole.pools_many)) in
      let program = there_is net.programs k (omega (arith, below, whole.pools_many, whole.programs_many)) in (
        program.0,
        mac.0,
        subst (λ n. HasPart cast (NetworkPart (client_at n k program.0 mac.0 (own_pools q)))) first (whole.client k program.0 mac.0 q (record { address = mac.1; pools = at; plays = program.1 }) (none_wild cast calm rows (client_first net.first k + 4))),
      )

  -- an actor of the network has this end
  abbrev pub HasEnd : ℕ → Role → Type 0
  HasEnd n r = (k : ℕ) × (p : Part) × (i : ℕ) × (slice_get cast k ≡ Some p) × IsNetwork p × (slice_get (sheet scene p).ends i ≡ Some (record { queue = n; role = r }))

  -- at the queues of the device, of the driver and between it and the virtualisers
  main_ends : (n : ℕ) (r : Role) → n < 8 → HasEnd n r
  main_ends zero Consumer lt = (at_device.0, _, 0, at_device.1, tt, refl)
  main_ends zero Producer lt = (at_driver.0, _, 1, at_driver.1, tt, refl)
  main_ends (suc zero) Consumer lt = (at_driver.0, _, 2, at_driver.1, tt, refl)
  main_ends (suc zero) Producer lt = (at_device.0, _, 1, at_device.1, tt, refl)
  main_ends (suc (suc zero)) Consumer lt = (at_device.0, _, 2, at_device.1, tt, refl)
  main_ends (suc (suc zero)) Producer lt = (at_driver.0, _, 5, at_driver.1, tt, refl)
  main_ends (suc (suc (suc zero))) Consumer lt = (at_driver.0, _, 6, at_driver.1, tt, refl)
  main_ends (suc (suc (suc zero))) Producer lt = (at_device.0, _, 3, at_device.1, tt, refl)
  main_ends (suc (suc (suc (suc zero)))) Consumer lt = (at_receiver.0, _, 0, at_receiver.1, tt, refl)
  main_ends (suc (suc (suc (suc zero)))) Producer lt = (at_driver.0, _, 3, at_driver.1, tt, refl)
  main_ends (suc (suc (suc (suc (suc zero))))) Consumer lt = (at_driver.0, _, 0, at_driver.1, tt, refl)
  main_ends (suc (suc (suc (suc (suc zero))))) Producer lt = (at_receiver.0, _, 1, at_receiver.1, tt, refl)
  main_ends (suc (suc (suc (suc (suc (suc zero)))))) Consumer lt = (at_driver.0, _, 4, at_driver.1, tt, refl)
  main_ends (suc (suc (suc (suc (suc (suc zero)))))) Producer lt = (at_sender.0, _, 1, at_sender.1, tt, refl)
  main_ends (suc (suc (suc (suc (suc (suc (suc zero))))))) Consumer lt = (at_sender.0, _, 0, at_sender.1, tt, refl)
  main_ends (suc (suc (suc (suc (suc (suc (suc zero))))))) Producer lt = (at_driver.0, _, 7, at_driver.1, tt, refl)
  main_ends (suc (suc (suc (suc (suc (suc (suc (suc n)))))))) r lt = absurd (omega (arith, lt))

  -- at a client's queues
  module _ (k : ℕ) (lt : k < length net.macs) where
    mac_here : (mac : Mac) × (slice_get net.macs k ≡ Some mac)
    mac_here = there_is net.macs k lt

    pools_here : (q : ClientPools) × (slice_get net.pools k ≡ Some q)
    pools_here = there_is net.pools k (omega (arith, lt, whole.pools_many))

    plain : {n : ℕ} (i : ℕ) → n ≡ client_first 0 (0 + k) + i → n ≡ client_first 0 k + i
    plain i e = e ∙ omega arith

    -- the queue on which a client's leases come back to the receiving virtualiser
    pub lease_back : (i : ℕ) × (slice_get (net_sheet scene (receiver_at 0 net.pool net.macs)).ends i ≡ Some (intake (client_first 0 k + 1)))
    lease_back =
        let c = lessee_there 0 net.macs k mac_here.0 mac_here.1 in
        let seat = pair_second (λ (x : Lessee). outlet x.active) (λ x. intake x.free) (lessees_from 0 0 net.macs) k c.0 c.1 in
        (suc (suc (suc (twice k))), seat ∙ ap (λ n. Some (intake n)) (plain 1 c.3))

    lent_back : HasEnd (client_first 0 k + 1) Consumer
    lent_back = (at_receiver.0, _, lease_back.0, at_receiver.1, tt, lease_back.1)

    lent_to : HasEnd (client_first 0 k) Producer
    lent_to =
        let c = lessee_there 0 net.macs k mac_here.0 mac_here.1 in
        let seat = pair_first (λ (x : Lessee). outlet x.active) (λ x. intake x.free) (lessees_from 0 0 net.macs) k c.0 c.1 in
        (at_receiver.0, _, suc (suc (twice k)), at_receiver.1, tt, seat ∙ ap (λ n. Some (outlet n)) (c.2 ∙ omega arith))

    sent_from : HasEnd (client_first 0 k + 4) Consumer
    sent_from =
        let c = shipper_there net.most 0 net.pools k pools_here.0 pools_here.1 in
        let seat = pair_first (λ (x : Shipper). intake x.active) (λ x. outlet x.free) (shippers_from 0 net.most 0 net.pools) k c.0 c.1 in
        (at_sender.0, _, suc (suc (twice k)), at_sender.1, tt, seat ∙ ap (λ n. Some (intake n)) (plain 4 c.2))

    sent_back : HasEnd (client_first 0 k + 5) Producer
    sent_back =
        let c = shipper_there net.most 0 net.pools k pools_here.0 pools_here.1 in
        let seat = pair_second (λ (x : Shipper). intake x.active) (λ x. outlet x.free) (shippers_from 0 net.most 0 net.pools) k c.0 c.1 in
        (at_sender.0, _, suc (suc (suc (twice k))), at_sender.1, tt, seat ∙ ap (λ n. Some (outlet n)) (plain 5 c.3))

    copies : (i : ℕ) (n : ℕ) (r : Role) → slice_get (net_sheet scene (copier_at 0 k (policy_at net.drops k))).ends i ≡ Some (record { queue = n; role = r }) → HasEnd n r
    copies i n r at = ((at_copier k lt).0, _, i, (at_copier k lt).1, tt, at)

    plays : (i : ℕ) (n : ℕ) (r : Role) → ((program : Program) (mac : Mac) → slice_get (net_sheet scene (client_at 0 k program mac (own_pools pools_here.0))).ends i ≡ Some (record { queue = n; role = r })) → HasEnd n r
    plays i n r at =
        let c = at_client k pools_here.0 pools_here.1 in
        (c.2.0, _, i, c.2.1, tt, at c.0 c.1)

    client_ends : (i : ℕ) (r : Role) → i < 6 → HasEnd (client_first 0 k + i) r
    client_ends zero Consumer few = subst (λ n. HasEnd n Consumer) (omega arith) (copies 0 (client_first 0 k) Consumer refl)
    client_ends zero Producer few = subst (λ n. HasEnd n Producer) (omega arith) lent_to
    client_ends (suc zero) Consumer few = lent_back
    client_ends (suc zero) Producer few = copies 3 (client_first 0 k + 1) Producer refl
    client_ends (suc (suc zero)) Consumer few = plays 0 (client_first 0 k + 2) Consumer (λ program mac. refl)
    client_ends (suc (suc zero)) Producer few = copies 2 (client_first 0 k + 2) Producer refl
    client_ends (suc (suc (suc zero))) Consumer few = copies 1 (client_first 0 k + 3) Consumer refl
    client_ends (suc (suc (suc zero))) Producer few = plays 1 (client_first 0 k + 3) Producer (λ program mac. refl)
    client_ends (suc (suc (suc (suc zero)))) Consumer few = sent_from
    client_ends (suc (suc (suc (suc zero)))) Producer few = plays 3 (client_first 0 k + 4) Producer (λ program mac. refl)
    client_ends (suc (suc (suc (suc (suc zero))))) Consumer few = plays 2 (client_first 0 k + 5) Consumer (λ program mac. refl)
    client_ends (suc (suc (suc (suc (suc zero))))) Producer few = sent_back
    client_ends (suc (suc (suc (suc (suc (suc i)))))) r few = absurd (omega (arith, few))

  -- each end of the class's queues is one of an actor of the network
  pub net_ends : (n : ℕ) (r : Role) → n < 8 + 6 * length net.macs → HasEnd n r
  net_ends n r lt = by (cases_lt n 8)
    where
      by : (n < 8) ⊎ (8 ≤ n) → HasEnd n r
      by (inl few) = main_ends n r few
      by (inr more) =
          let less : (j : ℕ) × (n ≡ j + 8) = (n - 8, omega (arith, more)) in
          let x = place_of (length net.macs) less.0 (omega (arith, lt, less.1)) in
          let is : client_first 0 x.0 + x.1 ≡ n = omega (arith, less.1, x.4) in
          subst (λ m. HasEnd m r) is (client_ends x.0 x.2 x.1 r x.3)
