use Rattle.std.proofs.Common.{◌≡◌, ℕ, zero, suc, ◌+◌, ◌<◌, inl, inr, ⊎_elim, true, List, [], ◌∷◌, ◌++◌, length, flat_map, Option, Some, None, slice_get, refl, sym, ◌∙◌, subst, arith}
use Rattle.std.specs.List.{All, Contains}
use Rattle.std.specs.Option.{option_map_or}
use Rattle.std.proofs.lemmas.List.{length-map}
use Rattle.std.proofs.lemmas.List.Elements.{All-nil, All-cons, All-append, All-contains, All-weaker, Contains-append_left, Contains-append_right}
use Rattle.std.proofs.lemmas.Option.{slice_get-map, none-some}
use Rattle.cargo_core.specs.declared.item.QueueKind.{QueueKind}
use Rattle.wire_core.specs.declared.names.ActorId.{ActorId}
use Rattle.wire_core.specs.declared.names.QueueRow.{QueueRow}
use Rattle.sdf_plan.specs.declared.plan.Plan.{Plan}
use Rattle.sdf_plan.specs.declared.plan.Region.{Region}
use Rattle.sdf_plan.specs.declared.plan.Domain.{Domain}
use Rattle.sdf_plan.specs.declared.plan.Net.{Net}
use Rattle.sdf_plan.specs.declared.plan.NetClient.{NetClient}
use Rattle.sdf_plan.specs.declared.plan.Serial.{Serial}
use Rattle.sdf_plan.specs.declared.plan.SerialClient.{SerialClient}
use Rattle.sdf_plan.specs.declared.plan.Blk.{Blk}
use Rattle.sdf_plan.specs.declared.plan.BlkClient.{BlkClient}
use Rattle.sdf_check.specs.Names.{region_names, region_named, net_domains, net_client_domains, serial_domains, serial_client_domains, blk_domains, blk_client_domains}
use Rattle.sdf_check.specs.ClassRules.{AreJoined, IsGranted, HasStranger, class_domains, net_names, serial_names, blk_names}
use Rattle.sdf_check.specs.Valid.{Valid}
use Rattle.sdf_check.proofs.ClassLemmas.{domains_same}
use Rattle.sdf_check.proofs.SweepLemmas.{some-inj}
use Rattle.region_layout.specs.Rows.{actors_of, actor_named, queue_in, queue_pair, queue_span, each_client, eth_rx_queues, eth_tx_queues, net_rx_queues, net_tx_queues, lease_queues, client_rx_queues, client_tx_queues, net_client_queues, net_queues, uart_queues, shared_serial_queues, serial_client_queues, serial_queues, disk_queues, shared_blk_queues, blk_client_queues, blk_queues, queues_of}
use Rattle.region_layout.proofs.SameLemmas.{queues_same}
use Rattle.layout_laws.specs.Sound.{IsActor}
use Rattle.layout_laws.proofs.Lists.{there_is, all-clients, all-class}
use Rattle.layout_laws.proofs.Found.{found-at}
use Rattle.layout_laws.proofs.Acting.{class_acts}
use Rattle.layout_laws.specs.RegionLaws.Access.Access.{Maps, Writes, HoldsOf, IsLink, IsLinked}
use Rattle.layout_laws.proofs.RegionLaws.AccessLemmas.Words.{contains-at, writes, joined, none-else}
use Rattle.layout_laws.proofs.RegionLaws.AccessLemmas.Kept.{link-kept, right-kept, net-channels, net-rights, net-strangers, net-client-channels, net-client-rights, net-client-strangers, serial-channels, serial-rights, serial-strangers, serial-client-channels, serial-client-rights, serial-client-strangers, blk-channels, blk-rights, blk-strangers, blk-client-channels, blk-client-rights, blk-client-strangers}

-- a name is that of the actor of its number
abbrev Acts : Plan → List ℕ → Type 0
Acts plan name = slice_get (actors_of plan) (actor_named plan name).0 ≡ Some name

-- a link over the region that a key names, and its ends as actors
record Linking (plan : Plan) (key a b : List ℕ) : Type 0 where
  link : IsLink plan key a b
  first : Acts plan a
  second : Acts plan b

two-names : (P : List ℕ → Type 0) (a b : List ℕ) → P a → P b → All P (a ∷ b ∷ [])
two-names P a b x y = All-cons P a (b ∷ []) x (All-cons P b [] y (All-nil P))

linking : (plan : Plan) (key a b : List ℕ) → AreJoined plan (a, b) → IsGranted plan (a, key, true) → IsGranted plan (b, key, true) → (HasStranger plan key (a ∷ b ∷ []) → ⊥)
    → Acts plan a → Acts plan b → Linking plan key a b
linking plan key a b channel from to alone one other = record {
  link = record {
    joined = joined plan a b channel;
    shared = record {
      read = All-nil (λ name. HoldsOf plan name _);
      write = two-names (λ name. HoldsOf plan name (Writes key)) a b (writes plan a key from) (writes plan b key to);
      nobody_else = none-else plan key (a ∷ b ∷ []) alone;
    };
  };
  first = one;
  second = other;
}

turned : (plan : Plan) (key a b : List ℕ) → Linking plan key a b → Linking plan key b a
turned plan key a b l = record {
  link = record {
    joined = let j = l.link.joined in (j.0, j.1, j.2, j.3, ⊎_elim inr inl j.4);
    shared = record {
      read = All-nil (λ name. HoldsOf plan name _);
      write = two-names (λ name. HoldsOf plan name (Writes key)) b a
          (All-contains (λ name. HoldsOf plan name (Writes key)) (a ∷ b ∷ []) b l.link.shared.write (contains-at (a ∷ b ∷ []) 1 b refl))
          (All-contains (λ name. HoldsOf plan name (Writes key)) (a ∷ b ∷ []) a l.link.shared.write (contains-at (a ∷ b ∷ []) 0 a refl));
      nobody_else = All-weaker (λ (domain : Domain). Maps key domain → Contains (a ∷ b ∷ []) domain.name) (λ (domain : Domain). Maps key domain → Contains (b ∷ a ∷ []) domain.name)
          (λ (domain : Domain) h maps. All-contains (Contains (b ∷ a ∷ [])) (a ∷ b ∷ []) domain.name
          (two-names (Contains (b ∷ a ∷ [])) a b (contains-at (b ∷ a ∷ []) 1 a refl) (contains-at (b ∷ a ∷ []) 0 b refl)) (h maps)) plan.protection_domain l.link.shared.nobody_else;
    };
  };
  first = l.second;
  second = l.first;
}

free : (plan : Plan) (name : List ℕ) (kind : QueueKind) (a b : ActorId) (capacity : ℕ) → IsLinked plan (queue_in plan None 0 name kind a b capacity)
unfolding queue_in
free plan name kind a b capacity r at = absurd (none-some r at)

held : (plan : Plan) (key : List ℕ) (offset : ℕ) (name : List ℕ) (kind : QueueKind) (a b : List ℕ) (capacity : ℕ) → Linking plan key a b
    → IsLinked plan (queue_in plan (region_named plan key) offset name kind (actor_named plan a) (actor_named plan b) capacity)
unfolding queue_in
held plan key offset name kind a b capacity l r at =
    let f = found-at key (region_names plan) r at in
    let within : r < length plan.memory_region = rw (← length-map plan.memory_region (λ (x : Region). x.name)) f.0 in
    let there = there_is plan.memory_region r within in
    let named : Some there.0.name ≡ Some key = sym (slice_get-map (λ (x : Region). x.name) plan.memory_region r ∙ rw there.1 refl) ∙ f.1 in
    (there.0, a, b, there.1, l.first, l.second, subst (λ n. IsLink plan n a b) (sym (some-inj named)) l.link)

both : (plan : Plan) (xs ys : List QueueRow) → All (IsLinked plan) xs → All (IsLinked plan) ys → All (IsLinked plan) (xs ++ ys)
both plan xs ys one other = All-append (IsLinked plan) xs ys one other

two : (plan : Plan) (x y : QueueRow) → IsLinked plan x → IsLinked plan y → All (IsLinked plan) (x ∷ y ∷ [])
two plan x y a b = All-cons (IsLinked plan) x (y ∷ []) a (All-cons (IsLinked plan) y [] b (All-nil (IsLinked plan)))

pair : (plan : Plan) (key first : List ℕ) (kind : QueueKind) (second : List ℕ) (back : QueueKind) (a b : List ℕ) (capacity : ℕ) → Linking plan key a b
    → All (IsLinked plan) (queue_pair plan key first kind second back (actor_named plan a) (actor_named plan b) capacity)
unfolding queue_pair
pair plan key first kind second back a b capacity l =
    two plan (queue_in plan (region_named plan key) 0 first kind (actor_named plan a) (actor_named plan b) capacity)
    (queue_in plan (region_named plan key) (queue_span kind capacity) second back (actor_named plan b) (actor_named plan a) capacity)
    (held plan key 0 first kind a b capacity l) (held plan key (queue_span kind capacity) second back b a capacity (turned plan key a b l))

-- a name of a class, and of one of its clients
in-class : {C : Type 0} (rows : C → List (List ℕ)) (class : Option C) (x : C) (name : List ℕ) → class ≡ Some x → Contains (rows x) name → Contains (option_map_or rows class []) name
in-class {C} rows class x name is there = subst (λ (o : Option C). Contains (option_map_or rows o []) name) (sym is) there

in-client : {C : Type 0} (names : C → List (List ℕ)) (clients : List C) (c : ℕ) (client : C) (name : List ℕ) → slice_get clients c ≡ Some client → Contains (names client) name
    → Contains (flat_map names clients) name
in-client names [] c client name there h = cc
in-client names (x ∷ rest) zero client name there h =
    let same : client ≡ x = cc in Contains-append_left (names x) (flat_map names rest) name (subst (λ y. Contains (names y) name) same h)
in-client names (x ∷ rest) (suc c) client name there h = Contains-append_right (names x) (flat_map names rest) name (in-client names rest c client name there h)

module _ (plan : Plan) (valid : Valid plan) where
  abbrev net_part : List (List ℕ)
  net_part = net_names net_domains net_client_domains plan

  abbrev serial_part : List (List ℕ)
  serial_part = serial_names serial_domains serial_client_domains plan

  abbrev blk_part : List (List ℕ)
  blk_part = blk_names blk_domains blk_client_domains plan

  acts : (name : List ℕ) → Contains (net_part ++ serial_part ++ blk_part) name → Acts plan name
  acts name there = (All-contains (IsActor plan) (class_domains plan) name (class_acts plan valid) (subst (λ (names : List (List ℕ)). Contains names name) (sym (domains_same plan)) there)).0

  module _ (net : Net) (is : plan.net ≡ Some net) where
    net_acts : (name : List ℕ) → Contains (net_domains net ++ flat_map net_client_domains net.client) name → Acts plan name
    net_acts name there =
        let here = in-class (λ (x : Net). net_domains x ++ flat_map net_client_domains x.client) plan.net net name is there in
        acts name (Contains-append_left (net_part ++ serial_part) blk_part name (Contains-append_left net_part serial_part name here))

    head : (k : ℕ) (name : List ℕ) → slice_get (net_domains net) k ≡ Some name → Acts plan name
    head k name at = net_acts name (Contains-append_left (net_domains net) (flat_map net_client_domains net.client) name (contains-at (net_domains net) k name at))

    rx : Linking plan net.rx_queues net.driver net.rx_virt
    rx = linking plan net.rx_queues net.driver net.rx_virt
        (link-kept plan (net.driver, net.rx_virt) (λ never. net-channels plan valid net is (inl (4, never))))
        (right-kept plan (net.driver, net.rx_queues, true) (λ never. net-rights plan valid net is (inl (4, inl never))))
        (right-kept plan (net.rx_virt, net.rx_queues, true) (λ never. net-rights plan valid net is (inl (4, inr never))))
        (λ s. net-strangers plan valid net is (inl (4, s))) (head 0 net.driver refl) (head 1 net.rx_virt refl)

    tx : Linking plan net.tx_queues net.tx_virt net.driver
    tx = linking plan net.tx_queues net.tx_virt net.driver
        (link-kept plan (net.tx_virt, net.driver) (λ never. net-channels plan valid net is (inl (6, never))))
        (right-kept plan (net.tx_virt, net.tx_queues, true) (λ never. net-rights plan valid net is (inl (6, inl never))))
        (right-kept plan (net.driver, net.tx_queues, true) (λ never. net-rights plan valid net is (inl (6, inr never))))
        (λ s. net-strangers plan valid net is (inl (6, s))) (head 2 net.tx_virt refl) (head 0 net.driver refl)

    module _ (c : ℕ) (x : NetClient) (there : slice_get net.client c ≡ Some x) where
      own : (k : ℕ) (name : List ℕ) → slice_get (net_client_domains x) k ≡ Some name → Acts plan name
      own k name at = net_acts name (Contains-append_right (net_domains net) (flat_map net_client_domains net.client) name
          (in-client net_client_domains net.client c x name there (contains-at (net_client_domains x) k name at)))

      lease : Linking plan x.lease_queues net.rx_virt x.copier
      lease = linking plan x.lease_queues net.rx_virt x.copier
          (link-kept plan (net.rx_virt, x.copier) (λ never. net-client-channels plan valid net is c x there (inl (0, never))))
          (right-kept plan (net.rx_virt, x.lease_queues, true) (λ never. net-client-rights plan valid net is c x there (inl (0, inl never))))
          (right-kept plan (x.copier, x.lease_queues, true) (λ never. net-client-rights plan valid net is c x there (inl (0, inr never))))
          (λ s. net-client-strangers plan valid net is c x there (inl (0, s))) (head 1 net.rx_virt refl) (own 1 x.copier refl)

      client_rx : Linking plan x.rx_queues x.copier x.pd
      client_rx = linking plan x.rx_queues x.copier x.pd
          (link-kept plan (x.copier, x.pd) (λ never. net-client-channels plan valid net is c x there (inl (2, never))))
          (right-kept plan (x.copier, x.rx_queues, true) (λ never. net-client-rights plan valid net is c x there (inl (2, inl never))))
          (right-kept plan (x.pd, x.rx_queues, true) (λ never. net-client-rights plan valid net is c x there (inl (2, inr never))))
          (λ s. net-client-strangers plan valid net is c x there (inl (2, s))) (own 1 x.copier refl) (own 0 x.pd refl)

      client_tx : Linking plan x.tx_queues x.pd net.tx_virt
      client_tx = linking plan x.tx_queues x.pd net.tx_virt
          (link-kept plan (x.pd, net.tx_virt) (λ never. net-client-channels plan valid net is c x there (inl (4, never))))
          (right-kept plan (x.pd, x.tx_queues, true) (λ never. net-client-rights plan valid net is c x there (inl (4, inl never))))
          (right-kept plan (net.tx_virt, x.tx_queues, true) (λ never. net-client-rights plan valid net is c x there (inl (4, inr never))))
          (λ s. net-client-strangers plan valid net is c x there (inl (4, s))) (own 0 x.pd refl) (head 2 net.tx_virt refl)

      client_linked : All (IsLinked plan) (net_client_queues plan net c x)
      unfolding net_client_queues lease_queues client_rx_queues client_tx_queues
      client_linked =
          both plan (lease_queues plan net c x ++ client_rx_queues plan c x) (client_tx_queues plan net c x)
          (both plan (lease_queues plan net c x) (client_rx_queues plan c x)
          (pair plan x.lease_queues _ _ _ _ net.rx_virt x.copier _ lease) (pair plan x.rx_queues _ _ _ _ x.copier x.pd _ client_rx)) (pair plan x.tx_queues _ _ _ _ x.pd net.tx_virt _ client_tx)

    net_linked : All (IsLinked plan) (net_queues plan net)
    unfolding net_queues eth_rx_queues eth_tx_queues net_rx_queues net_tx_queues
    net_linked =
        let clients = all-clients (IsLinked plan) (net_client_queues plan net) 0 net.client (λ k (x : NetClient) there. subst (λ n. All (IsLinked plan) (net_client_queues plan net n x)) (let e : k ≡ 0 + k = omega arith in e) (client_linked k x there)) in
        both plan (eth_rx_queues plan net ++ eth_tx_queues plan net ++ net_rx_queues plan net ++ net_tx_queues plan net) (each_client (net_client_queues plan net) 0 net.client)
        (both plan (eth_rx_queues plan net ++ eth_tx_queues plan net ++ net_rx_queues plan net) (net_tx_queues plan net)
        (both plan (eth_rx_queues plan net ++ eth_tx_queues plan net) (net_rx_queues plan net)
        (both plan (eth_rx_queues plan net) (eth_tx_queues plan net)
        (two plan _ _ (free plan _ _ _ _ _) (free plan _ _ _ _ _))
        (two plan _ _ (free plan _ _ _ _ _) (free plan _ _ _ _ _)))
        (pair plan net.rx_queues _ _ _ _ net.driver net.rx_virt _ rx))
        (pair plan net.tx_queues _ _ _ _ net.tx_virt net.driver _ tx))
        clients

  module _ (serial : Serial) (is : plan.serial ≡ Some serial) where
    serial_acts : (name : List ℕ) → Contains (serial_domains serial ++ flat_map serial_client_domains serial.client) name → Acts plan name
    serial_acts name there =
        let here = in-class (λ (x : Serial). serial_domains x ++ flat_map serial_client_domains x.client) plan.serial serial name is there in
        acts name (Contains-append_left (net_part ++ serial_part) blk_part name (Contains-append_right net_part serial_part name here))

    serial_head : (k : ℕ) (name : List ℕ) → slice_get (serial_domains serial) k ≡ Some name → Acts plan name
    serial_head k name at = serial_acts name (Contains-append_left (serial_domains serial) (flat_map serial_client_domains serial.client) name (contains-at (serial_domains serial) k name at))

    serial_rx : Linking plan serial.rx_queues serial.driver serial.rx_virt
    serial_rx = linking plan serial.rx_queues serial.driver serial.rx_virt
        (link-kept plan (serial.driver, serial.rx_virt) (λ never. serial-channels plan valid serial is (inl (2, never))))
        (right-kept plan (serial.driver, serial.rx_queues, true) (λ never. serial-rights plan valid serial is (inl (2, inl never))))
        (right-kept plan (serial.rx_virt, serial.rx_queues, true) (λ never. serial-rights plan valid serial is (inl (2, inr never))))
        (λ s. serial-strangers plan valid serial is (inl (2, s))) (serial_head 0 serial.driver refl) (serial_head 1 serial.rx_virt refl)

    serial_tx : Linking plan serial.tx_queues serial.tx_virt serial.driver
    serial_tx = linking plan serial.tx_queues serial.tx_virt serial.driver
        (link-kept plan (serial.tx_virt, serial.driver) (λ never. serial-channels plan valid serial is (inl (3, never))))
        (right-kept plan (serial.tx_virt, serial.tx_queues, true) (λ never. serial-rights plan valid serial is (inl (3, inl never))))
        (right-kept plan (serial.driver, serial.tx_queues, true) (λ never. serial-rights plan valid serial is (inl (3, inr never))))
        (λ s. serial-strangers plan valid serial is (inl (3, s))) (serial_head 2 serial.tx_virt refl) (serial_head 0 serial.driver refl)

    module _ (c : ℕ) (x : SerialClient) (there : slice_get serial.client c ≡ Some x) where
      serial_own : Acts plan x.pd
      serial_own = serial_acts x.pd (Contains-append_right (serial_domains serial) (flat_map serial_client_domains serial.client) x.pd
          (in-client serial_client_domains serial.client c x x.pd there (contains-at (serial_client_domains x) 0 x.pd refl)))

      serial_client_rx : Linking plan x.rx_queues serial.rx_virt x.pd
      serial_client_rx = linking plan x.rx_queues serial.rx_virt x.pd
          (link-kept plan (serial.rx_virt, x.pd) (λ never. serial-client-channels plan valid serial is c x there (inl (0, never))))
          (right-kept plan (serial.rx_virt, x.rx_queues, true) (λ never. serial-client-rights plan valid serial is c x there (inl (0, inl never))))
          (right-kept plan (x.pd, x.rx_queues, true) (λ never. serial-client-rights plan valid serial is c x there (inl (0, inr never))))
          (λ s. serial-client-strangers plan valid serial is c x there (inl (0, s))) (serial_head 1 serial.rx_virt refl) serial_own

      serial_client_tx : Linking plan x.tx_queues x.pd serial.tx_virt
      serial_client_tx = linking plan x.tx_queues x.pd serial.tx_virt
          (link-kept plan (x.pd, serial.tx_virt) (λ never. serial-client-channels plan valid serial is c x there (inl (1, never))))
          (right-kept plan (x.pd, x.tx_queues, true) (λ never. serial-client-rights plan valid serial is c x there (inl (1, inl never))))
          (right-kept plan (serial.tx_virt, x.tx_queues, true) (λ never. serial-client-rights plan valid serial is c x there (inl (1, inr never))))
          (λ s. serial-client-strangers plan valid serial is c x there (inl (1, s))) serial_own (serial_head 2 serial.tx_virt refl)

      serial_client_linked : All (IsLinked plan) (serial_client_queues plan serial c x)
      unfolding serial_client_queues
      serial_client_linked = two plan _ _ (held plan x.rx_queues _ _ _ serial.rx_virt x.pd _ serial_client_rx) (held plan x.tx_queues _ _ _ x.pd serial.tx_virt _ serial_client_tx)

    serial_linked : All (IsLinked plan) (serial_queues plan serial)
    unfolding serial_queues uart_queues shared_serial_queues
    serial_linked =
        let clients = all-clients (IsLinked plan) (serial_client_queues plan serial) 0 serial.client (λ k (x : SerialClient) there. subst (λ n. All (IsLinked plan) (serial_client_queues plan serial n x)) (let e : k ≡ 0 + k = omega arith in e) (serial_client_linked k x there)) in
        both plan (uart_queues plan serial ++ shared_serial_queues plan serial) (each_client (serial_client_queues plan serial) 0 serial.client)
        (both plan (uart_queues plan serial) (shared_serial_queues plan serial)
        (two plan _ _ (free plan _ _ _ _ _) (free plan _ _ _ _ _))
        (two plan _ _ (held plan serial.rx_queues _ _ _ serial.driver serial.rx_virt _ serial_rx) (held plan serial.tx_queues _ _ _ serial.tx_virt serial.driver _ serial_tx)))
        clients

  module _ (blk : Blk) (is : plan.blk ≡ Some blk) where
    blk_acts : (name : List ℕ) → Contains (blk_domains blk ++ flat_map blk_client_domains blk.client) name → Acts plan name
    blk_acts name there =
        let here = in-class (λ (x : Blk). blk_domains x ++ flat_map blk_client_domains x.client) plan.blk blk name is there in
        acts name (Contains-append_right (net_part ++ serial_part) blk_part name here)

    blk_head : (k : ℕ) (name : List ℕ) → slice_get (blk_domains blk) k ≡ Some name → Acts plan name
    blk_head k name at = blk_acts name (Contains-append_left (blk_domains blk) (flat_map blk_client_domains blk.client) name (contains-at (blk_domains blk) k name at))

    shared : Linking plan blk.queues blk.virt blk.driver
    shared = linking plan blk.queues blk.virt blk.driver
        (link-kept plan (blk.virt, blk.driver) (λ never. blk-channels plan valid blk is (inl (2, never))))
        (right-kept plan (blk.virt, blk.queues, true) (λ never. blk-rights plan valid blk is (inl (2, inl never))))
        (right-kept plan (blk.driver, blk.queues, true) (λ never. blk-rights plan valid blk is (inl (2, inr never))))
        (λ s. blk-strangers plan valid blk is (inl (2, s))) (blk_head 1 blk.virt refl) (blk_head 0 blk.driver refl)

    module _ (c : ℕ) (x : BlkClient) (there : slice_get blk.client c ≡ Some x) where
      blk_own : Acts plan x.pd
      blk_own = blk_acts x.pd (Contains-append_right (blk_domains blk) (flat_map blk_client_domains blk.client) x.pd
          (in-client blk_client_domains blk.client c x x.pd there (contains-at (blk_client_domains x) 0 x.pd refl)))

      blk_client : Linking plan x.queues x.pd blk.virt
      blk_client = linking plan x.queues x.pd blk.virt
          (link-kept plan (x.pd, blk.virt) (λ never. blk-client-channels plan valid blk is c x there (inl (0, never))))
          (right-kept plan (x.pd, x.queues, true) (λ never. blk-client-rights plan valid blk is c x there (inl (0, inl never))))
          (right-kept plan (blk.virt, x.queues, true) (λ never. blk-client-rights plan valid blk is c x there (inl (0, inr never))))
          (λ s. blk-client-strangers plan valid blk is c x there (inl (0, s))) blk_own (blk_head 1 blk.virt refl)

      blk_client_linked : All (IsLinked plan) (blk_client_queues plan blk c x)
      unfolding blk_client_queues
      blk_client_linked = pair plan x.queues _ _ _ _ x.pd blk.virt _ blk_client

    blk_linked : All (IsLinked plan) (blk_queues plan blk)
    unfolding blk_queues disk_queues shared_blk_queues
    blk_linked =
        let clients = all-clients (IsLinked plan) (blk_client_queues plan blk) 0 blk.client (λ k (x : BlkClient) there. subst (λ n. All (IsLinked plan) (blk_client_queues plan blk n x)) (let e : k ≡ 0 + k = omega arith in e) (blk_client_linked k x there)) in
        both plan (disk_queues plan blk ++ shared_blk_queues plan blk) (each_client (blk_client_queues plan blk) 0 blk.client)
        (both plan (disk_queues plan blk) (shared_blk_queues plan blk)
        (two plan _ _ (free plan _ _ _ _ _) (free plan _ _ _ _ _))
        (pair plan blk.queues _ _ _ _ blk.virt blk.driver _ shared))
        clients

  -- the two actors of each queue of a valid plan
  pub queues_linked : All (IsLinked plan) (queues_of plan)
  queues_linked =
      let net = all-class (IsLinked plan) (net_queues plan) plan.net net_linked in
      let serial = all-class (IsLinked plan) (serial_queues plan) plan.serial serial_linked in
      let blk = all-class (IsLinked plan) (blk_queues plan) plan.blk blk_linked in
      subst (All (IsLinked plan)) (sym (queues_same plan)) (both plan (option_map_or (net_queues plan) plan.net [] ++ option_map_or (serial_queues plan) plan.serial []) (option_map_or (blk_queues plan) plan.blk [])
      (both plan (option_map_or (net_queues plan) plan.net []) (option_map_or (serial_queues plan) plan.serial []) net serial) blk)
