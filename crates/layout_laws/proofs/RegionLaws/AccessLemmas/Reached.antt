use Rattle.std.proofs.Common.{◌≡◌, ℕ, suc, ◌+◌, ◌<◌, inr, true, false, List, [], ◌∷◌, ◌++◌, length, map, Option, Some, None, slice_get, codes, refl, sym, ap, ◌∙◌, subst, arith, add-zero}
use Rattle.std.specs.List.{All, AllZip, Contains}
use Rattle.std.specs.Option.{option_map_or}
use Rattle.std.proofs.lemmas.List.{length-map}
use Rattle.std.proofs.lemmas.List.Elements.{All-nil, All-cons, All-append, All-map, All-contains, All-weaker, Contains-append_left, Contains-append_right}
use Rattle.std.proofs.lemmas.Option.{slice_get-map}
use Rattle.wire_core.specs.declared.names.PoolRow.{PoolRow}
use Rattle.sdf_plan.specs.declared.plan.Plan.{Plan}
use Rattle.sdf_plan.specs.declared.plan.Region.{Region}
use Rattle.sdf_plan.specs.declared.plan.Domain.{Domain}
use Rattle.sdf_plan.specs.declared.plan.Net.{Net}
use Rattle.sdf_plan.specs.declared.plan.NetClient.{NetClient}
use Rattle.sdf_plan.specs.declared.plan.Blk.{Blk}
use Rattle.sdf_plan.specs.declared.plan.BlkClient.{BlkClient}
use Rattle.sdf_plan.specs.declared.class_table.uses.Grant.{Grant}
use Rattle.sdf_plan.specs.ClassTable.Rows.{reads as granted_to_read, blk_buffer}
use Rattle.sdf_check.specs.Names.{region_names, region_named}
use Rattle.sdf_check.specs.ClassRules.{IsGranted, HasStranger}
use Rattle.sdf_check.specs.Valid.{Valid}
use Rattle.sdf_check.proofs.SoughtLemmas.{here-some}
use Rattle.sdf_check.proofs.SweepLemmas.{some-inj}
use Rattle.region_layout.specs.Rows.{pool_in, net_client_pools, net_pools, blk_client_pools, blk_pools, pools_of, each_client, client_name}
use Rattle.region_layout.proofs.SameLemmas.{pools_same}
use Rattle.layout_laws.proofs.Lists.{there_is}
use Rattle.layout_laws.proofs.Found.{found-at}
use Rattle.layout_laws.proofs.Pools.{not-missed, net_named, net_client_named, blk_named, blk_client_named}
use Rattle.layout_laws.specs.RegionLaws.Access.Access.{Maps, Reads, Writes, HoldsOf, IsSharedBy, reached_by, net_client_users, net_users, blk_client_users, blk_users, users_of, IsReached}
use Rattle.layout_laws.proofs.RegionLaws.AccessLemmas.Decide.{not-false, granted}
use Rattle.layout_laws.proofs.RegionLaws.AccessLemmas.Words.{all-each, contains-at, reads, writes, none-else}
use Rattle.layout_laws.proofs.RegionLaws.AccessLemmas.Kept.{right-kept, net-rights, net-strangers, net-client-rights, net-client-strangers, blk-rights, blk-strangers, blk-client-rights, blk-client-strangers}

zip-both : {A B : Type 0} (R : A → B → Type 0) (xs more : List A) (ys others : List B) → AllZip R xs ys → AllZip R more others → AllZip R (xs ++ more) (ys ++ others)
zip-both R [] more [] others h rest = rest
zip-both R [] more (y ∷ ys) others h rest = absurd h
zip-both R (x ∷ xs) more [] others h rest = absurd h
zip-both R (x ∷ xs) more (y ∷ ys) others h rest = (h.0, zip-both R xs more ys others h.1 rest)

zip-clients : {C A B : Type 0} (R : A → B → Type 0) (rows : ℕ → C → List A) (others : ℕ → C → List B) (c : ℕ) (clients : List C)
    → ((k : ℕ) (client : C) → slice_get clients k ≡ Some client → AllZip R (rows (c + k) client) (others (c + k) client)) → AllZip R (each_client rows c clients) (each_client others c clients)
zip-clients R rows others c [] h = tt
zip-clients {C} R rows others c (client ∷ rest) h =
    zip-both R (rows c client) (each_client rows (c + 1) rest) (others c client) (each_client others (c + 1) rest)
    (subst (λ n. AllZip R (rows n client) (others n client)) (add-zero c) (h 0 client refl))
    (zip-clients R rows others (c + 1) rest (λ k (x : C) there. let same : c + suc k ≡ c + 1 + k = omega arith in subst (λ n. AllZip R (rows n x) (others n x)) same (h (suc k) x there)))

zip-class : {C A B : Type 0} (R : A → B → Type 0) (rows : C → List A) (others : C → List B) (class : Option C) → ((x : C) → class ≡ Some x → AllZip R (rows x) (others x))
    → AllZip R (option_map_or rows class []) (option_map_or others class [])
zip-class R rows others None h = tt
zip-class R rows others (Some x) h = h x refl

-- a pool in the region that a key names
reached : (plan : Plan) (key name : List ℕ) (buffers size r : ℕ) (readers writers others : List (List ℕ)) → region_named plan key ≡ Some r → IsSharedBy plan key readers writers others
    → IsReached plan (pool_in plan key name buffers size) (reached_by name readers writers others)
unfolding pool_in
reached plan key name buffers size r readers writers others is shared =
    let f = found-at key (region_names plan) r is in
    let within : r < length plan.memory_region = rw (← length-map plan.memory_region (λ (x : Region). x.name)) f.0 in
    let there = there_is plan.memory_region r within in
    let named : Some there.0.name ≡ Some key = sym (slice_get-map (λ (x : Region). x.name) plan.memory_region r ∙ rw there.1 refl) ∙ f.1 in
    (there.0, refl, rw is there.1, subst (λ n. IsSharedBy plan n readers writers others) (sym (some-inj named)) shared)

one-name : (P : List ℕ → Type 0) (a : List ℕ) → P a → All P (a ∷ [])
one-name P a x = All-cons P a [] x (All-nil P)

-- those whom the rule on strangers allows are among the users
alone : (plan : Plan) (key : List ℕ) (allowed known : List (List ℕ)) → (HasStranger plan key allowed → ⊥) → All (Contains known) allowed
    → All (λ (domain : Domain). Maps key domain → Contains known domain.name) plan.protection_domain
alone plan key allowed known fine among =
    All-weaker (λ (domain : Domain). Maps key domain → Contains allowed domain.name) (λ (domain : Domain). Maps key domain → Contains known domain.name)
    (λ (domain : Domain) h maps. All-contains (Contains known) allowed domain.name among (h maps)) plan.protection_domain (none-else plan key allowed fine)

-- a region that one domain fills, and that some others may map
filled : (plan : Plan) (key writer : List ℕ) (others : List (List ℕ)) → IsGranted plan (writer, key, true) → (HasStranger plan key (writer ∷ others) → ⊥) → IsSharedBy plan key [] (writer ∷ []) others
filled plan key writer others right fine = record {
  read = All-nil (λ name. HoldsOf plan name (Reads key));
  write = one-name (λ name. HoldsOf plan name (Writes key)) writer (writes plan writer key right);
  nobody_else = none-else plan key (writer ∷ others) fine;
}

-- the domains that must read the region of what is received
granted-names : (clients : List NetClient) → map (λ (g : Grant (List ℕ)). g.domain) (map (λ (x : NetClient). granted_to_read x.copier) clients) ≡ map (λ (x : NetClient). x.copier) clients
granted-names [] = refl
granted-names (x ∷ rest) = ap (λ names. x.copier ∷ names) (granted-names rest)

module _ (plan : Plan) (valid : Valid plan) where
  module _ (net : Net) (is : plan.net ≡ Some net) where
    abbrev copiers : List (List ℕ)
    copiers = map (λ (c : NetClient). c.copier) net.client

    abbrev device_users : List (List ℕ)
    device_users = (net.rx_virt ∷ copiers) ++ [] ++ (net.driver ∷ [])

    copiers_read : All (λ name. HoldsOf plan name (Reads net.rx_region)) copiers
    copiers_read =
        All-map (λ name. HoldsOf plan name (Reads net.rx_region)) (λ (c : NetClient). c.copier) net.client
        (all-each (λ (c : NetClient). HoldsOf plan c.copier (Reads net.rx_region)) net.client (λ k (c : NetClient) there.
        reads plan c.copier net.rx_region (not-false (IsGranted plan (c.copier, net.rx_region, false)) (granted plan (c.copier, net.rx_region, false))
        (λ never. net-rights plan valid net is (inr (
          0,
          (
            suc k,
            here-some (slice_get (map (λ (x : NetClient). granted_to_read x.copier) net.client) k) (granted_to_read c.copier)
                (λ (g : Grant (List ℕ)). IsGranted plan (g.domain, net.rx_region, g.writes) → ⊥) (slice_get-map (λ (x : NetClient). granted_to_read x.copier) net.client k ∙ rw there refl) never,
          ),
        ))))))

    reader : (name : List ℕ) → Contains (net.rx_virt ∷ copiers) name → Contains device_users name
    reader name there = Contains-append_left ((net.rx_virt ∷ copiers) ++ []) (net.driver ∷ []) name (Contains-append_left (net.rx_virt ∷ copiers) [] name there)

    device_shared : IsSharedBy plan net.rx_region (net.rx_virt ∷ copiers) [] (net.driver ∷ [])
    device_shared = record {
      read = All-cons (λ name. HoldsOf plan name (Reads net.rx_region)) net.rx_virt copiers
          (reads plan net.rx_virt net.rx_region (right-kept plan (net.rx_virt, net.rx_region, false) (λ never. net-rights plan valid net is (inr (0, (0, never)))))) copiers_read;
      write = All-nil (λ name. HoldsOf plan name (Writes net.rx_region));
      nobody_else = alone plan net.rx_region ((net.rx_virt ∷ copiers) ++ (net.driver ∷ [])) device_users
          (λ s. net-strangers plan valid net is (inr (0, subst (λ ns. HasStranger plan net.rx_region ((net.rx_virt ∷ ns) ++ (net.driver ∷ []))) (sym (granted-names net.client)) s)))
          (All-append (Contains device_users) (net.rx_virt ∷ copiers) (net.driver ∷ [])
          (All-cons (Contains device_users) net.rx_virt copiers (reader net.rx_virt (contains-at (net.rx_virt ∷ copiers) 0 net.rx_virt refl))
          (all-each (Contains device_users) copiers (λ k name at. reader name (contains-at (net.rx_virt ∷ copiers) (suc k) name at))))
          (one-name (Contains device_users) net.driver (Contains-append_right ((net.rx_virt ∷ copiers) ++ []) (net.driver ∷ []) net.driver (contains-at (net.driver ∷ []) 0 net.driver refl))));
    }

    module _ (c : ℕ) (x : NetClient) (there : slice_get net.client c ≡ Some x) where
      received : IsSharedBy plan x.rx_region (x.pd ∷ []) (x.copier ∷ []) []
      received = record {
        read = one-name (λ name. HoldsOf plan name (Reads x.rx_region)) x.pd
            (reads plan x.pd x.rx_region (right-kept plan (x.pd, x.rx_region, false) (λ never. net-client-rights plan valid net is c x there (inr (0, (1, never))))));
        write = one-name (λ name. HoldsOf plan name (Writes x.rx_region)) x.copier
            (writes plan x.copier x.rx_region (right-kept plan (x.copier, x.rx_region, true) (λ never. net-client-rights plan valid net is c x there (inr (0, (0, never))))));
        nobody_else = alone plan x.rx_region (x.copier ∷ x.pd ∷ []) (x.pd ∷ x.copier ∷ []) (λ s. net-client-strangers plan valid net is c x there (inr (0, s)))
            (All-cons (Contains (x.pd ∷ x.copier ∷ [])) x.copier (x.pd ∷ []) (contains-at (x.pd ∷ x.copier ∷ []) 1 x.copier refl)
            (one-name (Contains (x.pd ∷ x.copier ∷ [])) x.pd (contains-at (x.pd ∷ x.copier ∷ []) 0 x.pd refl)));
      }

      to_send : IsSharedBy plan x.tx_region [] (x.pd ∷ []) (net.tx_virt ∷ net.driver ∷ [])
      to_send =
          filled plan x.tx_region x.pd (net.tx_virt ∷ net.driver ∷ [])
          (right-kept plan (x.pd, x.tx_region, true) (λ never. net-client-rights plan valid net is c x there (inr (1, (0, never)))))
          (λ s. net-client-strangers plan valid net is c x there (inr (1, s)))

      client_reached : AllZip (IsReached plan) (net_client_pools plan c x) (net_client_users net c x)
      unfolding net_client_pools
      client_reached =
          let named = net_client_named plan net c x valid is there in
          let rx = not-missed plan x.rx_region (λ none. named (inr (0, none))) in
          let tx = not-missed plan x.tx_region (λ none. named (inr (1, none))) in (
            reached plan x.rx_region (client_name (codes "net.") c (codes ".rx")) x.rx_buffers x.rx_buffer_size rx.0 (x.pd ∷ []) (x.copier ∷ []) [] rx.1 received,
            (reached plan x.tx_region (client_name (codes "net.") c (codes ".tx")) x.tx_buffers x.tx_buffer_size tx.0 [] (x.pd ∷ []) (net.tx_virt ∷ net.driver ∷ []) tx.1 to_send, tt),
          )

    net_reached : AllZip (IsReached plan) (net_pools plan net) (net_users net)
    unfolding net_pools
    net_reached =
        let rx = not-missed plan net.rx_region (λ none. (net_named plan net valid is) (inr (0, none))) in (
          reached plan net.rx_region (codes "net.rx") net.rx_buffers net.rx_buffer_size rx.0 (net.rx_virt ∷ copiers) [] (net.driver ∷ []) rx.1 device_shared,
          zip-clients (IsReached plan) (net_client_pools plan) (net_client_users net) 0 net.client (λ k (x : NetClient) there.
              subst (λ n. AllZip (IsReached plan) (net_client_pools plan n x) (net_client_users net n x)) (let e : k ≡ 0 + k = omega arith in e) (client_reached k x there)),
        )

  module _ (blk : Blk) (is : plan.blk ≡ Some blk) where
    blk_client_reached : (c : ℕ) (x : BlkClient) → slice_get blk.client c ≡ Some x → AllZip (IsReached plan) (blk_client_pools plan c x) (blk_client_users blk c x)
    unfolding blk_client_pools
    blk_client_reached c x there =
        let named = not-missed plan x.region (λ none. (blk_client_named plan blk c x valid is there) (inr (0, none))) in (
          reached plan x.region (client_name (codes "blk.") c []) x.buffers blk_buffer named.0 [] (x.pd ∷ []) (blk.virt ∷ blk.driver ∷ []) named.1
              (filled plan x.region x.pd (blk.virt ∷ blk.driver ∷ [])
              (right-kept plan (x.pd, x.region, true) (λ never. blk-client-rights plan valid blk is c x there (inr (0, (0, never)))))
              (λ s. blk-client-strangers plan valid blk is c x there (inr (0, s)))),
          tt,
        )

    blk_reached : AllZip (IsReached plan) (blk_pools plan blk) (blk_users blk)
    unfolding blk_pools
    blk_reached =
        let named = not-missed plan blk.region (λ none. (blk_named plan blk valid is) (inr (0, none))) in (
          reached plan blk.region (codes "blk") 1 blk_buffer named.0 [] (blk.virt ∷ []) (blk.driver ∷ []) named.1
              (filled plan blk.region blk.virt (blk.driver ∷ [])
              (right-kept plan (blk.virt, blk.region, true) (λ never. blk-rights plan valid blk is (inr (0, (0, never))))) (λ s. blk-strangers plan valid blk is (inr (0, s)))),
          zip-clients (IsReached plan) (blk_client_pools plan) (blk_client_users blk) 0 blk.client (λ k (x : BlkClient) there.
              subst (λ n. AllZip (IsReached plan) (blk_client_pools plan n x) (blk_client_users blk n x)) (let e : k ≡ 0 + k = omega arith in e) (blk_client_reached k x there)),
        )

  -- the pools of a valid plan
  pub pools_reached : AllZip (IsReached plan) (pools_of plan) (users_of plan)
  pools_reached =
      subst (λ (rows : List PoolRow). AllZip (IsReached plan) rows (users_of plan)) (sym (pools_same plan))
      (zip-both (IsReached plan) (option_map_or (net_pools plan) plan.net []) (option_map_or (blk_pools plan) plan.blk []) (option_map_or net_users plan.net []) (option_map_or blk_users plan.blk [])
      (zip-class (IsReached plan) (net_pools plan) net_users plan.net net_reached) (zip-class (IsReached plan) (blk_pools plan) blk_users plan.blk blk_reached))
