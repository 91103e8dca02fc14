use Rattle.std.proofs.Common.{◌≡◌, ℕ, suc, ◌+◌, ◌*◌, ◌<◌, ◌≤◌, inl, inr, List, [], ◌∷◌, length, Some, is_some, slice_get, codes, refl, ap, subst, arith, sym}
use Rattle.std.specs.List.{All}
use Rattle.std.specs.Option.{IsNone, option_map_or}
use Rattle.std.proofs.lemmas.List.Elements.{All-nil, All-cons, All-append}
use Rattle.std.proofs.lemmas.Option.{slice_get_within, slice_get-get_or}
use Rattle.sdf_plan.specs.declared.plan.Plan.{Plan}
use Rattle.sdf_plan.specs.declared.plan.Region.{Region}
use Rattle.sdf_plan.specs.declared.plan.Net.{Net}
use Rattle.sdf_plan.specs.declared.plan.NetClient.{NetClient}
use Rattle.sdf_plan.specs.declared.plan.Blk.{Blk}
use Rattle.sdf_plan.specs.declared.plan.BlkClient.{BlkClient}
use Rattle.sdf_check.specs.Names.{region_named}
use Rattle.sdf_plan.specs.ClassTable.Table.{net_element, net_client_element, blk_element, blk_client_element}
use Rattle.sdf_check.specs.ClassRules.{UsesNoRegion, IsSmaller, IsBufferCount}
use Rattle.sdf_check.specs.Valid.{Valid}
use Rattle.sdf_check.proofs.SoughtLemmas.{here-some}
use Rattle.region_layout.specs.Bases.{bases_from, bases_of, floor_of, free_after}
use Rattle.sdf_plan.specs.ClassTable.Rows.{blk_buffer}
use Rattle.region_layout.specs.Rows.{pool_in, net_client_pools, net_pools, blk_client_pools, blk_pools, pools_of, each_client, client_name}
use Rattle.region_layout.proofs.SameLemmas.{pools_same}
use Rattle.region_layout.proofs.KeptLemmas.{net_keeps, net_client_keeps, blk_keeps, blk_client_keeps}
use Rattle.region_layout.proofs.ValidLemmas.{net_counts, net_client_counts, blk_client_counts}
use Rattle.layout_laws.specs.Sound.{IsSoundPool}
use Rattle.layout_laws.proofs.Lists.{option_cases, all-clients, all-class}
use Rattle.layout_laws.proofs.Found.{large-region}
use Rattle.layout_laws.proofs.Queues.{net_fine, net_client_fine, blk_fine, blk_client_fine}

-- there is a base for each region
based : (regions : List Region) (free : ℕ) → length (bases_from free regions) ≡ length regions
based [] free = refl
based (r ∷ rest) free = ap suc (based rest (free_after free r))

pub all-based : (regions : List Region) → length (bases_of regions) ≡ length regions
unfolding bases_of
all-based regions = based regions (floor_of regions)

-- a region that isn't missed is there
pub not-missed : (plan : Plan) (key : List ℕ) → (IsNone (region_named plan key) → ⊥) → (r : ℕ) × (region_named plan key ≡ Some r)
not-missed plan key fine = elim (option_cases (region_named plan key)) [
  | inl none ↦ absurd (fine (ap is_some none))
  | inr some ↦ some
]

sound_pool : (plan : Plan) (key name : List ℕ) (buffers size r : ℕ) → IsBufferCount buffers → region_named plan key ≡ Some r → (IsSmaller plan (key, size * buffers) → ⊥)
    → IsSoundPool plan (pool_in plan key name buffers size)
unfolding pool_in
sound_pool plan key name buffers size r count is large =
    let found = large-region plan key (size * buffers) r large is in
    let within : r < length plan.memory_region = slice_get_within plan.memory_region r found.0 found.1 in
    let less : r < length (bases_of plan.memory_region) = rw (all-based plan.memory_region) within in
    record {
      buffers = count;
      base = rw is (slice_get-get_or (bases_of plan.memory_region) r 0 less);
      lies = rw is (here-some (slice_get plan.memory_region r) found.0 (λ (region : Region). size * buffers ≤ region.size) found.1 found.2);
    }

pub net_named : (plan : Plan) (net : Net) → Valid plan → plan.net ≡ Some net → UsesNoRegion plan (net_element net) → ⊥
net_named plan net valid is = net_keeps plan 13 valid (omega arith) (omega arith) net is

pub net_client_named : (plan : Plan) (net : Net) (c : ℕ) (client : NetClient) → Valid plan → plan.net ≡ Some net → slice_get net.client c ≡ Some client
    → UsesNoRegion plan (net_client_element net c client) → ⊥
net_client_named plan net c client valid is there = net_client_keeps plan 13 valid (omega arith) (omega arith) net c client is there

pub blk_named : (plan : Plan) (blk : Blk) → Valid plan → plan.blk ≡ Some blk → UsesNoRegion plan (blk_element blk) → ⊥
blk_named plan blk valid is = blk_keeps plan 13 valid (omega arith) (omega arith) blk is

pub blk_client_named : (plan : Plan) (blk : Blk) (c : ℕ) (client : BlkClient) → Valid plan → plan.blk ≡ Some blk → slice_get blk.client c ≡ Some client
    → UsesNoRegion plan (blk_client_element blk c client) → ⊥
blk_client_named plan blk c client valid is there = blk_client_keeps plan 13 valid (omega arith) (omega arith) blk c client is there

net_client_sound : (plan : Plan) (net : Net) → Valid plan → plan.net ≡ Some net → (c : ℕ) (client : NetClient) → slice_get net.client c ≡ Some client
    → All (IsSoundPool plan) (net_client_pools plan c client)
unfolding net_client_pools
net_client_sound plan net valid is c client there =
    let counts = net_client_counts plan net c client valid is there in
    let fine = net_client_fine plan net c client valid is there in
    let named = net_client_named plan net c client valid is there in
    let rx = not-missed plan client.rx_region (λ none. named (inr (0, none))) in
    let tx = not-missed plan client.tx_region (λ none. named (inr (1, none))) in
    let first = pool_in plan client.rx_region (client_name (codes "net.") c (codes ".rx")) client.rx_buffers client.rx_buffer_size in
    let second = pool_in plan client.tx_region (client_name (codes "net.") c (codes ".tx")) client.tx_buffers client.tx_buffer_size in
    All-cons (IsSoundPool plan) first (second ∷ [])
    (sound_pool plan client.rx_region (client_name (codes "net.") c (codes ".rx")) client.rx_buffers client.rx_buffer_size rx.0 counts.0 rx.1
    (λ small. fine (inr (0, small))))
    (All-cons (IsSoundPool plan) second []
    (sound_pool plan client.tx_region (client_name (codes "net.") c (codes ".tx")) client.tx_buffers client.tx_buffer_size tx.0 counts.1 tx.1
    (λ small. fine (inr (1, small))))
    (All-nil (IsSoundPool plan)))

net_sound : (plan : Plan) → Valid plan → (net : Net) → plan.net ≡ Some net → All (IsSoundPool plan) (net_pools plan net)
unfolding net_pools
net_sound plan valid net is =
    let rx = not-missed plan net.rx_region (λ none. (net_named plan net valid is) (inr (0, none))) in
    All-cons (IsSoundPool plan) (pool_in plan net.rx_region (codes "net.rx") net.rx_buffers net.rx_buffer_size) (each_client (net_client_pools plan) 0 net.client)
    (sound_pool plan net.rx_region (codes "net.rx") net.rx_buffers net.rx_buffer_size rx.0 (net_counts plan net valid is).1 rx.1
    (λ small. (net_fine plan net valid is) (inr (0, small))))
    (all-clients (IsSoundPool plan) (net_client_pools plan) 0 net.client
    (λ k (client : NetClient) there. subst (λ n. All (IsSoundPool plan) (net_client_pools plan n client)) (let e : k ≡ 0 + k = omega arith in e) (net_client_sound plan net valid is k client there)))

blk_client_sound : (plan : Plan) (blk : Blk) → Valid plan → plan.blk ≡ Some blk → (c : ℕ) (client : BlkClient) → slice_get blk.client c ≡ Some client
    → All (IsSoundPool plan) (blk_client_pools plan c client)
unfolding blk_client_pools
blk_client_sound plan blk valid is c client there =
    let named = not-missed plan client.region (λ none. (blk_client_named plan blk c client valid is there) (inr (0, none))) in
    All-cons (IsSoundPool plan) (pool_in plan client.region (client_name (codes "blk.") c []) client.buffers blk_buffer) []
    (sound_pool plan client.region (client_name (codes "blk.") c []) client.buffers blk_buffer named.0 (blk_client_counts plan blk c client valid is there) named.1
    (λ small. (blk_client_fine plan blk c client valid is there) (inr (0, small))))
    (All-nil (IsSoundPool plan))

blk_sound : (plan : Plan) → Valid plan → (blk : Blk) → plan.blk ≡ Some blk → All (IsSoundPool plan) (blk_pools plan blk)
unfolding blk_pools
blk_sound plan valid blk is =
    let named = not-missed plan blk.region (λ none. (blk_named plan blk valid is) (inr (0, none))) in
    All-cons (IsSoundPool plan) (pool_in plan blk.region (codes "blk") 1 blk_buffer) (each_client (blk_client_pools plan) 0 blk.client)
    (sound_pool plan blk.region (codes "blk") 1 blk_buffer named.0 (omega arith, omega arith) named.1
    (λ small. (blk_fine plan blk valid is) (inr (0, small))))
    (all-clients (IsSoundPool plan) (blk_client_pools plan) 0 blk.client
    (λ k (client : BlkClient) there. subst (λ n. All (IsSoundPool plan) (blk_client_pools plan n client)) (let e : k ≡ 0 + k = omega arith in e) (blk_client_sound plan blk valid is k client there)))

-- each pool of a valid plan
pub pools_sound : (plan : Plan) → Valid plan → All (IsSoundPool plan) (pools_of plan)
pools_sound plan valid =
    subst (All (IsSoundPool plan)) (sym (pools_same plan)) (All-append (IsSoundPool plan) (option_map_or (net_pools plan) plan.net []) (option_map_or (blk_pools plan) plan.blk [])
    (all-class (IsSoundPool plan) (net_pools plan) plan.net (net_sound plan valid)) (all-class (IsSoundPool plan) (blk_pools plan) plan.blk (blk_sound plan valid)))
