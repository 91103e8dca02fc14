-- How many queues each class has.
use Rattle.std.proofs.Common.{◌≡◌, ⊎_elim, ◌+◌, ◌*◌, ◌<◌, ◌≤◌, ◌++◌, ℕ, suc, Option, Some, None, List, [], ◌∷◌, length, length-append, refl, sym, arith}
use Rattle.std.specs.Option.{option_map_or}
use Rattle.std.proofs.lemmas.Bool.{cases_lt}
use Rattle.sdf_plan.specs.declared.place.Place.TheVariants as At
use Rattle.sdf_plan.specs.declared.plan.Plan.{Plan}
use Rattle.sdf_plan.specs.declared.plan.Net.{Net}
use Rattle.sdf_plan.specs.declared.plan.Serial.{Serial}
use Rattle.sdf_plan.specs.declared.plan.Blk.{Blk}
use Rattle.sdf_check.specs.Valid.{Valid}
use Rattle.region_layout.proofs.NameLemmas.{few_actors}
use Rattle.region_layout.proofs.ValidLemmas.{net_counts, serial_counts, blk_counts}
use Rattle.region_layout.proofs.WalkLemmas.{kept, domain_walked}
use Rattle.region_layout.specs.Rows.{each_client, queue_pair, eth_rx_queues, eth_tx_queues, net_rx_queues, net_tx_queues, lease_queues, client_rx_queues, client_tx_queues, net_client_queues, net_queues, queues_of, actors_of}
use Rattle.layout_laws.specs.Jobs.Jobs.{BlkVirtualiser, BlkClient}
use Rattle.layout_laws.specs.Jobs.Queues.{both_ways, net_client_owners, net_owners, serial_client_owners, serial_owners, blk_owners}
use Rattle.layout_laws.proofs.JobsLemmas.Owning.{owners_long}
use Rattle.layout_laws.specs.Seats.Ends.{serial_first, blk_first}

-- how many rows there are where each client has so many
pub each_count : {C T : Type 0} (rows : ℕ → C → List T) (many : ℕ) (times : ℕ → ℕ) → times 0 ≡ 0 → ((n : ℕ) → times (suc n) ≡ many + times n) → ((c : ℕ) (x : C) → length (rows c x) ≡ many) → (from : ℕ) (clients : List C)
    → length (each_client rows from clients) ≡ times (length clients)
each_count rows many times none more each from [] = sym none
each_count rows many times none more each from (x ∷ xs) =
    let here : length (rows from x) ≡ many = each from x in
    let rest : length (each_client rows (from + 1) xs) ≡ times (length xs) = each_count rows many times none more each (from + 1) xs in
    let both : length (rows from x ++ each_client rows (from + 1) xs) ≡ length (rows from x) + length (each_client rows (from + 1) xs) = length-append (rows from x) (each_client rows (from + 1) xs) in
    let next : times (suc (length xs)) ≡ many + times (length xs) = more (length xs) in
    omega (arith, here, rest, both, next)

pub owner_count : (net : Net) → length (net_owners net) ≡ 8 + 6 * length net.client
owner_count net =
    let each : length (each_client (λ c client. net_client_owners c) 0 net.client) ≡ 6 * length net.client = each_count (λ c client. net_client_owners c) 6 (λ n. 6 * n) (omega arith) (λ n. omega arith) (λ c x. refl) 0 net.client in
    let eight : length (net_owners net) ≡ suc (suc (suc (suc (suc (suc (suc (suc (length (each_client (λ c client. net_client_owners c) 0 net.client))))))))) = refl in
    omega (arith, each, eight)

pub serial_owner_count : (serial : Serial) → length (serial_owners serial) ≡ 4 + 2 * length serial.client
serial_owner_count serial =
    let each : length (each_client (λ c client. serial_client_owners c) 0 serial.client) ≡ 2 * length serial.client = each_count (λ c client. serial_client_owners c) 2 (λ n. 2 * n) (omega arith) (λ n. omega arith) (λ c x. refl) 0 serial.client in
    let four : length (serial_owners serial) ≡ suc (suc (suc (suc (length (each_client (λ c client. serial_client_owners c) 0 serial.client))))) = refl in
    omega (arith, each, four)

-- the queues of the network stand before those of the serial class
pub owners_before : (plan : Plan) → length (option_map_or net_owners plan.net []) ≡ serial_first plan
owners_before plan = go plan.net
  where
    go : (o : Option Net) → length (option_map_or net_owners o []) ≡ option_map_or (λ (net : Net). 8 + 6 * length net.client) o 0
    go None = refl
    go (Some net) = owner_count net

pub queue_count : (plan : Plan) (net : Net) → length (net_queues plan net) ≡ 8 + 6 * length net.client
unfolding net_queues eth_rx_queues eth_tx_queues net_rx_queues net_tx_queues net_client_queues lease_queues client_rx_queues client_tx_queues queue_pair
queue_count plan net =
    let each : length (each_client (net_client_queues plan net) 0 net.client) ≡ 6 * length net.client = each_count (net_client_queues plan net) 6 (λ n. 6 * n) (omega arith) (λ n. omega arith) (λ c x. refl) 0 net.client in
    let eight : length (net_queues plan net) ≡ suc (suc (suc (suc (suc (suc (suc (suc (length (each_client (net_client_queues plan net) 0 net.client))))))))) = refl in
    omega (arith, each, eight)

pub queues_before : (plan : Plan) → length (option_map_or (net_queues plan) plan.net []) ≡ serial_first plan
queues_before plan = go plan.net
  where
    go : (o : Option Net) → length (option_map_or (net_queues plan) o []) ≡ option_map_or (λ (net : Net). 8 + 6 * length net.client) o 0
    go None = refl
    go (Some net) = queue_count plan net

blk_owner_count : (blk : Blk) → length (blk_owners blk) ≡ 4 + 2 * length blk.client
blk_owner_count blk =
    let each : length (each_client (λ c client. both_ways (BlkClient c) BlkVirtualiser) 0 blk.client) ≡ 2 * length blk.client = each_count (λ c client. both_ways (BlkClient c) BlkVirtualiser) 2 (λ n. 2 * n) (omega arith) (λ n. omega arith) (λ c x. refl) 0 blk.client in
    let four : length (blk_owners blk) ≡ suc (suc (suc (suc (length (each_client (λ c client. both_ways (BlkClient c) BlkVirtualiser) 0 blk.client))))) = refl in
    omega (arith, each, four)

asked_after : (o : Option Blk) → length (option_map_or blk_owners o []) ≡ option_map_or (λ (blk : Blk). 4 + 2 * length blk.client) o 0
asked_after None = refl
asked_after (Some blk) = blk_owner_count blk

speakers_after : (o : Option Serial) → length (option_map_or serial_owners o []) ≡ option_map_or (λ (serial : Serial). 4 + 2 * length serial.client) o 0
speakers_after None = refl
speakers_after (Some serial) = serial_owner_count serial

-- the queues of the network and of the serial class stand before those of the block class
pub all_before : (plan : Plan) → length (option_map_or net_owners plan.net [] ++ option_map_or serial_owners plan.serial []) ≡ blk_first plan
all_before plan =
    let two = length-append (option_map_or net_owners plan.net []) (option_map_or serial_owners plan.serial []) in
    let front = owners_before plan in
    let back = speakers_after plan.serial in
    omega (arith, two, front, back)

module _ (plan : Plan) (valid : Valid plan) where
  few_net : (o : Option Net) → plan.net ≡ o → option_map_or (λ (net : Net). 8 + 6 * length net.client) o 0 ≤ 56
  few_net None is = omega arith
  few_net (Some net) is = let few = (net_counts plan net valid is).0.1 in omega (arith, few)

  few_serial : (o : Option Serial) → plan.serial ≡ o → option_map_or (λ (serial : Serial). 4 + 2 * length serial.client) o 0 ≤ 20
  few_serial None is = omega arith
  few_serial (Some serial) is = let few = (serial_counts plan serial valid is).1 in omega (arith, few)

  few_blk : (o : Option Blk) → plan.blk ≡ o → option_map_or (λ (blk : Blk). 4 + 2 * length blk.client) o 0 ≤ 20
  few_blk None is = omega arith
  few_blk (Some blk) is = let few = (blk_counts plan blk valid is).1 in omega (arith, few)

  -- queues and actors have numbers of 16 bits
  pub few_queues : length (queues_of plan) ≤ 65536
  few_queues =
      let n = option_map_or net_owners plan.net [] in
      let s = option_map_or serial_owners plan.serial [] in
      let b = option_map_or blk_owners plan.blk [] in
      let asked = asked_after plan.blk in
      let fewest = few_blk plan.blk refl in
      let two = length-append n s in
      let all = length-append (n ++ s) b in
      let front = owners_before plan in
      let back = speakers_after plan.serial in
      let long = owners_long plan in
      let few = few_net plan.net refl in
      let fewer = few_serial plan.serial refl in
      omega (arith, asked, fewest, two, all, front, back, long, few, fewer)

  pub few_numbers : length (actors_of plan) ≤ 65536
  few_numbers = let few = few_actors plan domains_few in omega (arith, few)
    where
      domains_few : length plan.protection_domain ≤ 63
      domains_few =
          ⊎_elim (λ (lt : 63 < length plan.protection_domain).
          absurd (kept plan 6 (At.Domain 63) valid (omega arith) (omega arith) (domain_walked plan 63 lt) (omega arith, lt)))
          (λ (le : length plan.protection_domain ≤ 63). le) (cases_lt 63 (length plan.protection_domain))
