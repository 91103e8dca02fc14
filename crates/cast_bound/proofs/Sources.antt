-- A network's place has no more than plan and trace give it.
use Rattle.std.proofs.Common.{◌≡◌, ◌≤◌, ◌+◌, ◌*◌, ◌++◌, ℕ, zero, suc, Option, Some, List, [], ◌∷◌, length, slice_get, sum_by, unwrap_or, refl, sym, ap, ◌∙◌, subst, arith}
use Rattle.std.specs.Option.{option_map_or}
use Rattle.std.proofs.lemmas.List.Sums.{sum_by-cons}
use Rattle.wire_core.specs.declared.names.PoolRow.{PoolRow}
use Rattle.sdf_plan.specs.declared.plan.Plan.{Plan}
use Rattle.sdf_plan.specs.declared.plan.Net.{Net}
use Rattle.sdf_plan.specs.declared.plan.NetClient.{NetClient}
use Rattle.trace_text.specs.declared.trace.Trace.{Trace}
use Rattle.trace_text.specs.Events.{net_clients}
use Rattle.trace_text.specs.Traces.{per_client}
use Rattle.region_layout.specs.Rows.{pools_of, net_pools, blk_pools, net_client_pools, pool_in, each_client}
use Rattle.region_layout.proofs.SameLemmas.{pools_same}
use Rattle.client_programs.specs.Net.Programs.{program_with}
use Rattle.client_programs.specs.declared.net.program.NetProgram.{NetProgram}
use Rattle.client_programs.specs.declared.net.program.NetProgram.TheVariants as Programs
use Rattle.net_law.specs.Owners.Names.{ClientPools}
use Rattle.cast_core.specs.Sources.{pool_at, client_kind}
use Rattle.cast_core.specs.Casts.{client_pools, net_place}
use Rattle.cast_core.proofs.Listing.{value_count}
use Rattle.net_law.specs.Hops.Hops.{script_frames}
use Rattle.cast_bound.specs.PlayBound.Standing.{IsPlaceOf}

-- a value for each of a list is no more than what each element gives
per_few : {T X : Type 0} (g : T → ℕ) (h : X → ℕ) (value : ℕ → T) (xs : List X) → ((c : ℕ) (x : X) → slice_get xs c ≡ Some x → g (value c) ≤ h x) → sum_by g (per_client (length xs) value) ≤ sum_by h xs
per_few g h value [] few = omega arith
per_few g h value (x ∷ xs) few =
    let one = few 0 x refl in
    let rest = per_few g h (λ c. value (suc c)) xs (λ c y at. few (suc c) y at) in
    let a = sum_by-cons g (value 0) (per_client (length xs) (λ c. value (suc c))) in
    let b = sum_by-cons h x xs in
    omega (arith, one, rest, a, b)

program_few : (kind : NetProgram) (script : List (List ℕ)) → script_frames (program_with kind script) ≤ length script
program_few Programs.Sink script = omega arith
program_few Programs.Source script = omega arith
program_few Programs.Echo script = omega arith

-- programs with these scripts have no more frames than the scripts
scripts_few : (n : ℕ) (kinds : ℕ → NetProgram) (sends : List (List (List ℕ))) → sum_by script_frames (per_client n (λ c. program_with (kinds c) (unwrap_or (slice_get sends c) []))) ≤ sum_by length sends
scripts_few zero kinds sends = omega arith
scripts_few (suc n) kinds [] =
    let one = program_few (kinds 0) [] in
    let rest = scripts_few n (λ c. kinds (suc c)) [] in
    let a = sum_by-cons script_frames (program_with (kinds 0) []) (per_client n (λ c. program_with (kinds (suc c)) [])) in
    omega (arith, one, rest, a)
scripts_few (suc n) kinds (s ∷ sends) =
    let one = program_few (kinds 0) s in
    let rest = scripts_few n (λ c. kinds (suc c)) sends in
    let a = sum_by-cons script_frames (program_with (kinds 0) s) (per_client n (λ c. program_with (kinds (suc c)) (unwrap_or (slice_get sends c) []))) in
    let b = sum_by-cons (λ (l : List (List ℕ)). length l) s sends in
    omega (arith, one, rest, a, b)

-- the first pool of a client has the buffers that its keys say
client_row : (plan : Plan) (k : ℕ) (clients : List NetClient) (behind : List PoolRow) (c : ℕ) (client : NetClient) → slice_get clients c ≡ Some client → (row : PoolRow) × (slice_get (each_client (net_client_pools plan) k clients ++ behind) (2 * c) ≡ Some row) × (row.buffers ≡ client.rx_buffers)
unfolding net_client_pools pool_in
client_row plan k [] behind c client at = cc
client_row plan k (x ∷ clients) behind zero client at = (_, refl, ap (λ (o : Option NetClient). option_map_or (λ (y : NetClient). y.rx_buffers) o 0) at)
client_row plan k (x ∷ clients) behind (suc c) client at =
    let h = client_row plan (k + 1) clients behind c client at in
    let e : 2 * suc c ≡ suc (suc (2 * c)) = omega arith in
    (h.0, ap (slice_get (each_client (net_client_pools plan) k (x ∷ clients) ++ behind)) e ∙ h.1, h.2)

module _ (plan : Plan) (net : Net) (is : plan.net ≡ Some net) where
  abbrev behind : List PoolRow
  behind = option_map_or (blk_pools plan) plan.blk []

  -- the pools of a plan with a network
  rows_are : pools_of plan ≡ net_pools plan net ++ behind
  rows_are = pools_same plan ∙ ap (λ (n : Option Net). option_map_or (net_pools plan) n [] ++ behind) is

  device_pool : (pool_at (pools_of plan) 0).buffers ≡ net.rx_buffers
  unfolding net_pools pool_in
  device_pool = ap (λ rows. (pool_at rows (0)).buffers) rows_are

  client_pool : (c : ℕ) (client : NetClient) → slice_get net.client c ≡ Some client → (client_pools plan c).rx.buffers ≡ client.rx_buffers
  unfolding net_pools
  client_pool c client at =
      let h = client_row plan 0 net.client behind c client at in
      let e : 1 + 2 * c ≡ suc (2 * c) = omega arith in
      let there : slice_get (pools_of plan) (1 + 2 * c) ≡ Some h.0 = ap (λ rows. slice_get rows (1 + 2 * c)) rows_are ∙ (ap (slice_get (net_pools plan net ++ behind)) e ∙ h.1) in
      ap (λ (o : Option PoolRow). option_map_or (λ (row : PoolRow). row.buffers) o 0) there ∙ h.2

  clients_are : net_clients plan ≡ net.client
  clients_are = ap (λ (n : Option Net). option_map_or (λ (x : Net). x.client) n []) is

  pub place_is : (trace : Trace) → IsPlaceOf trace net (net_place plan trace)
  place_is trace = record {
    first = refl;
    clients = value_count (length (net_clients plan)) _ ∙ ap (λ cs. length cs) clients_are;
    pool = let e = device_pool in omega (arith, e);
    scripts = scripts_few (length (net_clients plan)) (client_kind plan) trace.sends;
    buffers = subst (λ n. sum_by (λ (q : ClientPools). q.rx.buffers) (per_client n (client_pools plan)) ≤ sum_by (λ (c : NetClient). c.rx_buffers) net.client) (sym (ap (λ cs. length cs) clients_are))
        (per_few (λ (q : ClientPools). q.rx.buffers) (λ (c : NetClient). c.rx_buffers) (client_pools plan) net.client (λ c client at. let e = client_pool c client at in omega (arith, e)));
  }
