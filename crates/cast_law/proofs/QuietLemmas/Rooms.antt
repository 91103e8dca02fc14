-- The pools and the queues of a valid plan's network.
use Rattle.std.proofs.Common.{◌≡◌, ◌⊎◌, ◌+◌, ◌*◌, ◌^◌, ◌<◌, ◌≤◌, ℕ, zero, suc, false, Option, Some, List, [], length, slice_get, refl, sym, ap, ◌∙◌, subst, arith, inl, inr}
use Rattle.std.specs.Option.{option_map_or}
use Rattle.std.proofs.lemmas.Bool.{cases_Bool, cases_lt}
use Rattle.cargo_core.specs.Capacities.{IsCapacity}
use Rattle.cargo_core.specs.Ranges.{IsApart, is_within}
use Rattle.cargo_core.specs.declared.ranges.Range.{Range}
use Rattle.wire_core.specs.declared.names.QueueRow.{QueueRow}
use Rattle.wire_core.specs.declared.names.PoolRow.{PoolRow}
use Rattle.play_core.specs.Still.{Holds}
use Rattle.sdf_plan.specs.declared.plan.Plan.{Plan}
use Rattle.sdf_plan.specs.declared.plan.Net.{Net}
use Rattle.sdf_check.specs.Valid.{Valid}
use Rattle.trace_text.specs.declared.trace.Trace.{Trace}
use Rattle.trace_text.specs.Events.{is_net_rogue, net_clients}
use Rattle.region_layout.specs.Rows.{queues_of, pools_of}
use Rattle.layout_laws.specs.Sound.{IsSoundQueue, HoldsPool, HasRooms as HasPlanRooms}
use Rattle.layout_laws.proofs.Lists.{all-at}
use Rattle.layout_laws.proofs.Queues.{queues_sound}
use Rattle.layout_laws.proofs.Rooms.{has_rooms}
use Rattle.layout_laws.specs.Seats.Ends.{serial_first}
use Rattle.layout_laws.proofs.SeatsLemmas.Carrying.{net_kinds}
use Rattle.net_law.specs.Owners.Names.{ClientPools}
use Rattle.net_law.specs.Parts.Numbers.{client_first}
use Rattle.net_law.specs.TxParts.Numbers.{NetPlace}
use Rattle.net_quiet.specs.Still.{HasPools, HasRooms, SendApart, range_of}
use Rattle.actor_set.specs.Parts.{Part}
use Rattle.actor_set.specs.Laws.Kinds.{hostiles}
use Rattle.cast_core.specs.Casts.{client_pools, net_place}
use Rattle.cast_core.specs.Sources.{pool_at, client_mac, client_program}
use Rattle.cast_core.specs.Making.{HasPools as HasPoolRows, HasNetPool}
use Rattle.cast_core.proofs.Listing.{value_count, value_is}
use Rattle.cast_core.proofs.Rooms.{has_pools}
use Rattle.cast_law.specs.Jobs.{PlayJobs}
use Rattle.cast_law.proofs.QuietLemmas.Ends.{net_calm}

power_some : (k : ℕ) → 1 ≤ 2 ^ k
power_some zero = omega arith
power_some (suc k) = let rest = power_some k in omega (arith, rest)

pub capacity_some : (n : ℕ) → IsCapacity n → 1 ≤ n
capacity_some n h = let some = power_some h.0 in let e = h.2 in omega (arith, some, e)

-- ranges apart one way are so the other
pub turn_apart : (one other : Range) → IsApart one other → IsApart other one
turn_apart one other apart address within = elim (cases_Bool (is_within one address)) [
  | inl holds ↦ (let away = apart address holds in absurd cc)
  | inr differs ↦ differs
]

module _ (plan : Plan) (trace : Trace) where
  abbrev place : NetPlace
  place = net_place plan trace

  abbrev count : ℕ
  count = length (net_clients plan)

  module _ (net : Net) (is : plan.net ≡ Some net) where
    counted : count ≡ length net.client
    counted = ap (λ (o : Option Net). length (option_map_or (λ (n : Net). n.client) o [])) is

    macs_many : length place.macs ≡ count
    macs_many = value_count count (client_mac plan)

    pool_some : (n : ℕ) → HasNetPool (pools_of plan) n → 1 ≤ (pool_at (pools_of plan) n).buffers
    pool_some n has =
        let same : (pool_at (pools_of plan) n).buffers ≡ has.row.buffers = ap (λ (o : Option PoolRow). option_map_or (λ (r : PoolRow). r.buffers) o 0) has.there in
        let some = has.some in
        omega (arith, same, some)

    module _ (valid : Valid plan) where
      rows : HasPoolRows (pools_of plan) (length net.client)
      rows = has_pools plan valid net is

      each_pool : (k : ℕ) (q : ClientPools) → slice_get place.pools k ≡ Some q → (1 ≤ q.rx.buffers) × (1 ≤ q.tx.buffers)
      each_pool k q at =
          let v = value_is count (client_pools plan) k q at in
          let below : k < length net.client = (let lt = v.0 in let many = counted in omega (arith, lt, many)) in
          let rx = pool_some (1 + 2 * k) (rows.rx k below) in
          let tx = pool_some (2 + 2 * k) (rows.tx k below) in
          let rx_is = ap (λ (p : ClientPools). p.rx.buffers) v.1 in
          let tx_is = ap (λ (p : ClientPools). p.tx.buffers) v.1 in
          (omega (arith, rx, rx_is), omega (arith, tx, tx_is))

      -- no two clients send at one address
      values_apart : (j k : ℕ) → j < length net.client → k < length net.client → (j ≡ k → ⊥) → IsApart (range_of (client_pools plan j).tx) (range_of (client_pools plan k).tx)
      values_apart j k one other away = by (cases_lt j k)
        where
          by : (j < k) ⊎ (k ≤ j) → IsApart (range_of (client_pools plan j).tx) (range_of (client_pools plan k).tx)
          by (inl less) = turn_apart (range_of (client_pools plan k).tx) (range_of (client_pools plan j).tx) (rows.apart j k less other)
          by (inr more) = rows.apart k j (below_of more) one
            where
              below_of : k ≤ j → k < j
              below_of le = elim (cases_lt k j) [ inl less ↦ less | inr same ↦ absurd (away (omega (arith, le, same))) ]

      send_apart : SendApart place.pools
      send_apart j k one other j_at k_at away =
          let v = value_is count (client_pools plan) j one j_at in
          let u = value_is count (client_pools plan) k other k_at in
          let many = counted in
          let v_below : j < length net.client = (let lt = v.0 in omega (arith, lt, many)) in
          let u_below : k < length net.client = (let lt = u.0 in omega (arith, lt, many)) in
          subst (λ (p : ClientPools). IsApart (range_of p.tx) (range_of other.tx)) (sym v.1)
          (subst (λ (p : ClientPools). IsApart (range_of (client_pools plan j).tx) (range_of p.tx)) (sym u.1) (values_apart j k v_below u_below away))

      pub pools_are : HasPools place
      pools_are = record {
        pools_many = value_count count (client_pools plan) ∙ sym macs_many;
        programs_many = value_count count (client_program plan trace) ∙ sym macs_many;
        some = pool_some 0 rows.first;
        each = each_pool;
        apart = send_apart;
      }

      -- where no client of the network is hostile, whoever else is
      module _ (cast : List Part) (plays : PlayJobs plan trace cast) (none : (c : ℕ) → is_net_rogue plan c ≡ false) where
        front : serial_first plan ≡ 8 + 6 * length net.client
        front = ap (λ (o : Option Net). option_map_or (λ (n : Net). 8 + 6 * length n.client) o 0) is

        held : (n least : ℕ) (row : QueueRow) → slice_get (queues_of plan) n ≡ Some row → n < 8 + 6 * length net.client → least ≤ row.capacity → Holds (hostiles cast) (queues_of plan) n least
        held n least row at lt enough = record {
          row = row;
          there = at;
          calm = net_calm plan trace valid cast plays n row at none (let first = front in omega (arith, lt, first));
          enough = enough;
        }

        -- a queue that can hold a pool holds as many entries as the pool has buffers
        holds_pool : (n m pool : ℕ) → HoldsPool plan n pool → n ≡ m → m < 8 + 6 * length net.client → Holds (hostiles cast) (queues_of plan) m (pool_at (pools_of plan) pool).buffers
        holds_pool n m pool has same lt =
            let many : (pool_at (pools_of plan) pool).buffers ≡ has.1.buffers = ap (λ (o : Option PoolRow). option_map_or (λ (r : PoolRow). r.buffers) o 0) has.3 in
            let room = has.4 in
            held m (pool_at (pools_of plan) pool).buffers has.0 (ap (slice_get (queues_of plan)) (sym same) ∙ has.2) lt (omega (arith, many, room))

        rooms : HasPlanRooms plan net
        rooms = has_rooms plan valid net is

        each_room : (i : ℕ) → i < 8 + 6 * length place.macs → Holds (hostiles cast) (queues_of plan) (place.first + i) 1
        each_room i lt =
            let below : i < 8 + 6 * length net.client = (let a = macs_many in let b = counted in omega (arith, lt, a, b)) in
            let row = net_kinds plan net is i below in
            let plus : i ≡ 0 + i = omega arith in
            let sound = all-at (IsSoundQueue plan) (queues_of plan) (queues_sound plan valid) i row.0 row.1 in
            subst (λ n. Holds (hostiles cast) (queues_of plan) n 1) plus (held i 1 row.0 row.1 below (capacity_some row.0.capacity sound.capacity))

        below_of : (k : ℕ) → k < length place.macs → k < length net.client
        below_of k lt = let a = macs_many in let b = counted in omega (arith, lt, a, b)

        client_below : (k : ℕ) (q : ClientPools) → slice_get place.pools k ≡ Some q → k < length net.client
        client_below k q at = let lt = (value_is count (client_pools plan) k q at).0 in let b = counted in omega (arith, lt, b)

        pub rooms_are : HasRooms (hostiles cast) (queues_of plan) place
        rooms_are = record {
          each = each_room;
          free = holds_pool 5 (place.first + 5) 0 rooms.free refl (omega arith);
          lease_free = λ k lt. let below = below_of k lt in holds_pool (9 + 6 * k) (client_first 0 k + 1) 0 (rooms.lease_free k below) (omega arith) (omega (arith, below));
          rx_free = λ k q at. let below = client_below k q at in subst (λ (p : ClientPools). Holds (hostiles cast) (queues_of plan) (client_first 0 k + 3) p.rx.buffers) (sym (value_is count (client_pools plan) k q at).1) (holds_pool (11 + 6 * k) (client_first 0 k + 3) (1 + 2 * k) (rooms.rx_free k below) (omega arith) (omega (arith, below)));
          tx_free = λ k q at. let below = client_below k q at in subst (λ (p : ClientPools). Holds (hostiles cast) (queues_of plan) (client_first 0 k + 5) p.tx.buffers) (sym (value_is count (client_pools plan) k q at).1) (holds_pool (13 + 6 * k) (client_first 0 k + 5) (2 + 2 * k) (rooms.tx_free k below) (omega arith) (omega (arith, below)));
        }
