-- The network of a plan's actors puts, and drops, no more than its entries have to be moved.
use Rattle.std.proofs.Common.{◌≡◌, ◌≢◌, ◌⊎◌, ◌≤◌, ◌<◌, ◌+◌, ◌*◌, ℕ, true, nat_le, nat_lt, Option, Some, None, List, [], length, slice_get, refl, sym, ap, ◌∙◌, subst, arith, inl, inr}
use Rattle.std.specs.Option.{option_map_or}
use Rattle.std.proofs.Math.Nat.{mul_comm}
use Rattle.std.proofs.lemmas.Bool.{and_parts, leb-true, ltb-true, cases_lt}
use Rattle.cargo_core.specs.declared.item.Item.{Item}
use Rattle.wire_core.specs.declared.names.Entry.{Entry}
use Rattle.wire_core.specs.declared.names.PoolRow.{PoolRow}
use Rattle.wire_core.specs.Journal.{History, QueuesFlow}
use Rattle.play_core.specs.Looks.{noes_together}
use Rattle.play_core.specs.Moved.{moved}
use Rattle.play_core.specs.Sheets.{RowsHold, Scene}
use Rattle.sdf_plan.specs.declared.plan.Plan.{Plan}
use Rattle.sdf_plan.specs.declared.plan.Net.{Net}
use Rattle.sdf_check.specs.Valid.{Valid}
use Rattle.trace_text.specs.declared.trace.Trace.{Trace}
use Rattle.trace_text.specs.Events.{net_clients}
use Rattle.region_layout.specs.Rows.{queues_of, pools_of}
use Rattle.buffer_kit.specs.Entries.{addr_of}
use Rattle.net_law.specs.Owners.Names.{ClientPools}
use Rattle.owner_law.specs.Pools.Places.{PoolAt}
use Rattle.net_law.specs.TxParts.Numbers.{NetPlace}
use Rattle.net_law.specs.TxParts.Rows.{in_range}
use Rattle.actor_set.specs.Parts.{Part}
use Rattle.actor_set.specs.Laws.Kinds.{AllCalm, sheet, hostiles}
use Rattle.actor_set.proofs.LawsLemmas.Calm.{calm_actor, calm_row}
use Rattle.actor_set.proofs.LawsLemmas.Told.{none_wild}
use Rattle.net_law.specs.Parts.Numbers.{client_first}
use Rattle.wired_law.specs.Wiring.{HasPart, HasWholeIn}
use Rattle.cast_core.specs.Sources.{pool_at, first_blk_pool}
use Rattle.cast_core.specs.Casts.{client_pools, net_place, scene_for}
use Rattle.cast_core.proofs.Listing.{value_is, value_count}
use Rattle.cast_core.proofs.Rooms.{pools_apart}
use Rattle.net_law.specs.Hops.Hops.{net_put, net_moves, AreApart, IsNetwork}
use Rattle.net_law.proofs.HopsLemmas.Moves.{net_moved}
use Rattle.cast_bound.specs.PlayBound.Standing.{NetMoves, without_net, with_net}
use Rattle.cast_bound.specs.Dropping.{copier_seats, net_seats}
use Rattle.cast_bound.proofs.Drops.{net_gone_is}
use Rattle.cast_bound.proofs.Sources.{place_is}

-- what is in a pool's range
in_bounds : (p : PoolAt) (item : Item) → in_range p item ≡ true → (p.base ≤ addr_of item) × (addr_of item < p.base + p.buffers * p.size)
in_bounds p item h =
    let parts = and_parts (nat_le p.base (addr_of item)) (nat_lt (addr_of item) (p.base + p.buffers * p.size)) h in
    (leb-true p.base (addr_of item) parts.0, ltb-true (addr_of item) (p.base + p.buffers * p.size) parts.1)

-- what is in a range is in that of the same numbers
reached : (item : Item) (base first buffers many size bytes : ℕ) → base ≡ first → buffers ≡ many → size ≡ bytes → addr_of item < base + buffers * size → addr_of item < first + many * bytes
reached item base first buffers many size bytes same_base same_many same_size here =
    subst (λ b. addr_of item < b + many * bytes) same_base
    (subst (λ n. addr_of item < base + n * bytes) same_many (subst (λ s. addr_of item < base + buffers * s) same_size here))

module _ (plan : Plan) (valid : Valid plan) where
  -- two pools of the network by their numbers, of which the first is lower
  lower : (j k : ℕ) → j < k → k < first_blk_pool plan → AreApart (pool_at (pools_of plan) j) (pool_at (pools_of plan) k)
  lower j k less below item here there = by (slice_get (pools_of plan) j) refl (slice_get (pools_of plan) k) refl
    where
      by : (one : Option PoolRow) → slice_get (pools_of plan) j ≡ one → (other : Option PoolRow) → slice_get (pools_of plan) k ≡ other → ⊥
      by None first other second =
          let b = in_bounds (pool_at (pools_of plan) j) item here in
          let base : (pool_at (pools_of plan) j).base ≡ 0 = ap (λ (o : Option PoolRow). option_map_or (λ (row : PoolRow). row.base) o 0) first in
          let size : (pool_at (pools_of plan) j).buffers ≡ 0 = ap (λ (o : Option PoolRow). option_map_or (λ (row : PoolRow). row.buffers) o 0) first in
          let lt : addr_of item < (pool_at (pools_of plan) j).base + 0 * (pool_at (pools_of plan) j).size = subst (λ n. addr_of item < (pool_at (pools_of plan) j).base + n * (pool_at (pools_of plan) j).size) size b.1 in
          absurd (omega (arith, base, lt))
      by (Some one) first None second =
          let b = in_bounds (pool_at (pools_of plan) k) item there in
          let base : (pool_at (pools_of plan) k).base ≡ 0 = ap (λ (o : Option PoolRow). option_map_or (λ (row : PoolRow). row.base) o 0) second in
          let size : (pool_at (pools_of plan) k).buffers ≡ 0 = ap (λ (o : Option PoolRow). option_map_or (λ (row : PoolRow). row.buffers) o 0) second in
          let lt : addr_of item < (pool_at (pools_of plan) k).base + 0 * (pool_at (pools_of plan) k).size = subst (λ n. addr_of item < (pool_at (pools_of plan) k).base + n * (pool_at (pools_of plan) k).size) size b.1 in
          absurd (omega (arith, base, lt))
      by (Some one) first (Some other) second =
          let a = in_bounds (pool_at (pools_of plan) j) item here in
          let b = in_bounds (pool_at (pools_of plan) k) item there in
          let base : (pool_at (pools_of plan) j).base ≡ one.base = ap (λ (o : Option PoolRow). option_map_or (λ (row : PoolRow). row.base) o 0) first in
          let size : (pool_at (pools_of plan) j).buffers ≡ one.buffers = ap (λ (o : Option PoolRow). option_map_or (λ (row : PoolRow). row.buffers) o 0) first in
          let other_base : (pool_at (pools_of plan) k).base ≡ other.base = ap (λ (o : Option PoolRow). option_map_or (λ (row : PoolRow). row.base) o 0) second in
          let other_size : (pool_at (pools_of plan) k).buffers ≡ other.buffers = ap (λ (o : Option PoolRow). option_map_or (λ (row : PoolRow). row.buffers) o 0) second in
          let from = a.0 in
          let other_from = b.0 in
          let told : (pool_at (pools_of plan) j).size ≡ one.size = ap (λ (o : Option PoolRow). option_map_or (λ (row : PoolRow). row.size) o 0) first in
          let other_told : (pool_at (pools_of plan) k).size ≡ other.size = ap (λ (o : Option PoolRow). option_map_or (λ (row : PoolRow). row.size) o 0) second in
          let to : addr_of item < one.base + one.buffers * one.size = reached item (pool_at (pools_of plan) j).base _ (pool_at (pools_of plan) j).buffers _ (pool_at (pools_of plan) j).size _ base size told a.1 in
          let other_to : addr_of item < other.base + other.buffers * other.size = reached item (pool_at (pools_of plan) k).base _ (pool_at (pools_of plan) k).buffers _ (pool_at (pools_of plan) k).size _ other_base other_size other_told b.1 in
          let end : addr_of item < one.base + one.size * one.buffers = rw (mul_comm one.size one.buffers) to in
          let other_end : addr_of item < other.base + other.size * other.buffers = rw (mul_comm other.size other.buffers) other_to in
          pools_apart plan valid j k one other less first second (addr_of item) (omega (arith, base, from)) end (omega (arith, other_base, other_from)) other_end

  apart_at : (j k : ℕ) → j < first_blk_pool plan → k < first_blk_pool plan → j ≢ k → AreApart (pool_at (pools_of plan) j) (pool_at (pools_of plan) k)
  apart_at j k low high off = by (cases_lt j k)
    where
      by : (j < k) ⊎ (k ≤ j) → AreApart (pool_at (pools_of plan) j) (pool_at (pools_of plan) k)
      by (inl less) = lower j k less high
      by (inr more) = by_other (cases_lt k j)
        where
          by_other : (k < j) ⊎ (j ≤ k) → AreApart (pool_at (pools_of plan) j) (pool_at (pools_of plan) k)
          by_other (inl less) = λ item here there. lower k j less low item there here
          by_other (inr same) = absurd (off (omega (arith, more, same)))

module _ (plan : Plan) (trace : Trace) (scene : Scene) (cast : List Part) (history : History) (journal : List Entry) (valid : Valid plan) (calm : AllCalm cast) (net : Net) (is : plan.net ≡ Some net) (w : HasWholeIn scene (queues_of plan) (net_place plan trace) cast) (rows : RowsHold (sheet scene) (hostiles cast) cast (moved history journal)) where
  abbrev place : NetPlace
  place = net_place plan trace

  row_of : (p : Part) → HasPart cast p → (sheet scene p).row (moved history journal)
  row_of p there = rows there.0 p (calm_actor cast calm there.0) there.1

  -- the pool that a client sends in is one of the network
  sends_below : (k : ℕ) → k < length (net_clients plan) → 2 + 2 * k < first_blk_pool plan
  sends_below k lt =
      let many : length (net_clients plan) ≡ length net.client = ap (λ (o : Option Net). length (option_map_or (λ (n : Net). n.client) o [])) is in
      let pools : first_blk_pool plan ≡ 1 + 2 * length net.client = ap (λ (o : Option Net). option_map_or (λ (n : Net). 1 + 2 * length n.client) o 0) is in
      omega (arith, lt, many, pools)

  is_network : IsNetwork scene scene.frames (hostiles cast) (queues_of plan) (moved history journal) place
  is_network = record {
    pools_many = w.pools_many;
    programs_many = w.programs_many;
    device = row_of _ w.device;
    driver = row_of _ w.driver;
    receiver = row_of _ w.receiver;
    sender = row_of _ w.sender;
    copier = λ k below. row_of _ (w.copier k below);
    client = λ k program mac q runs address pooled. row_of _ (w.client k program mac q (record { address = address; pools = pooled; plays = runs }) (none_wild cast calm (queues_of plan) (client_first place.first k + 4)));
    holds = λ i below. let r = w.kinds i below in record { row = r.0; there = r.1; calm = calm_row cast calm r.0; enough = omega arith };
    apart = λ j k p q first second off.
        let a = value_is (length (net_clients plan)) (client_pools plan) j p first in
        let b = value_is (length (net_clients plan)) (client_pools plan) k q second in
        subst (λ (z : ClientPools × ClientPools). AreApart z.0.tx z.1.tx) (λ i. (sym a.1 i, sym b.1 i)) (apart_at plan valid (2 + 2 * j) (2 + 2 * k) (sends_below j a.0) (sends_below k b.0) (λ e. off (omega (arith, e))));
  }

pub net_within : (plan : Plan) (trace : Trace) (scene : Scene) (cast : List Part) (history : History) (journal : List Entry) → Valid plan → AllCalm cast → ((net : Net) → plan.net ≡ Some net → HasWholeIn scene (queues_of plan) (net_place plan trace) cast) → scene ≡ scene_for plan trace
    → QueuesFlow history (queues_of plan) journal → RowsHold (sheet scene) (hostiles cast) cast (moved history journal) → NetMoves plan trace (noes_together (net_seats (net_place plan trace)) (moved history journal)) (moved history journal)
net_within plan trace scene cast history journal valid calm whole scene_is flows rows = by plan.net refl
  where
    by : (o : Option Net) → plan.net ≡ o → NetMoves plan trace (noes_together (net_seats (net_place plan trace)) (moved history journal)) (moved history journal)
    by None is =
        let many : length (net_place plan trace).macs ≡ 0 = value_count (length (net_clients plan)) _ ∙ ap (λ (o : Option Net). length (option_map_or (λ (n : Net). n.client) o [])) is in
        without_net is (ap (λ n. noes_together (copier_seats (net_place plan trace) n) (moved history journal)) many)
    by (Some net) is =
        let frames : scene.frames ≡ trace.frames = ap (λ (s : Scene). s.frames) scene_is ∙ ap (λ (n : Option Net). option_map_or (λ (x : Net). trace.frames) n []) is in
        let few = net_moved scene scene.frames (hostiles cast) history (queues_of plan) journal (net_place plan trace) flows (is_network plan trace scene cast history journal valid calm net is (whole net is) rows) in
        with_net net (net_place plan trace) is (place_is plan net is trace) (subst (λ fs. net_put 0 (length (net_place plan trace).macs) (moved history journal) + noes_together (net_seats (net_place plan trace)) (moved history journal) ≤ net_moves (net_place plan trace) fs) frames
        (subst (λ n. net_put 0 (length (net_place plan trace).macs) (moved history journal) + n ≤ net_moves (net_place plan trace) scene.frames) (sym (net_gone_is (net_place plan trace) (moved history journal))) few))
