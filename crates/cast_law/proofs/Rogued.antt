-- The hostile clients of a plan stand at the queues of its classes' clients, with these clients' pools.
use Rattle.std.proofs.Common.{◌≡◌, ◌+◌, ◌*◌, ◌||◌, ◌++◌, ◌<◌, ℕ, zero, suc, Bool, true, false, if◌then◌else◌, Option, Some, None, inl, inr, List, [], length, map, slice_get, refl, sym, ap, ap₂, ◌∙◌, subst, arith}
use Rattle.std.specs.Option.{option_map, option_map_or}
use Rattle.cargo_core.specs.declared.item.QueueKind.TheVariants as Kind
use Rattle.wire_core.specs.declared.names.QueueRow.{QueueRow}
use Rattle.wire_core.specs.Ends.{Consumer, Producer}
use Rattle.play_core.specs.Names.{carries_pages, wild_in}
use Rattle.play_core.specs.Wants.{intake, outlet}
use Rattle.play_core.proofs.Lists.{some_is, map_from, there_is}
use Rattle.sdf_plan.specs.declared.plan.Plan.{Plan}
use Rattle.sdf_plan.specs.declared.plan.Net.{Net}
use Rattle.sdf_plan.specs.declared.plan.Blk.{Blk}
use Rattle.sdf_plan.specs.declared.plan.NetClient.{NetClient as NetClientKeys}
use Rattle.sdf_plan.specs.declared.plan.BlkClient.{BlkClient as BlkClientKeys}
use Rattle.sdf_check.specs.Valid.{Valid}
use Rattle.trace_text.specs.declared.trace.Trace.{Trace}
use Rattle.trace_text.specs.Events.{blk_clients, is_blk_rogue, is_net_rogue, is_serial_rogue, net_clients}
use Rattle.trace_text.specs.Traces.{IsReadFor}
use Rattle.region_layout.specs.Rows.{actor_named, queues_of}
use Rattle.owner_law.specs.Pools.Places.{PoolAt}
use Rattle.net_law.specs.Owners.Names.{ClientPools}
use Rattle.net_law.specs.Parts.Numbers.{client_at, client_first}
use Rattle.net_law.specs.TxParts.Numbers.{NetPlace, own_pools}
use Rattle.blk_law.specs.Sheets.Numbers.{BlkPlace, blk_client_at, virt_at}
use Rattle.actor_set.specs.Parts.{BlockPart, HostilePart, NetworkPart, Part, RoguePart}
use Rattle.actor_set.specs.Actors.{part_of}
use Rattle.actor_set.specs.declared.actor.Actor.{Actor}
use Rattle.actor_set.specs.Laws.Kinds.{hostiles}
use Rattle.layout_laws.specs.Jobs.Jobs.{Job, EthDevice, EthDriver, NetReceiver, NetSender, NetCopier, NetClient, UartDevice, UartDriver, SerialReceiver, SerialSender, SerialClient, DiskDevice, DiskDriver, BlkVirtualiser, BlkClient, HasJob}
use Rattle.layout_laws.specs.Seats.Ends.{IsOf, ask_ends, blk_count, ends_from}
use Rattle.layout_laws.proofs.SeatsLemmas.Having.{job_is_of}
use Rattle.layout_laws.proofs.SeatsLemmas.Naming.{blk_named, net_named}
use Rattle.layout_laws.proofs.SeatsLemmas.Seats.{has_seat}
use Rattle.cast_core.specs.Casts.{AreCast, blk_place, calm_part, client_pool, client_pools, job_part, net_place}
use Rattle.cast_core.specs.Hostile.{acts_at, blk_rogue_at, net_rogue_at, pool_pages, serial_rogue_at}
use Rattle.expect_core.specs.Expected.{client_asks}
use Rattle.cast_core.specs.Sources.{client_mac, client_program, first_blk, first_serial}
use Rattle.cast_core.proofs.Listing.{value_at, value_is}
use Rattle.cast_law.specs.Places.{pool_place}
use Rattle.cast_law.specs.Pools.Rogues.{HasRogues, IsBlkRogue, IsNetRogue, IsRogueOf}
use Rattle.cast_law.proofs.Calming.{hostile_there, wild_by}
use Rattle.cast_law.proofs.Wired.{part_at, send_wild}

-- the ends of the block class's virtualiser at the queues of a client stand side by side
asks_among : (first from count c : ℕ) → c < count → (i : ℕ) × (slice_get (ends_from (ask_ends first) from count) i ≡ Some (intake (first + 4 + 2 * (from + c))))
asks_among first from zero c lt = absurd (omega (arith, lt))
asks_among first from (suc count) zero lt = let e : from ≡ from + 0 = omega arith in (0, ap (λ n. Some (intake (first + 4 + 2 * n))) e)
asks_among first from (suc count) (suc c) lt =
    let later = asks_among first (from + 1) count c (omega (arith, lt)) in
    let e : from + 1 + c ≡ from + suc c = omega arith in
    (suc (suc later.0), later.1 ∙ ap (λ n. Some (intake (first + 4 + 2 * n))) e)

or_false : (b : Bool) → (b || false) ≡ b
or_false true = refl
or_false false = refl

rogue_is : {a b : RoguePart} → Some (HostilePart a) ≡ Some (HostilePart b) → a ≡ b
rogue_is e = cc

module _ (plan : Plan) (trace : Trace) (actors : List Actor) (valid : Valid plan) (read : IsReadFor plan trace) (made : AreCast plan trace actors) where
  abbrev cast : List Part
  cast = map part_of actors

  abbrev rows : List QueueRow
  rows = queues_of plan

  net_there : (net : Net) → plan.net ≡ Some net → (k : ℕ) (q : ClientPools) → slice_get (net_place plan trace).pools k ≡ Some q → wild_in (hostiles cast) rows (client_first 0 k + 4) ≡ true → (j : ℕ) × (p : RoguePart) × (slice_get cast j ≡ Some (HostilePart p)) × IsNetRogue (net_place plan trace) k q p
  net_there net is k q at wild = by (is_net_rogue plan k) refl
    where
      value : (k < length (net_clients plan)) × (q ≡ client_pools plan k)
      value = value_is (length (net_clients plan)) (client_pools plan) k q at

      counted : length (net_clients plan) ≡ length net.client
      counted = ap (λ (o : Option Net). length (option_map_or (λ (n : Net). n.client) o [])) is

      client : (c : NetClientKeys) × (slice_get net.client k ≡ Some c)
      client = there_is net.client k (let lt = value.0 in let e = counted in omega (arith, lt, e))

      who : ℕ
      who = (actor_named plan client.0.pd).0

      here : slice_get cast who ≡ job_part plan trace (NetClient k)
      here = part_at plan trace actors valid made (NetClient k) who ((net_named plan net is).client k client.0 client.1)

      host : hostiles cast who ≡ true
      host = sym (send_wild plan trace actors valid made net is read k client.0 client.1).0 ∙ wild

      by : (t : Bool) → is_net_rogue plan k ≡ t → (j : ℕ) × (p : RoguePart) × (slice_get cast j ≡ Some (HostilePart p)) × IsNetRogue (net_place plan trace) k q p
      by true e = (
        who,
        net_rogue_at 0 k (client_pools plan k) (acts_at trace.net_acts k),
        here ∙ ap (λ t. if t then Some (HostilePart (net_rogue_at 0 k (client_pools plan k) (acts_at trace.net_acts k))) else calm_part plan trace (NetClient k)) e,
        record { there = at; inputs = refl; outputs = refl; pages = ap (λ (x : ClientPools). pool_pages x.rx ++ pool_pages x.tx) (sym value.1) },
      )
      by false e = absurd (let calm = sym host ∙ hostile_there cast who (NetworkPart (client_at 0 k (client_program plan trace k) (client_mac plan k) (own_pools (client_pools plan k)))) (here ∙ ap (λ t. if t then Some (HostilePart (net_rogue_at 0 k (client_pools plan k) (acts_at trace.net_acts k))) else calm_part plan trace (NetClient k)) e) in cc)

  -- the queues of a block client are of requests and of responses
  asks_kind : (k who : ℕ) → HasJob plan (BlkClient k) who → (row : QueueRow) → slice_get rows (first_blk plan + 4 + 2 * k) ≡ Some row → row.kind ≡ Kind.Req
  asks_kind k who has row row_at =
      let s = has_seat plan (BlkClient k) who has 1 (outlet (first_blk plan + 4 + 2 * k)) refl in
      ap (λ (r : QueueRow). r.kind) (some_is (sym row_at ∙ s.1)) ∙ s.3

  answers_kind : (k who : ℕ) → HasJob plan (BlkClient k) who → (row : QueueRow) → slice_get rows (first_blk plan + 5 + 2 * k) ≡ Some row → row.kind ≡ Kind.Resp
  answers_kind k who has row row_at =
      let s = has_seat plan (BlkClient k) who has 0 (intake (first_blk plan + 5 + 2 * k)) refl in
      ap (λ (r : QueueRow). r.kind) (some_is (sym row_at ∙ s.1)) ∙ s.3

  blk_there : (blk : Blk) → plan.blk ≡ Some blk → (k : ℕ) (q : PoolAt) → slice_get (blk_place plan trace).pools k ≡ Some q → wild_in (hostiles cast) rows (first_blk plan + 4 + 2 * k) ≡ true → (j : ℕ) × (p : RoguePart) × (slice_get cast j ≡ Some (HostilePart p)) × IsBlkRogue rows (blk_place plan trace) k q p
  blk_there blk is k q at wild = by (is_blk_rogue plan k) refl
    where
      value : (k < length (blk_clients plan)) × (q ≡ client_pool plan k)
      value = value_is (length (blk_clients plan)) (client_pool plan) k q at

      counted : length (blk_clients plan) ≡ length blk.client
      counted = ap (λ (o : Option Blk). length (option_map_or (λ (n : Blk). n.client) o [])) is

      many : blk_count plan ≡ length blk.client
      many = ap (λ (o : Option Blk). option_map_or (λ (n : Blk). length n.client) o 0) is

      client : (c : BlkClientKeys) × (slice_get blk.client k ≡ Some c)
      client = there_is blk.client k (let lt = value.0 in let e = counted in omega (arith, lt, e))

      who : ℕ
      who = (actor_named plan client.0.pd).0

      has : HasJob plan (BlkClient k) who
      has = (blk_named plan blk is).client k client.0 client.1

      here : slice_get cast who ≡ job_part plan trace (BlkClient k)
      here = part_at plan trace actors valid made (BlkClient k) who has

      server : ℕ
      server = (actor_named plan blk.virt).0

      host : hostiles cast who ≡ true
      host =
          let s = has_seat plan (BlkClient k) who has 1 (outlet (first_blk plan + 4 + 2 * k)) refl in
          let there = asks_among (first_blk plan) 0 (blk_count plan) k (let lt = value.0 in let e = counted in let f = many in omega (arith, lt, e, f)) in
          let plus : 0 + k ≡ k = omega arith in
          let t = has_seat plan BlkVirtualiser server (blk_named plan blk is).virtualiser (suc (suc there.0)) (intake (first_blk plan + 4 + 2 * k)) (there.1 ∙ ap (λ n. Some (intake (first_blk plan + 4 + 2 * n))) plus) in
          let one : t.0 ≡ s.0 = some_is (sym t.1 ∙ s.1) in
          let consumer : s.0.consumer.0 ≡ server = sym (ap (λ (r : QueueRow). r.consumer.0) one) ∙ t.2 in
          let calm : hostiles cast server ≡ false = hostile_there cast server (BlockPart (virt_at (blk_place plan trace))) (part_at plan trace actors valid made BlkVirtualiser server (blk_named plan blk is).virtualiser) in
          let both = wild_by (hostiles cast) rows (first_blk plan + 4 + 2 * k) s.0 s.1 (ap carries_pages s.3) in
          sym (sym wild ∙ (both ∙ (ap₂ (λ m n. hostiles cast m || hostiles cast n) s.2 consumer ∙ (ap (λ b. hostiles cast who || b) calm ∙ or_false (hostiles cast who)))))

      by : (t : Bool) → is_blk_rogue plan k ≡ t → (j : ℕ) × (p : RoguePart) × (slice_get cast j ≡ Some (HostilePart p)) × IsBlkRogue rows (blk_place plan trace) k q p
      by true e = (
        who,
        blk_rogue_at (first_blk plan) k (client_pool plan k) (acts_at trace.blk_acts k),
        here ∙ ap (λ t. if t then Some (HostilePart (blk_rogue_at (first_blk plan) k (client_pool plan k) (acts_at trace.blk_acts k))) else calm_part plan trace (BlkClient k)) e,
        record { there = at; inputs = refl; outputs = refl; pages = ap pool_pages (sym value.1); takes = answers_kind k who has; puts = asks_kind k who has },
      )
      by false e = absurd (let calm = sym host ∙ hostile_there cast who (BlockPart (blk_client_at (first_blk plan) k (client_asks trace k) (client_pool plan k))) (here ∙ ap (λ t. if t then Some (HostilePart (blk_rogue_at (first_blk plan) k (client_pool plan k) (acts_at trace.blk_acts k))) else calm_part plan trace (BlkClient k)) e) in cc)

  -- the job of a hostile actor is that of a hostile client
  rogue_of : (j : ℕ) (p : RoguePart) (job : Job) → HasJob plan job j → job_part plan trace job ≡ Some (HostilePart p) → IsOf plan job → IsRogueOf rows (pool_place plan trace).net (pool_place plan trace).blk p
  rogue_of j p EthDevice has is of = absurd cc
  rogue_of j p EthDriver has is of = absurd cc
  rogue_of j p NetReceiver has is of = absurd cc
  rogue_of j p NetSender has is of = absurd cc
  rogue_of j p (NetCopier c) has is of = absurd cc
  rogue_of j p (NetClient c) has is of = by (is_net_rogue plan c) is
    where
      below : c < length (net_clients plan)
      below =
          let lt = of.1 in
          let one = ap (λ (o : Option Net). option_map_or (λ (n : Net). length n.client) o 0) of.0.1 in
          let two = ap (λ (o : Option Net). length (option_map_or (λ (n : Net). n.client) o [])) of.0.1 in
          omega (arith, lt, one, two)

      by : (t : Bool) → (if t then Some (HostilePart (net_rogue_at 0 c (client_pools plan c) (acts_at trace.net_acts c))) else calm_part plan trace (NetClient c)) ≡ Some (HostilePart p) → IsRogueOf rows (pool_place plan trace).net (pool_place plan trace).blk p
      by true e = inl (net_place plan trace, c, client_pools plan c, ap (option_map (λ net. net_place plan trace)) of.0.1, subst (IsNetRogue (net_place plan trace) c (client_pools plan c)) (rogue_is e) (record { there = value_at (length (net_clients plan)) (client_pools plan) c below; inputs = refl; outputs = refl; pages = refl }))
      by false e = absurd cc
  rogue_of j p UartDevice has is of = absurd cc
  rogue_of j p UartDriver has is of = absurd cc
  rogue_of j p SerialReceiver has is of = absurd cc
  rogue_of j p SerialSender has is of = absurd cc
  rogue_of j p (SerialClient c) has is of = by (is_serial_rogue plan c) is
    where
      bytes : (i q : ℕ) (r : Rattle.wire_core.specs.Ends.Role) → slice_get (Rattle.layout_laws.specs.Seats.Ends.job_ends plan (SerialClient c)) i ≡ Some (record { queue = q; role = r }) → (row : QueueRow) → slice_get rows q ≡ Some row → row.kind ≡ Kind.Byte
      bytes i q r at row row_at =
          let s = has_seat plan (SerialClient c) j has i (record { queue = q; role = r }) at in
          ap (λ (x : QueueRow). x.kind) (some_is (sym row_at ∙ s.1)) ∙ s.3

      by : (t : Bool) → (if t then Some (HostilePart (serial_rogue_at (first_serial plan) c (acts_at trace.serial_acts c))) else calm_part plan trace (SerialClient c)) ≡ Some (HostilePart p) → IsRogueOf rows (pool_place plan trace).net (pool_place plan trace).blk p
      by true e = inr (inr (subst (Rattle.cast_law.specs.Pools.Rogues.IsBareRogue rows) (rogue_is e) (record {
        input = first_serial plan + 4 + 2 * c;
        output = first_serial plan + 5 + 2 * c;
        inputs = refl;
        outputs = refl;
        pages = refl;
        takes = bytes 0 (first_serial plan + 4 + 2 * c) Consumer refl;
        puts = bytes 1 (first_serial plan + 5 + 2 * c) Producer refl;
      })))
      by false e = absurd cc
  rogue_of j p DiskDevice has is of = absurd cc
  rogue_of j p DiskDriver has is of = absurd cc
  rogue_of j p BlkVirtualiser has is of = absurd cc
  rogue_of j p (BlkClient c) has is of = by (is_blk_rogue plan c) is
    where
      below : c < length (blk_clients plan)
      below =
          let lt = of.1 in
          let one = ap (λ (o : Option Blk). option_map_or (λ (n : Blk). length n.client) o 0) of.0.1 in
          let two = ap (λ (o : Option Blk). length (option_map_or (λ (n : Blk). n.client) o [])) of.0.1 in
          omega (arith, lt, one, two)

      by : (t : Bool) → (if t then Some (HostilePart (blk_rogue_at (first_blk plan) c (client_pool plan c) (acts_at trace.blk_acts c))) else calm_part plan trace (BlkClient c)) ≡ Some (HostilePart p) → IsRogueOf rows (pool_place plan trace).net (pool_place plan trace).blk p
      by true e = inr (inl (blk_place plan trace, c, client_pool plan c, ap (option_map (λ blk. blk_place plan trace)) of.0.1, subst (IsBlkRogue rows (blk_place plan trace) c (client_pool plan c)) (rogue_is e) (record { there = value_at (length (blk_clients plan)) (client_pool plan) c below; inputs = refl; outputs = refl; pages = refl; takes = answers_kind c j has; puts = asks_kind c j has })))
      by false e = absurd cc

  pub rogues_are : HasRogues rows (pool_place plan trace).net (pool_place plan trace).blk cast
  rogues_are = record {
    net = λ net here k q at wild. net_by plan.net refl net here k q at wild;
    blk = λ blk here k q at wild. blk_by plan.blk refl blk here k q at wild;
    only = λ j p at. (
        let x = map_from part_of actors j (HostilePart p) at in
        let one = made.each j x.0 x.1 in
        rogue_of j p one.job one.has (one.part ∙ ap (λ (y : Part). Some y) x.2) (job_is_of plan one.job j one.has)
        );
  }
    where
      net_by : (o : Option Net) → plan.net ≡ o → (net : NetPlace) → option_map (λ (n : Net). net_place plan trace) o ≡ Some net → (k : ℕ) (q : ClientPools) → slice_get net.pools k ≡ Some q → wild_in (hostiles cast) rows (client_first net.first k + 4) ≡ true → (j : ℕ) × (p : RoguePart) × (slice_get cast j ≡ Some (HostilePart p)) × IsNetRogue net k q p
      net_by None is net here k q at wild = absurd cc
      net_by (Some n) is net here k q at wild = subst (λ (z : NetPlace). slice_get z.pools k ≡ Some q → wild_in (hostiles cast) rows (client_first z.first k + 4) ≡ true → (j : ℕ) × (p : RoguePart) × (slice_get cast j ≡ Some (HostilePart p)) × IsNetRogue z k q p) (some_is here) (net_there n is k q) at wild

      blk_by : (o : Option Blk) → plan.blk ≡ o → (blk : BlkPlace) → option_map (λ (n : Blk). blk_place plan trace) o ≡ Some blk → (k : ℕ) (q : PoolAt) → slice_get blk.pools k ≡ Some q → wild_in (hostiles cast) rows (blk.first + 4 + 2 * k) ≡ true → (j : ℕ) × (p : RoguePart) × (slice_get cast j ≡ Some (HostilePart p)) × IsBlkRogue rows blk k q p
      blk_by None is blk here k q at wild = absurd cc
      blk_by (Some n) is blk here k q at wild = subst (λ (z : BlkPlace). slice_get z.pools k ≡ Some q → wild_in (hostiles cast) rows (z.first + 4 + 2 * k) ≡ true → (j : ℕ) × (p : RoguePart) × (slice_get cast j ≡ Some (HostilePart p)) × IsBlkRogue rows z k q p) (some_is here) (blk_there n is k q) at wild
