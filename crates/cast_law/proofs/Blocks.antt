-- The cast of a plan with a block class has the whole class where the layout places it.
use Rattle.std.proofs.Common.{◌≡◌, ◌⊎◌, ⊎_elim, ◌+◌, ◌*◌, ◌<◌, ◌≤◌, ◌++◌, ℕ, suc, false, cond, Option, Some, None, unwrap_or, inl, inr, codes, List, [], ◌∷◌, length, map, slice_get, refl, sym, ap, ◌∙◌, subst, arith, eq-eqb}
use Rattle.std.specs.Prelude.{MatchOption}
use Rattle.std.specs.List.{All}
use Rattle.std.specs.Option.{option_map_or, IsSomeAnd}
use Rattle.std.proofs.lemmas.Bool.{cases_lt}
use Rattle.std.proofs.lemmas.List.Elements.{All-nil, All-cons}
use Rattle.cargo_core.specs.declared.item.Ask.{Ask}
use Rattle.cargo_core.specs.declared.item.Code.{Code}
use Rattle.cargo_core.specs.declared.item.Code.TheVariants as Asked
use Rattle.cargo_core.specs.declared.item.QueueKind.TheVariants as Kind
use Rattle.wire_core.specs.declared.names.QueueRow.{QueueRow}
use Rattle.wire_core.specs.declared.names.PoolRow.{PoolRow}
use Rattle.sdf_plan.specs.declared.place.Place.TheVariants as At
use Rattle.sdf_plan.specs.declared.plan.Plan.{Plan}
use Rattle.sdf_plan.specs.declared.plan.Net.{Net}
use Rattle.sdf_plan.specs.declared.plan.Blk.{Blk}
use Rattle.sdf_plan.specs.declared.plan.BlkClient.{BlkClient as BlkClientKeys}
use Rattle.sdf_check.specs.Names.{StandsBefore}
use Rattle.sdf_check.specs.Valid.{Valid}
use Rattle.sdf_check.proofs.ListLemmas.{get-right}
use Rattle.sdf_check.proofs.SoughtLemmas.{here-some}
use Rattle.trace_text.specs.declared.trace.Trace.{Trace}
use Rattle.trace_text.specs.Events.{blk_clients}
use Rattle.trace_text.specs.Traces.{IsReadFor}
use Rattle.trace_text.specs.Shapes.{HasShapes, IsAsk, HasForm, IsDisk}
use Rattle.trace_text.proofs.Shapes.{shapes-read}
use Rattle.sdf_plan.specs.ClassTable.Rows.{blk_buffer}
use Rattle.region_layout.specs.Rows.{each_client, client_name, pool_in, net_pools, net_client_pools, blk_pools, blk_client_pools, pools_of, queues_of, actor_named, disk_number}
use Rattle.region_layout.proofs.SameLemmas.{pools_same}
use Rattle.region_layout.proofs.WalkLemmas.{kept, blk_client_walked}
use Rattle.layout_laws.specs.Sound.{IsSoundPool}
use Rattle.layout_laws.proofs.Lists.{all-at, each-at}
use Rattle.layout_laws.proofs.Pools.{pools_sound}
use Rattle.play_core.specs.Wants.{outlet}
use Rattle.play_core.proofs.Lists.{map_get, there_is, there_below}
use Rattle.owner_law.specs.Pools.Places.{PoolAt}
use Rattle.blk_law.specs.Replying.{IsSized, AreSized}
use Rattle.blk_law.specs.Sheets.Parts.{BlkPart}
use Rattle.blk_law.specs.Sheets.Numbers.{BlkPlace, IsBlkClientOf, disk_at, blk_driver_at, virt_at, blk_client_at}
use Rattle.actor_set.specs.Parts.{Part, BlockPart}
use Rattle.actor_set.specs.Actors.{part_of}
use Rattle.actor_set.specs.declared.actor.Actor.{Actor}
use Rattle.layout_laws.specs.Jobs.Jobs.{Job, EthDevice, EthDriver, NetReceiver, NetSender, NetCopier, NetClient, UartDevice, UartDriver, SerialReceiver, SerialSender, SerialClient, DiskDevice, DiskDriver, BlkVirtualiser, BlkClient, HasJob}
use Rattle.cast_core.specs.Casts.{client_pool, blk_place, calm_part, job_part, AreCast}
use Rattle.expect_core.specs.Expected.{client_asks, client_entry}
use Rattle.cast_core.specs.Sources.{pool_at, first_blk_pool}
use Rattle.cast_core.proofs.Listing.{value_count, value_at, value_is}
use Rattle.layout_laws.specs.Seats.Ends.{HasBlk, IsOf}
use Rattle.layout_laws.specs.Seats.Named.{AreBlkNamed}
use Rattle.layout_laws.proofs.SeatsLemmas.Having.{job_is_of}
use Rattle.layout_laws.proofs.SeatsLemmas.Counts.{each_count}
use Rattle.layout_laws.proofs.SeatsLemmas.Naming.{blk_named}
use Rattle.layout_laws.proofs.SeatsLemmas.Seats.{has_seat}
use Rattle.wired_law.specs.Wiring.{HasPart, IsOfBlock, HasBlk as HasBlock, HasNoBlock}
use Rattle.cast_law.proofs.Numbers.{askers_counted}
use Rattle.cast_law.proofs.Calming.{calm_blk, producer_calm, wild_by}
use Rattle.cast_law.proofs.Wired.{part_at, job_of, image_there}
use Rattle.actor_set.specs.Laws.Kinds.{hostiles}
use Rattle.play_core.specs.Names.{carries_pages, wild_in}

-- what a line of a trace asks has a size that a buffer takes
ask_sized : (code : Code) (a : Ask) → HasForm code a → IsSized code a
ask_sized Asked.Read a form = form.0.2
ask_sized Asked.Write a form = (form.0.2, form.1)
ask_sized Asked.Flush a form = tt
ask_sized Asked.Barrier a form = tt

asks_sized : (asks : List Ask) → ((k : ℕ) (a : Ask) → slice_get asks k ≡ Some a → IsAsk a) → AreSized asks
asks_sized [] each = All-nil (λ (a : Ask). IsSized a.code a)
asks_sized (a ∷ asks) each = All-cons (λ (x : Ask). IsSized x.code x) a asks (ask_sized a.code a (each 0 a refl)) (asks_sized asks (λ k x at. each (suc k) x at))

-- the pools of the network stand before those of the block class
pub pools_before : (plan : Plan) → length (option_map_or (net_pools plan) plan.net []) ≡ first_blk_pool plan
unfolding net_pools net_client_pools
pools_before plan = go plan.net
  where
    go : (o : Option Net) → length (option_map_or (net_pools plan) o []) ≡ option_map_or (λ (net : Net). 1 + 2 * length net.client) o 0
    go None = refl
    go (Some net) =
        let each : length (each_client (net_client_pools plan) 0 net.client) ≡ 2 * length net.client = each_count (net_client_pools plan) 2 (λ n. 2 * n) (omega arith) (λ n. omega arith) (λ c x. refl) 0 net.client in
        let one : length (net_pools plan net) ≡ suc (length (each_client (net_client_pools plan) 0 net.client)) = refl in
        omega (arith, each, one)

module _ (plan : Plan) (trace : Trace) (actors : List Actor) (valid : Valid plan) (made : AreCast plan trace actors) (read : IsReadFor plan trace) (blk : Blk) (is : plan.blk ≡ Some blk) where
  abbrev cast : List Part
  cast = map part_of actors

  abbrev place : BlkPlace
  place = blk_place plan trace

  abbrev count : ℕ
  count = length (blk_clients plan)

  counted : count ≡ length blk.client
  counted = ap (λ (o : Option Blk). length (option_map_or (λ (b : Blk). b.client) o [])) is

  client_of : (k : ℕ) → k < count → (c : BlkClientKeys) × (slice_get blk.client k ≡ Some c)
  client_of k lt = there_is blk.client k (let a = counted in omega (arith, lt, a))

  named : AreBlkNamed plan blk
  named = blk_named plan blk is

  shapes : HasShapes plan trace
  shapes = shapes-read plan trace read

  at : (job : Job) (k : ℕ) → HasJob plan job k → slice_get cast k ≡ job_part plan trace job
  at job k has = part_at plan trace actors valid made job k has

  pub asks_many : length place.asks ≡ length place.entries
  asks_many = value_count count (client_asks trace) ∙ sym (value_count count (client_entry plan))

  pub pools_many : length place.pools ≡ length place.entries
  pools_many = value_count count (client_pool plan) ∙ sym (value_count count (client_entry plan))

  pub disk_there : HasPart cast (BlockPart (disk_at place))
  disk_there = ((disk_number plan).0, at DiskDevice (disk_number plan).0 named.device)

  pub driver_there : HasPart cast (BlockPart (blk_driver_at place.first))
  driver_there = ((actor_named plan blk.driver).0, at DiskDriver (actor_named plan blk.driver).0 named.driver)

  pub virt_there : HasPart cast (BlockPart (virt_at place))
  virt_there = ((actor_named plan blk.virt).0, at BlkVirtualiser (actor_named plan blk.virt).0 named.virtualiser)

  pub client_there : (k entry : ℕ) (asks : List Ask) (pool : PoolAt) → IsBlkClientOf place k entry asks pool → wild_in (hostiles cast) (queues_of plan) (place.first + 4 + 2 * k) ≡ false → HasPart cast (BlockPart (blk_client_at place.first k asks pool))
  client_there k entry asks pool of calm =
      let a = value_is count (client_asks trace) k asks of.has_asks in
      let p = value_is count (client_pool plan) k pool of.has_pool in
      let c = client_of k a.0 in
      let same : calm_part plan trace (BlkClient k) ≡ Some (BlockPart (blk_client_at place.first k asks pool)) =
      ap (λ xs. Some (BlockPart (blk_client_at place.first k xs (client_pool plan k)))) (sym a.1) ∙ ap (λ q. Some (BlockPart (blk_client_at place.first k asks q))) (sym p.1) in
      let who = (actor_named plan c.0.pd).0 in
      let has = named.client k c.0 c.1 in
      let s = has_seat plan (BlkClient k) who has 1 (outlet (place.first + 4 + 2 * k)) refl in
      let friendly : hostiles cast s.0.producer.0 ≡ false = producer_calm (hostiles cast s.0.producer.0) (hostiles cast s.0.consumer.0) (sym (wild_by (hostiles cast) (queues_of plan) (place.first + 4 + 2 * k) s.0 s.1 (ap carries_pages s.3)) ∙ calm) in
      (who, calm_blk plan trace cast k who (at (BlkClient k) who has) (subst (λ m. hostiles cast m ≡ false) s.2 friendly) ∙ same)

  block_is : {p q : BlkPart} → Some (BlockPart p) ≡ Some (BlockPart q) → q ≡ p
  block_is e = cc

  one_of : (job : Job) (q : BlkPart) → calm_part plan trace job ≡ Some (BlockPart q) → IsOf plan job → IsOfBlock place q
  one_of EthDevice q e of = absurd cc
  one_of EthDriver q e of = absurd cc
  one_of NetReceiver q e of = absurd cc
  one_of NetSender q e of = absurd cc
  one_of (NetCopier c) q e of = absurd cc
  one_of (NetClient c) q e of = absurd cc
  one_of UartDevice q e of = absurd cc
  one_of UartDriver q e of = absurd cc
  one_of SerialReceiver q e of = absurd cc
  one_of SerialSender q e of = absurd cc
  one_of (SerialClient c) q e of = absurd cc
  one_of DiskDevice q e of = inl (block_is e)
  one_of DiskDriver q e of = inr (inl (block_is e))
  one_of BlkVirtualiser q e of = inr (inr (inl (block_is e)))
  one_of (BlkClient c) q e of =
      let lt : c < count = (let below = of.1 in let many = askers_counted plan in omega (arith, below, many)) in
      let who : IsBlkClientOf place c (client_entry plan c) (client_asks trace c) (client_pool plan c) = record {
        has_entry = value_at count (client_entry plan) c lt;
        has_asks = value_at count (client_asks trace) c lt;
        has_pool = value_at count (client_pool plan) c lt;
      } in
      inr (inr (inr (c, client_entry plan c, client_asks trace c, client_pool plan c, who, block_is e)))

  pub only_these : (k : ℕ) (q : BlkPart) → slice_get cast k ≡ Some (BlockPart q) → IsOfBlock place q
  only_these k q there = let one = job_of plan trace actors valid made k (BlockPart q) there (λ r e. cc) in one_of one.0 q one.2 (job_is_of plan one.0 k one.1)

  -- the virtualiser's queue to the driver carries requests
  pub requests_there : (row : QueueRow) × (slice_get (queues_of plan) (place.first + 2) ≡ Some row) × (row.kind ≡ Kind.Req)
  requests_there =
      let s = has_seat plan BlkVirtualiser (actor_named plan blk.virt).0 named.virtualiser 1 (outlet (place.first + 2)) refl in
      (s.0, s.1, s.3 ∙ ap (λ t. cond t Kind.Req Kind.Resp) (eq-eqb (place.first + 2) (place.first + 2) refl))

  pub disk_sized : IsDisk trace.image
  disk_sized = subst (λ (o : Option Blk). MatchOption o (trace.image ≡ []) (λ b. IsDisk trace.image)) is shapes.image

  -- the rows of the class's pools
  client_row : (k : ℕ) → k < count → (row : PoolRow) × (slice_get (pools_of plan) (first_blk_pool plan + 1 + k) ≡ Some row)
  unfolding blk_pools blk_client_pools
  client_row k lt =
      let before = option_map_or (net_pools plan) plan.net [] in
      let behind = option_map_or (blk_pools plan) plan.blk [] in
      let long = pools_before plan in
      let c = client_of k lt in
      let row = pool_in plan c.0.region (client_name (codes "blk.") (0 + k) []) c.0.buffers blk_buffer in
      let flat : slice_get (each_client (blk_client_pools plan) 0 blk.client) (k + 0) ≡ Some row = each-at (blk_client_pools plan) 1 (λ n. n) 0 blk.client k 0 c.0 row (λ n x. refl) refl (λ n. omega arith) c.1 refl in
      let n : length before + suc (k + 0) ≡ first_blk_pool plan + 1 + k = omega (arith, long) in
      let here : slice_get behind (suc (k + 0)) ≡ Some row = ap (λ (o : Option Blk). slice_get (option_map_or (blk_pools plan) o []) (suc (k + 0))) is ∙ flat in
      (row, ap (λ rows. slice_get rows (first_blk_pool plan + 1 + k)) (pools_same plan) ∙ subst (λ j. slice_get (before ++ behind) j ≡ Some row) n (get-right before behind (suc (k + 0)) row here))

  some_at : (n : ℕ) (row : PoolRow) → slice_get (pools_of plan) n ≡ Some row → 1 ≤ (pool_at (pools_of plan) n).buffers
  some_at n row there =
      let some : 1 ≤ row.buffers = (all-at (IsSoundPool plan) (pools_of plan) (pools_sound plan valid) n row there).buffers.0 in
      let many : (pool_at (pools_of plan) n).buffers ≡ row.buffers = ap (λ (o : Option PoolRow). option_map_or (λ (r : PoolRow). r.buffers) o 0) there in
      omega (arith, some, many)

  pub some_buffers : (k : ℕ) (pool : PoolAt) → slice_get place.pools k ≡ Some pool → 1 ≤ pool.buffers
  some_buffers k pool there =
      let v = value_is count (client_pool plan) k pool there in
      let r = client_row k v.0 in
      let some = some_at (first_blk_pool plan + 1 + k) r.0 r.1 in
      let same = ap (λ (p : PoolAt). p.buffers) v.1 in
      omega (arith, some, same)

  pub scripts_sized : (k : ℕ) (asks : List Ask) → slice_get place.asks k ≡ Some asks → AreSized asks
  scripts_sized k asks there = let v = value_is count (client_asks trace) k asks there in subst AreSized (sym v.1) (by (slice_get trace.asks k) refl)
    where
      by : (o : Option (List Ask)) → slice_get trace.asks k ≡ o → AreSized (unwrap_or o [])
      by None none = asks_sized [] (λ j a j_at. cc)
      by (Some given) there = asks_sized given (λ j a j_at. all-at IsAsk given (all-at (All IsAsk) trace.asks shapes.asks k given there) j a j_at)

  -- no two clients have one entry
  entry_there : (k entry : ℕ) → slice_get place.entries k ≡ Some entry → (c : BlkClientKeys) × (slice_get blk.client k ≡ Some c) × (c.partition ≡ entry)
  entry_there k entry there =
      let v = value_is count (client_entry plan) k entry there in
      let c = client_of k v.0 in
      let here : slice_get (blk_clients plan) k ≡ Some c.0 = ap (λ (o : Option Blk). slice_get (option_map_or (λ (b : Blk). b.client) o []) k) is ∙ c.1 in
      (c.0, c.1, sym (v.1 ∙ ap (λ (o : Option BlkClientKeys). option_map_or (λ (x : BlkClientKeys). x.partition) o 0) here))

  later_entry : (j k entry : ℕ) → j < k → slice_get place.entries j ≡ Some entry → slice_get place.entries k ≡ Some entry → ⊥
  later_entry j k entry lt first second =
      let a = entry_there j entry first in
      let b = entry_there k entry second in
      let before : StandsBefore b.0.partition (map (λ (x : BlkClientKeys). x.partition) blk.client) k =
      (j, lt, map_get (λ (x : BlkClientKeys). x.partition) blk.client j a.0 a.1 ∙ ap (λ n. Some n) (a.2 ∙ sym b.2)) in
      kept plan 29 (At.BlkClient k) valid (omega arith) (omega arith) (blk_client_walked plan blk k is (there_below blk.client k b.0 b.1))
      (here-some plan.blk blk (λ (x : Blk). IsSomeAnd (slice_get x.client k) (λ (c : BlkClientKeys). (3 < c.partition) ⊎ StandsBefore c.partition (map (λ (o : BlkClientKeys). o.partition) x.client) k)) is
      (here-some (slice_get blk.client k) b.0 (λ (c : BlkClientKeys). (3 < c.partition) ⊎ StandsBefore c.partition (map (λ (o : BlkClientKeys). o.partition) blk.client) k) b.1 (inr before)))

  pub entries_apart : (j k entry : ℕ) → slice_get place.entries j ≡ Some entry → slice_get place.entries k ≡ Some entry → j ≡ k
  entries_apart j k entry first second =
      ⊎_elim (λ (lt : j < k). absurd (later_entry j k entry lt first second))
      (λ (ge : k ≤ j). ⊎_elim (λ (lt : k < j). absurd (later_entry k j entry lt second first)) (λ (le : j ≤ k). omega (arith, ge, le)) (cases_lt k j)) (cases_lt j k)

  pub whole_block : HasBlock (queues_of plan) place cast
  whole_block = record {
    asks_many = asks_many;
    pools_many = pools_many;
    disk = disk_there;
    driver = driver_there;
    virt = virt_there;
    client = client_there;
    only = only_these;
    requests = requests_there;
    some = some_buffers;
    blocks = disk_sized.0;
    some_blocks = disk_sized.1;
    image_long = disk_sized.2;
    image_is = image_there plan trace actors valid made blk is;
    sized = scripts_sized;
    apart = entries_apart;
  }

-- a part of the block class has a job of the class
blk_job : (plan : Plan) (trace : Trace) (job : Job) (q : BlkPart) → calm_part plan trace job ≡ Some (BlockPart q) → IsOf plan job → HasBlk plan
blk_job plan trace EthDevice q e of = absurd cc
blk_job plan trace EthDriver q e of = absurd cc
blk_job plan trace NetReceiver q e of = absurd cc
blk_job plan trace NetSender q e of = absurd cc
blk_job plan trace (NetCopier c) q e of = absurd cc
blk_job plan trace (NetClient c) q e of = absurd cc
blk_job plan trace UartDevice q e of = absurd cc
blk_job plan trace UartDriver q e of = absurd cc
blk_job plan trace SerialReceiver q e of = absurd cc
blk_job plan trace SerialSender q e of = absurd cc
blk_job plan trace (SerialClient c) q e of = absurd cc
blk_job plan trace DiskDevice q e of = of
blk_job plan trace DiskDriver q e of = of
blk_job plan trace BlkVirtualiser q e of = of
blk_job plan trace (BlkClient c) q e of = of.0

pub no_block : (plan : Plan) (trace : Trace) (actors : List Actor) → Valid plan → AreCast plan trace actors → plan.blk ≡ None → HasNoBlock (map part_of actors)
no_block plan trace actors valid made none k q at =
    let one = job_of plan trace actors valid made k (BlockPart q) at (λ r e. cc) in
    let has = blk_job plan trace one.0 q one.2 (job_is_of plan one.0 k one.1) in
    none_there has
  where
    none_there : HasBlk plan → ⊥
    none_there (blk, is) = absurd cc
