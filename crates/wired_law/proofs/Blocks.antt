-- A cast that has the whole block class at the layout's queues: nothing comes out of turn at its
-- actors, and what its clients put.
use Rattle.std.proofs.Common.{◌≡◌, ◌⊎◌, ◌+◌, ◌*◌, ◌/◌, ◌<◌, ℕ, zero, suc, true, false, refl, Option, Some, None, List, [], ◌∷◌, All, length, map, take, slice_get, inl, inr, sym, ap, ◌∙◌, subst, arith}
use Rattle.std.specs.Option.{option_to_list}
use Rattle.cargo_core.specs.declared.item.Ask.{Ask}
use Rattle.cargo_core.specs.declared.item.Body.{Body}
use Rattle.cargo_core.specs.declared.item.Body.TheVariants as Carried
use Rattle.wire_core.specs.declared.names.QueueRow.{QueueRow}
use Rattle.wire_core.specs.declared.names.QueueId.{QueueId}
use Rattle.wire_core.specs.Deeds.{Cargo, Deed}
use Rattle.wire_core.specs.Ends.{Role, End}
use Rattle.wire_core.specs.Lists.{Passed, nothing_passed, with_deed}
use Rattle.play_core.proofs.Lists.{map_get, map_from, there_is, there_below}
use Rattle.pipe_driver.proofs.Holding.{row_of as driver_row}
use Rattle.pipe_driver.specs.Drivers.{PipesRow}
use Rattle.pipe_driver.specs.Lengths.{two_pipes}
use Rattle.owner_law.specs.Pools.Places.{PoolAt, own_pool}
use Rattle.device_model.specs.declared.disk.DiskDevice.{DiskDevice}
use Rattle.device_model.specs.Disk.Disks.{DiskRow, DiskStandsFor}
use Rattle.device_model.specs.Disk.Serving.{is_stray}
use Rattle.client_programs.specs.Blk.Clients.{BlkClientRow, BlkClientStandsFor, req_queue, resp_queue}
use Rattle.client_programs.specs.declared.blk.BlkClient.{BlkClient}
use Rattle.client_programs.proofs.BlkLemmas.Standing.{row_of as asker_row}
use Rattle.blk_driver.specs.declared.BlkDriver.{BlkDriver}
use Rattle.buffer_kit.specs.Virtualising.{from_queues, to_queues}
use Rattle.blk_virt.specs.Desks.{holders}
use Rattle.blk_virt.specs.declared.requests.Holder.{Holder}
use Rattle.blk_virt.specs.Openings.{IsOutOfTurn}
use Rattle.blk_virt.specs.Requests.{is_bad}
use Rattle.blk_virt.specs.Virtualising.{BlkVirtRow, BlkVirtStandsFor, FitsBlkVirt}
use Rattle.blk_virt.specs.declared.virtualiser.BlkVirt.{BlkVirt}
use Rattle.blk_virt.proofs.Rows.{row_of as server_row}
use Rattle.blk_law.specs.Sheets.Parts.{BlkPart, BlkClient as ClientPart}
use Rattle.blk_law.specs.Sheets.Numbers.{BlkPlace, IsBlkClientOf, disk_at, blk_driver_at, virt_at, blk_client_at}
use Rattle.blk_law.specs.Sheets.Playing.{disk_part, blk_driver_part, virt_part, blk_client_part, DiskInTurn, ClientInTurn}
use Rattle.blk_law.specs.VirtScene.Playing.{BothInTurn}
use Rattle.blk_quiet.specs.Cast.Casting.{holder_of, IsOfPool, IsWhole, IsRequest, AreRequests, IsAskingClient, IsBlkCast, CalmAsk, WildWhole}
use Rattle.blk_quiet.proofs.CastLemmas.Judging.{bad_same}
use Rattle.blk_quiet.proofs.CastLemmas.Numbers.{virt_queues, client_queues, client_pool, sharers_are}
use Rattle.blk_quiet.proofs.CastLemmas.Turning.{responses_few, sector_is, virt_none, virt_in_turn, good_is, disk_none, disk_in_turn}
use Rattle.blk_quiet.proofs.CastLemmas.Clients.{client_like, client_none, client_in_turn, back_own, client_puts}
use Rattle.actor_set.specs.Parts.{Part, BlockPart}
use Rattle.actor_set.specs.Actors.{FitsActor, ActorStandsFor, part_of}
use Rattle.actor_set.specs.declared.disk.Disk.{Disk}
use Rattle.actor_set.specs.declared.actor.Actor.{Actor}
use Rattle.actor_set.specs.declared.actor.Actor.TheVariants as Kinds
use Rattle.actor_set.proofs.LawsLemmas.BlkRows.{disk_row_of}
use Rattle.play_core.specs.Sheets.{Scene}
use Rattle.play_core.specs.Manners.{is_hostile}
use Rattle.play_core.specs.Names.{Wild, wild_in}
use Rattle.actor_set.specs.Laws.Kinds.{hostiles}
use Rattle.actor_set.specs.Laws.Turning.{InTurn}
use Rattle.actor_set.proofs.LawsLemmas.Calm.{manner_at}
use Rattle.wired_law.specs.Wiring.{IsOfBlock, HasBlkIn, HasNoBlock, HasPart, ClientsAsk, AreAtWork}
use Rattle.wired_law.proofs.Acting.{disk_actor, blk_driver_actor, virt_actor, blk_client_actor}
use Rattle.wired_law.proofs.Deeds.{puts_or_takes}

-- a request asks by way of a pool's buffers whether they are told by offsets or by device addresses
other_of : (p q : PoolAt) (b : Body) → p.number ≡ q.number → p.buffers ≡ q.buffers → IsOfPool p b → IsOfPool q b
other_of p q (Carried.Page page) number buffers of = (of.0 ∙ number, subst (λ n. page.no < n) buffers of.1)
other_of p q (Carried.Lease lease) number buffers of = of
other_of p q Carried.Empty number buffers of = of

other_request : (p q : PoolAt) (x : Cargo) → p.number ≡ q.number → p.buffers ≡ q.buffers → IsRequest p x → IsRequest q x
other_request p q x number buffers is = record {
  good = bad_same (holder_of q) (holder_of p) x (sym number) (sym buffers) ∙ is.good;
  whole = is.whole;
  own = other_of p q x.1 number buffers is.own;
}

pub own_requests : (pool : PoolAt) (xs : List Cargo) → AreRequests pool xs → AreRequests (own_pool pool) xs
own_requests pool xs are k x at = other_request pool (own_pool pool) x refl refl (are k x at)

pub requests_own : (pool : PoolAt) (xs : List Cargo) → AreRequests (own_pool pool) xs → AreRequests pool xs
requests_own pool xs are k x at = other_request (own_pool pool) pool x refl refl (are k x at)

-- what one of a kind that is kept has
all_of : (P : Cargo → Type 0) (o : Option Cargo) → ((x : Cargo) → o ≡ Some x → P x) → All P (option_to_list o)
all_of P None some k d lt = absurd (omega (arith, lt))
all_of P (Some x) some zero d lt = some x refl
all_of P (Some x) some (suc k) d lt = absurd (omega (arith, lt))

none_of : (o : Option Cargo) → option_to_list o ≡ [] → o ≡ None
none_of None e = refl
none_of (Some x) e = absurd cc

-- each of a list has what each entry of it has
all_from : (P : Cargo → Type 0) (xs : List Cargo) → ((k : ℕ) (x : Cargo) → slice_get xs k ≡ Some x → P x) → All P xs
all_from P (x ∷ xs) has zero d lt = has 0 x refl
all_from P (x ∷ xs) has (suc k) d lt = all_from P xs (λ j y at. has (suc j) y at) k d (omega (arith, lt))
all_from P [] has k d lt = absurd (omega (arith, lt))

-- an actor of the class isn't hostile
pub calm_block : (cast : List Part) (k : ℕ) (p : BlkPart) → slice_get cast k ≡ Some (BlockPart p) → hostiles cast k ≡ false
calm_block cast k p at = ap is_hostile (manner_at cast k (BlockPart p) at)

-- what a part is where it is one of the block class's
pub disk_is : (place : BlkPlace) (start : List ℕ) (d : DiskDevice) → IsOfBlock place (disk_part start d) → disk_part start d ≡ disk_at place
disk_is place start d (inl e) = e
disk_is place start d (inr (inl e)) = absurd cc
disk_is place start d (inr (inr (inl e))) = absurd cc
disk_is place start d (inr (inr (inr k))) = let e = k.5 in absurd cc

pub virt_is : (place : BlkPlace) (v : BlkVirt) → IsOfBlock place (virt_part v) → virt_part v ≡ virt_at place
virt_is place v (inl e) = absurd cc
virt_is place v (inr (inl e)) = absurd cc
virt_is place v (inr (inr (inl e))) = e
virt_is place v (inr (inr (inr k))) = let e = k.5 in absurd cc

client_is : (place : BlkPlace) (req resp : ℕ) (asks : List Ask) (pool : PoolAt) → IsOfBlock place (ClientPart req resp asks pool) → (k entry : ℕ) × (a : List Ask) × (q : PoolAt) × IsBlkClientOf place k entry a q × (ClientPart req resp asks pool ≡ blk_client_at place.first k a q)
client_is place req resp asks pool (inl e) = absurd cc
client_is place req resp asks pool (inr (inl e)) = absurd cc
client_is place req resp asks pool (inr (inr (inl e))) = absurd cc
client_is place req resp asks pool (inr (inr (inr k))) = k

-- no hostile actor has an end of a client's queue of requests
abbrev pub NoneAsksWild : Wild → BlkPlace → Type 0
NoneAsksWild wild place = (k : ℕ) → k < length place.entries → wild (place.first + 4 + 2 * k) ≡ false

module _ (scene : Scene) (ends : Role → ℕ → End) (rows : List QueueRow) (actors : List Actor) (passed : Passed) (work : AreAtWork ends rows actors passed) where
  abbrev cast : List Part
  cast = map part_of actors

  abbrev wild : Wild
  wild = wild_in (hostiles cast) rows

  actor_of : (p : Part) → HasPart cast p → (x : Actor) × (part_of x ≡ p) × FitsActor ends x × ActorStandsFor x passed
  actor_of p has = let x = map_from part_of actors has.0 p has.1 in (x.0, x.2, work.fits has.0 x.0 x.1, work.stands has.0 x.0 x.1)

  module _ (place : BlkPlace) (has : HasBlkIn scene rows place cast) where
    disk_there : (d : Disk) × (disk_part d.start.value d.device ≡ disk_at place) × DiskRow d.start.value d.device passed
    disk_there =
        let x = actor_of (BlockPart (disk_at place)) has.disk in
        let d = disk_actor place x.0 x.1 in
        (d.0, d.2, disk_row_of d.0.start.value d.0.device passed (subst (λ a. ActorStandsFor a passed) d.1 x.3))

    driver_there : (d : BlkDriver) × (blk_driver_part (two_pipes d.driver.pipes) ≡ blk_driver_at place.first) × PipesRow (two_pipes d.driver.pipes) passed
    driver_there =
        let x = actor_of (BlockPart (blk_driver_at place.first)) has.driver in
        let d = blk_driver_actor place.first x.0 x.1 in
        (d.0, d.2, driver_row (two_pipes d.0.driver.pipes) passed (subst (λ a. ActorStandsFor a passed) d.1 x.3))

    virt_there : (v : BlkVirt) × (virt_part v ≡ virt_at place) × FitsBlkVirt ends v × BlkVirtRow v passed
    virt_there =
        let x = actor_of (BlockPart (virt_at place)) has.virt in
        let v = virt_actor place x.0 x.1 in
        let fits : FitsActor ends (Kinds.BlkVirt v.0) = subst (FitsActor ends) v.1 x.2 in
        (v.0, v.2, fits.0, server_row v.0 passed (subst (λ a. ActorStandsFor a passed) v.1 x.3))

    client_there : (k : ℕ) (asks : List Ask) (pool : PoolAt) → HasPart cast (BlockPart (blk_client_at place.first k asks pool)) → (c : BlkClient) × IsAskingClient place k asks pool c passed
    client_there k asks pool there =
        let x = actor_of (BlockPart (blk_client_at place.first k asks pool)) there in
        let c = blk_client_actor place.first k asks pool x.0 x.1 in
        (c.0, record { part = c.2; row = asker_row c.0 passed (subst (λ a. ActorStandsFor a passed) c.1 x.3) })

    pub start_is : (d : Disk) → disk_part d.start.value d.device ≡ disk_at place → d.start.value ≡ place.image
    start_is d part = cc

    -- the class with this disk and this virtualiser
    cast_with : (d : Disk) → disk_part d.start.value d.device ≡ disk_at place → DiskRow d.start.value d.device passed → (v : BlkVirt) → virt_part v ≡ virt_at place → FitsBlkVirt ends v → BlkVirtRow v passed → IsBlkCast place passed
    cast_with d part row v v_part fits v_row = record {
      asks_many = has.asks_many;
      pools_many = has.pools_many;
      hands_over = work.hands_over;
      requests = λ j x at. let r = has.requests in work.kinds (place.first + 2) r.0 r.1 j x at ∙ r.2;
      disk = d.device;
      disk_is = subst (λ s. disk_part s d.device ≡ disk_at place) (start_is d part) part;
      disk_row = subst (λ s. DiskRow s d.device passed) (start_is d part) row;
      driver = driver_there.0.driver.pipes;
      driver_is = driver_there.1;
      driver_row = driver_there.2;
      virt = v;
      virt_is = v_part;
      virt_row = v_row;
      from_each = fits.from_each;
      to_each = fits.to_each;
      apart = fits.work.desk.apart;
      blocks = has.blocks;
      some_blocks = has.some_blocks;
      image_long = has.image_long;
      some = has.some;
    }

    pub class_there : IsBlkCast place passed
    class_there = let d = disk_there in let v = virt_there in cast_with d.0 d.1 d.2 v.0 v.1 v.2 v.3

    -- what the clients put, by their numbers
    all_ask : ClientsAsk cast passed → CalmAsk wild place passed
    all_ask ask k pool at calm =
        let below = there_below place.pools k pool at in
        let pools_many = has.pools_many in
        let asks_many = has.asks_many in
        let entry = there_is place.entries k (omega (arith, below, pools_many)) in
        let asks = there_is place.asks k (omega (arith, below, pools_many, asks_many)) in
        let of : IsBlkClientOf place k entry.0 asks.0 pool = record { has_entry = entry.1; has_asks = asks.1; has_pool = at } in
        let there = has.client k entry.0 asks.0 pool of calm in
        requests_own pool (passed.sent (place.first + 4 + 2 * k)) (ask there.0 (place.first + 4 + 2 * k) (place.first + 5 + 2 * k) asks.0 (own_pool pool) (calm_block cast there.0 (blk_client_at place.first k asks.0 pool) there.1) there.1)

    pub disk_turns : ClientsAsk cast passed → WildWhole wild place passed → (k : ℕ) (d : Disk) → slice_get actors k ≡ Some (Kinds.DiskDevice d) → DiskStandsFor d.start.value d.device passed → DiskInTurn d.start.value d.device passed
    unfolding cast_with
    disk_turns ask whole k d at stands =
        let part = disk_is place d.start.value d.device (has.only k (disk_part d.start.value d.device) (map_get part_of actors k (Kinds.DiskDevice d) at)) in
        let row = disk_row_of d.start.value d.device passed stands in
        let v = virt_there in
        let class = cast_with d part row v.0 v.1 v.2 v.3 in
        let turn : (row : DiskRow d.start.value d.device passed) → row.stray ≡ [] = subst (λ s. (row : DiskRow s d.device passed) → row.stray ≡ []) (sym (start_is d part)) (disk_in_turn place passed class wild (all_ask ask) whole) in
        record { free = none_of d.device.stray (disk_none place passed class wild (all_ask ask) whole stands.requests (option_to_list d.device.stray) stands.taken (all_of (λ (x : Cargo). is_stray place.image x ≡ true) d.device.stray (λ x e. ap (λ s. is_stray s x) (sym (start_is d part)) ∙ stands.out_of_turn x e))); in_turn = turn }

    pub virt_turns : ClientsAsk cast passed → (k : ℕ) (v : BlkVirt) → slice_get actors k ≡ Some (Kinds.BlkVirt v) → FitsActor ends (Kinds.BlkVirt v) → BlkVirtStandsFor v passed → BothInTurn wild scene.image v passed
    unfolding cast_with
    virt_turns ask k v at fits stands =
        let part = virt_is place v (has.only k (virt_part v) (map_get part_of actors k (Kinds.BlkVirt v) at)) in
        let row = server_row v passed stands in
        let d = disk_there in
        let class = cast_with d.0 d.1 d.2 v part fits.0 row in
        let own = virt_queues place v part in
        let turn : (row : BlkVirtRow v passed) → row.stray ≡ [] = virt_in_turn place passed class in
        record {
          free = none_of v.work.stray (virt_none place passed class stands.back (option_to_list v.work.stray) stands.taken (all_of (IsOutOfTurn (passed.sent v.ends.output.queue.0) stands.back) v.work.stray stands.stray));
          in_turn = turn;
          answered = responses_few place passed class;
          sector = λ y y_at. sector_is place passed class y y_at ∙ ap (take 512) (sym has.image_is);
          sectors = own.2 ∙ ap (λ (l : List ℕ). length l / 512) (sym has.image_is);
          good = λ j h q h_at q_at calm. all_from (λ (x : Cargo). is_bad h x ≡ false) (passed.taken q.0) (good_is place passed class wild (all_ask ask) j h q h_at q_at calm);
          apart = fits.0.work.desk.apart;
          from_each = fits.0.from_each;
          to_each = fits.0.to_each;
        }

    -- the client's number and what it is told
    client_of : (k : ℕ) (c : BlkClient) → slice_get actors k ≡ Some (Kinds.BlkClient c) → (j entry : ℕ) × (asks : List Ask) × (pool : PoolAt) × IsBlkClientOf place j entry asks pool × (blk_client_part c ≡ blk_client_at place.first j asks pool)
    client_of k c at = client_is place (req_queue c) (resp_queue c) c.asking.script.items _ (has.only k (blk_client_part c) (map_get part_of actors k (Kinds.BlkClient c) at))

    pub client_turns : (k : ℕ) (c : BlkClient) → slice_get actors k ≡ Some (Kinds.BlkClient c) → BlkClientStandsFor c passed → ClientInTurn c passed
    client_turns k c at stands =
        let is = client_of k c at in
        let row = asker_row c passed stands in
        let own = client_queues place.first is.0 is.2 is.3 c is.5 in
        let many = (client_pool place.first is.0 is.2 is.3 c is.5).1 in
        let some = has.some is.0 is.3 is.4.has_pool in
        let client : IsAskingClient place is.0 is.2 is.3 c passed = record { part = is.5; row = row } in
        let turn : (row : BlkClientRow c passed) → row.stray ≡ [] = client_in_turn place passed class_there is.0 is.1 is.2 is.3 is.4 c client in
        record {
          some = omega (arith, many, some);
          free = none_of c.stray (client_none place passed class_there is.0 is.1 is.2 is.3 is.4 c client stands.came (option_to_list c.stray) stands.taken stands.no_request);
          in_turn = turn;
          brings = λ j x y x_at y_at. (client_like place passed class_there is.0 is.1 is.2 is.3 is.4 j x y (ap (λ n. slice_get (passed.sent n) j) (sym own.0) ∙ x_at) (ap (λ n. slice_get (passed.taken n) j) (sym own.1) ∙ y_at)).0;
        }

    -- where no client is hostile, nothing comes out of turn at any actor of the class, whoever else is
    module _ (ask : ClientsAsk cast passed) (none : NoneAsksWild wild place) where
      virt_calm : (v : BlkVirt) → virt_part v ≡ virt_at place → FitsBlkVirt ends v → (k : ℕ) (h : Holder) (q : QueueId) → slice_get (holders v.work.desk) k ≡ Some h → slice_get (from_queues v.ends) k ≡ Some q → wild q.0 ≡ false
      virt_calm v part fits k h q h_at q_at =
          let to_each = fits.to_each in
          let below = there_below (holders v.work.desk) k h h_at in
          let r = there_is (to_queues v.ends) k (omega (arith, below, to_each)) in
          let own = virt_queues place v part in
          let x = (sharers_are place.first 0 (holders v.work.desk) place.entries place.pools (from_queues v.ends) (to_queues v.ends) fits.from_each fits.to_each has.pools_many own.3).1 k h q r.0 h_at q_at r.1 in
          let plus : 0 + k ≡ k = omega arith in
          ap wild (x.4.2 ∙ ap (λ n. place.first + 4 + 2 * n) plus) ∙ none k (there_below place.entries k x.0 x.2)

      pub blk_turns : (k : ℕ) (x : Actor) → slice_get actors k ≡ Some x → (p : BlkPart) → part_of x ≡ BlockPart p → IsOfBlock place p → InTurn scene x passed
      blk_turns k x at p part (inl e) =
          let d = disk_actor place x (part ∙ ap (λ q. BlockPart q) e) in
          let here = at ∙ ap (λ a. Some a) d.1 in
          subst (λ a. InTurn scene a passed) (sym d.1) (disk_turns ask (λ j pool j_at is_wild. let calm = none j (let below = there_below place.pools j pool j_at in let many = has.pools_many in omega (arith, below, many)) in absurd cc) k d.0 here (work.stands k (Kinds.DiskDevice d.0) here))
      blk_turns k x at p part (inr (inl e)) = let d = blk_driver_actor place.first x (part ∙ ap (λ q. BlockPart q) e) in subst (λ a. InTurn scene a passed) (sym d.1) tt
      blk_turns k x at p part (inr (inr (inl e))) =
          let v = virt_actor place x (part ∙ ap (λ q. BlockPart q) e) in
          let here = at ∙ ap (λ a. Some a) v.1 in
          let fits = work.fits k (Kinds.BlkVirt v.0) here in
          let both = virt_turns ask k v.0 here fits (work.stands k (Kinds.BlkVirt v.0) here) in
          let turn : InTurn scene (Kinds.BlkVirt v.0) passed = record {
            free = both.free;
            in_turn = both.in_turn;
            answered = both.answered;
            sector = both.sector;
            sectors = both.sectors;
            good = λ j h q h_at q_at. both.good j h q h_at q_at (virt_calm v.0 v.2 fits.0 j h q h_at q_at);
            apart = both.apart;
            from_each = both.from_each;
            to_each = both.to_each;
          } in
          subst (λ a. InTurn scene a passed) (sym v.1) turn
      blk_turns k x at p part (inr (inr (inr j))) =
          let c = blk_client_actor place.first j.0 j.2 j.3 x (part ∙ ap (λ q. BlockPart q) j.5) in
          let here = at ∙ ap (λ a. Some a) c.1 in
          subst (λ a. InTurn scene a passed) (sym c.1) (client_turns k c.0 here (work.stands k (Kinds.BlkClient c.0) here))

    -- what came back to a client is its own
    pub back_asked : (k entry : ℕ) (asks : List Ask) (pool : PoolAt) → IsBlkClientOf place k entry asks pool → AreRequests pool (passed.sent (place.first + 4 + 2 * k)) → (j : ℕ) (y : Cargo) → slice_get (passed.taken (place.first + 5 + 2 * k)) j ≡ Some y → IsOfPool pool y.1 × IsWhole y.1
    back_asked k entry asks pool of = back_own place passed class_there k entry asks pool of

    -- and then what it puts are requests in its own buffers
    pub puts_asked : (k entry : ℕ) (asks : List Ask) (pool : PoolAt) → IsBlkClientOf place k entry asks pool → HasPart cast (BlockPart (blk_client_at place.first k asks pool)) → ((j : ℕ) (y : Cargo) → slice_get (passed.taken (place.first + 5 + 2 * k)) j ≡ Some y → IsOfPool pool y.1 × IsWhole y.1) → AreRequests pool (passed.sent (place.first + 4 + 2 * k))
    puts_asked k entry asks pool of there =
        let c = client_there k asks pool there in
        client_puts place passed class_there k entry asks pool of c.0 c.1

  -- where there is none of the class, or the whole class
  pub disk_by : HasNoBlock cast ⊎ ((place : BlkPlace) × HasBlkIn scene rows place cast) → ClientsAsk cast passed → ((place : BlkPlace) → WildWhole wild place passed) → (k : ℕ) (d : Disk) → slice_get actors k ≡ Some (Kinds.DiskDevice d) → DiskInTurn d.start.value d.device passed
  disk_by (inl none) ask whole k d at = absurd (none k (disk_part d.start.value d.device) (map_get part_of actors k (Kinds.DiskDevice d) at))
  disk_by (inr p) ask whole k d at = disk_turns p.0 p.1 ask (whole p.0) k d at (work.stands k (Kinds.DiskDevice d) at)

  pub virt_by : HasNoBlock cast ⊎ ((place : BlkPlace) × HasBlkIn scene rows place cast) → ClientsAsk cast passed → (k : ℕ) (v : BlkVirt) → slice_get actors k ≡ Some (Kinds.BlkVirt v) → BothInTurn wild scene.image v passed
  virt_by (inl none) ask k v at = absurd (none k (virt_part v) (map_get part_of actors k (Kinds.BlkVirt v) at))
  virt_by (inr p) ask k v at = virt_turns p.0 p.1 ask k v at (work.fits k (Kinds.BlkVirt v) at) (work.stands k (Kinds.BlkVirt v) at)

  pub client_by : HasNoBlock cast ⊎ ((place : BlkPlace) × HasBlkIn scene rows place cast) → (k : ℕ) (c : BlkClient) → slice_get actors k ≡ Some (Kinds.BlkClient c) → ClientInTurn c passed
  client_by (inl none) k c at = absurd (none k (blk_client_part c) (map_get part_of actors k (Kinds.BlkClient c) at))
  client_by (inr p) k c at = client_turns p.0 p.1 k c at (work.stands k (Kinds.BlkClient c) at)

-- nothing was put at the start
pub nothing_asked : (cast : List Part) → ClientsAsk cast nothing_passed
nothing_asked cast k req resp asks pool calm at j c there = cc

-- a client's requests after one more call: where it puts one, nothing came back to it in this call
module _ (scene : Scene) (ends ends' : Role → ℕ → End) (rows : List QueueRow) (actors actors' : List Actor) (passed : Passed) (deed : Deed) (same : map part_of actors' ≡ map part_of actors) (work : AreAtWork ends rows actors passed) (ask : ClientsAsk (map part_of actors) passed) (later : AreAtWork ends' rows actors' (with_deed passed deed)) where
  module _ (place : BlkPlace) (has : HasBlkIn scene rows place (map part_of actors)) where
    client_asks_on : (k entry : ℕ) (asks : List Ask) (pool : PoolAt) → IsBlkClientOf place k entry asks pool → HasPart (map part_of actors) (BlockPart (blk_client_at place.first k asks pool)) → AreRequests pool (passed.sent (place.first + 4 + 2 * k)) → AreRequests pool ((with_deed passed deed).sent (place.first + 4 + 2 * k))
    client_asks_on k entry asks pool of there old = by (puts_or_takes passed deed)
      where
        by : ((n : ℕ) → (with_deed passed deed).sent n ≡ passed.sent n) ⊎ ((n : ℕ) → (with_deed passed deed).taken n ≡ passed.taken n) → AreRequests pool ((with_deed passed deed).sent (place.first + 4 + 2 * k))
        by (inl still) = subst (AreRequests pool) (sym (still (place.first + 4 + 2 * k))) old
        by (inr still) =
            let back = back_asked scene ends rows actors passed work place has k entry asks pool of old in
            puts_asked scene ends' rows actors' (with_deed passed deed) later place (subst (HasBlkIn scene rows place) (sym same) has) k entry asks pool of (subst (λ c. HasPart c (BlockPart (blk_client_at place.first k asks pool))) (sym same) there)
            (λ j y at. back j y (ap (λ l. slice_get l j) (sym (still (place.first + 5 + 2 * k))) ∙ at))

    pub class_asks_on : ClientsAsk (map part_of actors) (with_deed passed deed)
    class_asks_on k req resp asks pool calm at =
        let is = client_is place req resp asks pool (has.only k (ClientPart req resp asks pool) at) in
        let e = is.5 in
        let there : HasPart (map part_of actors) (BlockPart (blk_client_at place.first is.0 is.2 is.3)) = (k, at ∙ ap (λ p. Some (BlockPart p)) e) in
        let queue : req ≡ place.first + 4 + 2 * is.0 = cc in
        let own : pool ≡ own_pool is.3 = cc in
        let now = ask k req resp asks pool calm at in
        let old = requests_own is.3 (passed.sent (place.first + 4 + 2 * is.0)) (subst (λ p. AreRequests p (passed.sent (place.first + 4 + 2 * is.0))) own (subst (λ n. AreRequests pool (passed.sent n)) queue now)) in
        let new = own_requests is.3 ((with_deed passed deed).sent (place.first + 4 + 2 * is.0)) (client_asks_on is.0 is.1 is.2 is.3 is.4 there old) in
        subst (λ n. AreRequests pool ((with_deed passed deed).sent n)) (sym queue) (subst (λ p. AreRequests p ((with_deed passed deed).sent (place.first + 4 + 2 * is.0))) (sym own) new)

  pub asks_by : HasNoBlock (map part_of actors) ⊎ ((place : BlkPlace) × HasBlkIn scene rows place (map part_of actors)) → ClientsAsk (map part_of actors) (with_deed passed deed)
  asks_by (inl none) = λ k req resp asks pool calm at. absurd (none k (ClientPart req resp asks pool) at)
  asks_by (inr p) = class_asks_on p.0 p.1
