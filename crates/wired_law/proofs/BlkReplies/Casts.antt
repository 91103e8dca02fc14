-- A client's record in a cast that has the whole block class.
use Rattle.std.proofs.Common.{◌≡◌, ◌+◌, ◌*◌, ℕ, Some, List, map, slice_get, inl, inr, sym, ap, ◌∙◌, subst, arith}
use Rattle.cargo_core.specs.Lists.{IsPrefix}
use Rattle.cargo_core.specs.declared.item.Ask.{Ask}
use Rattle.wire_core.specs.declared.names.QueueRow.{QueueRow}
use Rattle.wire_core.specs.Ends.{Role, End}
use Rattle.wire_core.specs.Lists.{Passed}
use Rattle.play_core.proofs.Lists.{some_is, map_get, map_from}
use Rattle.pipe_driver.proofs.Holding.{row_of as driver_row}
use Rattle.pipe_driver.specs.Drivers.{PipesRow}
use Rattle.pipe_driver.specs.Lengths.{two_pipes}
use Rattle.owner_law.specs.Pools.Places.{PoolAt, own_pool}
use Rattle.device_model.specs.Disk.Disks.{DiskRow}
use Rattle.client_programs.specs.Blk.Clients.{req_queue, resp_queue}
use Rattle.client_programs.specs.declared.blk.BlkClient.{BlkClient}
use Rattle.client_programs.proofs.BlkLemmas.Standing.{row_of as asker_row}
use Rattle.blk_driver.specs.declared.BlkDriver.{BlkDriver}
use Rattle.class_expect.specs.BlkExpect.Replies.{replies_of}
use Rattle.blk_virt.specs.Virtualising.{BlkVirtRow, FitsBlkVirt}
use Rattle.blk_virt.specs.declared.virtualiser.BlkVirt.{BlkVirt}
use Rattle.blk_virt.proofs.Rows.{row_of as server_row}
use Rattle.blk_law.specs.Sheets.Parts.{BlkClient as ClientPart}
use Rattle.blk_law.specs.Sheets.Numbers.{BlkPlace, IsBlkClientOf, disk_at, blk_driver_at, virt_at, blk_client_at}
use Rattle.blk_law.specs.Sheets.Playing.{disk_part, blk_driver_part, virt_part, blk_client_part}
use Rattle.blk_quiet.specs.Cast.Casting.{IsAskingClient, IsBlkCast}
use Rattle.blk_quiet.proofs.CastLemmas.Numbers.{client_queues}
use Rattle.actor_set.specs.Parts.{Part, BlockPart}
use Rattle.actor_set.specs.Actors.{FitsActor, ActorStandsFor, part_of}
use Rattle.actor_set.specs.declared.disk.Disk.{Disk}
use Rattle.actor_set.specs.declared.actor.Actor.{Actor}
use Rattle.actor_set.specs.declared.actor.Actor.TheVariants as Kinds
use Rattle.actor_set.specs.Laws.Records.{replies_got}
use Rattle.actor_set.proofs.LawsLemmas.BlkRows.{disk_row_of}
use Rattle.play_core.specs.Sheets.{Scene}
use Rattle.wired_law.specs.Wiring.{IsOfBlock, HasBlkIn, HasPart, ClientsSendIn, AreAtWork}
use Rattle.wired_law.proofs.Acting.{disk_actor, blk_driver_actor, virt_actor, blk_client_actor}
use Rattle.wired_law.proofs.Blocks.{calm_block, requests_own}
use Rattle.wired_law.proofs.BlkReplies.Clients.{client_recorded}

-- a client of the class is one of its place
client_is : (place : BlkPlace) (req resp : ℕ) (asks : List Ask) (pool : PoolAt) → IsOfBlock place (ClientPart req resp asks pool) → (k entry : ℕ) × (a : List Ask) × (q : PoolAt) × IsBlkClientOf place k entry a q × (ClientPart req resp asks pool ≡ blk_client_at place.first k a q)
client_is place req resp asks pool (inl e) = absurd cc
client_is place req resp asks pool (inr (inl e)) = absurd cc
client_is place req resp asks pool (inr (inr (inl e))) = absurd cc
client_is place req resp asks pool (inr (inr (inr k))) = k

module _ (scene : Scene) (ends : Role → ℕ → End) (rows : List QueueRow) (actors : List Actor) (passed : Passed) (place : BlkPlace) (has : HasBlkIn scene rows place (map part_of actors)) (work : AreAtWork ends rows actors passed) where
  abbrev cast : List Part
  cast = map part_of actors

  actor_of : (p : Part) → HasPart cast p → (x : Actor) × (part_of x ≡ p) × FitsActor ends x × ActorStandsFor x passed
  actor_of p there = let x = map_from part_of actors there.0 p there.1 in (x.0, x.2, work.fits there.0 x.0 x.1, work.stands there.0 x.0 x.1)

  disk_there : (d : Disk) × (disk_part d.start.value d.device ≡ disk_at place) × DiskRow d.start.value d.device passed
  disk_there =
      let x = actor_of (BlockPart (disk_at place)) has.disk in
      let d = disk_actor place x.0 x.1 in
      (d.0, d.2, disk_row_of d.0.start.value d.0.device passed (subst (λ a. ActorStandsFor a passed) d.1 x.3))

  driver_there : (d : BlkDriver) × (blk_driver_part (two_pipes d.driver.pipes) ≡ blk_driver_at place.first) × PipesRow (two_pipes d.driver.pipes) passed
  driver_there =
      let x = actor_of (BlockPart (blk_driver_at place.first)) has.driver in
      let d = blk_driver_actor place.first x.0 x.1 in
      (d.0, d.2, driver_row (two_pipes d.0.driver.pipes) passed (subst (λ a. ActorStandsFor a passed) d.1 x.3))

  virt_there : (v : BlkVirt) × (virt_part v ≡ virt_at place) × FitsBlkVirt ends v × BlkVirtRow v passed
  virt_there =
      let x = actor_of (BlockPart (virt_at place)) has.virt in
      let v = virt_actor place x.0 x.1 in
      let fits : FitsActor ends (Kinds.BlkVirt v.0) = subst (FitsActor ends) v.1 x.2 in
      (v.0, v.2, fits.0, server_row v.0 passed (subst (λ a. ActorStandsFor a passed) v.1 x.3))

  start_is : (d : Disk) → disk_part d.start.value d.device ≡ disk_at place → d.start.value ≡ place.image
  start_is d part = cc

  class_with : (d : Disk) → disk_part d.start.value d.device ≡ disk_at place → DiskRow d.start.value d.device passed → (v : BlkVirt) → virt_part v ≡ virt_at place → FitsBlkVirt ends v → BlkVirtRow v passed → IsBlkCast place passed
  class_with d part row v v_part fits v_row = record {
    asks_many = has.asks_many;
    pools_many = has.pools_many;
    hands_over = work.hands_over;
    requests = λ j x at. let r = has.requests in work.kinds (place.first + 2) r.0 r.1 j x at ∙ r.2;
    disk = d.device;
    disk_is = subst (λ s. disk_part s d.device ≡ disk_at place) (start_is d part) part;
    disk_row = subst (λ s. DiskRow s d.device passed) (start_is d part) row;
    driver = driver_there.0.driver.pipes;
    driver_is = driver_there.1;
    driver_row = driver_there.2;
    virt = v;
    virt_is = v_part;
    virt_row = v_row;
    from_each = fits.from_each;
    to_each = fits.to_each;
    apart = fits.work.desk.apart;
    blocks = has.blocks;
    some_blocks = has.some_blocks;
    image_long = has.image_long;
    some = has.some;
  }

  -- the class at the layout's queues
  class : IsBlkCast place passed
  class = let d = disk_there in let v = virt_there in class_with d.0 d.1 d.2 v.0 v.1 v.2 v.3

  -- a client's number and what it is told
  client_of : (k : ℕ) (c : BlkClient) → slice_get actors k ≡ Some (Kinds.BlkClient c) → (j entry : ℕ) × (asks : List Ask) × (pool : PoolAt) × IsBlkClientOf place j entry asks pool × (blk_client_part c ≡ blk_client_at place.first j asks pool)
  client_of k c at = client_is place (req_queue c) (resp_queue c) c.asking.script.items _ (has.only k (blk_client_part c) (map_get part_of actors k (Kinds.BlkClient c) at))

pub replied : {scene : Scene} (ends : Role → ℕ → End) (rows : List QueueRow) (actors : List Actor) (passed : Passed) (place : BlkPlace) → HasBlkIn scene rows place (map part_of actors) → AreAtWork ends rows actors passed → ClientsSendIn scene rows (map part_of actors) passed → (k c : ℕ) (x : Actor) (asks : List Ask) (pool : PoolAt) (entry : ℕ) → slice_get actors k ≡ Some x → part_of x ≡ BlockPart (blk_client_at place.first c asks pool) → slice_get place.entries c ≡ Some entry → slice_get place.asks c ≡ Some asks → IsPrefix (replies_got x) (replies_of place.image entry asks)
replied {scene} ends rows actors passed place has work sends k c x asks pool entry at part entry_at asks_at =
    let d = blk_client_actor place.first c asks pool x part in
    let here : slice_get actors k ≡ Some (Kinds.BlkClient d.0) = at ∙ ap Some d.1 in
    let is = client_of scene ends rows actors passed place has work k d.0 here in
    let row = asker_row d.0 passed (subst (λ a. ActorStandsFor a passed) d.1 (work.stands k x at)) in
    let client : IsAskingClient place is.0 is.2 is.3 d.0 passed = record { part = is.5; row = row } in
    let one = client_queues place.first c asks pool d.0 d.2 in
    let two = client_queues place.first is.0 is.2 is.3 d.0 is.5 in
    let a = one.0 in
    let b = two.0 in
    let number : is.0 ≡ c = omega (arith, a, b) in
    let entry_is : is.1 ≡ entry = some_is (sym is.4.has_entry ∙ (ap (slice_get place.entries) number ∙ entry_at)) in
    let asks_is : is.2 ≡ asks = sym two.2 ∙ one.2 in
    let shown = d.0.asking.kept.shown in
    let there : slice_get (map part_of actors) k ≡ Some (BlockPart (blk_client_at place.first is.0 is.2 is.3)) = map_get part_of actors k (Kinds.BlkClient d.0) here ∙ ap (λ p. Some (BlockPart p)) is.5 in
    let put = sends.requests k (place.first + 4 + 2 * is.0) (place.first + 5 + 2 * is.0) is.2 (own_pool is.3) (calm_block (map part_of actors) k (blk_client_at place.first is.0 is.2 is.3) there) there in
    let ask = requests_own is.3 (passed.sent (place.first + 4 + 2 * is.0)) put in
    let recorded : IsPrefix shown (replies_of place.image is.1 is.2) = client_recorded place passed (class scene ends rows actors passed place has work) is.0 is.1 is.2 is.3 is.4 ask has.apart (has.sized is.0 is.2 is.4.has_asks) d.0 client in
    let of_asks : IsPrefix shown (replies_of place.image is.1 asks) = subst (λ l. IsPrefix shown (replies_of place.image is.1 l)) asks_is recorded in
    let of_entry : IsPrefix shown (replies_of place.image entry asks) = subst (λ n. IsPrefix shown (replies_of place.image n asks)) entry_is of_asks in
    subst (λ l. IsPrefix l (replies_of place.image entry asks)) (sym (ap replies_got d.1)) of_entry
