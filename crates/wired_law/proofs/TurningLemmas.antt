-- What comes in turn in a cast whatever its clients put, where each buffer is there once and has its
-- pool's length.
use Rattle.std.proofs.Common.{◌≡◌, ◌⊎◌, ◌+◌, ◌++◌, ◌<◌, ◌≤◌, ℕ, true, false, Option, Some, None, List, [], ◌∷◌, All, append-nil, length, map, slice_get, inl, inr, refl, sym, ap, ◌∙◌, subst, arith}
use Rattle.std.specs.Option.{option_to_list}
use Rattle.std.proofs.lemmas.List.Elements.{All-cons, All-nil}
use Rattle.cargo_core.specs.Blocks.{blk_buffer_bytes}
use Rattle.cargo_core.specs.declared.item.Body.TheVariants as Carried
use Rattle.wire_core.specs.declared.names.QueueRow.{QueueRow}
use Rattle.wire_core.specs.Deeds.{Cargo}
use Rattle.wire_core.specs.Ends.{Role, End}
use Rattle.wire_core.specs.Lists.{Passed}
use Rattle.turn_kit.specs.Hands.{bodies_of}
use Rattle.turn_kit.specs.declared.pipe.Pipe.{Pipe}
use Rattle.play_core.specs.Names.{Wild}
use Rattle.play_core.specs.Sheets.{Scene}
use Rattle.play_core.proofs.Lists.{map_get, map_from, there_below}
use Rattle.pipe_driver.specs.Drivers.{PipesStandFor, pipes_hand}
use Rattle.pipe_driver.specs.declared.pipes.Pipes.{Pipes}
use Rattle.eth_driver.specs.Four.{four_pipes}
use Rattle.eth_driver.specs.declared.EthDriver.{EthDriver}
use Rattle.device_model.specs.Ethernet.Devices.{DeviceStandsFor}
use Rattle.device_model.specs.declared.ethernet.EthDevice.{EthDevice}
use Rattle.device_model.specs.Disk.Disks.{DiskRow, DiskStandsFor, req}
use Rattle.device_model.specs.Disk.Serving.{is_stray}
use Rattle.buffer_kit.specs.Conserving.{Count, counted, of_other_length, the_page, weighed}
use Rattle.buffer_kit.proofs.Conserving.{counted-append, weighed-append}
use Rattle.wired_law.specs.PageLaw.Holders.{HasLength, HaveLength, queue_has, standing}
use Rattle.wired_law.specs.PageLaw.Paths.{AreGood, AreOnce, IsWay, on_way}
use Rattle.wired_law.proofs.PageLaw.LawLemmas.Lengths.{have_length}
use Rattle.wired_law.proofs.PageLaw.LawLemmas.Parts.{four_below, one_of, three_of}
use Rattle.wired_law.proofs.PageLaw.TurnsLemmas.Turning.{back_good, in_turn}
use Rattle.net_virt_tx.specs.Sending.{FitsTx, TxRow, TxStandsFor}
use Rattle.net_virt_tx.specs.Serving.{is_good_of, own_of}
use Rattle.net_virt_tx.specs.declared.NetVirtTx.{NetVirtTx}
use Rattle.net_virt_tx.specs.declared.client.Client.{Client}
use Rattle.net_virt_tx.specs.declared.descriptors.Sender.{Sender}
use Rattle.net_law.proofs.PartsLemmas.Items.{all_at}
use Rattle.net_law.specs.Parts.Numbers.{device_at, driver_at}
use Rattle.net_law.specs.Parts.Playing.{device_part, driver_part}
use Rattle.net_law.specs.TxParts.Numbers.{NetPlace, sender_at}
use Rattle.net_law.specs.TxParts.Playing.{send_part}
use Rattle.net_law.specs.TxScene.Playing.{ReturnsGood}
use Rattle.net_quiet.proofs.TxCast.Numbers.{device_sends, driver_sends, sender_queues}
use Rattle.blk_virt.specs.Desks.{holders}
use Rattle.blk_virt.specs.Virtualising.{BlkVirtRow, FitsBlkVirt}
use Rattle.blk_virt.specs.declared.requests.Holder.{Holder}
use Rattle.blk_virt.specs.declared.virtualiser.BlkVirt.{BlkVirt}
use Rattle.blk_virt.proofs.Rows.{row_of as server_row}
use Rattle.blk_law.specs.Sheets.Numbers.{BlkPlace, disk_at, virt_at}
use Rattle.blk_law.specs.Sheets.Playing.{DiskInTurn, disk_part, virt_part}
use Rattle.blk_quiet.specs.Cast.Casting.{IsBlkCast}
use Rattle.blk_quiet.specs.Cast.Lengths.{IsLongFor}
use Rattle.blk_quiet.proofs.CastLemmas.Lengths.{long_none}
use Rattle.blk_quiet.proofs.CastLemmas.Turning.{get_next}
use Rattle.actor_set.specs.Parts.{Part, NetworkPart, BlockPart}
use Rattle.actor_set.specs.Actors.{FitsActor, actor_hand, part_of}
use Rattle.actor_set.specs.declared.actor.Actor.{Actor}
use Rattle.actor_set.specs.declared.actor.Actor.TheVariants as Kinds
use Rattle.actor_set.specs.declared.disk.Disk.{Disk}
use Rattle.actor_set.proofs.LawsLemmas.BlkRows.{disk_row_of}
use Rattle.wired_law.specs.Buffers.{HasEachOnce}
use Rattle.wired_law.specs.Wiring.{HasWholeIn, HasNoNetwork, HasBlkIn, HasNoBlock, IsWiredIn, AreAtWork, AreInTurn}
use Rattle.wired_law.proofs.Acting.{device_actor, driver_actor, virt_actor}
use Rattle.wired_law.proofs.Blocks.{class_there, disk_is, start_is}
use Rattle.wired_law.proofs.Wiring.{sender_is}

all_good : (s : Sender) (xs : List Cargo) → AreGood s xs → All (λ (c : Cargo). is_good_of s c ≡ true) xs
all_good s [] h = All-nil (λ (c : Cargo). is_good_of s c ≡ true)
all_good s (x ∷ xs) h = All-cons (λ (c : Cargo). is_good_of s c ≡ true) x xs h.0 (all_good s xs h.1)

-- where all are in turn none of them isn't
all_in_turn : (image : List ℕ) (all requests stray : List Cargo) → all ≡ requests ++ stray → All (λ (x : Cargo). is_stray image x ≡ false) all → All (λ (x : Cargo). is_stray image x ≡ true) stray → stray ≡ []
all_in_turn image all requests [] whole good out = refl
all_in_turn image all requests (x ∷ xs) whole good out =
    let at : slice_get all (length requests) ≡ Some x = ap (λ l. slice_get l (length requests)) whole ∙ get_next requests x xs in
    let yes : is_stray image x ≡ false = all_at (λ (y : Cargo). is_stray image y ≡ false) all good (length requests) x at in
    let no : is_stray image x ≡ true = all_at (λ (y : Cargo). is_stray image y ≡ true) (x ∷ xs) out 0 x refl in
    absurd cc

-- a driver's hand is what its four pipes have
hand_of_four : (f : Count) (p : Pipes (Pipes (Pipes Pipe))) → weighed f (option_to_list p.rest.rest.first.load) + weighed f (option_to_list p.rest.rest.rest.load) ≤ counted f (pipes_hand (four_pipes p))
hand_of_four f p =
    let l4 = bodies_of (option_to_list p.rest.rest.rest.load) ++ [] in
    let l3 = bodies_of (option_to_list p.rest.rest.first.load) ++ l4 in
    let l2 = bodies_of (option_to_list p.rest.first.load) ++ l3 in
    let a = counted-append f (bodies_of (option_to_list p.first.load)) l2 in
    let b = counted-append f (bodies_of (option_to_list p.rest.first.load)) l3 in
    let c = counted-append f (bodies_of (option_to_list p.rest.rest.first.load)) l4 in
    let d = counted-append f (bodies_of (option_to_list p.rest.rest.rest.load)) [] in
    omega (arith, a, b, c, d)

-- pages of a client's length take eight blocks
long_for : (g : Holder) (xs : List Cargo) → HaveLength g.pool blk_buffer_bytes (bodies_of xs) → All (λ (x : Cargo). IsLongFor g x.1) xs
long_for g [] h = All-nil (λ (x : Cargo). IsLongFor g x.1)
long_for g (x ∷ xs) h = All-cons (λ (y : Cargo). IsLongFor g y.1) x xs (by x h.0) (long_for g xs h.1)
  where
    by : (y : Cargo) → HasLength g.pool blk_buffer_bytes y.1 → IsLongFor g y.1
    by (item, Carried.Page page) own = λ same. let long = own same in omega (arith, long)
    by (item, Carried.Lease lease) own = tt
    by (item, Carried.Empty) own = tt

module _ (scene : Scene) (ends : Role → ℕ → End) (rows : List QueueRow) (actors : List Actor) (passed : Passed) (work : AreAtWork ends rows actors passed) where
  abbrev cast : List Part
  cast = map part_of actors

  -- from the sending virtualiser by way of this driver and this device and back
  module _ (net : NetPlace) (whole : HasWholeIn scene rows net cast) (k j i : ℕ) (v : NetVirtTx) (p : EthDriver) (d : EthDevice) (at : slice_get actors k ≡ Some (Kinds.NetVirtTx v)) (driver : slice_get actors j ≡ Some (Kinds.EthDriver p)) (device : slice_get actors i ≡ Some (Kinds.EthDevice d)) (driver_is : driver_part (four_pipes p.driver.pipes) ≡ driver_at net.first) (device_is : device_part d ≡ device_at net.first scene.frames net.device_drops) where
    abbrev down : Pipe
    down = p.driver.pipes.rest.rest.first

    abbrev up : Pipe
    up = p.driver.pipes.rest.rest.rest

    abbrev input : ℕ
    input = v.ends.input.queue.0

    abbrev output : ℕ
    output = v.ends.output.queue.0

    stands : TxStandsFor v passed
    stands = work.stands k (Kinds.NetVirtTx v) at

    fits : FitsTx ends v
    fits = work.fits k (Kinds.NetVirtTx v) at

    part_is : send_part v ≡ sender_at net.first net.most net.pools
    part_is = sender_is net scene.frames v (whole.only_sender k (send_part v) (map_get part_of actors k (Kinds.NetVirtTx v) at))

    way : IsWay down d.wire.pipe up input output passed
    way =
        let moves : PipesStandFor (four_pipes p.driver.pipes) passed = work.stands j (Kinds.EthDriver p) driver in
        let wires : DeviceStandsFor d passed = work.stands i (Kinds.EthDevice d) device in
        let wire = device_sends net.first scene.frames net.device_drops d device_is in
        let driven = driver_sends net.first p.driver.pipes driver_is in
        let own = sender_queues net.first net.most net.pools v part_is in
        record {
          first = moves.1.1.0;
          second = wires.sends.moved;
          third = moves.1.1.1.0;
          to_driver = driven.0 ∙ sym own.0;
          to_device = wire.0 ∙ sym driven.1;
          from_device = driven.2 ∙ sym wire.1;
          from_driver = own.1 ∙ sym driven.3;
          begins = work.hands_over;
        }

    -- one of the class's first queues is there
    there : (n : ℕ) → n < 8 → net.first + n < length rows
    there n lt = let row = whole.kinds n (omega (arith, lt)) in there_below rows (net.first + n) row.0 row.1

    once : HasEachOnce rows actors passed → AreOnce (on_way down d.wire.pipe up input output passed) v
    once each pool number =
        let f : Count = the_page pool number in
        let n1 = down.output.queue.0 in
        let n2 = d.wire.pipe.output.queue.0 in
        let wire = device_sends net.first scene.frames net.device_drops d device_is in
        let driven = driver_sends net.first p.driver.pipes driver_is in
        let own = sender_queues net.first net.most net.pools v part_is in
        let l1 = option_to_list down.load ++ standing passed output in
        let l2 = standing passed n1 ++ l1 in
        let l3 = option_to_list d.wire.pipe.load ++ l2 in
        let l4 = standing passed n2 ++ l3 in
        let l5 = option_to_list up.load ++ l4 in
        let a = weighed-append f (standing passed input) l5 in
        let b = weighed-append f (option_to_list up.load) l4 in
        let c = weighed-append f (standing passed n2) l3 in
        let e = weighed-append f (option_to_list d.wire.pipe.load) l2 in
        let g = weighed-append f (standing passed n1) l1 in
        let h = weighed-append f (option_to_list down.load) (standing passed output) in
        let t2 = there 2 (omega arith) in
        let t3 = there 3 (omega arith) in
        let t6 = there 6 (omega arith) in
        let t7 = there 7 (omega arith) in
        let is7 = own.1 in
        let is6 = own.0 in
        let is2 = driven.1 in
        let is3 = wire.1 in
        let queues = four_below (queue_has f passed) (length rows) input output n1 n2 (omega (arith, t7, is7)) (omega (arith, t6, is6)) (omega (arith, t2, is2)) (omega (arith, t3, is3)) (λ x. omega (arith, is7, is6, x)) (λ x. omega (arith, is7, is2, x)) (λ x. omega (arith, is7, is3, x)) (λ x. omega (arith, is6, is2, x)) (λ x. omega (arith, is6, is3, x)) (λ x. omega (arith, is2, is3, x)) in
        let hands = three_of (λ (x : Actor). counted f (actor_hand x)) actors k j i (Kinds.NetVirtTx v) (Kinds.EthDriver p) (Kinds.EthDevice d) at driver device
        (λ x. let no : Some (Kinds.NetVirtTx v) ≡ Some (Kinds.EthDriver p) = sym at ∙ (ap (slice_get actors) x ∙ driver) in absurd cc)
        (λ x. let no : Some (Kinds.NetVirtTx v) ≡ Some (Kinds.EthDevice d) = sym at ∙ (ap (slice_get actors) x ∙ device) in absurd cc)
        (λ x. let no : Some (Kinds.EthDriver p) ≡ Some (Kinds.EthDevice d) = sym driver ∙ (ap (slice_get actors) x ∙ device) in absurd cc) in
        let moves = hand_of_four f p.driver.pipes in
        let wires = weighed-append f (option_to_list d.load) (option_to_list d.wire.pipe.load) in
        omega (arith, a, b, c, e, g, h, queues, hands, moves, wires, each.once pool number)

    way_free : HasEachOnce rows actors passed → v.work.stray ≡ None
    way_free each = in_turn v passed stands down d.wire.pipe up way (once each) fits.ends_fit.inputs_apart

    way_back : (c : Client) (n : ℕ) → slice_get v.work.clients.items n ≡ Some c → AreGood c.sender (own_of c.sender (passed.taken input))
    way_back c n there = back_good v passed stands down d.wire.pipe up way n c there

  module _ (net : NetPlace) (whole : HasWholeIn scene rows net cast) (k : ℕ) (v : NetVirtTx) (at : slice_get actors k ≡ Some (Kinds.NetVirtTx v)) where
    driver_there : (j : ℕ) × (p : EthDriver) × (slice_get actors j ≡ Some (Kinds.EthDriver p)) × (driver_part (four_pipes p.driver.pipes) ≡ driver_at net.first)
    driver_there =
        let x = map_from part_of actors whole.driver.0 (NetworkPart (driver_at net.first)) whole.driver.1 in
        let p = driver_actor net.first x.0 x.2 in
        (whole.driver.0, p.0, x.1 ∙ ap (λ a. Some a) p.1, p.2)

    device_there : (i : ℕ) × (d : EthDevice) × (slice_get actors i ≡ Some (Kinds.EthDevice d)) × (device_part d ≡ device_at net.first scene.frames net.device_drops)
    device_there =
        let x = map_from part_of actors whole.device.0 (NetworkPart (device_at net.first scene.frames net.device_drops)) whole.device.1 in
        let d = device_actor net.first scene.frames net.device_drops x.0 x.2 in
        (whole.device.0, d.0, x.1 ∙ ap (λ a. Some a) d.1, d.2)

    pub sender_free : HasEachOnce rows actors passed → (v.work.stray ≡ None) × ((row : TxRow v passed) → row.stray ≡ [])
    sender_free each =
        let p = driver_there in
        let d = device_there in
        let free = way_free net whole k p.0 d.0 v p.1 d.1 at p.2 d.2 p.3 d.3 each in
        (free, λ row. row.strayed ∙ ap (λ (o : Option Cargo). option_to_list o) free)

    pub sender_returns : (wild : Wild) → ReturnsGood wild v passed
    sender_returns wild n s q s_at q_at w =
        let p = driver_there in
        let d = device_there in
        let c = map_from (λ (x : Client). x.sender) v.work.clients.items n s s_at in
        let good = way_back net whole k p.0 d.0 v p.1 d.1 at p.2 d.2 p.3 d.3 c.0 n c.1 in
        all_good s (own_of s (passed.taken v.ends.input.queue.0)) (subst (λ (x : Sender). AreGood x (own_of x (passed.taken v.ends.input.queue.0))) c.2 good)

  -- the class with this disk and this virtualiser
  module _ (place : BlkPlace) (has : HasBlkIn scene rows place cast) (d : Disk) (part : disk_part d.start.value d.device ≡ disk_at place) (stands : DiskStandsFor d.start.value d.device passed) (v : BlkVirt) (v_part : virt_part v ≡ virt_at place) (fits : FitsBlkVirt ends v) (row : BlkVirtRow v passed) where
    same : d.start.value ≡ place.image
    same = start_is scene ends rows actors passed work place has d part

    abbrev class : IsBlkCast place passed
    class = record (class_there scene ends rows actors passed work place has) {
      disk = d.device;
      disk_is = subst (λ s. disk_part s d.device ≡ disk_at place) same part;
      disk_row = subst (λ s. DiskRow s d.device passed) same (disk_row_of d.start.value d.device passed stands);
      virt = v;
      virt_is = v_part;
      virt_row = row;
      from_each = fits.from_each;
      to_each = fits.to_each;
      apart = fits.work.desk.apart;
    }

    long_turns : ((j : ℕ) (g : Holder) → slice_get (holders v.work.desk) j ≡ Some g → All (λ (x : Cargo). IsLongFor g x.1) (option_to_list d.device.stray)) → DiskInTurn d.start.value d.device passed
    long_turns long =
        let strays : All (λ (x : Cargo). is_stray place.image x ≡ true) (option_to_list d.device.stray) = strays_of d.device.stray (λ x e. ap (λ s. is_stray s x) (sym same) ∙ stands.out_of_turn x e) in
        let none : option_to_list d.device.stray ≡ [] = long_none place passed class stands.requests (option_to_list d.device.stray) stands.taken strays long in
        let all : stands.requests ≡ passed.taken (req d.device) = sym (stands.taken ∙ (ap (λ l. stands.requests ++ l) none ∙ append-nil stands.requests)) in
        record { free = none_of d.device.stray none; in_turn = λ r. all_in_turn d.start.value stands.requests r.requests r.stray (all ∙ r.taken) stands.in_turn r.out_of_turn }
      where
        strays_of : (o : Option Cargo) → ((x : Cargo) → o ≡ Some x → is_stray place.image x ≡ true) → All (λ (x : Cargo). is_stray place.image x ≡ true) (option_to_list o)
        strays_of None some = All-nil (λ (x : Cargo). is_stray place.image x ≡ true)
        strays_of (Some x) some = All-cons (λ (y : Cargo). is_stray place.image y ≡ true) x [] (some x refl) (All-nil (λ (y : Cargo). is_stray place.image y ≡ true))

        none_of : (o : Option Cargo) → option_to_list o ≡ [] → o ≡ None
        none_of None e = refl
        none_of (Some x) e = absurd cc

  pub disk_in : (place : BlkPlace) → HasBlkIn scene rows place cast → HasEachOnce rows actors passed → (k : ℕ) (d : Disk) → slice_get actors k ≡ Some (Kinds.DiskDevice d) → DiskInTurn d.start.value d.device passed
  disk_in place has each k d at =
      let x = map_from part_of actors has.virt.0 (BlockPart (virt_at place)) has.virt.1 in
      let v = virt_actor place x.0 x.2 in
      let here : slice_get actors has.virt.0 ≡ Some (Kinds.BlkVirt v.0) = x.1 ∙ ap (λ a. Some a) v.1 in
      let fits : FitsActor ends (Kinds.BlkVirt v.0) = work.fits has.virt.0 (Kinds.BlkVirt v.0) here in
      let row = server_row v.0 passed (work.stands has.virt.0 (Kinds.BlkVirt v.0) here) in
      long_turns place has d (disk_is place d.start.value d.device (has.only k (disk_part d.start.value d.device) (map_get part_of actors k (Kinds.DiskDevice d) at))) (work.stands k (Kinds.DiskDevice d) at) v.0 v.2 fits.0 row (long v.0 here)
    where
      long : (v : BlkVirt) → slice_get actors has.virt.0 ≡ Some (Kinds.BlkVirt v) → (j : ℕ) (g : Holder) → slice_get (holders v.work.desk) j ≡ Some g → All (λ (x : Cargo). IsLongFor g x.1) (option_to_list d.device.stray)
      long v here j g g_at =
          let f : Count = of_other_length g.pool blk_buffer_bytes in
          let hand = one_of (λ (x : Actor). counted f (actor_hand x)) actors k (Kinds.DiskDevice d) at in
          let parts = weighed-append f (option_to_list d.device.load) (option_to_list d.device.stray) in
          long_for g (option_to_list d.device.stray) (have_length g.pool blk_buffer_bytes (bodies_of (option_to_list d.device.stray)) (omega (arith, hand, parts, each.long has.virt.0 v here j g g_at)))

  -- so nothing is out of turn in a wired cast
  pub beside : IsWiredIn scene rows cast → HasEachOnce rows actors passed → (wild : Wild) → AreInTurn wild actors passed
  beside wired each wild = record {
    sends = λ k v at. sends wired.network k v at;
    returns = λ k v at. returns wired.network k v at;
    disk = λ k d at. disk wired.block k d at;
  }
    where
      sends : HasNoNetwork cast ⊎ ((net : NetPlace) × HasWholeIn scene rows net cast) → (k : ℕ) (v : NetVirtTx) → slice_get actors k ≡ Some (Kinds.NetVirtTx v) → (row : TxRow v passed) → row.stray ≡ []
      sends (inl none) k v at = absurd (none.no_sender k (send_part v) (map_get part_of actors k (Kinds.NetVirtTx v) at))
      sends (inr net) k v at = (sender_free net.0 net.1 k v at each).1

      returns : HasNoNetwork cast ⊎ ((net : NetPlace) × HasWholeIn scene rows net cast) → (k : ℕ) (v : NetVirtTx) → slice_get actors k ≡ Some (Kinds.NetVirtTx v) → ReturnsGood wild v passed
      returns (inl none) k v at = absurd (none.no_sender k (send_part v) (map_get part_of actors k (Kinds.NetVirtTx v) at))
      returns (inr net) k v at = sender_returns net.0 net.1 k v at wild

      disk : HasNoBlock cast ⊎ ((place : BlkPlace) × HasBlkIn scene rows place cast) → (k : ℕ) (d : Disk) → slice_get actors k ≡ Some (Kinds.DiskDevice d) → DiskInTurn d.start.value d.device passed
      disk (inl none) k d at = absurd (none k (disk_part d.start.value d.device) (map_get part_of actors k (Kinds.DiskDevice d) at))
      disk (inr place) k d at = disk_in place.0 place.1 each k d at
