-- A wired cast has the whole network at the layout's queues, at which nothing comes out of turn.
use Rattle.std.proofs.Common.{◌≡◌, ◌⊎◌, ◌+◌, ◌*◌, ◌<◌, ◌≤◌, ℕ, zero, suc, true, false, Some, List, [], ◌∷◌, length, map, slice_get, inl, inr, sym, ap, ◌∙◌, subst, arith}
use Rattle.std.proofs.lemmas.List.{append-nil}
use Rattle.cargo_core.specs.Lists.{IsPrefix, PrefixMerge}
use Rattle.frame_core.specs.declared.mac.Mac.{Mac}
use Rattle.wire_core.specs.declared.names.QueueRow.{QueueRow}
use Rattle.wire_core.specs.declared.names.QueueId.{QueueId}
use Rattle.wire_core.specs.Deeds.{Cargo, Deed}
use Rattle.wire_core.specs.Ends.{Role, End}
use Rattle.wire_core.specs.Lists.{Passed, nothing_passed, with_deed}
use Rattle.wire_core.specs.Queues.{items_of}
use Rattle.buffer_kit.specs.Virtualising.{from_queues, to_queues}
use Rattle.net_virt_tx.specs.Traffics.{senders}
use Rattle.play_core.proofs.Lists.{map_get, map_from, prefix_trans, some_is, there_is, there_below}
use Rattle.net_law.proofs.Beginnings.{begins_map}
use Rattle.net_virt_tx.specs.Sending.{TxRow}
use Rattle.device_model.specs.declared.ethernet.EthDevice.{EthDevice}
use Rattle.device_model.specs.Ethernet.Devices.{DeviceRow}
use Rattle.device_model.proofs.EthernetLemmas.Holding.{row_of as device_row_of}
use Rattle.eth_driver.specs.Four.{four_pipes}
use Rattle.pipe_driver.proofs.Holding.{row_of as driver_row}
use Rattle.class_expect.specs.NetExpect.Expecting.{Program}
use Rattle.net_copier.proofs.Holding.{row_of as copier_row}
use Rattle.net_virt_rx.proofs.Rounds.{row_of as receiver_row}
use Rattle.net_virt_rx.specs.declared.NetVirtRx.{NetVirtRx}
use Rattle.net_virt_tx.proofs.Rounds.{row_of as sender_row}
use Rattle.net_virt_tx.specs.declared.NetVirtTx.{NetVirtTx}
use Rattle.net_copier.specs.declared.NetCopier.{NetCopier}
use Rattle.client_programs.specs.declared.net.NetClient.{NetClient}
use Rattle.client_programs.proofs.NetLemmas.Standing.{row_of as client_row}
use Rattle.net_law.specs.Owners.Names.{ClientPools}
use Rattle.owner_law.specs.Pools.Places.{PoolAt}
use Rattle.net_law.specs.Parts.Parts.{NetClient as ClientPart}
use Rattle.net_law.specs.Parts.Numbers.{device_at, driver_at, client_first, receiver_at, copier_at, client_at, policy_at}
use Rattle.net_law.specs.Parts.Rows.{frame_at}
use Rattle.net_law.specs.RxOwners.Virtualiser.{TakesFrames}
use Rattle.net_law.specs.Parts.Playing.{device_part, receiver_part, copier_part, client_part, stock_pool, AreLeases, ReceivesInTurn, HasBuffers, AnswersWhole}
use Rattle.net_law.specs.TxParts.Numbers.{NetPlace, own_pools, sender_at, shippers_from}
use Rattle.net_law.specs.TxParts.Parts.{SendPart, Shipper}
use Rattle.net_law.specs.TxParts.Playing.{send_part}
use Rattle.net_law.specs.TxScene.Playing.{CalmGood}
use Rattle.net_quiet.specs.Cast.Casting.{IsCast, IsReceiverAt, IsCopierAt, IsClientAt, kept_frames}
use Rattle.net_law.specs.Dropped.{left_for}
use Rattle.net_quiet.proofs.CastLemmas.Numbers.{copier_queues}
use Rattle.net_quiet.proofs.CastLemmas.Casting.{cast_in_turn, cast_takes, cast_leases, cast_records, cast_whole}
use Rattle.net_quiet.specs.TxTurns.Turning.{StraysWild}
use Rattle.net_quiet.specs.TxCast.Casting.{AreClients, AreSends, CalmSend, IsClientOf, IsSenderAt, IsSendingClient, IsWholeCast, NoneHostile, sends_at, sends_beside, wire_at, wire_beside, net_kept, net_marks}
use Rattle.net_quiet.proofs.TxCast.Numbers.{sender_queues, shippers_are}
use Rattle.net_quiet.proofs.TxCast.Wholes.{none_out, good_taken, back_is, client_puts, sends_calm, wire_calm, wire_is, wire_by}
use Rattle.blk_law.specs.Sheets.Numbers.{BlkPlace}
use Rattle.actor_set.specs.Parts.{Part, NetworkPart, SendingPart}
use Rattle.actor_set.specs.Actors.{FitsActor, ActorStandsFor, part_of}
use Rattle.actor_set.specs.declared.actor.Actor.{Actor}
use Rattle.actor_set.specs.declared.actor.Actor.TheVariants as Kinds
use Rattle.actor_set.specs.Laws.Records.{frames_got}
use Rattle.actor_set.specs.Laws.Turning.{InTurn}
use Rattle.actor_set.specs.Laws.Scenes.{ToldInTurn}
use Rattle.play_core.specs.Names.{Names, Wild, name_of, names_at, names_of, wild_in}
use Rattle.play_core.specs.Sheets.{Scene}
use Rattle.actor_set.specs.Laws.Kinds.{AllCalm, hostiles, scene_of}
use Rattle.actor_set.proofs.LawsLemmas.Told.{none_wild}
use Rattle.wired_law.specs.Wiring.{IsOfNetwork, HasWholeIn, HasNoNetwork, HasBlkIn, HasNoBlock, HasPart, IsWired, IsWiredIn, NetClientsSendIn, ClientsAsk, ClientsSend, ClientsSendIn, AreAtWork, AreInTurn, TellsKept}
use Rattle.wired_law.proofs.Acting.{device_actor, driver_actor, receiver_actor, sender_actor, copier_actor, client_actor}
use Rattle.wired_law.proofs.Deeds.{puts_or_takes}
use Rattle.wired_law.proofs.Blocks.{disk_by, virt_by, client_by, nothing_asked, asks_by}

-- what a part is where it is one of the network's
client_is : (net : NetPlace) (frames : List (List ℕ)) (program : Program) (mac : Mac) (rx_active rx_free tx_active tx_free : ℕ) (rx tx : PoolAt) → IsOfNetwork net frames (NetworkPart (ClientPart program mac rx_active rx_free tx_active tx_free rx tx)) → (k : ℕ) × (p : Program) × (m : Mac) × (q : ClientPools) × IsClientOf net k p m q × (ClientPart program mac rx_active rx_free tx_active tx_free rx tx ≡ client_at net.first k p m (own_pools q))
client_is net frames program mac a b c d rx tx (inl e) = absurd cc
client_is net frames program mac a b c d rx tx (inr (inl e)) = absurd cc
client_is net frames program mac a b c d rx tx (inr (inr (inl e))) = absurd cc
client_is net frames program mac a b c d rx tx (inr (inr (inr (inl e)))) = absurd cc
client_is net frames program mac a b c d rx tx (inr (inr (inr (inr (inl k))))) = let e = k.2 in absurd cc
client_is net frames program mac a b c d rx tx (inr (inr (inr (inr (inr k))))) = let e = k.5 in (k.0, k.1, k.2, k.3, k.4, cc)

receiver_is : (net : NetPlace) (frames : List (List ℕ)) (v : NetVirtRx) → IsOfNetwork net frames (NetworkPart (receiver_part v)) → receiver_part v ≡ receiver_at net.first net.pool net.macs
receiver_is net frames v (inl e) = absurd cc
receiver_is net frames v (inr (inl e)) = absurd cc
receiver_is net frames v (inr (inr (inl e))) = cc
receiver_is net frames v (inr (inr (inr (inl e)))) = absurd cc
receiver_is net frames v (inr (inr (inr (inr (inl k))))) = let e = k.2 in absurd cc
receiver_is net frames v (inr (inr (inr (inr (inr k))))) = let e = k.5 in absurd cc

copier_is : (net : NetPlace) (frames : List (List ℕ)) (c : NetCopier) → IsOfNetwork net frames (NetworkPart (copier_part c)) → (k : ℕ) × (k < length net.macs) × (copier_part c ≡ copier_at net.first k (policy_at net.drops k))
copier_is net frames c (inl e) = absurd cc
copier_is net frames c (inr (inl e)) = absurd cc
copier_is net frames c (inr (inr (inl e))) = absurd cc
copier_is net frames c (inr (inr (inr (inl e)))) = absurd cc
copier_is net frames c (inr (inr (inr (inr (inl k))))) = let e = k.2 in (k.0, k.1, cc)
copier_is net frames c (inr (inr (inr (inr (inr k))))) = let e = k.5 in absurd cc

-- the queues of a client of the sending virtualiser
pub shipper_is : (first most k : ℕ) (qs : List ClientPools) (j : ℕ) (c : Shipper) → slice_get (shippers_from first most k qs) j ≡ Some c → (c.active ≡ client_first first (k + j) + 4) × (c.free ≡ client_first first (k + j) + 5) × (j < length qs)
shipper_is first most k [] j c at = cc
shipper_is first most k (q ∷ qs) zero c at =
    let plus : k ≡ k + 0 = omega arith in
    let same = some_is at in
    (ap (λ (s : Shipper). s.active) (sym same) ∙ ap (λ n. client_first first n + 4) plus, ap (λ (s : Shipper). s.free) (sym same) ∙ ap (λ n. client_first first n + 5) plus, omega arith)
shipper_is first most k (q ∷ qs) (suc j) c at =
    let rest = shipper_is first most (k + 1) qs j c at in
    let below = rest.2 in
    let shift : k + 1 + j ≡ k + suc j = omega arith in
    (rest.0 ∙ ap (λ n. client_first first n + 4) shift, rest.1 ∙ ap (λ n. client_first first n + 5) shift, omega (arith, below))

pub sender_is : (net : NetPlace) (frames : List (List ℕ)) (v : NetVirtTx) → IsOfNetwork net frames (SendingPart (send_part v)) → send_part v ≡ sender_at net.first net.most net.pools
sender_is net frames v (inl e) = absurd cc
sender_is net frames v (inr (inl e)) = absurd cc
sender_is net frames v (inr (inr (inl e))) = absurd cc
sender_is net frames v (inr (inr (inr (inl e)))) = cc
sender_is net frames v (inr (inr (inr (inr (inl k))))) = let e = k.2 in absurd cc
sender_is net frames v (inr (inr (inr (inr (inr k))))) = let e = k.5 in absurd cc

module _ (scene : Scene) (ends : Role → ℕ → End) (rows : List QueueRow) (actors : List Actor) (passed : Passed) (work : AreAtWork ends rows actors passed) where
  abbrev cast : List Part
  cast = map part_of actors

  abbrev wild : Wild
  wild = wild_in (hostiles cast) rows

  abbrev frames : List (List ℕ)
  frames = scene.frames

  -- the actor of a part
  actor_of : (p : Part) → HasPart cast p → (x : Actor) × (part_of x ≡ p) × FitsActor ends x × ActorStandsFor x passed
  actor_of p has = let x = map_from part_of actors has.0 p has.1 in (x.0, x.2, work.fits has.0 x.0 x.1, work.stands has.0 x.0 x.1)

  -- the names of what was taken are told
  told_at : (names : Names) → TellsKept wild names passed → (n : ℕ) → wild n ≡ true → IsPrefix (names_of (passed.taken n)) (names n)
  told_at names kept n is_wild = prefix_trans (names_of (passed.taken n)) (names_of (passed.sent n)) (names n) (begins_map (λ (c : Cargo). name_of c.1) (passed.taken n) (passed.sent n) (work.hands_over n)) (kept n is_wild)

  module _ (net : NetPlace) (whole : HasWholeIn scene rows net cast) where
    receiver_at_work : (v : NetVirtRx) → receiver_part v ≡ receiver_at net.first net.pool net.macs → FitsActor ends (Kinds.NetVirtRx v) → ActorStandsFor (Kinds.NetVirtRx v) passed → IsReceiverAt net.first net.pool net.macs v passed
    receiver_at_work v part fits stands = record { part = part; to_each = fits.to_each; from_each = fits.from_each; row = receiver_row v passed stands }

    copier_there : (k : ℕ) → k < length net.macs → (c : NetCopier) × IsCopierAt net.first k net.drops c passed
    copier_there k lt =
        let x = actor_of (NetworkPart (copier_at net.first k (policy_at net.drops k))) (whole.copier k lt) in
        let c = copier_actor net.first k (policy_at net.drops k) x.0 x.1 in
        let stands : ActorStandsFor (Kinds.NetCopier c.0) passed = subst (λ a. ActorStandsFor a passed) c.1 x.3 in
        (c.0, record { part = c.2; row = copier_row c.0 passed stands })

    short_frames : (k : ℕ) (frame : List ℕ) → slice_get frames k ≡ Some frame → (length frame ≤ net.pool.size) × (length frame < 65536)
    short_frames k frame at = let high = (whole.frames k frame at).1 in let fits = whole.fits in let told = whole.told in (omega (arith, high, fits), omega (arith, high, told))

    -- the receive half with this device and this receiving virtualiser
    half_with : (d : EthDevice) → device_part d ≡ device_at net.first frames net.device_drops → DeviceRow d passed → (v : NetVirtRx) → IsReceiverAt net.first net.pool net.macs v passed → IsCast net.first net.device_drops frames net.pool net.macs net.drops passed
    half_with d part row v at =
        let y = actor_of (NetworkPart (driver_at net.first)) whole.driver in
        let p = driver_actor net.first y.0 y.1 in
        let driver_stands : ActorStandsFor (Kinds.EthDriver p.0) passed = subst (λ a. ActorStandsFor a passed) p.1 y.3 in
        record {
          device = d;
          device_at = record { free = cc; active = cc; frames_are = cc; drops_are = cc; row = row };
          driver = p.0.driver.pipes;
          driver_at = record { part = p.2; row = driver_row (four_pipes p.0.driver.pipes) passed driver_stands };
          receiver = v;
          receiver_at = at;
          copiers = copier_there;
          hands_over = work.hands_over;
          net = λ i lt k c is. let row = whole.kinds i lt in work.kinds (net.first + i) row.0 row.1 k c is ∙ row.2;
          short = short_frames;
        }

    -- the device and the virtualisers of the cast
    device_there : (d : EthDevice) × (device_part d ≡ device_at net.first frames net.device_drops) × DeviceRow d passed
    device_there =
        let x = actor_of (NetworkPart (device_at net.first frames net.device_drops)) whole.device in
        let d = device_actor net.first frames net.device_drops x.0 x.1 in
        (d.0, d.2, device_row_of d.0 passed (subst (λ a. ActorStandsFor a passed) d.1 x.3))

    receiver_there : (v : NetVirtRx) × IsReceiverAt net.first net.pool net.macs v passed
    receiver_there =
        let x = actor_of (NetworkPart (receiver_at net.first net.pool net.macs)) whole.receiver in
        let v = receiver_actor net.first net.pool net.macs x.0 x.1 in
        (v.0, receiver_at_work v.0 v.2 (subst (FitsActor ends) v.1 x.2) (subst (λ a. ActorStandsFor a passed) v.1 x.3))

    sender_there : (v : NetVirtTx) × IsSenderAt net v passed
    sender_there =
        let x = actor_of (SendingPart (sender_at net.first net.most net.pools)) whole.sender in
        let v = sender_actor net.first net.most net.pools x.0 x.1 in
        (v.0, record { part = v.2; row = sender_row v.0 passed (subst (λ a. ActorStandsFor a passed) v.1 x.3) })

    half_there : IsCast net.first net.device_drops frames net.pool net.macs net.drops passed
    half_there = half_with device_there.0 device_there.1 device_there.2 receiver_there.0 receiver_there.1

    -- a client at work
    client_at_work : (k : ℕ) (program : Program) (mac : Mac) (q : ClientPools) (c : NetClient) → client_part c ≡ client_at net.first k program mac (own_pools q) → 1 ≤ q.rx.buffers → FitsActor ends (Kinds.NetClient c) → ActorStandsFor (Kinds.NetClient c) passed → IsSendingClient net k program mac q c passed
    client_at_work k program mac q c part some fits stands =
        let own : stock_pool c.stock ≡ (own_pools q).rx = cc in
        let many : c.stock.buffers ≡ q.rx.buffers = ap (λ (p : PoolAt). p.buffers) own in
        record { part = part; some = omega (arith, many, some); row = client_row c passed stands }

    client_there : AreClients wild net passed
    client_there k program mac q of calm =
        let x = actor_of (NetworkPart (client_at net.first k program mac (own_pools q))) (whole.client k program mac q of calm) in
        let c = client_actor net.first k program mac (own_pools q) x.0 x.1 in
        (c.0, client_at_work k program mac q c.0 c.2 (whole.some k q of.pools) (subst (FitsActor ends) c.1 x.2) (subst (λ a. ActorStandsFor a passed) c.1 x.3))

    -- the whole network with this device and this sending virtualiser
    whole_with : (d : EthDevice) → device_part d ≡ device_at net.first frames net.device_drops → DeviceRow d passed → (v : NetVirtTx) → IsSenderAt net v passed → IsWholeCast net frames passed
    unfolding half_with
    whole_with d part row v at = record {
      pools_many = whole.pools_many;
      programs_many = whole.programs_many;
      half = half_with d part row receiver_there.0 receiver_there.1;
      device_at = part;
      sender = v;
      sender_at = at;
      addresses = whole.addresses;
      received = whole.frames;
      scripts = whole.scripts;
      fits = whole.fits;
      fits_client = whole.fits_client;
    }

    pub whole_there : IsWholeCast net frames passed
    whole_there = whole_with device_there.0 device_there.1 device_there.2 sender_there.0 sender_there.1

    -- a device that waits accepts all frames
    pub kept_all : net_kept net frames passed.calls ≡ frames
    kept_all = ap (λ b. kept_frames net.first b frames passed.calls) whole.waits

    receiver_turns : (v : NetVirtRx) → IsReceiverAt net.first net.pool net.macs v passed → ReceivesInTurn frames v passed
    unfolding half_with
    receiver_turns v is =
        let half = half_with device_there.0 device_there.1 device_there.2 v is in
        record {
          takes = subst (λ fs. TakesFrames (frame_at fs) v passed) kept_all (cast_takes net.first net.device_drops frames net.pool net.macs net.drops passed half);
          in_turn = cast_in_turn net.first net.device_drops frames net.pool net.macs net.drops passed half;
        }

    -- a client at its queues
    client_stands : (k : ℕ) (program : Program) (mac : Mac) (pools : ClientPools) (c : NetClient) → client_part c ≡ client_at net.first k program mac pools → 1 ≤ pools.rx.buffers → net.most ≤ pools.rx.size → ActorStandsFor (Kinds.NetClient c) passed → IsClientAt net.first k frames c passed
    client_stands k program mac pools c part some enough stands =
        let own : stock_pool c.stock ≡ pools.rx = cc in
        let many : c.stock.buffers ≡ pools.rx.buffers = ap (λ (p : PoolAt). p.buffers) own in
        let size : c.stock.size ≡ pools.rx.size = ap (λ (p : PoolAt). p.size) own in
        record {
          active = cc;
          free = cc;
          long = λ j frame f_at. let high = (whole.frames j frame f_at).1 in omega (arith, high, enough, size);
          some = omega (arith, many, some);
          row = client_row c passed stands;
        }

    -- it recorded a beginning of the accepted frames for its address without those that its copier
    -- dropped
    client_records : (k : ℕ) (program : Program) (mac : Mac) (pools : ClientPools) (c : NetClient) → client_part c ≡ client_at net.first k program mac pools → 1 ≤ pools.rx.buffers → net.most ≤ pools.rx.size → slice_get net.macs k ≡ Some mac → FitsActor ends (Kinds.NetClient c) → ActorStandsFor (Kinds.NetClient c) passed → IsPrefix c.frames.tape.shown (left_for (net_marks net passed.calls k) mac (net_kept net frames passed.calls))
    client_records k program mac pools c part some enough address fits stands =
        let client = client_stands k program mac pools c part some enough stands in
        cast_records net.first net.device_drops frames net.pool net.macs net.drops passed half_there k mac address c client

    -- the part of a client of the cast
    client_of : (k : ℕ) (c : NetClient) → slice_get actors k ≡ Some (Kinds.NetClient c) → (j : ℕ) × (p : Program) × (m : Mac) × (q : ClientPools) × IsClientOf net j p m q × (client_part c ≡ client_at net.first j p m (own_pools q))
    client_of k c at = client_is net frames _ _ _ _ _ _ _ _ (whole.only k (client_part c) (map_get part_of actors k (Kinds.NetClient c) at))

    -- what came to a copier of the cast are leases
    copier_turns : (c : NetCopier) (k : ℕ) → k < length net.macs → copier_part c ≡ copier_at net.first k (policy_at net.drops k) → AreLeases (passed.taken c.lease_input.queue.0)
    copier_turns c k lt part =
        let own = copier_queues net.first k (policy_at net.drops k) c part in
        subst (λ n. AreLeases (passed.taken n)) (sym own.0) (cast_leases net.first net.device_drops frames net.pool net.macs net.drops passed half_there k lt)

    -- and what came to a client are whole frames
    client_turns : (c : NetClient) (k : ℕ) (program : Program) (mac : Mac) (q : ClientPools) → IsClientOf net k program mac q → client_part c ≡ client_at net.first k program mac (own_pools q) → FitsActor ends (Kinds.NetClient c) → ActorStandsFor (Kinds.NetClient c) passed → HasBuffers c × AnswersWhole c passed
    client_turns c k program mac q of part fits stands =
        let client = client_stands k program mac (own_pools q) c part (whole.some k q of.pools) (whole.fits_client k q of.pools).0 stands in
        (fits.1, λ echo. cast_whole net.first net.device_drops frames net.pool net.macs net.drops passed half_there k mac of.address c client)

    -- nothing comes out of turn at the sending virtualiser but from a hostile client
    sender_strays : CalmSend wild net passed → (v : NetVirtTx) → IsSenderAt net v passed → (row : TxRow v passed) → StraysWild wild v row.place row.stray
    unfolding whole_with
    sender_strays sends v is row = none_out net frames passed (whole_with device_there.0 device_there.1 device_there.2 v is) row wild client_there sends

    -- of the other clients it takes good descriptors alone
    sender_good : CalmSend wild net passed → (v : NetVirtTx) → IsSenderAt net v passed → CalmGood wild v passed
    unfolding whole_with
    sender_good sends v is = good_taken net frames passed (whole_with device_there.0 device_there.1 device_there.2 v is) is.row wild client_there sends

    -- the sending virtualiser of a cast is that of the place
    sender_here : (k : ℕ) (v : NetVirtTx) → slice_get actors k ≡ Some (Kinds.NetVirtTx v) → IsSenderAt net v passed
    sender_here k v at = record { part = sender_is net frames v (whole.only_sender k (send_part v) (map_get part_of actors k (Kinds.NetVirtTx v) at)); row = sender_row v passed (work.stands k (Kinds.NetVirtTx v) at) }

    -- where no client is hostile, the virtualiser takes from none that is
    sender_calm : NoneHostile wild net → (v : NetVirtTx) → IsSenderAt net v passed → (k : ℕ) (q : QueueId) → slice_get (from_queues v.ends) k ≡ Some q → wild q.0 ≡ false
    sender_calm none v is k q q_at =
        let from_each = is.row.from_each in
        let to_each = is.row.to_each in
        let below = there_below (from_queues v.ends) k q q_at in
        let s = there_is (senders v.work) k (omega (arith, below, from_each)) in
        let r = there_is (to_queues v.ends) k (omega (arith, below, from_each, to_each)) in
        let own = sender_queues net.first net.most net.pools v is.part in
        let x = (shippers_are net.first net.most 0 (senders v.work) net.pools (from_queues v.ends) (to_queues v.ends) is.row.from_each is.row.to_each own.2).1 k s.0 q r.0 s.1 q_at r.1 in
        let plus : 0 + k ≡ k = omega arith in
        ap wild (x.2.1 ∙ ap (λ n. client_first net.first n + 4) plus) ∙ none k (there_below net.pools k x.0 x.1)

    -- so nothing comes out of turn there
    strays_none : CalmSend wild net passed → NoneHostile wild net → (v : NetVirtTx) → IsSenderAt net v passed → (row : TxRow v passed) → row.stray ≡ []
    strays_none sends none v is row = by (sender_strays sends v is row)
      where
        by : StraysWild wild v row.place row.stray → row.stray ≡ []
        by (inl e) = e
        by (inr (j, q, q_at, e, is_wild)) = let calm = sender_calm none v is j q q_at in absurd cc

    sends_in_turn : CalmSend wild net passed → NoneHostile wild net → (k : ℕ) (v : NetVirtTx) → slice_get actors k ≡ Some (Kinds.NetVirtTx v) → (row : TxRow v passed) → row.stray ≡ []
    sends_in_turn sends none k v at = strays_none sends none v (sender_here k v at)

    -- and nothing at any actor of the network, whoever else is hostile
    pub net_turns : CalmSend wild net passed → NoneHostile wild net → (x : Actor) → FitsActor ends x → ActorStandsFor x passed → IsOfNetwork net frames (part_of x) → InTurn scene x passed
    net_turns sends none x fits stands (inl e) = let d = device_actor net.first frames net.device_drops x e in subst (λ a. InTurn scene a passed) (sym d.1) tt
    net_turns sends none x fits stands (inr (inl e)) = let p = driver_actor net.first x e in subst (λ a. InTurn scene a passed) (sym p.1) tt
    net_turns sends none x fits stands (inr (inr (inl e))) =
        let v = receiver_actor net.first net.pool net.macs x e in
        subst (λ a. InTurn scene a passed) (sym v.1) (receiver_turns v.0 (receiver_at_work v.0 v.2 (subst (FitsActor ends) v.1 fits) (subst (λ a. ActorStandsFor a passed) v.1 stands)))
    net_turns sends none x fits stands (inr (inr (inr (inl e)))) =
        let v = sender_actor net.first net.most net.pools x e in
        let is : IsSenderAt net v.0 passed = record { part = v.2; row = sender_row v.0 passed (subst (λ a. ActorStandsFor a passed) v.1 stands) } in
        let turn : InTurn scene (Kinds.NetVirtTx v.0) passed = record {
          good = λ j s q s_at q_at. sender_good sends v.0 is j s q s_at q_at (sender_calm none v.0 is j q q_at);
          in_turn = strays_none sends none v.0 is;
        } in
        subst (λ a. InTurn scene a passed) (sym v.1) turn
    net_turns sends none x fits stands (inr (inr (inr (inr (inl k))))) =
        let c = copier_actor net.first k.0 (policy_at net.drops k.0) x k.2 in
        subst (λ a. InTurn scene a passed) (sym c.1) (copier_turns c.0 k.0 k.1 c.2)
    net_turns sends none x fits stands (inr (inr (inr (inr (inr k))))) =
        let c = client_actor net.first k.0 k.1 k.2 (own_pools k.3) x k.5 in
        subst (λ a. InTurn scene a passed) (sym c.1) (client_turns c.0 k.0 k.1 k.2 k.3 k.4 c.2 (subst (FitsActor ends) c.1 fits) (subst (λ a. ActorStandsFor a passed) c.1 stands))

    -- a hostile client has both its queues for sending
    free_wild : (v : NetVirtTx) → send_part v ≡ sender_at net.first net.most net.pools → (j : ℕ) (c : Shipper) → slice_get (send_part v).clients j ≡ Some c → wild c.active ≡ true → wild c.free ≡ true
    free_wild v part j c c_at is_wild =
        let is = shipper_is net.first net.most 0 net.pools j c (ap (λ (p : SendPart). slice_get p.clients j) (sym part) ∙ c_at) in
        let below = is.2 in
        let pools_many = whole.pools_many in
        let plus : 0 + j ≡ j = omega arith in
        let active : c.active ≡ client_first net.first j + 4 = is.0 ∙ ap (λ n. client_first net.first n + 4) plus in
        let free : c.free ≡ client_first net.first j + 5 = is.1 ∙ ap (λ n. client_first net.first n + 5) plus in
        ap wild free ∙ (sym (whole.both j (omega (arith, below, pools_many))) ∙ (ap wild (sym active) ∙ is_wild))

    whole_turns : CalmSend wild net passed → HasNoBlock cast ⊎ ((place : BlkPlace) × HasBlkIn scene rows place cast) → ClientsAsk cast passed → (names : Names) → TellsKept wild names passed → AreInTurn wild actors passed → (k : ℕ) (x : Actor) → slice_get actors k ≡ Some x → FitsActor ends x → ActorStandsFor x passed → ToldInTurn scene wild names x passed
    whole_turns sends block ask names kept turn k (Kinds.UartDevice x) at fits stands = tt
    whole_turns sends block ask names kept turn k (Kinds.UartDriver x) at fits stands = tt
    whole_turns sends block ask names kept turn k (Kinds.SerialVirtRx x) at fits stands = tt
    whole_turns sends block ask names kept turn k (Kinds.SerialVirtTx x) at fits stands = tt
    whole_turns sends block ask names kept turn k (Kinds.SerialClient x) at fits stands = tt
    whole_turns sends block ask names kept turn k (Kinds.EthDevice x) at fits stands = tt
    whole_turns sends block ask names kept turn k (Kinds.EthDriver x) at fits stands = tt
    whole_turns sends block ask names kept turn k (Kinds.NetVirtRx v) at fits stands = receiver_turns v (receiver_at_work v (receiver_is net frames v (whole.only k (receiver_part v) (map_get part_of actors k (Kinds.NetVirtRx v) at))) fits stands)
    whole_turns sends block ask names kept turn k (Kinds.NetCopier c) at fits stands =
        let is = copier_is net frames c (whole.only k (copier_part c) (map_get part_of actors k (Kinds.NetCopier c) at)) in
        copier_turns c is.0 is.1 is.2
    whole_turns sends block ask names kept turn k (Kinds.NetClient c) at fits stands =
        let is = client_of k c at in
        client_turns c is.0 is.1 is.2 is.3 is.4 is.5 fits stands
    whole_turns sends block ask names kept turn k (Kinds.NetVirtTx v) at fits stands =
        record {
          tells = λ j c c_at is_wild. told_at names kept c.active is_wild;
          backs = λ j c c_at is_wild. kept c.free (free_wild v (sender_here k v at).part j c c_at is_wild);
          good = sender_good sends v (sender_here k v at);
          returns = turn.returns k v at;
          in_turn = turn.sends k v at;
        }
    whole_turns sends block ask names kept turn k (Kinds.DiskDevice x) at fits stands = turn.disk k x at
    whole_turns sends block ask names kept turn k (Kinds.BlkDriver x) at fits stands = tt
    whole_turns sends block ask names kept turn k (Kinds.BlkVirt x) at fits stands = (virt_by scene ends rows actors passed work block ask k x at, λ j q q_at is_wild. told_at names kept q.0 is_wild)
    whole_turns sends block ask names kept turn k (Kinds.BlkClient x) at fits stands = client_by scene ends rows actors passed work block k x at
    whole_turns sends block ask names kept turn k (Kinds.Rogue x) at fits stands = tt

    pub recorded_here : (k c : ℕ) (x : Actor) (program : Program) (mac : Mac) (pools : ClientPools) → slice_get actors k ≡ Some x → part_of x ≡ NetworkPart (client_at net.first c program mac pools) → 1 ≤ pools.rx.buffers → net.most ≤ pools.rx.size → slice_get net.macs c ≡ Some mac → IsPrefix (frames_got x) (left_for (net_marks net passed.calls c) mac (net_kept net frames passed.calls))
    recorded_here k c x program mac pools at part some enough address =
        let y = client_actor net.first c program mac pools x part in
        let fits : FitsActor ends (Kinds.NetClient y.0) = subst (FitsActor ends) y.1 (work.fits k x at) in
        let stands : ActorStandsFor (Kinds.NetClient y.0) passed = subst (λ a. ActorStandsFor a passed) y.1 (work.stands k x at) in
        subst (λ a. IsPrefix (frames_got a) (left_for (net_marks net passed.calls c) mac (net_kept net frames passed.calls))) (sym y.1) (client_records c program mac pools y.0 y.2 some enough address fits stands)

    pub sent_here : CalmSend wild net passed → (k : ℕ) (x : Actor) → slice_get actors k ≡ Some x → part_of x ≡ NetworkPart (device_at net.first frames net.device_drops) → PrefixMerge (sends_beside wild net frames passed) (frames_got x)
    unfolding whole_with half_with
    sent_here sends k x at part =
        let d = device_actor net.first frames net.device_drops x part in
        let row = device_row_of d.0 passed (subst (λ a. ActorStandsFor a passed) d.1 (work.stands k x at)) in
        let all = whole_with d.0 d.2 row sender_there.0 sender_there.1 in
        subst (λ a. PrefixMerge (sends_beside wild net frames passed) (frames_got a)) (sym d.1) (wire_is net frames passed all sender_there.1.row wild client_there sends)

    pub told_here : CalmSend wild net passed → (k : ℕ) (x : Actor) → slice_get actors k ≡ Some x → part_of x ≡ NetworkPart (device_at net.first frames net.device_drops) → frames_got x ≡ wire_beside wild net frames passed
    unfolding whole_with half_with
    told_here sends k x at part =
        let d = device_actor net.first frames net.device_drops x part in
        let row = device_row_of d.0 passed (subst (λ a. ActorStandsFor a passed) d.1 (work.stands k x at)) in
        let all = whole_with d.0 d.2 row sender_there.0 sender_there.1 in
        subst (λ a. frames_got a ≡ wire_beside wild net frames passed) (sym d.1) (wire_by net frames passed all sender_there.1.row wild client_there sends)

    -- what came back to a client that put entries in its own buffers is in them
    pub back_here : (k : ℕ) (program : Program) (mac : Mac) (q : ClientPools) → IsClientOf net k program mac q → AreSends net.most q.tx (passed.sent (client_first net.first k + 4)) → AreSends net.most q.tx (passed.taken (client_first net.first k + 5))
    unfolding whole_with
    back_here = back_is net frames passed (whole_with device_there.0 device_there.1 device_there.2 sender_there.0 sender_there.1) sender_there.1.row

    -- and then what it puts sends frames in them
    pub puts_here : (k : ℕ) (program : Program) (mac : Mac) (q : ClientPools) → IsClientOf net k program mac q → wild (client_first net.first k + 4) ≡ false → AreSends net.most q.tx (passed.taken (client_first net.first k + 5)) → AreSends net.most q.tx (passed.sent (client_first net.first k + 4))
    puts_here k program mac q of calm =
        let c = client_there k program mac q of calm in
        client_puts net frames passed whole_there k program mac q of c.0 c.1

    -- where no client is hostile each sends by its program
    pub sends_calm_here : NoneHostile wild net → sends_beside wild net frames passed ≡ sends_at (net_marks net passed.calls) 0 net.programs net.macs (net_kept net frames passed.calls)
    sends_calm_here = sends_calm wild net frames passed whole_there

    pub wire_calm_here : NoneHostile wild net → wire_beside wild net frames passed ≡ wire_at net (net_marks net passed.calls) (net_kept net frames passed.calls) (items_of (passed.taken (net.first + 2)))
    wire_calm_here = wire_calm wild net frames passed whole_there

  none_turns : HasNoNetwork cast → HasNoBlock cast ⊎ ((place : BlkPlace) × HasBlkIn scene rows place cast) → ClientsAsk cast passed → (names : Names) → TellsKept wild names passed → AreInTurn wild actors passed → (k : ℕ) (x : Actor) → slice_get actors k ≡ Some x → ToldInTurn scene wild names x passed
  none_turns empty block ask names kept turn k (Kinds.UartDevice x) at = tt
  none_turns empty block ask names kept turn k (Kinds.UartDriver x) at = tt
  none_turns empty block ask names kept turn k (Kinds.SerialVirtRx x) at = tt
  none_turns empty block ask names kept turn k (Kinds.SerialVirtTx x) at = tt
  none_turns empty block ask names kept turn k (Kinds.SerialClient x) at = tt
  none_turns empty block ask names kept turn k (Kinds.EthDevice x) at = tt
  none_turns empty block ask names kept turn k (Kinds.EthDriver x) at = tt
  none_turns empty block ask names kept turn k (Kinds.NetVirtRx v) at = absurd (empty.none k (receiver_part v) (map_get part_of actors k (Kinds.NetVirtRx v) at))
  none_turns empty block ask names kept turn k (Kinds.NetCopier c) at = absurd (empty.none k (copier_part c) (map_get part_of actors k (Kinds.NetCopier c) at))
  none_turns empty block ask names kept turn k (Kinds.NetClient c) at = absurd (empty.none k (client_part c) (map_get part_of actors k (Kinds.NetClient c) at))
  none_turns empty block ask names kept turn k (Kinds.NetVirtTx v) at = absurd (empty.no_sender k (send_part v) (map_get part_of actors k (Kinds.NetVirtTx v) at))
  none_turns empty block ask names kept turn k (Kinds.DiskDevice x) at = turn.disk k x at
  none_turns empty block ask names kept turn k (Kinds.BlkDriver x) at = tt
  none_turns empty block ask names kept turn k (Kinds.BlkVirt x) at = (virt_by scene ends rows actors passed work block ask k x at, λ j q q_at is_wild. told_at names kept q.0 is_wild)
  none_turns empty block ask names kept turn k (Kinds.BlkClient x) at = client_by scene ends rows actors passed work block k x at
  none_turns empty block ask names kept turn k (Kinds.Rogue x) at = tt

  turns_by : HasNoNetwork cast ⊎ ((net : NetPlace) × HasWholeIn scene rows net cast) → HasNoBlock cast ⊎ ((place : BlkPlace) × HasBlkIn scene rows place cast) → ClientsSendIn scene rows cast passed → (names : Names) → TellsKept wild names passed → AreInTurn wild actors passed → (k : ℕ) (x : Actor) → slice_get actors k ≡ Some x → ToldInTurn scene wild names x passed
  turns_by (inl empty) block sends names kept turn k x at = none_turns empty block sends.requests names kept turn k x at
  turns_by (inr net) block sends names kept turn k x at = whole_turns net.0 net.1 (sends.frames net.0 net.1) block sends.requests names kept turn k x at (work.fits k x at) (work.stands k x at)

  -- where nobody is hostile nothing comes out of turn from a hostile client
  calm_turns : HasNoNetwork cast ⊎ ((net : NetPlace) × HasWholeIn scene rows net cast) → HasNoBlock cast ⊎ ((place : BlkPlace) × HasBlkIn scene rows place cast) → ClientsSendIn scene rows cast passed → ((n : ℕ) → wild n ≡ false) → AreInTurn wild actors passed
  calm_turns network block sends none = record {
    sends = by network;
    returns = λ k v at j s q s_at q_at is_wild. let calm = none q.0 in absurd cc;
    disk = disk_by scene ends rows actors passed work block sends.requests (λ place k pool at is_wild. let calm = none (place.first + 4 + 2 * k) in absurd cc);
  }
    where
      by : HasNoNetwork cast ⊎ ((net : NetPlace) × HasWholeIn scene rows net cast) → (k : ℕ) (v : NetVirtTx) → slice_get actors k ≡ Some (Kinds.NetVirtTx v) → (row : TxRow v passed) → row.stray ≡ []
      by (inl empty) k v at row = absurd (empty.no_sender k (send_part v) (map_get part_of actors k (Kinds.NetVirtTx v) at))
      by (inr net) k v at row = sends_in_turn net.0 net.1 (sends.frames net.0 net.1) (λ j below. none (client_first net.0.first j + 4)) k v at row

-- beside hostile clients
pub turns_beside : (scene : Scene) (ends : Role → ℕ → End) (rows : List QueueRow) (actors : List Actor) (passed : Passed) (names : Names) → IsWiredIn scene rows (map part_of actors) → AreAtWork ends rows actors passed → ClientsSendIn scene rows (map part_of actors) passed → TellsKept (wild_in (hostiles (map part_of actors)) rows) names passed → AreInTurn (wild_in (hostiles (map part_of actors)) rows) actors passed → (k : ℕ) (x : Actor) → slice_get actors k ≡ Some x → ToldInTurn scene (wild_in (hostiles (map part_of actors)) rows) names x passed
turns_beside scene ends rows actors passed names wired work sends kept turn = turns_by scene ends rows actors passed work wired.network wired.block sends names kept turn

-- where nobody is hostile no name is asked
pub turns_calm : (scene : Scene) (wild : Wild) (names : Names) (x : Actor) (passed : Passed) → ((n : ℕ) → wild n ≡ false) → ToldInTurn scene wild names x passed → InTurn scene x passed
turns_calm scene wild names (Kinds.UartDevice x) passed none is = is
turns_calm scene wild names (Kinds.UartDriver x) passed none is = is
turns_calm scene wild names (Kinds.SerialVirtRx x) passed none is = is
turns_calm scene wild names (Kinds.SerialVirtTx x) passed none is = is
turns_calm scene wild names (Kinds.SerialClient x) passed none is = is
turns_calm scene wild names (Kinds.EthDevice x) passed none is = is
turns_calm scene wild names (Kinds.EthDriver x) passed none is = is
turns_calm scene wild names (Kinds.NetVirtRx x) passed none is = is
turns_calm scene wild names (Kinds.NetCopier x) passed none is = is
turns_calm scene wild names (Kinds.NetClient x) passed none is = is
turns_calm scene wild names (Kinds.NetVirtTx x) passed none is = record { good = λ k s q s_at q_at. is.good k s q s_at q_at (none q.0); in_turn = is.in_turn }
turns_calm scene wild names (Kinds.DiskDevice x) passed none is = is
turns_calm scene wild names (Kinds.BlkDriver x) passed none is = is
turns_calm scene wild names (Kinds.BlkVirt x) passed none is =
    let both = is.0 in
    record { free = both.free; in_turn = both.in_turn; answered = both.answered; sector = both.sector; sectors = both.sectors; good = λ k h q h_at q_at. both.good k h q h_at q_at (none q.0); apart = both.apart; from_each = both.from_each; to_each = both.to_each }
turns_calm scene wild names (Kinds.BlkClient x) passed none is = is
turns_calm scene wild names (Kinds.Rogue x) passed none is = is

pub in_turn : {scene : Scene} (ends : Role → ℕ → End) (rows : List QueueRow) (actors : List Actor) (passed : Passed) → AllCalm (map part_of actors) → IsWiredIn scene rows (map part_of actors) → AreAtWork ends rows actors passed → ClientsSendIn scene rows (map part_of actors) passed → (k : ℕ) (x : Actor) → slice_get actors k ≡ Some x → InTurn scene x passed
in_turn {scene} ends rows actors passed calm wired work sends k x at =
    let cast = map part_of actors in
    let none = none_wild cast calm rows in
    let turn = calm_turns scene ends rows actors passed work wired.network wired.block sends none in
    turns_calm scene (wild_in (hostiles cast) rows) (names_at passed) x passed none (turns_beside scene ends rows actors passed (names_at passed) wired work sends (λ n is_wild. ([], append-nil (names_at passed n))) turn k x at)

pub recorded : {scene : Scene} (ends : Role → ℕ → End) (rows : List QueueRow) (actors : List Actor) (passed : Passed) (net : NetPlace) → HasWholeIn scene rows net (map part_of actors) → AreAtWork ends rows actors passed → (k c : ℕ) (x : Actor) (program : Program) (mac : Mac) (pools : ClientPools) → slice_get actors k ≡ Some x → part_of x ≡ NetworkPart (client_at net.first c program mac pools) → 1 ≤ pools.rx.buffers → net.most ≤ pools.rx.size → slice_get net.macs c ≡ Some mac
    → IsPrefix (frames_got x) (left_for (net_marks net passed.calls c) mac (net_kept net scene.frames passed.calls))
recorded {scene} ends rows actors passed net whole work = recorded_here scene ends rows actors passed work net whole

pub sent_beside : {scene : Scene} (ends : Role → ℕ → End) (rows : List QueueRow) (actors : List Actor) (passed : Passed) (net : NetPlace) → HasWholeIn scene rows net (map part_of actors) → AreAtWork ends rows actors passed → ClientsSendIn scene rows (map part_of actors) passed → (k : ℕ) (x : Actor) → slice_get actors k ≡ Some x → part_of x ≡ NetworkPart (device_at net.first scene.frames net.device_drops)
    → PrefixMerge (sends_beside (wild_in (hostiles (map part_of actors)) rows) net scene.frames passed) (frames_got x)
sent_beside {scene} ends rows actors passed net whole work sends = sent_here scene ends rows actors passed work net whole (sends.frames net whole)

pub told_beside : {scene : Scene} (ends : Role → ℕ → End) (rows : List QueueRow) (actors : List Actor) (passed : Passed) (net : NetPlace) → HasWholeIn scene rows net (map part_of actors) → AreAtWork ends rows actors passed → ClientsSendIn scene rows (map part_of actors) passed → (k : ℕ) (x : Actor) → slice_get actors k ≡ Some x → part_of x ≡ NetworkPart (device_at net.first scene.frames net.device_drops)
    → frames_got x ≡ wire_beside (wild_in (hostiles (map part_of actors)) rows) net scene.frames passed
told_beside {scene} ends rows actors passed net whole work sends = told_here scene ends rows actors passed work net whole (sends.frames net whole)

-- where nobody is hostile, each client of the network sends by its program
none_hostile : (cast : List Part) → AllCalm cast → (rows : List QueueRow) (net : NetPlace) → NoneHostile (wild_in (hostiles cast) rows) net
none_hostile cast calm rows net k below = none_wild cast calm rows (client_first net.first k + 4)

pub sent_on : {scene : Scene} (ends : Role → ℕ → End) (rows : List QueueRow) (actors : List Actor) (passed : Passed) (net : NetPlace) → AllCalm (map part_of actors) → HasWholeIn scene rows net (map part_of actors) → AreAtWork ends rows actors passed → ClientsSendIn scene rows (map part_of actors) passed → (k : ℕ) (x : Actor) → slice_get actors k ≡ Some x → part_of x ≡ NetworkPart (device_at net.first scene.frames net.device_drops)
    → PrefixMerge (sends_at (net_marks net passed.calls) 0 net.programs net.macs (net_kept net scene.frames passed.calls)) (frames_got x)
sent_on {scene} ends rows actors passed net calm whole work sends k x at part = subst (λ l. PrefixMerge l (frames_got x)) (sends_calm_here scene ends rows actors passed work net whole (none_hostile (map part_of actors) calm rows net)) (sent_beside ends rows actors passed net whole work sends k x at part)

pub sent_told : {scene : Scene} (ends : Role → ℕ → End) (rows : List QueueRow) (actors : List Actor) (passed : Passed) (net : NetPlace) → AllCalm (map part_of actors) → HasWholeIn scene rows net (map part_of actors) → AreAtWork ends rows actors passed → ClientsSendIn scene rows (map part_of actors) passed → (k : ℕ) (x : Actor) → slice_get actors k ≡ Some x → part_of x ≡ NetworkPart (device_at net.first scene.frames net.device_drops)
    → frames_got x ≡ wire_at net (net_marks net passed.calls) (net_kept net scene.frames passed.calls) (items_of (passed.taken (net.first + 2)))
sent_told {scene} ends rows actors passed net calm whole work sends k x at part = told_beside ends rows actors passed net whole work sends k x at part ∙ wire_calm_here scene ends rows actors passed work net whole (none_hostile (map part_of actors) calm rows net)

-- nothing was put at the start
pub nothing_sent : {scene : Scene} (rows : List QueueRow) (cast : List Part) → ClientsSendIn scene rows cast nothing_passed
nothing_sent rows cast = record {
  frames = λ net whole k q at calm j c there. cc;
  requests = nothing_asked cast;
}

-- a client's entries after one more call: where it puts one, nothing came back to it in this call
module _ (scene : Scene) (ends ends' : Role → ℕ → End) (rows : List QueueRow) (actors actors' : List Actor) (passed : Passed) (deed : Deed) (same : map part_of actors' ≡ map part_of actors) (work : AreAtWork ends rows actors passed) (sends : NetClientsSendIn scene rows (map part_of actors) passed) (later : AreAtWork ends' rows actors' (with_deed passed deed)) where
  module _ (net : NetPlace) (whole : HasWholeIn scene rows net (map part_of actors)) where
    client_sends_on : (k : ℕ) (program : Program) (mac : Mac) (q : ClientPools) → IsClientOf net k program mac q → wild_in (hostiles (map part_of actors)) rows (client_first net.first k + 4) ≡ false → AreSends net.most q.tx (passed.sent (client_first net.first k + 4)) → AreSends net.most q.tx ((with_deed passed deed).sent (client_first net.first k + 4))
    client_sends_on k program mac q of calm old = by (puts_or_takes passed deed)
      where
        by : ((n : ℕ) → (with_deed passed deed).sent n ≡ passed.sent n) ⊎ ((n : ℕ) → (with_deed passed deed).taken n ≡ passed.taken n) → AreSends net.most q.tx ((with_deed passed deed).sent (client_first net.first k + 4))
        by (inl still) = subst (AreSends net.most q.tx) (sym (still (client_first net.first k + 4))) old
        by (inr still) =
            let back = back_here scene ends rows actors passed work net whole k program mac q of old in
            let calm_on = subst (λ c. wild_in (hostiles c) rows (client_first net.first k + 4) ≡ false) (sym same) calm in
            puts_here scene ends' rows actors' (with_deed passed deed) later net (subst (HasWholeIn scene rows net) (sym same) whole) k program mac q of calm_on (subst (AreSends net.most q.tx) (sym (still (client_first net.first k + 5))) back)

    whole_sends_on : CalmSend (wild_in (hostiles (map part_of actors)) rows) net (with_deed passed deed)
    whole_sends_on k q at calm =
        let below = there_below net.pools k q at in
        let pools_many = whole.pools_many in
        let programs_many = whole.programs_many in
        let mac = there_is net.macs k (omega (arith, below, pools_many)) in
        let program = there_is net.programs k (omega (arith, below, pools_many, programs_many)) in
        client_sends_on k program.0 mac.0 q (record { address = mac.1; pools = at; plays = program.1 }) calm (sends net whole k q at calm)

pub sends_in : {scene : Scene} (ends ends' : Role → ℕ → End) (rows : List QueueRow) (actors actors' : List Actor) (passed : Passed) (deed : Deed) → IsWiredIn scene rows (map part_of actors) → map part_of actors' ≡ map part_of actors → AreAtWork ends rows actors passed → ClientsSendIn scene rows (map part_of actors) passed → AreAtWork ends' rows actors' (with_deed passed deed) → ClientsSendIn scene rows (map part_of actors') (with_deed passed deed)
sends_in {scene} ends ends' rows actors actors' passed deed wired same work sends later = subst (λ c. ClientsSendIn scene rows c (with_deed passed deed)) (sym same) (record {
  frames = λ net whole. whole_sends_on scene ends ends' rows actors actors' passed deed same work sends.frames later net whole;
  requests = asks_by scene ends ends' rows actors actors' passed deed same work sends.requests later wired.block;
})

-- and so it is in the casts' own scenes
pub sends_on : (ends ends' : Role → ℕ → End) (rows : List QueueRow) (actors actors' : List Actor) (passed : Passed) (deed : Deed) → IsWired rows (map part_of actors) → map part_of actors' ≡ map part_of actors → AreAtWork ends rows actors passed → ClientsSend rows (map part_of actors) passed → AreAtWork ends' rows actors' (with_deed passed deed) → ClientsSend rows (map part_of actors') (with_deed passed deed)
sends_on ends ends' rows actors actors' passed deed wired same work sends later = subst (λ c. ClientsSendIn (scene_of c) rows (map part_of actors') (with_deed passed deed)) (sym same) (sends_in ends ends' rows actors actors' passed deed wired same work sends later)
