-- At the queues of hostile clients there is no page of another's pool: what goes round there are their
-- own buffers.
use Rattle.std.proofs.Common.{◌≡◌, ◌⊎◌, ◌==◌, ◌&&◌, ◌||◌, ◌+◌, ◌*◌, ◌<◌, ℕ, zero, suc, Bool, true, false, cond, if◌then◌else◌, Some, List, [], ◌∷◌, length, slice_get, refl, sym, ap, ap₂, ◌∙◌, subst, arith, eq-eqb, inl, inr}
use Rattle.std.proofs.lemmas.List.{length-map}
use Rattle.std.proofs.lemmas.List.Sums.{sum_by-append}
use Rattle.cargo_core.specs.Lists.{IsPrefix}
use Rattle.wire_core.specs.declared.names.QueueId.{QueueId}
use Rattle.wire_core.specs.declared.names.QueueRow.{QueueRow}
use Rattle.wire_core.specs.Deeds.{Cargo, Deed}
use Rattle.wire_core.specs.Ends.{Role}
use Rattle.wire_core.specs.Lists.{Passed, with_deed}
use Rattle.wire_core.specs.Marks.{sum_below}
use Rattle.turn_kit.specs.declared.pipe.Pipe.{Pipe}
use Rattle.play_core.specs.Moved.{Moved}
use Rattle.play_core.specs.Names.{Wild}
use Rattle.play_core.proofs.Lists.{some_is, map_from, map_get, there_below, there_is}
use Rattle.owner_law.specs.Things.{Buffer, Naming}
use Rattle.owner_law.specs.Pages.{as_page}
use Rattle.owner_law.specs.Pools.Handing.{AllCarry}
use Rattle.owner_law.specs.Pools.Places.{PoolAt}
use Rattle.owner_law.proofs.Carrying.{get_first}
use Rattle.buffer_kit.specs.Conserving.{Count, counted, the_page, weighed}
use Rattle.buffer_kit.specs.Pools.{page_bodies}
use Rattle.buffer_kit.specs.Virtualising.{from_queues, to_queues}
use Rattle.buffer_kit.proofs.Conserving.{counted-at}
use Rattle.pipe_driver.specs.Drivers.{PipesStandFor}
use Rattle.eth_driver.specs.Four.{four_pipes}
use Rattle.device_model.specs.Ethernet.Devices.{DeviceStandsFor}
use Rattle.net_copier.specs.declared.NetCopier.{NetCopier}
use Rattle.net_virt_tx.specs.declared.NetVirtTx.{NetVirtTx}
use Rattle.net_virt_tx.specs.declared.client.Client.{Client}
use Rattle.net_virt_tx.specs.Traffics.{senders}
use Rattle.net_law.specs.Owners.Names.{ClientPools}
use Rattle.net_law.specs.Parts.Numbers.{client_first, copier_at, device_at, driver_at, policy_at}
use Rattle.net_law.specs.TxParts.Numbers.{NetPlace, sender_at}
use Rattle.net_law.specs.TxParts.Playing.{send_part}
use Rattle.net_quiet.proofs.PoolsLemmas.Carrying.{carries_none}
use Rattle.net_quiet.proofs.TxCast.Numbers.{device_sends, driver_sends, sender_queues, shippers_are}
use Rattle.blk_virt.specs.Desks.{holders}
use Rattle.blk_virt.specs.declared.client.Client.{Client as Asker}
use Rattle.blk_law.specs.Sheets.Numbers.{BlkPlace, virt_at}
use Rattle.blk_quiet.proofs.CastLemmas.Numbers.{sharers_are, virt_queues}
use Rattle.client_programs.specs.declared.rogue.Rogue.{Rogue}
use Rattle.client_programs.specs.Rogue.Clients.{left_at_start}
use Rattle.wired_law.specs.PageLaw.Paths.{IsWay}
use Rattle.wired_law.specs.PageLaw.WildPages.Rounds.{AllMove, IsClosed, Spares, blk_queues, put_there, queues_of}
use Rattle.wired_law.proofs.PageLaw.ActorsLemmas.Pages.{none_sum}
use Rattle.wired_law.proofs.PageLaw.ActorsLemmas.Plain.{copier_conserves}
use Rattle.wired_law.proofs.PageLaw.TurnsLemmas.Turning.{back_good}
use Rattle.wired_law.proofs.PageLaw.WildPages.Rounds.Asking.{asked_closed}
use Rattle.wired_law.proofs.PageLaw.WildPages.Rounds.Going.{goes_on}
use Rattle.wired_law.proofs.PageLaw.WildPages.Rounds.Serving.{closed}
use Rattle.actor_set.specs.Parts.{HostilePart, Part, RoguePart, BlockPart, NetworkPart, SendingPart}
use Rattle.actor_set.specs.Actors.{FitsActor, part_of, rogue_part}
use Rattle.actor_set.specs.declared.actor.Actor.{Actor}
use Rattle.actor_set.specs.declared.actor.Actor.TheVariants as Kinds
use Rattle.actor_set.specs.Rogues.{page_weighs, pages_weigh}
use Rattle.actor_set.proofs.RogueLemmas.Ends.{pages_counted}
use Rattle.wired_law.specs.Wiring.{HasBlk, HasWhole}
use Rattle.wired_law.proofs.Acting.{copier_actor, device_actor, driver_actor, sender_actor, virt_actor}
use Rattle.cast_core.specs.Hostile.{pool_pages}
use Rattle.cast_law.specs.Pages.Paging.{pool_weighs}
use Rattle.cast_law.specs.Pools.Beside.{RoguesAsk, in_blk, in_net, is_blk_rogues, is_net_rogues, is_rogues}
use Rattle.cast_law.specs.Pools.Places.{PoolPlace}
use Rattle.cast_law.specs.Pools.Rogues.{IsBlkRogue, IsNetRogue}
use Rattle.cast_law.proofs.PoolsLemmas.Calmed.{pool_all}
use Rattle.cast_law.proofs.BesideLemmas.Around.{Around, cast, scene, wild, naming, off, part_names}
use Rattle.cast_law.proofs.BesideLemmas.Hands.{copier_queues, first_move, lease_calm, none_weighs, weighs_none}
use Rattle.cast_law.proofs.BesideLemmas.Naming.{at_calm}
use Rattle.cast_law.proofs.BesideLemmas.Queues.{BlkEnd, BlkHere, NetEnd, NetHere, blk_whole, blk_wild, net_whole, net_wild, wild_whose}

-- an actor that plays a hostile client's part
rogue_actor : (x : Actor) (p : RoguePart) → part_of x ≡ HostilePart p → (r : Rogue) × (x ≡ Kinds.Rogue r) × (rogue_part r (left_at_start r) ≡ p)
rogue_actor (Kinds.UartDevice x) p e = absurd cc
rogue_actor (Kinds.UartDriver x) p e = absurd cc
rogue_actor (Kinds.SerialVirtRx x) p e = absurd cc
rogue_actor (Kinds.SerialVirtTx x) p e = absurd cc
rogue_actor (Kinds.SerialClient x) p e = absurd cc
rogue_actor (Kinds.EthDevice x) p e = absurd cc
rogue_actor (Kinds.EthDriver x) p e = absurd cc
rogue_actor (Kinds.NetVirtRx x) p e = absurd cc
rogue_actor (Kinds.NetCopier x) p e = absurd cc
rogue_actor (Kinds.NetClient x) p e = absurd cc
rogue_actor (Kinds.NetVirtTx x) p e = absurd cc
rogue_actor (Kinds.DiskDevice x) p e = absurd cc
rogue_actor (Kinds.BlkDriver x) p e = absurd cc
rogue_actor (Kinds.BlkVirt x) p e = absurd cc
rogue_actor (Kinds.BlkClient x) p e = absurd cc
rogue_actor (Kinds.Rogue x) p e = (x, refl, cc)

pub or_none : (s t : Bool) → (s || t) ≡ false → (s ≡ false) × (t ≡ false)
or_none false false e = (refl, refl)
or_none false true e = cc
or_none true t e = cc

two_ways : (t : Bool) → t ≡ true → t ≡ false → ⊥
two_ways t g h = cc

ne_of : (a b : ℕ) → (a == b) ≡ false → a ≡ b → ⊥
ne_of a b off same = two_ways (a == b) (eq-eqb a b same) off

-- the pools of a client at whose queue a hostile actor has an end are hostile clients'
pub net_in : (off_queues : Wild) (first from : ℕ) (qs : List ClientPools) (k : ℕ) (q : ClientPools) (pool : ℕ) → slice_get qs k ≡ Some q → off_queues (client_first first (from + k) + 4) ≡ true → is_net_rogues off_queues first from qs pool ≡ false → ((q.rx.number == pool) ≡ false) × ((q.tx.number == pool) ≡ false)
net_in off_queues first from [] k q pool at is none = cc
net_in off_queues first from (p ∷ qs) zero q pool at is none =
    let here : off_queues (client_first first from + 4) ≡ true = (let plus : from ≡ from + 0 = omega arith in ap (λ n. off_queues (client_first first n + 4)) plus ∙ is) in
    let rest : Bool = is_net_rogues off_queues first (from + 1) qs pool in
    let all : ((p.rx.number == pool) || ((p.tx.number == pool) || rest)) ≡ false = sym (ap (λ t. cond t ((p.rx.number == pool) || ((p.tx.number == pool) || rest)) rest) here) ∙ none in
    let one = or_none (p.rx.number == pool) ((p.tx.number == pool) || rest) all in
    let two = or_none (p.tx.number == pool) rest one.1 in
    let same : p ≡ q = some_is at in
    (ap (λ (y : ClientPools). y.rx.number == pool) (sym same) ∙ one.0, ap (λ (y : ClientPools). y.tx.number == pool) (sym same) ∙ two.0)
net_in off_queues first from (p ∷ qs) (suc k) q pool at is none =
    let next : from + 1 + k ≡ from + suc k = omega arith in
    net_in off_queues first (from + 1) qs k q pool at (ap (λ n. off_queues (client_first first n + 4)) next ∙ is) (by (off_queues (client_first first from + 4)) none)
  where
    by : (t : Bool) → cond t ((p.rx.number == pool) || ((p.tx.number == pool) || is_net_rogues off_queues first (from + 1) qs pool)) (is_net_rogues off_queues first (from + 1) qs pool) ≡ false → is_net_rogues off_queues first (from + 1) qs pool ≡ false
    by true e = (or_none (p.tx.number == pool) (is_net_rogues off_queues first (from + 1) qs pool) (or_none (p.rx.number == pool) ((p.tx.number == pool) || is_net_rogues off_queues first (from + 1) qs pool) e).1).1
    by false e = e

pub blk_in : (off_queues : Wild) (first from : ℕ) (qs : List PoolAt) (k : ℕ) (q : PoolAt) (pool : ℕ) → slice_get qs k ≡ Some q → off_queues (first + 4 + 2 * (from + k)) ≡ true → is_blk_rogues off_queues first from qs pool ≡ false → (q.number == pool) ≡ false
blk_in off_queues first from [] k q pool at is none = cc
blk_in off_queues first from (p ∷ qs) zero q pool at is none =
    let here : off_queues (first + 4 + 2 * from) ≡ true = (let plus : from ≡ from + 0 = omega arith in ap (λ n. off_queues (first + 4 + 2 * n)) plus ∙ is) in
    let rest : Bool = is_blk_rogues off_queues first (from + 1) qs pool in
    let all : ((p.number == pool) || rest) ≡ false = sym (ap (λ t. cond t ((p.number == pool) || rest) rest) here) ∙ none in
    ap (λ (y : PoolAt). y.number == pool) (sym (some_is at)) ∙ (or_none (p.number == pool) rest all).0
blk_in off_queues first from (p ∷ qs) (suc k) q pool at is none =
    let next : from + 1 + k ≡ from + suc k = omega arith in
    blk_in off_queues first (from + 1) qs k q pool at (ap (λ n. off_queues (first + 4 + 2 * n)) next ∙ is) (by (off_queues (first + 4 + 2 * from)) none)
  where
    by : (t : Bool) → cond t ((p.number == pool) || is_blk_rogues off_queues first (from + 1) qs pool) (is_blk_rogues off_queues first (from + 1) qs pool) ≡ false → is_blk_rogues off_queues first (from + 1) qs pool ≡ false
    by true e = (or_none (p.number == pool) (is_blk_rogues off_queues first (from + 1) qs pool) e).1
    by false e = e

-- a pool of another number
off_pool : (b : Buffer) (q : PoolAt) → (q.number == b.pool) ≡ false → pool_weighs (the_page (record { 0 = b.pool }) b.no) q ≡ 0
off_pool b q off_ = ap (λ t. sum_below (λ no. if t && (no == b.no) then 1 else 0) q.buffers) off_ ∙ none_sum q.buffers

-- what is put at four queues, or at two
two_put : (f : Count) (p : Passed) (x y : ℕ) → put_there f p (x ∷ y ∷ []) ≡ weighed f (p.sent x) + weighed f (p.sent y)
two_put f p x y = omega (arith, counted-at f p.sent x (y ∷ []), counted-at f p.sent y [])

four_put : (f : Count) (p : Passed) (x y z u : ℕ) → put_there f p (x ∷ y ∷ z ∷ u ∷ []) ≡ weighed f (p.sent x) + (weighed f (p.sent y) + (weighed f (p.sent z) + weighed f (p.sent u)))
four_put f p x y z u = omega (arith, counted-at f p.sent x (y ∷ z ∷ u ∷ []), counted-at f p.sent y (z ∷ u ∷ []), two_put f p z u)

module _ (rows : List QueueRow) (place : PoolPlace) (actors : List Actor) (passed : Passed) (d : Deed) (m : Moved) (a : Around rows place actors (with_deed passed d) m) where
  abbrev after : Passed
  after = with_deed passed d

  abbrev parts : List Part
  parts = cast rows place actors after m a

  abbrev w : Wild
  w = wild rows place actors after m a

  abbrev here_ : Naming
  here_ = off rows place actors after m a

  module _ (b : Buffer) (free : is_rogues w place b.pool ≡ false) (began : (n : ℕ) → IsPrefix (passed.taken n) (passed.sent n)) (carry : (n : ℕ) → w n ≡ false → AllCarry here_ m n (after.sent n)) (none : (n : ℕ) → w n ≡ true → (k : ℕ) (c : Cargo) → slice_get (passed.sent n) k ≡ Some c → as_page b c.1 ≡ 0) where
    abbrev f : Count
    f = the_page (record { 0 = b.pool }) b.no

    none_net : in_net w place.net b.pool ≡ false
    none_net = (or_none (in_net w place.net b.pool) (in_blk w place.blk b.pool) free).0

    none_blk : in_blk w place.blk b.pool ≡ false
    none_blk = (or_none (in_net w place.net b.pool) (in_blk w place.blk b.pool) free).1

    -- a hostile client of the network
    module _ (net : NetPlace) (here : place.net ≡ Some net) (k : ℕ) (pools : ClientPools) (j : ℕ) (rogue : RoguePart) (at : slice_get parts j ≡ Some (HostilePart rogue)) (is : IsNetRogue net k pools rogue) where
      abbrev whole : HasWhole rows net parts
      whole = (net_whole rows place.net place.blk parts a.placed.net a.placed.blk a.placed.rogues a.seated a.filled net here).0

      under : k < length net.macs
      under = let lt = there_below net.pools k pools is.there in omega (arith, lt, whole.pools_many)

      wilds : (w (client_first net.first k + 2) ≡ true) × (w (client_first net.first k + 5) ≡ true) × (w (client_first net.first k + 3) ≡ true) × (w (client_first net.first k + 4) ≡ true)
      wilds = net_wild rows place.net place.blk parts a.placed.net a.placed.blk a.placed.rogues a.seated a.filled net here k pools j rogue at is

      apart : ((pools.rx.number == b.pool) ≡ false) × ((pools.tx.number == b.pool) ≡ false)
      apart = net_in w net.first 0 net.pools k pools b.pool is.there (let plus : k ≡ 0 + k = omega arith in ap (λ n. w (client_first net.first n + 4)) (sym plus) ∙ wilds.3) (ap (λ o. in_net w o b.pool) (sym here) ∙ none_net)

      abbrev client : (r : Rogue) × (slice_get actors j ≡ Some (Kinds.Rogue r)) × (rogue_part r (left_at_start r) ≡ rogue)
      client =
          let x = map_from part_of actors j (HostilePart rogue) at in
          let r = rogue_actor x.0 rogue x.2 in
          (r.0, x.1 ∙ ap (λ y. Some y) r.1, r.2)

      copier : (i : ℕ) × (c : NetCopier) × (slice_get actors i ≡ Some (Kinds.NetCopier c)) × (Rattle.net_law.specs.Parts.Playing.copier_part c ≡ copier_at net.first k (policy_at net.drops k))
      copier =
          let p = whole.copier k under in
          let x = map_from part_of actors p.0 (NetworkPart (copier_at net.first k (policy_at net.drops k))) p.1 in
          let c = copier_actor net.first k (policy_at net.drops k) x.0 x.2 in
          (p.0, c.0, x.1 ∙ ap (λ y. Some y) c.1, c.2)

      sender : (v : NetVirtTx) × (slice_get actors whole.sender.0 ≡ Some (Kinds.NetVirtTx v)) × (send_part v ≡ sender_at net.first net.most net.pools)
      sender =
          let x = map_from part_of actors whole.sender.0 (SendingPart (sender_at net.first net.most net.pools)) whole.sender.1 in
          let v = sender_actor net.first net.most net.pools x.0 x.2 in
          (v.0, x.1 ∙ ap (λ y. Some y) v.1, v.2)

      start : counted f (page_bodies client.0.start.value.items) ≡ 0
      start =
          let pages = ap (λ (y : RoguePart). pages_weigh f y.pages) client.2 ∙ ap (pages_weigh f) is.pages in
          omega (
            arith,
            pages_counted f client.0.start.value.items,
            pages,
            sum_by-append (page_weighs f) (pool_pages pools.rx) (pool_pages pools.tx),
            pool_all f pools.rx,
            pool_all f pools.tx,
            off_pool b pools.rx apart.0,
            off_pool b pools.tx apart.1,
          )

      -- by copier and sending virtualiser
      module _ (i : ℕ) (c : NetCopier) (c_at : slice_get actors i ≡ Some (Kinds.NetCopier c)) (c_is : Rattle.net_law.specs.Parts.Playing.copier_part c ≡ copier_at net.first k (policy_at net.drops k)) (v : NetVirtTx) (v_at : slice_get actors whole.sender.0 ≡ Some (Kinds.NetVirtTx v)) (v_is : send_part v ≡ sender_at net.first net.most net.pools) where
        queues : (c.lease_input.queue.0 ≡ client_first net.first k) × (c.lease_output.queue.0 ≡ client_first net.first k + 1) × (c.buffer_output.queue.0 ≡ client_first net.first k + 2) × (c.buffer_input.queue.0 ≡ client_first net.first k + 3)
        queues = copier_queues rows place actors after m a net.first k (policy_at net.drops k) c c_is

        leases : weighed f (after.taken c.lease_input.queue.0) ≡ 0
        leases =
            let wi : w c.lease_input.queue.0 ≡ false = ap w queues.0 ∙ (lease_calm rows place actors after m a net here whole k under).0 in
            let names = part_names rows place actors after m a i (part_of (Kinds.NetCopier c)) (map_get part_of actors i (Kinds.NetCopier c) c_at) refl in
            none_weighs b (after.taken c.lease_input.queue.0) (λ h x x_at.
            let pre = a.work.hands_over c.lease_input.queue.0 in
            carries_none here_ m c.lease_input.queue.0 (names.0.0, inl (at_calm (naming rows place actors after m a) w c.lease_input.queue.0 wi ∙ names.0.1)) h x (carry c.lease_input.queue.0 wi h x (ap (λ l. slice_get l h) (sym pre.1) ∙ get_first (after.taken c.lease_input.queue.0) pre.0 h x x_at)) b)

        fits : FitsActor a.ends (Kinds.NetVirtTx v)
        fits = a.work.fits whole.sender.0 (Kinds.NetVirtTx v) v_at

        many : length (senders v.work) ≡ length v.work.clients.items
        many = length-map v.work.clients.items (λ (y : Client). y.sender)

        own : (v.ends.output.queue.0 ≡ net.first + 6) × (v.ends.input.queue.0 ≡ net.first + 7) × (Rattle.net_law.specs.TxParts.Playing.shippers (senders v.work) (from_queues v.ends) (to_queues v.ends) ≡ Rattle.net_law.specs.TxParts.Numbers.shippers_from net.first net.most 0 net.pools)
        own = sender_queues net.first net.most net.pools v v_is

        ships : (length (senders v.work) ≡ length net.pools) × ((n : ℕ) (s : Rattle.net_virt_tx.specs.declared.descriptors.Sender.Sender) (q r : QueueId) → slice_get (senders v.work) n ≡ Some s → slice_get (from_queues v.ends) n ≡ Some q → slice_get (to_queues v.ends) n ≡ Some r → (p : ClientPools) × (slice_get net.pools n ≡ Some p) × Rattle.net_quiet.proofs.TxCast.Numbers.Ships net.first net.most (0 + n) s q r p)
        ships = shippers_are net.first net.most 0 (senders v.work) net.pools (from_queues v.ends) (to_queues v.ends) (let e = fits.from_each in omega (arith, e, many)) (let e = fits.to_each in omega (arith, e, many)) own.2

        few : k < length v.work.clients.items
        few = let lt = there_below net.pools k pools is.there in let e = ships.0 in omega (arith, lt, e, many)

        s_there : (s : Client) × (slice_get v.work.clients.items k ≡ Some s)
        s_there = there_is v.work.clients.items k few

        from_there : (q : QueueId) × (slice_get (from_queues v.ends) k ≡ Some q)
        from_there = there_is (from_queues v.ends) k (let e = fits.from_each in let lt = few in omega (arith, e, lt))

        to_there : (q : QueueId) × (slice_get (to_queues v.ends) k ≡ Some q)
        to_there = there_is (to_queues v.ends) k (let e = fits.to_each in let lt = few in omega (arith, e, lt))

        way : (down device up : Pipe) × IsWay down device up v.ends.input.queue.0 v.ends.output.queue.0 after
        way =
            let dx = map_from part_of actors whole.driver.0 (NetworkPart (driver_at net.first)) whole.driver.1 in
            let dr = driver_actor net.first dx.0 dx.2 in
            let ex = map_from part_of actors whole.device.0 (NetworkPart (device_at net.first (scene rows place actors after m a).frames net.device_drops)) whole.device.1 in
            let ev = device_actor net.first (scene rows place actors after m a).frames net.device_drops ex.0 ex.2 in
            let p = dr.0 in
            let e = ev.0 in
            let moves : PipesStandFor (four_pipes p.driver.pipes) after = a.work.stands whole.driver.0 (Kinds.EthDriver p) (dx.1 ∙ ap (λ y. Some y) dr.1) in
            let wires : DeviceStandsFor e after = a.work.stands whole.device.0 (Kinds.EthDevice e) (ex.1 ∙ ap (λ y. Some y) ev.1) in
            let wire = device_sends net.first (scene rows place actors after m a).frames net.device_drops e ev.2 in
            let driven = driver_sends net.first p.driver.pipes dr.2 in (
              p.driver.pipes.rest.rest.first,
              e.wire.pipe,
              p.driver.pipes.rest.rest.rest,
              record {
                first = moves.1.1.0;
                second = wires.sends.moved;
                third = moves.1.1.1.0;
                to_driver = driven.0 ∙ sym own.0;
                to_device = wire.0 ∙ sym driven.1;
                from_device = driven.2 ∙ sym wire.1;
                from_driver = own.1 ∙ sym driven.3;
                begins = a.work.hands_over;
              },
            )

        -- its queues are closed
        module _ (s : Client) (s_at : slice_get v.work.clients.items k ≡ Some s) (sends returns : QueueId) (q_at : slice_get (from_queues v.ends) k ≡ Some sends) (r_at : slice_get (to_queues v.ends) k ≡ Some returns) where
          told : (p : ClientPools) × (slice_get net.pools k ≡ Some p) × Rattle.net_quiet.proofs.TxCast.Numbers.Ships net.first net.most (0 + k) s.sender sends returns p
          told = ships.1 k s.sender sends returns (map_get (λ (y : Client). y.sender) v.work.clients.items k s s_at) q_at r_at

          sends_is : sends.0 ≡ client_first net.first k + 4
          sends_is = let e = told.2.1 in omega (arith, e)

          returns_is : returns.0 ≡ client_first net.first k + 5
          returns_is = let e = told.2.2 in omega (arith, e)

          pool_is : s.sender.pool.0 ≡ pools.tx.number
          pool_is = ap (λ (p : PoolAt). p.number) told.2.0 ∙ ap (λ (p : ClientPools). p.tx.number) (some_is (sym told.1 ∙ is.there))

          spared : Spares f s.sender.pool
          spared number long = ap (λ t. if t && (number == b.no) then 1 else 0) (ap (λ n. n == b.pool) pool_is ∙ apart.1)

          shut : IsClosed f (queues_of c sends returns) after
          shut = closed f client.0 c v k s sends returns after (record {
            client = a.work.stands j (Kinds.Rogue client.0) client.1;
            copier = a.work.stands i (Kinds.NetCopier c) c_at;
            sender = a.work.stands whole.sender.0 (Kinds.NetVirtTx v) v_at;
            inputs = ap (λ (y : RoguePart). y.inputs) client.2 ∙ (is.inputs ∙ ap₂ (λ x y. x ∷ y ∷ []) (sym queues.2) (sym returns_is));
            outputs = ap (λ (y : RoguePart). y.outputs) client.2 ∙ (is.outputs ∙ ap₂ (λ x y. x ∷ y ∷ []) (sym queues.3) (sym sends_is));
            there = s_at;
            from_it = q_at;
            to_it = r_at;
          }) leases start spared (back_good v after (a.work.stands whole.sender.0 (Kinds.NetVirtTx v) v_at) way.0 way.1 way.2 way.3 k s s_at) (copier_conserves c after (a.work.stands i (Kinds.NetCopier c) c_at))

          four_zero : (weighed f (after.sent (client_first net.first k + 2)) ≡ 0) × (weighed f (after.sent (client_first net.first k + 5)) ≡ 0) × (weighed f (after.sent (client_first net.first k + 3)) ≡ 0) × (weighed f (after.sent (client_first net.first k + 4)) ≡ 0)
          four_zero =
              let before : put_there f passed (queues_of c sends returns) ≡ 0 = omega (
                arith,
                four_put f passed c.buffer_output.queue.0 returns.0 c.buffer_input.queue.0 sends.0,
                none_weighs b (passed.sent c.buffer_output.queue.0) (none c.buffer_output.queue.0 (ap w queues.2 ∙ wilds.0)),
                none_weighs b (passed.sent returns.0) (none returns.0 (ap w returns_is ∙ wilds.1)),
                none_weighs b (passed.sent c.buffer_input.queue.0) (none c.buffer_input.queue.0 (ap w queues.3 ∙ wilds.2)),
                none_weighs b (passed.sent sends.0) (none sends.0 (ap w sends_is ∙ wilds.3)),
              ) in
              let all = goes_on f (queues_of c sends returns) passed d began shut before in
              let parts_ = four_put f after c.buffer_output.queue.0 returns.0 c.buffer_input.queue.0 sends.0 in
              let one = ap (λ n. weighed f (after.sent n)) queues.2 in
              let two = ap (λ n. weighed f (after.sent n)) returns_is in
              let three = ap (λ n. weighed f (after.sent n)) queues.3 in
              let four = ap (λ n. weighed f (after.sent n)) sends_is in
              (omega (arith, all, parts_, one), omega (arith, all, parts_, two), omega (arith, all, parts_, three), omega (arith, all, parts_, four))

      net_zero : (weighed f (after.sent (client_first net.first k + 2)) ≡ 0) × (weighed f (after.sent (client_first net.first k + 5)) ≡ 0) × (weighed f (after.sent (client_first net.first k + 3)) ≡ 0) × (weighed f (after.sent (client_first net.first k + 4)) ≡ 0)
      net_zero =
          let c = copier in
          let v = sender in
          let s = s_there c.0 c.1 c.2 c.3 v.0 v.1 v.2 in
          let q = from_there c.0 c.1 c.2 c.3 v.0 v.1 v.2 in
          let r = to_there c.0 c.1 c.2 c.3 v.0 v.1 v.2 in
          four_zero c.0 c.1 c.2 c.3 v.0 v.1 v.2 s.0 s.1 q.0 r.0 q.1 r.1

    -- a hostile client of the block class
    module _ (asks : RoguesAsk w place after) (blk : BlkPlace) (here : place.blk ≡ Some blk) (k : ℕ) (pool : PoolAt) (j : ℕ) (rogue : RoguePart) (at : slice_get parts j ≡ Some (HostilePart rogue)) (is : IsBlkRogue rows blk k pool rogue) where
      abbrev has : HasBlk rows blk parts
      has = (blk_whole rows place.net place.blk parts a.placed.net a.placed.blk a.placed.rogues a.seated a.filled blk here).0

      both_wild : (w (blk.first + 5 + 2 * k) ≡ true) × (w (blk.first + 4 + 2 * k) ≡ true)
      both_wild = blk_wild rows place.net place.blk parts a.placed.net a.placed.blk a.placed.rogues a.seated a.filled blk k pool j rogue at is

      distinct : (pool.number == b.pool) ≡ false
      distinct = blk_in w blk.first 0 blk.pools k pool b.pool is.there (let plus : k ≡ 0 + k = omega arith in ap (λ n. w (blk.first + 4 + 2 * n)) (sym plus) ∙ both_wild.1) (ap (λ o. in_blk w o b.pool) (sym here) ∙ none_blk)

      abbrev asker : (r : Rogue) × (slice_get actors j ≡ Some (Kinds.Rogue r)) × (rogue_part r (left_at_start r) ≡ rogue)
      asker =
          let x = map_from part_of actors j (HostilePart rogue) at in
          let r = rogue_actor x.0 rogue x.2 in
          (r.0, x.1 ∙ ap (λ y. Some y) r.1, r.2)

      server : (v : Rattle.blk_virt.specs.declared.virtualiser.BlkVirt.BlkVirt) × (slice_get actors has.virt.0 ≡ Some (Kinds.BlkVirt v)) × (Rattle.blk_law.specs.Sheets.Playing.virt_part v ≡ virt_at blk)
      server =
          let x = map_from part_of actors has.virt.0 (BlockPart (virt_at blk)) has.virt.1 in
          let v = virt_actor blk x.0 x.2 in
          (v.0, x.1 ∙ ap (λ y. Some y) v.1, v.2)

      began_with : counted f (page_bodies asker.0.start.value.items) ≡ 0
      began_with =
          let pages = ap (λ (y : RoguePart). pages_weigh f y.pages) asker.2 ∙ ap (pages_weigh f) is.pages in
          omega (arith, pages_counted f asker.0.start.value.items, pages, pool_all f pool, off_pool b pool distinct)

      module _ (v : Rattle.blk_virt.specs.declared.virtualiser.BlkVirt.BlkVirt) (v_at : slice_get actors has.virt.0 ≡ Some (Kinds.BlkVirt v)) (v_is : Rattle.blk_law.specs.Sheets.Playing.virt_part v ≡ virt_at blk) where
        v_fits : FitsActor a.ends (Kinds.BlkVirt v)
        v_fits = a.work.fits has.virt.0 (Kinds.BlkVirt v) v_at

        shared : (length (holders v.work.desk) ≡ length blk.entries) × ((n : ℕ) (h : Rattle.blk_virt.specs.declared.requests.Holder.Holder) (q r : QueueId) → slice_get (holders v.work.desk) n ≡ Some h → slice_get (from_queues v.ends) n ≡ Some q → slice_get (to_queues v.ends) n ≡ Some r → (entry : ℕ) × (p : PoolAt) × (slice_get blk.entries n ≡ Some entry) × (slice_get blk.pools n ≡ Some p) × Rattle.blk_quiet.proofs.CastLemmas.Numbers.Shares blk.first (0 + n) h q r entry p)
        shared = sharers_are blk.first 0 (holders v.work.desk) blk.entries blk.pools (from_queues v.ends) (to_queues v.ends) v_fits.0.from_each v_fits.0.to_each has.pools_many (virt_queues blk v v_is).3

        holders_many : length (holders v.work.desk) ≡ length v.work.desk.clients.items
        holders_many = length-map v.work.desk.clients.items (λ (y : Asker). y.holder)

        below : k < length (holders v.work.desk)
        below = let lt = there_below blk.pools k pool is.there in let e = shared.0 in omega (arith, lt, e, has.pools_many)

        c_there : (c : Asker) × (slice_get v.work.desk.clients.items k ≡ Some c)
        c_there = there_is v.work.desk.clients.items k (let lt = below in omega (arith, lt, holders_many))

        q_there : (q : QueueId) × (slice_get (from_queues v.ends) k ≡ Some q)
        q_there = there_is (from_queues v.ends) k (let lt = below in let e = v_fits.0.from_each in omega (arith, lt, e))

        r_there : (q : QueueId) × (slice_get (to_queues v.ends) k ≡ Some q)
        r_there = there_is (to_queues v.ends) k (let lt = below in let e = v_fits.0.to_each in omega (arith, lt, e))

        module _ (c : Asker) (c_at : slice_get v.work.desk.clients.items k ≡ Some c) (reqs resps : QueueId) (q_at : slice_get (from_queues v.ends) k ≡ Some reqs) (r_at : slice_get (to_queues v.ends) k ≡ Some resps) where
          shares : (entry : ℕ) × (p : PoolAt) × (slice_get blk.entries k ≡ Some entry) × (slice_get blk.pools k ≡ Some p) × Rattle.blk_quiet.proofs.CastLemmas.Numbers.Shares blk.first (0 + k) c.holder reqs resps entry p
          shares = shared.1 k c.holder reqs resps (map_get (λ (y : Asker). y.holder) v.work.desk.clients.items k c c_at) q_at r_at

          reqs_is : reqs.0 ≡ blk.first + 4 + 2 * k
          reqs_is = let e = shares.4.2 in omega (arith, e)

          resps_is : resps.0 ≡ blk.first + 5 + 2 * k
          resps_is = let e = shares.4.3 in omega (arith, e)

          number_is : c.holder.pool.0 ≡ pool.number
          number_is = ap (λ (p : PoolAt). p.number) shares.4.0 ∙ ap (λ (p : PoolAt). p.number) (some_is (sym shares.3 ∙ is.there))

          spares : Spares f c.holder.pool
          spares number long = ap (λ t. if t && (number == b.no) then 1 else 0) (ap (λ n. n == b.pool) number_is ∙ distinct)

          moves : AllMove (after.taken reqs.0)
          moves =
              let all = asks blk here k pool is.there both_wild.1 in
              let pre = a.work.hands_over (blk.first + 4 + 2 * k) in
              subst (λ n. AllMove (after.taken n)) (sym reqs_is) (first_move (after.taken (blk.first + 4 + 2 * k)) pre.0 (subst AllMove (sym pre.1) all))

          closed_too : IsClosed f (blk_queues reqs resps) after
          closed_too = asked_closed f asker.0 v k c reqs resps after (record {
            client = a.work.stands j (Kinds.Rogue asker.0) asker.1;
            virt = a.work.stands has.virt.0 (Kinds.BlkVirt v) v_at;
            inputs = ap (λ (y : RoguePart). y.inputs) asker.2 ∙ (is.inputs ∙ ap (λ x. x ∷ []) (sym resps_is));
            outputs = ap (λ (y : RoguePart). y.outputs) asker.2 ∙ (is.outputs ∙ ap (λ x. x ∷ []) (sym reqs_is));
            there = c_at;
            from_it = q_at;
            to_it = r_at;
            moves = moves;
          }) began_with spares

          two_zero : (weighed f (after.sent (blk.first + 5 + 2 * k)) ≡ 0) × (weighed f (after.sent (blk.first + 4 + 2 * k)) ≡ 0)
          two_zero =
              let before : put_there f passed (blk_queues reqs resps) ≡ 0 = omega (arith, two_put f passed resps.0 reqs.0, none_weighs b (passed.sent resps.0) (none resps.0 (ap w resps_is ∙ both_wild.0)), none_weighs b (passed.sent reqs.0) (none reqs.0 (ap w reqs_is ∙ both_wild.1))) in
              let all = goes_on f (blk_queues reqs resps) passed d began closed_too before in
              let parts_ = two_put f after resps.0 reqs.0 in
              let one = ap (λ n. weighed f (after.sent n)) resps_is in
              let two = ap (λ n. weighed f (after.sent n)) reqs_is in
              (omega (arith, all, parts_, one), omega (arith, all, parts_, two))

      blk_zero : (weighed f (after.sent (blk.first + 5 + 2 * k)) ≡ 0) × (weighed f (after.sent (blk.first + 4 + 2 * k)) ≡ 0)
      blk_zero =
          let v = server in
          let c = c_there v.0 v.1 v.2 in
          let q = q_there v.0 v.1 v.2 in
          let r = r_there v.0 v.1 v.2 in
          two_zero v.0 v.1 v.2 c.0 c.1 q.0 r.0 q.1 r.1

    -- so none is at any queue with a hostile end
    pub none_after : RoguesAsk w place after → (n : ℕ) → w n ≡ true → (k : ℕ) (c : Cargo) → slice_get (after.sent n) k ≡ Some c → as_page b c.1 ≡ 0
    none_after asks n is k c at =
        let x = wild_whose rows place.net place.blk parts a.placed.net a.placed.blk a.placed.rogues a.seated a.filled n is in
        weighs_none b (after.sent n) (by x.2 x.4) k c at
      where
        light : (q : ℕ) → n ≡ q → weighed f (after.sent q) ≡ 0 → weighed f (after.sent n) ≡ 0
        light q same e = ap (λ z. weighed f (after.sent z)) same ∙ e

        by : (r : Role) → NetHere rows place.net place.blk parts a.placed.net a.placed.blk a.placed.rogues a.seated a.filled n r ⊎ BlkHere rows place.net place.blk parts a.placed.net a.placed.blk a.placed.rogues a.seated a.filled n r → weighed f (after.sent n) ≡ 0
        by r (inl h) = side h.end
          where
            zeros : (weighed f (after.sent (client_first h.net.first h.k + 2)) ≡ 0) × (weighed f (after.sent (client_first h.net.first h.k + 5)) ≡ 0) × (weighed f (after.sent (client_first h.net.first h.k + 3)) ≡ 0) × (weighed f (after.sent (client_first h.net.first h.k + 4)) ≡ 0)
            zeros = net_zero h.net h.here h.k h.pools h.j h.rogue h.at h.is

            side : NetEnd rows place.net place.blk parts a.placed.net a.placed.blk a.placed.rogues a.seated a.filled h.net h.k r n → weighed f (after.sent n) ≡ 0
            side (inl e) = light _ e.1 zeros.0
            side (inr (inl e)) = light _ e.1 zeros.1
            side (inr (inr (inl e))) = light _ e.1 zeros.2
            side (inr (inr (inr e))) = light _ e.1 zeros.3
        by r (inr h) = side h.end
          where
            zeros : (weighed f (after.sent (h.blk.first + 5 + 2 * h.k)) ≡ 0) × (weighed f (after.sent (h.blk.first + 4 + 2 * h.k)) ≡ 0)
            zeros = blk_zero asks h.blk h.here h.k h.pool h.j h.rogue h.at h.is

            side : BlkEnd rows place.net place.blk parts a.placed.net a.placed.blk a.placed.rogues a.seated a.filled h.blk h.k r n → weighed f (after.sent n) ≡ 0
            side (inl e) = light _ e.1 zeros.0
            side (inr e) = light _ e.1 zeros.1
