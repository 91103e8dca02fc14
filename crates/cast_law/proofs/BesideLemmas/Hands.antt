-- Each actor hands pages on at its queues without a hostile end, where what it took there carries what
-- is named.
use Rattle.std.proofs.Common.{◌≡◌, ◌⊎◌, ◌==◌, ◌&&◌, ◌+◌, ◌*◌, ◌++◌, ◌<◌, ℕ, zero, suc, Bool, true, false, cond, Option, None, Some, List, [], ◌∷◌, append_assoc, flat_map, length, slice_get, refl, sym, ap, ◌∙◌, subst, arith, inl, inr}
use Rattle.cargo_core.specs.Lists.{IsPrefix}
use Rattle.cargo_core.specs.declared.item.Body.{Body}
use Rattle.cargo_core.specs.declared.item.Body.TheVariants as Carried
use Rattle.frame_core.specs.declared.mac.Mac.{Mac}
use Rattle.wire_core.specs.Bells.{bit}
use Rattle.wire_core.specs.declared.names.QueueRow.{QueueRow}
use Rattle.wire_core.specs.Deeds.{Cargo}
use Rattle.wire_core.specs.Ends.{Consumer, Producer}
use Rattle.wire_core.specs.Lists.{Passed}
use Rattle.turn_kit.specs.Hands.{bodies_at}
use Rattle.play_core.specs.Manners.{Calm}
use Rattle.play_core.specs.Moved.{Moved, Seat}
use Rattle.play_core.specs.Names.{Wild}
use Rattle.play_core.specs.Wants.{intake, outlet}
use Rattle.play_core.proofs.Lists.{some_is, map_get, there_below, there_is}
use Rattle.owner_law.specs.Things.{Buffer, Buffers, NoBuffers, Naming, as_buffer, requests_of, thing_at}
use Rattle.owner_law.specs.Pages.{as_page}
use Rattle.owner_law.specs.Pools.Handing.{AllCarry, HandsOn}
use Rattle.owner_law.specs.Pools.Places.{PoolAt, by_offset}
use Rattle.buffer_kit.specs.Conserving.{Count, counted, the_page, weight, weighed}
use Rattle.buffer_kit.specs.Virtualising.{from_queues, to_queues}
use Rattle.buffer_kit.proofs.Conserving.{counted-at}
use Rattle.net_copier.specs.declared.NetCopier.{NetCopier}
use Rattle.net_copier.proofs.Holding.{row_of as copier_row}
use Rattle.net_virt_tx.specs.declared.NetVirtTx.{NetVirtTx}
use Rattle.net_virt_tx.proofs.Rounds.{row_of as sender_row}
use Rattle.client_programs.specs.declared.rogue.Rogue.{Rogue}
use Rattle.net_law.specs.Owners.Names.{ClientPools}
use Rattle.net_law.specs.Parts.Parts.{Lessee}
use Rattle.net_law.specs.Parts.Numbers.{client_at, client_first, copier_at, driver_at, lessees_from, policy_at, receiver_at}
use Rattle.net_law.specs.Parts.Playing.{client_part, copier_part, device_part, driver_part, receiver_part}
use Rattle.eth_driver.specs.Four.{four_pipes}
use Rattle.device_model.specs.Disk.Disks.{req, resp}
use Rattle.client_programs.specs.Blk.Clients.{req_queue, resp_queue}
use Rattle.client_programs.specs.Rogue.Clients.{left_at_start}
use Rattle.net_law.proofs.PartsLemmas.Pairs.{twice, pair_first, pair_second}
use Rattle.net_law.specs.TxParts.Parts.{SendPart, Shipper}
use Rattle.net_law.specs.TxParts.Numbers.{NetPlace, own_pools, sender_at, shippers_from}
use Rattle.net_law.specs.TxParts.Playing.{send_part}
use Rattle.net_law.specs.TxParts.Table.{shipper_ends}
use Rattle.net_quiet.proofs.PoolsLemmas.Carrying.{leased_on}
use Rattle.net_law.specs.RxOwners.Virtualiser.{AreNet}
use Rattle.net_virt_tx.specs.Sending.{TxRow}
use Rattle.net_quiet.specs.TxOwners.Shipping.{device_windows}
use Rattle.net_quiet.proofs.TxCast.Numbers.{sender_queues}
use Rattle.blk_virt.specs.Desks.{holders}
use Rattle.blk_virt.specs.declared.virtualiser.BlkVirt.{BlkVirt}
use Rattle.blk_virt.proofs.Rows.{row_of as server_row}
use Rattle.blk_law.specs.Sheets.Parts.{Sharer}
use Rattle.blk_law.specs.Sheets.Numbers.{BlkPlace, blk_client_at, blk_driver_at, sharers_from, virt_at}
use Rattle.cargo_core.specs.Blocks.{blk_buffer_bytes}
use Rattle.cargo_core.specs.declared.item.Ask.{Ask}
use Rattle.blk_virt.specs.Virtualising.{BlkVirtRow}
use Rattle.blk_law.specs.Owners.Answering.{NamesAsked, disk_windows}
use Rattle.blk_law.specs.VirtScene.Playing.{BothInTurn}
use Rattle.blk_law.specs.Sheets.Playing.{sharers, virt_part}
use Rattle.blk_law.specs.Sheets.Table.{sharer_ends}
use Rattle.blk_quiet.proofs.CastLemmas.Numbers.{virt_queues}
use Rattle.wired_law.specs.PageLaw.WildPages.Rounds.{AllMove}
use Rattle.actor_set.specs.Parts.{HostilePart, Part, RoguePart, ClientPart, NetworkPart, SendingPart, BlockPart}
use Rattle.actor_set.specs.Actors.{part_of, rogue_part}
use Rattle.actor_set.specs.declared.actor.Actor.{Actor}
use Rattle.actor_set.specs.declared.actor.Actor.TheVariants as Kinds
use Rattle.actor_set.specs.Laws.Kinds.{manner_of, sheet}
use Rattle.actor_set.specs.Laws.Turning.{InTurn}
use Rattle.actor_set.specs.Rogues.{pages_weigh}
use Rattle.actor_set.proofs.LawsLemmas.Starts.{fits_whole}
use Rattle.actor_set.proofs.RogueLemmas.Ends.{pages_counted}
use Rattle.wired_law.specs.Wiring.{HasWhole, IsOfNetwork}
use Rattle.wired_law.proofs.Wiring.{sender_is}
use Rattle.wired_law.proofs.Blocks.{virt_is}
use Rattle.cast_law.specs.Pools.Beside.{RoguesAsk}
use Rattle.cast_law.specs.Pools.Holders.{NamesAt}
use Rattle.cast_law.specs.Pools.Places.{HasBlkAt, HasNetAt, PoolPlace}
use Rattle.cast_law.specs.Pools.Rogues.{IsBareRogue, IsBlkRogue, IsNetRogue}
use Rattle.cast_law.proofs.PoolsLemmas.Acting.{actor_on}
use Rattle.cast_law.proofs.PoolsLemmas.Calmed.{IsLike}
use Rattle.cast_law.proofs.BesideLemmas.Around.{Around, cast, scene, wild, naming, off, actor_takes, calm_end, client_there, asks_calm, in_order, like_there, part_names, quiet, stand_names}
use Rattle.cast_law.proofs.BesideLemmas.Naming.{AllCalmEnds, at_calm, client_off, disk_off, driver_off, nothing_at_off, part_off}
use Rattle.cast_law.proofs.BesideLemmas.Queues.{IsServing, NetEnd, BlkEnd, bare_ends_of, byte_calm, net_end, blk_end, net_wild, blk_wild}
use Rattle.cast_law.proofs.BesideLemmas.Sending.{given_on, sends_on}
use Rattle.cast_law.proofs.BesideLemmas.Serving.{asks_on, given}

-- at ends whose queues have no hostile end
module _ (quiet_naming : Naming) (off_queues : Wild) (m : Moved) (passed : Passed) where
  abbrev pub TakesCalm : List Seat → Type 0
  TakesCalm ends = (i : ℕ) (s : Seat) → slice_get ends i ≡ Some s → s.role ≡ Consumer → off_queues s.queue ≡ false → AllCarry quiet_naming m s.queue (passed.taken s.queue)

  abbrev pub PutsCalm : List Seat → Type 0
  PutsCalm ends = (i : ℕ) (s : Seat) → slice_get ends i ≡ Some s → s.role ≡ Producer → off_queues s.queue ≡ false → AllCarry quiet_naming m s.queue (passed.sent s.queue)

  calm_none : PutsCalm []
  calm_none i s at role w = cc

  calm_in : (n : ℕ) (rest : List Seat) → PutsCalm rest → PutsCalm (intake n ∷ rest)
  calm_in n rest puts zero s at role w = let same : Consumer ≡ Producer = ap (λ (x : Seat). x.role) (some_is at) ∙ role in cc
  calm_in n rest puts (suc i) s at role w = puts i s at role w

  calm_out : (n : ℕ) (rest : List Seat) → (off_queues n ≡ false → AllCarry quiet_naming m n (passed.sent n)) → PutsCalm rest → PutsCalm (outlet n ∷ rest)
  calm_out n rest here puts zero s at role w = subst (λ (x : Seat). AllCarry quiet_naming m x.queue (passed.sent x.queue)) (some_is at) (here (ap (λ (x : Seat). off_queues x.queue) (some_is at) ∙ w))
  calm_out n rest here puts (suc i) s at role w = puts i s at role w

  all_puts : (ends : List Seat) → HandsOn quiet_naming m passed ends → ((i : ℕ) (s : Seat) → slice_get ends i ≡ Some s → off_queues s.queue ≡ false) → TakesCalm ends → PutsCalm ends
  all_puts ends on calm takes i s at role w = on (λ j t t_at consumer. takes j t t_at consumer (calm j t t_at)) i s at role

  ships_on : (cs : List Shipper) → ((k : ℕ) (c : Shipper) → slice_get cs k ≡ Some c → off_queues c.free ≡ false → AllCarry quiet_naming m c.free (passed.sent c.free)) → PutsCalm (flat_map shipper_ends cs)
  ships_on [] each = calm_none
  ships_on (c ∷ cs) each =
      let rest : List Seat = flat_map shipper_ends cs in
      calm_in c.active (outlet c.free ∷ rest) (calm_out c.free rest (each 0 c refl) (ships_on cs (λ k d at. each (suc k) d at)))

  shares_on : (cs : List Sharer) → ((k : ℕ) (c : Sharer) → slice_get cs k ≡ Some c → off_queues c.resp ≡ false → AllCarry quiet_naming m c.resp (passed.sent c.resp)) → PutsCalm (flat_map sharer_ends cs)
  shares_on [] each = calm_none
  shares_on (c ∷ cs) each =
      let rest : List Seat = flat_map sharer_ends cs in
      calm_in c.req (outlet c.resp ∷ rest) (calm_out c.resp rest (each 0 c refl) (shares_on cs (λ k d at. each (suc k) d at)))

-- the clients of the virtualisers by their numbers
lessee_in : (first from : ℕ) (macs : List Mac) (k : ℕ) (mac : Mac) → slice_get macs k ≡ Some mac → (c : Lessee) × (slice_get (lessees_from first from macs) k ≡ Some c) × (c.active ≡ client_first first (from + k)) × (c.free ≡ client_first first (from + k) + 1)
lessee_in first from [] k mac at = cc
lessee_in first from (m ∷ macs) zero mac at = (record { active = client_first first from; free = client_first first from + 1; mac = m }, refl, omega arith, omega arith)
lessee_in first from (m ∷ macs) (suc k) mac at =
    let x = lessee_in first (from + 1) macs k mac at in
    (x.0, x.1, omega (arith, x.2), omega (arith, x.3))

pub shipper_from : (first most from : ℕ) (qs : List ClientPools) (k : ℕ) (c : Shipper) → slice_get (shippers_from first most from qs) k ≡ Some c → (q : ClientPools) × (slice_get qs k ≡ Some q) × (c.active ≡ client_first first (from + k) + 4) × (c.free ≡ client_first first (from + k) + 5)
shipper_from first most from [] k c at = cc
shipper_from first most from (q ∷ qs) zero c at =
    let same = some_is at in
    let active = ap (λ (s : Shipper). s.active) same in
    let free = ap (λ (s : Shipper). s.free) same in
    (q, refl, omega (arith, active), omega (arith, free))
shipper_from first most from (q ∷ qs) (suc k) c at =
    let x = shipper_from first most (from + 1) qs k c at in
    (x.0, x.1, omega (arith, x.2), omega (arith, x.3))

pub sharer_from : (first from : ℕ) (entries : List ℕ) (pools : List PoolAt) (k : ℕ) (c : Sharer) → slice_get (sharers_from first from entries pools) k ≡ Some c → (q : PoolAt) × (slice_get pools k ≡ Some q) × (c.req ≡ first + 4 + 2 * (from + k)) × (c.resp ≡ first + 5 + 2 * (from + k))
sharer_from first from [] pools k c at = cc
sharer_from first from (e ∷ entries) [] k c at = cc
sharer_from first from (e ∷ entries) (q ∷ pools) zero c at =
    let same = some_is at in
    let req = ap (λ (s : Sharer). s.req) same in
    let resp = ap (λ (s : Sharer). s.resp) same in
    (q, refl, omega (arith, req), omega (arith, resp))
sharer_from first from (e ∷ entries) (q ∷ pools) (suc k) c at =
    let x = sharer_from first (from + 1) entries pools k c at in
    (x.0, x.1, omega (arith, x.2), omega (arith, x.3))

-- a page weighs as often as it is this buffer
pub weighs_page : (b : Buffer) (body : Body) → weight (the_page (record { 0 = b.pool }) b.no) body ≡ as_page b body
weighs_page b Carried.Empty = refl
weighs_page b (Carried.Lease lease) = refl
weighs_page b (Carried.Page page) = by ((page.pool.0 == b.pool) && (page.no == b.no))
  where
    by : (t : Bool) → cond {A = ℕ} t 1 0 ≡ bit t
    by true = refl
    by false = refl

pub none_weighs : (b : Buffer) (cs : List Cargo) → ((k : ℕ) (c : Cargo) → slice_get cs k ≡ Some c → as_page b c.1 ≡ 0) → weighed (the_page (record { 0 = b.pool }) b.no) cs ≡ 0
none_weighs b [] none = refl
none_weighs b (c ∷ cs) none = omega (arith, weighs_page b c.1, none 0 c refl, none_weighs b cs (λ k d at. none (suc k) d at))

pub weighs_none : (b : Buffer) (cs : List Cargo) → weighed (the_page (record { 0 = b.pool }) b.no) cs ≡ 0 → (k : ℕ) (c : Cargo) → slice_get cs k ≡ Some c → as_page b c.1 ≡ 0
weighs_none b [] none k c at = cc
weighs_none b (d ∷ cs) none zero c at = let same = ap (λ (x : Cargo). as_page b x.1) (some_is at) in omega (arith, none, weighs_page b d.1, same)
weighs_none b (d ∷ cs) none (suc k) c at = weighs_none b cs (omega (arith, none)) k c at

pub first_move : (xs ys : List Cargo) → AllMove (xs ++ ys) → AllMove xs
first_move [] ys h = tt
first_move (x ∷ xs) ys h = (h.0, first_move xs ys h.1)

module _ (rows : List QueueRow) (place : PoolPlace) (actors : List Actor) (passed : Passed) (m : Moved) (a : Around rows place actors passed m) where
  abbrev parts : List Part
  parts = cast rows place actors passed m a

  abbrev w : Wild
  w = wild rows place actors passed m a

  abbrev here_ : Naming
  here_ = off rows place actors passed m a

  abbrev pub Ends : Part → List Seat
  Ends p = (sheet (scene rows place actors passed m a) p).ends

  abbrev Serves : Part → Type 0
  Serves p = IsServing rows place.net place.blk parts a.placed.net a.placed.blk a.placed.rogues a.seated a.filled p

  abbrev pub Takes : Part → Type 0
  Takes p = TakesCalm here_ w m passed (Ends p)

  abbrev pub Puts : Part → Type 0
  Puts p = PutsCalm here_ w m passed (Ends p)

  -- who serves no hostile client
  plain : (k : ℕ) (x : Actor) (at : slice_get actors k ≡ Some x) → manner_of (part_of x) ≡ Calm → AllCalmEnds (naming rows place actors passed m a) w (Ends (part_of x)) → NamesAt here_ (scene rows place actors passed m a) (part_of x) → InTurn (scene rows place actors passed m a) x passed → Takes (part_of x) → Puts (part_of x)
  plain k x at calm ends names turn takes =
      all_puts here_ w m passed (Ends (part_of x)) (actor_on here_ (scene rows place actors passed m a) passed m a.items (in_order rows place actors passed m a) x calm names (actor_takes rows place actors passed m a k x (map_get part_of actors k x at) calm) (fits_whole a.ends x (a.work.fits k x at)) turn (a.work.stands k x at)) ends takes

  ends_calm : (k : ℕ) (x : Actor) (at : slice_get actors k ≡ Some x) → manner_of (part_of x) ≡ Calm → (Serves (part_of x) → ⊥) → AllCalmEnds (naming rows place actors passed m a) w (Ends (part_of x))
  ends_calm k x at calm aloof = calm_end rows place actors passed m a k (part_of x) (map_get part_of actors k x at) calm aloof

  names_there : (k : ℕ) (x : Actor) (at : slice_get actors k ≡ Some x) → manner_of (part_of x) ≡ Calm → NamesAt (naming rows place actors passed m a) (scene rows place actors passed m a) (part_of x)
  names_there k x at calm = part_names rows place actors passed m a k (part_of x) (map_get part_of actors k x at) calm

  -- around the network
  module _ (net : NetPlace) (here : place.net ≡ Some net) (whole : HasWhole rows net parts) where
    driver_calm : (w (net.first + 6) ≡ false) × (w (net.first + 7) ≡ false)
    driver_calm = let all = calm_end rows place actors passed m a whole.driver.0 (NetworkPart (driver_at net.first)) whole.driver.1 refl aloof in (all 4 (intake (net.first + 6)) refl, all 7 (outlet (net.first + 7)) refl)
      where
        aloof : Serves (NetworkPart (driver_at net.first)) → ⊥
        aloof (inl x) = let e = x.5 in cc
        aloof (inr (inl x)) = let e = x.2 in cc
        aloof (inr (inr x)) = let e = x.2 in cc

    pub lease_calm : (k : ℕ) → k < length net.macs → (w (client_first net.first k) ≡ false) × (w (client_first net.first k + 1) ≡ false)
    lease_calm k lt =
        let mac = there_is net.macs k lt in
        let c = lessee_in net.first 0 net.macs k mac.0 mac.1 in
        let all = calm_end rows place actors passed m a whole.receiver.0 (NetworkPart (receiver_at net.first net.pool net.macs)) whole.receiver.1 refl aloof in
        let active : c.0.active ≡ client_first net.first k = (let e = c.2 in omega (arith, e)) in
        let free : c.0.free ≡ client_first net.first k + 1 = (let e = c.3 in omega (arith, e)) in (
          ap w (sym active) ∙ all (suc (suc (twice k))) (outlet c.0.active) (pair_first (λ (x : Lessee). outlet x.active) (λ x. intake x.free) (lessees_from net.first 0 net.macs) k c.0 c.1),
          ap w (sym free) ∙ all (suc (suc (suc (twice k)))) (intake c.0.free) (pair_second (λ (x : Lessee). outlet x.active) (λ x. intake x.free) (lessees_from net.first 0 net.macs) k c.0 c.1),
        )
      where
        aloof : Serves (NetworkPart (receiver_at net.first net.pool net.macs)) → ⊥
        aloof (inl x) = let e = x.5 in cc
        aloof (inr (inl x)) = let e = x.2 in cc
        aloof (inr (inr x)) = let e = x.2 in cc

    -- a client of which one queue has no hostile end has none at its other ones
    pub client_calm : (k : ℕ) (q : ClientPools) → slice_get net.pools k ≡ Some q → (w (client_first net.first k + 2) ≡ false) ⊎ (w (client_first net.first k + 5) ≡ false) → (w (client_first net.first k + 4) ≡ false) × (w (client_first net.first k + 3) ≡ false)
    client_calm k q at some = by (w (client_first net.first k + 4)) refl
      where
        aloof : (program : Rattle.class_expect.specs.NetExpect.Expecting.Program) (mac : Mac) → Serves (NetworkPart (client_at net.first k program mac (own_pools q))) → ⊥
        aloof program mac (inl x) = let e = x.5 in cc
        aloof program mac (inr (inl x)) = let e = x.2 in cc
        aloof program mac (inr (inr x)) = let e = x.2 in cc

        off_one : (w (client_first net.first k + 2) ≡ true) × (w (client_first net.first k + 5) ≡ true) × (w (client_first net.first k + 3) ≡ true) × (w (client_first net.first k + 4) ≡ true) → (w (client_first net.first k + 2) ≡ false) ⊎ (w (client_first net.first k + 5) ≡ false) → ⊥
        off_one all (inl e) = let one = all.0 in cc
        off_one all (inr e) = let one = all.1 in cc

        by : (t : Bool) → w (client_first net.first k + 4) ≡ t → (w (client_first net.first k + 4) ≡ false) × (w (client_first net.first k + 3) ≡ false)
        by true e =
            let r = a.placed.rogues.net net here k q at e in
            absurd (off_one (net_wild rows place.net place.blk parts a.placed.net a.placed.blk a.placed.rogues a.seated a.filled net here k q r.0 r.1 r.2 r.3) some)
        by false e =
            let below = there_below net.pools k q at in
            let mac = there_is net.macs k (omega (arith, below, whole.pools_many)) in
            let program = there_is net.programs k (omega (arith, below, whole.pools_many, whole.programs_many)) in
            let c = whole.client k program.0 mac.0 q (record { address = mac.1; pools = at; plays = program.1 }) e in
            (e, calm_end rows place actors passed m a c.0 (NetworkPart (client_at net.first k program.0 mac.0 (own_pools q))) c.1 refl (aloof program.0 mac.0) 1 (outlet (client_first net.first k + 3)) refl)

  copier_is : (net : NetPlace) (frames : List (List ℕ)) (c : NetCopier) → IsOfNetwork net frames (NetworkPart (copier_part c)) → (k : ℕ) × (k < length net.macs) × (copier_part c ≡ copier_at net.first k (policy_at net.drops k))
  copier_is net frames c (inl e) = absurd cc
  copier_is net frames c (inr (inl e)) = absurd cc
  copier_is net frames c (inr (inr (inl e))) = absurd cc
  copier_is net frames c (inr (inr (inr (inl e)))) = absurd cc
  copier_is net frames c (inr (inr (inr (inr (inl k))))) = let e = k.2 in (k.0, k.1, cc)
  copier_is net frames c (inr (inr (inr (inr (inr k))))) = let e = k.5 in absurd cc

  pub copier_queues : (first k : ℕ) (drops : Bool) (c : NetCopier) → copier_part c ≡ copier_at first k drops → (c.lease_input.queue.0 ≡ client_first first k) × (c.lease_output.queue.0 ≡ client_first first k + 1) × (c.buffer_output.queue.0 ≡ client_first first k + 2) × (c.buffer_input.queue.0 ≡ client_first first k + 3)
  copier_queues first k drops c e = (cc, cc, cc, cc)

  copier_puts : (j : ℕ) (c : NetCopier) (at : slice_get actors j ≡ Some (Kinds.NetCopier c)) → Takes (part_of (Kinds.NetCopier c)) → Puts (part_of (Kinds.NetCopier c))
  copier_puts j c at takes = by place.net refl a.placed.net
    where
      li : ℕ
      li = c.lease_input.queue.0

      part_at : slice_get parts j ≡ Some (NetworkPart (copier_part c))
      part_at = map_get part_of actors j (Kinds.NetCopier c) at

      names : NamesAt (naming rows place actors passed m a) (scene rows place actors passed m a) (part_of (Kinds.NetCopier c))
      names = names_there j (Kinds.NetCopier c) at refl

      leases : w c.lease_input.queue.0 ≡ false → w c.lease_output.queue.0 ≡ false → AllCarry here_ m c.lease_output.queue.0 (passed.sent c.lease_output.queue.0)
      leases wi wo =
          let row = copier_row c passed (a.work.stands j (Kinds.NetCopier c) at) in
          let back : IsPrefix (passed.sent c.lease_output.queue.0) (passed.taken c.lease_input.queue.0) = (row.gives_back.0 ++ row.stray, sym (append_assoc (passed.sent c.lease_output.queue.0) row.gives_back.0 row.stray) ∙ (ap (λ xs. xs ++ row.stray) row.gives_back.1 ∙ sym row.taken)) in
          leased_on here_ m c.lease_input.queue.0 c.lease_output.queue.0 (names.0.0, inl (at_calm (naming rows place actors passed m a) w c.lease_input.queue.0 wi ∙ names.0.1)) (names.0.0, inr (at_calm (naming rows place actors passed m a) w c.lease_output.queue.0 wo ∙ names.0.2)) (passed.taken c.lease_input.queue.0) (passed.sent c.lease_output.queue.0) back (takes 0 (intake c.lease_input.queue.0) refl refl wi)

      four_calm : w c.lease_input.queue.0 ≡ false → w c.buffer_input.queue.0 ≡ false → w c.buffer_output.queue.0 ≡ false → w c.lease_output.queue.0 ≡ false → AllCalmEnds (naming rows place actors passed m a) w (Ends (part_of (Kinds.NetCopier c)))
      four_calm e f g h zero s s_at = ap (λ (x : Seat). w x.queue) (sym (some_is s_at)) ∙ e
      four_calm e f g h (suc zero) s s_at = ap (λ (x : Seat). w x.queue) (sym (some_is s_at)) ∙ f
      four_calm e f g h (suc (suc zero)) s s_at = ap (λ (x : Seat). w x.queue) (sym (some_is s_at)) ∙ g
      four_calm e f g h (suc (suc (suc zero))) s s_at = ap (λ (x : Seat). w x.queue) (sym (some_is s_at)) ∙ h
      four_calm e f g h (suc (suc (suc (suc i)))) s s_at = cc

      by : (o : Option NetPlace) → place.net ≡ o → HasNetAt rows o parts → Puts (part_of (Kinds.NetCopier c))
      by None here none = absurd (none.none j (copier_part c) part_at)
      by (Some net) here has =
          let k = copier_is net (scene rows place actors passed m a).frames c (has.0.only j (copier_part c) part_at) in
          let queues = copier_queues net.first k.0 (policy_at net.drops k.0) c k.2 in
          let lease = lease_calm net here has.0 k.0 k.1 in
          let wi : w c.lease_input.queue.0 ≡ false = ap w queues.0 ∙ lease.0 in
          let wo : w c.lease_output.queue.0 ≡ false = ap w queues.1 ∙ lease.1 in
          let pool = there_is net.pools k.0 (let lt = k.1 in omega (arith, lt, has.0.pools_many)) in
          side wi wo (w c.buffer_output.queue.0) refl (λ e. ap w queues.3 ∙ (client_calm net here has.0 k.0 pool.0 pool.1 (inl (ap w (sym queues.2) ∙ e))).1)
        where
          side : w c.lease_input.queue.0 ≡ false → w c.lease_output.queue.0 ≡ false → (t : Bool) → w c.buffer_output.queue.0 ≡ t → (w c.buffer_output.queue.0 ≡ false → w c.buffer_input.queue.0 ≡ false) → Puts (part_of (Kinds.NetCopier c))
          side wi wo true e back =
              let lo = c.lease_output.queue.0 in
              let last : List Seat = outlet lo ∷ [] in
              let second : List Seat = outlet c.buffer_output.queue.0 ∷ last in
              let first : List Seat = intake c.buffer_input.queue.0 ∷ second in
              calm_in here_ w m passed c.lease_input.queue.0 first (calm_in here_ w m passed c.buffer_input.queue.0 second (calm_out here_ w m passed c.buffer_output.queue.0 last (λ f. absurd cc) (calm_out here_ w m passed lo [] (leases wi) (calm_none here_ w m passed))))
          side wi wo false e back =
              let ends = four_calm wi (back e) e wo in
              plain j (Kinds.NetCopier c) at refl ends (part_off (naming rows place actors passed m a) w (scene rows place actors passed m a) (copier_part c) ends names) (a.told j (Kinds.NetCopier c) at) takes

  sender_puts : (j : ℕ) (v : NetVirtTx) (at : slice_get actors j ≡ Some (Kinds.NetVirtTx v)) → Takes (part_of (Kinds.NetVirtTx v)) → Puts (part_of (Kinds.NetVirtTx v))
  sender_puts j v at takes = by place.net refl a.placed.net
    where
      part_at : slice_get parts j ≡ Some (SendingPart (send_part v))
      part_at = map_get part_of actors j (Kinds.NetVirtTx v) at

      names : NamesAt (naming rows place actors passed m a) (scene rows place actors passed m a) (part_of (Kinds.NetVirtTx v))
      names = names_there j (Kinds.NetVirtTx v) at refl

      by : (o : Option NetPlace) → place.net ≡ o → HasNetAt rows o parts → Puts (part_of (Kinds.NetVirtTx v))
      by None here none = absurd (none.no_sender j (send_part v) part_at)
      by (Some net) here has =
          let i = v.ends.input.queue.0 in
          let o = v.ends.output.queue.0 in
          let rest : List Seat = flat_map shipper_ends (send_part v).clients in
          calm_in here_ w m passed i (outlet o ∷ rest) (calm_out here_ w m passed o rest (λ e. sends_on here_ passed m v active free took row) (ships_on here_ w m passed (send_part v).clients given_to))
        where
          part_is : send_part v ≡ sender_at net.first net.most net.pools
          part_is = sender_is net (scene rows place actors passed m a).frames v (has.0.only_sender j (send_part v) part_at)

          wi : w v.ends.input.queue.0 ≡ false
          wi = ap w (sender_queues net.first net.most net.pools v part_is).1 ∙ (driver_calm net here has.0).1

          wo : w v.ends.output.queue.0 ≡ false
          wo = ap w (sender_queues net.first net.most net.pools v part_is).0 ∙ (driver_calm net here has.0).0

          active : here_ v.ends.output.queue.0 ≡ Buffers (device_windows (send_part v).clients)
          active = at_calm (naming rows place actors passed m a) w v.ends.output.queue.0 wo ∙ names.active

          free : here_ v.ends.input.queue.0 ≡ Buffers (device_windows (send_part v).clients)
          free = at_calm (naming rows place actors passed m a) w v.ends.input.queue.0 wi ∙ names.free

          took : AreNet (passed.taken v.ends.input.queue.0)
          took = actor_takes rows place actors passed m a j (Kinds.NetVirtTx v) part_at refl

          row : TxRow v passed
          row = sender_row v passed (a.work.stands j (Kinds.NetVirtTx v) at)

          given_to : (k : ℕ) (c : Shipper) → slice_get (send_part v).clients k ≡ Some c → w c.free ≡ false → AllCarry here_ m c.free (passed.sent c.free)
          given_to k c c_at e =
              let x = shipper_from net.first net.most 0 net.pools k c (ap (λ (y : SendPart). slice_get y.clients k) (sym part_is) ∙ c_at) in
              let active_is : c.active ≡ client_first net.first k + 4 = (let q = x.2 in omega (arith, q)) in
              let free_is : c.free ≡ client_first net.first k + 5 = (let q = x.3 in omega (arith, q)) in
              let wa : w c.active ≡ false = ap w active_is ∙ (client_calm net here has.0 k x.0 x.1 (inr (ap w (sym free_is) ∙ e))).0 in
              let seat = pair_first (λ (d : Shipper). intake d.active) (λ d. outlet d.free) (send_part v).clients k c c_at in
              given_on here_ passed m v active free took row (takes 0 (intake v.ends.input.queue.0) refl refl wi) k c c_at (at_calm (naming rows place actors passed m a) w c.active wa ∙ names.sends k c c_at) (at_calm (naming rows place actors passed m a) w c.free e ∙ names.returns k c c_at) (takes (suc (suc (twice k))) (intake c.active) seat refl wa)

  virt_puts : RoguesAsk w place passed → (j : ℕ) (v : BlkVirt) (at : slice_get actors j ≡ Some (Kinds.BlkVirt v)) → Takes (part_of (Kinds.BlkVirt v)) → Puts (part_of (Kinds.BlkVirt v))
  virt_puts asks j v at takes = by place.blk refl a.placed.blk
    where
      part_at : slice_get parts j ≡ Some (BlockPart (virt_part v))
      part_at = map_get part_of actors j (Kinds.BlkVirt v) at

      names : NamesAt (naming rows place actors passed m a) (scene rows place actors passed m a) (part_of (Kinds.BlkVirt v))
      names = names_there j (Kinds.BlkVirt v) at refl

      by : (o : Option BlkPlace) → place.blk ≡ o → HasBlkAt rows o parts → Puts (part_of (Kinds.BlkVirt v))
      by None here none = absurd (none j (virt_part v) part_at)
      by (Some blk) here has =
          let i = v.ends.input.queue.0 in
          let o = v.ends.output.queue.0 in
          let rest : List Seat = flat_map sharer_ends clients in
          calm_in here_ w m passed i (outlet o ∷ rest) (calm_out here_ w m passed o rest (λ e. asks_on here_ w (scene rows place actors passed m a).image passed m a.items (in_order rows place actors passed m a) v driver own names.1 first turn row moves took back) (shares_on here_ w m passed clients (λ k c c_at e. given here_ w (scene rows place actors passed m a).image passed m a.items (in_order rows place actors passed m a) v driver own names.1 first turn row moves took back k c c_at (asks_too k c c_at e))))
        where
          clients : List Sharer
          clients = sharers (holders v.work.desk) (from_queues v.ends) (to_queues v.ends)

          v_is : virt_part v ≡ virt_at blk
          v_is = virt_is blk v (has.0.only j (virt_part v) part_at)

          aloof : Serves (BlockPart (blk_driver_at blk.first)) → ⊥
          aloof (inl x) = let e = x.5 in cc
          aloof (inr (inl x)) = let e = x.2 in cc
          aloof (inr (inr x)) = let e = x.2 in cc

          drives : AllCalmEnds (naming rows place actors passed m a) w (Ends (BlockPart (blk_driver_at blk.first)))
          drives = calm_end rows place actors passed m a has.0.driver.0 (BlockPart (blk_driver_at blk.first)) has.0.driver.1 refl aloof

          wo : w v.ends.output.queue.0 ≡ false
          wo = ap w (virt_queues blk v v_is).0 ∙ drives 0 (intake (blk.first + 2)) refl

          wi : w v.ends.input.queue.0 ≡ false
          wi = ap w (virt_queues blk v v_is).1 ∙ drives 3 (outlet (blk.first + 3)) refl

          driver : NamesAsked here_ (disk_windows (record { number = v.work.opening.own.pool.0; base = v.work.opening.base; buffers = 1; size = blk_buffer_bytes }) (sharers (holders v.work.desk) (from_queues v.ends) (to_queues v.ends))) v.ends.output.queue.0 v.ends.input.queue.0
          driver = (at_calm (naming rows place actors passed m a) w v.ends.output.queue.0 wo ∙ names.0.0.0, at_calm (naming rows place actors passed m a) w v.ends.input.queue.0 wi ∙ names.0.0.1)

          -- a client by its number
          who : (k : ℕ) (c : Sharer) → slice_get (sharers (holders v.work.desk) (from_queues v.ends) (to_queues v.ends)) k ≡ Some c → (q : PoolAt) × (slice_get blk.pools k ≡ Some q) × (c.req ≡ blk.first + 4 + 2 * k) × (c.resp ≡ blk.first + 5 + 2 * k)
          who k c c_at =
              let x = sharer_from blk.first 0 blk.entries blk.pools k c (ap (λ (l : List Sharer). slice_get l k) (sym (virt_queues blk v v_is).3) ∙ c_at) in
              let req = x.2 in
              let resp = x.3 in
              (x.0, x.1, omega (arith, req), omega (arith, resp))

          asks_too : (k : ℕ) (c : Sharer) → slice_get clients k ≡ Some c → w c.resp ≡ false → w c.req ≡ false
          asks_too k c c_at e = let x = who k c c_at in ap w x.2 ∙ asks_calm rows place actors passed m a blk has.0 here k x.0 x.1 (ap w (sym x.3) ∙ e)

          distant : (k : ℕ) (q : PoolAt) (own_asks : List Ask) → Serves (BlockPart (blk_client_at blk.first k own_asks q)) → ⊥
          distant k q own_asks (inl x) = let e = x.5 in cc
          distant k q own_asks (inr (inl x)) = let e = x.2 in cc
          distant k q own_asks (inr (inr x)) = let e = x.2 in cc

          own : (k : ℕ) (c : Sharer) → slice_get (sharers (holders v.work.desk) (from_queues v.ends) (to_queues v.ends)) k ≡ Some c → w c.req ≡ false → NamesAsked here_ (by_offset c.pool ∷ []) c.req c.resp
          own k c c_at e =
              let x = who k c c_at in
              let client = client_there rows place actors passed m a blk has.0 here k x.0 x.1 (ap w (sym x.2) ∙ e) in
              let ends = calm_end rows place actors passed m a client.1.0 (BlockPart (blk_client_at blk.first k client.0 x.0)) client.1.1 refl (distant k x.0 client.0) in
              (at_calm (naming rows place actors passed m a) w c.req e ∙ (names.0.1 k c c_at).0, at_calm (naming rows place actors passed m a) w c.resp (ap w x.3 ∙ ends 0 (intake (blk.first + 5 + 2 * k)) refl) ∙ (names.0.1 k c c_at).1)

          first : v.work.opening.own.no ≡ 0
          first = (fits_whole a.ends (Kinds.BlkVirt v) (a.work.fits j (Kinds.BlkVirt v) at)).first

          turn : BothInTurn w (scene rows place actors passed m a).image v passed
          turn = (a.told j (Kinds.BlkVirt v) at).0

          row : BlkVirtRow v passed
          row = server_row v passed (a.work.stands j (Kinds.BlkVirt v) at)

          moves : (k : ℕ) (c : Sharer) → slice_get (sharers (holders v.work.desk) (from_queues v.ends) (to_queues v.ends)) k ≡ Some c → w c.req ≡ true → AllMove (passed.taken c.req)
          moves k c c_at e =
              let x = who k c c_at in
              let all = asks blk here k x.0 x.1 (ap w (sym x.2) ∙ e) in
              let pre = a.work.hands_over (blk.first + 4 + 2 * k) in
              subst (λ n. AllMove (passed.taken n)) (sym x.2) (first_move (passed.taken (blk.first + 4 + 2 * k)) pre.0 (subst AllMove (sym pre.1) all))

          took : (k : ℕ) (c : Sharer) → slice_get (sharers (holders v.work.desk) (from_queues v.ends) (to_queues v.ends)) k ≡ Some c → w c.req ≡ false → AllCarry here_ m c.req (passed.taken c.req)
          took k c c_at e = takes (suc (suc (twice k))) (intake c.req) (pair_first (λ (d : Sharer). intake d.req) (λ d. outlet d.resp) (sharers (holders v.work.desk) (from_queues v.ends) (to_queues v.ends)) k c c_at) refl e

          back : AllCarry here_ m v.ends.input.queue.0 (passed.taken v.ends.input.queue.0)
          back = takes 0 (intake v.ends.input.queue.0) refl refl wi

  -- a hostile client's queues have a hostile end, or it has no pages
  rogue_puts : (j : ℕ) (r : Rogue) (at : slice_get actors j ≡ Some (Kinds.Rogue r)) → Takes (part_of (Kinds.Rogue r)) → Puts (part_of (Kinds.Rogue r))
  rogue_puts j r at takes = let x = like_there rows place actors passed m a j (part_of (Kinds.Rogue r)) part_at in by x.0 x.1 x.2
    where
      part_at : slice_get parts j ≡ Some (part_of (Kinds.Rogue r))
      part_at = map_get part_of actors j (Kinds.Rogue r) at

      mine : (z : RoguePart) → part_of (Kinds.Rogue r) ≡ HostilePart z → z ≡ rogue_part r (left_at_start r)
      mine z e = cc

      bare : (q : Part) → slice_get (quiet rows place actors passed m a).parts j ≡ Some q → (is : IsBareRogue rows (rogue_part r (left_at_start r))) → q ≡ ClientPart is.input is.output [] → Puts (part_of (Kinds.Rogue r))
      bare q q_at is e =
          let ends = bare_ends_of rows place.net place.blk parts a.placed.net a.placed.blk a.placed.rogues a.seated a.filled (rogue_part r (left_at_start r)) is in
          subst (PutsCalm here_ w m passed) (sym ends) (calm_in here_ w m passed is.input (outlet is.output ∷ []) (calm_out here_ w m passed is.output [] (λ f. puts ends) (calm_none here_ w m passed)))
        where
          nothing : NamesAt (naming rows place actors passed m a) (scene rows place actors passed m a) (ClientPart is.input is.output [])
          nothing = stand_names rows place actors passed m a j (ClientPart is.input is.output []) (q_at ∙ ap Some e)

          none : NamesAt here_ (scene rows place actors passed m a) (ClientPart is.input is.output [])
          none = nothing_at_off (naming rows place actors passed m a) w (scene rows place actors passed m a) (ClientPart is.input is.output []) nothing

          zero_at : (n : ℕ) → here_ n ≡ NoBuffers → (k : ℕ) (c : Cargo) (b : Buffer) → as_buffer b (thing_at (here_ n) (requests_of (here_ n) m) k c.0) ≡ 0
          zero_at n e k c b = ap (λ names. as_buffer b (thing_at names (requests_of names m) k c.0)) e

          calm_input : w is.input ≡ false
          calm_input = byte_calm rows place.net place.blk parts a.placed.net a.placed.blk a.placed.rogues a.seated a.filled is.input is.takes

          puts : Ends (HostilePart (rogue_part r (left_at_start r))) ≡ intake is.input ∷ outlet is.output ∷ [] → AllCarry here_ m is.output (passed.sent is.output)
          puts ends k c c_at b =
              let f : Count = the_page (record { 0 = b.pool }) b.no in
              let took = takes 0 (intake is.input) (ap (λ l. slice_get l 0) ends) refl calm_input in
              let came = none_weighs b (passed.taken is.input) (λ h d d_at. took h d d_at b ∙ zero_at is.input (none 0 (intake is.input) refl) h d b) in
              let st = a.work.stands j (Kinds.Rogue r) at f in
              let start = pages_counted f r.start.value.items in
              let pages = ap (pages_weigh f) is.pages in
              let ins = ap (λ ns. counted f (bodies_at passed.taken ns)) is.inputs in
              let outs = ap (λ ns. counted f (bodies_at passed.sent ns)) is.outputs in
              let went : weighed f (passed.sent is.output) ≡ 0 = omega (arith, came, st, start, pages, ins, outs, counted-at f passed.taken is.input [], counted-at f passed.sent is.output []) in
              weighs_none b (passed.sent is.output) went k c c_at ∙ sym (zero_at is.output (none 1 (outlet is.output) refl) k c b)

      by : (q : Part) → slice_get (quiet rows place actors passed m a).parts j ≡ Some q → IsLike rows place.net place.blk (part_of (Kinds.Rogue r)) q → Puts (part_of (Kinds.Rogue r))
      by q q_at (inl (calm, e)) = absurd cc
      by q q_at (inr (z, e, inl f)) = λ i s s_at role e_. net_out i s s_at role e_
        where
          is : IsNetRogue f.net f.k f.pools (rogue_part r (left_at_start r))
          is = subst (IsNetRogue f.net f.k f.pools) (mine z e) f.rogue

          wilds : (w (client_first f.net.first f.k + 2) ≡ true) × (w (client_first f.net.first f.k + 5) ≡ true) × (w (client_first f.net.first f.k + 3) ≡ true) × (w (client_first f.net.first f.k + 4) ≡ true)
          wilds = net_wild rows place.net place.blk parts a.placed.net a.placed.blk a.placed.rogues a.seated a.filled f.net f.here f.k f.pools j (rogue_part r (left_at_start r)) part_at is

          net_out : PutsCalm here_ w m passed (Ends (part_of (Kinds.Rogue r)))
          net_out i s s_at role e_ = side (net_end rows place.net place.blk parts a.placed.net a.placed.blk a.placed.rogues a.seated a.filled f.net f.k f.pools (rogue_part r (left_at_start r)) is i s.role s.queue s_at)
            where
              two : (t : Bool) → t ≡ true → t ≡ false → ⊥
              two t g h = cc

              side : NetEnd rows place.net place.blk parts a.placed.net a.placed.blk a.placed.rogues a.seated a.filled f.net f.k s.role s.queue → AllCarry here_ m s.queue (passed.sent s.queue)
              side (inl g) = absurd (let same = sym g.0 ∙ role in cc)
              side (inr (inl g)) = absurd (let same = sym g.0 ∙ role in cc)
              side (inr (inr (inl g))) = absurd (two (w s.queue) (ap w g.1 ∙ wilds.2) e_)
              side (inr (inr (inr g))) = absurd (two (w s.queue) (ap w g.1 ∙ wilds.3) e_)
      by q q_at (inr (z, e, inr (inl f))) = λ i s s_at role e_. blk_out i s s_at role e_
        where
          is : IsBlkRogue rows f.blk f.k f.pool (rogue_part r (left_at_start r))
          is = subst (IsBlkRogue rows f.blk f.k f.pool) (mine z e) f.rogue

          wilds : (w (f.blk.first + 5 + 2 * f.k) ≡ true) × (w (f.blk.first + 4 + 2 * f.k) ≡ true)
          wilds = blk_wild rows place.net place.blk parts a.placed.net a.placed.blk a.placed.rogues a.seated a.filled f.blk f.k f.pool j (rogue_part r (left_at_start r)) part_at is

          blk_out : PutsCalm here_ w m passed (Ends (part_of (Kinds.Rogue r)))
          blk_out i s s_at role e_ = side (blk_end rows place.net place.blk parts a.placed.net a.placed.blk a.placed.rogues a.seated a.filled f.blk f.k f.pool (rogue_part r (left_at_start r)) is i s.role s.queue s_at)
            where
              two : (t : Bool) → t ≡ true → t ≡ false → ⊥
              two t g h = cc

              side : BlkEnd rows place.net place.blk parts a.placed.net a.placed.blk a.placed.rogues a.seated a.filled f.blk f.k s.role s.queue → AllCarry here_ m s.queue (passed.sent s.queue)
              side (inl g) = absurd (let same = sym g.0 ∙ role in cc)
              side (inr g) = absurd (two (w s.queue) (ap w g.1 ∙ wilds.1) e_)
      by q q_at (inr (z, e, inr (inr f))) = bare q q_at (subst (IsBareRogue rows) (mine z e) f.rogue) (f.is ∙ bare_same z f.rogue (mine z e))
        where
          bare_same : (y : RoguePart) (is : IsBareRogue rows y) (same : y ≡ rogue_part r (left_at_start r)) → ClientPart is.input is.output [] ≡ ClientPart (subst (IsBareRogue rows) same is).input (subst (IsBareRogue rows) same is).output []
          bare_same y is same = refl

  -- so does each actor
  pub each_puts : RoguesAsk w place passed → (k : ℕ) (x : Actor) → slice_get actors k ≡ Some x → Takes (part_of x) → Puts (part_of x)
  each_puts asks k (Kinds.UartDevice x) at takes = let ends = ends_calm k (Kinds.UartDevice x) at refl aloof in plain k (Kinds.UartDevice x) at refl ends (nothing_at_off (naming rows place actors passed m a) w (scene rows place actors passed m a) (part_of (Kinds.UartDevice x)) (names_there k (Kinds.UartDevice x) at refl)) (a.told k (Kinds.UartDevice x) at) takes
    where
      aloof : Serves (part_of (Kinds.UartDevice x)) → ⊥
      aloof (inl y) = let e = y.5 in cc
      aloof (inr (inl y)) = let e = y.2 in cc
      aloof (inr (inr y)) = let e = y.2 in cc
  each_puts asks k (Kinds.UartDriver x) at takes = let ends = ends_calm k (Kinds.UartDriver x) at refl aloof in plain k (Kinds.UartDriver x) at refl ends (nothing_at_off (naming rows place actors passed m a) w (scene rows place actors passed m a) (part_of (Kinds.UartDriver x)) (names_there k (Kinds.UartDriver x) at refl)) (a.told k (Kinds.UartDriver x) at) takes
    where
      aloof : Serves (part_of (Kinds.UartDriver x)) → ⊥
      aloof (inl y) = let e = y.5 in cc
      aloof (inr (inl y)) = let e = y.2 in cc
      aloof (inr (inr y)) = let e = y.2 in cc
  each_puts asks k (Kinds.SerialVirtRx x) at takes = let ends = ends_calm k (Kinds.SerialVirtRx x) at refl aloof in plain k (Kinds.SerialVirtRx x) at refl ends (nothing_at_off (naming rows place actors passed m a) w (scene rows place actors passed m a) (part_of (Kinds.SerialVirtRx x)) (names_there k (Kinds.SerialVirtRx x) at refl)) (a.told k (Kinds.SerialVirtRx x) at) takes
    where
      aloof : Serves (part_of (Kinds.SerialVirtRx x)) → ⊥
      aloof (inl y) = let e = y.5 in cc
      aloof (inr (inl y)) = let e = y.2 in cc
      aloof (inr (inr y)) = let e = y.2 in cc
  each_puts asks k (Kinds.SerialVirtTx x) at takes = let ends = ends_calm k (Kinds.SerialVirtTx x) at refl aloof in plain k (Kinds.SerialVirtTx x) at refl ends (nothing_at_off (naming rows place actors passed m a) w (scene rows place actors passed m a) (part_of (Kinds.SerialVirtTx x)) (names_there k (Kinds.SerialVirtTx x) at refl)) (a.told k (Kinds.SerialVirtTx x) at) takes
    where
      aloof : Serves (part_of (Kinds.SerialVirtTx x)) → ⊥
      aloof (inl y) = let e = y.5 in cc
      aloof (inr (inl y)) = let e = y.2 in cc
      aloof (inr (inr y)) = let e = y.2 in cc
  each_puts asks k (Kinds.SerialClient x) at takes = let ends = ends_calm k (Kinds.SerialClient x) at refl aloof in plain k (Kinds.SerialClient x) at refl ends (nothing_at_off (naming rows place actors passed m a) w (scene rows place actors passed m a) (part_of (Kinds.SerialClient x)) (names_there k (Kinds.SerialClient x) at refl)) (a.told k (Kinds.SerialClient x) at) takes
    where
      aloof : Serves (part_of (Kinds.SerialClient x)) → ⊥
      aloof (inl y) = let e = y.5 in cc
      aloof (inr (inl y)) = let e = y.2 in cc
      aloof (inr (inr y)) = let e = y.2 in cc
  each_puts asks k (Kinds.EthDevice x) at takes = let ends = ends_calm k (Kinds.EthDevice x) at refl aloof in plain k (Kinds.EthDevice x) at refl ends (part_off (naming rows place actors passed m a) w (scene rows place actors passed m a) (device_part x) ends (names_there k (Kinds.EthDevice x) at refl)) (a.told k (Kinds.EthDevice x) at) takes
    where
      aloof : Serves (part_of (Kinds.EthDevice x)) → ⊥
      aloof (inl y) = let e = y.5 in cc
      aloof (inr (inl y)) = let e = y.2 in cc
      aloof (inr (inr y)) = let e = y.2 in cc
  each_puts asks k (Kinds.EthDriver x) at takes = let ends = ends_calm k (Kinds.EthDriver x) at refl aloof in plain k (Kinds.EthDriver x) at refl ends (part_off (naming rows place actors passed m a) w (scene rows place actors passed m a) (driver_part (four_pipes x.driver.pipes)) ends (names_there k (Kinds.EthDriver x) at refl)) (a.told k (Kinds.EthDriver x) at) takes
    where
      aloof : Serves (part_of (Kinds.EthDriver x)) → ⊥
      aloof (inl y) = let e = y.5 in cc
      aloof (inr (inl y)) = let e = y.2 in cc
      aloof (inr (inr y)) = let e = y.2 in cc
  each_puts asks k (Kinds.NetVirtRx x) at takes = let ends = ends_calm k (Kinds.NetVirtRx x) at refl aloof in plain k (Kinds.NetVirtRx x) at refl ends (part_off (naming rows place actors passed m a) w (scene rows place actors passed m a) (receiver_part x) ends (names_there k (Kinds.NetVirtRx x) at refl)) (a.told k (Kinds.NetVirtRx x) at) takes
    where
      aloof : Serves (part_of (Kinds.NetVirtRx x)) → ⊥
      aloof (inl y) = let e = y.5 in cc
      aloof (inr (inl y)) = let e = y.2 in cc
      aloof (inr (inr y)) = let e = y.2 in cc
  each_puts asks k (Kinds.NetCopier x) at takes = copier_puts k x at takes
  each_puts asks k (Kinds.NetClient x) at takes = let ends = ends_calm k (Kinds.NetClient x) at refl aloof in plain k (Kinds.NetClient x) at refl ends (part_off (naming rows place actors passed m a) w (scene rows place actors passed m a) (client_part x) ends (names_there k (Kinds.NetClient x) at refl)) (a.told k (Kinds.NetClient x) at) takes
    where
      aloof : Serves (part_of (Kinds.NetClient x)) → ⊥
      aloof (inl y) = let e = y.5 in cc
      aloof (inr (inl y)) = let e = y.2 in cc
      aloof (inr (inr y)) = let e = y.2 in cc
  each_puts asks k (Kinds.NetVirtTx x) at takes = sender_puts k x at takes
  each_puts asks k (Kinds.DiskDevice x) at takes = let ends = ends_calm k (Kinds.DiskDevice x) at refl aloof in plain k (Kinds.DiskDevice x) at refl ends (disk_off (naming rows place actors passed m a) w (scene rows place actors passed m a) (req x.device) (resp x.device) x.start.value ends (names_there k (Kinds.DiskDevice x) at refl)) (a.told k (Kinds.DiskDevice x) at) takes
    where
      aloof : Serves (part_of (Kinds.DiskDevice x)) → ⊥
      aloof (inl y) = let e = y.5 in cc
      aloof (inr (inl y)) = let e = y.2 in cc
      aloof (inr (inr y)) = let e = y.2 in cc
  each_puts asks k (Kinds.BlkDriver x) at takes = let ends = ends_calm k (Kinds.BlkDriver x) at refl aloof in plain k (Kinds.BlkDriver x) at refl ends (driver_off (naming rows place actors passed m a) w (scene rows place actors passed m a) _ ends (names_there k (Kinds.BlkDriver x) at refl)) (a.told k (Kinds.BlkDriver x) at) takes
    where
      aloof : Serves (part_of (Kinds.BlkDriver x)) → ⊥
      aloof (inl y) = let e = y.5 in cc
      aloof (inr (inl y)) = let e = y.2 in cc
      aloof (inr (inr y)) = let e = y.2 in cc
  each_puts asks k (Kinds.BlkVirt x) at takes = virt_puts asks k x at takes
  each_puts asks k (Kinds.BlkClient x) at takes = let ends = ends_calm k (Kinds.BlkClient x) at refl aloof in plain k (Kinds.BlkClient x) at refl ends (client_off (naming rows place actors passed m a) w (scene rows place actors passed m a) (req_queue x) (resp_queue x) x.asking.script.items (record { number = x.asking.pool.0; base = 0; buffers = x.asking.buffers; size = blk_buffer_bytes }) ends (names_there k (Kinds.BlkClient x) at refl)) (a.told k (Kinds.BlkClient x) at) takes
    where
      aloof : Serves (part_of (Kinds.BlkClient x)) → ⊥
      aloof (inl y) = let e = y.5 in cc
      aloof (inr (inl y)) = let e = y.2 in cc
      aloof (inr (inr y)) = let e = y.2 in cc
  each_puts asks k (Kinds.Rogue x) at takes = rogue_puts k x at takes
