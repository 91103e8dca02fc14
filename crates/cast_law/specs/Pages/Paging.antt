-- Each actor of a cast with the buffers that it had at the start and those that it has, and what
-- the buffers of pools weigh.
use Rattle.std.specs.Prelude.{◌≡◌, ◌+◌, ℕ, suc, Some, List, [], ◌∷◌, ◌++◌, flat_map, slice_get}
use Rattle.std.specs.Prelude.{refl, sum_by}
use Rattle.cargo_core.specs.declared.item.Body.{Body}
use Rattle.cargo_core.specs.declared.item.Body.TheVariants as Carried
use Rattle.wire_core.specs.Lists.{Passed}
use Rattle.wire_core.specs.Marks.{sum_below}
use Rattle.wire_core.specs.Queues.{Queue}
use Rattle.turn_kit.specs.Hands.{bodies_at, bodies_of}
use Rattle.play_core.specs.Sheets.{Scene}
use Rattle.owner_law.specs.Pools.Places.{PoolAt}
use Rattle.buffer_kit.specs.Conserving.{Count, counted, weighed}
use Rattle.buffer_kit.specs.Pools.{page_bodies}
use Rattle.net_virt_rx.specs.Sharing.{lent_bodies}
use Rattle.net_law.specs.Parts.Parts.{NetPart, NetDevice, NetDriver, NetReceiver, NetCopier}
use Rattle.net_law.specs.Parts.Parts.{NetClient}
use Rattle.blk_law.specs.Sheets.Parts.{BlkPart, DiskDevice, BlkDriver, BlkVirt, BlkClient}
use Rattle.wired_law.specs.PageLaw.Holders.{PageHolder}
use Rattle.actor_set.specs.Parts.{Part, UartPart, DriverPart, RxPart, TxPart, ClientPart}
use Rattle.actor_set.specs.Parts.{NetworkPart, SendingPart, BlockPart, HostilePart, PageAt}
use Rattle.actor_set.specs.Actors.{ActorStandsFor, actor_hand, part_of}
use Rattle.actor_set.specs.declared.actor.Actor.{Actor}
use Rattle.actor_set.specs.declared.actor.Actor.TheVariants as Kinds
use Rattle.actor_set.specs.Laws.Kinds.{sheet}
use Rattle.actor_set.specs.Rogues.{pages_weigh}

-- what an actor keeps for good, or lends: of the serial class, which has no buffers, what a
-- terminal or the receiving virtualiser took; and what the network's receiving virtualiser has lent
abbrev pub actor_kept : Actor → Passed → List Body
actor_kept (Kinds.UartDevice x) passed = bodies_at passed.taken (x.terminal.input.queue.0 ∷ [])
actor_kept (Kinds.UartDriver x) passed = []
actor_kept (Kinds.SerialVirtRx x) passed = bodies_at passed.taken (x.input.queue.0 ∷ [])
actor_kept (Kinds.SerialVirtTx x) passed = []
actor_kept (Kinds.SerialClient x) passed = bodies_at passed.taken (x.terminal.input.queue.0 ∷ [])
actor_kept (Kinds.EthDevice x) passed = []
actor_kept (Kinds.EthDriver x) passed = []
actor_kept (Kinds.NetVirtRx x) passed = lent_bodies x.work.lent
actor_kept (Kinds.NetCopier x) passed = []
actor_kept (Kinds.NetClient x) passed = []
actor_kept (Kinds.NetVirtTx x) passed = []
actor_kept (Kinds.DiskDevice x) passed = []
actor_kept (Kinds.BlkDriver x) passed = []
actor_kept (Kinds.BlkVirt x) passed = []
actor_kept (Kinds.BlkClient x) passed = []
actor_kept (Kinds.Rogue x) passed = []

-- what an actor has lent: the network's receiving virtualiser alone lends
abbrev pub actor_lends : Actor → List Body
actor_lends (Kinds.UartDevice x) = []
actor_lends (Kinds.UartDriver x) = []
actor_lends (Kinds.SerialVirtRx x) = []
actor_lends (Kinds.SerialVirtTx x) = []
actor_lends (Kinds.SerialClient x) = []
actor_lends (Kinds.EthDevice x) = []
actor_lends (Kinds.EthDriver x) = []
actor_lends (Kinds.NetVirtRx x) = lent_bodies x.work.lent
actor_lends (Kinds.NetCopier x) = []
actor_lends (Kinds.NetClient x) = []
actor_lends (Kinds.NetVirtTx x) = []
actor_lends (Kinds.DiskDevice x) = []
actor_lends (Kinds.BlkDriver x) = []
actor_lends (Kinds.BlkVirt x) = []
actor_lends (Kinds.BlkClient x) = []
actor_lends (Kinds.Rogue x) = []

-- the bodies that it had at the start, by what it stands for
abbrev pub actor_start : (x : Actor) (passed : Passed) → ActorStandsFor x passed → List Body
actor_start (Kinds.UartDevice x) passed st = []
actor_start (Kinds.UartDriver x) passed st = []
actor_start (Kinds.SerialVirtRx x) passed st = []
actor_start (Kinds.SerialVirtTx x) passed st = []
actor_start (Kinds.SerialClient x) passed st = []
actor_start (Kinds.EthDevice x) passed st = []
actor_start (Kinds.EthDriver x) passed st = []
actor_start (Kinds.NetVirtRx x) passed st = page_bodies st.start
actor_start (Kinds.NetCopier x) passed st = []
actor_start (Kinds.NetClient x) passed st = page_bodies st.start ++ page_bodies st.sends.start
actor_start (Kinds.NetVirtTx x) passed st = []
actor_start (Kinds.DiskDevice x) passed st = []
actor_start (Kinds.BlkDriver x) passed st = []
actor_start (Kinds.BlkVirt x) passed st = Carried.Page st.start ∷ []
actor_start (Kinds.BlkClient x) passed st = page_bodies st.start
actor_start (Kinds.Rogue x) passed st = page_bodies x.start.value.items

-- an actor with its buffers
abbrev pub page_holder : Scene → (x : Actor) (passed : Passed) → ActorStandsFor x passed
    → PageHolder
page_holder scene x passed st = record {
  ends = (sheet scene (part_of x)).ends;
  start = actor_start x passed st;
  hand = actor_hand x;
  kept = actor_kept x passed;
}

-- each of these actors stands for what passed
abbrev pub AllStand : List Actor → Passed → Type 0
AllStand actors passed =
    (k : ℕ) (x : Actor) → slice_get actors k ≡ Some x → ActorStandsFor x passed

-- all of them with their buffers
abbrev pub page_holders : Scene → (actors : List Actor) (passed : Passed)
    → AllStand actors passed → List PageHolder
page_holders scene [] passed stand = []
page_holders scene (x ∷ actors) passed stand = page_holder scene x passed (stand 0 x refl)
    ∷ page_holders scene actors passed (λ k y at. stand (suc k) y at)

-- the pools of a part of the network: that which its receiving virtualiser lends, and both of a
-- client
abbrev pub net_part_pools : NetPart → List PoolAt
net_part_pools (NetDevice rx_free rx_active tx_active tx_free frames drops) = []
net_part_pools (NetDriver ways) = []
net_part_pools (NetReceiver active free pool clients) = pool ∷ []
net_part_pools (NetCopier lease_active lease_free rx_active rx_free drops) = []
net_part_pools (NetClient program mac rx_active rx_free tx_active tx_free rx tx) = rx ∷ tx ∷ []

-- the pools of a part of the block class: the virtualiser's own, and a client's
abbrev pub blk_part_pools : BlkPart → List PoolAt
blk_part_pools (DiskDevice req resp image) = []
blk_part_pools (BlkDriver ways) = []
blk_part_pools (BlkVirt req resp sectors pool clients) = pool ∷ []
blk_part_pools (BlkClient req resp asks pool) = pool ∷ []

-- the pools whose buffers a part has at the start, all of each
abbrev pub part_pools : Part → List PoolAt
part_pools (UartPart rx tx input) = []
part_pools (DriverPart device_rx device_tx rx tx) = []
part_pools (RxPart rx clients drops) = []
part_pools (TxPart tx clients) = []
part_pools (ClientPart rx tx script) = []
part_pools (NetworkPart p) = net_part_pools p
part_pools (SendingPart p) = []
part_pools (BlockPart p) = blk_part_pools p
part_pools (HostilePart p) = []

-- the buffers that a part has at the start and that are no whole pool: a hostile client's pages
abbrev pub part_pages : Part → List PageAt
part_pages (UartPart rx tx input) = []
part_pages (DriverPart device_rx device_tx rx tx) = []
part_pages (RxPart rx clients drops) = []
part_pages (TxPart tx clients) = []
part_pages (ClientPart rx tx script) = []
part_pages (NetworkPart p) = []
part_pages (SendingPart p) = []
part_pages (BlockPart p) = []
part_pages (HostilePart p) = p.pages

-- what all buffers of a pool weigh, each of its pool's length
abbrev pub pool_weighs : Count → PoolAt → ℕ
pool_weighs f p = sum_below (λ no. f (record { 0 = p.number }) no p.size) p.buffers

-- what all that a part has at the start weighs: the buffers of its pools, and its pages
abbrev pub part_weighs : Count → Part → ℕ
part_weighs f p = sum_by (pool_weighs f) (part_pools p) + pages_weigh f (part_pages p)

-- what all that a cast has at the start weighs
abbrev pub pools_weigh : Count → List Part → ℕ
pools_weigh f cast = sum_by (part_weighs f) cast

-- what an actor has
abbrev pub actor_weighs : Count → Passed → Actor → ℕ
actor_weighs f passed x = counted f (actor_hand x) + counted f (actor_kept x passed)

-- what queues and actors have: the entries that stand in queues, and what actors have in their
-- hands, keep and lend
abbrev pub cast_weighs : Count → Passed → List Queue → List Actor → ℕ
cast_weighs f passed world actors = sum_by (λ (q : Queue). weighed f q.entries) world
    + sum_by (actor_weighs f passed) actors

-- the bodies that queues and actors show: those that stand in the queues, and those that actors
-- have in their hands and have lent
abbrev pub shown_bodies : List Queue → List Actor → List Body
shown_bodies world actors = flat_map (λ (q : Queue). bodies_of q.entries) world
    ++ flat_map (λ x. actor_hand x ++ actor_lends x) actors
