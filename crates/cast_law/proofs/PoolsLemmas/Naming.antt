-- What items name at the queues of each part of a cast, where its classes with pools stand at a place.
use Rattle.std.proofs.Common.{◌≡◌, ◌⊎◌, ◌+◌, ◌-◌, ◌*◌, ◌++◌, ◌<◌, ◌≤◌, ℕ, cond, Option, None, Some, List, [], length, slice_get, refl, sym, ap, ◌∙◌, subst, arith, lt-ltb, inl, inr}
use Rattle.std.proofs.lemmas.Bool.{cases_lt, le-ltb}
use Rattle.cargo_core.specs.Lists.{IsPrefix}
use Rattle.wire_core.specs.declared.names.QueueRow.{QueueRow}
use Rattle.wire_core.specs.Journal.{owner_of}
use Rattle.wire_core.specs.Lists.{Passed}
use Rattle.play_core.specs.Moved.{Seat}
use Rattle.play_core.specs.Sheets.{Scene, AreSeated}
use Rattle.play_core.specs.Wants.{intake}
use Rattle.play_core.proofs.Lists.{some_is, there_is}
use Rattle.owner_law.specs.Things.{NoBuffers, Naming, naming_of}
use Rattle.owner_law.proofs.Carrying.{get_first}
use Rattle.net_law.specs.RxOwners.Virtualiser.{AreNet}
use Rattle.net_law.specs.Parts.Numbers.{device_at, driver_at, receiver_at, copier_at, client_at, layout_naming, policy_at}
use Rattle.net_law.proofs.PartsLemmas.Numbering.{device_named, driver_named, receiver_named, copier_named, client_named}
use Rattle.net_law.proofs.PartsLemmas.Owning.{net_puts}
use Rattle.net_law.specs.Parts.Parts.{NetPart}
use Rattle.net_law.specs.Parts.Playing.{device_part, driver_part, receiver_part, copier_part, client_part}
use Rattle.eth_driver.specs.Four.{four_pipes}
use Rattle.pipe_driver.specs.Lengths.{two_pipes}
use Rattle.net_law.specs.TxParts.Parts.{SendPart}
use Rattle.net_law.specs.TxParts.Numbers.{NetPlace, own_pools, sender_at}
use Rattle.net_law.specs.TxParts.Playing.{send_part}
use Rattle.net_quiet.proofs.TxOwners.Naming.{sender_named}
use Rattle.net_quiet.proofs.TxOwners.Owning.{send_own}
use Rattle.net_quiet.proofs.TxOwners.Carrying.{pools_apart}
use Rattle.net_virt_tx.proofs.Rounds.{row_of as sender_row}
use Rattle.owner_law.proofs.PoolsLemmas.Casting.{nothing_kept}
use Rattle.owner_law.specs.Pools.Places.{sizes_of, AreNumbered}
use Rattle.net_quiet.proofs.PoolsLemmas.Listing.{past}
use Rattle.owner_law.proofs.PoolsLemmas.Sizing.{size_there}
use Rattle.blk_law.specs.Sheets.Parts.{BlkPart, DiskDevice, BlkDriver, BlkVirt, BlkClient}
use Rattle.blk_law.specs.Sheets.Numbers.{BlkPlace, disk_at}
use Rattle.blk_law.specs.Sheets.Playing.{disk_part, blk_driver_part, virt_part, blk_client_part}
use Rattle.blk_law.specs.Sheets.Table.{blk_sheet}
use Rattle.blk_law.specs.Owners.Answering.{PutsItsOwnInOrder}
use Rattle.blk_law.proofs.OwnersLemmas.Copying.{disk_keeps, driver_keeps}
use Rattle.blk_law.proofs.OwnersLemmas.Asking.{client_keeps}
use Rattle.blk_law.proofs.OwnersLemmas.Serving.{virt_keeps}
use Rattle.blk_law.proofs.HopsLemmas.Sharers.{sharer, sharer_there}
use Rattle.blk_quiet.specs.Pools.Naming.{blk_names, blk_naming, HasApartPools, IsNamedAt, NamesServed}
use Rattle.blk_quiet.proofs.PoolsLemmas.Naming.{disk_named, driver_named as blk_driver_named, virt_named, client_named as blk_client_named}
use Rattle.blk_quiet.proofs.PoolsLemmas.Sizing.{blk_past}
use Rattle.actor_set.specs.Parts.{HostilePart, Part, UartPart, DriverPart, RxPart, TxPart, ClientPart, NetworkPart, SendingPart, BlockPart}
use Rattle.actor_set.specs.Actors.{pages_at, ActorStandsFor, part_of}
use Rattle.actor_set.specs.declared.actor.Actor.{Actor}
use Rattle.actor_set.specs.declared.actor.Actor.TheVariants as Kinds
use Rattle.actor_set.specs.Laws.Kinds.{AllCalm, sheet, scene_of}
use Rattle.actor_set.specs.Rogues.{pages_in}
use Rattle.wired_law.specs.Wiring.{HasWhole, HasBlk, IsOfNetwork, IsOfBlock, AreOfKind}
use Rattle.cast_law.specs.Pools.Holders.{NothingAt, NamesAt, IsSized, TakesNet}
use Rattle.cast_law.specs.Pools.Places.{HasNetAt, HasBlkAt, first_naming, behind, pools_first, pools_behind}
use Rattle.cast_law.proofs.PoolsLemmas.Alike.{SaysSo, part_so, send_so}
use Rattle.cast_law.proofs.PoolsLemmas.Blocks.{blk_ends}
use Rattle.cast_law.proofs.PoolsLemmas.Table.{IsNetwork, net_ends}

-- two actors with one end are one
pub same_end : (scene : Scene) (rows : List QueueRow) (cast : List Part) → AreSeated (sheet scene) rows cast → (j k : ℕ) (p q : Part) → slice_get cast j ≡ Some p → slice_get cast k ≡ Some q → (h i : ℕ) (s : Seat) → slice_get (sheet scene p).ends h ≡ Some s → slice_get (sheet scene q).ends i ≡ Some s → j ≡ k
same_end scene rows cast seated j k p q p_at q_at h i s here there =
    let one = seated j p p_at h s here in
    let two = seated k q q_at i s there in
    let same : one.0 ≡ two.0 = some_is (sym one.1 ∙ two.1) in
    sym one.2 ∙ (ap (λ r. owner_of r s.role) same ∙ two.2)

-- a part of the block class
abbrev pub IsBlock : Part → Type 0
IsBlock (UartPart rx tx input) = ⊥
IsBlock (DriverPart device_rx device_tx rx tx) = ⊥
IsBlock (RxPart rx clients drops) = ⊥
IsBlock (TxPart tx clients) = ⊥
IsBlock (ClientPart rx tx script) = ⊥
IsBlock (NetworkPart p) = ⊥
IsBlock (SendingPart p) = ⊥
IsBlock (BlockPart p) = Unit {0}
IsBlock (HostilePart p) = ⊥

-- from the block class's first queue on, and before it
pub before_is : (naming : Naming) (blk : BlkPlace) (n : ℕ) → n < blk.first → behind naming (Some blk) n ≡ naming n
before_is naming blk n lt = ap (λ t. cond t (naming n) (blk_naming blk n)) (lt-ltb n blk.first lt)

pub from_is : (naming : Naming) (blk : BlkPlace) (n : ℕ) → blk.first ≤ n → behind naming (Some blk) n ≡ naming_of (blk_names blk) (n - blk.first)
from_is naming blk n le = ap (λ t. cond t (naming n) (blk_naming blk n)) (le-ltb n blk.first le)

pub named_behind : (naming : Naming) (blk : BlkPlace) → IsNamedAt (behind naming (Some blk)) blk
named_behind naming blk i =
    let less : blk.first + i - blk.first ≡ i = omega arith in
    from_is naming blk (blk.first + i) (omega arith) ∙ ap (naming_of (blk_names blk)) less

-- each actor of the block class may put only what was in its hand
pub block_own : (naming : Naming) (scene : Scene) (p : BlkPart) → NamesServed naming p → PutsItsOwnInOrder naming (blk_sheet scene p)
block_own naming scene (DiskDevice req resp image) names = disk_keeps naming scene req resp image names.0
block_own naming scene (BlkDriver ways) names = driver_keeps naming scene ways names.0
block_own naming scene (BlkVirt req resp sectors pool clients) names = virt_keeps naming scene req resp sectors pool clients names.0 names.1
block_own naming scene (BlkClient req resp asks pool) names = client_keeps naming scene req resp asks pool names.0

module _ (rows : List QueueRow) (cast : List Part) (calm : AllCalm cast) (seated : AreSeated (sheet (scene_of cast)) rows cast) where
  abbrev scene : Scene
  scene = scene_of cast

  -- a part of another class has no end at the network's queues
  beyond : (net : NetPlace) → HasWhole rows net cast → net.first ≡ 0 → (k : ℕ) (p : Part) → slice_get cast k ≡ Some p → (IsNetwork p → ⊥) → (i : ℕ) (s : Seat) → slice_get (sheet scene p).ends i ≡ Some s → 8 + 6 * length net.pools ≤ s.queue
  beyond net whole first k p at off i s here = by (cases_lt s.queue (8 + 6 * length net.macs))
    where
      by : (s.queue < 8 + 6 * length net.macs) ⊎ (8 + 6 * length net.macs ≤ s.queue) → 8 + 6 * length net.pools ≤ s.queue
      by (inr le) = omega (arith, le, whole.pools_many)
      by (inl lt) =
          let x = net_ends rows net cast calm whole first s.queue s.role lt in
          let same = same_end scene rows cast seated k x.0 p x.1 at x.3 i x.2 s here x.5 in
          let part : p ≡ x.1 = some_is (sym at ∙ (ap (slice_get cast) same ∙ x.3)) in
          absurd (off (subst IsNetwork (sym part) x.4))

  -- nor has one at those of the block class
  aside : (blk : BlkPlace) → HasBlk rows blk cast → (k : ℕ) (p : Part) → slice_get cast k ≡ Some p → (IsBlock p → ⊥) → (i : ℕ) (s : Seat) → slice_get (sheet scene p).ends i ≡ Some s → (s.queue < blk.first) ⊎ (blk.first + 4 + 2 * length blk.pools ≤ s.queue)
  aside blk has k p at off i s here = by (cases_lt s.queue blk.first) (cases_lt s.queue (blk.first + 4 + 2 * length blk.pools))
    where
      by : (s.queue < blk.first) ⊎ (blk.first ≤ s.queue) → (s.queue < blk.first + 4 + 2 * length blk.pools) ⊎ (blk.first + 4 + 2 * length blk.pools ≤ s.queue) → (s.queue < blk.first) ⊎ (blk.first + 4 + 2 * length blk.pools ≤ s.queue)
      by (inl lt) more = inl lt
      by (inr le) (inr past_) = inr past_
      by (inr le) (inl lt) =
          let x = blk_ends rows blk cast calm has s.queue s.role le lt in
          let same = same_end scene rows cast seated k x.0 p (BlockPart x.1) at x.3 i x.2 s here x.4 in
          let part : p ≡ BlockPart x.1 = some_is (sym at ∙ (ap (slice_get cast) same ∙ x.3)) in
          absurd (off (subst IsBlock (sym part) tt))

  -- the block class's queues are behind those of the network
  pub blk_behind : (net : NetPlace) → HasWhole rows net cast → net.first ≡ 0 → (blk : BlkPlace) → HasBlk rows blk cast → 8 + 6 * length net.pools ≤ blk.first
  blk_behind net whole first blk has = beyond net whole first has.disk.0 (BlockPart (disk_at blk)) has.disk.1 (λ h. h) 0 (intake blk.first) refl

  -- the naming says at the network's queues what the network's does
  says_so : (net : NetPlace) → HasWhole rows net cast → net.first ≡ 0 → (b : Option BlkPlace) → HasBlkAt rows b cast → SaysSo (behind (first_naming scene (Some net)) b) (layout_naming scene net.pool net.macs net.pools)
  says_so net whole first None none n = inl refl
  says_so net whole first (Some blk) has n = by (cases_lt n blk.first)
    where
      by : (n < blk.first) ⊎ (blk.first ≤ n) → (behind (first_naming scene (Some net)) (Some blk) n ≡ layout_naming scene net.pool net.macs net.pools n) ⊎ (layout_naming scene net.pool net.macs net.pools n ≡ NoBuffers)
      by (inl lt) = inl (before_is (first_naming scene (Some net)) blk n lt)
      by (inr le) = let far = blk_behind net whole first blk has.0 in inr (past scene net.pool net.macs net.pools n (omega (arith, le, far)))

  -- what items name at a part's queues
  module _ (n : Option NetPlace) (b : Option BlkPlace) (has_net : HasNetAt rows n cast) (has_blk : HasBlkAt rows b cast) where
    abbrev naming : Naming
    naming = behind (first_naming scene n) b

    nothing_first : (o : Option NetPlace) → HasNetAt rows o cast → (k : ℕ) (p : Part) → slice_get cast k ≡ Some p → (IsNetwork p → ⊥) → (i : ℕ) (s : Seat) → slice_get (sheet scene p).ends i ≡ Some s → first_naming scene o s.queue ≡ NoBuffers
    nothing_first None none k p at off i s here = refl
    nothing_first (Some net) has k p at off i s here = past scene net.pool net.macs net.pools s.queue (beyond net has.0 has.1 k p at off i s here)

    nothing_at : (k : ℕ) (p : Part) → slice_get cast k ≡ Some p → (IsNetwork p → ⊥) → (IsBlock p → ⊥) → NothingAt naming scene p
    nothing_at k p at off aloof i s here = by b has_blk
      where
        by : (o : Option BlkPlace) → HasBlkAt rows o cast → behind (first_naming scene n) o s.queue ≡ NoBuffers
        by None none = nothing_first n has_net k p at off i s here
        by (Some blk) has = side (aside blk has.0 k p at aloof i s here)
          where
            side : (s.queue < blk.first) ⊎ (blk.first + 4 + 2 * length blk.pools ≤ s.queue) → behind (first_naming scene n) (Some blk) s.queue ≡ NoBuffers
            side (inl lt) = before_is (first_naming scene n) blk s.queue lt ∙ nothing_first n has_net k p at off i s here
            side (inr far) = from_is (first_naming scene n) blk s.queue (omega (arith, far)) ∙ blk_past blk (s.queue - blk.first) (omega (arith, far))

    network_named : (net : NetPlace) → HasWhole rows net cast → net.first ≡ 0 → (a : Naming) → SaysSo a (layout_naming scene net.pool net.macs net.pools) → (p : Part) → IsOfNetwork net scene.frames p → NamesAt a scene p
    network_named net whole first a so p (inl e) = subst (NamesAt a scene) (sym (e ∙ ap (λ q. NetworkPart (device_at q scene.frames net.device_drops)) first)) (part_so a _ so scene (device_at 0 scene.frames net.device_drops) (device_named scene net.pool net.macs net.pools scene.frames net.device_drops))
    network_named net whole first a so p (inr (inl e)) = subst (NamesAt a scene) (sym (e ∙ ap (λ q. NetworkPart (driver_at q)) first)) (part_so a _ so scene (driver_at 0) (driver_named scene net.pool net.macs net.pools))
    network_named net whole first a so p (inr (inr (inl e))) = subst (NamesAt a scene) (sym (e ∙ ap (λ q. NetworkPart (receiver_at q net.pool net.macs)) first)) (part_so a _ so scene (receiver_at 0 net.pool net.macs) (receiver_named scene net.pool net.macs net.pools (sym whole.pools_many)))
    network_named net whole first a so p (inr (inr (inr (inl e)))) = subst (NamesAt a scene) (sym (e ∙ ap (λ q. SendingPart (sender_at q net.most net.pools)) first)) (send_so a _ so (sender_at 0 net.most net.pools) (sender_named scene net.most net.pool net.macs net.pools))
    network_named net whole first a so p (inr (inr (inr (inr (inl x))))) =
        let q = there_is net.pools x.0 (omega (arith, x.1, whole.pools_many)) in
        subst (NamesAt a scene) (sym (x.2 ∙ ap (λ f. NetworkPart (copier_at f x.0 (policy_at net.drops x.0))) first)) (part_so a _ so scene (copier_at 0 x.0 (policy_at net.drops x.0)) (copier_named scene net.pool net.macs net.pools x.0 q.0 (policy_at net.drops x.0) q.1))
    network_named net whole first a so p (inr (inr (inr (inr (inr x))))) = subst (NamesAt a scene) (sym (x.5 ∙ ap (λ f. NetworkPart (client_at f x.0 x.1 x.2 (own_pools x.3))) first)) (part_so a _ so scene (client_at 0 x.0 x.1 x.2 (own_pools x.3)) (client_named scene net.pool net.macs net.pools x.0 x.3 x.1 x.2 x.4.pools))

    block_named : (blk : BlkPlace) → HasBlk rows blk cast → HasApartPools blk → (a : Naming) → IsNamedAt a blk → (p : BlkPart) → IsOfBlock blk p → NamesServed a p
    block_named blk has apart a is p (inl e) = subst (NamesServed a) (sym e) (disk_named a blk is, tt)
    block_named blk has apart a is p (inr (inl e)) = subst (NamesServed a) (sym e) (blk_driver_named a blk is, tt)
    block_named blk has apart a is p (inr (inr (inl e))) = subst (NamesServed a) (sym e) (virt_named a blk is has.pools_many, apart)
    block_named blk has apart a is p (inr (inr (inr x))) = subst (NamesServed a) (sym x.5) (blk_client_named a blk is x.0 x.2 x.3 x.4.has_pool (apart.some x.0 (sharer blk.first x.0 x.1 x.3) (sharer_there blk x.0 x.1 x.3 x.4.has_entry x.4.has_pool)), tt)

    net_names_at : (o : Option NetPlace) → HasNetAt rows o cast → (k : ℕ) (p : NetPart) → slice_get cast k ≡ Some (NetworkPart p) → NamesAt (behind (first_naming scene o) b) scene (NetworkPart p)
    net_names_at None none k p at = absurd (none.none k p at)
    net_names_at (Some net) has k p at = network_named net has.0 has.1 (behind (first_naming scene (Some net)) b) (says_so net has.0 has.1 b has_blk) (NetworkPart p) (has.0.only k p at)

    send_names_at : (o : Option NetPlace) → HasNetAt rows o cast → (k : ℕ) (p : SendPart) → slice_get cast k ≡ Some (SendingPart p) → NamesAt (behind (first_naming scene o) b) scene (SendingPart p)
    send_names_at None none k p at = absurd (none.no_sender k p at)
    send_names_at (Some net) has k p at = network_named net has.0 has.1 (behind (first_naming scene (Some net)) b) (says_so net has.0 has.1 b has_blk) (SendingPart p) (has.0.only_sender k p at)

    blk_names_at : (o : Option BlkPlace) → HasBlkAt rows o cast → (k : ℕ) (p : BlkPart) → slice_get cast k ≡ Some (BlockPart p) → NamesServed (behind (first_naming scene n) o) p
    blk_names_at None none k p at = absurd (none k p at)
    blk_names_at (Some blk) has k p at = block_named blk has.0 has.1 (behind (first_naming scene n) (Some blk)) (named_behind (first_naming scene n) blk) p (has.0.only k p at)

    pub names_at : (k : ℕ) (p : Part) → slice_get cast k ≡ Some p → NamesAt naming scene p
    names_at k (UartPart rx tx input) at = nothing_at k (UartPart rx tx input) at (λ h. h) (λ h. h)
    names_at k (DriverPart device_rx device_tx rx tx) at = nothing_at k (DriverPart device_rx device_tx rx tx) at (λ h. h) (λ h. h)
    names_at k (RxPart rx clients drops) at = nothing_at k (RxPart rx clients drops) at (λ h. h) (λ h. h)
    names_at k (TxPart tx clients) at = nothing_at k (TxPart tx clients) at (λ h. h) (λ h. h)
    names_at k (ClientPart rx tx script) at = nothing_at k (ClientPart rx tx script) at (λ h. h) (λ h. h)
    names_at k (NetworkPart p) at = net_names_at n has_net k p at
    names_at k (SendingPart p) at = send_names_at n has_net k p at
    names_at k (BlockPart p) at = blk_names_at b has_blk k p at
    names_at k (HostilePart p) at = nothing_at k (HostilePart p) at (λ h. h) (λ h. h)

    -- the pool that is lent has its size by its number
    network_sized : (net : NetPlace) → AreNumbered (pools_first (Some net) ++ pools_behind b) → (p : Part) → IsOfNetwork net scene.frames p → IsSized (sizes_of (pools_first (Some net) ++ pools_behind b)) p
    network_sized net apart p (inl e) = subst (IsSized (sizes_of (pools_first (Some net) ++ pools_behind b))) (sym e) tt
    network_sized net apart p (inr (inl e)) = subst (IsSized (sizes_of (pools_first (Some net) ++ pools_behind b))) (sym e) tt
    network_sized net apart p (inr (inr (inl e))) = subst (IsSized (sizes_of (pools_first (Some net) ++ pools_behind b))) (sym e) (size_there (pools_first (Some net) ++ pools_behind b) 0 net.pool apart refl)
    network_sized net apart p (inr (inr (inr (inl e)))) = subst (IsSized (sizes_of (pools_first (Some net) ++ pools_behind b))) (sym e) tt
    network_sized net apart p (inr (inr (inr (inr (inl x))))) = subst (IsSized (sizes_of (pools_first (Some net) ++ pools_behind b))) (sym x.2) tt
    network_sized net apart p (inr (inr (inr (inr (inr x))))) = subst (IsSized (sizes_of (pools_first (Some net) ++ pools_behind b))) (sym x.5) tt

    net_sized_at : (o : Option NetPlace) → HasNetAt rows o cast → AreNumbered (pools_first o ++ pools_behind b) → (k : ℕ) (p : NetPart) → slice_get cast k ≡ Some (NetworkPart p) → IsSized (sizes_of (pools_first o ++ pools_behind b)) (NetworkPart p)
    net_sized_at None none apart k p at = absurd (none.none k p at)
    net_sized_at (Some net) has apart k p at = network_sized net apart (NetworkPart p) (has.0.only k p at)

    pub sized_at : AreNumbered (pools_first n ++ pools_behind b) → (k : ℕ) (p : Part) → slice_get cast k ≡ Some p → IsSized (sizes_of (pools_first n ++ pools_behind b)) p
    sized_at apart k (UartPart rx tx input) at = tt
    sized_at apart k (DriverPart device_rx device_tx rx tx) at = tt
    sized_at apart k (RxPart rx clients drops) at = tt
    sized_at apart k (TxPart tx clients) at = tt
    sized_at apart k (ClientPart rx tx script) at = tt
    sized_at apart k (NetworkPart p) at = net_sized_at n has_net apart k p at
    sized_at apart k (SendingPart p) at = tt
    sized_at apart k (BlockPart p) at = tt
    sized_at apart k (HostilePart p) at = tt

    -- an actor may put only what was in its hand
    pub own_at : (passed : Passed) (x : Actor) → NamesAt naming scene (part_of x) → ActorStandsFor x passed → PutsItsOwnInOrder naming (sheet scene (part_of x))
    own_at passed (Kinds.UartDevice x) names st = λ m order apart row. nothing_kept naming (λ pool. []) (sheet scene (part_of (Kinds.UartDevice x))).ends names m
    own_at passed (Kinds.UartDriver x) names st = λ m order apart row. nothing_kept naming (λ pool. []) (sheet scene (part_of (Kinds.UartDriver x))).ends names m
    own_at passed (Kinds.SerialVirtRx x) names st = λ m order apart row. nothing_kept naming (λ pool. []) (sheet scene (part_of (Kinds.SerialVirtRx x))).ends names m
    own_at passed (Kinds.SerialVirtTx x) names st = λ m order apart row. nothing_kept naming (λ pool. []) (sheet scene (part_of (Kinds.SerialVirtTx x))).ends names m
    own_at passed (Kinds.SerialClient x) names st = λ m order apart row. nothing_kept naming (λ pool. []) (sheet scene (part_of (Kinds.SerialClient x))).ends names m
    own_at passed (Kinds.EthDevice x) names st = λ m order. net_puts naming scene (device_part x) names m
    own_at passed (Kinds.EthDriver x) names st = λ m order. net_puts naming scene (driver_part (four_pipes x.driver.pipes)) names m
    own_at passed (Kinds.NetVirtRx x) names st = λ m order. net_puts naming scene (receiver_part x) names m
    own_at passed (Kinds.NetCopier x) names st = λ m order. net_puts naming scene (copier_part x) names m
    own_at passed (Kinds.NetClient x) names st = λ m order. net_puts naming scene (client_part x) names m
    own_at passed (Kinds.NetVirtTx x) names st = λ m order. send_own naming (send_part x) names (pools_apart x passed (sender_row x passed st)) m
    own_at passed (Kinds.DiskDevice x) names st = block_own naming scene (disk_part x.start.value x.device) names
    own_at passed (Kinds.BlkDriver x) names st = block_own naming scene (blk_driver_part (two_pipes x.driver.pipes)) names
    own_at passed (Kinds.BlkVirt x) names st = block_own naming scene (virt_part x) names
    own_at passed (Kinds.BlkClient x) names st = block_own naming scene (blk_client_part x) names
    own_at passed (Kinds.Rogue x) names st = λ m order apart row. nothing_kept naming (pages_in (pages_at x.start.value.items)) (sheet scene (part_of (Kinds.Rogue x))).ends names m

    -- entries of the network's queues are of the network
    module _ (passed : Passed) (kinds : AreOfKind rows passed) (begins : (q : ℕ) → IsPrefix (passed.taken q) (passed.sent q)) where
      entries_net : (net : NetPlace) → HasWhole rows net cast → net.first ≡ 0 → (q : ℕ) → q < 8 + 6 * length net.macs → AreNet (passed.taken q)
      entries_net net whole first q lt k c at =
          let row = whole.kinds q lt in
          let there : slice_get rows q ≡ Some row.0 = ap (λ f. slice_get rows f) (omega (arith, first)) ∙ row.1 in
          let pre = begins q in
          kinds q row.0 there k c (ap (λ xs. slice_get xs k) (sym pre.1) ∙ get_first (passed.taken q) pre.0 k c at) ∙ row.2

      sender_input : (net : NetPlace) → net.first ≡ 0 → (p : SendPart) → IsOfNetwork net scene.frames (SendingPart p) → p.free ≡ 7
      sender_input net first p (inl e) = absurd cc
      sender_input net first p (inr (inl e)) = absurd cc
      sender_input net first p (inr (inr (inl e))) = absurd cc
      sender_input net first p (inr (inr (inr (inl e)))) = let same : p ≡ sender_at net.first net.most net.pools = cc in ap (λ (x : SendPart). x.free) same ∙ ap (λ q. q + 7) first
      sender_input net first p (inr (inr (inr (inr (inl x))))) = let e = x.2 in absurd cc
      sender_input net first p (inr (inr (inr (inr (inr x))))) = let e = x.5 in absurd cc

      sender_takes : (o : Option NetPlace) → HasNetAt rows o cast → (k : ℕ) (p : SendPart) → slice_get cast k ≡ Some (SendingPart p) → AreNet (passed.taken p.free)
      sender_takes None none k p at = absurd (none.no_sender k p at)
      sender_takes (Some net) has k p at = subst (λ q. AreNet (passed.taken q)) (sym (sender_input net has.1 p (has.0.only_sender k p at))) (entries_net net has.0 has.1 7 (omega arith))

      pub takes_net : (k : ℕ) (x : Actor) → slice_get cast k ≡ Some (part_of x) → TakesNet x passed
      takes_net k (Kinds.UartDevice x) at = tt
      takes_net k (Kinds.UartDriver x) at = tt
      takes_net k (Kinds.SerialVirtRx x) at = tt
      takes_net k (Kinds.SerialVirtTx x) at = tt
      takes_net k (Kinds.SerialClient x) at = tt
      takes_net k (Kinds.EthDevice x) at = tt
      takes_net k (Kinds.EthDriver x) at = tt
      takes_net k (Kinds.NetVirtRx x) at = tt
      takes_net k (Kinds.NetCopier x) at = tt
      takes_net k (Kinds.NetClient x) at = tt
      takes_net k (Kinds.NetVirtTx x) at = sender_takes n has_net k (send_part x) at
      takes_net k (Kinds.DiskDevice x) at = tt
      takes_net k (Kinds.BlkDriver x) at = tt
      takes_net k (Kinds.BlkVirt x) at = tt
      takes_net k (Kinds.BlkClient x) at = tt
      takes_net k (Kinds.Rogue x) at = tt
