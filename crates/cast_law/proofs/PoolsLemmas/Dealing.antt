-- With which actor each pool of a cast is at the start.
use Rattle.std.proofs.Common.{◌≡◌, ◌⊎◌, ◌++◌, ◌<◌, ℕ, Option, None, Some, List, length, slice_get, subst}
use Rattle.wire_core.specs.declared.names.QueueRow.{QueueRow}
use Rattle.play_core.specs.Sheets.{Scene, AreSeated}
use Rattle.play_core.proofs.Lists.{map_from}
use Rattle.owner_law.specs.Keeping.{Keeper, keeper_of}
use Rattle.net_law.specs.TxParts.Numbers.{NetPlace}
use Rattle.owner_law.specs.Pools.Places.{sizes_of, AreNumbered}
use Rattle.owner_law.specs.Pools.Spread.{AreSpread, share_of}
use Rattle.blk_law.specs.Sheets.Numbers.{BlkPlace}
use Rattle.actor_set.specs.Parts.{HostilePart, Part, UartPart, DriverPart, RxPart, TxPart, ClientPart, NetworkPart, SendingPart, BlockPart}
use Rattle.actor_set.specs.Laws.Kinds.{AllCalm, sheet, scene_of}
use Rattle.cast_law.specs.Pools.Places.{HasNetAt, HasBlkAt, pools_first, pools_behind}
use Rattle.cast_law.specs.Pools.Pooling.{keepers_at}
use Rattle.cast_law.proofs.PoolsLemmas.Table.{IsNetwork}
use Rattle.cast_law.proofs.PoolsLemmas.Naming.{IsBlock}
use Rattle.cast_law.proofs.PoolsLemmas.Deals.{Deals, no_deals, joined, first_numbered_of, then_numbered_of, first_share, then_share, no_share, all_owned}
use Rattle.cast_law.proofs.PoolsLemmas.NetDealing.{net_deals, owner as net_owner}
use Rattle.cast_law.proofs.PoolsLemmas.BlkDealing.{blk_deals, owner as blk_owner}

module _ (rows : List QueueRow) (cast : List Part) (calm : AllCalm cast) (seated : AreSeated (sheet (scene_of cast)) rows cast) where
  abbrev scene : Scene
  scene = scene_of cast

  no_network : (k : ℕ) (p : Part) → HasNetAt rows None cast → slice_get cast k ≡ Some p → IsNetwork p → ⊥
  no_network k (UartPart rx tx input) none at is = is
  no_network k (DriverPart device_rx device_tx rx tx) none at is = is
  no_network k (RxPart rx clients drops) none at is = is
  no_network k (TxPart tx clients) none at is = is
  no_network k (ClientPart rx tx script) none at is = is
  no_network k (NetworkPart p) none at is = none.none k p at
  no_network k (SendingPart p) none at is = none.no_sender k p at
  no_network k (BlockPart p) none at is = is
  no_network k (HostilePart p) none at is = is

  no_block : (k : ℕ) (p : Part) → HasBlkAt rows None cast → slice_get cast k ≡ Some p → IsBlock p → ⊥
  no_block k (UartPart rx tx input) none at is = is
  no_block k (DriverPart device_rx device_tx rx tx) none at is = is
  no_block k (RxPart rx clients drops) none at is = is
  no_block k (TxPart tx clients) none at is = is
  no_block k (ClientPart rx tx script) none at is = is
  no_block k (NetworkPart p) none at is = is
  no_block k (SendingPart p) none at is = is
  no_block k (BlockPart p) none at is = none k p at
  no_block k (HostilePart p) none at is = is

  first_deals : (n : Option NetPlace) → HasNetAt rows n cast → AreNumbered (pools_first n) → (owner : ℕ → ℕ) × Deals scene cast IsNetwork (pools_first n) owner
  first_deals None none apart = (λ i. length cast, no_deals scene cast IsNetwork (λ k p at is. no_network k p none at is))
  first_deals (Some net) has apart = (net_owner rows net cast calm has.0 has.1 seated apart, net_deals rows net cast calm has.0 has.1 seated apart)

  then_deals : (b : Option BlkPlace) → HasBlkAt rows b cast → AreNumbered (pools_behind b) → (owner : ℕ → ℕ) × Deals scene cast IsBlock (pools_behind b) owner
  then_deals None none apart = (λ i. length cast, no_deals scene cast IsBlock (λ k p at is. no_block k p none at is))
  then_deals (Some blk) has apart = (blk_owner rows blk cast calm has.0 seated apart, blk_deals rows blk cast calm has.0 seated apart)

  differ : (p : Part) → IsNetwork p → IsBlock p → ⊥
  differ (UartPart rx tx input) one two = one
  differ (DriverPart device_rx device_tx rx tx) one two = one
  differ (RxPart rx clients drops) one two = one
  differ (TxPart tx clients) one two = one
  differ (ClientPart rx tx script) one two = one
  differ (NetworkPart p) one two = two
  differ (SendingPart p) one two = two
  differ (BlockPart p) one two = one
  differ (HostilePart p) one two = one

  module _ (n : Option NetPlace) (b : Option BlkPlace) (has_net : HasNetAt rows n cast) (has_blk : HasBlkAt rows b cast) (apart : AreNumbered (pools_first n ++ pools_behind b)) where
    abbrev one : (owner : ℕ → ℕ) × Deals scene cast IsNetwork (pools_first n) owner
    one = first_deals n has_net (first_numbered_of (pools_first n) (pools_behind b) apart)

    abbrev two : (owner : ℕ → ℕ) × Deals scene cast IsBlock (pools_behind b) owner
    two = then_deals b has_blk (then_numbered_of (pools_first n) (pools_behind b) apart)

    abbrev sizes : ℕ → ℕ
    sizes = sizes_of (pools_first n ++ pools_behind b)

    -- the actor that has the pool of a number at the start
    pub owner : ℕ → ℕ
    owner = joined scene cast IsNetwork IsBlock (pools_first n) (pools_behind b) one.0 two.0 one.1 two.1 apart differ

    all_share : (k : ℕ) (p : Part) → slice_get cast k ≡ Some p → (pool : ℕ) → (sheet scene p).hand pool ≡ share_of sizes owner k pool
    unfolding owner
    all_share k (UartPart rx tx input) at = no_share scene cast IsNetwork IsBlock (pools_first n) (pools_behind b) one.0 two.0 one.1 two.1 apart differ k (UartPart rx tx input) at (λ h. h) (λ h. h)
    all_share k (DriverPart device_rx device_tx rx tx) at = no_share scene cast IsNetwork IsBlock (pools_first n) (pools_behind b) one.0 two.0 one.1 two.1 apart differ k (DriverPart device_rx device_tx rx tx) at (λ h. h) (λ h. h)
    all_share k (RxPart rx clients drops) at = no_share scene cast IsNetwork IsBlock (pools_first n) (pools_behind b) one.0 two.0 one.1 two.1 apart differ k (RxPart rx clients drops) at (λ h. h) (λ h. h)
    all_share k (TxPart tx clients) at = no_share scene cast IsNetwork IsBlock (pools_first n) (pools_behind b) one.0 two.0 one.1 two.1 apart differ k (TxPart tx clients) at (λ h. h) (λ h. h)
    all_share k (ClientPart rx tx script) at = no_share scene cast IsNetwork IsBlock (pools_first n) (pools_behind b) one.0 two.0 one.1 two.1 apart differ k (ClientPart rx tx script) at (λ h. h) (λ h. h)
    all_share k (NetworkPart p) at = first_share scene cast IsNetwork IsBlock (pools_first n) (pools_behind b) one.0 two.0 one.1 two.1 apart differ k (NetworkPart p) at tt
    all_share k (SendingPart p) at = first_share scene cast IsNetwork IsBlock (pools_first n) (pools_behind b) one.0 two.0 one.1 two.1 apart differ k (SendingPart p) at tt
    all_share k (BlockPart p) at = then_share scene cast IsNetwork IsBlock (pools_first n) (pools_behind b) one.0 two.0 one.1 two.1 apart differ k (BlockPart p) at tt
    all_share k (HostilePart p) at = absurd (let same = calm k (HostilePart p) at in cc)

    -- each actor has its share at the start
    pub are_spread : AreSpread sizes owner (keepers_at cast)
    are_spread k keeper at pool =
        let x = map_from (λ p. keeper_of (sheet scene p)) cast k keeper at in
        subst (λ (y : Keeper). y.hand pool ≡ share_of sizes owner k pool) x.2 (all_share k x.0 x.1 pool)

    pub pool_owned : (i : ℕ) → (owner i < length cast) ⊎ (sizes i ≡ 0)
    unfolding owner
    pool_owned i = all_owned scene cast IsNetwork IsBlock (pools_first n) (pools_behind b) one.0 two.0 one.1 two.1 apart differ i
