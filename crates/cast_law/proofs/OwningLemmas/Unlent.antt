-- No buffer of a hostile client's pool is lent.
use Rattle.std.proofs.Common.{◌≡◌, ◌≢◌, ◌⊎◌, ◌==◌, ◌||◌, ◌++◌, ◌+◌, ◌*◌, ◌<◌, ℕ, zero, suc, Bool, true, false, cond, if◌then◌else◌, Option, Some, None, List, [], ◌∷◌, length, map, flat_map, slice_get, sum_by, refl, sym, ap, ap₂, ◌∙◌, subst, arith, inl, inr, ne_eqb}
use Rattle.std.proofs.Math.Dec.{eqb}
use Rattle.std.proofs.lemmas.Bool.Decides.{eqb_tells}
use Rattle.std.proofs.lemmas.List.Sums.{sum_by-cons}
use Rattle.wire_core.specs.declared.names.QueueRow.{QueueRow}
use Rattle.wire_core.specs.Queues.{Queue}
use Rattle.play_core.specs.Names.{Wild, wild_in}
use Rattle.play_core.specs.Sheets.{Scene}
use Rattle.play_core.proofs.Lists.{map_get}
use Rattle.owner_law.specs.Pools.Lines.{Holder}
use Rattle.owner_law.proofs.Carrying.{get_first}
use Rattle.owner_law.specs.Pools.Places.{AreNumbered, PoolAt}
use Rattle.net_law.specs.Owners.Names.{ClientPools}
use Rattle.net_law.specs.Parts.Numbers.{client_first}
use Rattle.net_law.specs.Parts.Parts.{NetPart}
use Rattle.net_law.specs.Parts.Playing.{receiver_part, stock_pool}
use Rattle.net_law.specs.TxParts.Numbers.{NetPlace}
use Rattle.net_virt_rx.specs.Sharing.{lent_many}
use Rattle.net_virt_rx.specs.declared.NetVirtRx.{NetVirtRx}
use Rattle.blk_law.specs.Sheets.Numbers.{BlkPlace}
use Rattle.actor_set.specs.Parts.{NetworkPart, Part}
use Rattle.actor_set.specs.Actors.{actor_lent, part_of}
use Rattle.actor_set.specs.declared.actor.Actor.{Actor}
use Rattle.actor_set.specs.declared.actor.Actor.TheVariants as Kinds
use Rattle.actor_set.specs.Laws.Kinds.{hostiles, scene_of}
use Rattle.wired_law.specs.Wiring.{IsOfNetwork}
use Rattle.cast_law.specs.PoolLines.PoolLines.{counted}
use Rattle.cast_law.specs.Pools.Beside.{in_blk, in_net, is_blk_rogues, is_net_rogues, is_rogues}
use Rattle.cast_law.specs.Pools.Holders.{actor_holder, holders_of}
use Rattle.cast_law.specs.Pools.Places.{HasNetAt, IsPlaced, PoolPlace, pools_behind, pools_first}
use Rattle.cast_law.proofs.PoolsLemmas.Deals.{get_behind}

or_true : (a b : Bool) → (a || b) ≡ true → (a ≡ true) ⊎ (b ≡ true)
or_true true b is = inl refl
or_true false b is = inr is

-- a pool of this number is there
abbrev There : List PoolAt → ℕ → Type 0
There ps pool = (j : ℕ) × (p : PoolAt) × (slice_get ps j ≡ Some p) × (p.number ≡ pool)

abbrev pairs : List ClientPools → List PoolAt
pairs qs = flat_map (λ (c : ClientPools). c.rx ∷ c.tx ∷ []) qs

-- a hostile client's pool is one of a client
net_there : (w : Wild) (first from : ℕ) (qs : List ClientPools) (pool : ℕ) → is_net_rogues w first from qs pool ≡ true → There (pairs qs) pool
net_there w first from [] pool is = cc
net_there w first from (q ∷ qs) pool is = by (w (client_first first from + 4)) is (λ e. net_there w first (from + 1) qs pool e)
  where
    more : There (pairs qs) pool → There (pairs (q ∷ qs)) pool
    more x = (suc (suc x.0), x.1, x.2, x.3)

    one : ((eqb q.rx.number pool ≡ true) × (q.rx.number ≡ pool)) ⊎ ((eqb q.rx.number pool ≡ false) × (q.rx.number ≢ pool)) → ((eqb q.tx.number pool ≡ true) × (q.tx.number ≡ pool)) ⊎ ((eqb q.tx.number pool ≡ false) × (q.tx.number ≢ pool)) → ((q.rx.number == pool) || ((q.tx.number == pool) || is_net_rogues w first (from + 1) qs pool)) ≡ true → (is_net_rogues w first (from + 1) qs pool ≡ true → There (pairs qs) pool) → There (pairs (q ∷ qs)) pool
    one (inl h) o e rest = (0, q.rx, refl, h.1)
    one (inr n) (inl h) e rest = (1, q.tx, refl, h.1)
    one (inr n) (inr l) e rest = more (rest (sym (ap₂ (λ s t. s || (t || is_net_rogues w first (from + 1) qs pool)) n.0 l.0) ∙ e))

    by : (t : Bool) → cond t ((q.rx.number == pool) || ((q.tx.number == pool) || is_net_rogues w first (from + 1) qs pool)) (is_net_rogues w first (from + 1) qs pool) ≡ true → (is_net_rogues w first (from + 1) qs pool ≡ true → There (pairs qs) pool) → There (pairs (q ∷ qs)) pool
    by true e rest = one (eqb_tells q.rx.number pool) (eqb_tells q.tx.number pool) e rest
    by false e rest = more (rest e)

blk_there : (w : Wild) (first from : ℕ) (qs : List PoolAt) (pool : ℕ) → is_blk_rogues w first from qs pool ≡ true → There qs pool
blk_there w first from [] pool is = cc
blk_there w first from (q ∷ qs) pool is = by (w (first + 4 + 2 * from)) is (λ e. blk_there w first (from + 1) qs pool e)
  where
    more : There qs pool → There (q ∷ qs) pool
    more x = (suc x.0, x.1, x.2, x.3)

    one : ((eqb q.number pool ≡ true) × (q.number ≡ pool)) ⊎ ((eqb q.number pool ≡ false) × (q.number ≢ pool)) → ((q.number == pool) || is_blk_rogues w first (from + 1) qs pool) ≡ true → (is_blk_rogues w first (from + 1) qs pool ≡ true → There qs pool) → There (q ∷ qs) pool
    one (inl h) e rest = (0, q, refl, h.1)
    one (inr n) e rest = more (rest (sym (ap (λ s. s || is_blk_rogues w first (from + 1) qs pool) n.0) ∙ e))

    by : (t : Bool) → cond t ((q.number == pool) || is_blk_rogues w first (from + 1) qs pool) (is_blk_rogues w first (from + 1) qs pool) ≡ true → (is_blk_rogues w first (from + 1) qs pool ≡ true → There qs pool) → There (q ∷ qs) pool
    by true e rest = one (eqb_tells q.number pool) e rest
    by false e rest = more (rest e)

-- so it isn't the one that is lent
not_lent : (net : NetPlace) (b : Option BlkPlace) → AreNumbered (pools_first (Some net) ++ pools_behind b) → (w : Wild) (pool : ℕ) → (in_net w (Some net) pool || in_blk w b pool) ≡ true → net.pool.number ≡ pool → ⊥
not_lent net b numbered w pool is same = by (or_true (in_net w (Some net) pool) (in_blk w b pool) is)
  where
    behind : (o : Option BlkPlace) → AreNumbered (pools_first (Some net) ++ pools_behind o) → in_blk w o pool ≡ true → ⊥
    behind None apart e = cc
    behind (Some blk) apart e =
        let x = blk_there w blk.first 0 blk.pools pool e in
        let same_place : 0 ≡ length (pools_first (Some net)) + suc x.0 = apart 0 (length (pools_first (Some net)) + suc x.0) net.pool x.1 refl (get_behind (pools_first (Some net)) (blk.pool ∷ blk.pools) (suc x.0) x.1 x.2) (same ∙ sym x.3) in
        omega (arith, same_place)

    by : (in_net w (Some net) pool ≡ true) ⊎ (in_blk w b pool ≡ true) → ⊥
    by (inl e) =
        let x = net_there w net.first 0 net.pools pool e in
        let same_place : 0 ≡ suc x.0 = numbered 0 (suc x.0) net.pool x.1 refl (get_first (pairs net.pools) (pools_behind b) x.0 x.1 x.2) (same ∙ sym x.3) in
        omega (arith, same_place)
    by (inr e) = behind b numbered e

module _ (rows : List QueueRow) (place : PoolPlace) (actors : List Actor) (placed : IsPlaced rows place (map part_of actors)) (has_apart : AreNumbered (pools_first place.net ++ pools_behind place.blk)) (pool : ℕ) (is : is_rogues (wild_in (hostiles (map part_of actors)) rows) place pool ≡ true) where
  abbrev parts : List Part
  parts = map part_of actors

  abbrev w : Wild
  w = wild_in (hostiles parts) rows

  own_pool_is : (net : NetPlace) (frames : List (List ℕ)) (v : NetVirtRx) → IsOfNetwork net frames (NetworkPart (receiver_part v)) → v.work.stock.pool.0 ≡ net.pool.number
  own_pool_is net frames v (inl e) = absurd cc
  own_pool_is net frames v (inr (inl e)) = absurd cc
  own_pool_is net frames v (inr (inr (inl e))) =
      let same : stock_pool v.work.stock ≡ net.pool = cc in
      ap (λ (p : PoolAt). p.number) same
  own_pool_is net frames v (inr (inr (inr (inl e)))) = absurd cc
  own_pool_is net frames v (inr (inr (inr (inr (inl x))))) = let e = x.2 in absurd cc
  own_pool_is net frames v (inr (inr (inr (inr (inr x))))) = let e = x.5 in absurd cc

  receiver_none : (v : NetVirtRx) (k : ℕ) → slice_get actors k ≡ Some (Kinds.NetVirtRx v) → (v.work.stock.pool.0 == pool) ≡ false
  receiver_none v k at = by place.net placed.net has_apart is
    where
      part_at : slice_get parts k ≡ Some (NetworkPart (receiver_part v))
      part_at = map_get part_of actors k (Kinds.NetVirtRx v) at

      by : (n : Option NetPlace) → HasNetAt rows n parts → AreNumbered (pools_first n ++ pools_behind place.blk) → (in_net w n pool || in_blk w place.blk pool) ≡ true → (v.work.stock.pool.0 == pool) ≡ false
      by None none apart e = absurd (none.none k (receiver_part v) part_at)
      by (Some net) has apart e = ne_eqb v.work.stock.pool.0 pool (λ same. not_lent net place.blk apart w pool e (sym (own_pool_is net (scene_of parts).frames v (has.0.only k (receiver_part v) part_at)) ∙ same))

  actor_none : (k : ℕ) (x : Actor) → slice_get actors k ≡ Some x → actor_lent x pool ≡ 0
  actor_none k (Kinds.UartDevice x) at = refl
  actor_none k (Kinds.UartDriver x) at = refl
  actor_none k (Kinds.SerialVirtRx x) at = refl
  actor_none k (Kinds.SerialVirtTx x) at = refl
  actor_none k (Kinds.SerialClient x) at = refl
  actor_none k (Kinds.EthDevice x) at = refl
  actor_none k (Kinds.EthDriver x) at = refl
  actor_none k (Kinds.NetVirtRx x) at = ap (λ t. if t then lent_many x.work.stock.buffers x.work.lent else 0) (receiver_none x k at)
  actor_none k (Kinds.NetCopier x) at = refl
  actor_none k (Kinds.NetClient x) at = refl
  actor_none k (Kinds.NetVirtTx x) at = refl
  actor_none k (Kinds.DiskDevice x) at = refl
  actor_none k (Kinds.BlkDriver x) at = refl
  actor_none k (Kinds.BlkVirt x) at = refl
  actor_none k (Kinds.BlkClient x) at = refl
  actor_none k (Kinds.Rogue x) at = refl

  all_none : (scene : Scene) (xs : List Actor) → ((k : ℕ) (x : Actor) → slice_get xs k ≡ Some x → actor_lent x pool ≡ 0) → sum_by (λ (h : Holder). h.lent pool) (map (actor_holder scene) xs) ≡ 0
  all_none scene [] none = refl
  all_none scene (x ∷ xs) none = omega (arith, sum_by-cons (λ (h : Holder). h.lent pool) (actor_holder scene x) (map (actor_holder scene) xs), none 0 x refl, all_none scene xs (λ k y at. none (suc k) y at))

  pub theirs_unlent : (world : List Queue) → (counted world (holders_of actors) (record { 0 = pool })).lent ≡ 0
  theirs_unlent world = all_none (scene_of parts) actors actor_none
