-- What queues and actors show of the buffers of a cast with hostile clients is all that there is.
use Rattle.std.proofs.Common.{◌≡◌, ◌⊎◌, ◌==◌, ◌+◌, ◌++◌, ◌<◌, ℕ, zero, suc, Bool, true, false, cond, if◌then◌else◌, Some, List, [], ◌∷◌, length, length-append, map, flat_map, slice_get, refl, sym, ap, ◌∙◌, subst, arith, eq-eqb, ne_eqb, inl, inr}
use Rattle.std.specs.List.{sum_by}
use Rattle.std.proofs.lemmas.List.{length-map}
use Rattle.std.proofs.lemmas.List.Sums.{sum_by-cons}
use Rattle.cargo_core.specs.Bodies.{buffers_of}
use Rattle.cargo_core.specs.declared.item.PoolId.{PoolId}
use Rattle.wire_core.specs.declared.names.PoolRow.{PoolRow}
use Rattle.wire_core.specs.declared.names.QueueRow.{QueueRow}
use Rattle.wire_core.specs.Lists.{Passed}
use Rattle.wire_core.specs.Marks.{sum_below}
use Rattle.wire_core.specs.Queues.{Queue, queue_at}
use Rattle.turn_kit.specs.Hands.{bodies_at, bodies_of}
use Rattle.play_core.specs.Manners.{Calm}
use Rattle.play_core.specs.Moved.{Moved}
use Rattle.play_core.specs.Names.{wild_in}
use Rattle.play_core.specs.Sheets.{AreSeated, Scene}
use Rattle.play_core.specs.Wants.{intake}
use Rattle.play_core.proofs.Lists.{map_get, some_is, there_is}
use Rattle.owner_law.specs.Things.{Naming, as_buffer, requests_of, thing_at}
use Rattle.owner_law.specs.Keeping.{Keeper, keeper_of}
use Rattle.owner_law.specs.Pools.Lines.{Holder}
use Rattle.owner_law.specs.Pools.Places.{PoolAt, numbers_from, pool_hand}
use Rattle.owner_law.proofs.Carrying.{get_first}
use Rattle.owner_law.proofs.Sums.{sum_none}
use Rattle.buffer_kit.specs.Conserving.{Count, counted, of_pool}
use Rattle.buffer_kit.proofs.Conserving.{counted-append, counted-at, pool_counted}
use Rattle.net_virt_rx.specs.Receiving.{RxStandsFor}
use Rattle.net_virt_rx.specs.Sharing.{lent_bodies, lent_many}
use Rattle.net_virt_rx.specs.declared.NetVirtRx.{NetVirtRx}
use Rattle.net_law.specs.Parts.Parts.{NetDevice, NetDriver, NetReceiver, NetCopier, NetClient}
use Rattle.net_quiet.proofs.PoolsLemmas.Lending.{loans_many}
use Rattle.blk_law.specs.Sheets.Parts.{DiskDevice, BlkDriver, BlkVirt, BlkClient}
use Rattle.actor_set.specs.Parts.{Part, UartPart, DriverPart, RxPart, TxPart, ClientPart, NetworkPart, SendingPart, BlockPart, HostilePart}
use Rattle.actor_set.specs.Actors.{actor_hand, actor_lent, part_of}
use Rattle.actor_set.specs.declared.actor.Actor.{Actor}
use Rattle.actor_set.specs.declared.actor.Actor.TheVariants as Kinds
use Rattle.actor_set.specs.Laws.Kinds.{AllCalm, hostiles, manner_of, scene_of, sheet}
use Rattle.cast_law.specs.Pools.Beside.{CastCarries}
use Rattle.cast_law.specs.Pools.Holders.{NothingAt, actor_holder, holders_of}
use Rattle.cast_law.specs.Pools.Places.{HasPools, IsPlaced, PoolPlace, cast_naming, place_sizes}
use Rattle.cast_law.specs.Pools.Pooling.{AddUp, AreOverQueues, keepers_at}
use Rattle.cast_law.specs.Pages.Paging.{actor_kept, actor_lends, actor_weighs, part_weighs, pool_weighs, pools_weigh, shown_bodies}
use Rattle.cast_law.proofs.PoolsLemmas.Calmed.{Calmed, IsLike, calmed}
use Rattle.cast_law.proofs.PoolsLemmas.Dealing.{are_spread, owner, pool_owned}
use Rattle.cast_law.proofs.PoolsLemmas.Naming.{names_at}
use Rattle.cast_law.proofs.BesideLemmas.Queues.{IsServing, serves_wild}
use Rattle.cast_law.proofs.PagesLemmas.Holding.{cast_whole, counted-flat, sums_alike}
use Rattle.cast_law.proofs.PagesLemmas.Lending.{all_none}

sum_same : {X : Type 0} (g h : X → ℕ) (xs : List X) → ((x : X) → g x ≡ h x) → sum_by g xs ≡ sum_by h xs
sum_same g h [] same = refl
sum_same g h (x ∷ xs) same = omega (arith, sum_by-cons g x xs, sum_by-cons h x xs, same x, sum_same g h xs same)

sum_map : {X Y : Type 0} (g : Y → ℕ) (f : X → Y) (xs : List X) → sum_by g (map f xs) ≡ sum_by (λ x. g (f x)) xs
sum_map g f [] = refl
sum_map g f (x ∷ xs) = omega (arith, sum_by-cons g (f x) (map f xs), sum_by-cons (λ y. g (f y)) x xs, sum_map g f xs)

sum_two : {X : Type 0} (g h : X → ℕ) (xs : List X) → sum_by (λ x. g x + h x) xs ≡ sum_by g xs + sum_by h xs
sum_two g h [] = refl
sum_two g h (x ∷ xs) = omega (arith, sum_by-cons (λ y. g y + h y) x xs, sum_by-cons g x xs, sum_by-cons h x xs, sum_two g h xs)

-- where one alone counts
sum_one : {X : Type 0} (g : X → ℕ) (xs : List X) (k : ℕ) (x : X) → slice_get xs k ≡ Some x → ((j : ℕ) (y : X) → slice_get xs j ≡ Some y → (j ≡ k → ⊥) → g y ≡ 0) → sum_by g xs ≡ g x
sum_one g [] k x at none = cc
sum_one g (y ∷ xs) zero x at none = omega (arith, sum_by-cons g y xs, ap g (some_is at), sum_none g xs (λ j z z_at. none (suc j) z z_at (λ e. omega (arith, e))))
sum_one g (y ∷ xs) (suc k) x at none = omega (arith, sum_by-cons g y xs, none 0 y refl (λ e. omega (arith, e)), sum_one g xs k x at (λ j z z_at ne. none (suc j) z z_at (λ e. ne (omega (arith, e)))))

numbers_many : (from n : ℕ) → length (numbers_from from n) ≡ n
numbers_many from zero = refl
numbers_many from (suc n) = ap suc (numbers_many (from + 1) n)

ones : (n : ℕ) → sum_below (λ no. 1) n ≡ n
ones zero = refl
ones (suc n) = omega (arith, ones n)

none_below : (n : ℕ) → sum_below (λ no. 0) n ≡ 0
none_below zero = refl
none_below (suc n) = omega (arith, none_below n)

-- what is counted of a pool is how many buffers its owner has
pool_many : (pool : ℕ) (q : PoolAt) → pool_weighs (of_pool (record { 0 = pool })) q ≡ length (pool_hand q pool)
pool_many pool q = by (q.number == pool)
  where
    by : (t : Bool) → sum_below (λ no. if t then 1 else 0) q.buffers ≡ length (if t then numbers_from 0 q.buffers else [])
    by true = ones q.buffers ∙ sym (numbers_many 0 q.buffers)
    by false = none_below q.buffers

one_many : (pool : ℕ) (q : PoolAt) → sum_by (pool_weighs (of_pool (record { 0 = pool }))) (q ∷ []) ≡ length (pool_hand q pool)
one_many pool q = omega (arith, sum_by-cons (pool_weighs (of_pool (record { 0 = pool }))) q [], pool_many pool q)

pub part_many : (pool : ℕ) (scene : Scene) (p : Part) → manner_of p ≡ Calm → part_weighs (of_pool (record { 0 = pool })) p ≡ length ((sheet scene p).hand pool)
part_many pool scene (UartPart rx tx input) calm = refl
part_many pool scene (DriverPart device_rx device_tx rx tx) calm = refl
part_many pool scene (RxPart rx clients drops) calm = refl
part_many pool scene (TxPart tx clients) calm = refl
part_many pool scene (ClientPart rx tx script) calm = refl
part_many pool scene (NetworkPart (NetDevice rx_free rx_active tx_active tx_free frames drops)) calm = refl
part_many pool scene (NetworkPart (NetDriver ways)) calm = refl
part_many pool scene (NetworkPart (NetReceiver active free p clients)) calm = omega (arith, one_many pool p)
part_many pool scene (NetworkPart (NetCopier lease_active lease_free rx_active rx_free drops)) calm = refl
part_many pool scene (NetworkPart (NetClient program mac rx_active rx_free tx_active tx_free rx tx)) calm =
    omega (arith, sum_by-cons (pool_weighs (of_pool (record { 0 = pool }))) rx (tx ∷ []), pool_many pool rx, one_many pool tx, length-append (pool_hand rx pool) (pool_hand tx pool))
part_many pool scene (SendingPart p) calm = refl
part_many pool scene (BlockPart (DiskDevice req resp image)) calm = refl
part_many pool scene (BlockPart (BlkDriver ways)) calm = refl
part_many pool scene (BlockPart (BlkVirt req resp sectors p clients)) calm = omega (arith, one_many pool p)
part_many pool scene (BlockPart (BlkClient req resp asks p)) calm = omega (arith, one_many pool p)
part_many pool scene (HostilePart p) calm = absurd cc

parts_many : (pool : ℕ) (scene : Scene) (cast : List Part) → AllCalm cast → pools_weigh (of_pool (record { 0 = pool })) cast ≡ sum_by (λ (k : Keeper). length (k.hand pool)) (map (λ p. keeper_of (sheet scene p)) cast)
parts_many pool scene [] calm = refl
parts_many pool scene (p ∷ cast) calm =
    omega (
      arith,
      sum_by-cons (part_weighs (of_pool (record { 0 = pool }))) p cast,
      sum_by-cons (λ (k : Keeper). length (k.hand pool)) (keeper_of (sheet scene p)) (map (λ q. keeper_of (sheet scene q)) cast),
      part_many pool scene p (calm 0 p refl),
      parts_many pool scene cast (λ k q at. calm (suc k) q at),
    )

module _ (rows : List QueueRow) (pools : List PoolRow) (place : PoolPlace) (cast : List Part) (seated : AreSeated (sheet (scene_of cast)) rows cast) (placed : IsPlaced rows place cast) (has : HasPools pools place) where
  -- all buffers of a pool are those of its number
  pool_sum : (c : Calmed rows place.net place.blk cast) (pool : ℕ) → pools_weigh (of_pool (record { 0 = pool })) cast ≡ place_sizes place pool
  pool_sum c pool = sym (c.weighs (of_pool (record { 0 = pool }))) ∙ (parts_many pool (scene_of c.parts) c.parts c.calm ∙ by (pool_owned rows c.parts c.calm c.seated place.net place.blk c.net c.blk has.numbered pool))
    where
      owns : ℕ → ℕ
      owns = owner rows c.parts c.calm c.seated place.net place.blk c.net c.blk has.numbered

      spread : (k : ℕ) (p : Keeper) → slice_get (keepers_at c.parts) k ≡ Some p → p.hand pool ≡ (if owner rows c.parts c.calm c.seated place.net place.blk c.net c.blk has.numbered pool == k then numbers_from 0 (place_sizes place pool) else [])
      spread k p at = are_spread rows c.parts c.calm c.seated place.net place.blk c.net c.blk has.numbered k p at pool

      by : (owner rows c.parts c.calm c.seated place.net place.blk c.net c.blk has.numbered pool < length c.parts) ⊎ (place_sizes place pool ≡ 0) → sum_by (λ (k : Keeper). length (k.hand pool)) (keepers_at c.parts) ≡ place_sizes place pool
      by (inl there) =
          let o = owner rows c.parts c.calm c.seated place.net place.blk c.net c.blk has.numbered pool in
          let same : length (keepers_at c.parts) ≡ length c.parts = length-map c.parts (λ p. keeper_of (sheet (scene_of c.parts) p)) in
          let p = there_is (keepers_at c.parts) o (omega (arith, there, same)) in
          let mine : length (p.0.hand pool) ≡ place_sizes place pool = ap (λ (l : List ℕ). length l) (spread o p.0 p.1 ∙ ap (λ t. if t then numbers_from 0 (place_sizes place pool) else []) (eq-eqb o o refl)) ∙ numbers_many 0 (place_sizes place pool) in
          sum_one (λ (k : Keeper). length (k.hand pool)) (keepers_at c.parts) o p.0 p.1 (λ j y y_at ne. ap (λ (l : List ℕ). length l) (spread j y y_at ∙ ap (λ t. if t then numbers_from 0 (place_sizes place pool) else []) (ne_eqb o j (λ e. ne (sym e))))) ∙ mine
      by (inr none) = sum_none (λ (k : Keeper). length (k.hand pool)) (keepers_at c.parts) (λ k p at. ap (λ (l : List ℕ). length l) (spread k p at) ∙ zero_share (owner rows c.parts c.calm c.seated place.net place.blk c.net c.blk has.numbered pool == k)) ∙ sym none
        where
          zero_share : (t : Bool) → length (if t then numbers_from 0 (place_sizes place pool) else []) ≡ 0
          zero_share true = numbers_many 0 (place_sizes place pool) ∙ none
          zero_share false = refl

  pub pool_all_sum : (pool : ℕ) → pools_weigh (of_pool (record { 0 = pool })) cast ≡ place_sizes place pool
  pool_all_sum = pool_sum (calmed rows place.net place.blk cast placed.net placed.blk placed.rogues seated)

-- what the receiving virtualiser has lent, in bodies and in number
lent_same : (v : NetVirtRx) (passed : Passed) → RxStandsFor v passed → (pool : PoolId) → buffers_of pool (lent_bodies v.work.lent) ≡ actor_lent (Kinds.NetVirtRx v) pool.0
lent_same v passed x pool = loans_many pool v.work.stock.pool v.work.lent (λ b loan at. ((x.work.loans b loan at).same_pool, (x.work.loans b loan at).some)) ∙ ap (λ n. cond {A = ℕ} (v.work.stock.pool.0 == pool.0) (lent_many n v.work.lent) 0) x.work.lent_long

module _ (rows : List QueueRow) (actors : List Actor) (passed : Passed) (world : List Queue) (over : AreOverQueues rows actors passed world) (place : PoolPlace) (placed : IsPlaced rows place (map part_of actors)) (m : Moved) (carry : CastCarries rows place actors m passed) where
  abbrev cast : List Part
  cast = map part_of actors

  abbrev scene : Scene
  scene = scene_of cast

  abbrev naming : Naming
  naming = cast_naming scene place

  quiet : Calmed rows place.net place.blk cast
  quiet = calmed rows place.net place.blk cast placed.net placed.blk placed.rogues over.seated

  abbrev Serves : Part → Type 0
  Serves p = IsServing rows place.net place.blk cast placed.net placed.blk placed.rogues over.seated over.filled p

  as_calm : (k : ℕ) (p : Part) → slice_get cast k ≡ Some p → manner_of p ≡ Calm → slice_get quiet.parts k ≡ Some p
  as_calm k p at calm = let x = quiet.like k p at in by x.0 x.1 x.2
    where
      by : (q : Part) → slice_get quiet.parts k ≡ Some q → IsLike rows place.net place.blk p q → slice_get quiet.parts k ≡ Some p
      by q q_at (inl (c, e)) = q_at ∙ ap Some e
      by q q_at (inr (r, e, f)) = absurd (let same = sym calm ∙ ap manner_of e in cc)

  part_names : (k : ℕ) (p : Part) → slice_get cast k ≡ Some p → manner_of p ≡ Calm → Rattle.cast_law.specs.Pools.Holders.NamesAt naming scene p
  part_names k p at calm = subst (λ z. Rattle.cast_law.specs.Pools.Holders.NamesAt (cast_naming z place) z p) quiet.scene (names_at rows quiet.parts quiet.calm quiet.seated place.net place.blk quiet.net quiet.blk k p (as_calm k p at calm))

  -- what an actor of the serial class took are no buffers
  input_none : (f : Count) (k : ℕ) (p : Part) → slice_get cast k ≡ Some p → manner_of p ≡ Calm → (Serves p → ⊥) → NothingAt naming scene p → (n : ℕ) → slice_get (sheet scene p).ends 0 ≡ Some (intake n) → counted f (bodies_at passed.taken (n ∷ [])) ≡ 0
  input_none f k p at calm aloof none n end =
      let quiet_queue : wild_in (hostiles cast) rows n ≡ false = by (wild_in (hostiles cast) rows n) refl in
      omega (
        arith,
        counted-at f passed.taken n [],
        all_none f (passed.taken n) (λ j c c_at b.
            let first : slice_get (passed.sent n) j ≡ Some c = ap (λ l. slice_get l j) (over.stands_there n) ∙ get_first (passed.taken n) (queue_at world n).entries j c c_at in
            carry.bodies n quiet_queue j c first b ∙ ap (λ names. as_buffer b (thing_at names (requests_of names m) j c.0)) (none 0 (intake n) end)),
      )
    where
      by : (t : Bool) → wild_in (hostiles cast) rows n ≡ t → t ≡ false
      by false e = refl
      by true e = absurd (aloof (serves_wild rows place.net place.blk cast placed.net placed.blk placed.rogues over.seated over.filled k p at calm 0 (intake n) end e))

  pub kept_same : (f : Count) (k : ℕ) (x : Actor) → slice_get actors k ≡ Some x → counted f (actor_kept x passed) ≡ counted f (actor_lends x)
  kept_same f k (Kinds.UartDevice x) at = input_none f k (part_of (Kinds.UartDevice x)) (map_get part_of actors k (Kinds.UartDevice x) at) refl aloof (part_names k (part_of (Kinds.UartDevice x)) (map_get part_of actors k (Kinds.UartDevice x) at) refl) x.terminal.input.queue.0 refl
    where
      aloof : Serves (part_of (Kinds.UartDevice x)) → ⊥
      aloof (inl y) = let e = y.5 in cc
      aloof (inr (inl y)) = let e = y.2 in cc
      aloof (inr (inr y)) = let e = y.2 in cc
  kept_same f k (Kinds.UartDriver x) at = refl
  kept_same f k (Kinds.SerialVirtRx x) at = input_none f k (part_of (Kinds.SerialVirtRx x)) (map_get part_of actors k (Kinds.SerialVirtRx x) at) refl aloof (part_names k (part_of (Kinds.SerialVirtRx x)) (map_get part_of actors k (Kinds.SerialVirtRx x) at) refl) x.input.queue.0 refl
    where
      aloof : Serves (part_of (Kinds.SerialVirtRx x)) → ⊥
      aloof (inl y) = let e = y.5 in cc
      aloof (inr (inl y)) = let e = y.2 in cc
      aloof (inr (inr y)) = let e = y.2 in cc
  kept_same f k (Kinds.SerialVirtTx x) at = refl
  kept_same f k (Kinds.SerialClient x) at = input_none f k (part_of (Kinds.SerialClient x)) (map_get part_of actors k (Kinds.SerialClient x) at) refl aloof (part_names k (part_of (Kinds.SerialClient x)) (map_get part_of actors k (Kinds.SerialClient x) at) refl) x.terminal.input.queue.0 refl
    where
      aloof : Serves (part_of (Kinds.SerialClient x)) → ⊥
      aloof (inl y) = let e = y.5 in cc
      aloof (inr (inl y)) = let e = y.2 in cc
      aloof (inr (inr y)) = let e = y.2 in cc
  kept_same f k (Kinds.EthDevice x) at = refl
  kept_same f k (Kinds.EthDriver x) at = refl
  kept_same f k (Kinds.NetVirtRx x) at = refl
  kept_same f k (Kinds.NetCopier x) at = refl
  kept_same f k (Kinds.NetClient x) at = refl
  kept_same f k (Kinds.NetVirtTx x) at = refl
  kept_same f k (Kinds.DiskDevice x) at = refl
  kept_same f k (Kinds.BlkDriver x) at = refl
  kept_same f k (Kinds.BlkVirt x) at = refl
  kept_same f k (Kinds.BlkClient x) at = refl
  kept_same f k (Kinds.Rogue x) at = refl

  pub shown_all : (f : Count) → counted f (shown_bodies world actors) ≡ pools_weigh f cast
  shown_all f =
      let same = sums_alike actors (actor_weighs f passed) (λ x. counted f (actor_hand x ++ actor_lends x)) (λ k x at. omega (arith, kept_same f k x at, counted-append f (actor_hand x) (actor_lends x))) in
      let all = counted-append f (flat_map (λ (q : Queue). bodies_of q.entries) world) (flat_map (λ x. actor_hand x ++ actor_lends x) actors) in
      let queues = counted-flat f (λ (q : Queue). bodies_of q.entries) world in
      let hands = counted-flat f (λ x. actor_hand x ++ actor_lends x) actors in
      omega (arith, cast_whole rows actors passed world over f, same, all, queues, hands)

  -- lends are as they are told
  pub lends_same : (pool : PoolId) (k : ℕ) (x : Actor) → slice_get actors k ≡ Some x → counted (of_pool pool) (actor_lends x) ≡ actor_lent x pool.0
  lends_same pool k (Kinds.UartDevice x) at = refl
  lends_same pool k (Kinds.UartDriver x) at = refl
  lends_same pool k (Kinds.SerialVirtRx x) at = refl
  lends_same pool k (Kinds.SerialVirtTx x) at = refl
  lends_same pool k (Kinds.SerialClient x) at = refl
  lends_same pool k (Kinds.EthDevice x) at = refl
  lends_same pool k (Kinds.EthDriver x) at = refl
  lends_same pool k (Kinds.NetVirtRx x) at = sym (pool_counted pool (lent_bodies x.work.lent)) ∙ lent_same x passed (over.stands k (Kinds.NetVirtRx x) at) pool
  lends_same pool k (Kinds.NetCopier x) at = refl
  lends_same pool k (Kinds.NetClient x) at = refl
  lends_same pool k (Kinds.NetVirtTx x) at = refl
  lends_same pool k (Kinds.DiskDevice x) at = refl
  lends_same pool k (Kinds.BlkDriver x) at = refl
  lends_same pool k (Kinds.BlkVirt x) at = refl
  lends_same pool k (Kinds.BlkClient x) at = refl
  lends_same pool k (Kinds.Rogue x) at = refl

  -- so the numbers of each pool's line add up
  pub all_add_up : (pools : List PoolRow) → HasPools pools place → AddUp world (holders_of actors) pools
  all_add_up pools has k row at =
      let pool : PoolId = record { 0 = k } in
      let f : Count = of_pool pool in
      let total = shown_all f in
      let size : pools_weigh f cast ≡ row.buffers = pool_all_sum rows pools place cast over.seated placed has k ∙ (ap (place_sizes place) plus ∙ has.sized k row at) in
      let all = counted-append f (flat_map (λ (q : Queue). bodies_of q.entries) world) (flat_map (λ x. actor_hand x ++ actor_lends x) actors) in
      let queues = counted-flat f (λ (q : Queue). bodies_of q.entries) world in
      let hands = counted-flat f (λ x. actor_hand x ++ actor_lends x) actors in
      let q_same = sum_same (λ (q : Queue). counted f (bodies_of q.entries)) (λ (q : Queue). buffers_of pool (bodies_of q.entries)) world (λ q. sym (pool_counted pool (bodies_of q.entries))) in
      let each = sums_alike actors (λ x. counted f (actor_hand x ++ actor_lends x)) (λ x. buffers_of pool (actor_hand x) + actor_lent x k) (λ j x x_at. omega (arith, counted-append f (actor_hand x) (actor_lends x), pool_counted pool (actor_hand x), lends_same pool j x x_at)) in
      let split = sum_two (λ x. buffers_of pool (actor_hand x)) (λ x. actor_lent x k) actors in
      let held = sum_map (λ (h : Holder). buffers_of pool h.hand) (actor_holder scene) actors in
      let lent = sum_map (λ (h : Holder). h.lent k) (actor_holder scene) actors in
      omega (arith, total, size, all, queues, hands, q_same, each, split, held, lent)
    where
      plus : k ≡ 0 + k
      plus = omega arith
