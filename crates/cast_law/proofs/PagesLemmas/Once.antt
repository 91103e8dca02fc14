-- Each buffer of a cast at work is there once, by one moment's lists.
use Rattle.std.proofs.Common.{◌≡◌, ◌≤◌, ℕ, Option, Some, None, List, [], ◌∷◌, length, map, slice_get, refl, ap, ◌∙◌, ap₂, arith}
use Rattle.std.specs.List.{sum_by}
use Rattle.std.proofs.lemmas.List.Sums.{sum_by-cons}
use Rattle.cargo_core.specs.Blocks.{blk_buffer_bytes}
use Rattle.cargo_core.specs.declared.item.PoolId.{PoolId}
use Rattle.wire_core.specs.declared.names.PoolRow.{PoolRow}
use Rattle.wire_core.specs.declared.names.QueueRow.{QueueRow}
use Rattle.wire_core.specs.Ends.{Role, End}
use Rattle.wire_core.specs.Lists.{Passed}
use Rattle.play_core.specs.Sheets.{AreFilled, AreSeated}
use Rattle.play_core.specs.Still.{IsPeopled}
use Rattle.play_core.proofs.Lists.{map_get, there_below, there_is}
use Rattle.owner_law.specs.Pools.Places.{PoolAt}
use Rattle.buffer_kit.specs.Conserving.{Count, counted, of_other_length, the_page}
use Rattle.buffer_kit.specs.Virtualising.{from_queues, to_queues}
use Rattle.blk_virt.specs.Desks.{holders}
use Rattle.blk_virt.specs.declared.requests.Holder.{Holder}
use Rattle.blk_virt.specs.declared.virtualiser.BlkVirt.{BlkVirt}
use Rattle.blk_law.specs.Sheets.Numbers.{BlkPlace}
use Rattle.blk_law.specs.Sheets.Playing.{virt_part}
use Rattle.blk_quiet.proofs.CastLemmas.Numbers.{sharers_are, virt_queues}
use Rattle.actor_set.specs.Parts.{Part, BlockPart}
use Rattle.actor_set.specs.Actors.{FitsActor, actor_hand, part_of}
use Rattle.actor_set.specs.declared.actor.Actor.{Actor}
use Rattle.actor_set.specs.declared.actor.Actor.TheVariants as Kinds
use Rattle.actor_set.specs.Laws.Kinds.{scene_of, sheet}
use Rattle.wired_law.specs.Buffers.{HasEachOnce, in_cast}
use Rattle.wired_law.specs.Wiring.{AreAtWork}
use Rattle.wired_law.proofs.Blocks.{virt_is}
use Rattle.cast_law.specs.Pools.Places.{HasBlkAt, HasPools, IsPlaced, PoolPlace}
use Rattle.cast_law.specs.Pages.Paging.{actor_weighs, pools_weigh}
use Rattle.cast_law.proofs.PagesLemmas.Beside.{few_all, lengths_blk}
use Rattle.cast_law.proofs.PagesLemmas.Holding.{work_weighs}

-- hands have no more than all that actors have
hands_few : (f : Count) (passed : Passed) (actors : List Actor) → sum_by (λ (x : Actor). counted f (actor_hand x)) actors ≤ sum_by (actor_weighs f passed) actors
hands_few f passed [] = omega arith
hands_few f passed (x ∷ actors) = omega (arith, sum_by-cons (λ (y : Actor). counted f (actor_hand y)) x actors, sum_by-cons (actor_weighs f passed) x actors, hands_few f passed actors)

module _ (ends : Role → ℕ → End) (rows : List QueueRow) (actors : List Actor) (passed : Passed) (peopled : IsPeopled rows (length (map part_of actors))) (seated : AreSeated (sheet (scene_of (map part_of actors))) rows (map part_of actors)) (filled : AreFilled (sheet (scene_of (map part_of actors))) rows (map part_of actors)) (pools : List PoolRow) (place : PoolPlace) (placed : IsPlaced rows place (map part_of actors)) (has : HasPools pools place) (work : AreAtWork ends rows actors passed) where
  abbrev cast : List Part
  cast = map part_of actors

  in_pools : (f : Count) → in_cast f rows actors passed ≤ pools_weigh f cast
  in_pools f = omega (arith, work_weighs ends rows actors passed peopled seated filled work f, hands_few f passed actors)

  -- the pool of a block client is one of the cast's
  holder_long : (k : ℕ) (v : BlkVirt) → slice_get actors k ≡ Some (Kinds.BlkVirt v) → (j : ℕ) (h : Holder) → slice_get (holders v.work.desk) j ≡ Some h → pools_weigh (of_other_length h.pool blk_buffer_bytes) cast ≡ 0
  holder_long k v at j h h_at = by place.blk refl placed.blk
    where
      part_at : slice_get cast k ≡ Some (BlockPart (virt_part v))
      part_at = map_get part_of actors k (Kinds.BlkVirt v) at

      by : (o : Option BlkPlace) → place.blk ≡ o → HasBlkAt rows o cast → pools_weigh (of_other_length h.pool blk_buffer_bytes) cast ≡ 0
      by None here none = absurd (none k (virt_part v) part_at)
      by (Some blk) here (all, apart) =
          let is = virt_is blk v (all.only k (virt_part v) part_at) in
          let own = virt_queues blk v is in
          let fits : FitsActor ends (Kinds.BlkVirt v) = work.fits k (Kinds.BlkVirt v) at in
          let shared = sharers_are blk.first 0 (holders v.work.desk) blk.entries blk.pools (from_queues v.ends) (to_queues v.ends) fits.0.from_each fits.0.to_each all.pools_many own.3 in
          let below = there_below (holders v.work.desk) j h h_at in
          let q = there_is (from_queues v.ends) j (let e = fits.0.from_each in omega (arith, below, e)) in
          let r = there_is (to_queues v.ends) j (let e = fits.0.to_each in omega (arith, below, e)) in
          let s = shared.1 j h q.0 r.0 h_at q.1 r.1 in
          let none = lengths_blk rows pools place cast seated placed has blk here j s.1 s.3 (all.some j s.1 s.3) in
          let number : h.pool ≡ record { 0 = s.1.number } = ap (λ (p : PoolAt). record { 0 = p.number }) s.4.0 in
          let size : blk_buffer_bytes ≡ s.1.size = ap (λ (p : PoolAt). p.size) s.4.0 in
          ap₂ (λ (p : PoolId) (n : ℕ). pools_weigh (of_other_length p n) cast) number size ∙ none

  pub each_once : HasEachOnce rows actors passed
  each_once = record {
    once = λ pool number. omega (arith, in_pools (the_page pool number), few_all rows pools place cast seated placed has pool.0 number);
    long = λ k v at j h h_at. omega (arith, in_pools (of_other_length h.pool blk_buffer_bytes), holder_long k v at j h h_at);
  }
