-- The table at the start, and a journal from a table on.
use Rattle.std.proofs.Common.{◌≡◌, ◌==◌, ◌≤◌, ℕ, Bool, true, false, cond, Some, List, [], ◌∷◌, length, map, slice_get, count_by, sum_by, refl, sym, ap, subst, arith}
use Rattle.std.proofs.lemmas.List.{length-map}
use Rattle.std.proofs.lemmas.List.Sums.{sum_by-cons}
use Rattle.wire_core.specs.declared.names.Entry.{Entry}
use Rattle.wire_core.specs.declared.names.PoolRow.{PoolRow}
use Rattle.wire_core.specs.declared.names.QueueRow.{QueueRow}
use Rattle.wire_core.specs.Journal.{EachMoment, History, LegalJournal, start_history}
use Rattle.wire_core.specs.Lists.{Passed}
use Rattle.wire_core.specs.Queues.{Queue, end_at}
use Rattle.play_core.specs.Names.{wild_in}
use Rattle.play_core.specs.Sheets.{AreApart, AreFilled, AreSeated}
use Rattle.play_core.specs.Still.{IsPeopled}
use Rattle.play_core.proofs.Lists.{map_from}
use Rattle.owner_law.specs.Census.{IsPool}
use Rattle.owner_law.specs.Things.{Buffer}
use Rattle.owner_law.specs.Keeping.{AreKeepers, IsOwned, Keeper, at_start, keeper_of, start_table}
use Rattle.owner_law.specs.Owners.{Table}
use Rattle.owner_law.proofs.Starts.{start_counted, start_pools, start_shown}
use Rattle.actor_set.specs.Parts.{Part}
use Rattle.actor_set.specs.Actors.{part_of}
use Rattle.actor_set.specs.declared.actor.Actor.{Actor}
use Rattle.actor_set.specs.Laws.Kinds.{hostiles, scene_of, sheet}
use Rattle.cast_law.specs.Pools.Beside.{is_rogues}
use Rattle.cast_law.specs.Pools.Owning.{BeginsBeside, HasOwnersBeside, IsKeptBeside, keeper_beside, owner_keepers, owner_naming}
use Rattle.cast_law.specs.Pools.Places.{HasPools, IsPlaced, PoolPlace, place_sizes}
use Rattle.cast_law.specs.Pools.Pooling.{AreOverQueues}
use Rattle.cast_law.proofs.PagesLemmas.Beside.{few_all, once_all}
use Rattle.cast_law.proofs.PagesLemmas.Counting.{parts_count}
use Rattle.cast_law.proofs.PoolsLemmas.Apart.{ends_apart}
use Rattle.cast_law.proofs.OwningLemmas.Hiding.{lender, owner_named}

module _ (rows : List QueueRow) (place : PoolPlace) (cast : List Part) where
  abbrev off : ℕ → Bool
  off = is_rogues (wild_in (hostiles cast) rows) place

  abbrev of_part : Part → Keeper
  of_part p = keeper_beside off (sheet (scene_of cast) p)

  -- of a buffer as often as before, or not at all
  each_few : (b : Buffer) (p : Part) → at_start (of_part p).hand b ≤ at_start (sheet (scene_of cast) p).hand b
  each_few b p = by (off b.pool)
    where
      by : (t : Bool) → count_by (λ no. no == b.no) (cond t [] ((sheet (scene_of cast) p).hand b.pool)) ≤ count_by (λ no. no == b.no) ((sheet (scene_of cast) p).hand b.pool)
      by true = omega arith
      by false = omega arith

  all_few : (b : Buffer) (ps : List Part) → sum_by (λ (k : Keeper). at_start k.hand b) (map of_part ps) ≤ sum_by (λ (k : Keeper). at_start k.hand b) (map (λ p. keeper_of (sheet (scene_of cast) p)) ps)
  all_few b [] = omega arith
  all_few b (p ∷ ps) =
      omega (
        arith,
        sum_by-cons (λ (k : Keeper). at_start k.hand b) (of_part p) (map of_part ps),
        sum_by-cons (λ (k : Keeper). at_start k.hand b) (keeper_of (sheet (scene_of cast) p)) (map (λ q. keeper_of (sheet (scene_of cast) q)) ps),
        each_few b p,
        all_few b ps,
      )

  all_same : (b : Buffer) → off b.pool ≡ false → (ps : List Part) → sum_by (λ (k : Keeper). at_start k.hand b) (map of_part ps) ≡ sum_by (λ (k : Keeper). at_start k.hand b) (map (λ p. keeper_of (sheet (scene_of cast) p)) ps)
  all_same b free [] = refl
  all_same b free (p ∷ ps) =
      let one : at_start (of_part p).hand b ≡ at_start (sheet (scene_of cast) p).hand b = ap (λ t. count_by (λ no. no == b.no) (cond t [] ((sheet (scene_of cast) p).hand b.pool))) free in
      omega (
        arith,
        sum_by-cons (λ (k : Keeper). at_start k.hand b) (of_part p) (map of_part ps),
        sum_by-cons (λ (k : Keeper). at_start k.hand b) (keeper_of (sheet (scene_of cast) p)) (map (λ q. keeper_of (sheet (scene_of cast) q)) ps),
        one,
        all_same b free ps,
      )

  module _ (pools : List PoolRow) (placed : IsPlaced rows place cast) (has : HasPools pools place) (seated : AreSeated (sheet (scene_of cast)) rows cast) (filled : AreFilled (sheet (scene_of cast)) rows cast) where
    pub dealt : (b : Buffer) → sum_by (λ (k : Keeper). at_start k.hand b) (owner_keepers rows place cast) ≤ 1
    dealt b = omega (arith, all_few b cast, parts_count b.pool b.no (scene_of cast) cast, few_all rows pools place cast seated placed has b.pool b.no)

    pub begins_beside : BeginsBeside (start_history rows) rows place cast (start_table (owner_keepers rows place cast))
    begins_beside = record {
      lender = lender rows place cast placed seated filled;
      naming_is = owner_named rows place cast placed seated filled;
      counted = start_counted (owner_keepers rows place cast);
      shown = start_shown (owner_naming rows place cast) (lender rows place cast placed seated filled) rows (owner_keepers rows place cast) dealt;
    }

    pub pools_beside : (k : ℕ) → off k ≡ false → IsPool (start_table (owner_keepers rows place cast)) k (place_sizes place k)
    pools_beside k free = start_pools (owner_keepers rows place cast) k (place_sizes place k) (λ no lt. omega (arith, all_same (record { pool = k; no = no }) free cast, parts_count k no (scene_of cast) cast, once_all rows pools place cast seated placed has k no lt))

-- so at the start state it has owners
pub owners_beside : (rows : List QueueRow) (cast : List Part) (place : PoolPlace) (pools : List PoolRow) → IsPlaced rows place cast → HasPools pools place → AreSeated (sheet (scene_of cast)) rows cast → AreFilled (sheet (scene_of cast)) rows cast → HasOwnersBeside (start_history rows) rows place cast
owners_beside rows cast place pools placed has seated filled = record {
  table = start_table (owner_keepers rows place cast);
  begins = begins_beside rows place cast pools placed has seated filled;
  pools = pools_beside rows place cast pools placed has seated filled;
}

-- the actors have just the ends that the rows give them
pub keepers_are : (rows : List QueueRow) (place : PoolPlace) (cast : List Part) → AreSeated (sheet (scene_of cast)) rows cast → AreFilled (sheet (scene_of cast)) rows cast → IsPeopled rows (length cast) → ((k : ℕ) (p : Part) → slice_get cast k ≡ Some p → AreApart (sheet (scene_of cast) p).ends) → AreKeepers rows (owner_keepers rows place cast)
keepers_are rows place cast seated filled peopled apart = record {
  seated = λ k p at i s end.
      let x = map_from (of_part rows place cast) cast k p at in
      seated k x.0 x.1 i s (subst (λ (q : Keeper). slice_get q.ends i ≡ Some s) (sym x.2) end);
  filled = λ k p at s its.
      let x = map_from (of_part rows place cast) cast k p at in
      let end = filled k x.0 x.1 s its in
      (end.0, subst (λ (q : Keeper). slice_get q.ends end.0 ≡ Some s) x.2 end.1);
  apart = λ k p at.
      let x = map_from (of_part rows place cast) cast k p at in
      subst (λ (q : Keeper). AreApart q.ends) x.2 (apart k x.0 x.1);
  peopled = let same : length (owner_keepers rows place cast) ≡ length cast = length-map cast (of_part rows place cast) in subst (λ n. IsPeopled rows n) (sym same) peopled;
}

pub owned_beside : (history : History) (rows : List QueueRow) (place : PoolPlace) (actors : List Actor) (start : Table) (journal : List Entry) (passed : Passed) (world : List Queue) → AreOverQueues rows actors passed world → LegalJournal (hostiles (map part_of actors)) history rows journal → EachMoment (IsKeptBeside history rows place (map part_of actors)) journal → (begin : BeginsBeside history rows place (map part_of actors) start) → IsOwned (owner_naming rows place (map part_of actors)) begin.lender (hostiles (map part_of actors)) history rows (owner_keepers rows place (map part_of actors)) start journal
owned_beside history rows place actors start journal passed world over legal kept begin = record {
  naming_is = begin.naming_is;
  keepers_are = keepers_are rows place (map part_of actors) over.seated over.filled over.peopled (λ k p at.
      let x = map_from part_of actors k p at in
      subst (λ q. AreApart (sheet (scene_of (map part_of actors)) q).ends) x.2 (ends_apart (end_at world) (scene_of (map part_of actors)) x.0 (over.fits k x.0 x.1)));
  legal = legal;
  kept = kept;
  counted = begin.counted;
  shown = begin.shown;
}
