-- Whoever is hostile, a system's actors put only what was in their hands, and all buffers are there.
use Rattle.std.proofs.Common.{◌++◌, List, [], ◌∷◌, map}
use Rattle.wire_core.specs.declared.names.Entry.{Entry}
use Rattle.wire_core.specs.declared.names.PoolRow.{PoolRow}
use Rattle.wire_core.specs.declared.names.QueueRow.{QueueRow}
use Rattle.wire_core.specs.Journal.{EachMoment, History, QueuesFlow}
use Rattle.wire_core.specs.Queues.{Queue, end_at}
use Rattle.wire_core.proofs.BellTheorem.{queues_flow}
use Rattle.wire_core.proofs.Tracks.{EachFrom-append}
use Rattle.play_core.specs.Moved.{moved}
use Rattle.play_core.specs.Names.{Noted}
use Rattle.play_core.proofs.Moments.{last_moment}
use Rattle.actor_set.specs.Parts.{Part}
use Rattle.actor_set.specs.Actors.{part_of}
use Rattle.actor_set.specs.declared.actor.Actor.{Actor}
use Rattle.actor_set.specs.Laws.Kinds.{hostiles}
use Rattle.cast_law.specs.Pools.Beside.{AllTold}
use Rattle.cast_law.specs.Pools.Holders.{holders_of}
use Rattle.cast_law.specs.Pools.Owning.{HasOwnersBeside, IsKeptBeside}
use Rattle.cast_law.specs.Pools.Places.{HasPools, IsInPlace, IsPlaced, PoolPlace}
use Rattle.cast_law.specs.Pools.Pooling.{AddUp, AreOverQueues}
use Rattle.cast_law.proofs.BesideLemmas.Around.{Around}
use Rattle.cast_law.proofs.OwningLemmas.Keeping.{kept_at}
use Rattle.cast_law.proofs.OwningLemmas.Past.{past_beside}
use Rattle.cast_law.proofs.PagesLemmas.Showing.{all_add_up}
use Rattle.cast_law.proofs.TurnsLemmas.{all_told}
use Rattle.system_core.specs.Systems.{Holds}
use Rattle.system_core.proofs.RunsNow.{at_work, items_here}

module _ (history : History) (rows : List QueueRow) (names : List Noted) (w : List Queue) (actors : List Actor) (journal : List Entry) (h : Holds history rows names w actors journal) (pools : List PoolRow) (in_place : IsInPlace rows pools (map part_of actors)) where
  abbrev cast : List Part
  cast = map part_of actors

  -- it is a cast over its queues
  pub over : AreOverQueues rows actors h.passed w
  over = record {
    peopled = in_place.peopled;
    seated = in_place.seated;
    filled = in_place.filled;
    stands_there = h.stands_there;
    size = h.size;
    kinds = h.kinds;
    fits = h.fits;
    stands = h.stands;
  }

  told : AllTold rows actors h.passed
  told = all_told (end_at w) rows pools actors h.passed in_place (at_work history rows names w actors journal h) h.sends

  pub around : (place : PoolPlace) → IsPlaced rows place cast → Around rows place actors h.passed (moved history journal)
  around place placed = record {
    placed = placed;
    seated = in_place.seated;
    filled = in_place.filled;
    ends = end_at w;
    work = at_work history rows names w actors journal h;
    told = told;
    items = items_here history rows names w actors journal h;
  }

  -- at this moment each actor that isn't hostile put only what was in its hand
  pub kept_now : QueuesFlow history rows journal → (place : PoolPlace) → IsPlaced rows place cast → IsKeptBeside history rows place cast journal
  kept_now flows place placed = kept_at history rows place actors journal h.passed (around place placed) (h.carry place placed) flows

  -- and the numbers of each pool's line are all its buffers
  pub add_up : AddUp w (holders_of actors) pools
  add_up = let place : PoolPlace = in_place.pooled.0 in all_add_up rows actors h.passed w over place in_place.pooled.1 (moved history journal) (h.carry place in_place.pooled.1) pools in_place.pooled.2

-- so what passed before a journal begins shows a table of owners
pub past_owners : (history : History) (rows : List QueueRow) (names : List Noted) (w : List Queue) (actors : List Actor) (h : Holds history rows names w actors []) (pools : List PoolRow) → IsInPlace rows pools (map part_of actors) → QueuesFlow history rows [] → (place : PoolPlace) → IsPlaced rows place (map part_of actors) → HasPools pools place → HasOwnersBeside history rows place (map part_of actors)
past_owners history rows names w actors h pools in_place flows place placed has = past_beside history rows pools place actors h.passed w has (over history rows names w actors [] h pools in_place) (around history rows names w actors [] h pools in_place place placed) (h.carry place placed) flows

-- where each moment so far is kept, and queues hand over before the journal begins, so it is at the
-- next moment
pub kept_on : (history : History) (rows : List QueueRow) (names : List Noted) (w : List Queue) (actors : List Actor) (journal : List Entry) (e : Entry) (h : Holds history rows names w actors (journal ++ e ∷ [])) (pools : List PoolRow) → IsInPlace rows pools (map part_of actors) → QueuesFlow history rows []
    → (place : PoolPlace) → IsPlaced rows place (map part_of actors) → EachMoment (IsKeptBeside history rows place (map part_of actors)) journal → EachMoment (IsKeptBeside history rows place (map part_of actors)) (journal ++ e ∷ [])
kept_on history rows names w actors journal e h pools in_place flows place placed kept =
    let cast : List Part = map part_of actors in
    let flows' : QueuesFlow history rows (journal ++ e ∷ []) = last_moment (QueuesFlow history rows) (journal ++ e ∷ []) (queues_flow (hostiles cast) history rows (journal ++ e ∷ []) flows h.legal) in
    (kept.0, EachFrom-append (λ b d. IsKeptBeside history rows place cast (b ++ d ∷ [])) [] journal e kept.1 (kept_now history rows names w actors (journal ++ e ∷ []) h pools in_place flows' place placed))
