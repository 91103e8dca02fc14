-- What a step asks of the other owner that its call reaches, in which word it stores, and what a
-- report asks of actors and pools.
use Rattle.std.specs.Prelude.{◌≡◌, ◌≤◌, ◌+◌, ℕ, Bool, not, Option, Some, None, List, slice_get}
use Rattle.cargo_core.specs.declared.act.Word.{Word}
use Rattle.wire_core.specs.declared.names.PoolRow.{PoolRow}
use Rattle.wire_core.specs.declared.names.Op.{Op}
use Rattle.wire_core.specs.declared.names.Op.TheVariants as Do
use Rattle.wire_core.specs.Queues.{Queue, is_pending}
use Rattle.owner_law.specs.Pools.Lines.{Holder}
use Rattle.cast_law.specs.PoolLines.PoolLines.{counted}
use Rattle.actor_set.specs.Actors.{IsWhole, actor_rests, part_of}
use Rattle.actor_set.specs.declared.actor.Actor.{Actor}
use Rattle.actor_set.specs.Laws.Kinds.{manner_of, idles}

-- whether the actor that is reached, if one is, is runnable now is asked of that actor
abbrev pub IsAsked : List Actor → List Queue → Option ℕ → Bool → Type 0
IsAsked actors world other runs = (k : ℕ) → other ≡ Some k
    → (x : Actor) × (slice_get actors k ≡ Some x)
    × (runs ≡ not (idles (manner_of (part_of x)) (actor_rests x) (is_pending k world)))

-- the word in which a call stores, if it does
abbrev pub store_word : Op → Option Word
store_word (Do.Store w v) = Some w
store_word Do.See = None
store_word Do.Room = None
store_word Do.Take = None
store_word Do.Put = None
store_word (Do.Ask s) = None
store_word (Do.Waive s) = None
store_word (Do.Wake s) = None
store_word (Do.Wanted s) = None
store_word (Do.Settle s) = None
store_word (Do.Ring s) = None

-- what each of these actors keeps fits together
abbrev pub AreWhole : List Actor → Type 0
AreWhole actors = (k : ℕ) (x : Actor) → slice_get actors k ≡ Some x → IsWhole x

-- of each of these pools, by their numbers, no more buffers are counted in queues and hands and as
-- lent than it has
abbrev pub HoldNoMore : List Queue → List Holder → List PoolRow → Type 0
HoldNoMore world holders pools = (k : ℕ) (row : PoolRow) → slice_get pools k ≡ Some row
    → (counted world holders (record { 0 = k })).queues
    + (counted world holders (record { 0 = k })).hands
    + (counted world holders (record { 0 = k })).lent ≤ row.buffers
