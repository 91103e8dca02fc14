-- How a run ends.
use Rattle.std.specs.Prelude.{◌≡◌, ◌≤◌, ◌+◌, ◌⊎◌, ℕ, List, Bool, true}
use Rattle.spsc_queue.specs.Known.Ends.{RingIs}
use Rattle.actor_set.specs.Actors.{actor_rests}
use Rattle.pd_runner.specs.declared.part.Part.{Part}
use Rattle.pd_runner.specs.declared.part.Ran.{Ran}
use Rattle.pd_runner.specs.Running.{IsReady, HasNoWant, Came, CameAtWork}

-- what a thread left may be stepped, and no more steps were made than are allowed
abbrev pub RanReady : List RingIs → ℕ → Ran → Type 0
RanReady rings limit ran = IsReady rings ran.part × (ran.made ≤ limit)

-- the part's actor is at rest
abbrev pub Rests : Part → Type 0
Rests p = actor_rests p.worker.actor ≡ true

-- the last pass went on from what the threads left, unless it was stopped, and made no step at rest
pub record SettledOf (rings : List RingIs) (limit : ℕ) (stop : Bool) (ran : Ran) (new : Part) :
    Type 0 where
  pub more : ℕ
  pub within : ran.made + more ≤ limit
  pub came : CameAtWork rings ran.part more new
  pub fine : HasNoWant new
  pub rests : (stop ≡ true) ⊎ (Rests new ⊎ (ran.made + more ≡ limit))

-- the same actor after at most `limit` steps, lawfully, none of which wanted memory
pub record LawfulOf (rings : List RingIs) (limit : ℕ) (old new : Part) : Type 0 where
  pub steps : ℕ
  pub within : steps ≤ limit
  pub came : Came rings old steps new
  pub fine : HasNoWant new

-- this actor made at least `limit` steps
pub record SpentOf (rings : List RingIs) (limit : ℕ) (old new : Part) : Type 0 where
  pub steps : ℕ
  pub reached : limit ≤ steps
  pub came : Came rings old steps new
