-- What a player keeps, and the invariant that each of its calls needs and keeps.
use Rattle.std.specs.Prelude.{◌≡◌, ◌≤◌, length}
use Rattle.small_system.specs.Meanings.{Means}
use Rattle.small_system.specs.Tales.{running_in}
use Rattle.small_system.specs.Shows.{Shown, IsTold}
use Rattle.player_kit.specs.Runnings.{Ascending}

-- a tale tells it, the runnable actors are kept, and there is room for them
pub record IsSmall {A : Type 0} (m : Means A) (s : Shown A) (running : Ascending) : Type 0 where
  pub told : IsTold m s
  pub runs : running.list ≡ running_in m s.moment
  pub room : length s.moment.actors ≤ running.room
