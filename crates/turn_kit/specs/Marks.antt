-- What an actor did since its last mark, by its turns alone: each actor that steps as `Turned` says
-- keeps these claims.
use Rattle.std.specs.Prelude.{◌≡◌, ◌⊎◌, ◌+◌, ◌≤◌, ℕ, true, Some, List, [], ◌++◌, length, slice_get}
use Rattle.wire_core.specs.declared.names.Event.{Event}
use Rattle.turn_kit.specs.Turns.{Post, Round, IsRound, is_at_rest, Unmarked, Unsettled, calls_on}
use Rattle.turn_kit.specs.Turns.{WokenInVain}

-- these are the calls that an actor at this round made since its last mark
pub record StandsSince (now : Round) (calls : List Event) : Type 0 where
  pub start : Round
  pub round : IsRound start
  pub made : Unmarked start calls now

-- the claims on them: first come the calls before which some end wasn't settled, at most 7 on each
-- end; where at last all are settled, they are at most 6 on each; from there the ends are stepped
-- in their order, so that no end makes two calls more than another, and two rounds later each has
-- made a wake, which answered no and else would have been a mark
pub record SinceClaims (start : Round) (calls : List Event) (now : Round) : Type 0 where
  pub mid : Round
  pub busy : List Event
  pub idle : List Event
  pub whole : calls ≡ busy ++ idle
  pub unsettled : Unsettled start busy mid
  pub resting : Unmarked mid idle now
  pub rest : (idle ≡ []) ⊎ (is_at_rest mid ≡ true)
  pub seven : (k : ℕ) (p : Post) → slice_get start.posts k ≡ Some p → calls_on p.queue busy ≤ 7
  pub six : is_at_rest mid ≡ true → (k : ℕ) (p : Post) → slice_get start.posts k ≡ Some p
      → calls_on p.queue busy ≤ 6
  pub even : (k j : ℕ) (p q : Post) → slice_get start.posts k ≡ Some p
      → slice_get start.posts j ≡ Some q → calls_on q.queue idle ≤ calls_on p.queue idle + 1
  pub wake : length start.posts + length start.posts ≤ length idle → (k : ℕ) (p : Post)
      → slice_get start.posts k ≡ Some p → WokenInVain p.queue p.side idle
