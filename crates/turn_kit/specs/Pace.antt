-- What an actor did since its last mark, where it is stepped at rest only while a notification is
-- pending at one of its ends. It stands apart from its turns, since it says in addition how the
-- queues stood.
use Rattle.std.specs.Prelude.{◌≡◌, ◌⊎◌, ℕ, Bool, true, Some, List, [], ◌∷◌, ◌++◌, slice_get}
use Rattle.wire_core.specs.declared.names.Event.{Event}
use Rattle.wire_core.specs.declared.names.Entry.{Entry}
use Rattle.wire_core.specs.declared.names.QueueRow.{QueueRow}
use Rattle.wire_core.specs.declared.names.Side.{Side}
use Rattle.wire_core.specs.declared.names.Op.TheVariants as Do
use Rattle.wire_core.specs.Ends.{waiting_role}
use Rattle.wire_core.specs.Queues.{bell_of}
use Rattle.wire_core.specs.Journal.{History, track, owner_of}
use Rattle.turn_kit.specs.Turns.{Post, Round, IsRound, is_at_rest, Unmarked, Unsettled}

-- on which sides of which queues a notification is pending
abbrev pub Pendings : Type 0
Pendings = ℕ → Side → Bool

-- the pending words of all queues after a journal
abbrev pub pendings : History → List Entry → Pendings
pendings history journal n s = (bell_of (track history n journal).bells s).pending

-- one is pending at one of these ends
pub record IsCalled (pending : Pendings) (posts : List Post) : Type 0 where
  pub place : ℕ
  pub post : Post
  pub there : slice_get posts place ≡ Some post
  pub pends : pending post.queue post.side ≡ true

-- none of the calls is a wake on this side of queue n
abbrev pub Unwoken : ℕ → Side → List Event → Type 0
Unwoken n s [] = Unit {0}
Unwoken n s (e ∷ es) = (e.queue.0 ≡ n → e.op ≡ Do.Wake s → ⊥) × Unwoken n s es

-- calls at rest, all the while a notification was pending at an end that wasn't woken yet
pub record Idled (pending : Pendings) (mid : Round) (idle : List Event) : Type 0 where
  pub rest : is_at_rest mid ≡ true
  pub called : IsCalled pending mid.posts
  pub unwoken : Unwoken called.post.queue called.post.side idle

-- what an actor at this round did since its last mark: calls while some end wasn't settled, then
-- calls while all were, since a notification was pending at one of them
pub record Paced (pending : Pendings) (calls : List Event) (now : Round) : Type 0 where
  pub start : Round
  pub mid : Round
  pub busy : List Event
  pub idle : List Event
  pub whole : calls ≡ busy ++ idle
  pub round : IsRound start
  pub unsettled : Unsettled start busy mid
  pub resting : Unmarked mid idle now
  pub idled : (idle ≡ []) ⊎ Idled pending mid idle

-- each of these ends is actor a's own, by the rows
abbrev pub AreOwnPosts : List QueueRow → ℕ → List Post → Type 0
AreOwnPosts rows a posts =
    (k : ℕ) (p : Post) → slice_get posts k ≡ Some p → (row : QueueRow)
    → slice_get rows p.queue ≡ Some row → owner_of row (waiting_role p.side) ≡ a
