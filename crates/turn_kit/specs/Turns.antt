-- The turns of an actor: which of its ends is stepped, and what is said of steps without a mark
-- among them.
use Rattle.std.specs.Prelude.{◌≡◌, ◌⊎◌, ◌+◌, ◌<◌, ◌≤◌, ◌==◌, ◌&&◌, ◌||◌, ℕ, Bool, true, false, not}
use Rattle.std.specs.Prelude.{cond, nat_lt, Option, Some, None, is_none, List, [], ◌∷◌, length}
use Rattle.std.specs.Prelude.{slice_get, slice_set}
use Rattle.wire_core.specs.declared.names.Event.{Event}
use Rattle.wire_core.specs.declared.names.Side.{Side}
use Rattle.wire_core.specs.declared.names.Op.TheVariants as Do
use Rattle.wire_core.specs.declared.names.Answer.TheVariants.{No}
use Rattle.wire_core.specs.Bells.{bit}
use Rattle.wire_core.specs.Marks.{is_mark, is_vain_look}
use Rattle.turn_kit.specs.declared.end_state.EndState.{EndState}
use Rattle.turn_kit.specs.declared.turns.Stand.{Stand}
use Rattle.turn_kit.specs.Table.{next_op, state_after, is_settled}
use Rattle.turn_kit.specs.Calls.{may_answer}

-- an end of an actor: its queue, the side on which it waits, whether its actor drops there in place
-- of waiting, and what is kept of it
pub record Post : Type 0 where
  pub queue : ℕ
  pub side : Side
  pub drops : Bool
  pub state : EndState

-- where its actor drops, a look that answers no is a drop
abbrev pub is_drop : Post → Event → Bool
is_drop p e = p.drops && is_vain_look e.op e.answer

-- a call at this end is a mark of its actor
abbrev pub is_mark_at : Post → Event → Bool
is_mark_at p e = is_drop p e || is_mark e.op e.answer

-- after a drop the look is forgotten, so that the end looks again
abbrev pub forgotten_if : Bool → EndState → EndState
forgotten_if true k = record k { look = None }
forgotten_if false k = k

-- one call of the table at an end that is needed, or loaded, or not
pub record Posted (old : Post) (need : Bool) (e : Event) (new : Post) : Type 0 where
  pub queue : e.queue.0 ≡ old.queue
  pub op : e.op ≡ next_op old.state old.side need
  pub answer : may_answer e.op e.answer ≡ true
  pub after : new ≡ record old {
    state = forgotten_if (is_drop old e)
        (state_after old.state e.op e.answer);
  }

-- all ends of an actor, which of them are needed or loaded, and the queue of the end that it
-- stepped last where all were settled
pub record Round : Type 0 where
  pub posts : List Post
  pub needs : List Bool
  pub last : ℕ

-- what was found of the ends that were offered so far: the one with the lowest queue number of
-- those that aren't settled, of those with a higher queue number than the last, and of all
pub record Choosing : Type 0 where
  pub count : ℕ
  pub last : ℕ
  pub unsettled : Option Stand
  pub after : Option Stand
  pub first : Option Stand

-- the choosing among so many ends, before the first was looked at
abbrev pub choosing : ℕ → ℕ → Choosing
choosing n last = record { count = n; last = last; unsettled = None; after = None; first = None }

-- the one of lower queue number
abbrev pub lower : Option Stand → Stand → Option Stand
lower None y = Some y
lower (Some x) y = Some (cond (nat_lt y.queue x.queue) y x)

-- the lower of two ends, where the second counts
abbrev pub lower_if : Bool → Option Stand → Stand → Option Stand
lower_if true x y = lower x y
lower_if false x y = x

-- one end more was offered
abbrev pub choice_with : Choosing → Stand → Bool → Choosing
choice_with c y settled = record c {
  unsettled = lower_if (not settled) c.unsettled y;
  after = lower_if (nat_lt c.last y.queue) c.after y;
  first = lower c.first y;
}

-- the ends were offered in their order, from a place on
abbrev pub offered_from : Choosing → ℕ → List Post → List Bool → Choosing
offered_from c place [] needs = c
offered_from c place (p ∷ ps) [] = c
offered_from c place (p ∷ ps) (need ∷ needs) =
    offered_from (choice_with c (record { queue = p.queue; place = place })
    (is_settled p.state need))
    (place + 1) ps needs

-- the end with the lowest queue number of those that aren't settled, from a place on, and of what
-- was found before
abbrev pub unsettled_from : Option Stand → ℕ → List Post → List Bool → Option Stand
unsettled_from x place [] needs = x
unsettled_from x place (p ∷ ps) [] = x
unsettled_from x place (p ∷ ps) (need ∷ needs) =
    unsettled_from (lower_if (not (is_settled p.state need)) x
    (record { queue = p.queue; place = place }))
    (place + 1) ps needs

-- what is known once all ends were looked at
abbrev pub choice_of : Round → Choosing
choice_of r = offered_from (choosing (length r.posts) r.last) 0 r.posts r.needs

-- the place of the chosen end, or another
abbrev pub place_or : Option Stand → ℕ → ℕ
place_or (Some x) n = x.place
place_or None n = n

-- the queue of the chosen end, or another
abbrev pub queue_or : Option Stand → ℕ → ℕ
queue_or (Some x) n = x.queue
queue_or None n = n

-- the unsettled end with the lowest queue number; where all are settled, the next in rising queue
-- number after the last
abbrev pub chosen_place : Choosing → ℕ
chosen_place c = place_or c.unsettled (place_or c.after (place_or c.first 0))

-- the last is then the one that is chosen, where all are settled
abbrev pub last_after : Choosing → ℕ
last_after c = cond (is_none c.unsettled) (queue_or c.after (queue_or c.first c.last)) c.last

-- one call of the table at the end at a place, and none at the others
pub record PostedAt (old : List Post) (place : ℕ) (need : Bool) (e : Event) (new : List Post) :
    Type 0 where
  pub post : Post
  pub moved : Post
  pub there : slice_get old place ≡ Some post
  pub posted : Posted post need e moved
  pub after : new ≡ slice_set old place moved

-- one step of an actor: the chosen end makes its next call, the others stay, what is needed or
-- loaded changes only at a mark, and each end has its need afterwards
pub record Turned (old : Round) (e : Event) (new : Round) : Type 0 where
  pub place : ℕ
  pub need : Bool
  pub is_chosen : place ≡ chosen_place (choice_of old)
  pub needed : slice_get old.needs place ≡ Some need
  pub posted : PostedAt old.posts place need e new.posts
  pub needs : is_mark_at posted.post e ≡ false → new.needs ≡ old.needs
  pub size : length new.needs ≡ length new.posts
  pub last : new.last ≡ last_after (choice_of old)

-- each end has its need, and no two ends are of one queue
pub record IsRound (r : Round) : Type 0 where
  pub some : 0 < length r.posts
  pub needs : length r.needs ≡ length r.posts
  pub apart : (k j : ℕ) (p q : Post) → slice_get r.posts k ≡ Some p → slice_get r.posts j ≡ Some q
      → p.queue ≡ q.queue → k ≡ j

-- all ends are settled
abbrev pub settled_all : List Post → List Bool → Bool
settled_all [] needs = true
settled_all (p ∷ ps) [] = true
settled_all (p ∷ ps) (need ∷ needs) = is_settled p.state need && settled_all ps needs

-- all ends are settled
abbrev pub is_at_rest : Round → Bool
is_at_rest r = settled_all r.posts r.needs

-- steps with no mark among them
abbrev pub Unmarked : Round → List Event → Round → Type 0
Unmarked r [] new = r ≡ new
Unmarked r (e ∷ es) new =
    (next : Round) × (t : Turned r e next) × (is_mark_at t.posted.post e ≡ false)
    × Unmarked next es new

-- steps with no mark among them, before each of which some end isn't settled
abbrev pub Unsettled : Round → List Event → Round → Type 0
Unsettled r [] new = r ≡ new
Unsettled r (e ∷ es) new =
    (next : Round) × (is_at_rest r ≡ false) × (t : Turned r e next)
    × (is_mark_at t.posted.post e ≡ false) × Unsettled next es new

-- how many of the calls are on queue n
abbrev pub calls_on : ℕ → List Event → ℕ
calls_on n [] = 0
calls_on n (e ∷ es) = bit (e.queue.0 == n) + calls_on n es

-- a wake on queue n that answered no
pub record IsVainWake (n : ℕ) (side : Side) (e : Event) : Type 0 where
  pub queue : e.queue.0 ≡ n
  pub op : e.op ≡ Do.Wake side
  pub answer : e.answer ≡ No

-- no end that was offered has a place of count or more
abbrev pub IsWithin : ℕ → Option Stand → Type 0
IsWithin count (Some x) = x.place < count
IsWithin count None = Unit {0}

-- queue number x is the next after the last: the lowest of the higher ones, or the lowest of all
-- where none is higher
abbrev pub IsNext : ℕ → List Post → ℕ → Type 0
IsNext last posts x =
    ((last < x) × ((k : ℕ) (p : Post) → slice_get posts k ≡ Some p → last < p.queue → x ≤ p.queue))
    ⊎ (((k : ℕ) (p : Post) → slice_get posts k ≡ Some p → p.queue ≤ last)
    × ((k : ℕ) (p : Post) → slice_get posts k ≡ Some p → x ≤ p.queue))

-- one of the calls was a wake on queue n that answered no
pub record WokenInVain (n : ℕ) (side : Side) (es : List Event) : Type 0 where
  pub place : ℕ
  pub event : Event
  pub there : slice_get es place ≡ Some event
  pub vain : IsVainWake n side event
