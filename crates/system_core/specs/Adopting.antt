-- A system that takes over what actors left which were at work in threads: what it came from, what
-- it keeps of that, and what is said of the moment at which its journal begins.
use Rattle.std.specs.Prelude.{◌≡◌, ◌==◌, ◌+◌, ◌<◌, ◌≤◌, if◌then◌else◌, ℕ, Bool, true, Option}
use Rattle.std.specs.Prelude.{Some, None, List, [], length, map, slice_get}
use Rattle.wire_core.specs.declared.names.QueueRow.{QueueRow}
use Rattle.wire_core.specs.Ends.{Consumer, Producer}
use Rattle.wire_core.specs.Journal.{Track, history_at}
use Rattle.wire_core.specs.Marks.{sum_below}
use Rattle.spsc_queue.specs.Known.Ends.{EndIs, RingIs}
use Rattle.play_core.specs.Manners.{Manner, Calm, Hostile}
use Rattle.play_core.specs.Names.{names_of, told_by, wild_in}
use Rattle.play_core.specs.Wants.{all_settled}
use Rattle.actor_set.specs.Actors.{part_anew, part_of, actor_rests}
use Rattle.actor_set.specs.Laws.Kinds.{AllCalm, manner_of}
use Rattle.actor_set.specs.Parts.{Part}
use Rattle.order_law.specs.ActorParts.Parting.{Apart, AreApart}
use Rattle.order_law.specs.ActorParts.Opened.{HaveNothing, AreAsOpened}
use Rattle.order_law.specs.ActorParts.Going.{HasGone}
use Rattle.order_law.specs.ActorParts.Finished.{OwnEnd}
use Rattle.order_law.specs.Ended.Tracks.{TellsEnds}
use Rattle.system_core.specs.Shows.{Setting, Shown, hostile_in, sheet_in, moved_in}
use Rattle.system_core.specs.Lawful.{IsFitted}
use Rattle.system_core.specs.Builds.{BeginsAnew}

-- actors apart came, call by call, from those of a system in its start state that was taken apart,
-- where each end was as its ring was opened
pub record HaveComeFrom (s : Setting) (rings : List RingIs) (parts : List Apart) : Type 0 where
  pub begins : BeginsAnew s
  pub fitted : IsFitted s
  pub olds : List Apart
  pub before : AreApart s.rows rings olds
  pub nothing : HaveNothing olds
  pub opened : AreAsOpened s.rows olds
  pub cast : map (λ (p : Apart). part_of p.actor) olds ≡ s.cast
  pub many : length parts ≡ length olds
  pub after : AreApart s.rows rings parts
  pub gone : (k : ℕ) (old new : Apart) → slice_get olds k ≡ Some old → slice_get parts k ≡ Some new
      → HasGone rings old new

-- a calm actor is at rest where all that it needs is settled, and a hostile one where it is done
-- before its first call
abbrev pub rests_by : Manner → (settled : Bool) → Bool
rests_by Calm settled = settled
rests_by (Hostile done) settled = done []

-- so an actor is at rest where the journal begins
abbrev pub rests_first : Setting → Part → Bool
rests_first s p = rests_by (manner_of p)
    (all_settled s.history [] ((sheet_in s p).wants (moved_in s [])))

-- the system goes on from what actors apart left: their lists, bells, noes and steps are its
-- history, a hostile client has yet to do what it had left, and the names that are kept tell of all
-- that was put to queues with a hostile end; each actor is at rest as it was; all else stayed, and
-- nothing happened since
pub record IsAdopted (s : Setting) (parts : List Apart) (t : Shown) : Type 0 where
  pub setting : t.setting ≡ record s {
    history = t.setting.history;
    cast = t.setting.cast;
    names = t.setting.names;
  }
  pub journal : t.journal ≡ []
  pub was : map (λ (p : Apart). part_of p.actor) parts ≡ s.cast
  pub cast : t.setting.cast ≡ map (λ (p : Apart). part_anew p.actor) parts
  -- where nobody is hostile that is the history alone
  pub calm : AllCalm s.cast → t.setting ≡ record s { history = t.setting.history }
  pub named : (n : ℕ) (row : QueueRow) → slice_get s.rows n ≡ Some row
      → wild_in (hostile_in s) s.rows n ≡ true → (p : EndIs) → OwnEnd parts row Producer n p
      → told_by t.setting.names n ≡ names_of p.knows.entries
  pub keeps : (n : ℕ) (row : QueueRow) → slice_get s.rows n ≡ Some row → (p c : EndIs)
      → OwnEnd parts row Producer n p → OwnEnd parts row Consumer n c
      → TellsEnds p.knows c.knows (history_at t.setting.history n)
  pub rests : (k : ℕ) (p : Apart) → slice_get parts k ≡ Some p
      → rests_first t.setting (part_anew p.actor) ≡ actor_rests p.actor

-- the word steps that an actor's ends of a queue made before the journal begins
abbrev pub own_steps : (actor : ℕ) → Option QueueRow → Track → ℕ
own_steps k None t = 0
own_steps k (Some row) t =
    (if row.producer.0 == k then t.producer.steps else 0)
    + (if row.consumer.0 == k then t.consumer.steps else 0)

-- and those that all its ends made
abbrev pub steps_first : Setting → (actor : ℕ) → ℕ
steps_first s k =
    sum_below (λ n. own_steps k (slice_get s.rows n) (history_at s.history n)) (length s.rows)

-- where the journal begins all actors are at rest
abbrev pub AllRest : Setting → Type 0
AllRest s = (k : ℕ) (p : Part) → slice_get s.cast k ≡ Some p → rests_first s p ≡ true

-- or the ends of one made as many word steps as are allowed
abbrev pub OneSpent : Setting → (limit : ℕ) → Type 0
OneSpent s limit = (k : ℕ) × (k < length s.cast) × (limit ≤ steps_first s k)
