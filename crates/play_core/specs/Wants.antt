-- What an actor wants of its ends, and when they are settled: of any actor, whatever class it is
-- of.
use Rattle.std.specs.Prelude.{◌&&◌, ◌||◌, ℕ, Bool, true, not, List, [], ◌∷◌}
use Rattle.wire_core.specs.declared.names.Entry.{Entry}
use Rattle.wire_core.specs.declared.names.Waiter.{Waiter}
use Rattle.wire_core.specs.declared.names.Ringer.{Ringer}
use Rattle.wire_core.specs.Bells.{is_free}
use Rattle.wire_core.specs.Ends.{Role, Consumer, Producer, is_clear}
use Rattle.wire_core.specs.Queues.{Bells}
use Rattle.wire_core.specs.Journal.{History, track}
use Rattle.play_core.specs.Moved.{Seat}

-- an end of an actor, and whether the actor needs what it waits for there
pub record Want : Type 0 where
  pub queue : ℕ
  pub role : Role
  pub need : Bool

-- the end that a want is about
abbrev pub seat_of : Want → Seat
seat_of w = record { queue = w.queue; role = w.role }

-- the consuming end of a queue
abbrev pub intake : ℕ → Seat
intake n = record { queue = n; role = Consumer }

-- the producing end of a queue
abbrev pub outlet : ℕ → Seat
outlet n = record { queue = n; role = Producer }

-- a consuming end, with whether its owner needs an entry there
abbrev pub intake_want : ℕ → Bool → Want
intake_want n need = record { queue = n; role = Consumer; need = need }

-- a producing end, with whether its owner needs room there, since it owes an entry
abbrev pub outlet_want : ℕ → Bool → Want
outlet_want n owed = record { queue = n; role = Producer; need = owed }

-- of each actor, its ends with what it needs
abbrev pub Needful : Type 0
Needful = List (List Want)

-- an end that isn't at work, and waits where it is needed
abbrev pub end_settled : Waiter → Ringer → Bool → Bool
end_settled waiter ringer need = is_free ringer && (not need || is_clear waiter)

-- the end of this role at a queue with these bells
abbrev pub bells_settled : Bells → Role → Bool → Bool
bells_settled b Consumer need = end_settled b.forward.waiter b.backward.ringer need
bells_settled b Producer need = end_settled b.backward.waiter b.forward.ringer need

-- the end of a want is settled, by its bells
abbrev pub want_settled : History → List Entry → Want → Bool
want_settled history journal w = bells_settled (track history w.queue journal).bells w.role w.need

-- each of these ends is settled: an actor with these ends is at rest
abbrev pub all_settled : History → List Entry → List Want → Bool
all_settled history journal [] = true
all_settled history journal (w ∷ ws) =
    want_settled history journal w && all_settled history journal ws
