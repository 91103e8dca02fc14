-- The ends of one actor: which stands where, what the actor knows of each, what it took and sent
-- there, and what one call changes.
pub mod Are
use Rattle.std.specs.Prelude.{◌≡◌, ◌≢◌, ◌<◌, ℕ, Bool, true, false, List, [], ◌∷◌, length, slice_get}
use Rattle.std.specs.Prelude.{slice_set, Option, Some, None, is_some, nat_eq, ◌⊎◌}
use Rattle.cargo_core.specs.declared.item.QueueKind.{QueueKind}
use Rattle.cargo_core.specs.declared.item.QueueKind.TheVariants as Kind
use Rattle.wire_core.specs.declared.names.Op.{Op}
use Rattle.wire_core.specs.declared.names.Op.TheVariants as Do
use Rattle.wire_core.specs.declared.names.Side.TheVariants.{Forward, Backward}
use Rattle.wire_core.specs.declared.names.Answer.{Answer}
use Rattle.wire_core.specs.declared.names.Answer.TheVariants.{Done}
use Rattle.wire_core.specs.declared.names.Waiter.TheVariants as Wait
use Rattle.wire_core.specs.declared.names.Ringer.TheVariants as Rung
use Rattle.wire_core.specs.Deeds.{Deed, Cargo, answer_of, cargo_of}
use Rattle.wire_core.specs.Lists.{Lists}
use Rattle.wire_core.specs.Ends.{Role, Consumer, Producer, End, role_of}
use Rattle.spsc_queue.specs.declared.view.Half.{Half}
use Rattle.spsc_queue.specs.Known.Ends.{EndIs, RingIs}
use Rattle.spsc_queue.specs.Rule.{Slot}
use Rattle.spsc_queue.specs.Steps.{known_end, EndDid}
use Rattle.seat_wires.specs.Places.Are.{SeatsAre}
use Rattle.seat_wires.specs.Times.{IsTimely}

-- stands for an end that is another's
abbrev pub no_end : End
no_end = record {
  owned = false;
  kind = Kind.Byte;
  waiter = Wait.Busy;
  ringer = Rung.Free;
  looked = false;
}

-- what is known of an end that is there, or isn't
abbrev pub end_known : Option EndIs → End
end_known None = no_end
end_known (Some e) = known_end e.knows

-- what stands at a place, if anything
abbrev pub joined_get : {X : Type 0} → Option (Option X) → Option X
joined_get None = None
joined_get (Some x) = x

-- what is known of an end that stands at a place, or does not
abbrev pub end_or : Option (Option EndIs) → End
end_or x = end_known (joined_get x)

-- its ends of one role
abbrev pub ends_of : SeatsAre → Role → List (Option EndIs)
ends_of s Consumer = s.consumers
ends_of s Producer = s.producers

-- the end at a place, if it is one's own
abbrev pub stands_at : {X : Type 0} → List (Option X) → ℕ → Option X
stands_at es n = joined_get (slice_get es n)

-- what the owner of the seats knows of an end
abbrev pub seat_end : SeatsAre → Role → ℕ → End
seat_end s r n = end_or (slice_get (ends_of s r) n)

-- the ends, with those of one role written anew
abbrev pub with_ends : SeatsAre → Role → List (Option EndIs) → SeatsAre
with_ends s Consumer es = record s { consumers = es }
with_ends s Producer es = record s { producers = es }

-- which end may make a call: a store of a word either of the two, another call the one of its role
abbrev pub IsMaker : Op → Role → Type 0
IsMaker Do.See r = r ≡ role_of Do.See
IsMaker Do.Room r = r ≡ role_of Do.Room
IsMaker Do.Take r = r ≡ role_of Do.Take
IsMaker Do.Put r = r ≡ role_of Do.Put
IsMaker (Do.Ask s) r = r ≡ role_of (Do.Ask s)
IsMaker (Do.Waive s) r = r ≡ role_of (Do.Waive s)
IsMaker (Do.Wake s) r = r ≡ role_of (Do.Wake s)
IsMaker (Do.Wanted s) r = r ≡ role_of (Do.Wanted s)
IsMaker (Do.Settle s) r = r ≡ role_of (Do.Settle s)
IsMaker (Do.Ring s) r = r ≡ role_of (Do.Ring s)
IsMaker (Do.Store w v) r = Unit {0}

-- one call on one of its ends, and nothing else
pub record SeatDid (old : SeatsAre) (d : Deed) (new : SeatsAre) : Type 0 where
  pub maker : Role
  pub makes : IsMaker d.event.op maker
  pub before : EndIs
  pub knows : Half
  pub there : slice_get (ends_of old maker) d.event.queue.0 ≡ Some (Some before)
  pub step : EndDid before.ring.slots before.knows d.event.op d.event.answer (cargo_of d) knows
  pub timely : d.event.op ≡ Do.Put → IsTimely old before.knows knows
  pub after_is : new ≡ with_ends old maker
      (slice_set (ends_of old maker) d.event.queue.0
      (Some (record { ring = before.ring; knows = knows })))

-- the ring at a place is wild
abbrev pub IsWildRing : List RingIs → ℕ → Type 0
IsWildRing rings n = (ring : RingIs) × (slice_get rings n ≡ Some ring) × (ring.wild ≡ true)

-- one of the two ends at a place is one's own
abbrev pub OwnsEnd : SeatsAre → ℕ → Type 0
OwnsEnd s n = ((seat_end s Consumer n).owned ≡ true) ⊎ ((seat_end s Producer n).owned ≡ true)

-- a queue at which the words may be stored: one's own, on a wild ring
abbrev pub IsWildSeat : SeatsAre → ℕ → Type 0
IsWildSeat s n = IsWildRing s.rings n × OwnsEnd s n

-- what is known of the list of an end that is there, or isn't
abbrev pub entries_known : Option EndIs → List Cargo
entries_known None = []
entries_known (Some e) = e.knows.entries

-- the list of an end that stands at a place, or does not
abbrev pub entries_or : Option (Option EndIs) → List Cargo
entries_or x = entries_known (joined_get x)

-- what its ends took, by queue
abbrev pub seats_taken : SeatsAre → Lists
seats_taken s n = entries_or (slice_get s.consumers n)

-- what they sent
abbrev pub seats_sent : SeatsAre → Lists
seats_sent s n = entries_or (slice_get s.producers n)

-- each end belongs to the ring at its place
abbrev pub EndsOn : List RingIs → List (Option EndIs) → Type 0
EndsOn rings ends = (k : ℕ) (e : EndIs) → slice_get ends k ≡ Some (Some e)
    → (r : RingIs) × (slice_get rings k ≡ Some r) × (e.ring ≡ r.id)

-- both lists have the same ends at the same places
abbrev pub SameEnds : List (Option EndIs) → List (Option EndIs) → Type 0
SameEnds old new = (n : ℕ) → stands_at new n ≡ stands_at old n

-- the same but for one place, where this end stands now, or none
abbrev pub SetsEnd : List (Option EndIs) → ℕ → Option EndIs → List (Option EndIs) → Type 0
SetsEnd old q x new = (stands_at new q ≡ x) × ((n : ℕ) → n ≢ q → stands_at new n ≡ stands_at old n)
