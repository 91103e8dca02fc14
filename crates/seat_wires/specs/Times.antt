-- When the entries at the ends of one actor were put.
use Rattle.std.specs.Prelude.{◌≡◌, ◌<◌, ◌+◌, ℕ, List, [], ◌∷◌, ◌++◌, slice_get, Option, Some, None}
use Rattle.wire_core.specs.declared.names.Op.{Op}
use Rattle.wire_core.specs.declared.names.Op.TheVariants as Do
use Rattle.wire_core.specs.Deeds.{Deed}
use Rattle.wire_core.specs.Ends.{Role, Consumer, Producer, role_of}
use Rattle.spsc_queue.specs.declared.view.Half.{Half}
use Rattle.spsc_queue.specs.Known.Ends.{EndIs}
use Rattle.seat_wires.specs.Places.Are.{SeatsAre}

-- when the entries of an end that is there, or isn't, were put
abbrev pub times_known : Option EndIs → List ℕ
times_known None = []
times_known (Some e) = e.knows.times

-- the same of an end that stands at a place, or does not
abbrev pub times_or : Option (Option EndIs) → List ℕ
times_or None = []
times_or (Some e) = times_known e

-- when the entries at the end of a role at a place were put
abbrev pub times_at : SeatsAre → Role → ℕ → List ℕ
times_at s Consumer n = times_or (slice_get s.consumers n)
times_at s Producer n = times_or (slice_get s.producers n)

-- all that passed at these ends was put before this time
abbrev pub ComesAfter : SeatsAre → ℕ → Type 0
ComesAfter s time = (r : Role) (n i earlier : ℕ) → slice_get (times_at s r n) i ≡ Some earlier
    → earlier < time

-- an end put one entry more, at a time after all that passed at these ends
abbrev pub IsTimely : SeatsAre → Half → Half → Type 0
IsTimely s before after = (time : ℕ) × (after.times ≡ before.times ++ time ∷ []) × ComesAfter s time

-- what a call adds to the times at its own end, the one at this place: a put a time after all that
-- passed at these ends before, a take the time of what it took, and another call nothing
abbrev pub AddsTime : Op → SeatsAre → ℕ → SeatsAre → Type 0
AddsTime Do.Put s n t = (time : ℕ) × (times_at t Producer n ≡ times_at s Producer n ++ time ∷ [])
    × ComesAfter s time
AddsTime Do.Take s n t =
    (time : ℕ) × (times_at t Consumer n ≡ times_at s Consumer n ++ time ∷ [])
AddsTime Do.See s n t = times_at t Consumer n ≡ times_at s Consumer n
AddsTime Do.Room s n t = times_at t Producer n ≡ times_at s Producer n
AddsTime (Do.Ask side) s n t =
    times_at t (role_of (Do.Ask side)) n ≡ times_at s (role_of (Do.Ask side)) n
AddsTime (Do.Waive side) s n t =
    times_at t (role_of (Do.Waive side)) n ≡ times_at s (role_of (Do.Waive side)) n
AddsTime (Do.Wake side) s n t =
    times_at t (role_of (Do.Wake side)) n ≡ times_at s (role_of (Do.Wake side)) n
AddsTime (Do.Wanted side) s n t =
    times_at t (role_of (Do.Wanted side)) n ≡ times_at s (role_of (Do.Wanted side)) n
AddsTime (Do.Settle side) s n t =
    times_at t (role_of (Do.Settle side)) n ≡ times_at s (role_of (Do.Settle side)) n
AddsTime (Do.Ring side) s n t =
    times_at t (role_of (Do.Ring side)) n ≡ times_at s (role_of (Do.Ring side)) n
AddsTime (Do.Store word value) s n t =
    times_at t (role_of (Do.Store word value)) n ≡ times_at s (role_of (Do.Store word value)) n

-- the times at the ends of one actor after a call: one more where it put or took, and else the same
pub record TimesGo (s : SeatsAre) (d : Deed) (t : SeatsAre) : Type 0 where
  pub here : AddsTime d.event.op s d.event.queue.0 t
  pub others : (r : Role) (n : ℕ) → (r ≡ role_of d.event.op → n ≡ d.event.queue.0 → ⊥)
      → times_at t r n ≡ times_at s r n

-- these times, added up
abbrev pub sum_of : List ℕ → ℕ
sum_of [] = 0
sum_of (t ∷ ts) = t + sum_of ts

-- the times of all that these ends know, added up
abbrev pub times_of : List (Option EndIs) → ℕ
times_of [] = 0
times_of (e ∷ es) = sum_of (times_known e) + times_of es

-- the time at which the owner of these ends puts an entry: a number above all that it knows of
abbrev pub next_time : SeatsAre → ℕ
next_time s = times_of s.producers + times_of s.consumers + 1
