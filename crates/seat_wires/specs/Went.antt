-- How far the ends of one actor went, between two moments.
use Rattle.std.specs.Prelude.{◌≡◌, ◌≤◌, ℕ, ◌+◌, Bool, false, List, [], ◌∷◌, ◌++◌, slice_get, Option}
use Rattle.std.specs.Prelude.{Some, None}
use Rattle.atomic_table.specs.Seated.{TableId}
use Rattle.wire_core.specs.Deeds.{Cargo}
use Rattle.wire_core.specs.Ends.{Role}
use Rattle.spsc_queue.specs.Known.Ends.{EndIs}
use Rattle.spsc_queue.specs.Steps.{steps_made}
use Rattle.seat_wires.specs.Places.Are.{SeatsAre}
use Rattle.seat_wires.specs.Places.{joined_get, ends_of, seats_taken, seats_sent}

-- the second list begins with the first
abbrev pub Begins : List Cargo → List Cargo → Type 0
Begins xs ys = (rest : List Cargo) × (ys ≡ xs ++ rest)

-- the word steps that the calls of an end made
abbrev pub end_steps : Option EndIs → ℕ
end_steps None = 0
end_steps (Some e) = steps_made e.knows

-- the word steps of these ends
abbrev pub steps_of : List (Option EndIs) → ℕ
steps_of [] = 0
steps_of (e ∷ es) = end_steps e + steps_of es

-- the word steps of all ends of the actor
abbrev pub seats_steps : SeatsAre → ℕ
seats_steps s = steps_of s.producers + steps_of s.consumers

-- the ring of an end, if it is there
abbrev pub ring_known : Option EndIs → Option TableId
ring_known None = None
ring_known (Some e) = Some e.ring

-- the ring of an end that stands at a place, if it does
abbrev pub ring_at : Option (Option EndIs) → Option TableId
ring_at x = ring_known (joined_get x)

-- whether the ring of an end is wild, if it is there
abbrev pub sort_known : Option EndIs → Bool
sort_known None = false
sort_known (Some e) = e.knows.wild

-- the same of an end that stands at a place, if it does
abbrev pub sort_at : Option (Option EndIs) → Bool
sort_at x = sort_known (joined_get x)

-- no ring of the actor is wild
abbrev pub NoneWild : SeatsAre → Type 0
NoneWild s = (r : Role) (k : ℕ) → sort_at (slice_get (ends_of s r) k) ≡ false

-- its ends stayed, and their lists grew by n calls, each of one word step or two: of one where no
-- ring is wild
pub record Went (s : SeatsAre) (n : ℕ) (t : SeatsAre) : Type 0 where
  pub rings : t.rings ≡ s.rings
  pub ends : (r : Role) (k : ℕ) → ring_at (slice_get (ends_of t r) k)
      ≡ ring_at (slice_get (ends_of s r) k)
  pub sorts : (r : Role) (k : ℕ) → sort_at (slice_get (ends_of t r) k)
      ≡ sort_at (slice_get (ends_of s r) k)
  pub taken : (k : ℕ) → Begins (seats_taken s k) (seats_taken t k)
  pub sent : (k : ℕ) → Begins (seats_sent s k) (seats_sent t k)
  pub least : seats_steps s + n ≤ seats_steps t
  pub most : seats_steps t ≤ seats_steps s + (n + n)
  pub steps : NoneWild s → seats_steps t ≡ seats_steps s + n
