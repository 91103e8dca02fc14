-- The table that the lists of a history show: a system that takes a history over begins with it.
use Rattle.std.specs.Prelude.{◌≡◌, ◌+◌, ◌-◌, ◌≤◌, ℕ, zero, suc, Bool, true, false, nat_lt, Option}
use Rattle.std.specs.Prelude.{Some, None, List, [], ◌++◌, length, replicate, slice_get, sum_by}
use Rattle.wire_core.specs.Marks.{sum_below}
use Rattle.play_core.specs.Moved.{Moved}
use Rattle.owner_law.specs.Things.{Buffer, Naming, things_sent, things_taken, as_buffer, as_lease}
use Rattle.owner_law.specs.Things.{lends, gives_back, brings_leases}
use Rattle.owner_law.specs.Owners.{Spot, InQueue, InHand, Place, Nowhere, At, Lent, Table}
use Rattle.owner_law.specs.Keeping.{Keeper, at_start, all_taken, all_put}

-- how often a buffer stands in a queue: it was put there and not taken
abbrev pub buffers_left : Naming → Moved → Buffer → (queue : ℕ) → ℕ
buffers_left naming m b n =
    sum_by (as_buffer b) (things_sent naming m n) - sum_by (as_buffer b) (things_taken naming m n)

-- how many leases of it stand there
abbrev pub leases_left : Naming → Moved → Buffer → (queue : ℕ) → ℕ
leases_left naming m b n =
    sum_by (as_lease b) (things_sent naming m n) - sum_by (as_lease b) (things_taken naming m n)

-- how often an actor has a buffer, lent or not: had or taken, and not put
abbrev pub buffers_with : Naming → Moved → Buffer → Keeper → ℕ
buffers_with naming m b p =
    at_start p.hand b + sum_by (as_buffer b) (all_taken naming m p.ends)
    - sum_by (as_buffer b) (all_put naming m p.ends)

-- how many leases of it are in its hand
abbrev pub leases_with : Naming → Moved → Buffer → Keeper → ℕ
leases_with naming m b p =
    sum_by (brings_leases b) (all_taken naming m p.ends)
    - sum_by (as_lease b) (all_put naming m p.ends)

-- how many receivers have it yet to give back
abbrev pub receivers_left : Naming → Moved → Buffer → Keeper → ℕ
receivers_left naming m b p =
    sum_by (lends b) (all_taken naming m p.ends) - sum_by (gives_back b) (all_taken naming m p.ends)

-- a number of an actor, where there is one
abbrev pub number_of : Option Keeper → (Keeper → ℕ) → ℕ
number_of None f = 0
number_of (Some p) f = f p

-- the number of the actor of a place
abbrev pub of_actor : List Keeper → (Keeper → ℕ) → (actor : ℕ) → ℕ
of_actor keepers f k = number_of (slice_get keepers k) f

-- a first number, or else this one where it is so
abbrev pub first_or : Option ℕ → Bool → ℕ → Option ℕ
first_or (Some n) here k = Some n
first_or None true k = Some k
first_or None false k = None

-- the first below a number at which this isn't 0
abbrev pub first_some : (ℕ → ℕ) → ℕ → Option ℕ
first_some f zero = None
first_some f (suc k) = first_or (first_some f k) (nat_lt 0 (f k)) k

-- a buffer is in the queue where it stands, or with the actor that has it: lent, where receivers
-- have it yet to give back
abbrev pub shown_place : (queue actor : Option ℕ) → (receivers : ℕ) → Place
shown_place (Some n) actor receivers = At (InQueue n)
shown_place None (Some k) zero = At (InHand k)
shown_place None (Some k) (suc more) = Lent (suc more)
shown_place None None receivers = Nowhere

-- as many spots as there are at each place below a number
abbrev pub spots_below : (ℕ → ℕ) → (ℕ → Spot) → ℕ → List Spot
spots_below f spot zero = []
spots_below f spot (suc k) = spots_below f spot k ++ replicate (f k) (spot k)

-- the table that so many queues, and actors of which one lends, show
abbrev pub shown_table : Naming → (lender : ℕ) → List Keeper → (queues : ℕ) → Moved → Table
shown_table naming lender keepers queues m = record {
  place = λ b. shown_place (first_some (buffers_left naming m b) queues)
      (first_some (of_actor keepers (buffers_with naming m b)) (length keepers))
      (of_actor keepers (receivers_left naming m b) lender);
  leases = λ b. spots_below (leases_left naming m b) InQueue queues
      ++ spots_below (of_actor keepers (leases_with naming m b)) InHand (length keepers);
}

-- each buffer has at most one place, and as many leases as receivers that have it yet to give back
pub record HaveOnePlace (naming : Naming) (lender : ℕ) (keepers : List Keeper) (queues : ℕ)
    (m : Moved) : Type 0 where
  pub once : (b : Buffer) → sum_below (buffers_left naming m b) queues
      + sum_below (of_actor keepers (buffers_with naming m b)) (length keepers) ≤ 1
  pub leases : (b : Buffer) → (p : Keeper) → slice_get keepers lender ≡ Some p
      → sum_by (gives_back b) (all_taken naming m p.ends)
      + (sum_below (leases_left naming m b) queues
      + sum_below (of_actor keepers (leases_with naming m b)) (length keepers))
      ≡ sum_by (lends b) (all_taken naming m p.ends)
