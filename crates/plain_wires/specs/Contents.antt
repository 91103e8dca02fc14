-- What stands in a queue's slots, between two indices of 16 bits.
use Rattle.std.specs.Prelude.{◌≡◌, ◌+◌, ◌-◌, ◌%◌, ◌≤◌, ℕ, zero, suc, List, [], ◌++◌, length}
use Rattle.std.specs.Prelude.{slice_index_or, Option, None, option_to_list}
use Rattle.wire_core.specs.Deeds.{Cargo}
use Rattle.cargo_core.specs.Capacities.{IsCapacity}
use Rattle.plain_wires.specs.declared.slots.Slots.TheInside.{Inside}

-- how many entries stand there at most, and those that do, from the first on
pub record Contents : Type 0 where
  pub capacity : ℕ
  pub entries : List Cargo

-- how far it is from one index of 16 bits up to another
abbrev pub distance : ℕ → ℕ → ℕ
distance head tail = (tail + (65536 - head)) % 65536

-- what lies in k slots of n, from that of the index i on
unfoldable pub standing : List (Option Cargo) → ℕ → ℕ → ℕ → List Cargo
standing slots n i zero = []
standing slots n i (suc k) =
    option_to_list (slice_index_or slots (i % n) None) ++ standing slots n (suc i) k

-- what stands from the head up to the tail
abbrev pub contents_of : Inside → Contents
contents_of s = record {
  capacity = s.capacity;
  entries = standing s.slots.items s.capacity s.head (distance s.head s.tail);
}

-- there are as many slots as it holds entries, and each one from the head up to the tail is filled
pub record IsSlots (s : Inside) : Type 0 where
  pub sized : IsCapacity s.capacity
  pub places : length s.slots.items ≡ s.capacity
  pub within : distance s.head s.tail ≤ s.capacity
  pub filled : length (standing s.slots.items s.capacity s.head (distance s.head s.tail))
      ≡ distance s.head s.tail
