-- What is left in the slots of a ring whose ends were given up.
use Rattle.std.specs.Prelude.{ℕ, zero, suc, ◌+◌, ◌%◌, List, [], ◌∷◌, ◌++◌, slice_index_or, Some}
use Rattle.std.specs.Prelude.{None}
use Rattle.wire_core.specs.Deeds.{Cargo}
use Rattle.spsc_queue.specs.Rule.{Slot}

-- the entry of a slot, if one lies there
abbrev pub listed : Slot → List Cargo
listed None = []
listed (Some x) = x ∷ []

-- the entries of k places of n, from the place of the index h on
unfoldable pub entries_from : List Slot → ℕ → ℕ → ℕ → List Cargo
entries_from xs n h zero = []
entries_from xs n h (suc k) = entries_from xs n h k ++ listed (slice_index_or xs ((h + k) % n) None)
