-- How many ends actors have at the queues of a layout.
use Rattle.std.specs.Prelude.{◌≡◌, ◌==◌, ◌+◌, ◌<◌, ◌≤◌, ℕ, List, [], ◌∷◌}
use Rattle.wire_core.specs.declared.names.QueueRow.{QueueRow}
use Rattle.wire_core.specs.Bells.{bit}

-- how many ends of these queues an actor has
abbrev pub ends_of : ℕ → List QueueRow → ℕ
ends_of k [] = 0
ends_of k (row ∷ rows) = bit (row.producer.0 == k) + bit (row.consumer.0 == k) + ends_of k rows

-- none of so many actors has more ends than this, and one has as many
pub record IsMostEnds (rows : List QueueRow) (count most : ℕ) : Type 0 where
  pub within : (k : ℕ) → k < count → ends_of k rows ≤ most
  pub reached : 0 < most → (k : ℕ) × (k < count) × (ends_of k rows ≡ most)
