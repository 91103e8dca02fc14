-- How many of a pool's buffers stand in queues, are in hands, and are lent: the pool lines of a
-- report.
use Rattle.std.specs.Prelude.{◌≡◌, ◌<◌, ℕ, Bool, true, false, List, sum_by}
use Rattle.wire_core.specs.Bells.{bit}
use Rattle.wire_core.specs.Marks.{sum_below}
use Rattle.owner_law.specs.Things.{Thing, as_buffer}
use Rattle.owner_law.specs.Owners.{InQueue, InHand, Place, Nowhere, At, Lent, Table}
use Rattle.owner_law.specs.Keeping.{at_start}

-- a buffer that stands in a queue
abbrev pub is_queued : Place → Bool
is_queued Nowhere = false
is_queued (At (InQueue n)) = true
is_queued (At (InHand k)) = false
is_queued (Lent n) = false

-- a buffer that is in a hand and isn't lent
abbrev pub is_held : Place → Bool
is_held Nowhere = false
is_held (At (InQueue n)) = false
is_held (At (InHand k)) = true
is_held (Lent n) = false

-- a lent buffer
abbrev pub is_lent : Place → Bool
is_lent Nowhere = false
is_lent (At spot) = false
is_lent (Lent n) = true

-- of a pool's first buffers, how many are at such places
abbrev pub how_many : (Place → Bool) → Table → (pool buffers : ℕ) → ℕ
how_many test t pool buffers =
    sum_below (λ no. bit (test (t.place (record { pool = pool; no = no })))) buffers

-- a pool's line: each buffer is counted in one of the three, and a lent one once
pub record Census : Type 0 where
  pub queues : ℕ
  pub hands : ℕ
  pub lent : ℕ

-- the line of a pool of so many buffers
abbrev pub census : Table → (pool buffers : ℕ) → Census
census t pool buffers = record {
  queues = how_many is_queued t pool buffers;
  hands = how_many is_held t pool buffers;
  lent = how_many is_lent t pool buffers;
}

-- each of a pool's first buffers has a place
abbrev pub IsPool : Table → (pool buffers : ℕ) → Type 0
IsPool t pool buffers =
    (no : ℕ) → no < buffers → t.place (record { pool = pool; no = no }) ≡ Nowhere → ⊥

-- how many of a pool's first buffers things are
abbrev pub buffers_among : (pool buffers : ℕ) → List Thing → ℕ
buffers_among pool buffers things =
    sum_below (λ no. sum_by (as_buffer (record { pool = pool; no = no })) things) buffers

-- how many of them are in a hand at the start
abbrev pub buffers_at_start : (pool buffers : ℕ) → (ℕ → List ℕ) → ℕ
buffers_at_start pool buffers hand =
    sum_below (λ no. at_start hand (record { pool = pool; no = no })) buffers
