-- What the lines of a report say of pools: that they are those of a table of owners, that they add
-- up, and which entries they count in queues.
use Rattle.std.specs.Prelude.{◌≡◌, ◌+◌, ℕ, Bool, false, true, Some, List, drop, length, slice_get}
use Rattle.cargo_core.specs.declared.census.Census.{Census}
use Rattle.cargo_core.specs.Bodies.{buffers_of}
use Rattle.wire_core.specs.declared.names.PoolRow.{PoolRow}
use Rattle.wire_core.specs.Deeds.{Cargo}
use Rattle.wire_core.specs.Lists.{Passed}
use Rattle.wire_core.specs.Marks.{sum_below}
use Rattle.turn_kit.specs.Hands.{bodies_of}
use Rattle.owner_law.specs.Census.{census}
use Rattle.owner_law.specs.Owners.{Table}
use Rattle.cast_law.specs.PoolLines.PoolLines.{line_of}

-- each pool has its line, and the line of one that isn't a hostile client's is that of this table
pub record AreLinesOf (theirs : ℕ → Bool) (t : Table) (pools : List PoolRow)
    (lines : List Census) : Type 0 where
  pub many : length lines ≡ length pools
  pub each : (k : ℕ) (row : PoolRow) → slice_get pools k ≡ Some row → theirs k ≡ false
      → slice_get lines k ≡ Some (line_of row (census t k row.buffers))

-- of each line the buffers in queues and in hands and the lent ones are all that the pool has
abbrev pub AllAdd : List Census → Type 0
AllAdd lines = (k : ℕ) (l : Census) → slice_get lines k ≡ Some l
    → l.queues + l.hands + l.lent ≡ l.buffers

-- no buffer of a hostile client's pool is lent
abbrev pub AreUnlent : (theirs : ℕ → Bool) → List Census → Type 0
AreUnlent theirs lines = (k : ℕ) (l : Census) → slice_get lines k ≡ Some l → theirs k ≡ true
    → l.lent ≡ 0

-- the entries that were put to a queue and not taken
abbrev pub standing : Passed → (queue : ℕ) → List Cargo
standing passed n = drop (length (passed.taken n)) (passed.sent n)

-- a line counts in queues the pages of its pool that stand in so many queues
abbrev pub CountStanding : Passed → (queues : ℕ) → List Census → Type 0
CountStanding passed queues lines = (k : ℕ) (l : Census) → slice_get lines k ≡ Some l
    → l.queues ≡ sum_below (λ n. buffers_of (record { 0 = k }) (bodies_of (standing passed n)))
    queues
