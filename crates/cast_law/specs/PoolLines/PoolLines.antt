-- The lines of all pools in a report, by the table of owners and as a program counts them.
use Rattle.std.specs.Prelude.{◌≡◌, ◌+◌, ℕ, Some, List, [], ◌∷◌, slice_get, sum_by}
use Rattle.cargo_core.specs.declared.item.PoolId.{PoolId}
use Rattle.cargo_core.specs.Bodies.{buffers_of}
use Rattle.wire_core.specs.declared.names.PoolRow.{PoolRow}
use Rattle.wire_core.specs.Queues.{Queue}
use Rattle.turn_kit.specs.Hands.{bodies_of}
use Rattle.owner_law.specs.Owners.{Table}
use Rattle.owner_law.specs.Census.{Census, census}
use Rattle.cargo_core.specs.declared.census.Census.{Census as Line}
use Rattle.owner_law.specs.Pools.Lines.{Holder}

-- a pool's line: its name and how many buffers it has, and where they are
abbrev pub line_of : PoolRow → Census → Line
line_of row c = record {
  name = row.name;
  buffers = row.buffers;
  queues = c.queues;
  hands = c.hands;
  lent = c.lent;
}

-- the lines by a table, of pools that are numbered from this one on
abbrev pub table_lines : Table → (first : ℕ) → List PoolRow → List Line
table_lines t first [] = []
table_lines t first (row ∷ pools) =
    line_of row (census t first row.buffers) ∷ table_lines t (first + 1) pools

-- what a program counts of a pool: the pages in its queues, the bodies in its actors' hands, and
-- what these have lent
abbrev pub counted : List Queue → List Holder → PoolId → Census
counted world holders pool = record {
  queues = sum_by (λ (q : Queue). buffers_of pool (bodies_of q.entries)) world;
  hands = sum_by (λ (h : Holder). buffers_of pool h.hand) holders;
  lent = sum_by (λ (h : Holder). h.lent pool.0) holders;
}

-- the lines as a program counts them
abbrev pub counted_lines : List Queue → List Holder → (first : ℕ) → List PoolRow → List Line
counted_lines world holders first [] = []
counted_lines world holders first (row ∷ pools) =
    line_of row (counted world holders (record { 0 = first }))
    ∷ counted_lines world holders (first + 1) pools

-- the pools have these sizes, by their numbers from this one on
abbrev pub AreSized : (ℕ → ℕ) → (first : ℕ) → List PoolRow → Type 0
AreSized sizes first pools = (k : ℕ) (row : PoolRow) → slice_get pools k ≡ Some row
    → sizes (first + k) ≡ row.buffers
