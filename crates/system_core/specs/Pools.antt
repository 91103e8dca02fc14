-- What a system shows of the pools of its plan: the table of owners at each moment of its journal,
-- and the lines of its report.
use Rattle.std.specs.Prelude.{◌≡◌, ℕ, Bool, false, List}
use Rattle.wire_core.specs.declared.names.Entry.{Entry}
use Rattle.wire_core.specs.Journal.{EachMoment}
use Rattle.owner_law.specs.Owners.{Table, OneOwner, replay}
use Rattle.owner_law.specs.Keeping.{start_table}
use Rattle.owner_law.specs.Census.{IsPool}
use Rattle.sdf_plan.specs.declared.plan.Plan.{Plan}
use Rattle.region_layout.specs.Rows.{pools_of}
use Rattle.cast_law.specs.Pools.Beside.{is_rogues}
use Rattle.cast_law.specs.Pools.Owning.{BeginsBeside, owner_keepers, owner_naming}
use Rattle.cast_law.specs.Pools.Places.{PoolPlace, place_sizes}
use Rattle.system_core.specs.Shows.{Shown, wild_by}
use Rattle.system_core.specs.Builds.{BeginsAnew}
use Rattle.system_core.specs.Lawful.{TellsBuffers}
use Rattle.system_core.specs.PoolLines.{AllAdd, AreLinesOf, AreUnlent}

-- a pool, by its number, is one of a hostile client
abbrev pub is_theirs : PoolPlace → Shown → ℕ → Bool
is_theirs place s pool = is_rogues (wild_by s.setting) place pool

-- a table of owners with which a system begins whose classes with pools stand at this place: what
-- was put and taken before its journal begins shows it, and each buffer of a pool that isn't a
-- hostile client's has its place
pub record IsFirstTable (place : PoolPlace) (s : Shown) (t : Table) : Type 0 where
  pub begins : BeginsBeside s.setting.history s.setting.rows place s.setting.cast t
  pub pools : (k : ℕ) → is_theirs place s k ≡ false → IsPool t k (place_sizes place k)

-- the table in which the buffers of each such pool are in the hand of the actor that owns it
abbrev pub owners_table : PoolPlace → Shown → Table
owners_table place s = start_table (owner_keepers s.setting.rows place s.setting.cast)

-- the table of owners of such a system after a journal, from this one on
abbrev pub table_after : PoolPlace → (first : Table) → Shown → List Entry → Table
table_after place first s journal =
    replay (owner_naming s.setting.rows place s.setting.cast) s.setting.history first journal

-- after a journal each buffer of such a pool has its one place in that table; each move so far
-- found its buffer or lease in the place that it leaves, and a lent buffer has as many receivers as
-- there are leases of it
pub record HaveOneOwner (place : PoolPlace) (first : Table) (s : Shown) (journal : List Entry)
    : Type 0 where
  pub pools : (k : ℕ) → is_theirs place s k ≡ false
      → IsPool (table_after place first s journal) k (place_sizes place k)
  pub moves : OneOwner (owner_naming s.setting.rows place s.setting.cast) s.setting.history first
      journal

-- the buffers of a plan's pools have their owners, whatever hostile clients do, in a system whose
-- classes with pools stand at this place
pub record TellsOwners (plan : Plan) (place : PoolPlace) (s : Shown) : Type 0 where
  -- what was put and taken before its journal begins shows a table of owners
  pub table : Table
  pub first : IsFirstTable place s table
  -- from the start state on it may be the one in which each pool's buffers are with its owner
  pub anew : BeginsAnew s.setting → IsFirstTable place s (owners_table place s)
  -- from such a table on each buffer of a pool that isn't a hostile client's has one owner, or its
  -- counted receivers, at each moment
  pub owners : (start : Table) → IsFirstTable place s start
      → EachMoment (HaveOneOwner place start s) s.journal
  -- the lines of the report are those of the table after the journal, in the layout's order, but of
  -- hostile clients' pools, of which nothing is lent
  pub lines : (start : Table) → IsFirstTable place s start → AreLinesOf (is_theirs place s)
      (table_after place start s s.journal) (pools_of plan) s.state.pools
  pub unlent : AreUnlent (is_theirs place s) s.state.pools
  -- the numbers of each line add up, of hostile clients' pools too
  pub adds : AllAdd s.state.pools
  -- and so all buffers are those of the pools, one by one
  pub buffers : TellsBuffers place s
