-- Owners of buffers beside hostile clients: a table of all pools but theirs, at queues without a
-- hostile end.
use Rattle.std.specs.Prelude.{◌≡◌, ℕ, Bool, false, cond, List, [], ◌∷◌, map}
use Rattle.wire_core.specs.declared.names.QueueRow.{QueueRow}
use Rattle.wire_core.specs.declared.names.Entry.{Entry}
use Rattle.wire_core.specs.Journal.{History}
use Rattle.play_core.specs.Moved.{moved}
use Rattle.play_core.specs.Names.{Wild, wild_in}
use Rattle.play_core.specs.Sheets.{Sheet}
use Rattle.owner_law.specs.Census.{IsPool}
use Rattle.owner_law.specs.Keeping.{Keeper, IsKept, IsNaming, IsShownBy}
use Rattle.owner_law.specs.Owners.{Table, AreCounted}
use Rattle.owner_law.specs.Things.{Window, Names, NoBuffers, Buffers, Frames, Leases, Returns}
use Rattle.owner_law.specs.Things.{Answers, Naming}
use Rattle.actor_set.specs.Parts.{Part}
use Rattle.actor_set.specs.Laws.Kinds.{hostiles, scene_of, sheet}
use Rattle.cast_law.specs.Pools.Beside.{is_rogues}
use Rattle.cast_law.specs.Pools.Places.{PoolPlace, cast_naming, place_sizes}

-- the windows on other pools than these
abbrev pub windows_beside : (ℕ → Bool) → List Window → List Window
windows_beside off [] = []
windows_beside off (w ∷ ws) = cond (off w.pool) (windows_beside off ws)
    (w ∷ windows_beside off ws)

-- items name nothing of these pools
abbrev pub names_beside : (ℕ → Bool) → Names → Names
names_beside off NoBuffers = NoBuffers
names_beside off (Buffers ws) = Buffers (windows_beside off ws)
names_beside off (Frames ws receivers) = Frames (windows_beside off ws) receivers
names_beside off (Leases ws) = Leases (windows_beside off ws)
names_beside off (Returns ws) = Returns (windows_beside off ws)
names_beside off (Answers q ws) = Answers q (windows_beside off ws)

-- and at queues with a hostile end nothing at all
abbrev pub naming_beside : Wild → (ℕ → Bool) → Naming → Naming
naming_beside wild off naming n = cond (wild n) NoBuffers (names_beside off (naming n))

-- what items name of the pools of a cast that aren't hostile clients'
abbrev pub owner_naming : List QueueRow → PoolPlace → List Part → Naming
owner_naming rows place cast = naming_beside (wild_in (hostiles cast) rows)
    (is_rogues (wild_in (hostiles cast) rows) place) (cast_naming (scene_of cast) place)

-- an actor without the buffers of these pools
abbrev pub keeper_beside : (ℕ → Bool) → Sheet → Keeper
keeper_beside off s = record { ends = s.ends; hand = λ pool. cond (off pool) [] (s.hand pool) }

-- what the parts of a cast have at the start of other pools than hostile clients', and their ends
abbrev pub owner_keepers : List QueueRow → PoolPlace → List Part → List Keeper
owner_keepers rows place cast = map (λ p.
    keeper_beside (is_rogues (wild_in (hostiles cast) rows) place) (sheet (scene_of cast) p)) cast

-- a table of owners with which a cast begins whose queues had this before, of all pools but hostile
-- clients'
pub record BeginsBeside (history : History) (rows : List QueueRow) (place : PoolPlace)
    (cast : List Part) (start : Table) : Type 0 where
  pub lender : ℕ
  pub naming_is : IsNaming (owner_naming rows place cast) lender (hostiles cast) rows
  pub counted : AreCounted start
  pub shown : IsShownBy (owner_naming rows place cast) lender (owner_keepers rows place cast)
      (moved history []) start

-- there is such a table, in which each buffer of such a pool has its place
pub record HasOwnersBeside (history : History) (rows : List QueueRow) (place : PoolPlace)
    (cast : List Part) : Type 0 where
  pub table : Table
  pub begins : BeginsBeside history rows place cast table
  pub pools : (k : ℕ) → is_rogues (wild_in (hostiles cast) rows) place k ≡ false
      → IsPool table k (place_sizes place k)

-- at a moment each part that isn't hostile put only what was in its hand, of all pools but hostile
-- clients'
abbrev pub IsKeptBeside : History → List QueueRow → PoolPlace → List Part → List Entry → Type 0
IsKeptBeside history rows place cast journal = IsKept (owner_naming rows place cast)
    (hostiles cast) history rows (owner_keepers rows place cast) journal
