-- Where the classes that have pools stand in a cast with its hostile clients, what items name at its
-- queues, and its pools; and a cast in place.
use Rattle.std.specs.Prelude.{◌≡◌, ◌++◌, ℕ, nat_lt, if◌then◌else◌, Option, None, Some, List, []}
use Rattle.std.specs.Prelude.{length}
use Rattle.wire_core.specs.declared.names.PoolRow.{PoolRow}
use Rattle.wire_core.specs.declared.names.QueueRow.{QueueRow}
use Rattle.play_core.specs.Sheets.{AreFilled, AreSeated, Scene}
use Rattle.play_core.specs.Still.{IsPeopled}
use Rattle.owner_law.specs.Things.{NoBuffers, Naming}
use Rattle.cast_law.specs.PoolLines.PoolLines.{AreSized}
use Rattle.owner_law.specs.Pools.Places.{PoolAt, sizes_of, AreNumbered}
use Rattle.net_law.specs.Parts.Numbers.{layout_naming}
use Rattle.net_law.specs.TxParts.Numbers.{NetPlace}
use Rattle.net_quiet.specs.Pools.Sizes.{net_pools}
use Rattle.blk_law.specs.Sheets.Numbers.{BlkPlace}
use Rattle.blk_quiet.specs.Pools.Naming.{blk_naming, blk_pools, HasApartPools}
use Rattle.actor_set.specs.Laws.Kinds.{scene_of, sheet}
use Rattle.actor_set.specs.Parts.{Part}
use Rattle.wired_law.specs.Wiring.{HasWhole, HasNoNetwork, HasBlk, HasNoBlock}
use Rattle.cast_law.specs.Pools.Rogues.{HasRogues}

-- where the network stands, if a cast has one, and where the block class does
pub record PoolPlace : Type 0 where
  pub net : Option NetPlace
  pub blk : Option BlkPlace

-- a cast has the whole network, whose queues are the first, or no actor of it
abbrev pub HasNetAt : List QueueRow → Option NetPlace → List Part → Type 0
HasNetAt rows None cast = HasNoNetwork cast
HasNetAt rows (Some net) cast = HasWhole rows net cast × (net.first ≡ 0)

-- it has the whole block class, whose pools have no address in common, or no actor of it
abbrev pub HasBlkAt : List QueueRow → Option BlkPlace → List Part → Type 0
HasBlkAt rows None cast = HasNoBlock cast
HasBlkAt rows (Some blk) cast = HasBlk rows blk cast × HasApartPools blk

-- both classes stand at this place, or are not there, and hostile clients are clients of theirs
pub record IsPlaced (rows : List QueueRow) (place : PoolPlace) (cast : List Part) : Type 0 where
  pub net : HasNetAt rows place.net cast
  pub blk : HasBlkAt rows place.blk cast
  pub rogues : HasRogues rows place.net place.blk cast

-- what items name at the network's queues, which are the first; without one nothing
abbrev pub first_naming : Scene → Option NetPlace → Naming
first_naming scene None n = NoBuffers
first_naming scene (Some net) n = layout_naming scene net.pool net.macs net.pools n

-- from the block class's first queue on what its items name, and before it what this says
abbrev pub behind : Naming → Option BlkPlace → Naming
behind naming None n = naming n
behind naming (Some blk) n = if nat_lt n blk.first then naming n else blk_naming blk n

-- what items name at a cast's queues: those of the network, and those of the block class; at any
-- other nothing
abbrev pub cast_naming : Scene → PoolPlace → Naming
cast_naming scene place = behind (first_naming scene place.net) place.blk

-- the network's pools
abbrev pub pools_first : Option NetPlace → List PoolAt
pools_first None = []
pools_first (Some net) = net_pools net.pool net.pools

-- the block class's pools
abbrev pub pools_behind : Option BlkPlace → List PoolAt
pools_behind None = []
pools_behind (Some blk) = blk_pools blk

-- a cast's pools in the order of their numbers, the network's first
abbrev pub place_pools : PoolPlace → List PoolAt
place_pools place = pools_first place.net ++ pools_behind place.blk

-- how many buffers they have, by their numbers
abbrev pub place_sizes : PoolPlace → ℕ → ℕ
place_sizes place = sizes_of (place_pools place)

-- there are as many rows as pools, of which no two have one number, and by that number each stands
-- among these rows with its size
pub record HasPools (pools : List PoolRow) (place : PoolPlace) : Type 0 where
  pub many : length pools ≡ length (place_pools place)
  pub numbered : AreNumbered (place_pools place)
  pub sized : AreSized (place_sizes place) 0 pools

-- these are the pools of a cast: those of the classes that it has
abbrev pub ArePooled : List QueueRow → List PoolRow → List Part → Type 0
ArePooled rows pools cast =
    (place : PoolPlace) × IsPlaced rows place cast × HasPools pools place

-- a cast is in place, with hostile clients or without: the owners of all queues are among its
-- actors, each has just the ends that the rows give it, and these are its pools
pub record IsInPlace (rows : List QueueRow) (pools : List PoolRow) (cast : List Part) :
    Type 0 where
  pub peopled : IsPeopled rows (length cast)
  pub seated : AreSeated (sheet (scene_of cast)) rows cast
  pub filled : AreFilled (sheet (scene_of cast)) rows cast
  pub pooled : ArePooled rows pools cast
