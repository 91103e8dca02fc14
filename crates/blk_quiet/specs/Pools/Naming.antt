-- What the items of the block class's queues name, by the number of its first queue, and its pools.
use Rattle.std.specs.Prelude.{◌≡◌, ◌+◌, ◌*◌, ◌-◌, ℕ, List, [], ◌∷◌, map}
use Rattle.owner_law.specs.Things.{Window, Names, Buffers, Answers, Naming, naming_of}
use Rattle.owner_law.specs.Pools.Places.{PoolAt, by_address, by_offset}
use Rattle.blk_law.specs.Sheets.Parts.{BlkPart, DiskDevice, BlkDriver, BlkVirt, BlkClient}
use Rattle.blk_law.specs.Sheets.Numbers.{BlkPlace, sharers_from}
use Rattle.blk_law.specs.Owners.Answering.{NamesBlk, ArePoolsApart}

-- the virtualiser's own buffer and those of the clients, by device addresses
abbrev pub disk_side : PoolAt → List PoolAt → List Window
disk_side pool pools = by_address pool ∷ map by_address pools

-- clients from a number on: of each its requests in its own buffers, by offsets, and the responses
-- to them
abbrev pub client_names : (first k : ℕ) → List PoolAt → List Names
client_names first k [] = []
client_names first k (p ∷ pools) = Buffers (by_offset p ∷ [])
    ∷ Answers (first + 4 + 2 * k) (by_offset p ∷ []) ∷ client_names first (k + 1) pools

-- the class's queues in the order of the layout's table: requests and responses at the disk, the
-- same between the driver and the virtualiser, and each client's
abbrev pub blk_names : BlkPlace → List Names
blk_names place =
    Buffers (disk_side place.pool place.pools)
    ∷ Answers place.first (disk_side place.pool place.pools)
    ∷ Buffers (disk_side place.pool place.pools)
    ∷ Answers (place.first + 2) (disk_side place.pool place.pools)
    ∷ client_names place.first 0 place.pools

-- of a queue from the class's first one on, by its number
abbrev pub blk_naming : BlkPlace → Naming
blk_naming place n = naming_of (blk_names place) (n - place.first)

-- the class's pools in the order of their numbers: the virtualiser's, and each client's
abbrev pub blk_pools : BlkPlace → List PoolAt
blk_pools place = place.pool ∷ place.pools

-- at these queues a naming is that of the class at this place
abbrev pub IsNamedAt : Naming → BlkPlace → Type 0
IsNamedAt naming place = (i : ℕ) → naming (place.first + i) ≡ naming_of (blk_names place) i

-- no two pools of the class have an address in common
abbrev pub HasApartPools : BlkPlace → Type 0
HasApartPools place =
    ArePoolsApart place.pool (sharers_from place.first 0 place.entries place.pools)

-- a virtualiser's pools are apart; of others nothing is asked
abbrev pub ServesApart : BlkPart → Type 0
ServesApart (DiskDevice req resp image) = Unit {0}
ServesApart (BlkDriver ways) = Unit {0}
ServesApart (BlkVirt req resp sectors pool clients) = ArePoolsApart pool clients
ServesApart (BlkClient req resp asks pool) = Unit {0}

-- what items name at the queues of an actor of the class, whose pools are apart
abbrev pub NamesServed : Naming → BlkPart → Type 0
NamesServed naming p = NamesBlk naming p × ServesApart p
