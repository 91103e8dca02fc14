-- Counting buffers one by one, by whatever their pool, their number there and their length tell.
use Rattle.std.specs.Prelude.{◌≡◌, ◌+◌, ◌==◌, ◌&&◌, not, if◌then◌else◌, ℕ, List, [], ◌∷◌, length}
use Rattle.cargo_core.specs.declared.item.PoolId.{PoolId}
use Rattle.cargo_core.specs.declared.item.Body.{Body}
use Rattle.cargo_core.specs.declared.item.Body.TheVariants as Carried
use Rattle.wire_core.specs.Deeds.{Cargo}
use Rattle.turn_kit.specs.Hands.{bodies_of}

-- what a buffer weighs, by its pool, its number and its length
abbrev pub Count : Type 0
Count = PoolId → ℕ → ℕ → ℕ

-- what a body weighs: a page as its pool, number and length tell, whatever bytes stand in it; a
-- lease is no buffer
abbrev pub weight : Count → Body → ℕ
weight f Carried.Empty = 0
weight f (Carried.Page page) = f page.pool page.no (length page.bytes)
weight f (Carried.Lease lease) = 0

-- what these bodies weigh together
abbrev pub counted : Count → List Body → ℕ
counted f [] = 0
counted f (b ∷ bs) = weight f b + counted f bs

-- what entries weigh by their bodies
abbrev pub weighed : Count → List Cargo → ℕ
weighed f cs = counted f (bodies_of cs)

-- buffers are conserved one by one: whatever is counted, what an actor had at the start and what
-- came is what went, what is in its hand, and what it keeps for good or lends
abbrev pub Conserves : (start came went hand kept : List Body) → Type 0
Conserves start came went hand kept =
    (f : Count) → counted f start + counted f came ≡ counted f went
    + (counted f hand + counted f kept)

-- one for each buffer of a pool
abbrev pub of_pool : PoolId → Count
of_pool pool p n long = if p.0 == pool.0 then 1 else 0

-- one for the buffer of a number of a pool
abbrev pub the_page : PoolId → ℕ → Count
the_page pool number p n long = if (p.0 == pool.0) && (n == number) then 1 else 0

-- one for each buffer of a pool that hasn't this length
abbrev pub of_other_length : PoolId → ℕ → Count
of_other_length pool size p n long = if (p.0 == pool.0) && not (long == size) then 1 else 0
