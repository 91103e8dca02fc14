-- The clients of a place as the virtualiser has them.
use Rattle.std.proofs.Common.{◌≡◌, ◌+◌, ◌*◌, ℕ, zero, suc, Some, List, [], ◌∷◌, length, slice_get, refl, ap, ◌∙◌, subst, arith}
use Rattle.play_core.proofs.Lists.{some_is}
use Rattle.owner_law.specs.Pools.Places.{PoolAt}
use Rattle.blk_law.specs.Sheets.Parts.{Sharer}
use Rattle.blk_law.specs.Sheets.Numbers.{BlkPlace, sharers_from}

-- the client of a number, with an entry and a pool, has the queues of the number
abbrev pub sharer : (first k entry : ℕ) → PoolAt → Sharer
sharer first k entry pool = record { req = first + 4 + 2 * k; resp = first + 5 + 2 * k; entry = entry; pool = pool }

from_there : (first n : ℕ) (entries : List ℕ) (pools : List PoolAt) (k : ℕ) (c : Sharer) → slice_get (sharers_from first n entries pools) k ≡ Some c → (entry : ℕ) × (pool : PoolAt) × (slice_get entries k ≡ Some entry) × (slice_get pools k ≡ Some pool) × (sharer first (n + k) entry pool ≡ c)
from_there first n [] pools k c at = cc
from_there first n (entry ∷ entries) [] k c at = cc
from_there first n (entry ∷ entries) (pool ∷ pools) zero c at =
    let plus : n ≡ n + 0 = omega arith in
    (entry, pool, refl, refl, subst (λ i. sharer first i entry pool ≡ c) plus (some_is at))
from_there first n (entry ∷ entries) (pool ∷ pools) (suc k) c at =
    let rest = from_there first (n + 1) entries pools k c at in
    let shift : n + 1 + k ≡ n + suc k = omega arith in
    (rest.0, rest.1, rest.2, rest.3, subst (λ i. sharer first i rest.0 rest.1 ≡ c) shift rest.4)

to_there : (first n : ℕ) (entries : List ℕ) (pools : List PoolAt) (k entry : ℕ) (pool : PoolAt) → slice_get entries k ≡ Some entry → slice_get pools k ≡ Some pool → slice_get (sharers_from first n entries pools) k ≡ Some (sharer first (n + k) entry pool)
to_there first n [] pools k entry pool at pool_at = cc
to_there first n (e ∷ entries) [] k entry pool at pool_at = cc
to_there first n (e ∷ entries) (p ∷ pools) zero entry pool at pool_at =
    let plus : n ≡ n + 0 = omega arith in
    let one : e ≡ entry = some_is at in
    let two : p ≡ pool = some_is pool_at in
    subst (λ i. Some (sharer first n e p) ≡ Some (sharer first i entry pool)) plus (ap (λ x. Some (sharer first n x p)) one ∙ ap (λ x. Some (sharer first n entry x)) two)
to_there first n (e ∷ entries) (p ∷ pools) (suc k) entry pool at pool_at =
    let shift : n + 1 + k ≡ n + suc k = omega arith in
    subst (λ i. slice_get (sharers_from first (n + 1) entries pools) k ≡ Some (sharer first i entry pool)) shift (to_there first (n + 1) entries pools k entry pool at pool_at)

pub sharers_long : (first n : ℕ) (entries : List ℕ) (pools : List PoolAt) → length pools ≡ length entries → length (sharers_from first n entries pools) ≡ length entries
sharers_long first n [] pools many = refl
sharers_long first n (e ∷ entries) [] many = absurd (omega (arith, many))
sharers_long first n (e ∷ entries) (p ∷ pools) many = ap suc (sharers_long first (n + 1) entries pools (omega (arith, many)))

abbrev pub clients_of : BlkPlace → List Sharer
clients_of place = sharers_from place.first 0 place.entries place.pools

pub sharer_is : (place : BlkPlace) (k : ℕ) (c : Sharer) → slice_get (clients_of place) k ≡ Some c → (entry : ℕ) × (pool : PoolAt) × (slice_get place.entries k ≡ Some entry) × (slice_get place.pools k ≡ Some pool) × (sharer place.first k entry pool ≡ c)
sharer_is place k c at = let h = from_there place.first 0 place.entries place.pools k c at in let plus : 0 + k ≡ k = omega arith in (h.0, h.1, h.2, h.3, subst (λ i. sharer place.first i h.0 h.1 ≡ c) plus h.4)

pub sharer_there : (place : BlkPlace) (k entry : ℕ) (pool : PoolAt) → slice_get place.entries k ≡ Some entry → slice_get place.pools k ≡ Some pool → slice_get (clients_of place) k ≡ Some (sharer place.first k entry pool)
sharer_there place k entry pool at pool_at = let plus : 0 + k ≡ k = omega arith in subst (λ i. slice_get (clients_of place) k ≡ Some (sharer place.first i entry pool)) plus (to_there place.first 0 place.entries place.pools k entry pool at pool_at)
