-- The numbers that a seed draws, and the places that they pick.
use Rattle.std.specs.Prelude.{◌≡◌, ◌+◌, ◌*◌, ◌/◌, ◌%◌, ◌^◌, ℕ, Some, List, [], ◌∷◌, ◌++◌, length}
use Rattle.std.specs.Prelude.{slice_get}
use Rattle.wire_core.specs.declared.names.Entry.{Entry}

-- the number after x; for each step one is drawn, from the seed on
unfoldable pub next_seed : ℕ → ℕ
next_seed x = (x * 6364136223846793005 + 1442695040888963407) % 2 ^ 64

-- the place that x picks among k
abbrev pub place_of : ℕ → ℕ → ℕ
place_of x k = x / 2 ^ 33 % k

-- a journal that is picked by a seed, where runs gives the actors that may run after a journal:
-- each entry's actor is the one at the picked place among those that may run just before it
abbrev pub PickedFrom : (List Entry → List ℕ) → ℕ → List Entry → List Entry → Type 0
PickedFrom runs x before [] = Unit {0}
PickedFrom runs x before (e ∷ es) =
    (slice_get (runs before) (place_of (next_seed x) (length (runs before))) ≡ Some e.actor.0)
    × PickedFrom runs (next_seed x) (before ++ e ∷ []) es

-- the number after so many draws
abbrev pub drawn : ℕ → List Entry → ℕ
drawn x [] = x
drawn x (e ∷ es) = drawn (next_seed x) es
