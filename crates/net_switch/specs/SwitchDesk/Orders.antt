-- All places of a list once each, in the order in which they were last turned to.
use Rattle.std.specs.Prelude.{◌≡◌, ◌+◌, ◌<◌, ◌≤◌, ◌==◌, ℕ, not, List, [], ◌∷◌, ◌++◌}
use Rattle.std.specs.List.{filter}
use Rattle.wire_core.specs.Bells.{bit}

-- how often a place stands there
abbrev pub times : ℕ → List ℕ → ℕ
times place [] = 0
times place (x ∷ xs) = bit (x == place) + times place xs

-- each place below a number stands there once, and no other
pub record AreOnce (count : ℕ) (places : List ℕ) : Type 0 where
  pub once : (place : ℕ) → place < count → times place places ≡ 1
  pub none : (place : ℕ) → count ≤ place → times place places ≡ 0

-- a place comes last, and the others stay in their order
abbrev pub turned_last : ℕ → List ℕ → List ℕ
turned_last place places = filter (λ other. not (other == place)) places ++ place ∷ []
