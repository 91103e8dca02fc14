-- What holds of all places of one list, or of two lists side by side.
use Rattle.std.specs.Prelude.{List, [], ◌∷◌, ◌⊎◌}

-- two lists are of one length, and R holds at each place
abbrev pub Each : {X Y : Type 0} → (X → Y → Type 0) → List X → List Y → Type 0
Each R [] [] = Unit {0}
Each R [] (y ∷ ys) = ⊥
Each R (x ∷ xs) [] = ⊥
Each R (x ∷ xs) (y ∷ ys) = R x y × Each R xs ys

-- P holds of each
abbrev pub Every : {X : Type 0} → (X → Type 0) → List X → Type 0
Every P [] = Unit {0}
Every P (x ∷ xs) = P x × Every P xs

-- P holds of one
abbrev pub AnyOf : {X : Type 0} → (X → Type 0) → List X → Type 0
AnyOf P [] = ⊥
AnyOf P (x ∷ xs) = P x ⊎ AnyOf P xs

-- R holds at one place
abbrev pub AnyPair : {X Y : Type 0} → (X → Y → Type 0) → List X → List Y → Type 0
AnyPair R [] ys = ⊥
AnyPair R (x ∷ xs) [] = ⊥
AnyPair R (x ∷ xs) (y ∷ ys) = R x y ⊎ AnyPair R xs ys
