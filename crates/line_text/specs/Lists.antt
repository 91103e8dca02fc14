-- Lists that have one entry for each client.
use Rattle.std.specs.Prelude.{ℕ, zero, suc, List, [], ◌∷◌, ◌++◌}

-- one value for each of so many clients
abbrev pub per_client : {T : Type 0} → ℕ → (ℕ → T) → List T
per_client zero value = []
per_client (suc n) value = value 0 ∷ per_client n (λ c. value (suc c))

-- the lists, with more at the end of the one of a number
abbrev pub grown_at : {T : Type 0} → List (List T) → ℕ → List T → List (List T)
grown_at [] c more = []
grown_at (l ∷ rest) zero more = (l ++ more) ∷ rest
grown_at (l ∷ rest) (suc c) more = l ∷ grown_at rest c more
