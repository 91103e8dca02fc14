-- What a map from names to places finds: the first place at which a name stands.
use Rattle.std.specs.Prelude.{◌≡◌, ℕ, List, map}
use Rattle.std.specs.Ordering.{nat_cmp}
use Rattle.std.specs.Cmp.Lexicographic.{slice_cmp}
use Rattle.std.specs.BTreeMap.{BTreeMap, get_by}
use denote.Ref.{Bor}
use Rattle.sdf_check.specs.Names.{place_of}

-- the map holds the place of the first of these names that is a name
abbrev pub FindsPlaces : BTreeMap (Bor (List ℕ)) ℕ → List (List ℕ) → Type 0
FindsPlaces places names = (name : List ℕ)
    → get_by (λ key. slice_cmp nat_cmp name key.now) places ≡ place_of name names

-- the names behind references
abbrev pub names_shown : List (Bor (List ℕ)) → List (List ℕ)
names_shown names = map (λ (name : Bor (List ℕ)). name.now) names
