use Rattle.std.proofs.Common.{◌≡◌, ℕ, ◌<◌, List, length, map, get_or, Some, refl, sym, ◌∙◌}
use Rattle.std.specs.List.{slice_get}
use Rattle.std.proofs.lemmas.Option.{slice_get_within, slice_get-map, slice_get-get_or}
use Rattle.std.proofs.lemmas.List.{length-map}
use Rattle.sdf_check.proofs.SweepLemmas.{some-inj}

-- a value that a function gives of an element
pub value-not-at : {X Y : Type 0} (f : X → Y) (xs : List X) (k : ℕ) (v : Y) (x : X) → slice_get xs k ≡ Some x → (f x ≡ v → ⊥) → slice_get (map f xs) k ≡ Some v → ⊥
value-not-at f xs k v x is differs got =
    let here : slice_get (map f xs) k ≡ Some (f x) = slice_get-map f xs k ∙ rw is refl in differs (some-inj (sym here ∙ got))

pub value-within : {X Y : Type 0} (f : X → Y) (xs : List X) (k : ℕ) (v : Y) → slice_get (map f xs) k ≡ Some v → k < length xs
value-within f xs k v is = let less : k < length (map f xs) = slice_get_within (map f xs) k v is in rw (← length-map xs f) less

pub at-map-item : {X Y : Type 0} (f : X → Y) (xs : List X) (at : ℕ) (item : X) → at < length xs → item ≡ get_or xs at item → slice_get (map f xs) at ≡ Some (f item)
at-map-item f xs at item less is = slice_get-map f xs at ∙ rw (slice_get-get_or xs at item less, ← is) refl
