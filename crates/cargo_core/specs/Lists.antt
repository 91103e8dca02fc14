-- Beginnings of lists, merges of several lists, and a list with some bytes replaced.
use Rattle.std.specs.Prelude.{◌≡◌, ℕ, ◌+◌, List, [], ◌∷◌, ◌++◌, length, take, drop, slice_get}
use Rattle.std.specs.Prelude.{slice_set, Some}

-- the first list is a beginning of the second
abbrev pub IsPrefix : {T : Type 0} → List T → List T → Type 0
IsPrefix {T} xs ys = (rest : List T) × (xs ++ rest ≡ ys)

-- the list with the bytes from a place on replaced
abbrev pub replaced : List ℕ → ℕ → List ℕ → List ℕ
replaced xs at from = take at xs ++ from ++ drop (at + length from) xs

-- a list is a merge of given lists: the empty list is a merge of empty lists, and otherwise its
-- first element is the first of one of them, and its rest a merge of them with that element taken
-- away
pub data Merge {T : Type 0} : List (List T) → List T → Type 0 where
  merge_none : (lists : List (List T))
      → ((k : ℕ) (l : List T) → slice_get lists k ≡ Some l → l ≡ [])
      → Merge lists []
  merge_next : (lists : List (List T)) (k : ℕ) (x : T) (l all : List T)
      → slice_get lists k ≡ Some (x ∷ l) → Merge (slice_set lists k l) all → Merge lists (x ∷ all)

-- a merge of beginnings of the given lists
pub record PrefixMerge {T : Type 0} (lists : List (List T)) (all : List T) : Type 0 where
  pub parts : List (List T)
  pub as_many : length parts ≡ length lists
  pub begins : (k : ℕ) (part whole : List T) → slice_get parts k ≡ Some part
      → slice_get lists k ≡ Some whole → IsPrefix part whole
  pub merged : Merge parts all
