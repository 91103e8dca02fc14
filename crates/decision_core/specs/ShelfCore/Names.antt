-- Texts in memory under their names, and what a call of a shelf of them does.
use Rattle.std.specs.Prelude.{ℕ, min, max, Option, Some, None, List, [], length, drop, slice_get}
use Rattle.std.specs.Prelude.{position, nat_eq, unwrap_or}
use Rattle.std.specs.Option.{option_map}
use Rattle.std.specs.Cmp.Lexicographic.{pointwise}
use Rattle.decision_core.specs.ShelfCore.FaultPlans.{Planned}
use Rattle.decision_core.specs.declared.shelf_core.memory_shelf.NamedText.{NamedText}

-- the place of the first text of a name
abbrev pub place_under : List NamedText → List ℕ → Option ℕ
place_under kept name = position (λ k. pointwise nat_eq k.name name) kept

-- the text that is kept at a place, if there is one
abbrev pub text_at : List NamedText → Option ℕ → Option (List ℕ)
text_at kept (Some place) = option_map (λ k. k.text) (slice_get kept place)
text_at kept None = None

-- the text that is kept under a name
abbrev pub text_under : List NamedText → List ℕ → Option (List ℕ)
text_under kept name = text_at kept (place_under kept name)

-- what is left of the open text, from a byte of it on
abbrev pub left_of : List NamedText → Option ℕ → ℕ → List ℕ
left_of kept opened at = drop at (unwrap_or (text_at kept opened) [])

-- a shelf in memory: the texts, which is open, how far it was read, and what the shelf was told
pub record Shelved : Type 0 where
  pub kept : List NamedText
  pub opened : Option ℕ
  pub at : ℕ
  pub plan : Planned

-- how many bytes a call gives that has room for so many: as many as it can, but no more than a
-- piece
abbrev pub bytes_given : Shelved → ℕ → ℕ
bytes_given s room = min (min (length (left_of s.kept s.opened s.at)) room) (max s.plan.piece 1)
