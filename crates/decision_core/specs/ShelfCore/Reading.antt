-- In what pieces a text is read, and how far.
use Rattle.std.specs.Prelude.{◌≡◌, ◌≤◌, ℕ, Option, Some, List, [], ◌++◌, length, take, drop, IfSome}
use Rattle.std.specs.Option.{option_map}
use Rattle.decision_core.specs.ShelfCore.Outside.{IsRead, read_most}

-- a piece of n bytes was read on: the next bytes of what was left, where it is told, and none only
-- at its end
pub record ReadsOn (left : Option (List ℕ)) (old : List ℕ) (n : ℕ) (left' : Option (List ℕ))
    (new : List ℕ) : Type 0 where
  pub bytes : IfSome left (λ l. new ≡ old ++ take n l)
  pub within : IfSome left (λ l. n ≤ length l)
  pub rest : left' ≡ option_map (drop n) left
  pub none : n ≡ 0 → IfSome left (λ l. l ≡ [])

-- what is left of a text of which all that is ever read was read: what stands behind its first
-- 16,777,217 bytes
unfoldable pub Behind : (List ℕ → Option (List ℕ)) → List ℕ → Option (List ℕ) → Type 0
Behind told name left = left ≡ option_map (drop read_most) (told name)

-- the bytes that were read of a text, where a shelf tells some texts
abbrev pub WasRead : (List ℕ → Option (List ℕ)) → List ℕ → List ℕ → Type 0
WasRead told name bytes = IsRead (told name) bytes

-- the bytes that are read of a text which is told
abbrev pub IsTold : (List ℕ → Option (List ℕ)) → List ℕ → List ℕ → Type 0
IsTold told name bytes = (text : List ℕ) × (told name ≡ Some text) × (bytes ≡ take read_most text)
