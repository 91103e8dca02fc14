use Rattle.std.proofs.Common.{◌≡◌, ◌≢◌, ◌⊎◌, ◌==◌, ◌++◌, ℕ, true, false, List, [], ◌∷◌, inl, inr, refl, eq-eqb}
use Rattle.std.proofs.Math.Dec.{eqb}
use Rattle.std.proofs.lemmas.Bool.Decides.{eqb_tells}
use Rattle.wire_core.specs.declared.names.Entry.{Entry}
use Rattle.wire_core.specs.declared.names.Event.{Event}
use Rattle.wire_core.specs.Marks.{Drops, since_after, since_from, since}

pub eqb_refl : (n : ℕ) → (n == n) ≡ true
eqb_refl n = eq-eqb n n refl

pub eqb_apart : (a b : ℕ) → (a ≡ b → ⊥) → (a == b) ≡ false
eqb_apart a b h = decide (eqb_tells a b)
  where
    decide : ((eqb a b ≡ true) × (a ≡ b)) ⊎ ((eqb a b ≡ false) × (a ≢ b)) → (a == b) ≡ false
    decide (inl same) = absurd (h same.1)
    decide (inr apart) = apart.0

since_from-append : (drops : Drops) (a : ℕ) (s : List Event) (js : List Entry) (e : Entry) → since_from drops a s (js ++ e ∷ []) ≡ since_after drops a (since_from drops a s js) e
since_from-append drops a s [] e = refl
since_from-append drops a s (x ∷ js) e = since_from-append drops a (since_after drops a s x) js e

-- what an actor did since its last mark, with one entry more
pub since-append : (drops : Drops) (a : ℕ) (js : List Entry) (e : Entry) → since drops a (js ++ e ∷ []) ≡ since_after drops a (since drops a js) e
since-append drops a js e = since_from-append drops a [] js e
