use Rattle.std.proofs.Common.{◌≡◌, ℕ, List, ◌∷◌, get_or, codes, sym, ap, ◌∙◌, arith}

-- no words begin with two words that have other first letters
pub apart-by-first : (words more less : List (List ℕ)) (a b : List ℕ) → (get_or a 0 0 ≡ get_or b 0 0 → ⊥) → words ≡ a ∷ more → words ≡ b ∷ less → ⊥
apart-by-first words more less a b off e f = off (ap (λ (ws : List (List ℕ)). get_or (get_or ws 0 a) 0 0) (sym e ∙ f))

-- so not with both `run` and `gen`, and so on
pub run-or-gen : (words more less : List (List ℕ)) → words ≡ codes "run" ∷ more → words ≡ codes "gen" ∷ less → ⊥
run-or-gen words more less e f = apart-by-first words more less (codes "run") (codes "gen") (λ h. let g : 114 ≡ 103 = h in omega (arith, g)) e f

pub run-or-i2c : (words more less : List (List ℕ)) → words ≡ codes "run" ∷ more → words ≡ codes "i2c" ∷ less → ⊥
run-or-i2c words more less e f = apart-by-first words more less (codes "run") (codes "i2c") (λ h. let g : 114 ≡ 105 = h in omega (arith, g)) e f

pub gen-or-i2c : (words more less : List (List ℕ)) → words ≡ codes "gen" ∷ more → words ≡ codes "i2c" ∷ less → ⊥
gen-or-i2c words more less e f = apart-by-first words more less (codes "gen") (codes "i2c") (λ h. let g : 103 ≡ 105 = h in omega (arith, g)) e f

pub layout-or-switch : (words more less : List (List ℕ)) → words ≡ codes "layout" ∷ more → words ≡ codes "switch" ∷ less → ⊥
layout-or-switch words more less e f = apart-by-first words more less (codes "layout") (codes "switch") (λ h. let g : 108 ≡ 115 = h in omega (arith, g)) e f
