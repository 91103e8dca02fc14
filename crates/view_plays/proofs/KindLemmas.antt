-- Whether the first word asks for a drawing of a play.
use Rattle.std.proofs.Common.{◌≡◌, ◌≢◌, ap, ◌∙◌, ℕ, true, false, Some, List, [], ◌∷◌, length, codes, arith}
use Rattle.std.specs.Prelude.{slice_get}
use Rattle.view_plays.specs.Viewed.{BeginsPlay}

pub begins-none : (words : List (List ℕ)) → length words ≡ 0 → BeginsPlay words → ⊥
begins-none [] e b = let f = b.1 in absurd (cc f)
begins-none (w ∷ words) e b = absurd (omega (arith, e))

pub begins-play : (words : List (List ℕ)) (w : List ℕ) → slice_get words 0 ≡ Some w → w ≡ codes "play" → BeginsPlay words
begins-play words w at e = (false, at ∙ ap (λ (x : List ℕ). Some x) e)

pub begins-html : (words : List (List ℕ)) (w : List ℕ) → slice_get words 0 ≡ Some w → w ≡ codes "html" → BeginsPlay words
begins-html words w at e = (true, at ∙ ap (λ (x : List ℕ). Some x) e)

pub begins-other : (words : List (List ℕ)) (w : List ℕ) → slice_get words 0 ≡ Some w → w ≢ codes "play" → BeginsPlay words → w ≡ codes "html"
begins-other words w at p (false, e) = absurd (p cc)
begins-other words w at p (true, e) = cc
