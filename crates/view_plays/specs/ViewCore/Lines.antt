-- The lines of refusals.
use Rattle.std.specs.Prelude.{ℕ, List, [], ◌∷◌, ◌++◌, codes}
use Rattle.std.specs.Fmt.{decimal}
use Rattle.sdf_plan.specs.declared.place.Place.{Place}
use Rattle.sdf_plan.specs.declared.place.Refusal.{Refusal}
use Rattle.report_text.specs.Places.{place_text}

-- for words that ask for nothing: the place of the first bad one
abbrev pub usage_line : ℕ → List ℕ
usage_line k = (codes "usage: word " ++ decimal k) ++ 10 ∷ []

-- for a description that is refused: the rule that it breaks, and the place
abbrev pub refused_line : Refusal → List ℕ
refused_line refusal =
    (codes "refused " ++ (decimal refusal.rule ++ (codes " " ++ place_text refusal.place)))
    ++ 10 ∷ []

-- for a description that is too long
abbrev pub long_line : List ℕ
long_line = codes "too long" ++ 10 ∷ []

-- for a description that can't be exported: the map whose variable has no name in C
abbrev pub identifier_line : Place → List ℕ
identifier_line place = (codes "no identifier " ++ place_text place) ++ 10 ∷ []
