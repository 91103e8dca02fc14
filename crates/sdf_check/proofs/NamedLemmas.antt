use Rattle.std.proofs.Common.{◌≡◌, ℕ, ◌+◌, ◌<◌, List, Some, None, refl, ◌∙◌, ap, arith}
use Rattle.std.specs.List.{slice_get}
use Rattle.sdf_check.specs.Names.{place_of, StandsBefore}
use Rattle.sdf_check.specs.ClassRules.{SomeOf}
use Rattle.sdf_check.proofs.RuleLemmas.{first-before, none-before}
use Rattle.sdf_check.proofs.SoughtLemmas.{here-some}
use Rattle.sdf_check.proofs.LoopLemmas.{held}

-- a name that is found stands in the list
pub named-some : (name : List ℕ) (all : List (List ℕ)) (first : ℕ) → place_of name all ≡ Some first → SomeOf (λ other. other ≡ name) all
named-some name all first is =
    let less : first < first + 1 = omega arith in
    let s : StandsBefore name all (first + 1) = (first-before name all first (first + 1) is).0 less in
    (s.0, here-some (slice_get all s.0) name (λ other. other ≡ name) s.2 refl)

-- one that isn't found doesn't
pub named-none : (name : List ℕ) (all : List (List ℕ)) → place_of name all ≡ None → SomeOf (λ other. other ≡ name) all → ⊥
named-none name all is s =
    let h = held (slice_get all s.0) (λ other. other ≡ name) s.1 in
    let less : s.0 < s.0 + 1 = omega arith in
    none-before name all (s.0 + 1) is (s.0, less, h.1 ∙ ap Some h.2)
