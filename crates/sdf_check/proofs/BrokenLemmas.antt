use Rattle.std.proofs.Common.{◌≡◌, ℕ, ◌<◌, true, false, Bool, nat_lt, IsTrue, arith, inl, inr, ⊎_elim}
use Rattle.std.specs.Bool.{MatchBool}
use Rattle.sdf_plan.specs.declared.place.Place.{Place}
use Rattle.sdf_plan.specs.declared.plan.Plan.{Plan}
use Rattle.sdf_check.proofs.LoopLemmas.{not-so}
use Rattle.sdf_check.specs.Priors.{IsPrior, OrPrior}
use Rattle.sdf_plan.specs.ClassTable.Table.{OfElement}
use Rattle.sdf_check.specs.Valid.{broken, BreaksAtPlace, BreaksByRows, BreaksPlanRule}

on-true : (P Q : Type 0) (b : Bool) → b ≡ true → P → MatchBool b P Q
on-true P Q true e p = p
on-true P Q false e p = let no : false ≡ true = e in cc

lt-true : (a b : ℕ) → a < b → nat_lt a b ≡ true
lt-true a b less = grind (arith, less)

-- one of the rules on any system
pub early : (plan : Plan) (rule : ℕ) (place : Place) → rule < 21 → BreaksPlanRule plan rule place → BreaksAtPlace plan rule place
early plan rule place less h = on-true _ _ (nat_lt rule 21) (lt-true rule 21 less) h

pub early-prior : (plan : Plan) (rule : ℕ) (place : Place) → rule < 21 → OrPrior (BreaksPlanRule plan rule) place → OrPrior (BreaksAtPlace plan rule) place
early-prior plan rule place less h =
    ⊎_elim (λ (b : BreaksPlanRule plan rule place). inl (early plan rule place less b))
    (λ (b : (prior : Place) × IsPrior prior place × BreaksPlanRule plan rule prior). inr (b.0, b.1, early plan rule b.0 less b.2)) h

-- a rule that is told of the place alone
pub at-place-prior : (plan : Plan) (rule : ℕ) (place : Place) → OrPrior (BreaksAtPlace plan rule) place → OrPrior (broken plan rule) place
at-place-prior plan rule place h =
    ⊎_elim (λ (b : BreaksAtPlace plan rule place). inl (inl b))
    (λ (b : (prior : Place) × IsPrior prior place × BreaksAtPlace plan rule prior). inr (b.0, b.1, inl b.2)) h

-- the answers of the two questions, of which the first is no
pub by-rows-complete : (plan : Plan) (rule : ℕ) (place : Place) (a b : Bool) → (BreaksAtPlace plan rule place → IsTrue a) → a ≡ false
    → (OfElement plan place (BreaksByRows plan rule) → IsTrue b) → broken plan rule place → IsTrue b
by-rows-complete plan rule place a b one never other h =
    ⊎_elim (λ (p : BreaksAtPlace plan rule place). absurd (not-so a one never p)) (λ (q : OfElement plan place (BreaksByRows plan rule)). other q) h
