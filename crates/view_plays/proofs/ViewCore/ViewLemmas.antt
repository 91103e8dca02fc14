use Rattle.std.proofs.Common.{◌≡◌, ◌⊎◌, inl, inr, ℕ, Bool, Option, List, refl}
use Rattle.view_plays.specs.declared.view_core.ended.Ended.{Ended}
use Rattle.view_plays.specs.declared.view_core.ended.Ended.TheVariants as End
use Rattle.view_plays.specs.ViewCore.Deciding.{Decision, Show, Refuse, Decides, no_view, viewed, TextShows, too_long, refused, accepted, PlanShows, shown, no_identifier}
use Rattle.sdf_plan.specs.declared.plan.Plan.{Plan}
use Rattle.view_plays.specs.declared.view_core.ask.View.{View}
use Rattle.view_plays.specs.ViewCore.Viewed.{IsTold, whole, begun, EndsFor}

-- how a call ends that wrote a text
pub told-ends : {K : Type 0} (written : K → Option (List ℕ)) (faults : K → ℕ) (failed : K → Bool) (old new : K) (text : List ℕ) (why ended : Ended)
    → IsTold written faults failed old new text why ended → (ended ≡ why) ⊎ (ended ≡ End.WriteFault)
told-ends written faults failed old new text why _ (whole a b) = inl refl
told-ends written faults failed old new text why _ (begun part a b c) = inr refl

-- a decision is no fault of reading
abbrev NoFault : Decision → Type 0
NoFault (Show text) = Unit {0}
NoFault (Refuse why line) = why ≡ End.ReadFault → ⊥

plan-calm : (plan : Plan) (view : View) (d : Decision) → PlanShows plan view d → NoFault d
plan-calm plan view _ (shown h) = tt
plan-calm plan view _ (no_identifier place h) = λ e. cc e

text-calm : (view : View) (bytes : List ℕ) (d : Decision) → TextShows view bytes d → NoFault d
text-calm view bytes _ (too_long h) = λ e. cc e
text-calm view bytes _ (refused r h i) = λ e. cc e
text-calm view bytes _ (accepted plan d h i j) = plan-calm plan view d j

decided-calm : (reads : List ℕ → List ℕ → Type 0) (words : List (List ℕ)) (d : Decision) → Decides reads words d → NoFault d
decided-calm reads words _ (no_view k h) = λ e. cc e
decided-calm reads words _ (viewed view desc bytes d a r t) = text-calm view bytes d t

ends-calm : (d : Decision) (ended : Ended) → NoFault d → EndsFor d ended → ended ≡ End.ReadFault → ⊥
ends-calm (Show text) ended n (inl e) f = cc (e, f)
ends-calm (Show text) ended n (inr e) f = cc (e, f)
ends-calm (Refuse why line) ended n (inl e) f = n (cc (e, f))
ends-calm (Refuse why line) ended n (inr e) f = cc (e, f)

-- an answer that was decided is no fault of reading
pub answered-calm : (reads : List ℕ → List ℕ → Type 0) (words : List (List ℕ)) (d : Decision) (ended : Ended) → Decides reads words d → EndsFor d ended
    → ended ≡ End.ReadFault → ⊥
answered-calm reads words d ended h e f = ends-calm d ended (decided-calm reads words d h) e f
