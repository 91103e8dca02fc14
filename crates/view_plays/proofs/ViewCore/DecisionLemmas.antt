use Rattle.std.proofs.Common.{◌≡◌, ℕ, List, Some, None, Result, Ok, Err, IfOk, sym, subst}
use Rattle.sdf_plan.specs.declared.place.Place.{Place}
use Rattle.sdf_plan.specs.declared.plan.Plan.{Plan}
use Rattle.view_plays.specs.declared.view_core.ask.View.{View}
use Rattle.view_plays.specs.declared.view_core.ended.Ended.TheVariants as End
use Rattle.view_plays.specs.ViewCore.Deciding.{Decision, Show, Refuse, view_text, unnameable, PlanShows, shown, no_identifier}
use Rattle.view_plays.specs.ViewCore.Lines.{identifier_line}

-- what holds of each value that holds of another
pub map-ok : {T E : Type 0} (r : Result T E) (P Q : T → Type 0) → ((x : T) → P x → Q x) → IfOk r P → IfOk r Q
map-ok (Ok x) P Q m h = m x h
map-ok (Err e) P Q m h = tt

pub is-shown : (plan : Plan) (view : View) (d : Decision) → unnameable plan view ≡ None → d ≡ Show (view_text plan view) → PlanShows plan view d
is-shown plan view d none e = subst (λ x. PlanShows plan view x) (sym e) (shown none)

pub is-refused : (plan : Plan) (view : View) (place : Place) (d : Decision) → unnameable plan view ≡ Some place
    → d ≡ Refuse End.NoIdentifier (identifier_line place) → PlanShows plan view d
is-refused plan view place d some e = subst (λ x. PlanShows plan view x) (sym e) (no_identifier place some)
