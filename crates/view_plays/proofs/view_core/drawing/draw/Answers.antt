use Rattle.std.proofs.Common.{sym}
use Rattle.view_plays.specs.ViewCore.Deciding.{decision_of}
use Rattle.view_plays.proofs.ViewCore.DecisionLemmas.{map-ok, is-shown, is-refused}
use Rattle.view_plays.proofs.view_core.drawing.draw.Goals as goal

pub returns-in-Some : goal.returns-in-Some
returns-in-Some c =
    map-ok c.refuse_name.result _ _ (λ a h. is-refused c.args.plan.now c.args.view c.in-Some.place (decision_of a) (sym c.in-Some.ensures) h) c.refuse_name.ensures

pub returns-in-None : goal.returns-in-None
returns-in-None c =
    map-ok c.show.result _ _ (λ a h. is-shown c.args.plan.now c.args.view (decision_of a) (sym c.in-None.ensures) h) c.show.ensures
