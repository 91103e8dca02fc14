use Rattle.std.proofs.Common.{◌≡◌, ◌∙◌, ap, map, sym, subst}
use Rattle.toml.specs.View.{table_view}
use Rattle.sdf_model.specs.Elements.{elements_of, place_and_members}
use Rattle.sdf_plan.specs.Elements.{IsNumbered}
use Rattle.sdf_plan.specs.declared.plan.Plan.{Plan}
use Rattle.sdf_model.proofs.Numbered.{numbered-plan}
use Rattle.sdf_model.proofs.read.read_root.Goals as goal

pub returns-in-Ok-clause-accepted : goal.returns-in-Ok-clause-accepted
returns-in-Ok-clause-accepted c =
    let e : map place_and_members c.deref.result.now ≡ elements_of (table_view c.args.root.now) = ap (map place_and_members) c.deref.ensures.value ∙ c.in_ok-elements.ensures in
    (rw (e, c.version_of.ensures) at c.in-Ok.ensures.kept, c.in_ok-plan-in-Ok.ensures)

pub returns-in-Ok-clause-numbered : goal.returns-in-Ok-clause-numbered
returns-in-Ok-clause-numbered c =
    subst (λ (plan : Plan). IsNumbered plan) (sym c.in_ok-plan-in-Ok.ensures) (numbered-plan (table_view c.args.root.now) c.requires)
