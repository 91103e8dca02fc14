use Rattle.std.proofs.Common.{refl, [], ◌∷◌, map, ap, ◌∙◌}
use Rattle.toml.specs.View.{table_view}
use Rattle.sdf_model.specs.Elements.{parts, nth, place_and_members}
use Rattle.sdf_model.proofs.Walks.{adds-step, seen-push}
use Rattle.sdf_model.proofs.element.add_parts.Goals as goal

pub loop-at-preserved : goal.loop-at-preserved
loop-at-preserved c =
    let t = table_view c.index-tables-at.result.now in
    adds-step (parts c.args.first) ((nth c.args.first c.loop-at.at, t) ∷ []) _ c.loop-at.elements.items _ c.args.tables.now c.loop-at.at c.index-tables-at.result
    c.loop-at-test.true c.index-tables-at.is refl
    (ap (map place_and_members) c.in_ok-push.ensures.items ∙ seen-push _ _ _ (ap (λ p. (p, t)) c.nth.ensures))
    c.loop-at.invariant
