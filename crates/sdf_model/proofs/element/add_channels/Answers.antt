use Rattle.std.proofs.Common.{refl, ◌∷◌, map, codes, ap, ◌∙◌}
use Rattle.toml.specs.View.{table_view}
use Rattle.sdf_plan.specs.declared.place.Place.TheVariants as At
use Rattle.sdf_model.specs.Tree.{tables_at}
use Rattle.sdf_model.specs.Elements.{channel_parts, parts, place_and_members}
use Rattle.std.proofs.Common.{◌^◌, arith}
use Rattle.sdf_model.proofs.TableCounts.{one-fits, number-fits}
use Rattle.sdf_model.proofs.Walks.{adds-step, seen-push, join}
use Rattle.sdf_model.proofs.element.add_channels.Goals as goal

pub loop-at-preserved : goal.loop-at-preserved
loop-at-preserved c =
    let t = table_view c.index-channels-at.result.now in
    let at = c.loop-at.at in
    adds-step channel_parts ((At.Channel at, t) ∷ parts (At.End at 0) 0 (tables_at (codes "end") t)) _ c.loop-at.elements.items _ c.args.channels.now at c.index-channels-at.result
    c.loop-at-test.true c.index-channels-at.is refl
    (join _ _ _ _ _ (ap (map place_and_members) c.in_ok-push.ensures.items ∙ seen-push _ _ _ refl)
    (c.in_ok-add_list.ensures))
    c.loop-at.invariant

pub overflow_cast-c : goal.overflow_cast-c
overflow_cast-c c = let few = number-fits c.args.channels.now c.loop-at.at (2 ^ 32) c.loop-at-test.true c.requires in omega (arith, few)

pub add_list-requires : goal.add_list-requires
add_list-requires c = one-fits c.args.channels.now c.loop-at.at (2 ^ 32) c.index-channels-at.result c.loop-at-test.true c.index-channels-at.is c.requires
