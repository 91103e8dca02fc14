use Rattle.std.proofs.Common.{refl, [], ◌∷◌, ◌++◌, map, codes, ap, ◌∙◌}
use Rattle.toml.specs.View.{table_view}
use Rattle.sdf_plan.specs.declared.place.Place.TheVariants as At
use Rattle.sdf_model.specs.Tree.{tables_at}
use Rattle.sdf_model.specs.Elements.{domain_parts, parts, place_and_members}
use Rattle.std.proofs.Common.{◌^◌, arith}
use Rattle.sdf_model.proofs.TableCounts.{one-fits, number-fits}
use Rattle.sdf_model.proofs.Walks.{adds-step, seen-push, join}
use Rattle.sdf_model.proofs.element.add_domains.Goals as goal

pub loop-at-preserved : goal.loop-at-preserved
loop-at-preserved c =
    let t = table_view c.index-domains-at.result.now in
    let at = c.loop-at.at in
    let maps = parts (At.Map at 0) 0 (tables_at (codes "map") t) in
    let irqs = parts (At.Irq at 0) 0 (tables_at (codes "irq") t) in
    adds-step domain_parts ((At.Domain at, t) ∷ maps ++ irqs) _ c.loop-at.elements.items _ c.args.domains.now at c.index-domains-at.result
    c.loop-at-test.true c.index-domains-at.is refl
    (join (map place_and_members c.loop-at.elements.items) (map place_and_members c.add_list.new.elements.items) _ ((At.Domain at, t) ∷ maps) irqs
    (join (map place_and_members c.loop-at.elements.items) (map place_and_members c.push.new.self.items) _ ((At.Domain at, t) ∷ []) maps (ap (map place_and_members) c.in_ok-push.ensures.items ∙ seen-push _ _ _ refl)
    (c.in_ok-add_list.ensures))
    (c.in_ok-add_list-2.ensures))
    c.loop-at.invariant

pub overflow_cast-d : goal.overflow_cast-d
overflow_cast-d c = let few = number-fits c.args.domains.now c.loop-at.at (2 ^ 32) c.loop-at-test.true c.requires in omega (arith, few)

pub add_list-requires : goal.add_list-requires
add_list-requires c = one-fits c.args.domains.now c.loop-at.at (2 ^ 32) c.index-domains-at.result c.loop-at-test.true c.index-domains-at.is c.requires

pub add_list-requires-in-loop-at : goal.add_list-requires-in-loop-at
add_list-requires-in-loop-at c = one-fits c.args.domains.now c.loop-at.at (2 ^ 32) c.index-domains-at.result c.loop-at-test.true c.index-domains-at.is c.requires
