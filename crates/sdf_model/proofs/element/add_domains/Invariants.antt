use Rattle.sdf_model.specs.Elements.{domain_parts}
use Rattle.sdf_model.proofs.Walks.{Adds}
use Rattle.sdf_model.proofs.element.add_domains.Given as goal

abbrev pub invariant-loop-at : goal.invariant-loop-at
invariant-loop-at l = Adds domain_parts l.initial.elements.items l.elements.items l.domains l.at
