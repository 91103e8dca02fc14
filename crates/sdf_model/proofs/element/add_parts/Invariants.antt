use Rattle.sdf_model.specs.Elements.{parts}
use Rattle.sdf_model.proofs.Walks.{Adds}
use Rattle.sdf_model.proofs.element.add_parts.Given as goal

abbrev pub invariant-loop-at : goal.invariant-loop-at
invariant-loop-at l = Adds (parts l.first) l.initial.elements.items l.elements.items l.tables l.at
