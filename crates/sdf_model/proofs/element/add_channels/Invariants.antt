use Rattle.sdf_model.specs.Elements.{channel_parts}
use Rattle.sdf_model.proofs.Walks.{Adds}
use Rattle.sdf_model.proofs.element.add_channels.Given as goal

abbrev pub invariant-loop-at : goal.invariant-loop-at
invariant-loop-at l = Adds channel_parts l.initial.elements.items l.elements.items l.channels l.at
