use Rattle.std.proofs.Common.{◌≡◌, drop, map}
use Rattle.sdf_model.specs.Elements.{place_and_members, first_broken}
use Rattle.sdf_model.proofs.rules.first_broken.Given as goal

abbrev pub invariant-loop-element : goal.invariant-loop-element
invariant-loop-element l = first_broken l.version l.rule (map place_and_members (drop l.element-index l.elements)) ≡ first_broken l.version l.rule (map place_and_members l.elements)
