use Rattle.std.proofs.Common.{◌≡◌, ◌++◌, take}
use Rattle.picture_kit.specs.Svg.{shapes_text}
use Rattle.picture_kit.proofs.svg.push_shapes.Given as goal

abbrev pub invariant-loop-shape : goal.invariant-loop-shape
invariant-loop-shape l = l.to ≡ l.initial.to ++ shapes_text (take l.shape-index l.shapes)
