-- Shapes by their parts.
use Rattle.std.specs.Prelude.{ℕ, List, []}
use Rattle.picture_kit.specs.declared.shape.Area.{Area}
use Rattle.picture_kit.specs.declared.shape.Segment.{Segment}
use Rattle.picture_kit.specs.declared.shape.Spot.{Spot}
use Rattle.picture_kit.specs.declared.shape.Form.{Form}
use Rattle.picture_kit.specs.declared.shape.Form.TheVariants as As
use Rattle.picture_kit.specs.declared.shape.Shape.{Shape}
use Rattle.picture_kit.specs.declared.ink.Ink.{Ink}

-- the point at these places
abbrev pub spot : ℕ → ℕ → Spot
spot x y = record { x = x; y = y }

-- the rectangle with this corner and this size
abbrev pub area : ℕ → ℕ → ℕ → ℕ → Area
area x y width height = record { x = x; y = y; width = width; height = height }

-- the line between two points
abbrev pub segment : Spot → Spot → Segment
segment from to = record { from = from; to = to }

-- a shape with a note
abbrev pub noted : Ink → Form → List ℕ → Shape
noted ink form note = record { ink = ink; form = form; note = note }

-- words without a note
abbrev pub words : Ink → ℕ → ℕ → List ℕ → Shape
words ink x y text = noted ink (As.Words (spot x y) text) []

-- a line without a note
abbrev pub plain_line : Ink → Spot → Spot → Shape
plain_line ink from to = noted ink (As.Line (segment from to)) []
