-- What the marks of a chart are, in words.
use Rattle.std.specs.Prelude.{ℕ, ◌+◌, List, [], ◌∷◌, ◌++◌, codes}
use Rattle.picture_kit.specs.declared.ink.Ink.{Ink}
use Rattle.picture_kit.specs.declared.ink.Ink.TheVariants as In
use Rattle.picture_kit.specs.declared.shape.Form.TheVariants as As
use Rattle.picture_kit.specs.declared.shape.Shape.{Shape}
use Rattle.picture_kit.specs.Shapes.{spot, area, segment, noted, words}

-- a mark, and behind it what it is
unfoldable pub mark_shapes : Ink → ℕ → List ℕ → List Shape
mark_shapes ink x text =
    noted ink (As.Block (area x 39 8 8)) text ∷ words In.Label (x + 14) 47 text ∷ []

-- an end that isn't in the chart
unfoldable pub loose_shapes : ℕ → List ℕ → List Shape
loose_shapes x text =
    noted In.Loose (As.Line (segment (spot x 43) (spot (x + 24) 43))) text
    ∷ words In.Label (x + 30) 47 text ∷ []

-- the marks of bells
unfoldable pub bell_shapes : List Shape
bell_shapes =
    mark_shapes In.Asked 16 (codes "ask") ++ (mark_shapes In.Rung 80 (codes "ring")
    ++ mark_shapes In.Woken 152 (codes "wake"))

-- all of them
unfoldable pub legend_shapes : List Shape
legend_shapes =
    bell_shapes ++ (mark_shapes In.Refused 224 (codes "answered no")
    ++ loose_shapes 352 (codes "end not shown"))
