-- The rows of channels.
use Rattle.std.specs.Prelude.{ℕ, ◌+◌, ◌-◌, List, [], ◌∷◌, ◌++◌, codes}
use Rattle.std.specs.List.{flat_map}
use Rattle.std.specs.Fmt.{decimal}
use Rattle.sdf_plan.specs.declared.plan.Channel.{Channel}
use Rattle.sdf_plan.specs.declared.plan.End.{End}
use Rattle.picture_kit.specs.declared.ink.Ink.TheVariants as In
use Rattle.picture_kit.specs.declared.shape.Form.TheVariants as As
use Rattle.picture_kit.specs.declared.shape.Shape.{Shape}
use Rattle.picture_kit.specs.Shapes.{spot, noted, words, plain_line}
use Rattle.pictures.specs.declared.layout_view.layout_picture.cards.Card.{Card}
use Rattle.pictures.specs.declared.layout_view.layout_picture.grid.Grid.{Grid}
use Rattle.pictures.specs.LayoutView.LayoutPicture.Cards.{column_of}
use Rattle.pictures.specs.LayoutView.LayoutPicture.Grid.{middle_x, channel_y}

-- the middle of the column of an end's domain
abbrev pub end_x : Grid → List Card → End → ℕ
end_x g cards end = middle_x g (column_of end.pd cards)

-- an end: a dot in its domain's column, and beside it the id by which the domain knows the channel
abbrev pub end_shapes : Grid → List Card → ℕ → End → List Shape
end_shapes g cards y end =
    noted In.Channel (As.Dot (spot (end_x g cards end) y)) []
    ∷ words In.Label (end_x g cards end + 6) (y - 2) (decimal end.id) ∷ []

-- the line between the first two ends
abbrev pub between : Grid → List Card → ℕ → List End → List Shape
between g cards y [] = []
between g cards y (end ∷ []) = []
between g cards y (first ∷ (second ∷ ends)) =
    plain_line In.Channel (spot (end_x g cards first) y) (spot (end_x g cards second) y) ∷ []

-- the line of a channel, and its ends
unfoldable pub line_shapes : Grid → List Card → ℕ → List End → List Shape
line_shapes g cards y ends = between g cards y ends ++ flat_map (end_shapes g cards y) ends

-- the label of a channel: its number
abbrev pub channel_label : ℕ → List ℕ
channel_label c = codes "channel " ++ decimal c

-- where it stands
abbrev pub label_shapes : Grid → ℕ → List Shape
label_shapes g c = words In.Label 16 (channel_y g c + 4) (channel_label c) ∷ []

-- a channel: its label, its line and its ends
unfoldable pub channel_shapes : Grid → List Card → ℕ → Channel → List Shape
channel_shapes g cards c channel =
    label_shapes g c ++ line_shapes g cards (channel_y g c) channel.end
