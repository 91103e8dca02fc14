-- The boxes of a picture: which there are, and how each is drawn.
use Rattle.std.specs.Prelude.{ℕ, ◌+◌, ◌-◌, Bool, is_some, if◌then◌else◌, List, [], ◌∷◌, ◌++◌, map}
use Rattle.std.specs.Prelude.{codes, bytes_eq}
use Rattle.std.specs.Fmt.{decimal}
use Rattle.sdf_plan.specs.declared.plan.Plan.{Plan}
use Rattle.sdf_plan.specs.declared.plan.Domain.{Domain}
use Rattle.picture_kit.specs.declared.ink.Ink.TheVariants as In
use Rattle.picture_kit.specs.declared.shape.Form.TheVariants as As
use Rattle.picture_kit.specs.declared.shape.Shape.{Shape}
use Rattle.picture_kit.specs.Shapes.{spot, area, noted, words, plain_line}
use Rattle.pictures.specs.declared.layout_view.layout_picture.cards.Card.{Card}
use Rattle.pictures.specs.declared.layout_view.layout_picture.grid.Grid.{Grid}
use Rattle.pictures.specs.LayoutView.LayoutPicture.Grid.{box_top, box_height, box_width, column_x, middle_x}
use Rattle.pictures.specs.LayoutView.LayoutPicture.Grid.{channel_y}

-- the box of a device
abbrev pub device_card : List ℕ → Card
device_card name = record {
  ink = In.Device;
  name = name;
  program = codes "device";
  rank = [];
}

-- the box of a domain: its name, its program and its priority
abbrev pub domain_card : Domain → Card
domain_card d = record {
  ink = In.Domain;
  name = d.name;
  program = d.program;
  rank = codes "priority " ++ decimal d.priority;
}

-- the box of a device whose class is there
abbrev pub devices_if : Bool → List ℕ → List Card
devices_if there name = if there then device_card name ∷ [] else []

-- the boxes of a plan: the devices of its classes, and its domains in file order, each once
abbrev pub cards_of : Plan → List Card
cards_of plan =
    devices_if (is_some plan.net) (codes "@eth") ++ devices_if (is_some plan.serial) (codes "@uart")
    ++ devices_if (is_some plan.blk) (codes "@disk") ++ map domain_card plan.protection_domain

-- the column of the first box that has a name: how many stand before it
abbrev pub column_of : List ℕ → List Card → ℕ
column_of name [] = 0
column_of name (card ∷ cards) = if bytes_eq card.name name then 0 else column_of name cards + 1

-- what each element of a list is drawn as, in turn, counted from a number on
abbrev pub draw_each : {T A : Type 0} → (ℕ → T → List A) → ℕ → List T → List A
draw_each shapes k [] = []
draw_each shapes k (x ∷ xs) = shapes k x ++ draw_each shapes (k + 1) xs

-- the frame of a box, with a band of its own colour, and the line below it down to the last channel
abbrev pub frame_shapes : Grid → ℕ → Card → List Shape
frame_shapes g k card =
    noted card.ink (As.Block (area (column_x g k) box_top (box_width g) box_height)) card.name
    ∷ noted (In.Shade k) (As.Block (area (column_x g k) box_top (box_width g) 6)) []
    ∷ plain_line In.Lane (spot (middle_x g k) (box_top + box_height))
    (spot (middle_x g k) (channel_y g g.channels - 24)) ∷ []

-- a box: its frame, its name, its program and its priority
abbrev pub card_shapes : Grid → ℕ → Card → List Shape
card_shapes g k card =
    frame_shapes g k card
    ++ (words In.Label (column_x g k + 8) (box_top + 22) card.name
    ∷ words In.Label (column_x g k + 8) (box_top + 40) card.program
    ∷ words In.Label (column_x g k + 8) (box_top + 58) card.rank ∷ [])
