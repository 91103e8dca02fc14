-- The rows of queues.
use Rattle.std.specs.Prelude.{ℕ, ◌+◌, false, Option, Some, None, List, [], ◌∷◌, ◌++◌, codes}
use Rattle.std.specs.Fmt.{decimal, digits}
use Rattle.wire_core.specs.declared.names.QueueRow.{QueueRow}
use Rattle.sdf_plan.specs.declared.plan.Region.{Region}
use Rattle.picture_kit.specs.Inks.{kind_ink}
use Rattle.picture_kit.specs.declared.ink.Ink.TheVariants as In
use Rattle.picture_kit.specs.declared.shape.Form.TheVariants as As
use Rattle.picture_kit.specs.declared.shape.Shape.{Shape}
use Rattle.picture_kit.specs.Shapes.{spot, segment, noted, words}
use Rattle.pictures.specs.declared.layout_view.layout_picture.cards.Card.{Card}
use Rattle.pictures.specs.declared.layout_view.layout_picture.grid.Grid.{Grid}
use Rattle.pictures.specs.LayoutView.LayoutPicture.Names.{name_at, region_name, kind_name}
use Rattle.pictures.specs.LayoutView.LayoutPicture.Cards.{column_of}
use Rattle.pictures.specs.LayoutView.LayoutPicture.Grid.{place_x, middle_x, queue_y}

-- the label of a queue: its name, what it carries, and how many entries it holds
abbrev pub queue_label : QueueRow → List ℕ
queue_label queue =
    queue.name ++ (codes " " ++ (kind_name queue.kind ++ (codes " " ++ decimal queue.capacity)))

-- its note: who puts, and who takes
abbrev pub queue_note : List (List ℕ) → QueueRow → List ℕ
queue_note actors queue =
    queue.name ++ (codes " from " ++ (name_at actors queue.producer.0
    ++ (codes " to " ++ name_at actors queue.consumer.0)))

-- a place in a region: its name, and how many bytes from its begin
abbrev pub place_in : List Region → Option ℕ → ℕ → List ℕ
place_in regions None offset = codes "at the device"
place_in regions (Some r) offset =
    region_name regions r ++ (codes " + 0x" ++ digits 16 false offset)

-- where a queue stands
abbrev pub standing : List Region → QueueRow → List ℕ
standing regions queue = place_in regions queue.region queue.offset

-- the middle of the column of an actor's box
abbrev pub middle_of : Grid → List Card → List (List ℕ) → ℕ → ℕ
middle_of g cards actors actor = middle_x g (column_of (name_at actors actor) cards)

-- the arrow of a queue, from its producer's column to its consumer's, and a dot at its begin
abbrev pub arrow_shapes : Grid → List Card → List (List ℕ) → ℕ → QueueRow → List Shape
arrow_shapes g cards actors q queue =
    let from = spot (middle_of g cards actors queue.producer.0) (queue_y q) in
    let to = spot (middle_of g cards actors queue.consumer.0) (queue_y q) in
    noted (kind_ink queue.kind) (As.Line (segment from to)) (queue_note actors queue)
    ∷ noted (kind_ink queue.kind) (As.Dot from) [] ∷ []

-- a queue: its label, its arrow, and where it stands
abbrev pub queue_shapes : Grid → List Card → List Region → List (List ℕ) → ℕ → QueueRow
    → List Shape
queue_shapes g cards regions actors q queue =
    words In.Label 16 (queue_y q + 4) (queue_label queue)
    ∷ arrow_shapes g cards actors q queue
    ++ words In.Label (place_x g) (queue_y q + 4) (standing regions queue) ∷ []
