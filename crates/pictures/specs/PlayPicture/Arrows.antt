-- The arrows from puts to takes.
use Rattle.std.specs.Prelude.{ℕ, ◌+◌, ◌-◌, nat_lt, Bool, true, false, Option, Some, None, List, []}
use Rattle.std.specs.Prelude.{◌∷◌, ◌++◌, if◌then◌else◌, slice_get, codes}
use Rattle.std.specs.Option.{option_map_or, option_and_then}
use Rattle.std.specs.Fmt.{decimal}
use Rattle.cargo_core.specs.Items.{kind_of}
use Rattle.cargo_core.specs.declared.item.Item.{Item}
use Rattle.wire_core.specs.declared.names.Entry.{Entry}
use Rattle.wire_core.specs.declared.names.QueueRow.{QueueRow}
use Rattle.picture_kit.specs.Inks.{kind_ink}
use Rattle.picture_kit.specs.declared.ink.Ink.{Ink}
use Rattle.picture_kit.specs.declared.ink.Ink.TheVariants as In
use Rattle.picture_kit.specs.declared.shape.Form.TheVariants as As
use Rattle.picture_kit.specs.declared.shape.Shape.{Shape}
use Rattle.picture_kit.specs.declared.shape.Spot.{Spot}
use Rattle.picture_kit.specs.Shapes.{spot, segment, noted}
use Rattle.pictures.specs.declared.play_picture.lanes.Lanes.{Lanes}
use Rattle.pictures.specs.declared.play_picture.pairs.Way.{Way}
use Rattle.pictures.specs.declared.play_picture.pairs.Way.TheVariants as By
use Rattle.pictures.specs.PlayPicture.Lanes.{middle_x, step_y}
use Rattle.pictures.specs.PlayPicture.Pairs.{partner_of}
use Rattle.pictures.specs.PlayPicture.Words.{buffer_ink}

-- the name of a queue
abbrev pub queue_name : List QueueRow → ℕ → List ℕ
queue_name queues q = option_map_or (λ (queue : QueueRow). queue.name) (slice_get queues q) []

-- a place, unless it is before the first step of the chart
abbrev pub not_before : ℕ → ℕ → Option ℕ
not_before first j = if nat_lt j first then None else Some j

-- the partner of a put or a take, if it is in the chart
abbrev pub shown_partner : Lanes → List Entry → Way → ℕ → Entry → Option ℕ
shown_partner l journal way k e = option_and_then (not_before l.from) (partner_of way journal k e)

-- where a step of an actor is
abbrev pub step_spot : Lanes → ℕ → ℕ → Spot
step_spot l actor step = spot (middle_x l actor) (step_y l step)

-- the ink of the dots of a put or a take: a buffer is followed by its own
abbrev pub dot_ink : Option Item → Ink
dot_ink None = In.Loose
dot_ink (Some item) = buffer_ink item

-- the ink of its arrow
abbrev pub arrow_ink : Option Item → Ink
arrow_ink None = In.Loose
arrow_ink (Some item) = kind_ink (kind_of item)

-- what is said of an arrow
abbrev pub passed_note : List ℕ → ℕ → ℕ → List ℕ
passed_note queue put taken =
    queue ++ (codes ": put at step " ++ (decimal put ++ (codes ", taken at step "
    ++ decimal taken)))

-- the arrow from a put to its take
abbrev pub passed : Lanes → List ℕ → ℕ → Entry → ℕ → Entry → Shape
passed l queue k put j taken =
    noted (arrow_ink put.event.item)
    (As.Line (segment (step_spot l put.actor.0 k) (step_spot l taken.actor.0 j)))
    (passed_note queue k j)

-- the open end of a put whose take isn't in the chart
abbrev pub open_end : Lanes → ℕ → Entry → Shape
open_end l k e =
    noted In.Loose
    (As.Line (segment (step_spot l e.actor.0 k) (spot (middle_x l e.actor.0 + 24) (step_y l k))))
    (codes "its take isn't shown")

-- the open start of a take whose put isn't in the chart
abbrev pub open_start : Lanes → ℕ → Entry → Shape
open_start l k e =
    noted In.Loose
    (As.Line (segment (spot (middle_x l e.actor.0 - 24) (step_y l k)) (step_spot l e.actor.0 k)))
    (codes "its put isn't shown")

-- the arrow of a put to what takes it
abbrev pub arrow_to : Lanes → List ℕ → List Entry → ℕ → Entry → Option ℕ → Shape
arrow_to l queue journal k e None = open_end l k e
arrow_to l queue journal k e (Some j) =
    option_map_or (λ (taken : Entry). passed l queue k e j taken) (slice_get journal j)
    (open_end l k e)

-- the arrow of a put: to its take, or with an open end
abbrev pub put_arrow : Lanes → List ℕ → List Entry → ℕ → Entry → Shape
put_arrow l queue journal k e = arrow_to l queue journal k e (shown_partner l journal By.Put k e)

-- the dot of a put or a take
abbrev pub dot : Lanes → ℕ → Entry → Shape
dot l k e = noted (dot_ink e.event.item) (As.Dot (step_spot l e.actor.0 k)) []

-- what is drawn of a put: its arrow, and a dot
abbrev pub put_shapes : Lanes → List ℕ → List Entry → ℕ → Entry → List Shape
put_shapes l queue journal k e = put_arrow l queue journal k e ∷ dot l k e ∷ []

-- the open start of a take, unless its put is in the chart: then the arrow is drawn with the put
abbrev pub start_if : Lanes → ℕ → Entry → Option ℕ → List Shape
start_if l k e None = open_start l k e ∷ []
start_if l k e (Some j) = []

-- what is drawn of a take: an open start, if its put isn't in the chart, and a dot
abbrev pub take_shapes : Lanes → List Entry → ℕ → Entry → List Shape
take_shapes l journal k e =
    start_if l k e (shown_partner l journal By.Take k e) ++ dot l k e ∷ []
