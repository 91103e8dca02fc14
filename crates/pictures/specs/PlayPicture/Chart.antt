-- What is drawn of each step of a journal, and the heads of the lanes.
use Rattle.std.specs.Prelude.{ℕ, ◌+◌, ◌-◌, Option, Some, None, List, [], ◌∷◌, ◌++◌, codes}
use Rattle.std.specs.Fmt.{decimal}
use Rattle.wire_core.specs.declared.names.Entry.{Entry}
use Rattle.wire_core.specs.declared.names.Op.{Op}
use Rattle.wire_core.specs.declared.names.Op.TheVariants as Do
use Rattle.wire_core.specs.declared.names.QueueRow.{QueueRow}
use Rattle.picture_kit.specs.declared.ink.Ink.{Ink}
use Rattle.picture_kit.specs.declared.ink.Ink.TheVariants as In
use Rattle.picture_kit.specs.declared.shape.Form.TheVariants as As
use Rattle.picture_kit.specs.declared.shape.Shape.{Shape}
use Rattle.picture_kit.specs.Shapes.{spot, area, noted, words, plain_line}
use Rattle.pictures.specs.declared.play_picture.lanes.Lanes.{Lanes}
use Rattle.pictures.specs.PlayPicture.Arrows.{queue_name, put_shapes, take_shapes}
use Rattle.pictures.specs.PlayPicture.Lanes.{lane_width, lane_x, middle_x, step_y, height}
use Rattle.pictures.specs.PlayPicture.Words.{op_text, bell_ink}

-- the label of a step: its number, the call and the queue
abbrev pub step_label : List ℕ → ℕ → Op → List ℕ
step_label queue k op = decimal k ++ (codes " " ++ (op_text op ++ (codes " " ++ queue)))

-- a mark in the middle of an actor's lane
abbrev pub tick_at : Lanes → List ℕ → ℕ → Entry → Option Ink → List Shape
tick_at l label k e None = []
tick_at l label k e (Some ink) = noted ink
    (As.Block (area (middle_x l e.actor.0 - 4) (step_y l k - 4) 8 8)) label ∷ []

-- the mark of a step at a bell, or of a look that was answered no
abbrev pub tick_shapes : Lanes → List ℕ → ℕ → Entry → List Shape
tick_shapes l label k e = tick_at l label k e (bell_ink e.event.op e.event.answer)

-- what is drawn of a call: an arrow for a put, its end for a take, else the mark, if it has one
abbrev pub drawn_as : Lanes → List ℕ → List ℕ → List Entry → ℕ → Entry → Op → List Shape
drawn_as l queue label journal k e Do.Put = put_shapes l queue journal k e
drawn_as l queue label journal k e Do.Take = take_shapes l journal k e
drawn_as l queue label journal k e _ = tick_shapes l label k e

-- the same of an entry
abbrev pub drawn_shapes : Lanes → List ℕ → List ℕ → List Entry → ℕ → Entry → List Shape
drawn_shapes l queue label journal k e = drawn_as l queue label journal k e e.event.op

-- a step: its label, and what is drawn of its call
abbrev pub step_shapes : Lanes → List QueueRow → List Entry → ℕ → Entry → List Shape
step_shapes l queues journal k e =
    let queue = queue_name queues e.event.queue.0 in
    let label = step_label queue k e.event.op in
    words In.Label 16 (step_y l k + 4) label ∷ drawn_shapes l queue label journal k e

-- what each element of a list is drawn as, in turn, counted from a number on
abbrev pub draw_each : {T A : Type 0} → (ℕ → T → List A) → ℕ → List T → List A
draw_each shapes k [] = []
draw_each shapes k (x ∷ xs) = shapes k x ++ draw_each shapes (k + 1) xs

-- the head of a lane: its actor's name in a box, and the lane below it
abbrev pub head_shapes : Lanes → ℕ → List ℕ → List Shape
head_shapes l a name =
    noted In.Domain (As.Block (area (lane_x l a) 64 (lane_width l - 8) 24)) []
    ∷ words In.Label (lane_x l a + 4) 80 name
    ∷ plain_line In.Lane (spot (middle_x l a) 88) (spot (middle_x l a) (height l - 8)) ∷ []
