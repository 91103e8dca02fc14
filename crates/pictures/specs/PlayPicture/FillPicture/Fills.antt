-- How full the queues are over the steps of a journal: a row for each queue, with a frame as high
-- as its capacity, and a bar from each change of what it holds up to the next.
use Rattle.std.specs.Prelude.{ℕ, ◌+◌, ◌-◌, ◌*◌, ◌/◌, ◌<◌, ◌≤◌, ◌^◌, ◌==◌, ◌||◌, Bool, List, [], ◌∷◌}
use Rattle.std.specs.Prelude.{◌++◌, if◌then◌else◌, unwrap_or, count_by, take, drop, length, min}
use Rattle.std.specs.Prelude.{max, codes}
use Rattle.std.specs.List.{fold}
use Rattle.std.specs.Fmt.{decimal}
use Rattle.wire_core.specs.declared.names.Entry.{Entry}
use Rattle.wire_core.specs.declared.names.QueueRow.{QueueRow}
use Rattle.picture_kit.specs.Inks.{kind_ink}
use Rattle.picture_kit.specs.declared.ink.Ink.TheVariants as In
use Rattle.picture_kit.specs.declared.shape.Form.TheVariants as As
use Rattle.picture_kit.specs.declared.shape.Picture.{Picture}
use Rattle.picture_kit.specs.declared.shape.Shape.{Shape}
use Rattle.picture_kit.specs.Shapes.{area, noted, words}
use Rattle.pictures.specs.declared.play_picture.fill_picture.fills.Fills.{Fills}
use Rattle.pictures.specs.declared.play_picture.pairs.Way.{Way}
use Rattle.pictures.specs.declared.play_picture.pairs.Way.TheVariants as By
use Rattle.pictures.specs.PlayPicture.Chart.{draw_each}
use Rattle.pictures.specs.PlayPicture.Pairs.{moves, place_of_nth}

-- how many entries a queue holds after so many steps: those that were put and not taken
unfoldable pub level : List Entry → ℕ → ℕ → ℕ
level journal q k =
    count_by (moves By.Put q) (take k journal) - count_by (moves By.Take q) (take k journal)

-- the first entry that moves one of a queue in this way, or the end
abbrev pub first_of : Way → ℕ → List Entry → ℕ
first_of way q journal =
    min (unwrap_or (place_of_nth (moves way q) 0 journal) (length journal)) (length journal)

-- for how many steps from one on a queue stays as full
unfoldable pub span : List Entry → ℕ → ℕ → ℕ
span journal q k = min (first_of By.Put q (drop k journal)) (first_of By.Take q (drop k journal))

-- an entry changes how full a queue is
abbrev pub changes : ℕ → Entry → Bool
changes q e = moves By.Put q e || moves By.Take q e

-- how many pixels a step takes: so many that a short play is 1,000 wide, and one at least
unfoldable pub step_width : Fills → ℕ
step_width f = max (1000 / max (f.to - f.from) 1) 1

-- where the frames begin: behind the labels
abbrev pub fill_left : Fills → ℕ
fill_left f = 8 * f.label + 32

-- where the time before a step is
unfoldable pub step_x : Fills → ℕ → ℕ
step_x f k = fill_left f + step_width f * (k - f.from)

-- where the frame of a queue begins, from above
abbrev pub fill_y : ℕ → ℕ
fill_y q = 56 + 40 * q

-- how high a bar is: a frame is 28 pixels high, and what is there is seen
unfoldable pub bar_height : ℕ → ℕ → ℕ
bar_height capacity held = max (min (28 * held / max capacity 1) 28) 1

-- what is said of a bar
abbrev pub bar_note : ℕ → ℕ → ℕ → List ℕ
bar_note capacity held k =
    decimal held ++ (codes " of " ++ (decimal capacity ++ (codes " from step " ++ decimal k)))

-- the bar of a queue that holds so many from a step on, for so many steps
abbrev pub bar : Fills → ℕ → QueueRow → ℕ → ℕ → ℕ → Shape
bar f q row held k steps =
    noted (kind_ink row.kind)
    (As.Block (area (step_x f k) (fill_y q + 28 - bar_height row.capacity held)
    (step_width f * steps) (bar_height row.capacity held)))
    (bar_note row.capacity held k)

-- none where it holds nothing
abbrev pub bar_if : Fills → ℕ → QueueRow → ℕ → ℕ → ℕ → List Shape
bar_if f q row held k steps = if held == 0 then [] else bar f q row held k steps ∷ []

-- how full a queue is from a step on, up to the next change
unfoldable pub bar_at : Fills → List Entry → ℕ → QueueRow → ℕ → List Shape
bar_at f journal q row k = bar_if f q row (level journal q k) k (span journal q k)

-- a change
abbrev pub change_shapes : Fills → List Entry → ℕ → QueueRow → ℕ → Entry → List Shape
change_shapes f journal q row k e = if changes q e then bar_at f journal q row (k + 1) else []

-- the label of a queue: its name and its capacity
abbrev pub fill_label : QueueRow → List ℕ
fill_label row = row.name ++ (codes " of " ++ decimal row.capacity)

-- what stands at the begin of a row: the queue's label, and its frame
abbrev pub fill_head : Fills → ℕ → QueueRow → List Shape
fill_head f q row =
    words In.Label 16 (fill_y q + 18) (fill_label row)
    ∷ noted In.Region
    (As.Block (area (fill_left f) (fill_y q) (step_width f * (f.to - f.from)) 28)) row.name ∷ []

-- a queue: its head, how full it is at first, and each change
unfoldable pub fill_shapes : Fills → List Entry → ℕ → QueueRow → List Shape
fill_shapes f journal q row =
    fill_head f q row ++ (bar_at f journal q row f.from
    ++ draw_each (change_shapes f journal q row) f.from (drop f.from journal))

-- how long the longest name of a queue is; names past 900 count as 900
abbrev pub longest_queue : ℕ → List QueueRow → ℕ
longest_queue least queues =
    fold (λ most (q : QueueRow). max most (min (length q.name) 900)) least queues

-- which steps are drawn, and of how many
abbrev pub range_text : ℕ → ℕ → ℕ → List ℕ
range_text from to steps =
    codes "steps " ++ (decimal from ++ (codes " up to " ++ (decimal to
    ++ (codes " of " ++ decimal steps))))

-- the labels and steps of a picture
abbrev pub fills_of : List QueueRow → ℕ → ℕ → Fills
fills_of queues from to = record {
  label = longest_queue 0 queues + 12;
  from = from;
  to = to;
}

-- all shapes: each queue, once and in order
unfoldable pub all_fills : Fills → List QueueRow → List Entry → List ℕ → List Shape
all_fills f queues journal about =
    (words In.Heading 16 28 about ∷ []) ++ draw_each (fill_shapes f journal) 0 queues

-- how full the queues are over the first steps of a journal, from a place on
abbrev pub counts_of : List QueueRow → List Entry → ℕ → ℕ → Picture
counts_of queues journal from steps =
    let f = fills_of queues from (length journal) in
    record {
      width = fill_left f + step_width f * (f.to - f.from) + 16;
      height = fill_y (length queues);
      title = codes "How full the queues are";
      about = range_text from (length journal) steps;
      shapes = all_fills f queues journal (range_text from (length journal) steps);
    }

-- its places are numbers of 64 bits
pub record IsSmallFills (f : Fills) : Type 0 where
  pub short_labels : f.label ≤ 1000
  pub few_steps : f.to < 2 ^ 32
  pub in_order : f.from ≤ f.to
