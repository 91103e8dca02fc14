-- The whole chart of a journal.
use Rattle.std.specs.Prelude.{ℕ, ◌+◌, ◌<◌, ◌≤◌, ◌^◌, List, [], ◌∷◌, ◌++◌, length, drop, min, max}
use Rattle.std.specs.Prelude.{codes}
use Rattle.std.specs.List.{fold}
use Rattle.std.specs.Fmt.{decimal}
use Rattle.wire_core.specs.declared.names.Entry.{Entry}
use Rattle.wire_core.specs.declared.names.QueueRow.{QueueRow}
use Rattle.picture_kit.specs.declared.ink.Ink.TheVariants as In
use Rattle.picture_kit.specs.declared.shape.Picture.{Picture}
use Rattle.picture_kit.specs.declared.shape.Shape.{Shape}
use Rattle.picture_kit.specs.Shapes.{words}
use Rattle.pictures.specs.declared.play_picture.lanes.Lanes.{Lanes}
use Rattle.pictures.specs.PlayPicture.Chart.{draw_each, head_shapes, step_shapes}
use Rattle.pictures.specs.PlayPicture.Lanes.{width, height}
use Rattle.pictures.specs.PlayPicture.Legend.{legend_shapes}

-- how long the longest name of a queue is, and at least so long; names past 900 count as 900
abbrev pub longest_queue : ℕ → List QueueRow → ℕ
longest_queue least queues =
    fold (λ most (q : QueueRow). max most (min (length q.name) 900)) least queues

-- how long the longest name of an actor is
abbrev pub longest_actor : ℕ → List (List ℕ) → ℕ
longest_actor least actors =
    fold (λ most (name : List ℕ). max most (min (length name) 900)) least actors

-- the lanes and steps of a chart
abbrev pub lanes_of : List QueueRow → List (List ℕ) → ℕ → ℕ → Lanes
lanes_of queues actors from to = record {
  label = longest_queue 0 queues + 24;
  letters = longest_actor 0 actors + 4;
  actors = length actors;
  from = from;
  to = to;
}

-- what it shows, in words: from which step up to which, and of how many
abbrev pub about_text : Lanes → ℕ → List ℕ
about_text l steps =
    codes "steps " ++ (decimal l.from ++ (codes " up to " ++ (decimal l.to
    ++ (codes " of " ++ decimal steps))))

-- all shapes: what the chart shows in words, what its marks are, the heads of the lanes, and each
-- step from a place on
abbrev pub shapes_of : List QueueRow → List (List ℕ) → Lanes → List Entry → ℕ → List ℕ → List Shape
shapes_of queues actors l journal from about =
    words In.Heading 16 28 about ∷ (legend_shapes ++ (draw_each (head_shapes l) 0 actors
    ++ draw_each (step_shapes l queues journal) from (drop from journal)))

-- the chart of the first steps of a journal, from a place on
abbrev pub picture_of : List QueueRow → List (List ℕ) → List Entry → ℕ → ℕ → Picture
picture_of queues actors journal from steps =
    let l = lanes_of queues actors from (length journal) in
    record {
      width = width l;
      height = height l;
      title = codes "The steps of a play";
      about = about_text l steps;
      shapes = shapes_of queues actors l journal from (about_text l steps);
    }

-- a chart is drawn of at most 65,536 actors, and of fewer than 2^32 steps
pub record IsDrawable (actors : List (List ℕ)) (journal : List Entry) : Type 0 where
  pub few_actors : length actors ≤ 65536
  pub few_steps : length journal < 2 ^ 32
