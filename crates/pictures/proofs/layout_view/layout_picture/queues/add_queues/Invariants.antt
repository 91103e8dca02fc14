use Rattle.std.proofs.Common.{◌≡◌, ◌++◌, drop}
use Rattle.pictures.specs.LayoutView.LayoutPicture.Cards.{draw_each}
use Rattle.pictures.specs.LayoutView.LayoutPicture.Queues.{queue_shapes}
use Rattle.pictures.proofs.layout_view.layout_picture.queues.add_queues.Given as goal

-- what was drawn and what is left is the whole
abbrev pub invariant-loop-q : goal.invariant-loop-q
invariant-loop-q l =
    l.shapes ++ draw_each (queue_shapes l.stage.grid.now l.stage.cards.now l.stage.regions.now l.stage.actors.now) l.q (drop l.q l.queues)
    ≡ l.initial.shapes ++ draw_each (queue_shapes l.stage.grid.now l.stage.cards.now l.stage.regions.now l.stage.actors.now) 0 l.queues
