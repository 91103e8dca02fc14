use Rattle.std.proofs.Common.{◌≡◌, ◌++◌, drop}
use Rattle.std.specs.List.{flat_map}
use Rattle.pictures.specs.LayoutView.LayoutPicture.Graph.{queue_edge}
use Rattle.pictures.proofs.layout_view.layout_picture.graph.push_queues.Given as goal

abbrev pub invariant-loop-queue : goal.invariant-loop-queue
invariant-loop-queue l = l.to ++ flat_map (queue_edge l.regions l.actors) (drop l.queue-index l.queues) ≡ l.initial.to ++ flat_map (queue_edge l.regions l.actors) l.queues
