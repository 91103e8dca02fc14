use Rattle.std.proofs.Common.{◌≡◌, ◌≤◌, drop}
use Rattle.pictures.specs.LayoutView.LayoutPicture.Pictures.{longest_queue}
use Rattle.pictures.proofs.layout_view.layout_picture.picture.longest_queue.Given as goal

abbrev pub invariant-loop-queue : goal.invariant-loop-queue
invariant-loop-queue l = (longest_queue l.most (drop l.queue-index l.queues) ≡ longest_queue 0 l.queues) × (l.most ≤ 900)
