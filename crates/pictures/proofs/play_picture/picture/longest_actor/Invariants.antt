use Rattle.std.proofs.Common.{◌≡◌, ◌≤◌, drop}
use Rattle.pictures.specs.PlayPicture.Pictures.{longest_actor}
use Rattle.pictures.proofs.play_picture.picture.longest_actor.Given as goal

abbrev pub invariant-loop-actor : goal.invariant-loop-actor
invariant-loop-actor l = (longest_actor l.most (drop l.actor-index l.actors) ≡ longest_actor 0 l.actors) × (l.most ≤ 900)
