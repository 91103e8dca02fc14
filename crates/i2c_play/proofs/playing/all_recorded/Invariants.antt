use Rattle.std.proofs.Common.{◌≡◌, take, map}
use Rattle.i2c_play.specs.Plays.{recorded}
use Rattle.i2c_play.proofs.playing.all_recorded.Given as goal

abbrev pub invariant-loop-actor : goal.invariant-loop-actor
invariant-loop-actor l = l.lists.items ≡ map recorded (take l.actor-index l.actors)
