use Rattle.std.proofs.Common.{◌≡◌, ◌≤◌, drop}
use Rattle.pictures.specs.PlayPicture.PoolPicture.Pictures.{longest_name}
use Rattle.pictures.proofs.play_picture.pool_picture.picture.longest_name.Given as goal

abbrev pub invariant-loop-pool : goal.invariant-loop-pool
invariant-loop-pool l = (longest_name l.most (drop l.pool-index l.pools) ≡ longest_name 0 l.pools) × (l.most ≤ 1000)
