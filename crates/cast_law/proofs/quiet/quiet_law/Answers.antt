use Rattle.cast_law.proofs.QuietLemmas.Rooms.{pools_are, rooms_are}
use Rattle.cast_law.proofs.QuietLemmas.Blocks.{blk_pools_are, blk_rooms_are}
use Rattle.cast_law.proofs.quiet.quiet_law.Goals as goal

pub returns-clause-pools : goal.returns-clause-pools
returns-clause-pools c = λ plan trace valid net is. pools_are plan trace net is valid

pub returns-clause-rooms : goal.returns-clause-rooms
returns-clause-rooms c = λ plan trace cast valid net is plays none. rooms_are plan trace net is valid cast plays none

pub returns-clause-blk_pools : goal.returns-clause-blk_pools
returns-clause-blk_pools c = blk_pools_are

pub returns-clause-blk_rooms : goal.returns-clause-blk_rooms
returns-clause-blk_rooms c = blk_rooms_are
