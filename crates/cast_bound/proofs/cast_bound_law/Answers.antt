use Rattle.cast_bound.proofs.Networks.{net_within}
use Rattle.cast_bound.proofs.Blocks.{blk_within}
use Rattle.cast_bound.proofs.Bounds.{serial_within, short}
use Rattle.cast_bound.proofs.cast_bound_law.Goals as goal

pub returns-clause-network : goal.returns-clause-network
returns-clause-network c = net_within

pub returns-clause-block : goal.returns-clause-block
returns-clause-block c = blk_within

pub returns-clause-serial : goal.returns-clause-serial
returns-clause-serial c = serial_within

pub returns-clause-short : goal.returns-clause-short
returns-clause-short c = short
