use Rattle.class_expect.proofs.BlkExpect.BlkKit.Runs.{read_inside, write_inside, write_above, write_below}
use Rattle.class_expect.proofs.blk_expect.blk_kit.laws.run_law.Goals as goal

pub returns-clause-read : goal.returns-clause-read
returns-clause-read c = read_inside

pub returns-clause-write : goal.returns-clause-write
returns-clause-write c = write_inside

pub returns-clause-above : goal.returns-clause-above
returns-clause-above c = write_above

pub returns-clause-below : goal.returns-clause-below
returns-clause-below c = write_below
