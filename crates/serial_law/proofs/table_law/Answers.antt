use Rattle.serial_law.proofs.Own.{serial_own, serial_follows}
use Rattle.serial_law.proofs.table_law.Goals as goal

pub returns-clause-own : goal.returns-clause-own
returns-clause-own c = serial_own

pub returns-clause-follow : goal.returns-clause-follow
returns-clause-follow c = serial_follows
