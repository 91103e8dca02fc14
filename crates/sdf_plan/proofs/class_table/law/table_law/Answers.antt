use Rattle.std.proofs.Common.{refl}
use Rattle.sdf_plan.proofs.ClassTable.Whole.{table_places, walk-ends}
use Rattle.sdf_plan.proofs.class_table.law.table_law.Goals as goal

pub returns-clause-places : goal.returns-clause-places
returns-clause-places c = table_places

pub returns-clause-ends : goal.returns-clause-ends
returns-clause-ends c = walk-ends

pub returns-clause-net : goal.returns-clause-net
returns-clause-net c net = record { roles = refl; queues = refl; pools = refl }

pub returns-clause-net_client : goal.returns-clause-net_client
returns-clause-net_client c net k client = record { roles = refl; queues = refl; pools = refl }

pub returns-clause-serial : goal.returns-clause-serial
returns-clause-serial c serial = record { roles = refl; queues = refl; pools = refl }

pub returns-clause-serial_client : goal.returns-clause-serial_client
returns-clause-serial_client c serial k client = record { roles = refl; queues = refl; pools = refl }

pub returns-clause-blk : goal.returns-clause-blk
returns-clause-blk c blk = record { roles = refl; queues = refl; pools = refl }

pub returns-clause-blk_client : goal.returns-clause-blk_client
returns-clause-blk_client c blk k client = record { roles = refl; queues = refl; pools = refl }
