use Rattle.serial_virt.proofs.Merging.{merge_start}
use Rattle.serial_virt.proofs.tx.SerialVirtTx.new.Goals as goal

pub returns-clause-stands : goal.returns-clause-stands
returns-clause-stands c = merge_start _
