use Rattle.serial_virt.proofs.Sharing.{few_load}
use Rattle.serial_virt.proofs.tx.tx_row_law.Goals as goal
use Rattle.std.specs.Option.{option_to_list}

pub returns : goal.returns
returns c v passed h = record { owed = option_to_list v.load; few = few_load v.load; merged = h }
