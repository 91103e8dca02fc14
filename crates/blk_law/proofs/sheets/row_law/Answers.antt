use Rattle.net_law.proofs.PartsLemmas.Items.{driver_row}
use Rattle.blk_law.proofs.SheetsLemmas.Items.{disk_row, client_row}
use Rattle.blk_law.proofs.SheetsLemmas.Virtual.{virt_row}
use Rattle.blk_law.proofs.sheets.row_law.Goals as goal

pub returns-clause-disk : goal.returns-clause-disk
returns-clause-disk c = disk_row

pub returns-clause-driver : goal.returns-clause-driver
returns-clause-driver c = driver_row

pub returns-clause-virtualiser : goal.returns-clause-virtualiser
returns-clause-virtualiser c = λ scene v passed m turn items row. virt_row scene v passed m turn items row

pub returns-clause-client : goal.returns-clause-client
returns-clause-client c = λ scene x passed m turn items row. client_row x passed turn row scene m items
