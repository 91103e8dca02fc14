use Rattle.net_law.proofs.DropsLemmas.Telling.{device_row, copier_row}
use Rattle.net_law.proofs.PartsLemmas.Items.{driver_row, client_row}
use Rattle.net_law.proofs.PartsLemmas.Leasing.{receiver_row}
use Rattle.net_law.proofs.parts.row_law.Goals as goal

pub returns-clause-device : goal.returns-clause-device
returns-clause-device c = device_row

pub returns-clause-driver : goal.returns-clause-driver
returns-clause-driver c = driver_row

pub returns-clause-receiver : goal.returns-clause-receiver
returns-clause-receiver c = λ scene v passed m turn items row. receiver_row scene v passed m items turn.takes row (turn.in_turn row)

pub returns-clause-copier : goal.returns-clause-copier
returns-clause-copier c = copier_row

pub returns-clause-client : goal.returns-clause-client
returns-clause-client c = client_row
