use Rattle.std.proofs.Common.{[], ◌∷◌}
use Rattle.net_law.specs.Owners.Ends.{stock_window}
use Rattle.net_law.proofs.OwnersLemmas.Lenders.{lender_keeps}
use Rattle.net_law.specs.RxOwners.Virtualiser.{rx_lender, offset_window}
use Rattle.net_law.proofs.RxOwners.Receivers.{rx_lends}
use Rattle.net_law.proofs.RxOwners.Lending.{rx_out}
use Rattle.net_law.proofs.rx_owners.virtualiser_law.Goals as goal

pub returns-clause-row : goal.returns-clause-row
returns-clause-row c = rx_lends

pub returns-clause-keeps : goal.returns-clause-keeps
returns-clause-keeps c = λ naming frame v passed m names items takes row. lender_keeps naming (stock_window v.work.stock ∷ []) (offset_window v.work.stock ∷ []) (rx_lender frame v) m names (rx_lends frame v passed m items takes row)

pub returns-clause-lent : goal.returns-clause-lent
returns-clause-lent c = λ naming frame v passed m names items takes x none to_each from_each b. rx_out frame v passed m items takes x none to_each from_each naming names b
