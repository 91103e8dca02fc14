use Rattle.buffer_kit.proofs.Conserving.{conserves_balances}
use Rattle.wired_law.proofs.page_law.count.count_law.Goals as goal

pub returns : goal.returns
returns c = conserves_balances
