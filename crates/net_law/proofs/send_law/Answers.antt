use Rattle.net_law.proofs.Answering.{sends_begin}
use Rattle.net_law.proofs.send_law.Goals as goal

pub returns : goal.returns
returns c = sends_begin
