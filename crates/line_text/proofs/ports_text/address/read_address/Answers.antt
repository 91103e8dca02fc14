use Rattle.std.proofs.Common.{sym}
use Rattle.line_text.proofs.PortsText.Addresses.{no_text}
use Rattle.line_text.proofs.ports_text.address.read_address.Goals as goal

pub returns-in-Err : goal.returns-in-Err
returns-in-Err c = sym (no_text c.args.word.now c.in-Err.ensures.cases.0)
