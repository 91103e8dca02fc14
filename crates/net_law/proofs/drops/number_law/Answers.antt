use Rattle.net_law.proofs.DropsLemmas.Numbering.{used_is, marks_are}
use Rattle.net_law.proofs.drops.number_law.Goals as goal

pub returns-clause-used : goal.returns-clause-used
returns-clause-used c = used_is

pub returns-clause-marks : goal.returns-clause-marks
returns-clause-marks c = marks_are
