use Rattle.wired_law.proofs.PageLaw.DiskLemmas.Answering.{disk_conserves}
use Rattle.wired_law.proofs.page_law.disk.disk_law.Goals as goal

pub returns : goal.returns
returns c = disk_conserves
