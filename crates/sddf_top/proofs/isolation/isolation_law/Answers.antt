use Rattle.sddf_top.proofs.IsolationLemmas.{system-of}
use Rattle.sddf_top.proofs.isolation.isolation_law.Goals as goal

pub returns-clause-net : goal.returns-clause-net
returns-clause-net k plan other trace told s t c d got seen h g same at to =
    k.isolation_law.ensures.net plan other trace told s t c d got seen (system-of plan trace s h) (system-of other told t g) same at to

pub returns-clause-serial : goal.returns-clause-serial
returns-clause-serial k plan other trace told s t c got seen h g same at to =
    k.isolation_law.ensures.serial plan other trace told s t c got seen (system-of plan trace s h) (system-of other told t g) same at to

pub returns-clause-blk : goal.returns-clause-blk
returns-clause-blk k plan other trace told s t c d got seen h g same at to =
    k.isolation_law.ensures.blk plan other trace told s t c d got seen (system-of plan trace s h) (system-of other told t g) same at to
