use Rattle.wired_law.proofs.PageLaw.WildPages.Rounds.Serving.{closed}
use Rattle.wired_law.proofs.page_law.wild_pages.network_law.Goals as goal

pub returns : goal.returns
returns c = λ f r copier v k s sends returns_to down device up passed served way leases start spared. closed f r copier v k s sends returns_to passed served leases start spared (c.turn_law.ensures.back v passed served.sender down device up way k s served.there) (c.network_law.ensures.copier copier passed served.copier)
