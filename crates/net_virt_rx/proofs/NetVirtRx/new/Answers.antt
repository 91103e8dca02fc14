use Rattle.net_virt_rx.proofs.Rounds.{new_stands}
use Rattle.net_virt_rx.proofs.NetVirtRx.new.Goals as goal

pub returns-clause-stands : goal.returns-clause-stands
returns-clause-stands c = new_stands c.args.base _ c.args.pages.items c.in_ok-work.work c.in_ok-work.ensures.work c.in_ok-work.ensures.new _ _ _ _
