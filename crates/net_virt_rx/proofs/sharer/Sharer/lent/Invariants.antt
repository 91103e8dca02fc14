use Rattle.std.proofs.Common.{◌≡◌, ◌≤◌}
use Rattle.net_virt_rx.specs.Sharing.{lent_many}
use Rattle.net_virt_rx.proofs.sharer.Sharer.lent.Given as goal

abbrev pub invariant-loop-no : goal.invariant-loop-no
invariant-loop-no l = (l.many ≡ lent_many l.no l.self.lent) × (l.many ≤ l.no)
