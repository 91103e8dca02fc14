use Rattle.std.proofs.Common.{◌≡◌, ◌≤◌, take}
use Rattle.net_virt_rx.specs.Sharing.{how_many}
use Rattle.net_virt_rx.proofs.receivers.count.Given as goal

abbrev pub invariant-loop-mark : goal.invariant-loop-mark
invariant-loop-mark l = (l.count ≡ how_many (take l.mark-index l.marks)) × (l.count ≤ l.mark-index)
