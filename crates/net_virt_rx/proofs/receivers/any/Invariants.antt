use Rattle.std.proofs.Common.{◌≡◌, nat_lt, take}
use Rattle.net_virt_rx.specs.Sharing.{how_many}
use Rattle.net_virt_rx.proofs.receivers.any.Given as goal

abbrev pub invariant-loop-mark : goal.invariant-loop-mark
invariant-loop-mark l = l.some ≡ nat_lt 0 (how_many (take l.mark-index l.marks))
