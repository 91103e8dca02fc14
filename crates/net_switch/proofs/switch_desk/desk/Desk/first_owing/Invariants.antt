use Rattle.std.specs.Prelude.{◌≡◌, None, take}
use Rattle.std.specs.List.{find}
use Rattle.net_switch.specs.SwitchDesk.Desks.{owes}
use Rattle.net_switch.proofs.switch_desk.desk.Desk.first_owing.Given as goal

abbrev pub invariant-loop-sender : goal.invariant-loop-sender
invariant-loop-sender l = find (λ sender. owes l.self sender l.port) (take l.sender-index l.senders) ≡ None
