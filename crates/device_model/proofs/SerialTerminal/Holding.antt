use Rattle.std.proofs.Common.{◌≡◌, ◌+◌, take, ap, ◌∙◌, arith}
use Rattle.wire_core.specs.Lists.{Passed}
use Rattle.cargo_core.specs.Bodies.{buffers_of}
use Rattle.turn_kit.specs.Hands.{bodies_of}
use Rattle.turn_kit.proofs.Holding.{at_one}
use Rattle.class_expect.proofs.SerialSwitch.Carrying.{bytes_hold_none}
use Rattle.device_model.specs.declared.serial_terminal.Terminal.{Terminal}
use Rattle.device_model.specs.SerialTerminal.Terminals.{TerminalStandsFor, TerminalBalances}

-- what it put are bytes
pub balance_of : (t : Terminal) (passed : Passed) → TerminalStandsFor t passed → TerminalBalances t passed
balance_of t passed h pool =
    let put = at_one pool passed.sent t.output.queue.0 in
    let none : buffers_of pool (bodies_of (passed.sent t.output.queue.0)) ≡ 0 = ap (λ cs. buffers_of pool (bodies_of cs)) h.sent_is ∙ bytes_hold_none pool (take t.next t.script) in
    omega (arith, put, none)
