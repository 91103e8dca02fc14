use Rattle.std.proofs.Common.{◌∙◌, ◌++◌, ap, subst}
use Rattle.class_expect.specs.SerialSwitch.Switching.{IsRest}
use Rattle.class_expect.specs.SerialSwitch.Finding.{Finds}
use Rattle.class_expect.proofs.SerialSwitch.Finds.{read_more, read_all}
use Rattle.class_expect.proofs.serial_switch.plain.plain_input_of.Goals as goal

pub loop-piece-preserved : goal.loop-piece-preserved
loop-piece-preserved c = rw c.selected_after-selected.ensures (read_more c.args.clients c.args.client c.args.input.now c.loop-piece.at c.loop-piece.selected c.loop-piece.given c.in-Some.piece c.append.new.given c.loop-piece.invariant (subst (Finds c.in-Some.piece) c.after.ensures c.in-Some.ensures) (c.in_ok-append.ensures ∙ ap (λ g. c.loop-piece.given ++ g) c.given_byte.ensures))

pub returns : goal.returns
returns c = read_all _ _ _ _ _ _ c.loop-piece.invariant (subst IsRest c.after.ensures c.in_default.ensures)
