use Rattle.std.proofs.Common.{◌∙◌, sym, ap, Some}
use Rattle.class_expect.proofs.SerialSwitch.Finds.{plain_found, ended_found}
use Rattle.class_expect.proofs.serial_switch.plain.first_piece.Goals as goal

pub returns-then-first-ne28 : goal.returns-then-first-ne28
returns-then-first-ne28 c = plain_found c.args.input.now c.in_ok-first.first (sym c.in_ok-first.ensures) c.if-first-ne28.true

pub returns : goal.returns
returns c =
    ended_found c.args.input.now c.after-inside.result.now c.ended_selection.result c.digits_in_front-count.result c.in_ok-end.end c.after-inside.ensures (sym c.in_ok-first.ensures ∙ ap (λ b. Some b) c.if-first-ne28.false) c.digits_in_front-count.ensures.few c.digits_in_front-count.ensures.digits c.digits_in_front-count.ensures.stops (sym c.in_ok-end.ensures)
    c.ended_selection.ensures.length c.ended_selection.ensures.gives c.ended_selection.ensures.selects
