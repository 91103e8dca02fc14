use Rattle.std.proofs.Common.{◌++◌, ◌+◌, ◌*◌, sym, ap, ◌∙◌, Some, ne_eqb}
use Rattle.std.specs.Option.{option_map}
use Rattle.std.proofs.lemmas.List.{append-nil}
use Rattle.class_expect.specs.SerialSwitch.Switching.{Split, Plain, input_of, given_of, given_by, selected, selected_next, ended, split_of}
use Rattle.class_expect.specs.SerialSwitch.Standing.{digits_and_number, kept_of}
use Rattle.class_expect.proofs.SerialSwitch.Steps.{opens, plain, continues, ends, selected-append, given_of-append}
use Rattle.class_expect.proofs.serial_switch.switch.Switch.step.Goals as goal

pub returns-in-None-clause-after : goal.returns-in-None-clause-after
returns-in-None-clause-after c = λ n input h.
    let e = opens input c.args.byte (sym (ap (option_map digits_and_number) c.in-None.is) ∙ h.opened) c.if-byte-eq-ESCAPE.true in
    record { clients = h.clients; chosen = h.chosen ∙ sym (ap (λ (s : Split). selected n s.pieces) e); opened = sym (ap (λ (s : Split). kept_of s.rest) e) }

pub returns-in-None-clause-given : goal.returns-in-None-clause-given
returns-in-None-clause-given c = λ n input h client.
    let e = opens input c.args.byte (sym (ap (option_map digits_and_number) c.in-None.is) ∙ h.opened) c.if-byte-eq-ESCAPE.true in
    ap (λ (s : Split). given_of n client s.pieces) e ∙ sym (append-nil _)

pub returns-in-None-2-clause-after : goal.returns-in-None-2-clause-after
returns-in-None-2-clause-after c = λ n input h.
    let e = plain input c.args.byte (sym (ap (option_map digits_and_number) c.in-None.is) ∙ h.opened) (ne_eqb c.args.byte 28 c.if-byte-eq-ESCAPE.false) in
    record { clients = h.clients; chosen = h.chosen ∙ sym (ap (λ (s : Split). selected n s.pieces) e ∙ selected-append n (split_of input).pieces (Plain c.args.byte)); opened = ap (option_map digits_and_number) c.in-None.is ∙ sym (ap (λ (s : Split). kept_of s.rest) e) }

pub returns-in-None-2-clause-given : goal.returns-in-None-2-clause-given
returns-in-None-2-clause-given c = λ n input h client.
    let e = plain input c.args.byte (sym (ap (option_map digits_and_number) c.in-None.is) ∙ h.opened) (ne_eqb c.args.byte 28 c.if-byte-eq-ESCAPE.false) in
    ap (λ (s : Split). given_of n client s.pieces) e ∙ (given_of-append n client (split_of input).pieces (Plain c.args.byte) ∙ ap (λ k. input_of n client input ++ given_by k client (Plain c.args.byte)) (sym h.chosen))

pub returns-then-is_next_digit-clause-after : goal.returns-then-is_next_digit-clause-after
returns-then-is_next_digit-clause-after c = λ n input h.
    let e = continues input c.args.byte c.in-Some.selection.digits c.in-Some.selection.number (sym (ap (option_map digits_and_number) c.in-Some.is) ∙ h.opened) (sym c.is_next_digit.ensures ∙ c.if-is_next_digit.true) in
    record { clients = h.clients; chosen = h.chosen ∙ sym (ap (selected n) e.pieces); opened = ap (λ k. Some (c.in-Some.selection.digits + 1, 10 * c.in-Some.selection.number + k)) c.from.ensures ∙ sym e.kept }

pub returns-then-is_next_digit-clause-given : goal.returns-then-is_next_digit-clause-given
returns-then-is_next_digit-clause-given c = λ n input h client.
    let e = continues input c.args.byte c.in-Some.selection.digits c.in-Some.selection.number (sym (ap (option_map digits_and_number) c.in-Some.is) ∙ h.opened) (sym c.is_next_digit.ensures ∙ c.if-is_next_digit.true) in
    ap (given_of n client) e.pieces ∙ sym (append-nil _)

pub returns-else-is_next_digit-clause-after : goal.returns-else-is_next_digit-clause-after
returns-else-is_next_digit-clause-after c = λ n input h.
    let e = ends input c.args.byte c.in-Some.selection.digits c.in-Some.selection.number (sym (ap (option_map digits_and_number) c.in-Some.is) ∙ h.opened) (sym c.is_next_digit.ensures ∙ c.if-is_next_digit.false) in
    record {
      clients = c.end.ensures.clients ∙ h.clients;
      chosen = c.end.ensures.selects e.digits e.count e.number ∙ (ap (λ k. selected_next k c.args.self.now.selected (ended e.digits c.args.byte)) h.clients ∙ (ap (λ k. selected_next n k (ended e.digits c.args.byte)) h.chosen ∙ sym (ap (λ (s : Split). selected n s.pieces) e.split ∙ selected-append n (split_of input).pieces (ended e.digits c.args.byte))));
      opened = ap (option_map digits_and_number) c.end.ensures.opened ∙ sym (ap (λ (s : Split). kept_of s.rest) e.split);
    }

pub returns-else-is_next_digit-clause-given : goal.returns-else-is_next_digit-clause-given
returns-else-is_next_digit-clause-given c = λ n input h client.
    let e = ends input c.args.byte c.in-Some.selection.digits c.in-Some.selection.number (sym (ap (option_map digits_and_number) c.in-Some.is) ∙ h.opened) (sym c.is_next_digit.ensures ∙ c.if-is_next_digit.false) in
    ap (λ (s : Split). given_of n client s.pieces) e.split ∙ (given_of-append n client (split_of input).pieces (ended e.digits c.args.byte) ∙ ap (λ k. input_of n client input ++ k) (ap (λ k. given_by k client (ended e.digits c.args.byte)) (sym h.chosen) ∙ sym (c.end.ensures.gives e.digits e.count client)))
